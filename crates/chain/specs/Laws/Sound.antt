-- The promises of the chain. Rests on Walk.
use Rattle.std.specs.Prelude.{ℕ, zero, suc, ◌+◌, ◌-◌, ◌≤◌, ◌<◌, ◌≡◌, ◌&&◌, ◌||◌, eqb, leb, get_or, Option, None, Some, refl, Bool, true, false, not, List, [], ◌∷◌, length}
use Rattle.std.proofs.Common.{not-suc-le-zero, sym, ap, ◌∙◌, length-take, arith, subst, eqb-true, eq-eqb, ne_eqb, leb-true, le-leb}
use Rattle.std.proofs.Math.Decide.{dec_le}
use Rattle.std.proofs.lemmas.Bool.{eqb-false, and_parts, and_from, or_from, not-true}
use Rattle.prelude.specs.Below.{count_below}
use Rattle.prelude.specs.Laws.Below.{count_hit}
use Rattle.prelude.specs.Cases.{if◌then◌otherwise◌, maybe}
use Rattle.prelude.specs.Laws.Cases.{if_true, if_false, maybe_none, maybe_some, none_some}
use Rattle.prelude.specs.Laws.Span.{length_span}
use Rattle.prelude.specs.Texts.{contents, text_of, same_text, is_text}
use Rattle.prelude.specs.Laws.Texts.{same_text_lem, same_self, long_text, contents_text}
use Rattle.prelude.specs.declared.Text.{Text}
use Rattle.store.specs.Layout.{request_base, request·clordid, request·origclordid}
use Rattle.store.specs.declared.Request.{Request}
use Rattle.store.specs.Book.{Book, book_of, order_in, request_in, request_count, origin_at}
use Rattle.store.specs.Finds.{has_clordid}
use Rattle.store.specs.Laws.Fields.{request_clordid, request_origclordid}
use Rattle.store.specs.Laws.Stored.{length_requests, request_in_lem}
use Rattle.machine.specs.Orders.{is_empty}
use Rattle.machine.specs.Changes.{is_first, is_gateway}
use Rattle.machine.specs.Ranges.{text_within}
use Rattle.machine.specs.Rules.{of_order, number_in, amendments_rule}
use Rattle.machine.proofs.Kept.Indexed.{BookKept, RangeKept, book_kept, range_kept}
use Rattle.machine.proofs.Kept.Consequences.{numbers_rise}
use Rattle.rules.specs.Keeps.{keeps_of}
use Rattle.rules.specs.Laws.Keeps.{keeps_held}
use Rattle.chain.specs.Chain.{chain_of, called_by}
use Rattle.chain.specs.Promise.{IsStep, Uses, IsChain, SoundChain}
use Rattle.index.specs.Laws.Named.{Bears, found_bears, bears_found}
use Rattle.chain.specs.Laws.Walk.{earlier, back, walk, Step, step_back, walk_end, walk_more, chain_walk, chain_empty, called_found}
use Rattle.chain.specs.Laws.Entries.{name_whole}

-- ---- lists of requests

abbrev last_of : List ℕ → ℕ
last_of ks = get_or ks (length ks - 1) 0

last_more : (k : ℕ) (ks : List ℕ) → 0 < length ks → last_of (k ∷ ks) ≡ last_of ks
last_more k [] h = absurd (omega arith)
last_more k (j ∷ ks) h = let e : suc (suc (length ks)) - 1 ≡ suc (suc (length ks) - 1) = omega arith in ap (λ (n : ℕ). get_or (k ∷ j ∷ ks) n 0) e

abbrev Stepped : Book → List ℕ → Type 0
Stepped x ks = (i : ℕ) → suc i < length ks → IsStep x (get_or ks i 0) (get_or ks (suc i) 0)

stepped_more : (x : Book) (k : ℕ) (ks : List ℕ) → (0 < length ks → IsStep x k (get_or ks 0 0)) → Stepped x ks → Stepped x (k ∷ ks)
stepped_more x k ks s r zero h = s (omega arith)
stepped_more x k ks s r (suc i) h = r i (omega arith)

-- one that passes counts for those behind it
count_rises : (p : ℕ → Bool) (n m : ℕ) → n ≤ m → count_below p n ≤ count_below p m
unfolding count_below
count_rises p n zero h = let e : n ≡ 0 = omega arith in subst (λ (i : ℕ). count_below p i ≤ 0) (sym e) (omega arith)
count_rises p n (suc m) h = go (λ l. count_rises p n m l) (dec_le n m)
  where
    go : (n ≤ m → count_below p n ≤ count_below p m) → Dec (n ≤ m) → count_below p n ≤ count_below p m + (if p m then 1 otherwise 0)
    go again (yes l) = omega (arith, again l)
    go again (no l) = let e : suc m ≡ n = omega arith in subst (λ (i : ℕ). count_below p i ≤ count_below p m + (if p m then 1 otherwise 0)) e (omega arith)

contents_most : (t : Text) → length (contents t) ≤ t.len
unfolding contents
contents_most t = simp length-take (omega arith)

contents_fit : (t : Text) → length t.bytes ≡ 32 → length (contents t) ≤ 32
unfolding contents
contents_fit t l = simp length-take (omega arith)

contents_some : (t : Text) → length t.bytes ≡ 32 → not (eqb t.len 0) ≡ true → 0 < length (contents t)
unfolding contents
contents_some t l e =
    let n : t.len ≡ 0 → ⊥ = eqb-false _ _ (not-true (eqb t.len 0) e) in
    simp length-take (omega arith)

-- a text of so many bytes
within : (t : Text) (low high : ℕ) → text_within low high t ≡ true → (low ≤ t.len) × (t.len ≤ high)
unfolding text_within
within t low high w =
    let p = and_parts (is_text t && leb low t.len) (leb t.len high) w in
    (leb-true _ _ (and_parts (is_text t) (leb low t.len) p.0).1, leb-true _ _ p.1)

-- a request in range with a ClOrdID and no OrigClOrdID is a first one
first_request : (q : Request) → RangeKept q → has_clordid q ≡ true → is_empty q.origclordid ≡ true → is_first q ≡ true
first_request q r c e = go (is_first q) (is_gateway q) refl refl
  where
    go : (f g : Bool) → is_first q ≡ f → is_gateway q ≡ g → is_first q ≡ true
    go true g s t = s
    go false true s t =
        let z : q.clordid.len ≤ 0 = (within q.clordid 0 0 (sym (if_true (is_gateway q) _ _ t) ∙ r.clordid)).1 in
        let n : q.clordid.len ≡ 0 → ⊥ = eqb-false _ _ (not-true (eqb q.clordid.len 0) c) in
        absurd (omega arith)
    go false false s t =
        let z : 1 ≤ q.origclordid.len = (within q.origclordid 1 32 (sym (if_false (is_first q || is_gateway q) _ _ (or_from _ _ s t)) ∙ r.origclordid)).0 in
        let n : q.origclordid.len ≡ 0 = eqb-true _ _ e in
        absurd (omega arith)

module _ (b : List ℕ) (keeps : keeps_of b ≡ true) where
  abbrev x : Book
  x = book_of b

  good : BookKept x
  good = book_kept x (keeps_held b keeps).rules

  used_here : (k : ℕ) → k < length x.requests → k < request_count b
  used_here k h = omega (arith, length_requests b)

  here_used : (k : ℕ) → k < request_count b → k < length x.requests
  here_used k h = omega (arith, length_requests b)

  clordid_long : (k : ℕ) → k < request_count b → length (request_in x k).clordid.bytes ≡ 32
  clordid_long k h =
      ap (λ (q : Request). length q.clordid.bytes) (request_in_lem b k h)
      ∙ ap (λ (t : Text). length t.bytes) (request_clordid b k)
      ∙ length_span b (request_base k + request·clordid) 32 (omega (arith, (keeps_held b keeps).long, (keeps_held b keeps).few_requests))

  origclordid_long : (k : ℕ) → k < request_count b → length (request_in x k).origclordid.bytes ≡ 32
  origclordid_long k h =
      ap (λ (q : Request). length q.origclordid.bytes) (request_in_lem b k h)
      ∙ ap (λ (t : Text). length t.bytes) (request_origclordid b k)
      ∙ length_span b (request_base k + request·origclordid) 32 (omega (arith, (keeps_held b keeps).long, (keeps_held b keeps).few_requests))

  -- ---- a step

  is_step : (k j : ℕ) → k < request_count b → Step x k j → IsStep x k j
  is_step k j h s = record {
    order = s.order;
    number = numbers_rise x good j k s.lower s.order;
    lower = s.lower;
    name = ap contents (same_text_lem (request_in x j).clordid (request_in x k).origclordid (clordid_long j (omega (arith, s.lower))) (origclordid_long k h) s.same);
  }

  back_head : (n k : ℕ) → 0 < n → get_or (back b n k) 0 0 ≡ k
  unfolding back
  back_head zero k h = absurd (not-suc-le-zero h)
  back_head (suc n) k h = refl

  back_some : (n k : ℕ) → 0 < n → 0 < length (back b n k)
  unfolding back
  back_some zero k h = absurd (not-suc-le-zero h)
  back_some (suc n) k h = omega arith

  -- a request without an OrigClOrdID that has a ClOrdID is its order's first
  is_first_lem : (k : ℕ) → k < request_count b → has_clordid (request_in x k) ≡ true → earlier b k ≡ None → is_first (request_in x k) ≡ true
  is_first_lem k h c e = first_request (request_in x k) (range_kept (request_in x k) (good.request k (here_used k h)).range) c (blank (is_empty (request_in x k).origclordid) refl (unfold earlier in e))
    where
      blank : (t : Bool) → is_empty (request_in x k).origclordid ≡ t → (if is_empty (request_in x k).origclordid then None otherwise Some (origin_at b k - 1)) ≡ None
          → is_empty (request_in x k).origclordid ≡ true
      blank true s z = s
      blank false s z = none_some z (if_false _ _ _ s)

  -- ---- along the walk

  back_steps : (n k : ℕ) → k < n → k < request_count b → Stepped x (back b n k)
  unfolding back
  back_steps zero k l h = absurd (not-suc-le-zero l)
  back_steps (suc n) k l h = go (λ j p q. back_steps n j p q) (earlier b k) refl
    where
      go : ((j : ℕ) → j < n → j < request_count b → Stepped x (back b n j)) → (v : Option ℕ) → earlier b k ≡ v → Stepped x (k ∷ maybe [] (back b n) v)
      go again None e = rw (maybe_none None [] (back b n) refl) (stepped_more x k [] (λ z. absurd (omega arith)) (λ i z. absurd (omega arith)))
      go again (Some j) e =
          let s : Step x k j = step_back b keeps k j h e in
          rw (maybe_some (Some j) j [] (back b n) refl)
          (stepped_more x k (back b n j) (λ z. subst (IsStep x k) (sym (back_head n j (omega (arith, s.lower)))) (is_step k j h s))
          (again j (omega (arith, s.lower)) (omega (arith, s.lower))))

  back_first : (n k : ℕ) → k < n → k < request_count b → has_clordid (request_in x k) ≡ true → is_first (request_in x (last_of (back b n k))) ≡ true
  unfolding back
  back_first zero k l h c = absurd (not-suc-le-zero l)
  back_first (suc n) k l h c = go (λ j p q d. back_first n j p q d) (earlier b k) refl
    where
      go : ((j : ℕ) → j < n → j < request_count b → has_clordid (request_in x j) ≡ true → is_first (request_in x (last_of (back b n j))) ≡ true)
          → (v : Option ℕ) → earlier b k ≡ v → is_first (request_in x (last_of (k ∷ maybe [] (back b n) v))) ≡ true
      go again None e = rw (maybe_none None [] (back b n) refl) (is_first_lem k h c e)
      go again (Some j) e =
          let s : Step x k j = step_back b keeps k j h e in
          rw (maybe_some (Some j) j [] (back b n) refl, last_more k (back b n j) (back_some n j (omega (arith, s.lower))))
          (again j (omega (arith, s.lower)) (omega (arith, s.lower)) s.named)

  back_few : (n k : ℕ) → k < n → k < request_count b → length (back b n k) ≤ number_in x.requests k + 1
  unfolding back
  back_few zero k l h = absurd (not-suc-le-zero l)
  back_few (suc n) k l h = go (λ j p q. back_few n j p q) (earlier b k) refl
    where
      go : ((j : ℕ) → j < n → j < request_count b → length (back b n j) ≤ number_in x.requests j + 1)
          → (v : Option ℕ) → earlier b k ≡ v → suc (length (maybe [] (back b n) v)) ≤ number_in x.requests k + 1
      go again None e = rw (maybe_none None [] (back b n) refl) (omega arith)
      go again (Some j) e =
          let s : Step x k j = step_back b keeps k j h e in
          rw (maybe_some (Some j) j [] (back b n) refl)
          (omega (arith, again j (omega (arith, s.lower)) (omega (arith, s.lower)), numbers_rise x good j k s.lower s.order))

  -- an order's requests are its amendments and one
  number_few : (k : ℕ) → k < length x.requests → number_in x.requests k ≤ (order_in x (request_in x k).order).links.amendments
  unfolding number_in amendments_rule
  number_few k h =
      let o : ℕ = (request_in x k).order in
      let p : ℕ → Bool = of_order x.requests o in
      let hit : count_below p (k + 1) ≡ count_below p k + 1 = count_hit p k (eq-eqb o o refl) in
      let all : count_below p (k + 1) ≤ count_below p (length x.requests) = count_rises p (k + 1) (length x.requests) (omega arith) in
      let is : (order_in x o).links.amendments + 1 ≡ count_below p (length x.requests) = eqb-true _ _ (good.order o (good.request k h).order).amendments in
      omega arith

  -- ---- the request that a name calls

  uses_bears : (client : ℕ) (name : List ℕ) (k : ℕ) → 0 < length name → Uses x client name k → Bears x client (text_of name) k
  uses_bears client name k l u =
      let h : k < request_count b = used_here k u.used in
      record {
        used = u.used;
        named = ap not (ne_eqb (request_in x k).clordid.len 0 filled);
        same = subst (λ (n : List ℕ). same_text (request_in x k).clordid (text_of n) ≡ true) u.called
            (subst (λ (t : Text). same_text (request_in x k).clordid t ≡ true) (sym (name_whole b keeps k h)) (same_self (request_in x k).clordid));
        booked = (good.request k u.used).order;
        whose = u.whose;
      }
    where
      filled : (request_in x k).clordid.len ≡ 0 → ⊥
      filled z =
          let e : length (contents (request_in x k).clordid) ≡ length name = ap length u.called in
          omega (arith, contents_most (request_in x k).clordid)

  short_name : (client : ℕ) (name : List ℕ) (k : ℕ) → Uses x client name k → length name ≤ 32
  short_name client name k u =
      let e : length (contents (request_in x k).clordid) ≡ length name = ap length u.called in
      omega (arith, contents_fit (request_in x k).clordid (clordid_long k (used_here k u.used)))

  called_at : (client : ℕ) (name : List ℕ) (k : ℕ) → 0 < length name → Uses x client name k → called_by x client name ≡ Some k
  unfolding called_by
  called_at client name k l u =
      if_true _ _ _ (and_from _ _ (le-leb 1 (length name) (omega arith)) (le-leb (length name) 32 (short_name client name k u)))
      ∙ bears_found x client (text_of name) good.keys k (uses_bears client name k l u)

  called_uses : (client : ℕ) (name : List ℕ) (k : ℕ) → called_by x client name ≡ Some k → Uses x client name k
  called_uses client name k e =
      let (short, f) = called_found b keeps client name k e in
      let h : Bears x client (text_of name) k = found_bears x client (text_of name) k f in
      record {
        used = h.used;
        whose = h.whose;
        called = ap contents (same_text_lem (request_in x k).clordid (text_of name) (clordid_long k (used_here k h.used)) (long_text name short) h.same) ∙ contents_text name short;
      }

  -- ---- the chain

  walk_chain : (client : ℕ) (name : List ℕ) (k : ℕ) → 0 < length name → Uses x client name k → IsChain x client name k (walk b k)
  unfolding walk
  walk_chain client name k l u =
      let h : k < request_count b = used_here k u.used in
      record {
        uses = u;
        some = back_some (suc k) k (omega arith);
        head = back_head (suc k) k (omega arith);
        steps = back_steps (suc k) k (omega arith) h;
        first = back_first (suc k) k (omega arith) h (uses_bears client name k l u).named;
        few = omega (arith, back_few (suc k) k (omega arith) h, number_few k u.used);
      }

  chain_used : (client : ℕ) (name : List ℕ) (k : ℕ) → 0 < length name → Uses x client name k → IsChain x client name k (chain_of x client name)
  chain_used client name k l u = subst (IsChain x client name k) (sym (chain_walk b keeps client name k (called_at client name k l u)).1) (walk_chain client name k l u)

  chain_unused : (client : ℕ) (name : List ℕ) → ((k : ℕ) → Uses x client name k → ⊥) → chain_of x client name ≡ []
  chain_unused client name never = go (called_by x client name) refl
    where
      go : (v : Option ℕ) → called_by x client name ≡ v → chain_of x client name ≡ []
      go None e = chain_empty b keeps client name e
      go (Some k) e = absurd (never k (called_uses client name k e))

  called_blank : (client : ℕ) → called_by x client [] ≡ None
  unfolding called_by
  called_blank client = if_false _ _ _ refl

  chain_blank : (client : ℕ) → chain_of x client [] ≡ []
  chain_blank client = chain_empty b keeps client [] (called_blank client)

  -- the second entry of a walk, and what is behind it
  walk_rest : (i k j : ℕ) (ks : List ℕ) → i < request_count b → walk b i ≡ k ∷ j ∷ ks → (earlier b i ≡ Some j) × (walk b j ≡ j ∷ ks)
  walk_rest i k j ks h e = go (earlier b i) refl
    where
      head : (n : ℕ) → walk b n ≡ n ∷ maybe [] (back b n) (earlier b n)
      head n = unfold walk back in refl

      go : (v : Option ℕ) → earlier b i ≡ v → (earlier b i ≡ Some j) × (walk b j ≡ j ∷ ks)
      go None s =
          let z : ◌≡◌ {A = List ℕ} (i ∷ []) (k ∷ j ∷ ks) = sym (walk_end b keeps i h s) ∙ e in
          let n : 1 ≡ suc (suc (length ks)) = ap length z in
          absurd (omega arith)
      go (Some m) s =
          let z : ◌≡◌ {A = List ℕ} (i ∷ walk b m) (k ∷ j ∷ ks) = sym (walk_more b keeps i h m s) ∙ e in
          let t : walk b m ≡ j ∷ ks = cc in
          let w : ◌≡◌ {A = List ℕ} (m ∷ maybe [] (back b m) (earlier b m)) (j ∷ ks) = sym (head m) ∙ t in
          let same : m ≡ j = cc in
          (s ∙ ap Some same, ap (walk b) (sym same) ∙ t)

  chain_rest : (client : ℕ) (name : List ℕ) (k j : ℕ) (ks : List ℕ) → chain_of x client name ≡ k ∷ j ∷ ks → chain_of x client (contents (request_in x j).clordid) ≡ j ∷ ks
  chain_rest client name k j ks e = go (called_by x client name) refl
    where
      go : (v : Option ℕ) → called_by x client name ≡ v → chain_of x client (contents (request_in x j).clordid) ≡ j ∷ ks
      go None c = let z : 0 ≡ suc (suc (length ks)) = ap length (sym (chain_empty b keeps client name c) ∙ e) in absurd (omega arith)
      go (Some i) c =
          let (h, w) = chain_walk b keeps client name i c in
          let (s, r) = walk_rest i k j ks h (sym w ∙ e) in
          let t : Step x i j = step_back b keeps i j h s in
          let u : Uses x client (contents (request_in x j).clordid) j =
          record { used = here_used j (omega (arith, t.lower)); whose = ap (λ (n : ℕ). (order_in x n).client) t.order ∙ (called_uses client name i c).whose; called = refl } in
          (chain_walk b keeps client (contents (request_in x j).clordid) j (called_at client (contents (request_in x j).clordid) j (contents_some (request_in x j).clordid (clordid_long j (omega (arith, t.lower))) t.named) u)).1 ∙ r

pub sound_chain : SoundChain
sound_chain b keeps = record {
  used = chain_used b keeps;
  rest = chain_rest b keeps;
  unused = chain_unused b keeps;
  empty = chain_blank b keeps;
}
