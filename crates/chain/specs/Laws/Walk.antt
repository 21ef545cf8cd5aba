-- The chain by links: the request of a link is the one that the OrigClOrdID names, so that a walk by links is the chain, and each step goes to a request
-- numbered lower. Rests on index's laws of names and of links.
use Rattle.std.specs.Prelude.{ℕ, zero, suc, ◌+◌, ◌-◌, ◌≤◌, ◌<◌, ◌≡◌, refl, Bool, ◌&&◌, get_or, Option, None, Some, true, false, not, List, [], ◌∷◌, eqb, leb, length}
use Rattle.std.proofs.Common.{not-suc-le-zero, ◌∙◌, arith, sym, ap, subst, eqb-true, ltb-true, leb-true, eq-eqb, ne_eqb, le-leb}
use Rattle.std.proofs.lemmas.Bool.{lt-leb, eqb-false, and_parts}
use Rattle.prelude.specs.Laws.Below.{all_elim}
use Rattle.prelude.specs.Cases.{if◌then◌otherwise◌, maybe}
use Rattle.prelude.specs.Laws.Cases.{if_true, if_false, split_if, split_maybe, maybe_none, maybe_some, none_some}
use Rattle.prelude.specs.Texts.{text_of, same_text}
use Rattle.prelude.specs.Laws.Texts.{same_length}
use Rattle.store.specs.declared.Request.{Request}
use Rattle.store.specs.Book.{Book, book_of, order_in, request_in, request_count, origin_at}
use Rattle.store.specs.Finds.{has_clordid, find_clordid}
use Rattle.store.specs.Layout.{book_size, request_base, request·origclordid}
use Rattle.store.specs.Laws.Fields.{request_origclordid}
use Rattle.store.specs.Laws.Stored.{length_requests, request_in_lem}
use Rattle.machine.specs.Orders.{is_empty}
use Rattle.machine.specs.Rules.{client_of}
use Rattle.machine.proofs.Kept.Indexed.{BookKept, book_kept}
use Rattle.index.specs.Index.{link_right, links_right}
use Rattle.rules.specs.Keeps.{keeps_of}
use Rattle.rules.specs.Laws.Keeps.{keeps_held, keeps_links}
use Rattle.chain.specs.Chain.{chain_from, called_by, chain_of}
use Rattle.index.specs.Laws.Named.{Bears, found_bears, empty_none, bears_found}
use Rattle.index.specs.Laws.Links.{Lower, link_lower}

-- the request that the OrigClOrdID of request k names, by its link
unfoldable pub earlier : List ℕ → ℕ → Option ℕ
earlier b k = if is_empty (request_in (book_of b) k).origclordid then None otherwise Some (origin_at b k - 1)

-- the walk back from request k, in at most so many entries
unfoldable pub back : List ℕ → (most k : ℕ) → List ℕ
back b zero k = []
back b (suc n) k = k ∷ maybe [] (back b n) (earlier b k)

-- the whole walk: a request has at most its index before it
unfoldable pub walk : List ℕ → (k : ℕ) → List ℕ
walk b k = back b (suc k) k

-- what a link is
pub record Step (x : Book) (k j : ℕ) : Type 0 where
  pub lower : j < k
  pub order : (request_in x j).order ≡ (request_in x k).order
  pub same : same_text (request_in x j).clordid (request_in x k).origclordid ≡ true
  pub named : has_clordid (request_in x j) ≡ true

module _ (b : List ℕ) (keeps : keeps_of b ≡ true) where
  abbrev x : Book
  x = book_of b

  pub kept_long : length b ≡ book_size
  kept_long = (keeps_held b keeps).long

  good : BookKept x
  good = book_kept x (keeps_held b keeps).rules

  lower_step : (k j : ℕ) → is_empty (request_in x k).origclordid ≡ false → Lower x k j → Step x k j
  lower_step k j e l = record {
    lower = l.below;
    order = l.order;
    same = l.text;
    named = ap not (ap (λ (n : ℕ). eqb n 0) (same_length (request_in x j).clordid (request_in x k).origclordid l.text) ∙ e);
  }

  -- the link of a request with an OrigClOrdID
  link_rule : (k : ℕ) → k < request_count b → is_empty (request_in x k).origclordid ≡ false → (0 < origin_at b k) × Step x k (origin_at b k - 1)
  link_rule k h e =
      let used : k < length x.requests = omega (arith, length_requests b) in
      let (above, l) =
      link_lower b (λ j z. (good.request j z).order) good.keys k used e (good.request k used).origin (all_elim (link_right b) (request_count b) (unfold links_right in keeps_links b keeps) k h) in
      (above, lower_step k (origin_at b k - 1) e l)

  link_step : (k : ℕ) → k < request_count b → is_empty (request_in x k).origclordid ≡ false → Step x k (origin_at b k - 1)
  link_step k h e = (link_rule k h e).1

  pub step_back : (k j : ℕ) → k < request_count b → earlier b k ≡ Some j → Step x k j
  unfolding earlier
  step_back k j h = go (is_empty (request_in x k).origclordid) refl
    where
      go : (t : Bool) → is_empty (request_in x k).origclordid ≡ t → (if is_empty (request_in x k).origclordid then None otherwise Some (origin_at b k - 1)) ≡ Some j → Step x k j
      go true e s = let z : None ≡ Some j = sym (if_true _ _ _ e) ∙ s in absurd (let w : ◌≡◌ {A = ℕ} 0 1 = cc in omega arith)
      go false e s =
          let z : Some (origin_at b k - 1) ≡ Some j = sym (if_false _ _ _ e) ∙ s in
          let w : origin_at b k - 1 ≡ j = cc in
          subst (Step x k) w (link_step k h e)

  -- ---- the walk is the chain

  chain_none : (client n : ℕ) → chain_from x client n None ≡ []
  unfolding chain_from
  chain_none client zero = refl
  chain_none client (suc n) = refl

  -- what the OrigClOrdID of a client's request names
  pub named_back : (client k : ℕ) → k < request_count b → client_of x k ≡ client → find_clordid x client (request_in x k).origclordid ≡ earlier b k
  unfolding earlier
  named_back client k h c = go (is_empty (request_in x k).origclordid) refl
    where
      go : (t : Bool) → is_empty (request_in x k).origclordid ≡ t
          → find_clordid x client (request_in x k).origclordid ≡ (if is_empty (request_in x k).origclordid then None otherwise Some (origin_at b k - 1))
      go true e = empty_none x client (request_in x k).origclordid e ∙ sym (if_true _ _ _ e)
      go false e =
          let s : Step x k (origin_at b k - 1) = link_step k h e in
          let l : origin_at b k - 1 < length x.requests = omega (arith, s.lower, length_requests b) in
          bears_found x client (request_in x k).origclordid good.keys (origin_at b k - 1)
          (record {
            used = l;
            named = s.named;
            same = s.same;
            booked = (good.request (origin_at b k - 1) l).order;
            whose = ap (λ (i : ℕ). (order_in x i).client) s.order ∙ c;
          })
          ∙ sym (if_false _ _ _ e)

  pub chain_back : (client n k : ℕ) → k < request_count b → client_of x k ≡ client → chain_from x client n (Some k) ≡ back b n k
  unfolding chain_from back
  chain_back client zero k h c = refl
  chain_back client (suc n) k h c =
      ap (λ (l : List ℕ). k ∷ l) (ap (chain_from x client n) (named_back client k h c) ∙ go (λ j u d. chain_back client n j u d) (earlier b k) refl)
    where
      go : ((j : ℕ) → j < request_count b → client_of x j ≡ client → chain_from x client n (Some j) ≡ back b n j)
          → (v : Option ℕ) → earlier b k ≡ v → chain_from x client n v ≡ maybe [] (back b n) v
      go again None e = chain_none client n ∙ sym (maybe_none _ _ _ refl)
      go again (Some j) e =
          let s : Step x k j = step_back k j h e in
          again j (omega (arith, s.lower)) (ap (λ (i : ℕ). (order_in x i).client) s.order ∙ c) ∙ sym (maybe_some _ j [] (back b n) refl)

  -- any number of entries above k is enough
  pub back_enough : (n m k : ℕ) → k < n → k < m → k < request_count b → back b n k ≡ back b m k
  unfolding back
  back_enough zero m k h l u = absurd (not-suc-le-zero h)
  back_enough (suc n) zero k h l u = absurd (not-suc-le-zero l)
  back_enough (suc n) (suc m) k h l u = ap (λ (r : List ℕ). k ∷ r) (go (λ j p q r. back_enough n m j p q r) (earlier b k) refl)
    where
      go : ((j : ℕ) → j < n → j < m → j < request_count b → back b n j ≡ back b m j) → (v : Option ℕ) → earlier b k ≡ v → maybe [] (back b n) v ≡ maybe [] (back b m) v
      go again None e = maybe_none _ _ _ refl ∙ sym (maybe_none _ _ _ refl)
      go again (Some j) e =
          let s : Step x k j = step_back k j u e in
          maybe_some _ j [] (back b n) refl ∙ again j (omega (arith, s.lower)) (omega (arith, s.lower)) (omega (arith, s.lower)) ∙ sym (maybe_some _ j [] (back b m) refl)

  -- ---- the walk as the code goes it

  module _ (k : ℕ) (h : k < request_count b) where
    empty_at : is_empty (request_in x k).origclordid ≡ eqb (get_or b (request_base k + request·origclordid + 32) 0) 0
    empty_at = ap (λ (q : Request). is_empty q.origclordid) (request_in_lem b k h) ∙ ap is_empty (request_origclordid b k)

    pub earlier_none : get_or b (request_base k + request·origclordid + 32) 0 ≡ 0 → earlier b k ≡ None
    unfolding earlier
    earlier_none z = if_true _ _ _ (empty_at ∙ eq-eqb _ _ z)

    module _ (n : get_or b (request_base k + request·origclordid + 32) 0 ≡ 0 → ⊥) where
      pub link_above : 0 < origin_at b k
      link_above = (link_rule k h (empty_at ∙ ne_eqb _ _ n)).0

      pub earlier_some : earlier b k ≡ Some (origin_at b k - 1)
      unfolding earlier
      earlier_some = if_false _ _ _ (empty_at ∙ ne_eqb _ _ n)

    pub walk_end : earlier b k ≡ None → walk b k ≡ k ∷ []
    unfolding walk back
    walk_end e = ap (λ (l : List ℕ). k ∷ l) (maybe_none (earlier b k) [] (back b k) e)

    pub walk_more : (j : ℕ) → earlier b k ≡ Some j → walk b k ≡ k ∷ walk b j
    unfolding walk back
    walk_more j e =
        let s : Step x k j = step_back k j h e in
        ap (λ (l : List ℕ). k ∷ l) (maybe_some (earlier b k) j [] (back b k) e ∙ back_enough k (suc j) j s.lower (omega arith) (omega (arith, s.lower)))

  back_most : (n k : ℕ) → length (back b n k) ≤ n
  unfolding back
  back_most zero k = omega arith
  back_most (suc n) k = split_maybe (λ (l : List ℕ). suc (length l) ≤ suc n) (earlier b k) (λ e. omega arith) (λ j e. omega (arith, back_most n j))

  pub walk_some : (k : ℕ) → 0 < length (walk b k)
  unfolding walk back
  walk_some k = omega arith

  pub walk_most : (k : ℕ) → length (walk b k) ≤ k + 1
  unfolding walk
  walk_most k = omega (arith, back_most (suc k) k)

  -- what a name calls is found under its text
  pub called_found : (client : ℕ) (name : List ℕ) (k : ℕ) → called_by x client name ≡ Some k → (length name ≤ 32) × (find_clordid x client (text_of name) ≡ Some k)
  unfolding called_by
  called_found client name k =
      split_if (λ (v : Option ℕ). v ≡ Some k → (length name ≤ 32) × (find_clordid x client (text_of name) ≡ Some k)) (leb 1 (length name) && leb (length name) 32)
      (λ t z. (leb-true _ _ (and_parts (leb 1 (length name)) (leb (length name) 32) t).1, z)) (λ t z. none_some refl z)

  -- THE CHAIN is the walk from the request that is called
  pub chain_walk : (client : ℕ) (name : List ℕ) (k : ℕ) → called_by x client name ≡ Some k → (k < request_count b) × (chain_of x client name ≡ walk b k)
  unfolding chain_of walk
  chain_walk client name k e =
      let h : Bears x client (text_of name) k = found_bears x client (text_of name) k (called_found client name k e).1 in
      let l : k < request_count b = omega (arith, h.used, length_requests b) in
      (l, ap (chain_from x client (length x.requests)) e ∙ chain_back client (length x.requests) k l h.whose ∙ back_enough (length x.requests) (suc k) k h.used (omega arith) l)

  pub chain_empty : (client : ℕ) (name : List ℕ) → called_by x client name ≡ None → chain_of x client name ≡ []
  unfolding chain_of
  chain_empty client name e = ap (chain_from x client (length x.requests)) e ∙ chain_none client (length x.requests)

-- ---- for the tactics of functions: the link as it is read, and a step of the walk
pub ruleset linked = (kept_long, earlier_none, earlier_some, link_above)

pub ruleset walked = (step_back, walk_end, walk_more, walk_most)

-- and a name's length
pub ruleset named = (if_true, if_false, eqb-true, eqb-false, le-leb, lt-leb)
