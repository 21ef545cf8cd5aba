-- The requests after a change: those that were there, some of them answered now, and perhaps one more. Rests on Machine.
use Rattle.std.proofs.Common.{ℕ, ◌+◌, ◌-◌, ◌≤◌, ◌<◌, arith, ◌≡◌, refl, sym, ap, ◌∙◌, subst, true, None, Some, List, [], ◌∷◌, ◌++◌, eqb, length, get_or, set, length-append, length-set, get_or-set_same, get_or-set_other, eq-eqb, ne_eqb, ◌⊎◌, inl, inr}
use Rattle.std.proofs.Math.Decide.{ℕ_discrete, dec_lt}
use Rattle.std.proofs.Math.ListN.{get_or-append}
use Rattle.std.proofs.Math.Seq.{get_or_at}
use Rattle.std.proofs.lemmas.Bool.{eqb-false}
use Rattle.prelude.specs.Laws.Below.{first_some, first_elim, first_hit, first_ext, First}
use Rattle.prelude.specs.Laws.Cases.{split_if, clash, if_true, if_false}
use Rattle.prelude.specs.Texts.{same_text}
use Rattle.prelude.specs.declared.Text.{Text}
use Rattle.store.specs.declared.Request.{Request}
use Rattle.store.specs.Book.{Book, request_in, answered}
use Rattle.store.specs.Requests.{no_request}
use Rattle.machine.specs.Changes.{is_answered}
use Rattle.store.specs.Finds.{find_downstream}
use Rattle.machine.specs.Machine.{answer_link, requests_after, after}
use Rattle.machine.specs.declared.Change.{Change}
use Rattle.machine.proofs.Claim.Walk.{found_request, found_text}

-- the same request, perhaps answered now
pub record Like (q q' : Request) : Type 0 where
  pub kind : q'.kind ≡ q.kind
  pub order : q'.order ≡ q.order
  pub text : q'.downstream ≡ q.downstream
  pub answered : is_answered q ≡ true → is_answered q' ≡ true

like_self : (q : Request) → Like q q
like_self q = record { kind = refl; order = refl; text = refl; answered = λ a. a }

like_trans : (p q r : Request) → Like p q → Like q r → Like p r
like_trans p q r k l = record { kind = l.kind ∙ k.kind; order = l.order ∙ k.order; text = l.text ∙ k.text; answered = λ a. l.answered (k.answered a) }

like_answered : (v : ℕ) (q : Request) → Like q (answered v q)
unfolding is_answered
like_answered v q = record { kind = refl; order = refl; text = refl; answered = λ a. refl }

now_answered : (v : ℕ) (q : Request) → is_answered (answered v q) ≡ true
unfolding is_answered
now_answered v q = refl

-- ---- one link answered

module _ (k v : ℕ) (qs : List Request) where
  link_length : length (answer_link k v qs) ≡ length qs
  unfolding answer_link
  link_length = split_if (λ (l : List Request). length l ≡ length qs) (eqb k 0) (λ e. refl) (λ e. length-set qs (k - 1) _)

  link_other : (j : ℕ) → (k ≡ j + 1 → ⊥) → get_or (answer_link k v qs) j no_request ≡ get_or qs j no_request
  unfolding answer_link
  link_other j n =
      split_if (λ (l : List Request). get_or l j no_request ≡ get_or qs j no_request) (eqb k 0) (λ e. refl)
      (λ e. get_or-set_other qs (k - 1) j _ no_request (λ z. let w : (k ≡ 0 → ⊥) = eqb-false k 0 e in n (omega arith)))

  link_at : (j : ℕ) → j < length qs → k ≡ j + 1 → get_or (answer_link k v qs) j no_request ≡ answered v (get_or qs j no_request)
  unfolding answer_link
  link_at j l e =
      let z : k - 1 ≡ j = omega arith in
      ap (λ (x : List Request). get_or x j no_request) (if_false (eqb k 0) qs _ (ne_eqb k 0 (λ w. omega arith)))
      ∙ ap (λ (i : ℕ). get_or (set qs i (answered v (get_or qs i no_request))) j no_request) z
      ∙ get_or-set_same qs j _ no_request l

  link_like : (j : ℕ) → j < length qs → Like (get_or qs j no_request) (get_or (answer_link k v qs) j no_request)
  link_like j l = go (ℕ_discrete k (j + 1))
    where
      go : Dec (k ≡ j + 1) → Like (get_or qs j no_request) (get_or (answer_link k v qs) j no_request)
      go (yes e) = subst (Like (get_or qs j no_request)) (sym (link_at j l e)) (like_answered v (get_or qs j no_request))
      go (no n) = subst (Like (get_or qs j no_request)) (sym (link_other j n)) (like_self (get_or qs j no_request))

-- ---- the table

module _ (b : Book) (c : Change) where
  abbrev v : ℕ
  v = c.requests.outcome

  settled : List Request
  settled = answer_link c.requests.superseded v (answer_link c.requests.answered v b.requests)

  settled_length : length settled ≡ length b.requests
  unfolding settled
  settled_length = link_length c.requests.superseded v _ ∙ link_length c.requests.answered v b.requests

  settled_like : (k : ℕ) → k < length b.requests → Like (request_in b k) (get_or settled k no_request)
  unfolding settled
  settled_like k l =
      like_trans _ _ _ (link_like c.requests.answered v b.requests k l)
      (link_like c.requests.superseded v (answer_link c.requests.answered v b.requests) k (omega (arith, link_length c.requests.answered v b.requests)))

  settled_other : (k : ℕ) → (c.requests.answered ≡ k + 1 → ⊥) → (c.requests.superseded ≡ k + 1 → ⊥) → get_or settled k no_request ≡ request_in b k
  unfolding settled
  settled_other k n m = link_other c.requests.superseded v _ k m ∙ link_other c.requests.answered v b.requests k n

  settled_at : (k : ℕ) → k < length b.requests → c.requests.answered ≡ k + 1 → is_answered (get_or settled k no_request) ≡ true
  unfolding settled
  settled_at k l e =
      (link_like c.requests.superseded v (answer_link c.requests.answered v b.requests) k (omega (arith, link_length c.requests.answered v b.requests))).answered
      (ap is_answered (link_at c.requests.answered v b.requests k l e) ∙ now_answered v (request_in b k))

  none_added : c.requests.added ≡ 0 → (after b c).requests ≡ settled
  unfolding after requests_after settled
  none_added e = if_true _ _ _ (eq-eqb c.requests.added 0 e)

  one_added : (c.requests.added ≡ 0 → ⊥) → (after b c).requests ≡ settled ++ (c.requests.request ∷ [])
  unfolding after requests_after settled
  one_added e = if_false _ _ _ (ne_eqb c.requests.added 0 e)

  -- a record that was there
  was_there : (k : ℕ) → k < length b.requests → request_in (after b c) k ≡ get_or settled k no_request
  was_there k l = go (ℕ_discrete c.requests.added 0)
    where
      go : Dec (c.requests.added ≡ 0) → request_in (after b c) k ≡ get_or settled k no_request
      go (yes e) = ap (λ (x : List Request). get_or x k no_request) (none_added e)
      go (no e) = ap (λ (x : List Request). get_or x k no_request) (one_added e) ∙ get_or-append settled (c.requests.request ∷ []) no_request k (omega (arith, settled_length))

  pub there_like : (k : ℕ) → k < length b.requests → Like (request_in b k) (request_in (after b c) k)
  there_like k l = subst (Like (request_in b k)) (sym (was_there k l)) (settled_like k l)

  pub there_other : (k : ℕ) → k < length b.requests → (c.requests.answered ≡ k + 1 → ⊥) → (c.requests.superseded ≡ k + 1 → ⊥) → request_in (after b c) k ≡ request_in b k
  there_other k l n m = was_there k l ∙ settled_other k n m

  pub there_answered : (k : ℕ) → k < length b.requests → c.requests.answered ≡ k + 1 → is_answered (request_in (after b c) k) ≡ true
  there_answered k l e = ap is_answered (was_there k l) ∙ settled_at k l e

  pub longer : length b.requests ≤ length (after b c).requests
  longer = go (ℕ_discrete c.requests.added 0)
    where
      go : Dec (c.requests.added ≡ 0) → length b.requests ≤ length (after b c).requests
      go (yes e) = omega (arith, ap length (none_added e), settled_length)
      go (no e) = omega (arith, ap length (one_added e), length-append settled (c.requests.request ∷ []), settled_length)

  pub added_long : (c.requests.added ≡ 0 → ⊥) → length (after b c).requests ≡ length b.requests + 1
  added_long e = ap length (one_added e) ∙ length-append settled (c.requests.request ∷ []) ∙ ap (λ (n : ℕ). n + 1) settled_length

  pub none_kept : c.requests.added ≡ 0 → length (after b c).requests ≡ length b.requests
  none_kept e = ap length (none_added e) ∙ settled_length

  pub added_at : (c.requests.added ≡ 0 → ⊥) → request_in (after b c) (length b.requests) ≡ c.requests.request
  added_at e = ap (λ (x : List Request). get_or x (length b.requests) no_request) (one_added e) ∙ get_or_at settled c.requests.request [] no_request (length b.requests) settled_length

  -- what is added is the order's that the change names
  pub added_own : (i : ℕ) → (c.requests.added ≡ 0) ⊎ (c.requests.request.order ≡ i) → (k : ℕ) → length b.requests ≤ k → k < length (after b c).requests → (request_in (after b c) k).order ≡ i
  added_own i w k l u = go (ℕ_discrete c.requests.added 0) w
    where
      go : Dec (c.requests.added ≡ 0) → (c.requests.added ≡ 0) ⊎ (c.requests.request.order ≡ i) → (request_in (after b c) k).order ≡ i
      go (yes x) d = absurd (omega (arith, none_kept x))
      go (no x) (inl y) = absurd (x y)
      go (no x) (inr y) =
          let at_end : k ≡ length b.requests = omega (arith, added_long x) in
          ap (λ (m : ℕ). (request_in (after b c) m).order) at_end ∙ ap (λ (q : Request). q.order) (added_at x) ∙ y

  text_at : (k : ℕ) (d : Text) → k < length b.requests → same_text (request_in (after b c) k).downstream d ≡ same_text (request_in b k).downstream d
  text_at k d l = ap (λ (t : Text). same_text t d) (there_like k l).text

  -- ---- lookups

  pub find_stays : (d : Text) (k : ℕ) → find_downstream b d ≡ Some k → find_downstream (after b c) d ≡ Some k
  unfolding find_downstream
  find_stays d k h =
      let f : First (λ j. same_text (request_in b j).downstream d) (length b.requests) k = first_some _ _ k h in
      let l = f.below in
      first_hit (λ j. same_text (request_in (after b c) j).downstream d) (length (after b c).requests) k (omega (arith, longer))
      (first_ext (λ j. same_text (request_in (after b c) j).downstream d) (λ j. same_text (request_in b j).downstream d) k (λ j m. text_at j d (omega arith)) ∙ f.least)
      (text_at k d l ∙ f.passes)

  -- a record that is found only now is the one that was added
  pub record New (d : Text) (k : ℕ) : Type 0 where
    pub adds : c.requests.added ≡ 0 → ⊥
    pub at : k ≡ length b.requests
    pub same : same_text c.requests.request.downstream d ≡ true

  pub find_new : (d : Text) (k : ℕ) → find_downstream (after b c) d ≡ Some k → find_downstream b d ≡ None → New d k
  find_new d k h w = go (dec_lt k (length b.requests))
    where
      t : same_text (request_in (after b c) k).downstream d ≡ true
      t = found_text (after b c) d k h

      go : Dec (k < length b.requests) → New d k
      go (yes l) = unfold find_downstream in clash _ (sym (text_at k d l) ∙ t) (first_elim (λ j. same_text (request_in b j).downstream d) (length b.requests) w k l)
      go (no l) =
          let u : k < length (after b c).requests = found_request (after b c) d k h in
          let n : (c.requests.added ≡ 0 → ⊥) = (λ e. let z = ap length (none_added e) in omega (arith, settled_length)) in
          let z : k ≡ length b.requests = omega (arith, added_long n) in
          record { adds = n; at = z; same = subst (λ (q : Request). same_text q.downstream d ≡ true) (ap (λ (j : ℕ). request_in (after b c) j) z ∙ added_at n) t }

  -- the record that was added is found by its text, if no request had it
  pub find_added : (c.requests.added ≡ 0 → ⊥) → (d : Text) → same_text c.requests.request.downstream d ≡ true → find_downstream b d ≡ None
      → find_downstream (after b c) d ≡ Some (length b.requests)
  unfolding find_downstream
  find_added e d s w =
      first_hit (λ j. same_text (request_in (after b c) j).downstream d) (length (after b c).requests) (length b.requests) (omega (arith, added_long e))
      (first_ext (λ j. same_text (request_in (after b c) j).downstream d) (λ j. same_text (request_in b j).downstream d) (length b.requests) (λ j m. text_at j d m) ∙ w)
      (ap (λ (q : Request). same_text q.downstream d) (added_at e) ∙ s)
