-- The part's numbers for links and places: no two become one, and in the part each order has the links that the numbers say. Rests on Part and parts' laws.
use Rattle.std.proofs.Common.{ℕ, ◌+◌, ◌-◌, ◌≤◌, ◌<◌, arith, ◌≡◌, refl, sym, ap, ◌∙◌, ◌⊎◌, inl, inr, ⊎_elim, Bool, true, false, ◌&&◌, ◌||◌, eqb, ltb, length, eqb-true, eq-eqb, ne_eqb, lt-ltb, ltb-true}
use Rattle.std.proofs.Math.Decide.{ℕ_discrete}
use Rattle.std.proofs.lemmas.Bool.{cases_Bool, or_cases, or_left, or_right, and_parts}
use Rattle.prelude.specs.Below.{count_below}
use Rattle.prelude.specs.Laws.Below.{count_le, count_none, count_ext}
use Rattle.prelude.specs.Laws.Cases.{if_true, if_false}
use Rattle.store.specs.Book.{Book, order_in, request_in}
use Rattle.machine.specs.Rules.{cancel_rule, current_rule, pending_rule, current_test, pending_test}
use Rattle.machine.specs.Changes.{is_cancel}
use Rattle.machine.proofs.Kept.Tables.{linked_at}
use Rattle.machine.proofs.Kept.Indexed.{BookKept}
use Rattle.parts.specs.Parts.{of_passing, moved_link, moved_order, named_along}
use Rattle.parts.specs.Laws.Ranks.{rank_injective}
use Rattle.parts.specs.Laws.Joined.{moved_none, moved_above}
use Rattle.quiet.specs.Renamed.{renamed_order}
use Rattle.parts.specs.Alike.{OwnLink}
use Rattle.quiet.specs.Part.{Owns, counted_link, stays_at, part_link, part_place, part_index}
use Rattle.quiet.proofs.Parts.{Renames}

pub injective_eqb : (g : ℕ → ℕ) → ((x y : ℕ) → g x ≡ g y → x ≡ y) → (x y : ℕ) → eqb (g x) (g y) ≡ eqb x y
injective_eqb g i x y = go (ℕ_discrete x y)
  where
    go : Dec (x ≡ y) → eqb (g x) (g y) ≡ eqb x y
    go (yes e) = eq-eqb (g x) (g y) (ap g e) ∙ sym (eq-eqb x y e)
    go (no n) = ne_eqb (g x) (g y) (λ z. n (i x y z)) ∙ sym (ne_eqb x y n)

-- ---- counted links

module _ (t : ℕ → Bool) (top : ℕ) (within : (j : ℕ) → t j ≡ true → j < top) where
  data View (l v : ℕ) : Type 0 where
    nothing : l ≡ 0 → v ≡ 0 → View l v
    counted : 0 < l → t (l - 1) ≡ true → v ≡ count_below t (l - 1) + 1 → View l v
    beyond : 0 < l → v ≡ top + l → View l v

  pub counted_none : counted_link t top 0 ≡ 0
  unfolding counted_link
  counted_none = if_true _ 0 _ refl

  pub counted_some : (l : ℕ) → 0 < l → t (l - 1) ≡ true → counted_link t top l ≡ count_below t (l - 1) + 1
  unfolding counted_link
  counted_some l h e = if_false (eqb l 0) 0 _ (ne_eqb l 0 (λ z. omega arith)) ∙ if_true (t (l - 1)) _ _ e

  counted_beyond : (l : ℕ) → 0 < l → t (l - 1) ≡ false → counted_link t top l ≡ top + l
  unfolding counted_link
  counted_beyond l h e = if_false (eqb l 0) 0 _ (ne_eqb l 0 (λ z. omega arith)) ∙ if_false (t (l - 1)) _ _ e

  view : (l : ℕ) → View l (counted_link t top l)
  view l = go (ℕ_discrete l 0) (cases_Bool (t (l - 1)))
    where
      go : Dec (l ≡ 0) → (t (l - 1) ≡ true) ⊎ (t (l - 1) ≡ false) → View l (counted_link t top l)
      go (yes z) c = nothing z (ap (counted_link t top) z ∙ counted_none)
      go (no z) (inl c) = counted (omega arith) c (counted_some l (omega arith) c)
      go (no z) (inr c) = beyond (omega arith) (counted_beyond l (omega arith) c)

  counted_injective : (x y : ℕ) → counted_link t top x ≡ counted_link t top y → x ≡ y
  counted_injective x y e = go (view x) (view y)
    where
      low : (l : ℕ) → 0 < l → t (l - 1) ≡ true → count_below t (l - 1) + 1 ≤ top
      low l h c = let w = within (l - 1) c in omega (arith, count_le t (l - 1))

      go : View x (counted_link t top x) → View y (counted_link t top y) → x ≡ y
      go (nothing a b) (nothing c d) = a ∙ sym c
      go (nothing a b) (counted c d f) = absurd (omega arith)
      go (nothing a b) (beyond c d) = absurd (omega arith)
      go (counted a b c) (nothing d f) = absurd (omega arith)
      go (counted a b c) (counted d f g) = let z : x - 1 ≡ y - 1 = rank_injective t (x - 1) (y - 1) b f (omega arith) in omega arith
      go (counted a b c) (beyond d f) = absurd (omega (arith, low x a b))
      go (beyond a b) (nothing d f) = absurd (omega arith)
      go (beyond a b) (counted d f g) = absurd (omega (arith, low y d f))
      go (beyond a b) (beyond d f) = omega arith

  pub counted_apart : (x y : ℕ) → eqb (counted_link t top x) (counted_link t top y) ≡ eqb x y
  counted_apart = injective_eqb (counted_link t top) counted_injective

-- ---- the part's numbers

module _ (p : ℕ → Bool) (b : Book) where
  stays_within : (j : ℕ) → stays_at p b j ≡ true → j < length b.requests + 1
  unfolding stays_at
  stays_within j e =
      ⊎_elim (λ z. let w : j ≡ length b.requests = eqb-true j (length b.requests) z in omega arith)
      (λ z. let w : j < length b.requests = ltb-true j (length b.requests) (and_parts (ltb j (length b.requests)) (of_passing p b j) z).0 in omega arith)
      (or_cases (eqb j (length b.requests)) _ e)

  stays_next : stays_at p b (length b.requests) ≡ true
  unfolding stays_at
  stays_next = or_left _ _ (eq-eqb (length b.requests) (length b.requests) refl)

  -- below the next one, those that pass stay
  pub stays_below : (j : ℕ) → j < length b.requests → stays_at p b j ≡ of_passing p b j
  unfolding stays_at
  stays_below j l =
      ap (λ (x : Bool). x || (ltb j (length b.requests) && of_passing p b j)) (ne_eqb j (length b.requests) (λ z. omega arith))
      ∙ ap (λ (x : Bool). x && of_passing p b j) (lt-ltb j (length b.requests) l)

  pub part_renames : Renames (part_link p b) (part_place p) (part_index p)
  part_renames = record {
    apart = counted_apart (stays_at p b) (length b.requests + 1) stays_within;
    none = counted_none (stays_at p b) (length b.requests + 1) stays_within;
    no_place = moved_none p 0;
    first = omega (arith, count_none p);
  }

  -- the number of an order goes with its link
  pub index_place : (l : ℕ) → part_index p (l - 1) ≡ part_place p l - 1
  index_place l = go (ℕ_discrete l 0)
    where
      go : Dec (l ≡ 0) → part_index p (l - 1) ≡ part_place p l - 1
      go (yes z) =
          let e : l - 1 ≡ 0 = omega arith in
          ap (part_index p) e ∙ (let y : 0 + count_below p 0 ≡ 0 - 1 = omega (arith, count_none p) in y) ∙ sym (ap (λ (k : ℕ). k - 1) (ap (part_place p) z ∙ moved_none p 0))
      go (no z) = (let y : 0 + count_below p (l - 1) ≡ (0 + count_below p (l - 1) + 1) - 1 = omega arith in y) ∙ sym (ap (λ (k : ℕ). k - 1) (moved_above p 0 l (omega arith)))

  pub count_stays : (j : ℕ) → j ≤ length b.requests → count_below (stays_at p b) j ≡ count_below (of_passing p b) j
  count_stays j l = count_ext (stays_at p b) (of_passing p b) j (λ k h. stays_below k (omega arith))

  -- the next request has the next link
  pub next_link_part : part_link p b (length b.requests + 1) ≡ count_below (of_passing p b) (length b.requests) + 1
  next_link_part =
      let z : length b.requests + 1 - 1 ≡ length b.requests = omega arith in
      counted_some (stays_at p b) (length b.requests + 1) stays_within (length b.requests + 1) (omega arith) (ap (stays_at p b) z ∙ stays_next)
      ∙ ap (λ (k : ℕ). count_below (stays_at p b) k + 1) z ∙ ap (λ (k : ℕ). k + 1) (count_stays (length b.requests) (omega arith))

  -- the link of a request that passes
  pub part_link_at : (j : ℕ) → j < length b.requests → of_passing p b j ≡ true → part_link p b (j + 1) ≡ count_below (of_passing p b) j + 1
  part_link_at j l e =
      let z : j + 1 - 1 ≡ j = omega arith in
      counted_some (stays_at p b) (length b.requests + 1) stays_within (j + 1) (omega arith) (ap (stays_at p b) z ∙ stays_below j l ∙ e)
      ∙ ap (λ (k : ℕ). count_below (stays_at p b) k + 1) z ∙ ap (λ (k : ℕ). k + 1) (count_stays j (omega arith))

  -- in b, or in a book with perhaps one more request: what an order's own link becomes
  module _ (c : Book) (orders : (k : ℕ) → k < length b.requests → (request_in c k).order ≡ (request_in b k).order)
      (most : length c.requests ≤ length b.requests + 1) (i : ℕ) (h : p i ≡ true) where
    passing_same : (k : ℕ) → k < length b.requests → stays_at p b k ≡ of_passing p c k
    passing_same k l = stays_below k l ∙ ap p (sym (orders k l))

    link_agrees : (l : ℕ) → OwnLink c i l → moved_link (of_passing p c) 0 l ≡ part_link p b l
    link_agrees l (inl z) =
        ap (moved_link (of_passing p c) 0) z ∙ moved_none (of_passing p c) 0
        ∙ sym (ap (part_link p b) z ∙ counted_none (stays_at p b) (length b.requests + 1) stays_within)
    link_agrees l (inr (a, w, o)) =
        moved_above (of_passing p c) 0 l a
        ∙ (let y : 0 + count_below (of_passing p c) (l - 1) + 1 ≡ count_below (of_passing p c) (l - 1) + 1 = omega arith in y)
        ∙ ap (λ (k : ℕ). k + 1) (sym (count_ext (stays_at p b) (of_passing p c) (l - 1) (λ k m. passing_same k (omega arith))))
        ∙ sym (counted_some (stays_at p b) (length b.requests + 1) stays_within l a (here (ℕ_discrete (l - 1) (length b.requests))))
      where
        here : Dec (l - 1 ≡ length b.requests) → stays_at p b (l - 1) ≡ true
        here (yes z) = ap (stays_at p b) z ∙ stays_next
        here (no z) = passing_same (l - 1) (omega arith) ∙ ap p o ∙ h

    pub named_same : OwnLink c i (order_in c i).gateway.origdownstream → named_along p c i ≡ (order_in c i).gateway.origdownstream
    unfolding named_along
    named_same (inl z) = if_true _ _ _ (or_left _ _ (eq-eqb _ 0 z))
    named_same (inr (a, w, o)) = if_true _ _ _ (or_right (eqb (order_in c i).gateway.origdownstream 0) _ (ap p o ∙ h))

    pub order_agrees : Owns c i (order_in c i) → moved_order p 0 c i ≡ renamed_order (part_link p b) (order_in c i)
    unfolding moved_order
    order_agrees w =
        let o = order_in c i in
        let l₁ = link_agrees o.links.current w.current in
        let l₂ = link_agrees o.links.cancel w.cancel in
        let l₃ = link_agrees o.pending.request w.pending in
        let l₄ : moved_link (of_passing p c) 0 (named_along p c i) ≡ part_link p b o.gateway.origdownstream =
        ap (moved_link (of_passing p c) 0) (named_same w.named) ∙ link_agrees o.gateway.origdownstream w.named in
        λ k. record {
          client = o.client;
          venue = o.venue;
          names = o.names;
          terms = o.terms;
          state = o.state;
          links = record { amendments = o.links.amendments; current = l₁ k; cancel = l₂ k };
          pending = record { request = l₃ k; qty = o.pending.qty; price = o.pending.price; ordtype = o.pending.ordtype; timeinforce = o.pending.timeinforce };
          gateway = record {
            tries = o.gateway.tries;
            unsent = o.gateway.unsent;
            stuck = o.gateway.stuck;
            origdownstream = l₄ k;
            refusedsends = o.gateway.refusedsends;
          };
        }

-- ---- what the rules say of an order's links

module _ (b : Book) (good : BookKept b) (i : ℕ) (h : i < length b.orders) where
  pub current_own : current_rule i (order_in b i) b.requests ≡ true → OwnLink b i (order_in b i).links.current
  unfolding current_rule
  current_own e = let k = linked_at (current_test (order_in b i).names.downstream) i (order_in b i).links.current b.requests e in inr (k.above, k.within, k.own)

  cancel_own : (l : ℕ) → cancel_rule i l b.requests ≡ true → OwnLink b i l
  unfolding cancel_rule
  cancel_own l e = ⊎_elim (λ z. inl (eqb-true l 0 z)) (λ z. let k = linked_at is_cancel i l b.requests z in inr (k.above, k.within, k.own)) (or_cases (eqb l 0) _ e)

  pending_own : (l : ℕ) → pending_rule i l b.requests ≡ true → OwnLink b i l
  unfolding pending_rule
  pending_own l e = ⊎_elim (λ z. inl (eqb-true l 0 z)) (λ z. let k = linked_at pending_test i l b.requests z in inr (k.above, k.within, k.own)) (or_cases (eqb l 0) _ e)

  pub owns_by : OwnLink b i (order_in b i).gateway.origdownstream → Owns b i (order_in b i)
  owns_by w = record {
    current = current_own (good.order i h).current;
    cancel = cancel_own _ (good.order i h).cancel;
    pending = pending_own _ (good.order i h).pending;
    named = w;
  }
