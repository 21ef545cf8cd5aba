-- What the rules of a book give to other proofs. Rests on Indexed.
-- `book_kept` of Indexed gives each rule at an index, by name; here stand the facts that follow from several rules.
use Rattle.std.proofs.Common.{ℕ, zero, suc, ◌+◌, ◌≤◌, ◌<◌, not-suc-le-zero, eq-or-lt_of_le, le_of_suc-le-suc, arith, ◌≡◌, sym, subst, ◌∙◌, ⊎_elim, Bool, true, false, not, Some, eqb, ltb, length, eqb-true, eq-eqb, ne_eqb, ltb-true}
use Rattle.std.proofs.Math.Decide.{ℕ_discrete, dec_lt}
use Rattle.std.proofs.lemmas.Bool.{eqb-false, and_parts, not_from_true, false_from_ne_true}
use Rattle.prelude.specs.Below.{first_below, count_below}
use Rattle.prelude.specs.Laws.Below.{first_none, first_hit, count_le, first_past}
use Rattle.prelude.specs.Cases.{if◌then◌otherwise◌}
use Rattle.prelude.specs.Laws.Cases.{split_if, clash}
use Rattle.prelude.specs.Texts.{same_text}
use Rattle.prelude.specs.Laws.Texts.{same_self, same_back, same_trans}
use Rattle.prelude.specs.declared.Text.{Text}
use Rattle.store.specs.Book.{Book, order_in, request_in}
use Rattle.text.specs.Numbered.{numbered_text}
use Rattle.machine.specs.Orders.{is_done}
use Rattle.machine.specs.Changes.{is_first, is_gateway, is_answered}
use Rattle.store.specs.Finds.{bears_name, bears_downstream, find_name, find_downstream}
use Rattle.machine.specs.Ranges.{name_range}
use Rattle.machine.specs.Rules.{of_order, number_in, name_number, number_rule}
use Rattle.machine.proofs.Kept.Laws.{or_else}
use Rattle.machine.proofs.Kept.Local.{InFlight, in_flight}
use Rattle.machine.proofs.Kept.OrderSteps.{names_kept}
use Rattle.machine.proofs.Kept.Indexed.{BookKept}
use Rattle.machine.proofs.Numbered.{NumberedLaws}

-- the first of those that pass
first_at : (p : ℕ → Bool) (n i : ℕ) → i < n → p i ≡ true → ((k : ℕ) → k < i → p k ≡ false) → first_below p n ≡ Some i
first_at p n i h t f = first_hit p n i h (first_past p 0 i (omega arith) (λ k _ l. f k l) ∙ first_none p) t

-- one that passes counts for those behind it
pub count_passed : (p : ℕ → Bool) (i j : ℕ) → i < j → p i ≡ true → count_below p i < count_below p j
unfolding count_below
count_passed p i zero h t = absurd (not-suc-le-zero h)
count_passed p i (suc j) h t =
    ⊎_elim
    (λ e. subst (λ (k : ℕ). count_below p i < count_below p k + (if p k then 1 otherwise 0)) e (split_if (λ (n : ℕ). count_below p i < count_below p i + n) (p i) (λ z. omega arith) (λ z. clash (p i) t z)))
    (λ l. let less : count_below p i < count_below p j = count_passed p i j l t in omega arith)
    (eq-or-lt_of_le (le_of_suc-le-suc h))

-- the number is 0 exactly if the test holds
number_first : (a : Bool) (n : ℕ) → (if a then eqb n 0 otherwise ltb 0 n) ≡ true → a ≡ eqb n 0
unfolding if◌then◌otherwise◌
number_first true n e = sym e
number_first false n e = sym (ne_eqb n 0 (λ z. let h : 0 < n = ltb-true 0 n e in omega arith))

module _ (b : Book) (good : BookKept b) where
  -- an unanswered gateway cancel of a live order is its latest cancel, with tries above 0, sent and not stuck
  pub gateway_in_flight : (j : ℕ) → j < length b.requests → is_gateway (request_in b j) ≡ true → is_answered (request_in b j) ≡ false
      → is_done (order_in b (request_in b j).order).state.status ≡ false → InFlight (j + 1) (order_in b (request_in b j).order)
  gateway_in_flight j h g a live =
      ⊎_elim (λ s. clash (is_answered (request_in b j)) (or_else (not (is_gateway (request_in b j))) _ (not_from_true _ g) s) a) (λ f. f)
      (in_flight (j + 1) (request_in b j) (order_in b (request_in b j).order) live (good.request j h).flight)

  pub name_at : (i : ℕ) → i < length b.orders → name_range (order_in b i).names.name ≡ true
  name_at i h = (names_kept (order_in b i).names (good.order i h).names).name

  pub names_apart_lem : (i j : ℕ) → i < length b.orders → j < length b.orders → (i ≡ j → ⊥) → same_text (order_in b i).names.name (order_in b j).names.name ≡ false
  names_apart_lem i j h l d = go (dec_lt j i)
    where
      go : Dec (j < i) → same_text (order_in b i).names.name (order_in b j).names.name ≡ false
      go (yes z) = good.names i j h z
      go (no z) = false_from_ne_true _ (λ s. clash _ (same_back (order_in b i).names.name (order_in b j).names.name s) (good.names j i l (let e : i ≡ j → ⊥ = d in omega arith)))

  pub found_name : (i : ℕ) → i < length b.orders → find_name b (order_in b i).names.name ≡ Some i
  unfolding find_name
  found_name i h = first_at (λ k. bears_name (order_in b i).names.name (order_in b k)) (length b.orders) i h (same_self (order_in b i).names.name)
      (λ k l. names_apart_lem k i (omega arith) h (λ z. omega arith))

  -- a request's downstream ClOrdID is its order's name with its number, and only number 0 is a first request
  pub downstream_at : (j : ℕ) → j < length b.requests
      → same_text (request_in b j).downstream (name_number (order_in b (request_in b j).order).names.name (number_in b.requests j)) ≡ true
  unfolding number_rule
  downstream_at j h = (and_parts (same_text (request_in b j).downstream (name_number (order_in b (request_in b j).order).names.name (number_in b.requests j))) _ (good.request j h).number).0

  pub first_number : (j : ℕ) → j < length b.requests → is_first (request_in b j) ≡ eqb (number_in b.requests j) 0
  unfolding number_rule
  first_number j h = number_first (is_first (request_in b j)) (number_in b.requests j)
      (and_parts (same_text (request_in b j).downstream (name_number (order_in b (request_in b j).order).names.name (number_in b.requests j))) _ (good.request j h).number).1

  -- the numbers of one order's requests rise
  pub numbers_rise : (i j : ℕ) → i < j → (request_in b i).order ≡ (request_in b j).order → number_in b.requests i < number_in b.requests j
  unfolding number_in
  numbers_rise i j h e =
      subst (λ (k : ℕ). count_below (of_order b.requests k) i < count_below (of_order b.requests (request_in b j).order) j) (sym e)
      (count_passed (of_order b.requests (request_in b j).order) i j h (eq-eqb (request_in b i).order (request_in b j).order e))

  number_below : (j : ℕ) → j < length b.requests → number_in b.requests j ≤ 255
  unfolding number_in
  number_below j h = let few : count_below (of_order b.requests (request_in b j).order) j ≤ j = count_le (of_order b.requests (request_in b j).order) j in omega (arith, good.requests)

  module _ (laws : NumberedLaws) where
    -- a name with a number says both
    same_number : (a c : Text) (m n : ℕ) → name_range a ≡ true → name_range c ≡ true → m ≤ 255 → n ≤ 255 → same_text (name_number a m) (name_number c n) ≡ true → (same_text a c ≡ true) × (m ≡ n)
    unfolding name_number
    same_number a c m n p q u v =
        split_if (λ (s : Text). same_text s (name_number c n) ≡ true → (same_text a c ≡ true) × (m ≡ n)) (eqb m 0)
        (λ zm. split_if (λ (t : Text). same_text a t ≡ true → (same_text a c ≡ true) × (m ≡ n)) (eqb n 0)
        (λ zn s. (s, eqb-true m 0 zm ∙ sym (eqb-true n 0 zn)))
        (λ zn s. clash _ (same_back a (numbered_text c n) s) (laws.dashed c a n q p (omega (arith, eqb-false n 0 zn)) v)))
        (λ zm. split_if (λ (t : Text). same_text (numbered_text a m) t ≡ true → (same_text a c ≡ true) × (m ≡ n)) (eqb n 0)
        (λ zn s. clash _ s (laws.dashed a c m p q (omega (arith, eqb-false m 0 zm)) u))
        (λ zn s. laws.apart a c m n p q (omega (arith, eqb-false m 0 zm)) u (omega (arith, eqb-false n 0 zn)) v s))

    -- downstream ClOrdIDs are distinct
    pub downstreams_apart : (i j : ℕ) → i < length b.requests → j < length b.requests → (i ≡ j → ⊥)
        → same_text (request_in b i).downstream (request_in b j).downstream ≡ false
    downstreams_apart i j h l d = false_from_ne_true _ never
      where
        -- they would be requests of one order, with one number
        ordered : (x y : ℕ) → x < y → (request_in b x).order ≡ (request_in b y).order → number_in b.requests x ≡ number_in b.requests y → ⊥
        ordered x y z o e = let rise : number_in b.requests x < number_in b.requests y = numbers_rise x y z o in omega arith

        one : (request_in b i).order ≡ (request_in b j).order → number_in b.requests i ≡ number_in b.requests j → Dec (i < j) → ⊥
        one o e (yes z) = ordered i j z o e
        one o e (no z) = ordered j i (omega arith) (sym o) (sym e)

        same : same_text (order_in b (request_in b i).order).names.name (order_in b (request_in b j).order).names.name ≡ true
            → Dec ((request_in b i).order ≡ (request_in b j).order) → (request_in b i).order ≡ (request_in b j).order
        same s (yes z) = z
        same s (no z) = clash _ s (names_apart_lem (request_in b i).order (request_in b j).order (good.request i h).order (good.request j l).order z)

        never : same_text (request_in b i).downstream (request_in b j).downstream ≡ true → ⊥
        never s =
            let p : Text = name_number (order_in b (request_in b i).order).names.name (number_in b.requests i) in
            let q : Text = name_number (order_in b (request_in b j).order).names.name (number_in b.requests j) in
            let t : same_text p q ≡ true =
            same_trans p (request_in b i).downstream q (same_back (request_in b i).downstream p (downstream_at i h)) (same_trans (request_in b i).downstream (request_in b j).downstream q s (downstream_at j l)) in
            let (n, e) = same_number _ _ (number_in b.requests i) (number_in b.requests j) (name_at (request_in b i).order (good.request i h).order) (name_at (request_in b j).order (good.request j l).order)
            (number_below i h) (number_below j l) t in
            one (same n (ℕ_discrete (request_in b i).order (request_in b j).order)) e (dec_lt i j)

    pub found_downstream : (j : ℕ) → j < length b.requests → find_downstream b (request_in b j).downstream ≡ Some j
    unfolding find_downstream
    found_downstream j h = first_at (λ k. bears_downstream (request_in b j).downstream (request_in b k)) (length b.requests) j h (same_self (request_in b j).downstream)
        (λ k l. downstreams_apart k j (omega arith) h (λ z. omega arith))
