-- The open-quantity words as code makes them: what comes together at each order from a pass over all orders is the word that the definition has, and a word of
-- 8 bytes is the same if the sum has wrapped around. Rests on index's sums.
use Rattle.std.specs.Prelude.{◌≡◌, refl, ℕ, zero, suc, ◌+◌, ◌*◌, ◌/◌, ◌%◌, ◌^◌, ◌<◌, ◌&&◌, ltb, List, ◌∷◌, Option, None, Some, eqb, length, replicate, slice_index, slice_set}
use Rattle.std.proofs.Common.{length-set, arith, mul_comm, ap, ap₂, sym, ◌∙◌, add-one, get_or-set_same, get_or-set_other, eq-eqb, ne_eqb}
use Rattle.std.proofs.Math.Arith.{mod-mul}
use Rattle.std.proofs.Math.Decide.{ℕ_discrete}
use Rattle.std.proofs.lemmas.List.{get_or-replicate}
use Rattle.prelude.specs.Cases.{if◌then◌otherwise◌}
use Rattle.prelude.specs.Laws.Cases.{if_true, if_false, split_maybe, none_some, same_some, clash}
use Rattle.prelude.specs.Lists.{list_below}
use Rattle.prelude.specs.Number.{bound, bytes_of}
use Rattle.prelude.specs.Span.{splice}
use Rattle.store.specs.declared.Order.{Order}
use Rattle.store.specs.Layout.{most_orders, header·orders, open_base}
use Rattle.store.specs.Book.{is_book, book_of, order_in, order_at, order_count, load_order, store_open}
use Rattle.store.specs.Finds.{find_client}
use Rattle.store.specs.Laws.Stored.{load_order_in, order_in_lem, count_most}
use Rattle.machine.specs.Orders.{leaves_of, leaves_qty}
use Rattle.machine.specs.Exchange.{open_of}
use Rattle.index.specs.Laws.Sums.{client_at, none_at, first_for, first_for_lem, part_to, sum_to, sum_start, total_more, total_ext, total_zero}
use Rattle.index.specs.Laws.Left.{left_sum, left_all}
use Rattle.retire.specs.Retire.{open_word, opens_settled}

-- ---- sums that wrap around

-- what comes together at each order from the first n, in 64 bits
pub record Words (b : List ℕ) (n : ℕ) (words : List ℕ) : Type 0 where
  pub size : length words ≡ most_orders
  pub at : (q : ℕ) → q < most_orders → slice_index words q ≡ sum_to b q n % 2 ^ 64

-- one order more
sum_more : (b : List ℕ) (q i : ℕ) → sum_to b q (i + 1) ≡ sum_to b q i + part_to b q (order_at b i)
unfolding sum_to
sum_more b q i = total_more (part_to b q) (order_at b) i

wrapped : (s l : ℕ) → (s % 18446744073709551616 + l) % 18446744073709551616 ≡ (s + l) % 18446744073709551616
wrapped s l = omega arith

module _ (b : List ℕ) where
  pub words_none : Words b 0 (replicate 64 0)
  words_none = record { size = refl; at = λ q h. let s : sum_to b q 0 ≡ 0 = sum_start b q in get_or-replicate 64 q 0 0 h ∙ omega arith }

  words_next : (words : List ℕ) (i j leaves : ℕ) → find_client (book_of b) (order_at b i).client ≡ Some j → leaves ≡ leaves_qty (order_at b i) → Words b i words
      → Words b (i + 1) (slice_set words j ((slice_index words j + leaves) % 2 ^ 64))
  words_next words i j leaves e v w = record { size = length-set words j _ ∙ w.size; at = λ q h. go q h (ℕ_discrete j q) }
    where
      few : j < length words
      few = omega (arith, w.size, (client_at b (order_at b i).client j e).0, count_most header·orders most_orders b)

      go : (q : ℕ) → q < most_orders → Dec (j ≡ q) → slice_index (slice_set words j ((slice_index words j + leaves) % 2 ^ 64)) q ≡ sum_to b q (i + 1) % 2 ^ 64
      go q h (yes t) =
          let part : part_to b q (order_at b i) ≡ leaves_qty (order_at b i) = if_true _ _ _ (eq-eqb _ q (first_for_lem b (order_at b i).client j e ∙ t)) in
          let sum : sum_to b q (i + 1) ≡ sum_to b q i + leaves = sum_more b q i ∙ ap (λ (n : ℕ). sum_to b q i + n) (part ∙ sym v) in
          ap (λ (x : ℕ). slice_index (slice_set words j ((slice_index words j + leaves) % 2 ^ 64)) x) (sym t)
          ∙ get_or-set_same words j _ 0 few
          ∙ ap (λ (n : ℕ). (n + leaves) % 2 ^ 64) (ap (slice_index words) t ∙ w.at q h)
          ∙ wrapped (sum_to b q i) leaves
          ∙ ap (λ (n : ℕ). n % 2 ^ 64) (sym sum)
      go q h (no t) =
          let part : part_to b q (order_at b i) ≡ 0 = if_false _ _ _ (ne_eqb _ q (λ z. t (sym (first_for_lem b (order_at b i).client j e) ∙ z))) in
          let sum : sum_to b q (i + 1) ≡ sum_to b q i = omega (arith, sum_more b q i) in
          get_or-set_other words j q _ 0 (λ z. t (sym z)) ∙ w.at q h ∙ ap (λ (n : ℕ). n % 2 ^ 64) (sym sum)

-- ---- they are the words of the definition

sum_none : (b : List ℕ) (q : ℕ) → ((k : ℕ) → k < order_count b → first_for b (order_at b k).client ≡ q → ⊥) → sum_to b q (order_count b) ≡ 0
unfolding sum_to
sum_none b q n =
    total_ext (part_to b q) (λ (o : Order). 0) (order_at b) (order_count b) (λ k h. if_false _ _ _ (ne_eqb _ q (n k h))) ∙ total_zero (list_below (order_at b) (order_count b))

module _ (b : List ℕ) where
  -- each order in use has a first of its client, and it is the client's
  first_in_use : (k : ℕ) → k < order_count b → find_client (book_of b) (order_at b k).client ≡ Some (first_for b (order_at b k).client)
  first_in_use k h = go (find_client (book_of b) (order_at b k).client) refl
    where
      go : (v : Option ℕ) → find_client (book_of b) (order_at b k).client ≡ v → find_client (book_of b) (order_at b k).client ≡ Some (first_for b (order_at b k).client)
      go None e = clash _ (eq-eqb (order_at b k).client (order_at b k).client refl) (none_at b (order_at b k).client e k h)
      go (Some j) e = e ∙ ap Some (sym (first_for_lem b (order_at b k).client j e))

  -- nothing comes together at an order that is not its client's first
  sum_other : (i : ℕ) → (find_client (book_of b) (order_in (book_of b) i).client ≡ Some i → ⊥) → sum_to b i (order_count b) ≡ 0
  sum_other i n = sum_none b i (λ k h e.
      let f : find_client (book_of b) (order_at b k).client ≡ Some i = first_in_use k h ∙ ap Some e in
      let at = client_at b (order_at b k).client i f in
      let own : (order_in (book_of b) i).client ≡ (order_at b k).client = ap (λ (o : Order). o.client) (order_in_lem b i at.0) ∙ at.1 in
      n (ap (find_client (book_of b)) own ∙ f))

  module _ (i : ℕ) where
    abbrev c : ℕ
    c = (order_in (book_of b) i).client

    word_other : (find_client (book_of b) c ≡ Some i → ⊥) → 0 ≡ sum_to b i (order_count b)
    word_other n = sym (sum_other i n)

    word_first : (j : ℕ) → find_client (book_of b) c ≡ Some j → Dec (j ≡ i) → (if eqb j i then open_of (book_of b) c otherwise 0) ≡ sum_to b i (order_count b)
    word_first j e (yes t) =
        if_true _ _ _ (eq-eqb j i t) ∙ sym (left_all b c) ∙ left_sum b c j (order_count b) e (omega arith) ∙ ap (λ (q : ℕ). sum_to b q (order_count b)) t
    word_first j e (no t) = if_false _ _ _ (ne_eqb j i t) ∙ word_other (λ f. t (same_some e f))

    pub word_sum : open_word (book_of b) i ≡ sum_to b i (order_count b)
    unfolding open_word
    word_sum =
        split_maybe (λ (w : ℕ). w ≡ sum_to b i (order_count b)) (find_client (book_of b) c)
        (λ e. word_other (λ f. none_some e f))
        (λ j e. word_first j e (ℕ_discrete j i))

-- ---- one order, as it was loaded

module _ (b : List ℕ) (k : ℕ) (o : Order) (h : k < order_count b) (is : o ≡ load_order b k) where
  here : o ≡ order_at b k
  here = is ∙ load_order_in b k h ∙ order_in_lem b k h

  module _ (v : Option ℕ) (found : v ≡ find_client (book_of b) o.client) where
    first : find_client (book_of b) (order_at b k).client ≡ v
    first = ap (λ (a : Order). find_client (book_of b) a.client) (sym here) ∙ sym found

    pub first_some : v ≡ None → ⊥
    first_some e = none_some (first ∙ e) (first_in_use b k h)

    pub first_few : (j : ℕ) → v ≡ Some j → j < most_orders
    first_few j e = omega (arith, (client_at b (order_at b k).client j (first ∙ e)).0, count_most header·orders most_orders b)

    pub words_more : (words : List ℕ) (j leaves : ℕ) → v ≡ Some j → leaves ≡ leaves_of o.state.status o.terms.qty o.state.cumqty → Words b k words
        → Words b (k + 1) (slice_set words j ((slice_index words j + leaves) % 2 ^ 64))
    unfolding leaves_qty
    words_more words j leaves e l w = words_next b words k j leaves (first ∙ e) (l ∙ ap leaves_qty here) w

-- ---- written

-- k bytes hold a number below 256 to the k
two_digits : (x q r : ℕ) → x ≡ q * 256 + r → r < 256 → (x % 256 ≡ r) × (x / 256 ≡ q)
two_digits x q r e h = (omega arith, omega arith)

bound_some : (k : ℕ) → 0 < bound k
bound_some zero = omega arith
bound_some (suc k) = omega (arith, bound_some k)

bytes_wrapped : (k n : ℕ) → bytes_of k (n % bound k) ≡ bytes_of k n
bytes_wrapped zero n = refl
bytes_wrapped (suc k) n =
    let e : n % (256 * bound k) ≡ n / 256 % bound k * 256 + n % 256 = ap (λ (m : ℕ). n % m) (mul_comm 256 (bound k)) ∙ mod-mul n (bound_some k) (omega arith) in
    let d = two_digits (n % (256 * bound k)) (n / 256 % bound k) (n % 256) e (omega arith) in
    ap₂ (λ (r : ℕ) (l : List ℕ). r ∷ l) d.0 (ap (bytes_of k) d.1 ∙ bytes_wrapped k (n / 256))

pub store_wrapped : (b : List ℕ) (i n : ℕ) → store_open b i (n % 2 ^ 64) ≡ store_open b i n
unfolding store_open
store_wrapped b i n = ap (λ (w : List ℕ). if is_book b && ltb i most_orders then splice b (open_base i) w otherwise b) (bytes_wrapped 8 n)

pub settled_none : (b : List ℕ) → opens_settled b 0 ≡ b
unfolding opens_settled
settled_none b = refl

pub settled_more : (b : List ℕ) (words : List ℕ) (i : ℕ) → i < most_orders → Words b (order_count b) words
    → store_open (opens_settled b i) i (slice_index words i) ≡ opens_settled b (i + 1)
unfolding opens_settled
settled_more b words i h w =
    ap (store_open (opens_settled b i) i) (w.at i h ∙ ap (λ (n : ℕ). n % 2 ^ 64) (sym (word_sum b i)))
    ∙ store_wrapped (opens_settled b i) i (open_word (book_of b) i)
    ∙ sym (ap (opens_settled b) (add-one i))

-- ---- for the tactics of functions
pub ruleset summing = (words_none, first_some, first_few, words_more)

pub ruleset settling = (settled_none, settled_more)
