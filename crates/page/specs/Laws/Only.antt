-- `OnlyPage`: the columns determine the page, since a text is shown and a quantity read in one way each. Rests on Sound and decimal's laws.
use Rattle.std.specs.Prelude.{ℕ, ◌+◌, ◌-◌, ◌*◌, ◌/◌, ◌%◌, ◌≤◌, ◌<◌, ◌≡◌, true, List, ◌++◌, length, get_or, take, drop, replicate}
use Rattle.std.proofs.Common.{sym, ap, ◌∙◌, arith, length-append, length-drop, ext_get_or, get_or-take, get_or-drop, get_or-append-add, length-take-le}
use Rattle.std.proofs.Math.Decide.{dec_lt}
use Rattle.std.proofs.Math.ListN.{get_or-append}
use Rattle.std.proofs.lemmas.List.{length-replicate, get_or-replicate}
use Rattle.prelude.specs.Span.{span}
use Rattle.prelude.specs.Laws.Span.{get_span}
use Rattle.prelude.specs.declared.Text.{Text}
use Rattle.decimal.specs.Decimal.{blank, is_digit, number_in}
use Rattle.decimal.specs.Laws.Columns.{Digits, same_digits, zeros_for_blanks}
use Rattle.store.specs.declared.Order.{Order}
use Rattle.store.specs.Book.{book_of, order_in, order_count}
use Rattle.machine.specs.Orders.{leaves_qty}
use Rattle.page.specs.Page.{page_of, page_bytes}
use Rattle.page.specs.Promise.{Shows, Reads, Columns, OnlyPage}
use Rattle.page.specs.Laws.Sound.{sound_page}

-- ---- texts

module _ (width : ℕ) (a b : List ℕ) (t : Text) (r : Shows width a t) (s : Shows width b t) where
  one_showing : a ≡ b
  one_showing = ext_get_or 0 a b (r.long ∙ sym s.long) (λ k h. go k (omega (arith, r.long)) (dec_lt k t.len) (dec_lt (get_or t.bytes k 0) blank))
    where
      go : (k : ℕ) → k < width → Dec (k < t.len) → Dec (get_or t.bytes k 0 < blank) → get_or a k 0 ≡ get_or b k 0
      go k h (yes l) (yes g) = r.blanked k l g ∙ sym (s.blanked k l g)
      go k h (yes l) (no g) = r.same k l (omega arith) ∙ sym (s.same k l (omega arith))
      go k h (no l) g = r.behind k (omega arith) h ∙ sym (s.behind k (omega arith) h)

-- ---- quantities

module _ (a : List ℕ) (n : ℕ) (r : Reads a n) where
  abbrev zeros : List ℕ
  zeros = replicate r.first 48

  -- the nine columns before the point, with zeros for blanks
  abbrev zeroed : List ℕ
  zeroed = zeros ++ drop r.first (take 9 a)

  zeros_long : length zeros ≡ r.first
  zeros_long = length-replicate {A = ℕ} r.first 48

  nine : length (take 9 a) ≡ 9
  nine = length-take-le 9 a (omega (arith, r.long))

  zeroed_long : length zeroed ≡ 9
  zeroed_long = simp (length-append, length-replicate, length-drop) (omega (arith, nine, r.ninth))

  zeroed_number : number_in zeroed ≡ n / 10000
  zeroed_number =
      zeros_for_blanks (take 9 a) r.first (omega (arith, nine, r.ninth)) (λ k h. get_or-take 9 a k 0 (omega (arith, r.ninth)) ∙ r.blanks k h) ∙ r.units

  zeroed_before : (k : ℕ) → k < r.first → get_or zeroed k 0 ≡ 48
  zeroed_before k h =
      get_or-append zeros (drop r.first (take 9 a)) 0 k (omega (arith, zeros_long))
      ∙ get_or-replicate r.first k 48 0 h

  zeroed_from : (k : ℕ) → r.first ≤ k → k < 9 → get_or zeroed k 0 ≡ get_or a k 0
  zeroed_from k h l =
      let j : ℕ = k - r.first in
      let e : k ≡ length zeros + j = omega (arith, zeros_long) in
      let back : r.first + j ≡ k = omega arith in
      ap (λ (m : ℕ). get_or zeroed m 0) e
      ∙ get_or-append-add zeros (drop r.first (take 9 a)) j 0
      ∙ get_or-drop r.first (take 9 a) j 0
      ∙ ap (λ (m : ℕ). get_or (take 9 a) m 0) back
      ∙ get_or-take 9 a k 0 l

  zeroed_digits : Digits zeroed
  zeroed_digits k h = go (dec_lt k r.first)
    where
      go : Dec (k < r.first) → is_digit (get_or zeroed k 0) ≡ true
      go (yes q) = ap (λ (c : ℕ). is_digit c) (zeroed_before k q)
      go (no q) =
          let l : k < 9 = omega (arith, zeroed_long) in
          ap (λ (c : ℕ). is_digit c) (zeroed_from k (omega arith) l) ∙ r.digits k (omega arith) l

  parts_long : length (drop 10 a) ≡ 4
  parts_long = simp length-drop (omega (arith, r.long))

  parts_digits : Digits (drop 10 a)
  parts_digits k h = ap (λ (c : ℕ). is_digit c) (get_or-drop 10 a k 0) ∙ r.last (10 + k) (omega arith) (omega (arith, parts_long))

module _ (a b : List ℕ) (n : ℕ) (r : Reads a n) (s : Reads b n) where
  same_zeroed : zeroed a n r ≡ zeroed b n s
  same_zeroed =
      (same_digits (zeroed a n r) (zeroed b n s) 0 0 (zeroed_long a n r ∙ sym (zeroed_long b n s)) (zeroed_digits a n r) (zeroed_digits b n s)
      (zeroed_number a n r ∙ sym (zeroed_number b n s))).1

  same_parts : drop 10 a ≡ drop 10 b
  same_parts =
      (same_digits (drop 10 a) (drop 10 b) 0 0 (parts_long a n r ∙ sym (parts_long b n s)) (parts_digits a n r) (parts_digits b n s) (r.parts ∙ sym s.parts)).1

  -- else a leading digit would be a 0
  no_sooner : s.first ≤ r.first
  no_sooner = go (dec_lt r.first s.first)
    where
      go : Dec (r.first < s.first) → s.first ≤ r.first
      go (yes h) =
          let f : 48 < get_or a r.first 0 = r.leading (omega (arith, s.ninth)) in
          let x : get_or a r.first 0 ≡ 48 =
          sym (zeroed_from a n r r.first (omega arith) (omega (arith, r.ninth)))
          ∙ ap (λ (l : List ℕ). get_or l r.first 0) same_zeroed
          ∙ zeroed_before b n s r.first h in
          absurd (omega arith)
      go (no h) = omega arith

module _ (a b : List ℕ) (n : ℕ) (r : Reads a n) (s : Reads b n) where
  one_reading : a ≡ b
  one_reading = ext_get_or 0 a b (r.long ∙ sym s.long) (λ k h. go k (omega (arith, r.long)) (dec_lt k r.first) (dec_lt k 9) (dec_lt k 10))
    where
      firsts : r.first ≡ s.first
      firsts = omega (arith, no_sooner a b n r s, no_sooner b a n s r)

      go : (k : ℕ) → k < 14 → Dec (k < r.first) → Dec (k < 9) → Dec (k < 10) → get_or a k 0 ≡ get_or b k 0
      go k h (yes f) d e = r.blanks k f ∙ sym (s.blanks k (omega (arith, firsts)))
      go k h (no f) (yes d) e =
          sym (zeroed_from a n r k (omega arith) d) ∙ ap (λ (l : List ℕ). get_or l k 0) (same_zeroed a b n r s) ∙ zeroed_from b n s k (omega (arith, firsts)) d
      go k h (no f) (no d) (yes e) = let z : k ≡ 9 = omega arith in ap (λ (j : ℕ). get_or a j 0) z ∙ r.tenth ∙ sym (ap (λ (j : ℕ). get_or b j 0) z ∙ s.tenth)
      go k h (no f) (no d) (no e) =
          let z : k ≡ 10 + (k - 10) = omega arith in
          ap (λ (j : ℕ). get_or a j 0) z
          ∙ sym (get_or-drop 10 a (k - 10) 0)
          ∙ ap (λ (l : List ℕ). get_or l (k - 10) 0) (same_parts a b n r s)
          ∙ get_or-drop 10 b (k - 10) 0
          ∙ sym (ap (λ (j : ℕ). get_or b j 0) z)

-- ---- lines

module _ (p q : List ℕ) (i : ℕ) (o : Order) (c : Columns p i o) (d : Columns q i o) where
  -- a byte of a field
  within : (at width j : ℕ) → at ≤ j → j < at + width → span p at width ≡ span q at width → get_or p j 0 ≡ get_or q j 0
  within at width j h l e =
      let z : j ≡ at + (j - at) = omega arith in
      ap (λ (k : ℕ). get_or p k 0) z
      ∙ sym (get_span p at width (j - at) (omega arith))
      ∙ ap (λ (s : List ℕ). get_or s (j - at) 0) e
      ∙ get_span q at width (j - at) (omega arith)
      ∙ sym (ap (λ (k : ℕ). get_or q k 0) z)

  -- a field of one byte
  alone : (at j x : ℕ) → j ≡ at → get_or p at 0 ≡ x → get_or q at 0 ≡ x → get_or p j 0 ≡ get_or q j 0
  alone at j x z e f = ap (λ (k : ℕ). get_or p k 0) z ∙ e ∙ sym (ap (λ (k : ℕ). get_or q k 0) z ∙ f)

  quantities : (k : ℕ) → 37 ≤ k → k < 79 → Dec (k < 51) → Dec (k < 65) → get_or p (81 * i + k) 0 ≡ get_or q (81 * i + k) 0
  quantities k h l (yes x) y = within (81 * i + 37) 14 (81 * i + k) (omega arith) (omega arith) (one_reading _ _ o.terms.qty c.ordered d.ordered)
  quantities k h l (no x) (yes y) = within (81 * i + 51) 14 (81 * i + k) (omega arith) (omega arith) (one_reading _ _ o.state.cumqty c.cumulative d.cumulative)
  quantities k h l (no x) (no y) = within (81 * i + 65) 14 (81 * i + k) (omega arith) (omega arith) (one_reading _ _ (leaves_qty o) c.leaves d.leaves)

  texts : (k : ℕ) → k < 37 → Dec (k < 20) → Dec (k < 36) → get_or p (81 * i + k) 0 ≡ get_or q (81 * i + k) 0
  texts k l (yes x) y = within (81 * i) 20 (81 * i + k) (omega arith) (omega arith) (one_showing 20 _ _ o.names.name c.name d.name)
  texts k l (no x) (yes y) = within (81 * i + 20) 16 (81 * i + k) (omega arith) (omega arith) (one_showing 16 _ _ o.names.symbol c.symbol d.symbol)
  texts k l (no x) (no y) = alone (81 * i + 36) (81 * i + k) o.state.status (omega arith) c.status d.status

  same_byte : (k : ℕ) → k < 81 → Dec (k < 37) → Dec (k < 79) → Dec (k < 80) → get_or p (81 * i + k) 0 ≡ get_or q (81 * i + k) 0
  same_byte k l (yes x) y z = texts k x (dec_lt k 20) (dec_lt k 36)
  same_byte k l (no x) (yes y) z = quantities k (omega arith) y (dec_lt k 51) (dec_lt k 65)
  same_byte k l (no x) (no y) (yes z) = alone (81 * i + 79) (81 * i + k) blank (omega arith) c.gap d.gap
  same_byte k l (no x) (no y) (no z) = alone (81 * i + 80) (81 * i + k) 10 (omega arith) c.feed d.feed

-- THE THEOREM
pub only_page : OnlyPage
only_page b p kept long columns =
    let q : List ℕ = page_bytes (page_of (book_of b)) in
    let m : length q ≡ 81 * order_count b = (sound_page b kept).0 in
    ext_get_or 0 p q (long ∙ sym m)
    (λ j h.
    let i : ℕ = j / 81 in
    let k : ℕ = j % 81 in
    let z : j ≡ 81 * i + k = omega arith in
    let l : i < order_count b = omega (arith, long) in
    ap (λ (x : ℕ). get_or p x 0) z
    ∙ same_byte p q i (order_in (book_of b) i) (columns i l) ((sound_page b kept).1 i l).columns k (omega arith) (dec_lt k 37) (dec_lt k 79) (dec_lt k 80)
    ∙ sym (ap (λ (x : ℕ). get_or q x 0) z))
