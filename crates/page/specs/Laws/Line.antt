-- One line: how wide its fields are, that nothing in it is below 32 but the line feed, that its texts show and its quantities read back.
-- Rests on Page and decimal's laws.
use Rattle.std.specs.Prelude.{ℕ, zero, suc, ◌+◌, ◌-◌, ◌/◌, ◌%◌, ◌^◌, ◌≤◌, ◌<◌, ◌≡◌, refl, max, ltb, take, drop, List, [], ◌∷◌, ◌++◌, map, length, get_or, replicate}
use Rattle.std.proofs.Common.{sym, ap, ◌∙◌, ltb-true, ltb-false, lt-ltb, le-ltb, length-append, take_at, get_or-take, append_assoc, arith, length-take, get_or-append-add}
use Rattle.std.proofs.Math.Decide.{dec_lt}
use Rattle.std.proofs.Math.ListN.{length-map, get_or-replicate, get_or-append, get_or-eq_default}
use Rattle.std.proofs.Math.Seq.{drop-append-add}
use Rattle.std.proofs.lemmas.List.{length-replicate, get_or_at}
use Rattle.std.specs.List.{concat}
use Rattle.prelude.specs.Cases.{if◌then◌otherwise◌}
use Rattle.prelude.specs.Laws.Cases.{split_if, if_true, if_false}
use Rattle.prelude.specs.Pieces.{Sized, writes, offset}
use Rattle.prelude.specs.Laws.Pieces.{length_joined, writes_joined, piece_at}
use Rattle.prelude.specs.Span.{span, splice}
use Rattle.prelude.specs.Laws.Span.{splice_whole, copy_all}
use Rattle.prelude.specs.Texts.{contents}
use Rattle.prelude.specs.declared.Text.{Text}
use Rattle.decimal.specs.Decimal.{blank, point, digits_by, digits, low_digits, down, decimal, right, is_digit, written, number_in}
use Rattle.decimal.specs.Laws.Back.{decimal_back, digits_back, right_back, low_number, low_none}
use Rattle.decimal.specs.Laws.Width.{length_low, width_one, width_some, width_bound, digits_short, no_leading_zero, decimal_some, decimal_long}
use Rattle.decimal.specs.Laws.Columns.{length_right, digits_are, low_are, right_blank, right_byte, right_append, Printing, print_append, print_one, print_blanks, print_decimal, print_right, written_room}
use Rattle.page.specs.Page.{Line, printable, left, quantity, line_feed, fields, line_bytes}
use Rattle.page.specs.Promise.{Shows, Reads}

-- ---- texts

pub length_left : (width : ℕ) (text : List ℕ) → length (left width text) ≡ width
unfolding left
length_left width text = simp (length-append, length-map, length-take, length-replicate) (omega arith)

get_map : (s : List ℕ) (k : ℕ) → k < length s → get_or (map printable s) k 0 ≡ printable (get_or s k 0)
get_map [] k h = absurd (omega arith)
get_map (x ∷ s) zero h = refl
get_map (x ∷ s) (suc k) h = get_map s k (omega arith)

module _ (width : ℕ) (text : List ℕ) (k : ℕ) (h : k < width) where
  pub left_inside : k < length text → get_or (left width text) k 0 ≡ printable (get_or text k 0)
  unfolding left
  left_inside q =
      let n : k < length (take width text) = simp length-take (omega arith) in
      get_or-append (map printable (take width text)) (replicate (width - length text) blank) 0 k (omega (arith, length-map (take width text) printable))
      ∙ get_map (take width text) k n
      ∙ ap printable (get_or-take width text k 0 h)

  pub left_behind : length text ≤ k → get_or (left width text) k 0 ≡ blank
  unfolding left
  left_behind q =
      let s : List ℕ = map printable (take width text) in
      let m : length s ≡ length text = length-map (take width text) printable ∙ (simp length-take (omega arith)) in
      let d : ℕ = k - length s in
      let e : length s + d ≡ k = omega arith in
      ap (λ (j : ℕ). get_or (s ++ replicate (width - length text) blank) j 0) (sym e)
      ∙ get_or-append-add s (replicate (width - length text) blank) d 0
      ∙ get_or-replicate (width - length text) d blank 0 (omega arith)

printable_same : (c : ℕ) → blank ≤ c → printable c ≡ c
unfolding printable
printable_same c h = if_false (ltb c blank) blank c (le-ltb c blank h)

printable_low : (c : ℕ) → c < blank → printable c ≡ blank
unfolding printable
printable_low c h = if_true (ltb c blank) blank c (lt-ltb c blank h)

-- column i of a text of which len bytes count
pub left_column : (width len : ℕ) (bytes : List ℕ) (i : ℕ) → i < width
    → (if ltb i len then printable (get_or bytes i 0) otherwise blank) ≡ get_or (left width (take len bytes)) i 0
left_column width len bytes i h = go (dec_lt i len) (dec_lt i (length bytes))
  where
    go : Dec (i < len) → Dec (i < length bytes) → (if ltb i len then printable (get_or bytes i 0) otherwise blank) ≡ get_or (left width (take len bytes)) i 0
    go (yes q) (yes r) =
        let n : i < length (take len bytes) = simp length-take (omega arith) in
        if_true (ltb i len) _ _ (lt-ltb i len q) ∙ sym (left_inside width (take len bytes) i h n ∙ ap printable (get_or-take len bytes i 0 q))
    go (yes q) (no r) =
        let n : length (take len bytes) ≤ i = simp length-take (omega arith) in
        if_true (ltb i len) _ _ (lt-ltb i len q)
        ∙ ap printable (get_or-eq_default bytes 0 {n = i} (omega arith))
        ∙ printable_low 0 (omega arith)
        ∙ sym (left_behind width (take len bytes) i h n)
    go (no q) r =
        let n : length (take len bytes) ≤ i = simp length-take (omega arith) in
        if_false (ltb i len) _ _ (le-ltb i len (omega arith)) ∙ sym (left_behind width (take len bytes) i h n)

-- THE LAW: what is printed shows the text
pub text_shows : (width : ℕ) (t : Text) → t.len ≤ width → Shows width (left width (contents t)) t
unfolding contents
text_shows width t fits =
    let at : (k : ℕ) → k < width → get_or (left width (take t.len t.bytes)) k 0 ≡ (if ltb k t.len then printable (get_or t.bytes k 0) otherwise blank) =
    λ k h. sym (left_column width t.len t.bytes k h) in
    record {
      long = length_left width (take t.len t.bytes);
      uncut = fits;
      same = λ k h g. at k (omega arith) ∙ if_true (ltb k t.len) _ _ (lt-ltb k t.len h) ∙ printable_same (get_or t.bytes k 0) g;
      blanked = λ k h g. at k (omega arith) ∙ if_true (ltb k t.len) _ _ (lt-ltb k t.len h) ∙ printable_low (get_or t.bytes k 0) g;
      behind = λ k h g. at k g ∙ if_false (ltb k t.len) _ _ (le-ltb k t.len h);
    }

print_byte : (c : ℕ) → blank ≤ printable c
unfolding printable
print_byte c = split_if (λ x. blank ≤ x) (ltb c blank) (λ e. omega arith) (λ e. ltb-false c blank e)

print_map : (s : List ℕ) → Printing (map printable s)
print_map [] k h = absurd (omega arith)
print_map (x ∷ s) zero h = print_byte x
print_map (x ∷ s) (suc k) h = print_map s k (omega arith)

print_left : (width : ℕ) (text : List ℕ) → Printing (left width text)
unfolding left
print_left width text =
    print_append (map printable (take width text)) (replicate (width - length text) blank)
    (print_map (take width text)) (print_blanks (width - length text))

-- ---- quantities

down_four : (n : ℕ) → down 4 n ≡ n / 10000
unfolding down
down_four n = omega arith

width_four : (n : ℕ) → n ≤ 10 ^ 12 → length (digits (down 4 n)) ≤ 9
width_four n h = width_bound 8 (down 4 n) (omega (arith, down_four n))

pub length_quantity : (n : ℕ) → n ≤ 10 ^ 12 → length (quantity n) ≡ 14
unfolding quantity
length_quantity n h = length_right 14 (decimal 4 n) (omega (arith, width_four n h, decimal_long 4 n (omega arith)))

-- written if 14 bytes have room
pub quantity_room : (s : List ℕ) (at n : ℕ) → n ≤ 10 ^ 12 → at + 14 ≤ length s → written s at (right 14 (decimal 4 n)) ≡ splice s at (quantity n)
unfolding quantity
quantity_room s at n h l = written_room s at (right 14 (decimal 4 n)) (omega (arith, length_quantity n h))

-- nine columns of units, the point, four digits
parted : (n : ℕ) → quantity n ≡ right 9 (digits (down 4 n)) ++ (point ∷ low_digits 4 n)
unfolding quantity
parted n =
    let l : length (point ∷ low_digits 4 n) ≡ 5 = omega (arith, length_low 4 n) in
    ap (right 14) (decimal_some 4 n (omega arith))
    ∙ ap (λ (k : ℕ). right (9 + k) (digits (down 4 n) ++ (point ∷ low_digits 4 n))) (sym l)
    ∙ right_append 9 (digits (down 4 n)) (point ∷ low_digits 4 n)

low_four : (n : ℕ) → number_in (low_digits 4 n) ≡ n % 10000
low_four n =
    let q : n / 10 / 10 / 10 / 10 ≡ n / 10000 = omega arith in
    omega (arith, low_number 3 n, low_number 2 (n / 10), low_number 1 (n / 10 / 10), low_number 0 (n / 10 / 10 / 10), low_none (n / 10 / 10 / 10 / 10))

quantity_whole : (n : ℕ) → number_in (quantity n) ≡ n
unfolding quantity
quantity_whole n = right_back 14 (decimal 4 n) ∙ decimal_back 4 n

module _ (n : ℕ) (h : n ≤ 10 ^ 12) where
  abbrev units : List ℕ
  units = digits (down 4 n)

  nine : length (right 9 units) ≡ 9
  nine = length_right 9 units (width_four n h)

  before_point : (k : ℕ) → k < 9 → get_or (quantity n) k 0 ≡ get_or (right 9 units) k 0
  before_point k l = ap (λ (s : List ℕ). get_or s k 0) (parted n) ∙ get_or-append (right 9 units) (point ∷ low_digits 4 n) 0 k (omega (arith, nine))

  behind_point : (k : ℕ) → 9 < k → get_or (quantity n) k 0 ≡ get_or (low_digits 4 n) (k - 10) 0
  behind_point k l =
      let e : k ≡ length (right 9 units) + suc (k - 10) = omega (arith, nine) in
      ap (λ (s : List ℕ). get_or s k 0) (parted n)
      ∙ ap (λ (j : ℕ). get_or (right 9 units ++ (point ∷ low_digits 4 n)) j 0) e
      ∙ get_or-append-add (right 9 units) (point ∷ low_digits 4 n) (suc (k - 10)) 0

  first_on : (k : ℕ) → 9 - length units ≤ k → k < 9 → get_or (quantity n) k 0 ≡ get_or units (k - (9 - length units)) 0
  first_on k g l =
      let e : k ≡ (9 - length units) + (k - (9 - length units)) = omega arith in
      before_point k l ∙ ap (λ (j : ℕ). get_or (right 9 units) j 0) e ∙ right_byte 9 units (k - (9 - length units))

  no_zero : 9 - length units < 8 → 48 < get_or (quantity n) (9 - length units) 0
  no_zero l = go (dec_lt (down 4 n) 10)
    where
      go : Dec (down 4 n < 10) → 48 < get_or (quantity n) (9 - length units) 0
      go (yes s) = absurd (omega (arith, width_one (down 4 n) s))
      go (no s) =
          let z : (9 - length units) - (9 - length units) ≡ 0 = omega arith in
          let f : 48 < get_or units 0 0 = no_leading_zero (down 4 n) (omega arith) in
          omega (arith, first_on (9 - length units) (omega arith) (omega arith) ∙ ap (λ (j : ℕ). get_or units j 0) z)

  -- THE LAW: what is printed reads back
  pub quantity_reads : Reads (quantity n) n
  quantity_reads =
      let t : List ℕ = point ∷ low_digits 4 n in
      record {
        long = length_quantity n h;
        tenth = ap (λ (s : List ℕ). get_or s 9 0) (parted n) ∙ get_or_at (right 9 units) point (low_digits 4 n) 0 9 nine;
        last = λ k g l. ap (λ (c : ℕ). is_digit c) (behind_point k g) ∙ low_are 4 n (k - 10) (omega (arith, length_low 4 n));
        first = 9 - length units;
        ninth = omega (arith, width_some (down 4 n));
        blanks = λ k l. before_point k (omega arith) ∙ right_blank 9 units k l;
        digits = λ k g l. ap (λ (c : ℕ). is_digit c) (first_on k g l) ∙ digits_are (down 4 n) (k - (9 - length units)) (omega (arith, width_four n h));
        leading = no_zero;
        number = quantity_whole n;
        units = ap (λ (s : List ℕ). number_in (take 9 s)) (parted n) ∙ ap number_in (take_at (right 9 units) t 9 nine) ∙ right_back 9 units ∙ digits_back (down 4 n) ∙ down_four n;
        parts =
            ap (λ (s : List ℕ). number_in (drop 10 s)) (parted n)
            ∙ ap (λ (k : ℕ). number_in (drop (k + 1) (right 9 units ++ t))) (sym nine)
            ∙ ap number_in (drop-append-add (right 9 units) t 1)
            ∙ low_four n;
      }

print_quantity : (n : ℕ) → Printing (quantity n)
unfolding quantity
print_quantity n = print_right 14 (decimal 4 n) (print_decimal 4 n)

-- a quantity as it can be computed
unfoldable pub shortly : ℕ → List ℕ
shortly n = right 14 (digits_by 8 (down 4 n) ++ (point ∷ low_digits 4 n))

quantity_short : (n : ℕ) → n ≤ 10 ^ 12 → quantity n ≡ shortly n
unfolding quantity shortly
quantity_short n h =
    ap (right 14) (decimal_some 4 n (omega arith))
    ∙ ap (λ (s : List ℕ). right 14 (s ++ (point ∷ low_digits 4 n))) (digits_short 8 (down 4 n) (omega (arith, down_four n)))

-- ---- a line whose quantities are in range

-- how wide its fields are
abbrev pub widths : List ℕ
widths = 20 ∷ 16 ∷ 1 ∷ 14 ∷ 14 ∷ 14 ∷ 1 ∷ 1 ∷ []

pub sized : (l : Line) → l.ordered ≤ 10 ^ 12 → l.cumulative ≤ 10 ^ 12 → l.leaves ≤ 10 ^ 12 → Sized widths (fields l)
sized l ordered cumulative leaves = (
  length_left 20 l.name,
  (
    length_left 16 l.symbol,
    (
      refl,
      (
        length_quantity l.ordered ordered,
        (length_quantity l.cumulative cumulative, (length_quantity l.leaves leaves, (refl, (refl, tt)))),
      ),
    ),
  ),
)

-- its fields written one behind the other over 81 bytes
pub line_written : (s : List ℕ) (l : Line) → length s ≡ 81 → Sized widths (fields l) → writes s 0 widths (fields l) ≡ line_bytes l
unfolding line_bytes
line_written s l e z = writes_joined widths (fields l) s 0 z (omega arith) ∙ splice_whole s (concat (fields l)) (length_joined widths (fields l) z ∙ sym e)

-- a line as it can be computed
abbrev pub line_shortly : Line → List ℕ
line_shortly l =
    left 20 l.name ++ (left 16 l.symbol
    ++ (l.status ∷ (shortly l.ordered ++ (shortly l.cumulative ++ (shortly l.leaves ++ (blank ∷ line_feed ∷ []))))))

pub line_short : (l : Line) → l.ordered ≤ 10 ^ 12 → l.cumulative ≤ 10 ^ 12 → l.leaves ≤ 10 ^ 12 → line_bytes l ≡ line_shortly l
unfolding line_bytes
line_short l ordered cumulative leaves = λ i.
    left 20 l.name ++ (left 16 l.symbol
    ++ (l.status ∷ (quantity_short l.ordered ordered i ++ (quantity_short l.cumulative cumulative i ++ (quantity_short l.leaves leaves i ++ (blank ∷ line_feed ∷ []))))))

pub record Fine (l : Line) : Type 0 where
  pub status : blank ≤ l.status
  pub ordered : l.ordered ≤ 10 ^ 12
  pub cumulative : l.cumulative ≤ 10 ^ 12
  pub leaves : l.leaves ≤ 10 ^ 12

module _ (l : Line) (f : Fine l) where
  wide : Sized widths (fields l)
  wide = sized l f.ordered f.cumulative f.leaves

  pub length_line : length (line_bytes l) ≡ 81
  unfolding line_bytes
  length_line = length_joined widths (fields l) wide

  -- field k
  pub field : (k : ℕ) → span (line_bytes l) (offset widths k) (get_or widths k 0) ≡ get_or (fields l) k []
  unfolding line_bytes
  field k = piece_at widths (fields l) k wide

  -- the first eighty bytes
  abbrev front : List ℕ
  front = left 20 l.name ++ (left 16 l.symbol ++ ((l.status ∷ []) ++ (quantity l.ordered ++ (quantity l.cumulative ++ (quantity l.leaves ++ (blank ∷ []))))))

  print_front : Printing front
  print_front =
      let t6 : List ℕ = quantity l.leaves ++ (blank ∷ []) in
      let t5 : List ℕ = quantity l.cumulative ++ t6 in
      let t4 : List ℕ = quantity l.ordered ++ t5 in
      let t3 : List ℕ = (l.status ∷ []) ++ t4 in
      print_append (left 20 l.name) (left 16 l.symbol ++ t3) (print_left 20 l.name)
      (print_append (left 16 l.symbol) t3 (print_left 16 l.symbol)
      (print_append (l.status ∷ []) t4 (print_one l.status f.status)
      (print_append (quantity l.ordered) t5 (print_quantity l.ordered)
      (print_append (quantity l.cumulative) t6 (print_quantity l.cumulative)
      (print_append (quantity l.leaves) (blank ∷ []) (print_quantity l.leaves) (print_one blank (omega arith)))))))

  whole_line : line_bytes l ≡ front ++ (line_feed ∷ [])
  unfolding line_bytes
  whole_line = sym (simp append_assoc)

  length_front : length front ≡ 80
  length_front = omega (arith, length_line, ap length whole_line, length-append front (line_feed ∷ []))

  -- the 81st byte is a line feed, and no other is below 32
  pub line_feed_lem : get_or (line_bytes l) 80 0 ≡ line_feed
  line_feed_lem = ap (λ (s : List ℕ). get_or s 80 0) whole_line ∙ get_or_at front line_feed [] 0 80 length_front

  pub line_print : (k : ℕ) → k < 80 → blank ≤ get_or (line_bytes l) k 0
  line_print k h =
      let e : get_or (line_bytes l) k 0 ≡ get_or front k 0 =
      ap (λ (s : List ℕ). get_or s k 0) whole_line ∙ get_or-append front (line_feed ∷ []) 0 k (omega (arith, length_front)) in
      omega (arith, print_front k (omega (arith, length_front)))

-- ---- for the tactics of functions: a byte as it prints, and a text written column by column
pub max_printable : (x : ℕ) → max x 32 ≡ printable x
unfolding printable
max_printable x = split_if (λ n. max x 32 ≡ n) (ltb x 32) (λ e. omega (arith, ltb-true x 32 e)) (λ e. omega (arith, ltb-false x 32 e))

pub ruleset shows = (max_printable, if_true, if_false, lt-ltb, le-ltb)

pub ruleset columns = (copy_all, length_left)
