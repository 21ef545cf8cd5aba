-- `put::put_field`: what a field is, by the table. Assumes nothing.
use Rattle.std.proofs.Common.{eq-eqb, ◌≡◌, ◌≤◌, ◌∷◌, ◌++◌, ◌+◌, ◌-◌, ℕ, List, true, false, length, get_or, take, sym, ap, ◌∙◌, arith, rules, length-append, length-take, take_all}
use Rattle.prelude.specs.Laws.Span.{splice_nil, splice_append}
use Rattle.prelude.specs.Laws.Cases.{clash}
use Rattle.prelude.specs.Number.{bytes_of}
use Rattle.prelude.specs.Laws.Number.{length_bytes}
use Rattle.prelude.specs.Texts.{contents}
use Rattle.prelude.specs.declared.Text.{Text}
use Rattle.bits.specs.Map.{bit}
use Rattle.format.specs.Format.{size, is_text_bit}
use Rattle.format.specs.Wire.{field_bytes}
use Rattle.records.specs.Fields.{numbers_of, high_of, short_bytes, long_bytes, held}
use Rattle.records.specs.Laws.Writing.{field_off, field_long_lem, field_short, field_number, field_words}
use Rattle.records.proofs.put.put_field.Goals as goal
use Rattle.records.proofs.put.put_field.Goals.{After-text_of-text, Else-is_text, Else-n-le8, Else-not-has, Start, Then-field-eq-TEXT, Then-is_text, Then-n-le8}

-- the field that is to be written
abbrev field : Start → List ℕ
field s = let r = s.args.r.now in field_bytes r.map (held r) s.args.b

stands : (c : Else-not-has) → bit c.args.r.now.map c.args.b ≡ true
stands c = rw c.from-field.ensures at (sym c.has.ensures ∙ c.if-not-has.false)

is_text_lem : (c : Then-is_text) → is_text_bit c.args.b ≡ true
is_text_lem c = rw c.from-k.ensures at (sym c.is_text.ensures ∙ c.if-is_text.true)

is_number_lem : (c : Else-is_text) → is_text_bit c.args.b ≡ false
is_number_lem c = rw c.from-k.ensures at (sym c.is_text.ensures ∙ c.if-is_text.false)

-- and so it takes at most 16 bytes
at_most : (c : Else-n-le8) → c.size_of-n.result ≤ 16
at_most c =
    let e : size c.args.b ≡ c.size_of-n.result = sym (rw c.from-k.ensures at c.size_of-n.ensures.0) in
    let n : c.size_of-n.result ≡ 255 → ⊥ = λ z. clash (is_text_bit c.args.b) (eq-eqb (size c.args.b) 255 (e ∙ z)) (is_number_lem (goal.at.Else-n-le8 c).Else-is_text) in
    omega (arith, n, c.size_of-n.ensures.1, c.size_of-n.ensures.2)

-- the array of a text ends where its bytes are cut
long_is : (c : Then-field-eq-TEXT) → long_bytes c.args.r.now.text ≡ take c.args.r.now.text.len c.args.r.now.text.bytes
unfolding long_bytes
long_is c =
    let l : length c.args.r.now.text.bytes ≡ 64 = search rules in
    take_all 64 (take c.args.r.now.text.len c.args.r.now.text.bytes) (simp length-take (omega arith))

short_is : (t : Text) → length t.bytes ≡ 32 → short_bytes t ≡ take t.len t.bytes
unfolding short_bytes contents
short_is t l = take_all 32 (take t.len t.bytes) (simp length-take (omega arith))

long : (c : Then-field-eq-TEXT) → let t = c.args.r.now.text in field (goal.at.Then-field-eq-TEXT c).Start ≡ length (take t.len t.bytes) ∷ take t.len t.bytes
long c =
    let r = c.args.r.now in
    rw (← long_is c)
    (field_long_lem r.map (numbers_of r) (high_of r) r.ids r.text c.args.b (stands (goal.at.Then-field-eq-TEXT c).Else-not-has) (is_text_lem (goal.at.Then-field-eq-TEXT c).Then-is_text) (sym c.from-field.ensures ∙ c.if-field-eq-TEXT.true))

short : (c : After-text_of-text) → let t = c.text_of-text.result.now in length t.bytes ≡ 32 → field (goal.at.After-text_of-text c).Start ≡ length (take t.len t.bytes) ∷ take t.len t.bytes
short c l =
    let r = c.args.r.now in
    let i = goal.at.After-text_of-text c in
    rw (← short_is c.text_of-text.result.now l, rw c.from-field.ensures at c.text_of-text.ensures)
    (field_short r.map (numbers_of r) (high_of r) r.ids r.text c.args.b (stands i.Else-not-has) (is_text_lem i.Then-is_text) (λ e. c.if-field-eq-TEXT.false (c.from-field.ensures ∙ e)))

number : (c : Then-n-le8) → field (goal.at.Then-n-le8 c).Start ≡ bytes_of c.size_of-n.result (get_or c.args.numbers.now c.args.b 0)
number c =
    let r = c.args.r.now in
    let e : size c.args.b ≡ c.size_of-n.result = sym (rw c.from-k.ensures at c.size_of-n.ensures.0) in
    rw (← e, c.requires.1) (field_number r.map (numbers_of r) (high_of r) r.ids r.text c.args.b (stands (goal.at.Then-n-le8 c).Else-not-has) (is_number_lem (goal.at.Then-n-le8 c).Else-is_text) (omega arith))

words : (c : Else-n-le8) → field (goal.at.Else-n-le8 c).Start ≡ bytes_of 8 (get_or c.args.numbers.now c.args.b 0) ++ bytes_of (c.size_of-n.result - 8) (high_of c.args.r.now)
words c =
    let r = c.args.r.now in
    let e : size c.args.b ≡ c.size_of-n.result = sym (rw c.from-k.ensures at c.size_of-n.ensures.0) in
    rw (← e, c.requires.1) (field_words r.map (numbers_of r) (high_of r) r.ids r.text c.args.b (stands (goal.at.Else-n-le8 c).Else-not-has) (is_number_lem (goal.at.Else-n-le8 c).Else-is_text) (omega arith))

words_length : (c : Else-n-le8) → length (field (goal.at.Else-n-le8 c).Start) ≡ c.size_of-n.result
words_length c =
    let v = get_or c.args.numbers.now c.args.b 0 in
    let h = high_of c.args.r.now in
    ap length (words c)
    ∙ length-append (bytes_of 8 v) (bytes_of (c.size_of-n.result - 8) h)
    ∙ omega (arith, length_bytes 8 v, length_bytes (c.size_of-n.result - 8) h)

pub returns-then-not-has : goal.returns-then-not-has
returns-then-not-has c =
    let r = c.args.r.now in
    let e = field_off r.map (numbers_of r) (high_of r) r.ids r.text c.args.b (rw c.from-field.ensures at (sym c.has.ensures ∙ c.if-not-has.true)) in
    rw e (omega arith, sym (splice_nil c.args.dst.now c.args.at))

pub put_front-requires : goal.put_front-requires
put_front-requires c = omega (arith, ap length (long (goal.at.put_front-requires c).Then-field-eq-TEXT))

pub returns-then-field-eq-TEXT : goal.returns-then-field-eq-TEXT
returns-then-field-eq-TEXT c = rw (long (goal.at.returns-then-field-eq-TEXT c).Then-field-eq-TEXT) (omega arith, c.put_front.ensures.1)

pub put_front-requires-then-is_text : goal.put_front-requires-then-is_text
put_front-requires-then-is_text c = omega (arith, ap length (short (goal.at.put_front-requires-then-is_text c).After-text_of-text (search rules)))

pub returns-then-is_text : goal.returns-then-is_text
returns-then-is_text c = rw (short (goal.at.returns-then-is_text c).After-text_of-text (search rules)) (omega arith, c.put_front-then-is_text.ensures.1)

pub put_number-requires : goal.put_number-requires
put_number-requires c =
    let v = get_or c.args.numbers.now c.args.b 0 in
    (c.if-n-le8.true, omega (arith, ap length (number (goal.at.put_number-requires c).Then-n-le8), length_bytes c.size_of-n.result v))

pub returns-then-n-le8 : goal.returns-then-n-le8
returns-then-n-le8 c =
    let v = get_or c.args.numbers.now c.args.b 0 in
    rw (number (goal.at.returns-then-n-le8 c).Then-n-le8) (omega (arith, length_bytes c.size_of-n.result v), rw c.from-k.ensures at c.put_number.ensures.1)

pub put_number-p-requires : goal.put_number-p-requires
put_number-p-requires c = (omega arith, omega (arith, words_length (goal.at.put_number-p-requires c).Else-n-le8))

pub put_number-requires-2 : goal.put_number-requires-2
put_number-requires-2 c = (omega (arith, at_most (goal.at.put_number-requires-2 c).Else-n-le8), omega (arith, words_length (goal.at.put_number-requires-2 c).Else-n-le8, c.put_number-p.auto.dst))

pub returns : goal.returns
returns c =
    let a = c.args in
    let v = get_or a.numbers.now a.b 0 in
    let x = bytes_of 8 v in
    let y = bytes_of (c.size_of-n.result - 8) (high_of a.r.now) in
    let l : length x ≡ 8 = length_bytes 8 v in
    let q : c.put_number-p.result ≡ a.at + length x = omega arith in (
      omega (arith, words_length (goal.at.returns c).Else-n-le8),
      rw (words (goal.at.returns c).Else-n-le8)
          (c.put_number-2.ensures.1
          ∙ (rw (rw c.from-k.ensures at c.put_number-p.ensures.1, q) (splice_append a.dst.now a.at x y (omega (arith, words_length (goal.at.returns c).Else-n-le8))))),
    )
