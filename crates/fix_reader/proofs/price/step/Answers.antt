-- `step`: a digit counts in both words, any other byte in none. Rests on Laws.Wrapping.
use Rattle.std.proofs.Common.{◌≡◌, ℕ, ◌+◌, ◌-◌, ◌*◌, ◌/◌, ◌%◌, true, false, get_or, sym, ap, ◌∙◌, arith, w64, Fits, rules}
use Rattle.prelude.specs.Laws.Cases.{if_true, if_false}
use Rattle.decimal.specs.Decimal.{is_digit}
use Rattle.fix_reader.specs.Laws.Numbers.{word, step_other, step_more}
use Rattle.fix_reader.specs.Laws.Wrapping.{step_high, tenfold_wraps, over_word}
use Rattle.fix_reader.proofs.price.step.Goals as goal

high_same : (low high c : ℕ) → is_digit c ≡ false → step_high low high c ≡ high
unfolding step_high
high_same low high c e = if_false (is_digit c) ((high * 10 + (low * 10 + (c - 48)) / word) % word) high e

high_more : (low high c : ℕ) → is_digit c ≡ true → step_high low high c ≡ (high * 10 + (low * 10 + (c - 48)) / word) % word
unfolding step_high
high_more low high c e = if_true (is_digit c) ((high * 10 + (low * 10 + (c - 48)) / word) % word) high e

pub returns-then-not-is_ascii_digit : goal.returns-then-not-is_ascii_digit
returns-then-not-is_ascii_digit c =
    let a = c.args in
    let f : Fits w64 (get_or a.n 0 0) = search rules in
    let no : is_digit a.c ≡ false = sym c.is_ascii_digit.ensures.value ∙ c.if-not-is_ascii_digit.true in
    (omega (arith, f.fits, step_other (get_or a.n 0 0) a.c no), sym (high_same (get_or a.n 0 0) (get_or a.n 1 0) a.c no))

pub returns : goal.returns
returns c =
    let a = c.args in
    let n0 : ℕ = get_or a.n 0 0 in
    let n1 : ℕ = get_or a.n 1 0 in
    let m = c.carrying_mul-low.result in
    let f : Fits w64 m.0 = search rules in
    let t = over_word (n0 * 10 + c.from.result) m.0 m.1 (omega (arith, c.carrying_mul-low.ensures)) (omega (arith, f.fits)) in
    let yes : is_digit a.c ≡ true = sym c.is_ascii_digit.ensures.value ∙ c.if-not-is_ascii_digit.false in
    let d = c.from.ensures in (
      t.0 ∙ ap (λ (x : ℕ). (n0 * 10 + x) % word) d ∙ sym (ap (λ (x : ℕ). x % word) (step_more n0 a.c yes)),
      tenfold_wraps n1 m.1 ∙ ap (λ (x : ℕ). (n1 * 10 + x) % word) (t.1 ∙ ap (λ (x : ℕ). (n0 * 10 + x) / word) d) ∙ sym (high_more n0 n1 a.c yes),
    )
