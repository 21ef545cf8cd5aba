-- `fix::put::put_trailer`: the sum as three digits. Assumes nothing.
use Rattle.std.proofs.Common.{◌≡◌, ap, ◌∙◌, List, [], ◌∷◌, ℕ, ◌+◌, ◌%◌, length}
use Rattle.prelude.specs.Span.{span, splice}
use Rattle.decimal.specs.Decimal.{low_digits}
use Rattle.fix_words.specs.Spelling.{field, spellings}
use Rattle.fix_words.specs.Message.{sum}
use Rattle.decimal.specs.Laws.Width.{length_low}
use Rattle.fix.specs.Laws.Whole.{ten_long}
use Rattle.fix.proofs.put.put_trailer.Goals as goal
use Rattle.fix.proofs.put.put_trailer.Goals.{After-sum_digits-digits, Start}

abbrev told : Start → List ℕ
told c = low_digits 3 (sum (span c.args.out.now 0 c.args.at) % 256)

long : (c : Start) → length (spellings (field 10 (told c) ∷ [])) ≡ 7
long c = ten_long (told c) (length_low 3 (sum (span c.args.out.now 0 c.args.at) % 256))

-- the digits of the bytes before
digits_are : (c : After-sum_digits-digits) → c.sum_digits-digits.result ≡ told (goal.at.After-sum_digits-digits c).Start
unfolding span
digits_are c = c.sum_digits-digits.ensures

pub returns : goal.returns
returns c =
    let a = c.args in
    let p = c.put_text in
    let e = digits_are (goal.at.returns c).After-sum_digits-digits in
    let l = long (goal.at.returns c).Start in (
      p.ensures.0 ∙ ap (λ (d : List ℕ). a.at + length (spellings (field 10 d ∷ []))) e ∙ ap (λ (n : ℕ). a.at + n) l,
      p.ensures.1 ∙ ap (λ (d : List ℕ). splice a.out.now a.at (spellings (field 10 d ∷ []))) e,
    )
