-- `numbered` meets its contract: the name over zeros, a dash and the digits are the numbered name. Rests on Numbered.
use Rattle.std.proofs.Common.{◌≡◌, ℕ, List, ◌++◌, ◌+◌, ◌≤◌, length, take, set, replicate, rules, ap, ◌∙◌, arith, le-leb, length-set, length-take, length-append}
use Rattle.std.proofs.lemmas.Bool.{lt-leb}
use Rattle.std.proofs.lemmas.List.{length-replicate}
use Rattle.prelude.specs.Cases.{if◌then◌otherwise◌}
use Rattle.prelude.specs.Texts.{contents, text_of}
use Rattle.decimal.specs.Decimal as Decimal
use Rattle.decimal.specs.Laws.Columns.{written_room}
use Rattle.text.specs.Numbered.{decimal, numbered_bytes, numbered_text}
use Rattle.text.specs.Laws.Numbered.{length_numbered_bytes, length_contents, decimal_written, numbered_put}
use Rattle.text.proofs.numbered.Goals as goal

pub returns-then-long-gt32 : goal.returns-then-long-gt32
unfolding numbered_text if◌then◌otherwise◌
returns-then-long-gt32 c =
    let a = c.args in
    let w : length a.name.bytes ≡ 32 = search rules in
    let d = ap (Decimal.decimal 0) c.from-number.ensures ∙ decimal_written a.k in
    rw (lt-leb (length (numbered_bytes a.name a.k)) 32 (omega (arith, c.decimal_length.ensures.0, ap length d, length_numbered_bytes a.name a.k, length_contents a.name w)))
    c.no_text.ensures

pub returns : goal.returns
unfolding numbered_text if◌then◌otherwise◌ text_of contents
returns c =
    let a = c.args in
    let n = c.from-n.result in
    let w : length a.name.bytes ≡ 32 = search rules in
    let d : Decimal.decimal 0 c.from-number.result ≡ decimal a.k = ap (Decimal.decimal 0) c.from-number.ensures ∙ decimal_written a.k in
    let long : n + 1 + c.decimal_length.result ≡ length (numbered_bytes a.name a.k) =
    omega (arith, c.decimal_length.ensures.0, ap length d, length_numbered_bytes a.name a.k, length_contents a.name w) in
    let most : length (numbered_bytes a.name a.k) ≤ 32 = omega (arith, long) in
    let s : List ℕ = take 32 (contents a.name ++ replicate 32 0) in
    let zeros : c.padded-bytes.result ≡ s = c.padded-bytes.ensures.all ∙ ap (λ (k : ℕ). take 32 (take k a.name.bytes ++ replicate 32 0)) c.from-n.ensures in
    let bytes : c.put_decimal.new.out ≡ take 32 (numbered_bytes a.name a.k ++ replicate 32 0) =
    c.put_decimal.ensures.1
    ∙ (λ i. Decimal.written (set (zeros i) n 45) (n + 1) (d i))
    ∙ written_room (set s n 45) (n + 1) (decimal a.k) (simp (length-set, length-take, length-append, length-replicate) (omega (arith, long, ap length d, c.decimal_length.ensures.0)))
    ∙ numbered_put a.name a.k n (omega (arith, long, ap length d, c.decimal_length.ensures.0, length_numbered_bytes a.name a.k)) most in
    rw (le-leb (length (numbered_bytes a.name a.k)) 32 most) (λ i. record { bytes = bytes i; len = long i })
