-- `bits::digit_of`: past the last bit the shift gives nothing, and the digit there is 0. Rests on Laws.Map.
use Rattle.std.proofs.Common.{◌≡◌, ◌/◌, ◌^◌, ◌<◌, ℕ, Option, None, Some, SomeIff, bit_and, refl, sym, arith}
use Rattle.std.proofs.lemmas.Nat.{and_mask}
use Rattle.std.specs.Option.{unwrap_or}
use Rattle.bits.specs.Map.{digit}
use Rattle.bits.specs.Laws.Map.{digit_out, digit_two}
use Rattle.bits.proofs.digit_of.Goals as goal

shifted : (m k : ℕ) (r : Option ℕ) → m < 2 ^ 32 → SomeIff r (k < 32) (m / 2 ^ k) → bit_and (unwrap_or r 0) 1 ≡ digit m k
shifted m k None f h = sym (digit_out m k f (omega (arith, h)))
shifted m k (Some x) f h = rw h.1 (and_mask (m / 2 ^ k) 1)

pub returns : goal.returns
returns c =
    let e = rw (← c.unwrap_or.ensures) at (shifted c.args.map c.args.k c.checked_shr.result c.ranges.map.fits c.checked_shr.ensures) in
    rw e (refl, digit_two c.args.map c.args.k)
