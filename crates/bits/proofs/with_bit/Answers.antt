-- `bits::with_bit`: a mask of one bit sets that bit; past the last there is none. Rests on Laws.Map.
use Rattle.std.proofs.Common.{◌≡◌, ◌≤◌, ◌*◌, ◌%◌, ◌^◌, ◌<◌, ℕ, Option, None, Some, SomeIff, bit_or, ap, ◌∙◌, arith, one-mul, shl_exact, lit<, le-ltb, ltb}
use Rattle.std.proofs.lemmas.Nat.{and_le_r}
use Rattle.std.specs.Int.Bits.{or_add_and}
use Rattle.std.specs.Option.{unwrap_or}
use Rattle.prelude.specs.Laws.Cases.{if_false}
use Rattle.bits.specs.Map.{with_bit}
use Rattle.bits.specs.Laws.Map.{or_one}
use Rattle.bits.proofs.with_bit.Goals as goal

masked : (m k : ℕ) (r : Option ℕ) → SomeIff r (k < 32) (1 * 2 ^ k % 2 ^ 32) → bit_or m (unwrap_or r 0) ≡ with_bit m k
unfolding with_bit
masked m k None h = let past : 32 ≤ k = omega (arith, h) in rw (if_false (ltb k 32) _ m (le-ltb k 32 past)) (omega (arith, or_add_and m 0, and_le_r m 0))
masked m k (Some x) h =
    let s : 1 * 2 ^ k % 2 ^ 32 ≡ 2 ^ k = shl_exact {a = 1} 1 k 32 (lit< tt) (omega (arith, h.0)) ∙ one-mul (2 ^ k) in
    rw (h.1, s) (or_one m k (omega (arith, h.0)))

pub returns : goal.returns
returns c = ap (λ (n : ℕ). bit_or c.args.map n) c.unwrap_or.ensures ∙ masked c.args.map c.args.k c.checked_shl.result c.checked_shl.ensures
