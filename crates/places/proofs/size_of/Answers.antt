-- `places::size_of` is the table, whose sizes are small, and 0 past it. Assumes nothing.
use Rattle.std.proofs.Common.{◌≡◌, ℕ, ◌≤◌, ◌<◌, refl, ◌∙◌, arith}
use Rattle.std.proofs.Math.Decide.{dec_lt}
use Rattle.format.specs.Format.{size}
use Rattle.format.specs.Laws.Format.{size_small, size_out}
use Rattle.places.proofs.size_of.Goals as goal

small : (b : ℕ) → (size b ≤ 255) × (size b < 255 → size b ≤ 16)
small b = go (dec_lt b 32)
  where
    go : Dec (b < 32) → (size b ≤ 255) × (size b < 255 → size b ≤ 16)
    go (yes h) = size_small b h
    go (no h) = (omega (arith, size_out b (omega arith)), λ l. omega (arith, size_out b (omega arith)))

pub returns-in-Bytes : goal.returns-in-Bytes
returns-in-Bytes c =
    let q : c.from.result ≡ size c.args.b = c.from.ensures ∙ (rw c.in-Bytes.is at c.field_of.ensures.size) in
    let s = small c.args.b in
    rw q (refl, s.0, s.1)
