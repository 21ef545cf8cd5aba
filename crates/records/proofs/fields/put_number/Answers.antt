-- `fields::put_number`: the first n bytes of the number. Assumes nothing.
use Rattle.std.proofs.Common.{◌≡◌, ℕ, zero, suc, ◌≤◌, ◌%◌, ◌/◌, ◌∷◌, List, take, rules, refl, ap, ◌∙◌, arith}
use Rattle.prelude.specs.Span.{splice}
use Rattle.prelude.specs.Number.{bytes_of}
use Rattle.records.proofs.fields.put_number.Goals as goal

first_bytes : (k n v : ℕ) → n ≤ k → take n (bytes_of k v) ≡ bytes_of n v
first_bytes k zero v h = refl
first_bytes zero (suc n) v h = absurd (omega arith)
first_bytes (suc k) (suc n) v h = ap (λ (l : List ℕ). v % 256 ∷ l) (first_bytes k n (v / 256) (omega arith))

pub returns : goal.returns
returns c =
    let a = c.args in
    let e : c.to_le_bytes.result ≡ bytes_of 8 a.value = search rules in
    (refl, c.put_bytes.ensures ∙ ap (splice a.dst.now a.at) (ap (take a.n) e ∙ first_bytes 8 a.n a.value c.requires.0))
