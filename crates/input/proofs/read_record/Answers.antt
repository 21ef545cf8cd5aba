-- `input::read_record` meets its contract: the length's two bytes, and the record's. Assumes nothing.
use Rattle.std.proofs.Common.{◌≡◌, ℕ, ◌+◌, ◌*◌, List, [], ◌∷◌, ◌++◌, length, take, get_or, refl, sym, ap, ◌∙◌, subst, arith}
use borrow.Rule.Slice.PartMut.{post_of}
use Rattle.std.proofs.lemmas.List.{take-append-le}
use Rattle.std.proofs.KnownBytes.{Consumes-trans}
use Rattle.std.specs.Io.KnownBytes.{Consumes}
use Rattle.input.proofs.read_record.Goals as goal

-- the two bytes of a length
two_bytes : (s : List ℕ) → length s ≡ 2 → take 2 s ≡ get_or s 0 0 ∷ (get_or s 1 0 ∷ [])
two_bytes [] l = absurd (let z : ⊥ = omega arith in z)
two_bytes (x ∷ []) l = absurd (let z : ⊥ = omega arith in z)
two_bytes (x ∷ (y ∷ s)) l = refl

pub returns-then-got-size : goal.returns-then-got-size
returns-then-got-size g c =
    let size = c.from-size.result in
    let length-bytes = c.read_full.new.space in
    let record-bytes = c.read_full-2.new.space in
    let first = c.in_ok-read_full in
    let all : first.field-0 ≡ 2 = omega (arith, first.ensures.within) in
    let is : size ≡ get_or length-bytes 0 0 + 256 * get_or length-bytes 1 0 = omega (arith, c.from_le_bytes.ensures) in
    let head = ap (λ (n : ℕ). take n length-bytes) all ∙ two_bytes length-bytes (omega arith) in
    let tail = ap (λ (n : ℕ). take n record-bytes) c.if-got-size.true ∙ sym (take-append-le size record-bytes (post_of 0 size c.args.space.now) (omega arith)) in
    (get_or length-bytes 0 0, get_or length-bytes 1 0, is, omega arith, subst (Consumes _ _) (λ i. head i ++ tail i) (Consumes-trans _ _ _ _ _ first.ensures.taken c.in_ok-got.ensures.taken))
