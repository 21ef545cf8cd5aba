-- `input::read_full` meets its contract: each read goes on where the last one ended. Assumes nothing.
use Rattle.std.proofs.Common.{◌≡◌, ℕ, ◌+◌, ◌-◌, ◌≤◌, List, ◌++◌, rules, length, take, drop, sym, ap, ◌∙◌, subst, le_refl, drop_at, length-take-le, take-add}
use borrow.Rule.Slice.PartMut.{put_mid, post_of}
use Rattle.std.proofs.lemmas.List.{take-append-le}
use Rattle.std.proofs.lemmas.Slice.{take-put_mid_below}
use Rattle.std.proofs.KnownBytes.{Consumes-trans}
use Rattle.std.specs.Io.KnownBytes.{Consumes}
use Rattle.input.proofs.read_full.Goals as goal

-- what stands first, after n of ys were put at a
take_more : (a k n : ℕ) (xs ys : List ℕ) → a ≤ length xs → n ≤ length ys → take (a + n) (put_mid a k xs ys) ≡ take a xs ++ take n ys
take_more a k n xs ys h l =
    take-add a n (put_mid a k xs ys)
    ∙ ap (λ (r : List ℕ). r ++ take n (drop a (put_mid a k xs ys))) (take-put_mid_below a k xs ys a (le_refl a) h)
    ∙ ap (λ (r : List ℕ). take a xs ++ take n r) (drop_at (take a xs) (ys ++ post_of a k xs) a (length-take-le a xs h))
    ∙ ap (λ (r : List ℕ). take a xs ++ r) (take-append-le n ys (post_of a k xs) l)

pub loop-done-preserved : goal.loop-done-preserved
loop-done-preserved g c =
    let l = c.loop-done in
    let got = c.in_ok-got in
    (search rules, subst (Consumes _ _) (sym (take_more l.done (length l.space - l.done) got.got l.space c.read.new.buf l.invariant.0 got.ensures.bound.0)) (Consumes-trans _ _ _ _ _ l.invariant.1 got.ensures.bytes.0))
