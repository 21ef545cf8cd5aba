-- A buffer that is lent from an index on, and what stands in it when that part is back. Rests on the kit's lists.
use Rattle.std.proofs.Common.{ℕ, ◌-◌, ◌≡◌, arith, ap, ◌∙◌, List, ◌++◌, length, take, drop, take_all, append-nil, length-drop}
use Rattle.std.proofs.lemmas.List.{drop_all}
use borrow.Rule.Slice.PartMut.{put_mid}

-- what is lent is all from the index on
pub lent : (at : ℕ) (xs : List ℕ) → take (length xs - at) (drop at xs) ≡ drop at xs
lent at xs = take_all (length xs - at) (drop at xs) (simp length-drop (omega arith))

-- and what comes back stands behind what is before it
pub back : (at : ℕ) (xs ys : List ℕ) → put_mid at (length xs - at) xs ys ≡ take at xs ++ ys
back at xs ys = ap (λ (l : List ℕ). take at xs ++ l) (ap (λ (l : List ℕ). ys ++ l) (drop_all (length xs - at) (drop at xs) (simp length-drop (omega arith))) ∙ append-nil ys)
