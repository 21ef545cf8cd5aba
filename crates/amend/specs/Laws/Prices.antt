-- Two prices compared, by whether the first is given. Rests on machine's Amend.
use Rattle.std.specs.Prelude.{ℕ, ◌≡◌, refl, Option, None, Some, false, not, eqb, is_some}
use Rattle.prelude.specs.Cases.{maybe}
use Rattle.machine.specs.Amend.{same_price}

module _ (p q : Option ℕ) where
  pub same_given : (value : ℕ) → p ≡ Some value → maybe false (eqb value) q ≡ same_price p q
  unfolding maybe
  same_given value h = rw h (go q)
    where
      go : (x : Option ℕ) → maybe false (eqb value) x ≡ same_price (Some value) x
      go None = refl
      go (Some other) = refl

  pub same_none : p ≡ None → not (is_some q) ≡ same_price p q
  same_none h = rw h (go q)
    where
      go : (x : Option ℕ) → not (is_some x) ≡ same_price None x
      go None = refl
      go (Some other) = refl
