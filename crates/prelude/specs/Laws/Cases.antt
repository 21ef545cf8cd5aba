-- Laws by which proofs follow tests and cases. Rests on Cases. Of `&&`, `||` and `not` the library has the laws (lemmas.Bool, Math.Bool); here
-- are those of our own words, and `clash`, `none_some` and `same_some`, which take their facts in the form that proofs have.
use Rattle.std.specs.Prelude.{◌≡◌, Bool, Option, None, Some, refl, true, false}
use Rattle.std.proofs.lemmas.Bool.{both_ways as not_both}
use Rattle.std.proofs.Common.{sym, ◌∙◌}
use Rattle.std.proofs.lemmas.Option.{none-some, same_Some}
use Rattle.prelude.specs.Cases.{if◌then◌otherwise◌, maybe}

-- ---- a test that is known

module _ {A : Type 0} where
  pub if_true : (b : Bool) (x y : A) → b ≡ true → (if b then x otherwise y) ≡ x
  unfolding if◌then◌otherwise◌
  if_true b x y e = rw e

  pub if_false : (b : Bool) (x y : A) → b ≡ false → (if b then x otherwise y) ≡ y
  unfolding if◌then◌otherwise◌
  if_false b x y e = rw e

module _ {A B : Type 0} where
  pub maybe_none : (o : Option A) (b : B) (f : A → B) → o ≡ None → maybe b f o ≡ b
  unfolding maybe
  maybe_none o b f e = rw e

  pub maybe_some : (o : Option A) (a : A) (b : B) (f : A → B) → o ≡ Some a → maybe b f o ≡ f a
  unfolding maybe
  maybe_some o a b f e = rw e

-- ---- a test that is not known: what holds of both ways holds

module _ {A : Type 0} (P : A → Type 0) where
  pub split_if : (b : Bool) {x y : A} → (b ≡ true → P x) → (b ≡ false → P y) → P (if b then x otherwise y)
  unfolding if◌then◌otherwise◌
  split_if true f g = f refl
  split_if false f g = g refl

  pub split_maybe : {B : Type 0} (o : Option B) {x : A} {f : B → A} → (o ≡ None → P x) → ((b : B) → o ≡ Some b → P (f b)) → P (maybe x f o)
  unfolding maybe
  split_maybe None h k = h refl
  split_maybe (Some b) h k = k b refl

-- ---- a test that is both

pub clash : {A : Type 0} (b : Bool) → b ≡ true → b ≡ false → A
clash b p q = absurd (not_both b q p)

-- ---- options

pub none_some : {A B : Type 0} {x : Option A} {a : A} → x ≡ None → x ≡ Some a → B
none_some p q = absurd (none-some _ (sym p ∙ q))

pub same_some : {A : Type 0} {x : Option A} {a b : A} → x ≡ Some a → x ≡ Some b → a ≡ b
same_some p q = same_Some _ _ (sym p ∙ q)
