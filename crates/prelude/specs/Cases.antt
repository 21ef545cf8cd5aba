-- Tests and cases: the words in which definitions choose. Rests on the kit's library.
-- `if◌then◌otherwise◌` and `maybe` are shut, so that a proof opens one function at a time and finds the test by unification.
use Rattle.std.specs.Prelude.{Bool, Option, None, Some, true, false}

module _ {A : Type 0} where
  infixr 10 if◌then◌otherwise◌
  unfoldable pub if◌then◌otherwise◌ : Bool → A → A → A
  if true then x otherwise y = x
  if false then x otherwise y = y

module _ {A B : Type 0} where
  -- what `f` makes of the value, or `b` if there is none
  unfoldable pub maybe : B → (A → B) → Option A → B
  maybe b f None = b
  maybe b f (Some a) = f a

module _ {A : Type 0} where
  -- there is a value, and it passes the test
  abbrev pub some_and : (A → Bool) → Option A → Bool
  some_and p None = false
  some_and p (Some a) = p a
