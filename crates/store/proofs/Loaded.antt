-- What a read of a record that may be missing gives, as the definitions say it. Assumes nothing.
use Rattle.std.proofs.Common.{◌≡◌, ◌≢◌, ℕ, eqb, Bool, true, false, Option, None, Some, MatchOption, eq-eqb, ne_eqb}
use Rattle.prelude.specs.Cases.{if◌then◌otherwise◌}

-- the value that is made of the record if there is one, else the one that stands for none
pub loaded : {A B : Type 0} {P Q : A → Type 0} (t : Bool) (o : Option A) (x y d : B) → MatchOption o (t ≡ false) (λ a. (t ≡ true) × P a) → MatchOption o (x ≡ d) Q
    → ((a : A) → P a → Q a → x ≡ y) → x ≡ (if t then y otherwise d)
unfolding if◌then◌otherwise◌
loaded t None x y d r m f = rw r m
loaded t (Some a) x y d r m f = rw r.0 (f a r.1 m)

-- the length as an array has it, and as `is_book` tests it
pub sized : {A : Type 0} (P : A → Type 0) (o : Option A) (n m : ℕ) → MatchOption o (n ≢ m) (λ a. (n ≡ m) × P a) → MatchOption o (eqb n m ≡ false) (λ a. (eqb n m ≡ true) × P a)
sized P None n m r = ne_eqb n m r
sized P (Some a) n m r = (eq-eqb n m r.0, r.1)
