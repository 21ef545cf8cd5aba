-- Laws of two-word numbers. Rests on Wide.
use Rattle.std.specs.Prelude.{ℕ, ◌+◌, ◌*◌, ◌/◌, ◌%◌, ◌^◌, ◌<◌, ◌≡◌, refl, List, [], ◌∷◌, length, get_or}
use Rattle.std.proofs.Common.{ap, ◌∙◌, mul-le-mul, div-lt_iff_lt-mul, lt_of_le_of_lt, arith, lit<}
use Rattle.std.proofs.Math.Arith.{digits_lt}
use Rattle.wide.specs.Wide.{value, words}

-- the number of its words
pub value_words : (n : ℕ) → value (words n) ≡ n
value_words n = omega arith

-- two words, of which the lower is one, are the words of the number that they stand for
pub two_words : (x y n : ℕ) → x < 2 ^ 64 → x + 2 ^ 64 * y ≡ n → x ∷ (y ∷ []) ≡ words n
two_words x y n f e =
    let a : x ≡ n % 2 ^ 64 = omega arith in
    let b : y ≡ n / 2 ^ 64 = omega arith in
    λ i. a i ∷ (b i ∷ [])

-- an array of two words is the words of its value
pub words_value : (w : List ℕ) → length w ≡ 2 → get_or w 0 0 < 2 ^ 64 → w ≡ words (value w)
words_value [] l f = absurd (let z : ⊥ = omega arith in z)
words_value (x ∷ []) l f = absurd (let z : ⊥ = omega arith in z)
words_value (x ∷ (y ∷ [])) l f = two_words x y (x + 2 ^ 64 * y) f refl
words_value (x ∷ (y ∷ (z ∷ w))) l f = absurd (let z : ⊥ = omega arith in z)

-- an array that the contract gives as words stands for that number
pub value_of : (w : List ℕ) (n : ℕ) → w ≡ words n → value w ≡ n
value_of w n e = ap value e ∙ value_words n

-- a number of one word
pub one_word : (n : ℕ) → n < 2 ^ 64 → n ∷ (0 ∷ []) ≡ words n
one_word n f = two_words n 0 n f (omega arith)

-- two words reach up to 2 ^ 128
pub upper_word : (n : ℕ) → n < 2 ^ 128 → n / 2 ^ 64 < 2 ^ 64
upper_word n f = (div-lt_iff_lt-mul {k = 2 ^ 64} {x = n} {y = 2 ^ 64} (lit< tt)).1 f

pub value_fits : (w : List ℕ) → get_or w 0 0 < 2 ^ 64 → get_or w 1 0 < 2 ^ 64 → value w < 2 ^ 128
value_fits w f g = let e : value w ≡ get_or w 1 0 * 2 ^ 64 + get_or w 0 0 = omega arith in rw e (digits_lt {m = 2 ^ 64} g f)

pub product_fits : (a b : ℕ) → a < 2 ^ 64 → b < 2 ^ 64 → a * b < 2 ^ 128
product_fits a b f g =
    lt_of_le_of_lt (mul-le-mul {n₁ = a} {m₁ = b} {n₂ = 18446744073709551615} {m₂ = 18446744073709551615} (omega arith) (omega arith)) (lit< tt)
