-- Texts of 32 bytes: in a buffer, as the bytes that they hold, and their equality. Rests on Below and Span.
use Rattle.std.specs.Prelude.{◌≡◌, Bool, ◌&&◌, ◌||◌, List, ◌++◌, eqb, leb, ltb, take, ℕ, ◌+◌, ◌<◌, length, get_or, replicate}
use Rattle.prelude.specs.Below.{all_below}
use Rattle.prelude.specs.Span.{span}
use Rattle.prelude.specs.declared.Text.{Text}

-- the text at an index of a buffer: 32 bytes, then its length
abbrev pub text_at : List ℕ → ℕ → Text
text_at s at = record { bytes = span s at 32; len = get_or s (at + 32) 0 }

-- the bytes that a text holds
unfoldable pub contents : Text → List ℕ
contents t = take t.len t.bytes

-- the text that holds these bytes, of which there are at most 32
unfoldable pub text_of : List ℕ → Text
text_of l = record { bytes = take 32 (l ++ replicate 32 0); len = length l }

-- byte k is within the text or zero
abbrev pub filled_at : Text → ℕ → Bool
filled_at t k = ltb k t.len || eqb (get_or t.bytes k 0) 0

-- a text as it is stored: at most 32 long, zeros after it
unfoldable pub is_text : Text → Bool
is_text t = leb t.len 32 && all_below (filled_at t) 32

abbrev pub agree_at : List ℕ → List ℕ → ℕ → Bool
agree_at a b k = eqb (get_or a k 0) (get_or b k 0)

unfoldable pub same_text : Text → Text → Bool
same_text a b = eqb a.len b.len && all_below (agree_at a.bytes b.bytes) 32

-- what every value of the type has
pub record WholeText (t : Text) : Type 0 where
  pub long : length t.bytes ≡ 32
  pub len : t.len < 256
  pub bytes : (k : ℕ) → get_or t.bytes k 0 < 256
