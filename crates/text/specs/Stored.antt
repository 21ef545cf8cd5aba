-- Texts as they are stored: the empty one, one that stands at an index, and one with a byte more. Rests on prelude.
use Rattle.std.specs.Prelude.{Bool, ◌&&◌, List, [], ◌∷◌, ℕ, ◌+◌, leb, ltb, length, set, replicate}
use Rattle.prelude.specs.Cases.{if◌then◌otherwise◌}
use Rattle.prelude.specs.Texts.{text_at, same_text, is_text}
use Rattle.prelude.specs.declared.Text.{Text}

-- the empty text
abbrev pub no_text : Text
no_text = record { bytes = replicate 32 0; len = 0 }

-- a text stands at an index: the slice does not end before it
abbrev pub holds : List ℕ → ℕ → Bool
holds s at = leb (at + 33) (length s)

-- the text at an index is t
unfoldable pub text_is : List ℕ → ℕ → Text → Bool
text_is s at t = holds s at && same_text (text_at s at) t

-- a text as it is stored stands at an index
unfoldable pub text_fine : List ℕ → ℕ → Bool
text_fine s at = holds s at && is_text (text_at s at)

-- one byte more, or the text as it is if it is full
unfoldable pub push_text : Text → ℕ → Text
push_text t x = if ltb t.len 32 then record { bytes = set t.bytes t.len x; len = t.len + 1 } otherwise t

abbrev pub push_all : Text → List ℕ → Text
push_all t [] = t
push_all t (x ∷ xs) = push_all (push_text t x) xs
