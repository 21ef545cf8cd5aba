-- A text as it is written. Rests on prelude.
use Rattle.std.specs.Prelude.{List, [], ◌∷◌, ◌++◌, ℕ}
use Rattle.prelude.specs.declared.Text.{Text}

-- a text as it is written: its bytes, then its length
unfoldable pub text_bytes : Text → List ℕ
text_bytes t = t.bytes ++ (t.len ∷ [])
