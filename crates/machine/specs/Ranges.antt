-- The ranges of the texts that the book stores; those of codes, quantities and prices are the format's. Rests on format and prelude's Texts.
use Rattle.std.specs.Prelude.{ℕ, Bool, ◌&&◌, leb}
use Rattle.prelude.specs.Texts.{is_text}
use Rattle.prelude.specs.declared.Text.{Text}
use Rattle.format.specs.Codes.{is_name}

-- a text of low to high bytes, zeros after it
unfoldable pub text_within : (low high : ℕ) → Text → Bool
text_within low high t = is_text t && leb low t.len && leb t.len high

-- an order name, zeros after it
unfoldable pub name_range : Text → Bool
name_range t = is_text t && is_name t
