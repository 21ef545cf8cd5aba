-- Bytes written as characters, for samples and facts; `|` stands for the byte 1, which ends a field.
use Rattle.std.specs.Prelude.{ℕ, List, [] as ended, ◌∷◌ as ◌then◌, eqb}
use Prim.Native.Char.{code}
use Prim.Native.String.{String, [], ◌∷◌}
use Rattle.prelude.specs.Cases.{if◌then◌otherwise◌}

abbrev byte_of : ℕ → ℕ
byte_of c = if eqb c 124 then 1 otherwise c

abbrev pub ascii : String → List ℕ
ascii [] = ended
ascii (c ∷ s) = byte_of (code c) then ascii s
