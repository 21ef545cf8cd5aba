-- Records and a session in small, for samples and facts: a record is its kind and its fields, as bits with what they hold, in the order of the
-- bits. Rests on Ascii, Record and format.
use Rattle.std.specs.Prelude.{ℕ, List, [], ◌∷◌, ◌++◌}
use Prim.Native.String.{String}
use Rattle.prelude.specs.Number.{bytes_of}
use Rattle.bits.specs.Map.{map_of}
use Rattle.format.specs.Wire.{encode}
use Rattle.fix_words.specs.Ascii.{ascii}
use Rattle.fix_words.specs.Record.{Session, session}

pub record Held : Type 0 where
  pub bit : ℕ
  pub bytes : List ℕ

abbrev pub holds : ℕ → List ℕ → Held
holds b c = record { bit = b; bytes = c }

abbrev pub says : ℕ → String → Held
says b s = holds b (ascii s)

-- a number of 8 bytes
abbrev pub word : ℕ → ℕ → Held
word b n = holds b (bytes_of 8 n)

abbrev bits_of : List Held → List ℕ
bits_of [] = []
bits_of (h ∷ hs) = h.bit ∷ bits_of hs

abbrev laid : List Held → List ℕ
laid [] = []
laid (h ∷ hs) = encode h.bit h.bytes ++ laid hs

-- the record's bytes
abbrev pub made : ℕ → List Held → List ℕ
made k hs = k ∷ (bytes_of 4 (map_of (bits_of hs)) ++ laid hs)

abbrev pub here : Session
here = session (ascii "GW") (ascii "DSK") 702 (ascii "t1")
