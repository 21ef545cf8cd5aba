-- A table of records of one size in a buffer. Rests on Span.
use Rattle.std.specs.Prelude.{List, ℕ, ◌+◌, ◌*◌}
use Rattle.prelude.specs.Span.{span, splice}

-- record i of the table at base, as dec reads it
abbrev pub row_at : {A : Type 0} → ℕ → ℕ → (List ℕ → A) → List ℕ → ℕ → A
row_at base size dec b i = dec (span b (base + i * size) size)

-- the buffer with record i of the table written by enc
abbrev pub put_row : {A : Type 0} → ℕ → ℕ → (A → List ℕ) → List ℕ → ℕ → A → List ℕ
put_row base size enc b i a = splice b (base + i * size) (enc a)
