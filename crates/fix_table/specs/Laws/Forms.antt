-- The forms of the bits, as code has them. Rests on Table.
use Rattle.std.specs.Prelude.{◌≡◌, ℕ, ◌≤◌, ◌<◌, List, get_or, map, refl}
use Rattle.std.proofs.Common.{ap, sym, ◌∙◌, arith, ne_eqb}
use Rattle.std.proofs.Math.ListN.{get_or-eq_default}
use Rattle.std.proofs.Math.Decide.{dec_lt}
use Rattle.std.specs.List.{range_with_len}
use Rattle.std.proofs.lemmas.List.FromFn.{get_or-map-range_with_len}
use Rattle.prelude.specs.Cases.{if◌then◌otherwise◌}
use Rattle.format.specs.Format.{size, range, fields}
use Rattle.fix_words.specs.Values.{places}
use Rattle.fix_table.specs.Table.{form_of}
use Rattle.fix_table.specs.declared.Form.{Form}
use Rattle.fix_table.specs.declared.Form.TheVariants.{Number}

pub form_is : (fs : List Form) (b : ℕ) (d : Form) → fs ≡ map form_of (range_with_len 0 32) → b < 32 → get_or fs b d ≡ form_of b
form_is fs b d e h = ap (λ (l : List Form). get_or l b d) e ∙ get_or-map-range_with_len form_of 0 32 b b d h (omega arith)

-- past 31 there is no field
pub form_past : (b : ℕ) → 32 ≤ b → form_of b ≡ Number 0
unfolding form_of size range fields places if◌then◌otherwise◌
form_past b h = rw (get_or-eq_default fields (record { size = 0; range = 0 }) {n = b} h, ne_eqb b 26 (λ e. absurd (omega arith))) refl

-- the list read at any place, past its end as a whole number
pub form_all : (fs : List Form) (b : ℕ) → fs ≡ map form_of (range_with_len 0 32) → get_or fs b (Number 0) ≡ form_of b
form_all fs b e = go (dec_lt b 32)
  where
    go : Dec (b < 32) → get_or fs b (Number 0) ≡ form_of b
    go (yes h) = form_is fs b (Number 0) e h
    go (no h) =
        ap (λ (l : List Form). get_or l b (Number 0)) e
        ∙ get_or-eq_default (map form_of (range_with_len 0 32)) (Number 0) {n = b} (omega (arith))
        ∙ sym (form_past b (omega arith))
