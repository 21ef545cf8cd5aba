-- `format::maps_of` is the table, computed for each byte. Assumes nothing.
use Rattle.std.proofs.Common.{◌≡◌, ◌∷◌, [], ℕ, List, ◌<◌, ◌+◌, true, get_or, eqb, eqb-true, rules, refl, ap, ◌∙◌}
use Rattle.prelude.specs.Below.{all_below}
use Rattle.prelude.specs.Laws.Below.{all_elim}
use Rattle.format.specs.Format.{required, allowed, required_bits, allowed_bits}
use Rattle.format.specs.declared.Maps.{Maps}
use Rattle.format.proofs.maps_of.Goals as goal
use Rattle.format.proofs.maps_of.Goals.{After-unwrap_or as Returns}

none : Maps
none = record { required = 0; permitted = 0 }

row : ℕ → ℕ → Maps
row r p = record { required = r; permitted = p }

maps : List Maps
maps =
    none ∷ row 975 4047 ∷ row 217 2097369 ∷ row 8389337 14684121 ∷ row 249890 2093090 ∷ row 34 34 ∷ row 34 1843234 ∷ row 1048610 1048610 ∷ row 34 34 ∷ row 4 4
    ∷ none ∷ none ∷ none ∷ none ∷ none ∷ none ∷ row 2265150413 2669379549 ∷ row 805838873 941105181 ∷ row 994 4066 ∷ row 1073742818 1074008034 ∷ row 1073742818 1074008034 ∷ []

-- what is computed for each byte holds of it
each : (f g : ℕ → ℕ) → all_below (λ k. eqb (f k) (g k)) 256 ≡ true → (k : ℕ) → k < 256 → f k ≡ g k
each f g e k h = eqb-true (f k) (g k) (all_elim (λ i. eqb (f i) (g i)) 256 e k h)

looked : (c : Returns) → c.unwrap_or.result ≡ get_or maps c.args.kind none
unfolding none row maps
looked c = search rules

pub returns-clause-required : goal.returns-clause-required
unfolding none row maps required required_bits all_below
returns-clause-required c =
    ap (λ (m : Maps). m.required) (looked c) ∙ each (λ k. (get_or maps k none).required) required refl c.args.kind (search rules)

pub returns-clause-permitted : goal.returns-clause-permitted
unfolding none row maps required allowed required_bits allowed_bits all_below
returns-clause-permitted c =
    ap (λ (m : Maps). m.permitted) (looked c) ∙ each (λ k. (get_or maps k none).permitted) (λ k. required k + allowed k) refl c.args.kind (search rules)
