-- The fields of the code are those of the format's table, and no list has a code above a byte. Rests on Ranges and format's laws.
use Rattle.std.specs.Prelude.{List as Row}
use Rattle.std.proofs.Common.{◌≡◌, refl, ℕ, zero, suc, ◌≤◌, Bool, true, false, [], ◌∷◌, get_or, eqb, arith, rules}
use Rattle.prelude.specs.Cases.{if◌then◌otherwise◌}
use Rattle.format.specs.Codes.{listed, is_side, is_ordtype, is_timeinforce, is_exectype, is_status, sides, ordtypes, timesinforce, exectypes, statuses}
use Rattle.format.specs.Format.{fields, size, range, in_range, is_text_bit}
use Rattle.format.specs.Format.{Field as Wanted}
use Rattle.format.specs.Laws.Codes.{small, listed_small}
use Rattle.places.specs.Ranges.{on_list, holds, taken, is_text}
use Rattle.places.specs.declared.Field.{Field}
use Rattle.places.specs.declared.Size.TheVariants.{Text, Bytes}
use Rattle.places.specs.declared.range.List.{List}
use Rattle.places.specs.declared.range.List.TheVariants.{Side, OrdType, TimeInForce, ExecType, Status}
use Rattle.places.specs.declared.range.Range.{Range}
use Rattle.places.specs.declared.range.Range.TheVariants.{Any, UpTo, Between, Code}

unlisted : (v : ℕ) (cs : Row ℕ) → small cs ≡ true → 256 ≤ v → listed v cs ≡ false
unlisted v cs s h = go (listed v cs) refl
  where
    go : (b : Bool) → listed v cs ≡ b → listed v cs ≡ false
    go false e = e
    go true e = absurd (omega (arith, listed_small v cs s e))

pub above : (l : List) (v : ℕ) → 256 ≤ v → on_list l v ≡ false
unfolding is_side is_ordtype is_timeinforce is_exectype is_status sides ordtypes timesinforce exectypes statuses
above Side v h = unlisted v sides refl h
above OrdType v h = unlisted v ordtypes refl h
above TimeInForce v h = unlisted v timesinforce refl h
above ExecType v h = unlisted v exectypes refl h
above Status v h = unlisted v statuses refl h

-- ---- the table

unfoldable pub none : Field
none = record { size = Bytes 0; range = Any }

unfoldable pub bytes : ℕ → Range → Field
bytes n r = record { size = Bytes n; range = r }

unfoldable pub text : Range → Field
text r = record { size = Text; range = r }

unfoldable pub rows : Row Field
rows =
    bytes 2 Any ∷ bytes 2 Any ∷ text (Between 1 20) ∷ text (Between 1 32) ∷ text (Between 1 32) ∷ text (Between 1 32) ∷ text (Between 1 16) ∷ bytes 1 (Code Side)
    ∷ bytes 1 (Code OrdType) ∷ bytes 8 (UpTo 1000000000000) ∷ bytes 8 (UpTo 100000000000000) ∷ bytes 1 (Code TimeInForce) ∷ bytes 1 (Code ExecType)
    ∷ bytes 1 (Code Status) ∷ bytes 8 (UpTo 1000000000000) ∷ bytes 8 (UpTo 100000000000000) ∷ bytes 8 (UpTo 1000000000000) ∷ bytes 8 (UpTo 100000000000000)
    ∷ text (UpTo 32) ∷ bytes 4 Any ∷ text (Between 1 64) ∷ bytes 0 Any ∷ bytes 0 Any ∷ bytes 1 (UpTo 7) ∷ bytes 8 (UpTo 1000000000000) ∷ bytes 8 Any
    ∷ bytes 16 Any ∷ bytes 1 (Between 1 18) ∷ bytes 1 (Between 1 2) ∷ bytes 1 (Between 1 2) ∷ text (Between 1 32) ∷ bytes 1 (UpTo 3) ∷ []

-- a field of the code is one of the format
abbrev Same : ℕ → Field → Wanted → Type 0
Same v r f = (taken r.size ≡ f.size) × (is_text r.size ≡ eqb f.size 255) × (holds r.range v ≡ in_range f.range v)

Alike : ℕ → Row Field → Row Wanted → Type 0
Alike v [] [] = Unit {0}
Alike v [] (f ∷ fs) = ⊥
Alike v (r ∷ rs) [] = ⊥
Alike v (r ∷ rs) (f ∷ fs) = Same v r f × Alike v rs fs

at : (v b : ℕ) (rs : Row Field) (fs : Row Wanted) → Alike v rs fs → Same v (get_or rs b none) (get_or fs b (record { size = 0; range = 0 }))
unfolding in_range if◌then◌otherwise◌ Alike none
at v b [] [] h = (refl, refl, refl)
at v b [] (f ∷ fs) h = absurd h
at v b (r ∷ rs) [] h = absurd h
at v zero (r ∷ rs) (f ∷ fs) h = h.0
at v (suc b) (r ∷ rs) (f ∷ fs) h = at v b rs fs h.1

alike : (v : ℕ) → Alike v rows fields
unfolding in_range if◌then◌otherwise◌ Alike rows fields bytes text
alike v = search rules

-- by field
pub table : (b v : ℕ) → (taken (get_or rows b none).size ≡ size b) × (is_text (get_or rows b none).size ≡ is_text_bit b) × (holds (get_or rows b none).range v ≡ in_range (range b) v)
unfolding size range
table b v = at v b rows fields (alike v)
