-- `fixed_fits`: one of the fixed texts. Rests on Laws.Special.
use Rattle.std.proofs.Common.{◌≡◌, ℕ, zero, suc, ◌+◌, ◌≤◌, ◌<◌, Bool, true, false, ◌||◌, List, [], slice_index_or, nat_le, None, refl, sym, ap, ◌∙◌, subst, arith, rules, tests}
use Rattle.std.specs.List.{range_with_len, list_any}
use Rattle.std.proofs.lemmas.Iterator.{YieldsList-from_range}
use Rattle.std.proofs.lemmas.Iterator.Search.{any_from_yields_List}
use Rattle.prelude.specs.Below.{first_below}
use Rattle.prelude.specs.Laws.Below.{first_more}
use Rattle.fix_words.specs.Lists.{same}
use Rattle.fix_words.specs.Values.{fixed_text_number}
use Rattle.fix_words.specs.Laws.Lists.{same_list}
use Rattle.fix_table.specs.Table.{spoken}
use Rattle.fix_reader.specs.Laws.Ending.{same_turned}
use Rattle.fix_reader.specs.Laws.Special.{is_fixed, fixed_found, fixed_missing, fixed_start, spoken_fixed}
use Rattle.fix_reader.proofs.values.fixed_fits.Goals as goal

-- the value is fixed text n, as code reads it
abbrev is_spoken : List ℕ → ℕ → Bool
is_spoken v n = same v (slice_index_or spoken n [])

spoken_is : (v : List ℕ) (n : ℕ) → n < 19 → is_spoken v n ≡ is_fixed v n
spoken_is v n h = ap (same v) (spoken_fixed n h) ∙ same_turned v _

-- any of the k fixed texts from i on, if none of those before is the value
any_fixed : (v : List ℕ) (k i : ℕ) → i + k ≡ 19 → 1 ≤ i → first_below (is_fixed v) i ≡ None → list_any (is_spoken v) (range_with_len i k) ≡ nat_le 1 (fixed_text_number v)
any_fixed v zero i e l h = let z : i ≡ 19 = omega arith in sym (fixed_missing v (subst (λ (n : ℕ). first_below (is_fixed v) n ≡ None) z h))
any_fixed v (suc k) i e l h = go (is_fixed v i) refl (any_fixed v k (i + 1) (omega arith) (omega arith))
  where
    go : (b : Bool) → is_fixed v i ≡ b → (first_below (is_fixed v) (i + 1) ≡ None → list_any (is_spoken v) (range_with_len (i + 1) k) ≡ nat_le 1 (fixed_text_number v))
        → (is_spoken v i || list_any (is_spoken v) (range_with_len (i + 1) k)) ≡ nat_le 1 (fixed_text_number v)
    go true t more = ap (λ (b : Bool). b || list_any (is_spoken v) (range_with_len (i + 1) k)) (spoken_is v i (omega arith) ∙ t) ∙ sym (fixed_found v i l (omega arith) h t)
    go false t more =
        ap (λ (b : Bool). b || list_any (is_spoken v) (range_with_len (i + 1) k)) (spoken_is v i (omega arith) ∙ t)
        ∙ more (first_more (is_fixed v) i h t)

pub returns-then-not-is_empty : goal.returns-then-not-is_empty
returns-then-not-is_empty c =
    let v = c.args.v.now in
    any_from_yields_List (is_spoken v) _ _ _ c.any.ensures.ran (YieldsList-from_range 1 19 18 (cc) (omega arith)) (λ x b q k. search (rules, tests, same_list))
    ∙ any_fixed v 18 1 refl (omega arith) (fixed_start v (search (rules, tests)))
