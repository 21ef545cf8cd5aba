-- What holds of the five tables, computed once for each: what a message's kind is known by, which bits a row must have, what is left unsaid.
-- Rests on Message.
use Rattle.std.proofs.Common.{ℕ, suc, ◌<◌, ◌≡◌, refl, List, [], ◌∷◌, Bool, true, false, not, ◌&&◌, ◌||◌, eqb, leb, ltb, length, get_or, take, Option, None, Some, sym, subst, ◌∙◌, ⊎_elim, arith, eqb-true, eq-eqb, leb-true, ltb-true}
use Rattle.std.proofs.Math.Decide.{ℕ_discrete}
use Rattle.std.proofs.lemmas.Bool.{not-true, and_parts, and_from, or_cases, or_right}
use Rattle.std.specs.Option.{is_some}
use Rattle.prelude.specs.Cases.{if◌then◌otherwise◌}
use Rattle.prelude.specs.Laws.Cases.{if_false, clash}
use Rattle.prelude.specs.Below.{all_below}
use Rattle.prelude.specs.Laws.Below.{all_elim}
use Rattle.bits.specs.Map.{bit}
use Rattle.prelude.specs.Number.{number}
use Rattle.format.specs.Codes.{within, listed, sides, ordtypes, timesinforce, statuses, exectypes, is_side, is_ordtype, is_timeinforce, is_status, is_exectype}
use Rattle.format.specs.Format.{size, range, fields, is_text_bit, in_range, required, allowed, required_bits, allowed_bits, side, status}
use Rattle.format.specs.Places.{value}
use Rattle.fix_words.specs.Lists.{every, is_print}
use Rattle.fix_words.specs.Rows.{Row, Values, in_rows}
use Rattle.fix_words.specs.Values.{tables, rows, types, type_of, kind_of, fixed_text, texts, unsaid}
use Rattle.fix_words.specs.Message.{shape_at, range_at, text_at}
use Rattle.fix_words.specs.Laws.Held.{shape_long, one_byte, number_one}
use Rattle.fix_words.specs.Laws.Rows.{all_apart, stand}

-- a kind is one of the five
pub by_kind_lem : (P : ℕ → Type 0) → P 16 → P 17 → P 18 → P 19 → P 20 → (k : ℕ) → within 16 20 k ≡ true → P k
by_kind_lem P p16 p17 p18 p19 p20 k e = go (ℕ_discrete k 16) (ℕ_discrete k 17) (ℕ_discrete k 18) (ℕ_discrete k 19) (ℕ_discrete k 20)
  where
    go : Dec (k ≡ 16) → Dec (k ≡ 17) → Dec (k ≡ 18) → Dec (k ≡ 19) → Dec (k ≡ 20) → P k
    go (yes a) b c d f = subst P (sym a) p16
    go (no a) (yes b) c d f = subst P (sym b) p17
    go (no a) (no b) (yes c) d f = subst P (sym c) p18
    go (no a) (no b) (no c) (yes d) f = subst P (sym d) p19
    go (no a) (no b) (no c) (no d) (yes f) = subst P (sym f) p20
    go (no a) (no b) (no c) (no d) (no f) =
        let h = and_parts (leb 16 k) (leb k 20) e in
        absurd (omega (arith, leb-true 16 k h.0, leb-true k 20 h.1))

pub kind_back : (k : ℕ) → within 16 20 k ≡ true → kind_of (type_of k) ≡ k
unfolding kind_of type_of types if◌then◌otherwise◌
kind_back = by_kind_lem (λ k. kind_of (type_of k) ≡ k) refl refl refl refl refl

-- the tag behind the rows is 60 or 10
pub rows_apart : (k : ℕ) → within 16 20 k ≡ true → (all_apart (rows k) 60 && all_apart (rows k) 10) ≡ true
unfolding rows tables
rows_apart = by_kind_lem (λ k. (all_apart (rows k) 60 && all_apart (rows k) 10) ≡ true) refl refl refl refl refl

-- ---- bits of rows

abbrev small : List Row → Bool
small [] = true
small (r ∷ rs) = ltb r.bit 32 && small rs

small_row : (rs : List Row) → small rs ≡ true → (b : ℕ) → in_rows rs b ≡ true → b < 32
small_row [] s b e = clash false e refl
small_row (r ∷ rs) s b e =
    let h = and_parts (ltb r.bit 32) (small rs) s in
    ⊎_elim
    (λ q. let z : r.bit ≡ b = eqb-true r.bit b q in omega (arith, ltb-true r.bit 32 h.0))
    (λ q. small_row rs h.1 b q)
    (or_cases (eqb r.bit b) (in_rows rs b) e)

rows_small : (k : ℕ) → within 16 20 k ≡ true → small (rows k) ≡ true
unfolding rows tables
rows_small = by_kind_lem (λ k. small (rows k) ≡ true) refl refl refl refl refl

pub row_small : (k : ℕ) → within 16 20 k ≡ true → (b : ℕ) → in_rows (rows k) b ≡ true → b < 32
row_small k e = small_row (rows k) (rows_small k e)

-- an ExecID comes with the order's name
pub with_name : (k : ℕ) → within 16 20 k ≡ true → in_rows (rows k) 25 ≡ true → in_rows (rows k) 2 ≡ true
unfolding rows tables
with_name = by_kind_lem (λ k. in_rows (rows k) 25 ≡ true → in_rows (rows k) 2 ≡ true) (λ e. refl) (λ e. refl) (λ e. clash false e refl) (λ e. clash false e refl) (λ e. clash false e refl)

-- ---- rows that must stand

abbrev pub must_in : List Row → ℕ → Bool
must_in [] b = false
must_in (r ∷ rs) b = (eqb r.bit b && r.must) || must_in rs b

pub stand_all : (vs : Values) (rs : List Row) → ((b : ℕ) → must_in rs b ≡ true → is_some (vs b) ≡ true) → stand rs vs ≡ true
stand_all vs [] h = refl
stand_all vs (r ∷ rs) h =
    and_from _ _ (go r.must refl) (stand_all vs rs (λ b q. h b (or_right (eqb r.bit b && r.must) (must_in rs b) q)))
  where
    go : (m : Bool) → r.must ≡ m → (not r.must || is_some (vs r.bit)) ≡ true
    go true e = or_right (not r.must) _ (h r.bit (rw (eq-eqb r.bit r.bit refl, e) refl))
    go false e = rw e refl

pub must_row : (rs : List Row) (b : ℕ) → must_in rs b ≡ true → in_rows rs b ≡ true
must_row [] b e = e
must_row (r ∷ rs) b e =
    ⊎_elim
    (λ q. rw (and_parts (eqb r.bit b) r.must q).0 refl)
    (λ q. or_right (eqb r.bit b) (in_rows rs b) (must_row rs b q))
    (or_cases (eqb r.bit b && r.must) (must_in rs b) e)

-- its bit must stand in the record, but for a reject's name and text
pub must_stand : (k : ℕ) → within 16 20 k ≡ true → (b : ℕ) → b < 32
    → (not (must_in (rows k) b) || (bit (required k) b || (eqb k 17 && (eqb b 2 || eqb b 20)))) ≡ true
unfolding rows tables required required_bits all_below
must_stand =
    by_kind_lem (λ k. (b : ℕ) → b < 32 → test k b ≡ true) (all_elim (test 16) 32 refl) (all_elim (test 17) 32 refl) (all_elim (test 18) 32 refl)
    (all_elim (test 19) 32 refl) (all_elim (test 20) 32 refl)
  where
    test : ℕ → ℕ → Bool
    test k b = not (must_in (rows k) b) || (bit (required k) b || (eqb k 17 && (eqb b 2 || eqb b 20)))

-- ---- what is not carried

-- all that is asked of one bit
abbrev pub right : ℕ → ℕ → Option (List ℕ) → Bool
right k b o = shape_at k b o && (range_at b o && text_at b o)

-- a reason as its kind has one
abbrev pub reasoned : ℕ → Option (List ℕ) → Bool
reasoned k o = if eqb k 16 then true otherwise if eqb k 17 then is_some o otherwise not (is_some o)

abbrev quiet : ℕ → Option (List ℕ) → ℕ → Bool
quiet k o b = in_rows (rows k) b || right k b (unsaid k o b)

pub unsaid_right : (k : ℕ) → within 16 20 k ≡ true → (o : Option (List ℕ)) → reasoned k o ≡ true → (b : ℕ) → b < 32 → quiet k o b ≡ true
unfolding rows tables required required_bits allowed allowed_bits all_below unsaid if◌then◌otherwise◌ size range fields in_range value is_side sides is_ordtype ordtypes
unsaid_right =
    by_kind_lem (λ k. (o : Option (List ℕ)) → reasoned k o ≡ true → (b : ℕ) → b < 32 → quiet k o b ≡ true)
    (λ o. elim o as (λ (o : Option (List ℕ)). reasoned 16 o ≡ true → (b : ℕ) → b < 32 → quiet 16 o b ≡ true) [
      | None ↦ λ e. all_elim (quiet 16 None) 32 refl
      | Some v ↦ λ e. all_elim (quiet 16 (Some v)) 32 refl
    ])
    (λ o. elim o as (λ (o : Option (List ℕ)). reasoned 17 o ≡ true → (b : ℕ) → b < 32 → quiet 17 o b ≡ true) [
      | None ↦ λ e. clash false e refl
      | Some v ↦ λ e. all_elim (quiet 17 (Some v)) 32 refl
    ])
    (λ o. elim o as (λ (o : Option (List ℕ)). reasoned 18 o ≡ true → (b : ℕ) → b < 32 → quiet 18 o b ≡ true) [
      | None ↦ λ e. all_elim (quiet 18 None) 32 refl
      | Some v ↦ λ e. clash false e refl
    ])
    (λ o. elim o as (λ (o : Option (List ℕ)). reasoned 19 o ≡ true → (b : ℕ) → b < 32 → quiet 19 o b ≡ true) [
      | None ↦ λ e. all_elim (quiet 19 None) 32 refl
      | Some v ↦ λ e. clash false e refl
    ])
    (λ o. elim o as (λ (o : Option (List ℕ)). reasoned 20 o ≡ true → (b : ℕ) → b < 32 → quiet 20 o b ≡ true) [
      | None ↦ λ e. all_elim (quiet 20 None) 32 refl
      | Some v ↦ λ e. clash false e refl
    ])

-- ---- fixed texts as texts

pub fixed_right : (n : ℕ) → n < 18 → right 17 20 (Some (fixed_text (suc n))) ≡ true
unfolding fixed_text texts required required_bits allowed allowed_bits all_below size range fields in_range value if◌then◌otherwise◌
fixed_right = all_elim (λ n. right 17 20 (Some (fixed_text (suc n)))) 18 refl

-- ---- codes print

listed_print : (v : ℕ) (cs : List ℕ) → every is_print cs ≡ true → listed v cs ≡ true → is_print v ≡ true
listed_print v [] p e = clash false e refl
listed_print v (c ∷ cs) p e =
    let h = and_parts (is_print c) (every is_print cs) p in
    ⊎_elim (λ q. rw (eqb-true v c q) h.0) (λ q. listed_print v cs h.1 q) (or_cases (eqb v c) (listed v cs) e)

range_print : (g v : ℕ) → within side status g ≡ true → in_range g v ≡ true → is_print v ≡ true
unfolding in_range if◌then◌otherwise◌ is_side sides is_ordtype ordtypes is_timeinforce timesinforce is_exectype exectypes is_status statuses
range_print g v w e = go (ℕ_discrete g 3) (ℕ_discrete g 4) (ℕ_discrete g 5) (ℕ_discrete g 6) (ℕ_discrete g 7)
  where
    at : (j : ℕ) → g ≡ j → in_range j v ≡ true
    at j q = subst (λ (j : ℕ). in_range j v ≡ true) q e

    go : Dec (g ≡ 3) → Dec (g ≡ 4) → Dec (g ≡ 5) → Dec (g ≡ 6) → Dec (g ≡ 7) → is_print v ≡ true
    go (yes a) b c d f = listed_print v sides refl (at 3 a)
    go (no a) (yes b) c d f = listed_print v ordtypes refl (at 4 b)
    go (no a) (no b) (yes c) d f = listed_print v timesinforce refl (at 5 c)
    go (no a) (no b) (no c) (yes d) f = listed_print v exectypes refl (at 6 d)
    go (no a) (no b) (no c) (no d) (yes f) = listed_print v statuses refl (at 7 f)
    go (no a) (no b) (no c) (no d) (no f) =
        let h = and_parts (leb 3 g) (leb g 7) w in
        absurd (omega (arith, leb-true 3 g h.0, leb-true g 7 h.1))

-- a code is one byte
code_size : (b : ℕ) → b < 32 → (not (within side status (range b)) || eqb (size b) 1) ≡ true
unfolding size range fields all_below
code_size = all_elim (λ b. not (within side status (range b)) || eqb (size b) 1) 32 refl

pub code_print : (k b : ℕ) (c : List ℕ) → b < 32 → is_text_bit b ≡ false → within side status (range b) ≡ true → shape_at k b (Some c) ≡ true
    → range_at b (Some c) ≡ true → every is_print c ≡ true
unfolding value
code_print k b c h t w e r =
    let z : size b ≡ 1 =
    ⊎_elim (λ q. clash (within side status (range b)) w (not-true _ q)) (λ q. eqb-true (size b) 1 q)
    (or_cases (not (within side status (range b))) (eqb (size b) 1) (code_size b h)) in
    let l : length c ≡ 1 = shape_long k b c e t ∙ z in
    let v : value b c ≡ get_or c 0 0 = if_false (is_text_bit b) (length c) (number (take 8 c)) t ∙ number_one c l in
    let p : is_print (get_or c 0 0) ≡ true = range_print (range b) (get_or c 0 0) w (rw v at (and_parts (in_range (range b) (value b c)) _ r).0) in
    rw (one_byte c l) (and_from _ _ p refl)
