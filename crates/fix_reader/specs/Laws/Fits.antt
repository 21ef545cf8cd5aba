-- The values that the writer yields, asked one by one: what it means that a value fits, and the bits and rows that go their own way.
-- Rests on Again and Walk.
use Rattle.std.specs.Prelude.{◌≡◌, ℕ, ◌<◌, Bool, true, false, not, ◌&&◌, ◌||◌, ◌⊎◌, List, [], ◌∷◌, ◌++◌, drop, ◌==◌, nat_eq, Option, None, Some, refl}
use Rattle.std.proofs.Common.{sym, ap, subst, ◌∙◌, inl, inr, ne_eqb}
use Rattle.std.proofs.Math.Bool.{and-false}
use Rattle.std.proofs.Math.Decide.{ℕ_discrete}
use Rattle.std.proofs.lemmas.Bool.{and_parts, and_from}
use Rattle.std.specs.Option.{is_some}
use Rattle.prelude.specs.Cases.{if◌then◌otherwise◌}
use Rattle.prelude.specs.Laws.Cases.{clash}
use Rattle.prelude.specs.Below.{all_below}
use Rattle.prelude.specs.Laws.Below.{all_elim}
use Rattle.prelude.specs.Number.{number, bytes_of}
use Rattle.bits.specs.Map.{bit}
use Rattle.decimal.specs.Decimal.{digits, number_in}
use Rattle.format.specs.Codes.{within}
use Rattle.format.specs.Format.{required, required_bits}
use Rattle.fix_words.specs.Lists.{same, after}
use Rattle.fix_words.specs.Spelling.{Field}
use Rattle.fix_words.specs.Rows.{Values, value_in, in_rows}
use Rattle.fix_words.specs.Values.{tables, rows, fixed_text_number, spelling, over, fixed_text_in, value_of, unspelled, held_in, unsaid}
use Rattle.fix_words.specs.Message.{paired}
use Rattle.fix_words.specs.Laws.Lists.{same_true, same_self}
use Rattle.fix_words.proofs.Laws.Kinds.{by_kind_lem, must_in, right}
use Rattle.fix_reader.specs.Laws.Walk.{Asked, first_value, head_value}

-- a value spelled again from what it holds, if 37's value is nm
unfoldable pub respelled : List ℕ → ℕ → List ℕ → List ℕ
respelled nm b v =
    if b == 2 then v otherwise
    if b == 20 then v otherwise
    if b == 25 then nm ++ (46 ∷ digits (number (bytes_of 8 (number_in (after 46 v))))) otherwise
    if b == 27 then fixed_text_in (fixed_text_number v ∷ []) otherwise
    spelling b (unspelled b v)

-- THE VALUE v OF BIT b IS ONE THAT THE WRITER YIELDS: what it holds passes the writer's questions, and is spelled so
unfoldable pub fits : ℕ → List ℕ → ℕ → List ℕ → Bool
fits k nm b v = right k b (held_in b (Some v)) && same (respelled nm b v) v

-- and a report has at most one text
abbrev pub asked_by : ℕ → List ℕ → Asked
asked_by k nm seen b v = fits k nm b v && not (seen && b == 27)

pub asked_stops : (k : ℕ) (nm v : List ℕ) → asked_by k nm true 27 v ≡ false
asked_stops k nm v = and-false (fits k nm 27 v)

pub asked_fits : (k : ℕ) (nm : List ℕ) (seen : Bool) (b : ℕ) (v : List ℕ) → asked_by k nm seen b v ≡ true → fits k nm b v ≡ true
asked_fits k nm seen b v e = (and_parts (fits k nm b v) _ e).0

module _ (k : ℕ) (nm : List ℕ) (b : ℕ) (v : List ℕ) where
  pub fits_right : fits k nm b v ≡ true → right k b (held_in b (Some v)) ≡ true
  unfolding fits
  fits_right e = (and_parts (right k b (held_in b (Some v))) _ e).0

  pub fits_same : fits k nm b v ≡ true → respelled nm b v ≡ v
  unfolding fits
  fits_same e = same_true (respelled nm b v) v (and_parts (right k b (held_in b (Some v))) _ e).1

  pub fits_is : right k b (held_in b (Some v)) ≡ true → respelled nm b v ≡ v → fits k nm b v ≡ true
  unfolding fits
  fits_is r e = and_from _ _ r (ap (λ (w : List ℕ). same w v) e ∙ same_self v)

-- ---- the bits that go their own way

pub by_bit : (P : ℕ → Type 0) → P 2 → P 20 → P 25 → P 27 → (b : ℕ)
    → ((b == 2) ≡ false → (b == 20) ≡ false → (b == 25) ≡ false → (b == 27) ≡ false → P b) → P b
by_bit P p2 p20 p25 p27 b other = go (ℕ_discrete b 2) (ℕ_discrete b 20) (ℕ_discrete b 25) (ℕ_discrete b 27)
  where
    go : Dec (b ≡ 2) → Dec (b ≡ 20) → Dec (b ≡ 25) → Dec (b ≡ 27) → P b
    go (yes x) y z w = subst P (sym x) p2
    go (no x) (yes y) z w = subst P (sym y) p20
    go (no x) (no y) (yes z) w = subst P (sym z) p25
    go (no x) (no y) (no z) (yes w) = subst P (sym w) p27
    go (no x) (no y) (no z) (no w) = other (ne_eqb b 2 x) (ne_eqb b 20 y) (ne_eqb b 25 z) (ne_eqb b 27 w)

module _ (b : ℕ) (n2 : nat_eq b 2 ≡ false) (n20 : nat_eq b 20 ≡ false) (n25 : nat_eq b 25 ≡ false) (n27 : nat_eq b 27 ≡ false) where
  pub plain_value : (k : ℕ) (at : Values) → value_of k at b ≡ over (spelling b) (at b)
  unfolding value_of if◌then◌otherwise◌
  plain_value k at = rw (n2, n20, n25, n27) refl

  pub plain_held : (v : List ℕ) → held_in b (Some v) ≡ Some (unspelled b v)
  unfolding held_in if◌then◌otherwise◌
  plain_held v = rw (n2, n25, n27) refl

  pub plain_respelled : (nm v : List ℕ) → respelled nm b v ≡ spelling b (unspelled b v)
  unfolding respelled if◌then◌otherwise◌
  plain_respelled nm v = rw (n2, n20, n25, n27) refl

pub held_none_none : (b : ℕ) → held_in b None ≡ None
unfolding held_in if◌then◌otherwise◌
held_none_none b =
    by_bit (λ b. held_in b None ≡ None) refl refl refl refl b (λ x y z w. rw (x, z, w) refl)

pub held_some : (b : ℕ) → (b == 2) ≡ false → (o : Option (List ℕ)) → is_some (held_in b o) ≡ is_some o
unfolding held_in if◌then◌otherwise◌
held_some b n o =
    by_bit (λ b. (b == 2) ≡ false → (o : Option (List ℕ)) → is_some (held_in b o) ≡ is_some o)
    (λ e. clash true refl e)
    (λ e o. elim o as (λ (o : Option (List ℕ)). is_some (over (unspelled 20) o) ≡ is_some o) [ None ↦ refl | Some v ↦ refl ])
    (λ e o. elim o as (λ (o : Option (List ℕ)). is_some (over (λ x. bytes_of 8 (number_in (after 46 x))) o) ≡ is_some o) [ None ↦ refl | Some v ↦ refl ])
    (λ e o. elim o as (λ (o : Option (List ℕ)). is_some (over (λ x. fixed_text_number x ∷ []) o) ≡ is_some o) [ None ↦ refl | Some v ↦ refl ])
    b (λ x y z w e o. rw (x, z, w) (elim o as (λ (o : Option (List ℕ)). is_some (over (unspelled b) o) ≡ is_some o) [ None ↦ refl | Some v ↦ refl ]))
    n o

-- a row that may be missing is of a bit that may
pub may_miss : (k : ℕ) → within 16 20 k ≡ true → (b : ℕ) → b < 32 → (not (in_rows (rows k) b) || (must_in (rows k) b || not (bit (required k) b))) ≡ true
unfolding rows tables required required_bits all_below
may_miss =
    by_kind_lem (λ k. (b : ℕ) → b < 32 → test k b ≡ true) (all_elim (test 16) 32 refl) (all_elim (test 17) 32 refl) (all_elim (test 18) 32 refl)
    (all_elim (test 19) 32 refl) (all_elim (test 20) 32 refl)
  where
    test : ℕ → ℕ → Bool
    test k b = not (in_rows (rows k) b) || (must_in (rows k) b || not (bit (required k) b))

-- the order's name is the first field of a report
pub name_first : (gs : List Field) → is_some (value_in (rows 16) gs 2) ≡ true → value_in (rows 16) gs 2 ≡ Some (first_value gs)
unfolding rows tables
name_first gs e = head_value (record { tag = 37; bit = 2; must = true }) (drop 1 (rows 16)) gs e

pub must_name : (k : ℕ) → within 16 20 k ≡ true → in_rows (rows k) 2 ≡ true → must_in (rows k) 2 ≡ true
unfolding rows tables
must_name =
    by_kind_lem (λ k. in_rows (rows k) 2 ≡ true → must_in (rows k) 2 ≡ true) (λ e. refl) (λ e. refl) (λ e. clash false e refl) (λ e. clash false e refl) (λ e. clash false e refl)

pub only_report : (k : ℕ) → within 16 20 k ≡ true → in_rows (rows k) 25 ≡ true → k ≡ 16
unfolding rows tables
only_report =
    by_kind_lem (λ k. in_rows (rows k) 25 ≡ true → k ≡ 16) (λ e. refl) (λ e. clash false e refl) (λ e. clash false e refl) (λ e. clash false e refl) (λ e. clash false e refl)

pub name_rows : (k : ℕ) → within 16 20 k ≡ true → in_rows (rows k) 2 ≡ true → (k ≡ 16) ⊎ (k ≡ 17)
unfolding rows tables
name_rows =
    by_kind_lem (λ k. in_rows (rows k) 2 ≡ true → (k ≡ 16) ⊎ (k ≡ 17)) (λ e. inl refl) (λ e. inr refl) (λ e. clash false e refl) (λ e. clash false e refl) (λ e. clash false e refl)

pub some_over : (f : List ℕ → List ℕ) (o : Option (List ℕ)) → is_some (over f o) ≡ is_some o
some_over f None = refl
some_over f (Some c) = refl

pub text_report : (k : ℕ) → within 16 20 k ≡ true → in_rows (rows k) 27 ≡ true → k ≡ 16
unfolding rows tables
text_report =
    by_kind_lem (λ k. in_rows (rows k) 27 ≡ true → k ≡ 16) (λ e. refl) (λ e. clash false e refl) (λ e. clash false e refl) (λ e. clash false e refl) (λ e. clash false e refl)

if_self : (x : Bool) → (if x then x otherwise not x) ≡ true
unfolding if◌then◌otherwise◌
if_self true = refl
if_self false = refl

pub paired_16 : (at : Values) (x : Bool) → is_some (at 19) ≡ x → is_some (at 28) ≡ x → (is_some (at 20) && is_some (at 27)) ≡ false → paired 16 at ≡ true
unfolding paired if◌then◌otherwise◌
paired_16 at x p q r = rw (p, q) (and_from _ _ (if_self x) (rw r refl))

pub paired_17 : (at : Values) → is_some (at 20) ≡ true → is_some (at 27) ≡ false → paired 17 at ≡ true
unfolding paired if◌then◌otherwise◌
paired_17 at p q = rw (p, q) refl

pub both_out : (at : Values) → is_some (at 20) ≡ true → is_some (at 27) ≡ true → paired 16 at ≡ false
unfolding paired if◌then◌otherwise◌
both_out at p q = rw (p, q) (and-false (if is_some (at 19) then is_some (at 28) otherwise not (is_some (at 28))))

pub unsaid_origin : (k : ℕ) (o : Option (List ℕ)) → is_some (unsaid k o 28) ≡ is_some o
unfolding unsaid if◌then◌otherwise◌
unsaid_origin k None = refl
unsaid_origin k (Some v) = refl

pub unsaid_fixed : (o : Option (List ℕ)) → unsaid 17 o 27 ≡ None
unfolding unsaid if◌then◌otherwise◌ required required_bits
unsaid_fixed o = refl
