-- What holds of each bit that a table has, computed once: it may stand in the record, and the form of its value. Rests on Kinds.
use Rattle.std.specs.Prelude.{◌≡◌, ℕ, ◌<◌, ◌≤◌, Bool, true, false, not, ◌&&◌, ◌||◌, ◌==◌, ◌≢◌, nat_eq, refl}
use Rattle.std.proofs.Common.{sym, ap, subst, ◌∙◌, ⊎_elim, arith, eqb-true, ne_eqb}
use Rattle.std.proofs.lemmas.Bool.{not-true, and_parts, or_cases}
use Rattle.prelude.specs.Cases.{if◌then◌otherwise◌}
use Rattle.prelude.specs.Laws.Cases.{clash}
use Rattle.prelude.specs.Below.{all_below}
use Rattle.prelude.specs.Laws.Below.{all_elim}
use Rattle.bits.specs.Map.{bit}
use Rattle.format.specs.Codes.{within}
use Rattle.format.specs.Format.{size, range, fields, is_text_bit, required, allowed, required_bits, allowed_bits}
use Rattle.fix_words.specs.Rows.{in_rows}
use Rattle.fix_words.specs.Values.{tables, rows, is_plain, places}
use Rattle.fix_words.proofs.Laws.Kinds.{by_kind_lem, row_small}
use Rattle.fix_table.specs.Table.{form_of}
use Rattle.fix_table.specs.declared.Form.{Form}
use Rattle.fix_table.specs.declared.Form.TheVariants.{Text, Code, Number}

stand_test : (k : ℕ) → within 16 20 k ≡ true → (b : ℕ) → b < 32 → (not (in_rows (rows k) b) || (bit (required k) b || bit (allowed k) b)) ≡ true
unfolding rows tables required required_bits allowed allowed_bits all_below
stand_test =
    by_kind_lem (λ k. (b : ℕ) → b < 32 → test k b ≡ true) (all_elim (test 16) 32 refl) (all_elim (test 17) 32 refl) (all_elim (test 18) 32 refl)
    (all_elim (test 19) 32 refl) (all_elim (test 20) 32 refl)
  where
    test : ℕ → ℕ → Bool
    test k b = not (in_rows (rows k) b) || (bit (required k) b || bit (allowed k) b)

-- a bit of a row may stand in the record
pub may_stand : (k : ℕ) → within 16 20 k ≡ true → (b : ℕ) → in_rows (rows k) b ≡ true → (bit (required k) b || bit (allowed k) b) ≡ true
may_stand k w b i =
    ⊎_elim (λ q. clash (in_rows (rows k) b) i (not-true _ q)) (λ q. q)
    (or_cases (not (in_rows (rows k) b)) _ (stand_test k w b (row_small k w b i)))

-- the order's name must stand in a report
pub name_must : (k : ℕ) → within 16 20 k ≡ true → in_rows (rows k) 2 ≡ true → bit (required k) 2 ≡ not (k == 17)
unfolding rows tables required required_bits
name_must =
    by_kind_lem (λ k. in_rows (rows k) 2 ≡ true → bit (required k) 2 ≡ not (k == 17)) (λ e. refl) (λ e. refl) (λ e. clash false e refl) (λ e. clash false e refl) (λ e. clash false e refl)

-- ---- forms

abbrev as_text : Form → Bool
as_text Text = true
as_text Code = false
as_text (Number p) = false

abbrev as_code : Form → Bool
as_code Text = false
as_code Code = true
as_code (Number p) = false

abbrev decimals : Form → ℕ
decimals Text = 0
decimals Code = 0
decimals (Number p) = p

pub record TextBit (b : ℕ) : Type 0 where
  pub text : is_text_bit b ≡ true
  pub plain : is_plain b ≡ true

abbrev text_test : ℕ → Bool
text_test b = not (as_text (form_of b)) || (is_text_bit b && is_plain b)

all_texts : all_below text_test 32 ≡ true
unfolding form_of is_plain size range fields places if◌then◌otherwise◌ all_below
all_texts = refl

pub text_bit : (b : ℕ) → b < 32 → form_of b ≡ Text → TextBit b
text_bit b h e =
    ⊎_elim (λ q. clash (as_text (form_of b)) (ap as_text e) (not-true _ q))
    (λ q. let p = and_parts (is_text_bit b) (is_plain b) q in record { text = p.0; plain = p.1 })
    (or_cases (not (as_text (form_of b))) (is_text_bit b && is_plain b) (all_elim text_test 32 all_texts b h))

pub record CodeBit (b : ℕ) : Type 0 where
  pub text : is_text_bit b ≡ false
  pub plain : is_plain b ≡ true
  pub one : size b ≡ 1

abbrev code_test : ℕ → Bool
code_test b = not (as_code (form_of b)) || (is_plain b && (not (is_text_bit b) && size b == 1))

all_codes : all_below code_test 32 ≡ true
unfolding form_of is_plain size range fields places if◌then◌otherwise◌ all_below
all_codes = refl

pub code_bit : (b : ℕ) → b < 32 → form_of b ≡ Code → CodeBit b
code_bit b h e =
    ⊎_elim (λ q. clash (as_code (form_of b)) (ap as_code e) (not-true _ q))
    (λ q. let p = and_parts (is_plain b) _ q in
    let t = and_parts (not (is_text_bit b)) (size b == 1) p.1 in
    record { text = not-true _ t.0; plain = p.0; one = eqb-true (size b) 1 t.1 })
    (or_cases (not (as_code (form_of b))) (is_plain b && (not (is_text_bit b) && size b == 1)) (all_elim code_test 32 all_codes b h))

pub record NumberBit (b p : ℕ) : Type 0 where
  pub text : is_text_bit b ≡ false
  pub plain : is_plain b ≡ false
  pub other : nat_eq b 20 ≡ false
  pub places : places b ≡ p
  pub short : size b ≤ 8
  pub sizes : (size b ≢ 8) → (size b ≢ 4) → size b ≡ 1

-- a text, a code, or one that goes its own way
abbrev apart : ℕ → Bool
apart b = as_text (form_of b) || (as_code (form_of b) || (b == 2 || (b == 25 || (b == 26 || b == 27))))

abbrev sized : ℕ → Bool
sized b = size b == 8 || (size b == 4 || size b == 1)

abbrev is_number_bit : ℕ → Bool
is_number_bit b = not (is_plain b) && (not (is_text_bit b) && (not (b == 20) && (places b == decimals (form_of b) && sized b)))

number_test : (k : ℕ) → within 16 20 k ≡ true → (b : ℕ) → b < 32 → (not (in_rows (rows k) b) || (apart b || is_number_bit b)) ≡ true
unfolding rows tables form_of is_plain size range fields places if◌then◌otherwise◌ all_below
number_test =
    by_kind_lem (λ k. (b : ℕ) → b < 32 → test k b ≡ true) (all_elim (test 16) 32 refl) (all_elim (test 17) 32 refl) (all_elim (test 18) 32 refl)
    (all_elim (test 19) 32 refl) (all_elim (test 20) 32 refl)
  where
    test : ℕ → ℕ → Bool
    test k b = not (in_rows (rows k) b) || (apart b || is_number_bit b)

pub number_bit : (k : ℕ) → within 16 20 k ≡ true → (b : ℕ) → in_rows (rows k) b ≡ true → (p : ℕ) → form_of b ≡ Number p
    → (b ≢ 2) → (b ≢ 25) → (b ≢ 26) → (b ≢ 27) → NumberBit b p
number_bit k w b i p f n2 n25 n26 n27 =
    let e : (apart b || is_number_bit b) ≡ true =
    ⊎_elim (λ q. clash (in_rows (rows k) b) i (not-true _ q)) (λ q. q) (or_cases (not (in_rows (rows k) b)) _ (number_test k w b (row_small k w b i))) in
    let o : apart b ≡ false = rw (f, ne_eqb b 2 n2, ne_eqb b 25 n25, ne_eqb b 26 n26, ne_eqb b 27 n27) refl in
    let t : is_number_bit b ≡ true = ⊎_elim (λ q. clash (apart b) q o) (λ q. q) (or_cases (apart b) (is_number_bit b) e) in
    let n = and_parts (not (is_plain b)) _ t in
    let q = and_parts (not (is_text_bit b)) _ n.1 in
    let r = and_parts (not (b == 20)) _ q.1 in
    let u = and_parts (places b == decimals (form_of b)) (sized b) r.1 in
    record {
      text = not-true _ q.0;
      plain = not-true _ n.0;
      other = not-true _ r.0;
      places = eqb-true (places b) (decimals (form_of b)) u.0 ∙ ap decimals f;
      short = ⊎_elim (λ x. omega (arith, eqb-true (size b) 8 x))
          (λ y. ⊎_elim (λ x. omega (arith, eqb-true (size b) 4 x)) (λ x. omega (arith, eqb-true (size b) 1 x)) (or_cases (size b == 4) (size b == 1) y))
          (or_cases (size b == 8) (size b == 4 || size b == 1) u.1);
      sizes = λ a8 a4. ⊎_elim (λ x. absurd (a8 (eqb-true (size b) 8 x)))
          (λ y. ⊎_elim (λ x. absurd (a4 (eqb-true (size b) 4 x))) (λ x. eqb-true (size b) 1 x) (or_cases (size b == 4) (size b == 1) y))
          (or_cases (size b == 8) (size b == 4 || size b == 1) u.1);
    }

-- neither a text nor a code: a number, and of so many decimals
pub number_bit_else : (k : ℕ) → within 16 20 k ≡ true → (b : ℕ) → in_rows (rows k) b ≡ true → (form_of b ≢ Text) → (form_of b ≢ Code)
    → (b ≢ 2) → (b ≢ 25) → (b ≢ 26) → (b ≢ 27) → (form_of b ≡ Number (places b)) × NumberBit b (places b)
number_bit_else k w b i t c n2 n25 n26 n27 = go (form_of b) refl
  where
    go : (f : Form) → form_of b ≡ f → (form_of b ≡ Number (places b)) × NumberBit b (places b)
    go Text e = absurd (t e)
    go Code e = absurd (c e)
    go (Number p) e =
        let n : NumberBit b p = number_bit k w b i p e n2 n25 n26 n27 in
        (e ∙ ap (λ (q : ℕ). Number q) (sym n.places), subst (NumberBit b) (sym n.places) n)
