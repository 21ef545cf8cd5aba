-- The record that is read from the values of a right one: it is right too, and has the same values. Rests on Held and Kinds.
use Rattle.std.proofs.Common.{ℕ, suc, ◌-◌, ◌<◌, ◌≡◌, List, [], ◌∷◌, Bool, not, ◌&&◌, ◌||◌, ◌⊎◌, eqb, leb, length, get_or, take, Option, None, Some, refl, ap, subst, sym, ◌∙◌, ⊎_elim, arith, lit<, true, false, eqb-true, eq-eqb, ne_eqb, leb-true}
use Rattle.std.proofs.Math.Decide.{ℕ_discrete}
use Rattle.std.proofs.lemmas.Bool.{not-true, and_parts, and_from, or_cases}
use Rattle.std.specs.Option.{is_some}
use Rattle.prelude.specs.Cases.{if◌then◌otherwise◌}
use Rattle.prelude.specs.Laws.Cases.{split_if, if_true, if_false, clash}
use Rattle.prelude.specs.Number.{number}
use Rattle.bits.specs.Map.{bit}
use Rattle.format.specs.Codes.{within}
use Rattle.format.specs.Format.{size, range, fields, is_text_bit, in_range, required, required_bits, side, status}
use Rattle.format.specs.Places.{value}
use Rattle.fix_words.specs.Lists.{every, is_print}
use Rattle.decimal.specs.Decimal.{digits}
use Rattle.fix_words.specs.Laws.Digits.{digits_print, decimal_print}
use Rattle.fix_words.specs.Rows.{Values, in_rows}
use Rattle.fix_words.specs.Values.{tables, rows, fixed_text, is_plain, places, spelling, over, or_else, either, exec_id, fixed_text_in, value_of, unspelled, unless_none, held_in, unsaid, contents, none_text}
use Rattle.fix_words.specs.Message.{shape_at, range_at, text_at, is_text, paired}
use Rattle.fix_words.specs.Laws.Held.{held_plain, held_name, held_none, held_exec, held_words, shape_long, number_one}
use Rattle.fix_words.proofs.Laws.Kinds.{by_kind_lem, row_small, with_name, must_in, stand_all, must_stand, must_row, code_print, right, reasoned, unsaid_right, fixed_right}
use Rattle.fix_words.specs.Laws.Lists.{every_append}
use Rattle.fix_words.specs.Laws.Rows.{stand, prints}

-- ---- the bits that go their own way

pub by_bit : (P : ℕ → Type 0) → P 2 → P 20 → P 25 → P 27 → (b : ℕ)
    → (eqb b 2 ≡ false → eqb b 20 ≡ false → eqb b 25 ≡ false → eqb b 27 ≡ false → P b) → P b
by_bit P p2 p20 p25 p27 b other = go (ℕ_discrete b 2) (ℕ_discrete b 20) (ℕ_discrete b 25) (ℕ_discrete b 27)
  where
    go : Dec (b ≡ 2) → Dec (b ≡ 20) → Dec (b ≡ 25) → Dec (b ≡ 27) → P b
    go (yes x) y z w = subst P (sym x) p2
    go (no x) (yes y) z w = subst P (sym y) p20
    go (no x) (no y) (yes z) w = subst P (sym z) p25
    go (no x) (no y) (no z) (yes w) = subst P (sym w) p27
    go (no x) (no y) (no z) (no w) = other (ne_eqb b 2 x) (ne_eqb b 20 y) (ne_eqb b 25 z) (ne_eqb b 27 w)

module _ (k : ℕ) (at : Values) where
  pub value_name : value_of k at 2 ≡ (if eqb k 17 then Some (or_else none_text (at 2)) otherwise at 2)
  unfolding value_of if◌then◌otherwise◌
  value_name = refl

  pub value_text : value_of k at 20 ≡ (if eqb k 17 then either (at 20) (over fixed_text_in (at 27)) otherwise at 20)
  unfolding value_of if◌then◌otherwise◌
  value_text = refl

  pub value_exec : value_of k at 25 ≡ over (exec_id (at 2)) (at 25)
  unfolding value_of if◌then◌otherwise◌
  value_exec = refl

  pub value_words : value_of k at 27 ≡ over fixed_text_in (at 27)
  unfolding value_of if◌then◌otherwise◌
  value_words = refl

  pub value_plain : (b : ℕ) → eqb b 2 ≡ false → eqb b 20 ≡ false → eqb b 25 ≡ false → eqb b 27 ≡ false → value_of k at b ≡ over (spelling b) (at b)
  unfolding value_of if◌then◌otherwise◌
  value_plain b x y z w = rw (x, y, z, w) refl

held_two : (v : Option (List ℕ)) → held_in 2 v ≡ unless_none v
unfolding held_in if◌then◌otherwise◌
held_two v = refl

plain_text : (v : Option (List ℕ)) → held_in 20 v ≡ v
unfolding held_in if◌then◌otherwise◌ unspelled is_plain size range fields
plain_text None = refl
plain_text (Some c) = refl

some_over : (f : List ℕ → List ℕ) (o : Option (List ℕ)) → is_some (over f o) ≡ is_some o
some_over f None = refl
some_over f (Some c) = refl

either_some : (o w : Option (List ℕ)) → is_some o ≡ true → either o w ≡ o
either_some None w e = clash false e refl
either_some (Some c) w e = refl

right_some : (k b : ℕ) (o : Option (List ℕ)) → right k b o ≡ true → bit (required k) b ≡ true → is_some o ≡ true
right_some k b None e h = clash (bit (required k) b) h (not-true _ (and_parts (not (bit (required k) b)) _ e).0)
right_some k b (Some c) e h = refl

-- ---- the texts of a reject

-- fixed texts are 1 to 18
fixed_text_number : (k : ℕ) (c : List ℕ) → right k 27 (Some c) ≡ true → (n : ℕ) × (n < 18) × (get_or c 0 0 ≡ suc n)
unfolding size range fields in_range value if◌then◌otherwise◌
fixed_text_number k c e =
    let h = and_parts (shape_at k 27 (Some c)) (range_at 27 (Some c) && text_at 27 (Some c)) e in
    let l : length c ≡ 1 = shape_long k 27 c h.0 refl in
    let r = (and_parts (range_at 27 (Some c)) (text_at 27 (Some c)) h.1).0 in
    let w = and_parts (leb 1 (number (take 8 c))) (leb (number (take 8 c)) 18) (and_parts (within 1 18 (number (take 8 c))) _ r).0 in
    let o = number_one c l in
    let low = leb-true 1 (number (take 8 c)) w.0 in
    let high = leb-true (number (take 8 c)) 18 w.1 in
    (get_or c 0 0 - 1, omega arith, omega arith)

-- of the text and the fixed text one stands, and is a text
reject_text : (o f : Option (List ℕ)) → right 17 20 o ≡ true → right 17 27 f ≡ true → (if is_some o then not (is_some f) otherwise is_some f) ≡ true
    → (right 17 20 (either o (over fixed_text_in f)) ≡ true) × (is_some (either o (over fixed_text_in f)) ≡ true)
unfolding if◌then◌otherwise◌
reject_text (Some c) f a b e = (a, refl)
reject_text None None a b e = clash false e refl
reject_text None (Some c) a b e =
    let w = fixed_text_number 17 c b in
    (rw w.2 (fixed_right w.0 w.1), refl)

paired_report : (at : Values) → paired 16 at
    ≡ ((if is_some (at 19) then is_some (at 28) otherwise not (is_some (at 28))) && not (is_some (at 20) && is_some (at 27)))
unfolding paired if◌then◌otherwise◌
paired_report at = refl

pub paired_reject : (at : Values) → paired 17 at ≡ (if is_some (at 20) then not (is_some (at 27)) otherwise is_some (at 27))
unfolding paired if◌then◌otherwise◌
paired_reject at = refl

-- which rows there are
report_rows : (in_rows (rows 16) 19 && (in_rows (rows 16) 20 && (in_rows (rows 16) 27 && not (in_rows (rows 16) 28)))) ≡ true
unfolding rows tables
report_rows = refl

reject_rows : (in_rows (rows 17) 20 && not (in_rows (rows 17) 27)) ≡ true
unfolding rows tables
reject_rows = refl

unsaid_origin : (k : ℕ) (o : Option (List ℕ)) → is_some (unsaid k o 28) ≡ is_some o
unfolding unsaid if◌then◌otherwise◌
unsaid_origin k None = refl
unsaid_origin k (Some v) = refl

unsaid_fixed : (o : Option (List ℕ)) → unsaid 17 o 27 ≡ None
unfolding unsaid if◌then◌otherwise◌ required required_bits
unsaid_fixed o = refl

if_same : (x y : Bool) → x ≡ y → (if x then y otherwise not y) ≡ true
unfolding if◌then◌otherwise◌
if_same true y e = sym e
if_same false y e = rw (← e) refl

reason_of : (at us : Values) (k : ℕ) → within 16 20 k ≡ true → (in_rows (rows k) 19 ≡ true → us 19 ≡ over (spelling 19) (at 19))
    → (in_rows (rows k) 19 ≡ false → us 19 ≡ None) → right k 19 (at 19) ≡ true → reasoned k (us 19) ≡ true
unfolding rows tables required required_bits if◌then◌otherwise◌
reason_of at us =
    by_kind_lem (λ k. (in_rows (rows k) 19 ≡ true → us 19 ≡ over (spelling 19) (at 19)) → (in_rows (rows k) 19 ≡ false → us 19 ≡ None)
    → right k 19 (at 19) ≡ true → reasoned k (us 19) ≡ true)
    (λ f g r. refl)
    (λ f g r. rw (f refl) (some_over (spelling 19) (at 19) ∙ right_some 17 19 (at 19) r refl))
    (λ f g r. rw (g refl) refl)
    (λ f g r. rw (g refl) refl)
    (λ f g r. rw (g refl) refl)

-- ---- values that print

text_two : is_text_bit 2 ≡ true
unfolding size fields
text_two = refl

text_twenty : is_text_bit 20 ≡ true
unfolding size fields
text_twenty = refl

-- a text that stands prints
text_prints : (b : ℕ) (o : Option (List ℕ)) → is_text_bit b ≡ true → text_at b o ≡ true → prints o ≡ true
text_prints b None t e = refl
text_prints b (Some []) t e = refl
text_prints b (Some (x ∷ c)) t e = ⊎_elim (λ q. clash (is_text_bit b) t (not-true _ q)) (λ q. q) (or_cases (not (is_text_bit b)) (is_text (x ∷ c)) e)

none_prints : (o : Option (List ℕ)) → prints o ≡ true → prints (Some (or_else none_text o)) ≡ true
none_prints None e = refl
none_prints (Some c) e = e

either_prints : (o w : Option (List ℕ)) → prints o ≡ true → prints w ≡ true → prints (either o w) ≡ true
either_prints None w p q = q
either_prints (Some c) w p q = p

exec_prints : (name o : Option (List ℕ)) → prints name ≡ true → prints (over (exec_id name) o) ≡ true
exec_prints name None p = refl
exec_prints name (Some c) p = every_append is_print (or_else [] name) (46 ∷ digits (number c)) (or_prints name p) (and_from _ _ refl (digits_print (number c)))
  where
    or_prints : (o : Option (List ℕ)) → prints o ≡ true → every is_print (or_else [] o) ≡ true
    or_prints None e = refl
    or_prints (Some c) e = e

words_prints : (k : ℕ) (o : Option (List ℕ)) → right k 27 o ≡ true → prints (over fixed_text_in o) ≡ true
words_prints k None e = refl
words_prints k (Some c) e =
    let w = fixed_text_number k c e in
    let r = (and_parts (shape_at 17 20 (Some (fixed_text (suc w.0)))) _ (fixed_right w.0 w.1)).1 in
    rw w.2 (text_prints 20 (Some (fixed_text (suc w.0))) text_twenty (and_parts (range_at 20 (Some (fixed_text (suc w.0)))) _ r).1)

spelling_prints : (k b : ℕ) (o : Option (List ℕ)) → b < 32 → shape_at k b o ≡ true → range_at b o ≡ true → text_at b o ≡ true → prints (over (spelling b) o) ≡ true
unfolding spelling is_plain
spelling_prints k b None h s r t = refl
spelling_prints k b (Some c) h s r t =
    split_if (λ (l : List ℕ). every is_print l ≡ true) (is_plain b)
    (λ e. go (is_text_bit b) refl (or_cases (is_text_bit b) (within side status (range b)) e))
    (λ e. decimal_print (places b) (number c))
  where
    go : (x : Bool) → is_text_bit b ≡ x → (is_text_bit b ≡ true) ⊎ (within side status (range b) ≡ true) → every is_print c ≡ true
    go true e p = text_prints b (Some c) e t
    go false e p = ⊎_elim (λ q. clash (is_text_bit b) q e) (λ q. code_print k b c h e q s r) p

-- ---- a right record

module _ (k : ℕ) (at : Values) (kind : within 16 20 k ≡ true) (ok : (b : ℕ) → b < 32 → right k b (at b) ≡ true) (pair : paired k at ≡ true) where
  shape : (b : ℕ) → b < 32 → shape_at k b (at b) ≡ true
  shape b h = (and_parts (shape_at k b (at b)) _ (ok b h)).0

  ranges : (b : ℕ) → b < 32 → range_at b (at b) ≡ true
  ranges b h = (and_parts (range_at b (at b)) (text_at b (at b)) (and_parts (shape_at k b (at b)) _ (ok b h)).1).0

  text : (b : ℕ) → b < 32 → text_at b (at b) ≡ true
  text b h = (and_parts (range_at b (at b)) (text_at b (at b)) (and_parts (shape_at k b (at b)) _ (ok b h)).1).1

  -- a bit that is carried is as it was, but for a reject's text
  held_same : (b : ℕ) → b < 32 → (eqb b 20 ≡ true → eqb k 17 ≡ false) → held_in b (value_of k at b) ≡ at b
  held_same b h t =
      by_bit (λ b. b < 32 → (eqb b 20 ≡ true → eqb k 17 ≡ false) → held_in b (value_of k at b) ≡ at b)
      (λ l u. ap (held_in 2) (value_name k at) ∙ name (eqb k 17))
      (λ l u. plain_text (value_of k at 20) ∙ value_text k at ∙ if_false (eqb k 17) _ _ (u refl))
      (λ l u. ap (held_in 25) (value_exec k at) ∙ held_exec k (at 2) (at 25) (ranges 2 (lit< tt)) (shape 25 (lit< tt)))
      (λ l u. ap (held_in 27) (value_words k at) ∙ held_words k (at 27) (shape 27 (lit< tt)) (ranges 27 (lit< tt)))
      b (λ x y z w l u. ap (held_in b) (value_plain k at b x y z w) ∙ held_plain k b (at b) x z w (shape b l))
      h t
    where
      name : (x : Bool) → held_in 2 (if x then Some (or_else none_text (at 2)) otherwise at 2) ≡ at 2
      name true = ap (held_in 2) (if_true true (Some (or_else none_text (at 2))) (at 2) refl) ∙ held_two (Some (or_else none_text (at 2))) ∙ held_none (at 2) (ranges 2 (lit< tt))
      name false = ap (held_in 2) (if_false false (Some (or_else none_text (at 2))) (at 2) refl) ∙ held_two (at 2) ∙ held_name (at 2) (ranges 2 (lit< tt))

  -- ---- a reject's text

  module _ (reject : k ≡ 17) where
    a_text : (value_of k at 20 ≡ either (at 20) (over fixed_text_in (at 27)))
    a_text = value_text k at ∙ if_true (eqb k 17) _ _ (eq-eqb k 17 reject)

    text_right_lem : (right k 20 (value_of k at 20) ≡ true) × (is_some (value_of k at 20) ≡ true)
    text_right_lem =
        rw a_text
        (subst (λ (j : ℕ). (right j 20 (either (at 20) (over fixed_text_in (at 27))) ≡ true) × (is_some (either (at 20) (over fixed_text_in (at 27))) ≡ true)) (sym reject)
        (reject_text (at 20) (at 27) (subst (λ (j : ℕ). right j 20 (at 20) ≡ true) reject (ok 20 (lit< tt)))
        (subst (λ (j : ℕ). right j 27 (at 27) ≡ true) reject (ok 27 (lit< tt)))
        (sym (paired_reject at) ∙ subst (λ (j : ℕ). paired j at ≡ true) reject pair)))

  -- ---- what must stand stands

  stands_if : (b : ℕ) → is_some (at b) ≡ true → is_some (value_of k at b) ≡ true
  stands_if b h =
      by_bit (λ b. is_some (at b) ≡ true → is_some (value_of k at b) ≡ true)
      (λ j. rw (value_name k at) (split_if (λ (o : Option (List ℕ)). is_some o ≡ true) (eqb k 17) (λ e. refl) (λ e. j)))
      (λ j. rw (value_text k at) (split_if (λ (o : Option (List ℕ)). is_some o ≡ true) (eqb k 17) (λ e. ap is_some (either_some (at 20) _ j) ∙ j) (λ e. j)))
      (λ j. ap is_some (value_exec k at) ∙ some_over (exec_id (at 2)) (at 25) ∙ j)
      (λ j. ap is_some (value_words k at) ∙ some_over fixed_text_in (at 27) ∙ j)
      b (λ x y z w j. ap is_some (value_plain k at b x y z w) ∙ some_over (spelling b) (at b) ∙ j)
      h

  name_stands : k ≡ 17 → is_some (value_of k at 2) ≡ true
  name_stands e = ap is_some (value_name k at ∙ if_true (eqb k 17) _ _ (eq-eqb k 17 e))

  value_stands : (b : ℕ) → b < 32 → must_in (rows k) b ≡ true → is_some (value_of k at b) ≡ true
  value_stands b h m =
      ⊎_elim (λ q. clash (must_in (rows k) b) m (not-true _ q))
      (λ q. ⊎_elim (λ r. stands_if b (right_some k b (at b) (ok b h) r)) own (or_cases (bit (required k) b) (eqb k 17 && (eqb b 2 || eqb b 20)) q))
      (or_cases (not (must_in (rows k) b)) _ (must_stand k kind b h))
    where
      own : (eqb k 17 && (eqb b 2 || eqb b 20)) ≡ true → is_some (value_of k at b) ≡ true
      own q =
          let p = and_parts (eqb k 17) (eqb b 2 || eqb b 20) q in
          let e : k ≡ 17 = eqb-true k 17 p.0 in
          ⊎_elim
          (λ r. subst (λ (b : ℕ). is_some (value_of k at b) ≡ true) (sym (eqb-true b 2 r)) (name_stands e))
          (λ r. subst (λ (b : ℕ). is_some (value_of k at b) ≡ true) (sym (eqb-true b 20 r)) (text_right_lem e).1)
          (or_cases (eqb b 2) (eqb b 20) p.1)

  pub values_stand : stand (rows k) (value_of k at) ≡ true
  values_stand = stand_all (value_of k at) (rows k) (λ b m. value_stands b (row_small k kind b (must_row (rows k) b m)) m)

  -- ---- every value prints

  pub values_print : (b : ℕ) → in_rows (rows k) b ≡ true → prints (value_of k at b) ≡ true
  values_print b i =
      by_bit (λ b. in_rows (rows k) b ≡ true → prints (value_of k at b) ≡ true)
      (λ j. rw (value_name k at) (split_if (λ (o : Option (List ℕ)). prints o ≡ true) (eqb k 17) (λ e. none_prints (at 2) name) (λ e. name)))
      (λ j. rw (value_text k at) (split_if (λ (o : Option (List ℕ)). prints o ≡ true) (eqb k 17) (λ e. either_prints (at 20) _ long words) (λ e. long)))
      (λ j. rw (value_exec k at) (exec_prints (at 2) (at 25) name))
      (λ j. rw (value_words k at) words)
      b (λ x y z w j. rw (value_plain k at b x y z w) (let l = row_small k kind b j in spelling_prints k b (at b) l (shape b l) (ranges b l) (text b l)))
      i
    where
      name : prints (at 2) ≡ true
      name = text_prints 2 (at 2) text_two (text 2 (lit< tt))

      long : prints (at 20) ≡ true
      long = text_prints 20 (at 20) text_twenty (text 20 (lit< tt))

      words : prints (over fixed_text_in (at 27)) ≡ true
      words = words_prints k (at 27) (ok 27 (lit< tt))

  -- ---- the record that is read, from the values that were found

  module _ (us : Values) (found : (b : ℕ) → in_rows (rows k) b ≡ true → us b ≡ value_of k at b) (else_none : (b : ℕ) → in_rows (rows k) b ≡ false → us b ≡ None) where
    abbrev now : Values
    now = contents k us

    now_held : (b : ℕ) → in_rows (rows k) b ≡ true → now b ≡ held_in b (value_of k at b)
    unfolding contents
    now_held b i = if_true (in_rows (rows k) b) _ _ i ∙ ap (held_in b) (found b i)

    pub kept : (b : ℕ) → in_rows (rows k) b ≡ true → (eqb b 20 ≡ true → eqb k 17 ≡ false) → now b ≡ at b
    kept b i t = now_held b i ∙ held_same b (row_small k kind b i) t

    now_text : k ≡ 17 → in_rows (rows k) 20 ≡ true → now 20 ≡ value_of k at 20
    now_text q i = now_held 20 i ∙ plain_text (value_of k at 20)

    -- ---- right again

    reason : reasoned k (us 19) ≡ true
    reason =
        reason_of at us k kind (λ i. found 19 i ∙ value_plain k at 19 refl refl refl refl) (else_none 19) (ok 19 (lit< tt))

    pub again_right : (b : ℕ) → b < 32 → right k b (now b) ≡ true
    unfolding contents
    again_right b h = go (in_rows (rows k) b) refl (ℕ_discrete b 20) (ℕ_discrete k 17)
      where
        go : (x : Bool) → in_rows (rows k) b ≡ x → Dec (b ≡ 20) → Dec (k ≡ 17) → right k b (now b) ≡ true
        go false i p q =
            let e : now b ≡ unsaid k (us 19) b = if_false (in_rows (rows k) b) _ _ i in
            rw e (⊎_elim (λ z. clash (in_rows (rows k) b) z i) (λ z. z) (or_cases (in_rows (rows k) b) _ (unsaid_right k kind (us 19) reason b h)))
        go true i (no p) q = rw (kept b i (λ z. absurd (p (eqb-true b 20 z)))) (ok b h)
        go true i (yes p) (no q) = rw (kept b i (λ z. ne_eqb k 17 q)) (ok b h)
        go true i (yes p) (yes q) =
            subst (λ (b : ℕ). right k b (now b) ≡ true) (sym p) (rw (now_text q (subst (λ (b : ℕ). in_rows (rows k) b ≡ true) p i)) (text_right_lem q).0)

    unsaid_now : (b : ℕ) → in_rows (rows k) b ≡ false → now b ≡ unsaid k (us 19) b
    unfolding contents
    unsaid_now b i = if_false (in_rows (rows k) b) _ _ i

    carried : (j b : ℕ) → k ≡ j → in_rows (rows j) b ≡ true → in_rows (rows k) b ≡ true
    carried j b e i = subst (λ (j : ℕ). in_rows (rows j) b ≡ true) (sym e) i

    silent : (j b : ℕ) → k ≡ j → in_rows (rows j) b ≡ false → in_rows (rows k) b ≡ false
    silent j b e i = subst (λ (j : ℕ). in_rows (rows j) b ≡ false) (sym e) i

    report_again : k ≡ 16 → paired 16 now ≡ true
    report_again e =
        let r = and_parts (in_rows (rows 16) 19) _ report_rows in
        let s = and_parts (in_rows (rows 16) 20) _ r.1 in
        let t = and_parts (in_rows (rows 16) 27) _ s.1 in
        let n : eqb k 17 ≡ false = ne_eqb k 17 (λ q. absurd (omega arith)) in
        let c19 : in_rows (rows k) 19 ≡ true = carried 16 19 e r.0 in
        let n19 : now 19 ≡ at 19 = kept 19 c19 (λ z. n) in
        let n20 : now 20 ≡ at 20 = kept 20 (carried 16 20 e s.0) (λ z. n) in
        let n27 : now 27 ≡ at 27 = kept 27 (carried 16 27 e t.0) (λ z. n) in
        let n28 : is_some (now 28) ≡ is_some (us 19) = ap is_some (unsaid_now 28 (silent 16 28 e (not-true _ t.1))) ∙ unsaid_origin k (us 19) in
        let u19 : is_some (us 19) ≡ is_some (at 19) = ap is_some (found 19 c19 ∙ value_plain k at 19 refl refl refl refl) ∙ some_over (spelling 19) (at 19) in
        let old = and_parts (if is_some (at 19) then is_some (at 28) otherwise not (is_some (at 28))) (not (is_some (at 20) && is_some (at 27))) (sym (paired_report at) ∙ subst (λ (j : ℕ). paired j at ≡ true) e pair) in
        paired_report now
        ∙ and_from _ _ (if_same (is_some (now 19)) (is_some (now 28)) (ap is_some n19 ∙ sym u19 ∙ sym n28)) (rw (n20, n27) old.1)

    reject_again : k ≡ 17 → paired 17 now ≡ true
    unfolding if◌then◌otherwise◌
    reject_again e =
        let r = and_parts (in_rows (rows 17) 20) _ reject_rows in
        let n20 : is_some (now 20) ≡ true = ap is_some (now_text e (carried 17 20 e r.0)) ∙ (text_right_lem e).1 in
        let n27 : now 27 ≡ None = unsaid_now 27 (silent 17 27 e (not-true _ r.1)) ∙ ap (λ (j : ℕ). unsaid j (us 19) 27) e ∙ unsaid_fixed (us 19) in
        paired_reject now ∙ rw (n20, n27) refl

    other_again : (j : ℕ) → eqb j 16 ≡ false → eqb j 17 ≡ false → paired j now ≡ true
    unfolding paired if◌then◌otherwise◌
    other_again j x y = rw (x, y) refl

    pub again_paired : paired k now ≡ true
    again_paired =
        by_kind_lem (λ j. k ≡ j → paired j now ≡ true) report_again reject_again (λ e. other_again 18 refl refl) (λ e. other_again 19 refl refl)
        (λ e. other_again 20 refl refl) k kind refl

    -- ---- the same values again

    pub again_values : (b : ℕ) → in_rows (rows k) b ≡ true → value_of k now b ≡ value_of k at b
    again_values b i =
        by_bit (λ b. in_rows (rows k) b ≡ true → value_of k now b ≡ value_of k at b)
        (λ j. value_name k now ∙ ap (λ (o : Option (List ℕ)). if eqb k 17 then Some (or_else none_text o) otherwise o) (kept 2 j (λ z. clash false z refl)) ∙ sym (value_name k at))
        (λ j. texts_same j (ℕ_discrete k 17))
        (λ j. value_exec k now
        ∙ (λ x. over (exec_id (kept 2 (with_name k kind j) (λ z. clash false z refl) x)) (kept 25 j (λ z. clash false z refl) x))
        ∙ sym (value_exec k at))
        (λ j. value_words k now ∙ ap (over fixed_text_in) (kept 27 j (λ z. clash false z refl)) ∙ sym (value_words k at))
        b (λ x y z w j. value_plain k now b x y z w ∙ ap (over (spelling b)) (kept b j (λ q. clash (eqb b 20) q y)) ∙ sym (value_plain k at b x y z w))
        i
      where
        texts_same : in_rows (rows k) 20 ≡ true → Dec (k ≡ 17) → value_of k now 20 ≡ value_of k at 20
        texts_same j (no q) =
            value_text k now
            ∙ if_false (eqb k 17) _ _ (ne_eqb k 17 q)
            ∙ kept 20 j (λ z. ne_eqb k 17 q)
            ∙ sym (if_false (eqb k 17) _ _ (ne_eqb k 17 q))
            ∙ sym (value_text k at)
        texts_same j (yes q) =
            value_text k now
            ∙ if_true (eqb k 17) _ _ (eq-eqb k 17 q)
            ∙ either_some (now 20) _ (rw (now_text q j) (text_right_lem q).1)
            ∙ now_text q j
