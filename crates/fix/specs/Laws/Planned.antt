-- A value planned from a record's parts is the one that the definitions say, and its bytes stand in the record. Rests on Plan.
use Rattle.std.specs.Prelude.{ℕ, suc, ◌+◌, ◌-◌, ◌*◌, ◌^◌, ◌≤◌, ◌<◌, ◌≡◌, Bool, not, ◌&&◌, ◌||◌, leb, take, drop, Option, None, Some, refl, List, [], ◌∷◌, ◌++◌, true, false, eqb, length, get_or}
use Rattle.std.proofs.Common.{sym, ap, subst, ◌∙◌, add-one, lit<, lit≤, take_all, arith, eqb-true, ne_eqb, leb-true, length-drop}
use Rattle.std.proofs.Math.Decide.{ℕ_discrete}
use Rattle.std.proofs.Math.ListN.{get_or-append}
use Rattle.std.proofs.lemmas.Bool.{and_parts}
use Rattle.prelude.specs.Cases.{if◌then◌otherwise◌}
use Rattle.prelude.specs.Laws.Cases.{split_if, if_true, if_false}
use Rattle.prelude.specs.Below.{all_below}
use Rattle.prelude.specs.Laws.Below.{all_elim}
use Rattle.prelude.specs.Number.{number}
use Rattle.prelude.specs.Span.{span}
use Rattle.prelude.specs.Laws.Span.{span_none, span_drop}
use Rattle.bits.specs.Map.{bit}
use Rattle.format.specs.Codes.{within}
use Rattle.format.specs.Format.{size, range, fields, is_text_bit, in_range, side, status, quantity, price}
use Rattle.format.specs.Places.{extent, start, strip, part, content, value, map_at, right_at, shaped}
use Rattle.format.specs.Laws.Places.{start_up, start_on, length_part, content_off, length_number}
use Rattle.format.specs.Refusal.{ranged, message_shaped}
use Rattle.records.specs.Parts.{whole_message}
use Rattle.records.specs.Laws.Reading.{whole_of, within_most}
use Rattle.decimal.specs.Decimal.{digits, decimal}
use Rattle.fix_words.specs.Values.{texts, fixed_text, none_text, is_plain, places, spelling, over, or_else, either, exec_id, fixed_text_in, value_of}
use Rattle.fix_words.specs.Record.{field_at}
use Rattle.fix.specs.declared.value.Value.{Value}
use Rattle.fix.specs.declared.value.Value.TheVariants.{Bytes, Number, Price, Fixed, Exec}
use Rattle.fix.specs.Laws.Plan.{Parted, plain_plan, fixed_plan, exec_plan, instead_plan, planned, said_by, shown, Sound}
use Rattle.fix_table.specs.Table.{spoken, form_of}

-- ---- what each form shows

shown_bytes : (s : List ℕ) (f n : ℕ) → shown s (Some (Bytes f n)) ≡ Some (span s f n)
unfolding shown said_by
shown_bytes s f n = refl

shown_number : (s : List ℕ) (n p : ℕ) → shown s (Some (Number n p)) ≡ Some (decimal p n)
unfolding shown said_by
shown_number s n p = refl

shown_price : (s : List ℕ) (l h p : ℕ) → shown s (Some (Price l h p)) ≡ Some (decimal p (l + 2 ^ 64 * h))
unfolding shown said_by
shown_price s l h p = refl

shown_fixed : (s : List ℕ) (n : ℕ) → shown s (Some (Fixed n)) ≡ Some (get_or spoken n [])
unfolding shown said_by
shown_fixed s n = refl

shown_exec : (s : List ℕ) (f n l : ℕ) → shown s (Some (Exec f n l)) ≡ Some (span s f n ++ (46 ∷ digits l))
unfolding shown said_by
shown_exec s f n l = refl

shown_nothing : (s : List ℕ) → shown s None ≡ None
unfolding shown
shown_nothing s = refl

spoken_text : (n : ℕ) → n < 19 → get_or spoken n [] ≡ fixed_text n
unfolding spoken fixed_text texts
spoken_text n h = get_or-append texts (none_text ∷ []) [] n h

spoken_none : get_or spoken 19 [] ≡ none_text
unfolding spoken texts
spoken_none = refl

-- a number has no decimals, four or eight
pub places_no : (b : ℕ) → (eqb (places b) 2 ≡ false) × (eqb (places b) 1 ≡ false)
unfolding places
places_no b =
    split_if (λ (n : ℕ). (eqb n 2 ≡ false) × (eqb n 1 ≡ false)) (eqb (range b) quantity) (λ e. (refl, refl))
    (λ e. split_if (λ (n : ℕ). (eqb n 2 ≡ false) × (eqb n 1 ≡ false)) (eqb (range b) price || eqb b 26) (λ f. (refl, refl)) (λ f. (refl, refl)))

-- two words
two_words : (c : List ℕ) → 8 ≤ length c → number c ≡ number (take 8 c) + 2 ^ 64 * number (drop 8 c)
two_words [] h = absurd (omega arith)
two_words (a ∷ []) h = absurd (omega arith)
two_words (a ∷ b ∷ []) h = absurd (omega arith)
two_words (a ∷ b ∷ c ∷ []) h = absurd (omega arith)
two_words (a ∷ b ∷ c ∷ d ∷ []) h = absurd (omega arith)
two_words (a ∷ b ∷ c ∷ d ∷ e ∷ []) h = absurd (omega arith)
two_words (a ∷ b ∷ c ∷ d ∷ e ∷ f ∷ []) h = absurd (omega arith)
two_words (a ∷ b ∷ c ∷ d ∷ e ∷ f ∷ g ∷ []) h = absurd (omega arith)
two_words (a ∷ b ∷ c ∷ d ∷ e ∷ f ∷ g ∷ x ∷ r) h = omega arith

-- sizes: a code has one byte, a number at most eight but for the fill price
sized : ℕ → Bool
sized b = is_text_bit b || (if within side status (range b) then eqb (size b) 1 otherwise (eqb b 26 || leb (size b) 8))

all_sized : all_below sized 32 ≡ true
unfolding sized size range fields all_below if◌then◌otherwise◌
all_sized = refl

code_one : (b : ℕ) → b < 32 → is_text_bit b ≡ false → within side status (range b) ≡ true → size b ≡ 1
unfolding sized if◌then◌otherwise◌
code_one b h t w = let q : sized b ≡ true = all_elim sized 32 all_sized b h in eqb-true (size b) 1 (rw (t, w) at q)

number_eight : (b : ℕ) → b < 32 → is_text_bit b ≡ false → within side status (range b) ≡ false → eqb b 26 ≡ false → size b ≤ 8
unfolding sized if◌then◌otherwise◌
number_eight b h t w z = let q : sized b ≡ true = all_elim sized 32 all_sized b h in leb-true (size b) 8 (rw (t, w, z) at q)

module _ (s : List ℕ) (m : ℕ) (at ns : List ℕ) (high : ℕ) (p : Parted s m at ns high) where
  inside : start s 0 m 32 ≤ length s
  unfolding whole_message message_shaped
  inside =
      let a = and_parts (message_shaped s 0) _ p.whole in
      let b = and_parts (shaped s 0) _ a.0 in
      rw (← p.map) at (whole_of s 0 b.0).inside

  in_field : (b : ℕ) → b < 32 → start s 0 m (suc b) ≤ length s
  in_field b h = omega (arith, inside, start_up s 0 m (suc b) 32 h)

  ends : (b : ℕ) → b < 32 → get_or at (b + 1) 0 ≡ start s 0 m (suc b)
  ends b h = rw add-one (p.places (suc b) (omega arith))

  field_is : (b : ℕ) → field_at s b ≡ (if bit m b then Some (content s 0 m b) otherwise None)
  unfolding field_at
  field_is b = ap (λ (x : ℕ). if bit x b then Some (content s 0 x b) otherwise None) (sym p.map)

  pub on : (b : ℕ) → bit m b ≡ true → field_at s b ≡ Some (content s 0 m b)
  on b e = field_is b ∙ if_true (bit m b) (Some (content s 0 m b)) None e

  pub off : (b : ℕ) → bit m b ≡ false → field_at s b ≡ None
  off b e = field_is b ∙ if_false (bit m b) (Some (content s 0 m b)) None e

  -- ---- texts

  gap : ℕ → ℕ
  gap b = start s 0 m (suc b) - start s 0 m b

  text_number : (b : ℕ) → b < 32 → is_text_bit b ≡ true → (get_or ns b 0 ≡ length (content s 0 m b)) × (length (content s 0 m b) ≡ gap b - 1)
  unfolding value content strip gap
  text_number b h t = (
    p.numbers b h ∙ if_true (is_text_bit b) (length (content s 0 m b)) _ t,
    ap length (if_true (is_text_bit b) (drop 1 (part s 0 m b)) (part s 0 m b) t) ∙ length-drop 1 (part s 0 m b) ∙ omega (arith, length_part s 0 m b (in_field b h)),
  )

  text_span : (b : ℕ) → is_text_bit b ≡ true → content s 0 m b ≡ span s (start s 0 m b + 1) (gap b - 1)
  unfolding content strip part gap
  text_span b t = if_true (is_text_bit b) (drop 1 (part s 0 m b)) (part s 0 m b) t ∙ span_drop s (start s 0 m b) (gap b) 1

  -- a text that stands has its length before it
  some_gap : (b : ℕ) → is_text_bit b ≡ true → bit m b ≡ true → 1 ≤ gap b
  unfolding extent gap
  some_gap b t e = omega (arith, start_on s 0 m b e, if_true (is_text_bit b) (1 + get_or s (start s 0 m b) 0) (size b) t)

  pub text_there : (b : ℕ) → b < 32 → is_text_bit b ≡ true → span s (get_or at (b + 1) 0 - get_or ns b 0) (get_or ns b 0) ≡ content s 0 m b
  unfolding gap
  text_there b h t = go (bit m b) refl
    where
      go : (x : Bool) → bit m b ≡ x → span s (get_or at (b + 1) 0 - get_or ns b 0) (get_or ns b 0) ≡ content s 0 m b
      go true e =
          let n = text_number b h t in
          let f : get_or at (b + 1) 0 - get_or ns b 0 ≡ start s 0 m b + 1 = omega (arith, ends b h, n.0, n.1, some_gap b t e) in
          let k : get_or ns b 0 ≡ gap b - 1 = n.0 ∙ n.1 in
          (λ i. span s (f i) (k i)) ∙ sym (text_span b t)
      go false e =
          let z : get_or ns b 0 ≡ 0 = (text_number b h t).0 ∙ ap length (content_off s 0 m b e) in
          ap (λ (n : ℕ). span s (get_or at (b + 1) 0 - get_or ns b 0) n) z ∙ span_none s (get_or at (b + 1) 0 - get_or ns b 0) ∙ sym (content_off s 0 m b e)

  pub text_sound : (b : ℕ) → b < 32 → is_text_bit b ≡ true → (get_or at (b + 1) 0 - get_or ns b 0) + get_or ns b 0 ≤ length s
  unfolding gap
  text_sound b h t = let n = text_number b h t in omega (arith, ends b h, n.0, n.1, in_field b h)

  -- ---- codes and numbers

  code_there : (b : ℕ) → b < 32 → is_text_bit b ≡ false → within side status (range b) ≡ true → bit m b ≡ true
      → (span s (get_or at (b + 1) 0 - 1) 1 ≡ content s 0 m b) × ((get_or at (b + 1) 0 - 1) + 1 ≤ length s)
  unfolding content strip part extent
  code_there b h t w e =
      let o : start s 0 m (suc b) ≡ start s 0 m b + 1 = start_on s 0 m b e ∙ ap (λ (n : ℕ). start s 0 m b + n) (if_false (is_text_bit b) (1 + get_or s (start s 0 m b) 0) (size b) t ∙ code_one b h t w) in
      let f : get_or at (b + 1) 0 - 1 ≡ start s 0 m b = omega (arith, ends b h) in
      let k : 1 ≡ start s 0 m (suc b) - start s 0 m b = omega arith in (
        (λ i. span s (f i) (k i)) ∙ sym (if_false (is_text_bit b) (drop 1 (part s 0 m b)) (part s 0 m b) t),
        omega (arith, ends b h, in_field b h),
      )

  small_number : (b : ℕ) → b < 32 → is_text_bit b ≡ false → bit m b ≡ true → size b ≤ 8 → get_or ns b 0 ≡ number (content s 0 m b)
  unfolding value
  small_number b h t e k =
      let l : length (content s 0 m b) ≡ size b = length_number s 0 m b (in_field b h) e t in
      p.numbers b h ∙ if_false (is_text_bit b) (length (content s 0 m b)) (number (take 8 (content s 0 m b))) t ∙ ap number (take_all 8 (content s 0 m b) (omega arith))

  large_number : bit m 26 ≡ true → get_or ns 26 0 + 2 ^ 64 * high ≡ number (content s 0 m 26)
  unfolding value size fields
  large_number e =
      let l : length (content s 0 m 26) ≡ 16 = length_number s 0 m 26 (in_field 26 (lit< tt)) e refl in
      let n : get_or ns 26 0 ≡ number (take 8 (content s 0 m 26)) = p.numbers 26 (lit< tt) ∙ if_false (is_text_bit 26) (length (content s 0 m 26)) (number (take 8 (content s 0 m 26))) refl in
      (λ i. n i + 2 ^ 64 * p.high i) ∙ sym (two_words (content s 0 m 26) (omega arith))

  -- ---- a bit that stands

  plain_shown : (b : ℕ) → b < 32 → bit m b ≡ true → shown s (Some (plain_plan (get_or at (b + 1) 0) (get_or ns b 0) high b)) ≡ Some (spelling b (content s 0 m b))
  unfolding plain_plan form_of spelling is_plain if◌then◌otherwise◌
  plain_shown b h e = go (is_text_bit b) refl (within side status (range b)) refl (eqb b 26) refl (eqb high 0) refl
    where
      go : (x : Bool) → is_text_bit b ≡ x → (y : Bool) → within side status (range b) ≡ y → (z : Bool) → eqb b 26 ≡ z → (u : Bool) → eqb high 0 ≡ u
          → shown s (Some (plain_plan (get_or at (b + 1) 0) (get_or ns b 0) high b)) ≡ Some (spelling b (content s 0 m b))
      go true t y w z q u v = rw (t) (shown_bytes s (get_or at (b + 1) 0 - get_or ns b 0) (get_or ns b 0) ∙ ap {B = Option (List ℕ)} Some (text_there b h t))
      go false t true w z q u v = rw (t, w) (shown_bytes s (get_or at (b + 1) 0 - 1) 1 ∙ ap {B = Option (List ℕ)} Some (code_there b h t w e).0)
      go false t false w true q u v = wide u v
        where
          n : get_or ns b 0 + 2 ^ 64 * high ≡ number (content s 0 m b)
          n = subst (λ (j : ℕ). get_or ns j 0 + 2 ^ 64 * high ≡ number (content s 0 m j)) (sym (eqb-true b 26 q)) (large_number (rw (eqb-true b 26 q) at e))

          wide : (u : Bool) → eqb high 0 ≡ u → shown s (Some (plain_plan (get_or at (b + 1) 0) (get_or ns b 0) high b)) ≡ Some (spelling b (content s 0 m b))
          wide true v =
              rw (t, w, q, v)
              (shown_number s (get_or ns b 0) (places b) ∙ ap {B = Option (List ℕ)} (λ (j : ℕ). Some (decimal (places b) j)) (omega (arith, n, eqb-true high 0 v)))
          wide false v = rw (t, w, q, v) (shown_price s (get_or ns b 0) high (places b) ∙ ap {B = Option (List ℕ)} (λ (j : ℕ). Some (decimal (places b) j)) n)
      go false t false w false q u v =
          rw (t, w, q)
          (shown_number s (get_or ns b 0) (places b) ∙ ap {B = Option (List ℕ)} (λ (j : ℕ). Some (decimal (places b) j)) (small_number b h t e (number_eight b h t w q)))

  plain_sound : (b : ℕ) → b < 32 → bit m b ≡ true → Sound s (Some (plain_plan (get_or at (b + 1) 0) (get_or ns b 0) high b))
  unfolding plain_plan form_of if◌then◌otherwise◌
  plain_sound b h e = go (is_text_bit b) refl (within side status (range b)) refl (eqb b 26 && not (eqb high 0)) refl
    where
      go : (x : Bool) → is_text_bit b ≡ x → (y : Bool) → within side status (range b) ≡ y → (z : Bool) → eqb b 26 && not (eqb high 0) ≡ z
          → Sound s (Some (plain_plan (get_or at (b + 1) 0) (get_or ns b 0) high b))
      go true t y w z q = rw (t) (text_sound b h t)
      go false t true w z q = rw (t, w) (code_there b h t w e).1
      go false t false w true q = rw (t, w, q) (omega arith)
      go false t false w false q = rw (t, w, q) (omega arith)

  -- ---- fixed texts and the ExecID

  fixed_number : bit m 27 ≡ true → (get_or ns 27 0 ≡ get_or (content s 0 m 27) 0 0) × (get_or ns 27 0 < 19)
  unfolding size range fields ranged right_at in_range if◌then◌otherwise◌
  fixed_number e =
      let l : length (content s 0 m 27) ≡ 1 = length_number s 0 m 27 (in_field 27 (lit< tt)) e refl in
      let n : get_or ns 27 0 ≡ number (content s 0 m 27) = small_number 27 (lit< tt) refl e (lit≤ tt) in
      let r : right_at s 0 m 27 ≡ true = all_elim (right_at s 0 m) 32 (rw (← p.map) at (and_parts (all_below (right_at s 0 (map_at s 0)) 32) _ p.right).0) 27 (lit< tt) in
      let w : within 1 18 (value 27 (content s 0 m 27)) ≡ true = rw e at r in
      (n ∙ one_byte (content s 0 m 27) l, omega (arith, p.numbers 27 (lit< tt), within_most 1 18 (value 27 (content s 0 m 27)) w))
    where
      one_byte : (c : List ℕ) → length c ≡ 1 → number c ≡ get_or c 0 0
      one_byte [] q = absurd (omega arith)
      one_byte (x ∷ []) q = omega arith
      one_byte (x ∷ y ∷ c) q = absurd (omega arith)

  fixed_shown : shown s (fixed_plan m (get_or ns 27 0)) ≡ over fixed_text_in (field_at s 27)
  unfolding fixed_plan
  fixed_shown = go (bit m 27) refl
    where
      go : (x : Bool) → bit m 27 ≡ x → shown s (if bit m 27 then Some (Fixed (get_or ns 27 0)) otherwise None) ≡ over fixed_text_in (field_at s 27)
      go true e =
          ap (shown s) (if_true (bit m 27) (Some (Fixed (get_or ns 27 0))) None e) ∙ shown_fixed s (get_or ns 27 0)
          ∙ ap {B = Option (List ℕ)} Some (spoken_text (get_or ns 27 0) (fixed_number e).1 ∙ ap fixed_text (fixed_number e).0)
          ∙ ap (over fixed_text_in) (sym (on 27 e))
      go false e = ap (shown s) (if_false (bit m 27) (Some (Fixed (get_or ns 27 0))) None e) ∙ shown_nothing s ∙ ap (over fixed_text_in) (sym (off 27 e))

  name_there : or_else [] (field_at s 2) ≡ content s 0 m 2
  name_there = go (bit m 2) refl
    where
      go : (x : Bool) → bit m 2 ≡ x → or_else [] (field_at s 2) ≡ content s 0 m 2
      go true e = ap (or_else []) (on 2 e)
      go false e = ap (or_else []) (off 2 e) ∙ sym (content_off s 0 m 2 e)

  exec_shown : shown s (exec_plan m at ns) ≡ over (exec_id (field_at s 2)) (field_at s 25)
  unfolding exec_plan size range fields
  exec_shown = go (bit m 25) refl
    where
      go : (x : Bool) → bit m 25 ≡ x → shown s (if bit m 25 then Some (Exec (get_or at 3 0 - get_or ns 2 0) (get_or ns 2 0) (get_or ns 25 0)) otherwise None) ≡ over (exec_id (field_at s 2)) (field_at s 25)
      go true e =
          ap (shown s) (if_true (bit m 25) (Some (Exec (get_or at 3 0 - get_or ns 2 0) (get_or ns 2 0) (get_or ns 25 0))) None e) ∙ shown_exec s (get_or at 3 0 - get_or ns 2 0) (get_or ns 2 0) (get_or ns 25 0)
          ∙ (λ i. Some ((text_there 2 (lit< tt) refl ∙ sym name_there) i ++ (46 ∷ digits (small_number 25 (lit< tt) refl e (lit≤ tt) i))))
          ∙ ap (over (exec_id (field_at s 2))) (sym (on 25 e))
      go false e = ap (shown s) (if_false (bit m 25) (Some (Exec (get_or at 3 0 - get_or ns 2 0) (get_or ns 2 0) (get_or ns 25 0))) None e) ∙ shown_nothing s ∙ ap (over (exec_id (field_at s 2))) (sym (off 25 e))

  -- ---- every bit

  abbrev Right : ℕ → ℕ → Type 0
  Right k b = shown s (planned k m at ns high b) ≡ value_of k (field_at s) b

  -- a bit that stands, of those that have no rule of their own
  planned_on : (k b : ℕ) → b < 32 → eqb b 25 ≡ false → eqb b 27 ≡ false → bit m b ≡ true → shown s (planned k m at ns high b) ≡ Some (spelling b (content s 0 m b))
  unfolding planned if◌then◌otherwise◌
  planned_on k b h p q e = rw (p, q, e) (plain_shown b h e)

  planned_off : (k b : ℕ) → eqb b 25 ≡ false → eqb b 27 ≡ false → bit m b ≡ false → planned k m at ns high b ≡ instead_plan k m (get_or ns 27 0) b
  unfolding planned if◌then◌otherwise◌
  planned_off k b p q e = rw (p, q, e) refl

  text_spelled : (b : ℕ) (c : List ℕ) → is_text_bit b ≡ true → spelling b c ≡ c
  unfolding spelling is_plain if◌then◌otherwise◌
  text_spelled b c t = rw t refl

  at_2 : (k : ℕ) → Right k 2
  unfolding value_of instead_plan if◌then◌otherwise◌ size fields
  at_2 k = go (bit m 2) refl (eqb k 17) refl
    where
      go : (x : Bool) → bit m 2 ≡ x → (y : Bool) → eqb k 17 ≡ y → Right k 2
      go true e true q =
          rw q (planned_on k 2 (lit< tt) refl refl e ∙ ap {B = Option (List ℕ)} Some (text_spelled 2 (content s 0 m 2) refl) ∙ ap (λ (o : Option (List ℕ)). Some (or_else none_text o)) (sym (on 2 e)))
      go true e false q =
          rw q (planned_on k 2 (lit< tt) refl refl e ∙ ap {B = Option (List ℕ)} Some (text_spelled 2 (content s 0 m 2) refl) ∙ sym (on 2 e))
      go false e true q =
          rw (planned_off k 2 refl refl e, q) (shown_fixed s 19 ∙ ap {B = Option (List ℕ)} Some spoken_none ∙ ap (λ (o : Option (List ℕ)). Some (or_else none_text o)) (sym (off 2 e)))
      go false e false q = rw (planned_off k 2 refl refl e, q) (shown_nothing s ∙ sym (off 2 e))

  at_20 : (k : ℕ) → Right k 20
  unfolding value_of instead_plan if◌then◌otherwise◌ size fields
  at_20 k = go (bit m 20) refl (eqb k 17) refl
    where
      go : (x : Bool) → bit m 20 ≡ x → (y : Bool) → eqb k 17 ≡ y → Right k 20
      go true e true q =
          rw q (planned_on k 20 (lit< tt) refl refl e ∙ ap {B = Option (List ℕ)} Some (text_spelled 20 (content s 0 m 20) refl) ∙ ap (λ (o : Option (List ℕ)). either o (over fixed_text_in (field_at s 27))) (sym (on 20 e)))
      go true e false q =
          rw q (planned_on k 20 (lit< tt) refl refl e ∙ ap {B = Option (List ℕ)} Some (text_spelled 20 (content s 0 m 20) refl) ∙ sym (on 20 e))
      go false e true q =
          rw (planned_off k 20 refl refl e, q) (fixed_shown ∙ ap (λ (o : Option (List ℕ)). either o (over fixed_text_in (field_at s 27))) (sym (off 20 e)))
      go false e false q = rw (planned_off k 20 refl refl e, q) (shown_nothing s ∙ sym (off 20 e))

  at_25 : (k : ℕ) → Right k 25
  unfolding planned value_of if◌then◌otherwise◌
  at_25 k = exec_shown

  at_27 : (k : ℕ) → Right k 27
  unfolding planned value_of if◌then◌otherwise◌
  at_27 k = fixed_shown

  other : (k b : ℕ) → b < 32 → eqb b 2 ≡ false → eqb b 20 ≡ false → eqb b 25 ≡ false → eqb b 27 ≡ false → Right k b
  unfolding value_of instead_plan if◌then◌otherwise◌
  other k b h a c d f = go (bit m b) refl (eqb k 17) refl
    where
      go : (x : Bool) → bit m b ≡ x → (y : Bool) → eqb k 17 ≡ y → Right k b
      go true e y q = rw (a, c, d, f) (planned_on k b h d f e ∙ ap (over (spelling b)) (sym (on b e)))
      go false e true q = rw (planned_off k b d f e, a, c, d, f, q) (shown_nothing s ∙ ap (over (spelling b)) (sym (off b e)))
      go false e false q = rw (planned_off k b d f e, a, c, d, f, q) (shown_nothing s ∙ ap (over (spelling b)) (sym (off b e)))

  -- THE LAW: the value planned is the one of the definitions
  pub plan_right : (k b : ℕ) → b < 32 → shown s (planned k m at ns high b) ≡ value_of k (field_at s) b
  plan_right k b h = go (ℕ_discrete b 2) (ℕ_discrete b 20) (ℕ_discrete b 25) (ℕ_discrete b 27)
    where
      go : Dec (b ≡ 2) → Dec (b ≡ 20) → Dec (b ≡ 25) → Dec (b ≡ 27) → Right k b
      go (yes a) c d f = subst (Right k) (sym a) (at_2 k)
      go (no a) (yes c) d f = subst (Right k) (sym c) (at_20 k)
      go (no a) (no c) (yes d) f = subst (Right k) (sym d) (at_25 k)
      go (no a) (no c) (no d) (yes f) = subst (Right k) (sym f) (at_27 k)
      go (no a) (no c) (no d) (no f) = other k b h (ne_eqb b 2 a) (ne_eqb b 20 c) (ne_eqb b 25 d) (ne_eqb b 27 f)

  -- ---- and its bytes stand in the record

  fixed_sound : (n : ℕ) → Sound s (fixed_plan m n)
  unfolding fixed_plan
  fixed_sound n = split_if (λ (v : Option Value). Sound s v) (bit m 27) (λ e. omega arith) (λ e. omega arith)

  pub plan_sound : (k b : ℕ) → b < 32 → Sound s (planned k m at ns high b)
  unfolding planned exec_plan instead_plan size fields
  plan_sound k b h =
      split_if (λ (v : Option Value). Sound s v) (eqb b 25)
      (λ e. split_if (λ (v : Option Value). Sound s v) (bit m 25) (λ q. named) (λ q. omega arith))
      (λ e. split_if (λ (v : Option Value). Sound s v) (eqb b 27) (λ q. fixed_sound (get_or ns 27 0))
      (λ q. split_if (λ (v : Option Value). Sound s v) (bit m b) (plain_sound b h)
      (λ r. split_if (λ (v : Option Value). Sound s v) (not (eqb k 17)) (λ u. omega arith)
      (λ u. split_if (λ (v : Option Value). Sound s v) (eqb b 2) (λ w. omega arith)
      (λ w. split_if (λ (v : Option Value). Sound s v) (eqb b 20) (λ x. fixed_sound (get_or ns 27 0)) (λ x. omega arith))))))
    where
      named : (get_or at 3 0 - get_or ns 2 0) + get_or ns 2 0 ≤ length s
      named = text_sound 2 (lit< tt) refl
