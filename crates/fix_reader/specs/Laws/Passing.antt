-- The fields of a writing pass the reader's questions, and bytes are a message exactly if their fields pass. Rests on Checks, Fitting and Trip.
use Rattle.std.specs.Prelude.{◌≡◌, ℕ, ◌%◌, ◌<◌, Bool, true, false, not, ◌&&◌, ltb, List, [], ◌∷◌, ◌++◌, length, drop, ◌==◌, nat_le, nat_lt, slice_index, None, Some, refl}
use Rattle.std.proofs.Common.{sym, ap, subst, ◌∙◌, eqb-true, get_or-drop}
use Rattle.std.proofs.lemmas.Bool.{and_parts, and_from}
use Rattle.std.specs.Option.{is_some}
use Rattle.std.specs.Cmp.{both_ways}
use Rattle.prelude.specs.Laws.Cases.{if_true, if_false, clash}
use Rattle.prelude.specs.Below.{all_below}
use Rattle.prelude.specs.Laws.Below.{all_elim}
use Rattle.prelude.specs.Number.{bound}
use Rattle.decimal.specs.Decimal.{digits, low_digits}
use Rattle.decimal.specs.Laws.Back.{digits_back}
use Rattle.format.specs.Codes.{within}
use Rattle.fix_words.specs.Lists.{every, same}
use Rattle.fix_words.specs.Spelling.{Field, field, spellings, fields_in, printable}
use Rattle.fix_words.specs.Rows.{Values, body, value_in, in_rows}
use Rattle.fix_words.specs.Values.{rows, type_of, kind_of, value_of}
use Rattle.fix_words.specs.Message.{Writing, version, stamp, inner, front, sum, trailer, framed, fields_of, bytes_for, shape_at, range_at, text_at, is_text, paired, shaped, ranged, texted, typed, is_writing, value_at, loose_of, is_message, Read, read_of}
use Rattle.fix_claims.specs.Reading.{no_field}
use Rattle.fix_words.specs.Laws.Lists.{same_true, same_self}
use Rattle.fix_words.specs.Laws.Rows.{all_apart, stand, value_back, value_none, body_append}
use Rattle.fix_words.proofs.Laws.Kinds.{kind_back, rows_apart, right, with_name}
use Rattle.fix_words.specs.Laws.Spelling.{fields_back}
use Rattle.fix_words.proofs.Laws.Again.{values_stand}
use Rattle.fix_words.proofs.Laws.Trip.{written_message, read_back}
use Rattle.fix_reader.specs.Laws.Walk.{first_value, walk, walk_body}
use Rattle.fix_reader.specs.Laws.Fits.{asked_by, name_first, must_name, only_report}
use Rattle.fix_reader.specs.Laws.Fitting.{fit_again, fit_once}
use Rattle.fix_reader.specs.Laws.Checks.{kind_in, head_tags, is_number, headed, init, same_fields, sum_field, closed, ends, checks, fields_self, stamp_one, text_rows, stand_must, init_is, passes_writing, passes_fields}

-- ---- the fields of a writing pass

module _ (w : Writing) (is : is_writing w ≡ true) where
  abbrev kind_of_lem : ℕ
  kind_of_lem = w.kind

  parts : (typed w ≡ true) × ((shaped kind_of_lem w.at ≡ true) × ((ranged w.at ≡ true) × (texted w ≡ true)))
  unfolding is_writing
  parts =
      let a = and_parts (typed w) _ is in
      let b = and_parts (shaped kind_of_lem w.at) _ a.1 in
      (a.0, (b.0, and_parts (ranged w.at) (texted w) b.1))

  shapes : (within 16 20 kind_of_lem ≡ true) × ((all_below (λ b. shape_at kind_of_lem b (w.at b)) 32 ≡ true) × (paired kind_of_lem w.at ≡ true))
  unfolding shaped
  shapes =
      let a = and_parts (within 16 20 kind_of_lem) _ parts.1.0 in
      (a.0, and_parts (all_below (λ b. shape_at kind_of_lem b (w.at b)) 32) (paired kind_of_lem w.at) a.1)

  texts : (is_text w.sender ≡ true) × ((is_text w.target ≡ true) × ((is_text w.time ≡ true) × (all_below (λ b. text_at b (w.at b)) 32 ≡ true)))
  unfolding texted
  texts =
      let a = and_parts (is_text w.sender) _ parts.1.1.1 in
      let b = and_parts (is_text w.target) _ a.1 in
      (a.0, (b.0, and_parts (is_text w.time) _ b.1))

  ok : (b : ℕ) → b < 32 → right kind_of_lem b (w.at b) ≡ true
  unfolding ranged
  ok b h =
      and_from _ _ (all_elim (λ b. shape_at kind_of_lem b (w.at b)) 32 shapes.1.0 b h)
      (and_from _ _ (all_elim (λ b. range_at b (w.at b)) 32 parts.1.1.0 b h) (all_elim (λ b. text_at b (w.at b)) 32 texts.1.1.1 b h))

  sequence_typed : ltb w.sequence (bound 8) ≡ true
  unfolding typed
  sequence_typed = (and_parts (nat_lt w.sequence (bound 8)) _ parts.0).0

  abbrev vs : Values
  vs = value_of kind_of_lem w.at

  abbrev last : Field
  last = trailer (spellings (front (inner w)))

  abbrev gs : List Field
  gs = body (rows kind_of_lem) vs (stamp kind_of_lem w.time []) ++ (last ∷ [])

  -- behind the rows stands 60 or 10
  behind : (T : ℕ) × (v : List ℕ) × (fs : List Field) × (stamp kind_of_lem w.time [] ++ (last ∷ []) ≡ field T v ∷ fs) × (all_apart (rows kind_of_lem) T ≡ true)
  behind = go (nat_le 18 kind_of_lem) refl
    where
      a : (all_apart (rows kind_of_lem) 60 ≡ true) × (all_apart (rows kind_of_lem) 10 ≡ true)
      a = and_parts (all_apart (rows kind_of_lem) 60) (all_apart (rows kind_of_lem) 10) (rows_apart kind_of_lem shapes.0)

      go : (x : Bool) → nat_le 18 kind_of_lem ≡ x
          → (T : ℕ) × (v : List ℕ) × (fs : List Field) × (stamp kind_of_lem w.time [] ++ (last ∷ []) ≡ field T v ∷ fs) × (all_apart (rows kind_of_lem) T ≡ true)
      go true q = (60, w.time, last ∷ [], ap (λ (l : List Field). l ++ (last ∷ [])) (if_true (nat_le 18 kind_of_lem) (field 60 w.time ∷ []) [] q), a.0)
      go false q = (10, last.value, [], ap (λ (l : List Field). l ++ (last ∷ [])) (if_false (nat_le 18 kind_of_lem) (field 60 w.time ∷ []) [] q), a.1)

  gs_are : gs ≡ body (rows kind_of_lem) vs (field behind.0 behind.1 ∷ behind.2)
  gs_are = body_append vs (stamp kind_of_lem w.time []) (last ∷ []) (rows kind_of_lem) ∙ ap (body (rows kind_of_lem) vs) behind.3

  stand_up : stand (rows kind_of_lem) vs ≡ true
  stand_up = values_stand kind_of_lem w.at shapes.0 ok shapes.1.1

  abbrev found_values : Values
  found_values = value_in (rows kind_of_lem) gs

  found : (b : ℕ) → in_rows (rows kind_of_lem) b ≡ true → found_values b ≡ vs b
  found b i =
      ap (λ (l : List Field). value_in (rows kind_of_lem) l b) gs_are
      ∙ value_back vs behind.0 behind.1 behind.2 (rows kind_of_lem) behind.4 stand_up b i

  else_none : (b : ℕ) → in_rows (rows kind_of_lem) b ≡ false → found_values b ≡ None
  else_none b i = value_none (rows kind_of_lem) gs b i

  name_found : in_rows (rows kind_of_lem) 25 ≡ true → found_values 2 ≡ Some (first_value gs)
  name_found i =
      let e = only_report kind_of_lem shapes.0 i in
      let j = with_name kind_of_lem shapes.0 i in
      let s : is_some (found_values 2) ≡ true = ap is_some (found 2 j) ∙ stand_must (rows kind_of_lem) vs stand_up 2 (must_name kind_of_lem shapes.0 j) in
      subst (λ (j : ℕ). value_in (rows j) gs 2 ≡ Some (first_value gs)) (sym e)
      (name_first gs (subst (λ (j : ℕ). is_some (value_in (rows j) gs 2) ≡ true) e s))

  passed : (seen : Bool) → (seen ≡ true → is_some (vs 20) ≡ true) → (b : ℕ) → in_rows (rows kind_of_lem) b ≡ true → (v : List ℕ) → vs b ≡ Some v
      → asked_by kind_of_lem (first_value gs) seen b v ≡ true
  passed seen p b i v z =
      and_from _ _ (fit_again kind_of_lem w.at shapes.0 ok shapes.1.1 found_values found else_none (first_value gs) name_found b i v (found b i ∙ z))
      (once seen refl (b == 27) refl)
    where
      once : (x : Bool) → seen ≡ x → (y : Bool) → (b == 27) ≡ y → not (seen && b == 27) ≡ true
      once false s y e = rw s refl
      once true s false e = rw (s, e) refl
      once true s true e =
          let q : b ≡ 27 = eqb-true b 27 e in
          let i27 : in_rows (rows kind_of_lem) 27 ≡ true = subst (λ (b : ℕ). in_rows (rows kind_of_lem) b ≡ true) q i in
          let i20 : in_rows (rows kind_of_lem) 20 ≡ true = text_rows kind_of_lem shapes.0 i27 in
          absurd (fit_once kind_of_lem w.at shapes.0 ok shapes.1.1 found_values found else_none (first_value gs) name_found i27
          (ap is_some (found 20 i20) ∙ p s) (ap is_some (found 27 i27 ∙ ap vs (sym q) ∙ z)))

  walks : walk (asked_by kind_of_lem (first_value gs)) false (rows kind_of_lem) gs ≡ Some (stamp kind_of_lem w.time [] ++ (last ∷ []))
  walks =
      ap (walk (asked_by kind_of_lem (first_value gs)) false (rows kind_of_lem)) gs_are
      ∙ walk_body (asked_by kind_of_lem (first_value gs)) vs behind.0 behind.1 behind.2 false (λ e. clash false e refl) (rows kind_of_lem) passed behind.4 stand_up
      ∙ ap (λ (l : List Field). Some l) (sym behind.3)

  whole : fields_of w ≡ front (inner w) ++ (last ∷ [])
  unfolding fields_of framed
  whole = refl

  init_front : init (fields_of w) ≡ front (inner w)
  init_front = init_is (fields_of w) (front (inner w)) last whole

  -- its fields by number
  tags_in : head_tags (fields_of w) ≡ true
  unfolding fields_of framed front inner
  tags_in = refl

  v0 : value_at (fields_of w) 0 ≡ version
  unfolding fields_of framed front
  v0 = refl

  v1 : value_at (fields_of w) 1 ≡ digits (length (spellings (inner w)))
  unfolding fields_of framed front
  v1 = refl

  v2 : value_at (fields_of w) 2 ≡ type_of kind_of_lem ∷ []
  unfolding fields_of framed front inner
  v2 = refl

  v3 : value_at (fields_of w) 3 ≡ w.sender
  unfolding fields_of framed front inner
  v3 = refl

  v4 : value_at (fields_of w) 4 ≡ w.target
  unfolding fields_of framed front inner
  v4 = refl

  v5 : value_at (fields_of w) 5 ≡ digits w.sequence
  unfolding fields_of framed front inner
  v5 = refl

  v6 : value_at (fields_of w) 6 ≡ w.time
  unfolding fields_of framed front inner
  v6 = refl

  seven : drop 7 (fields_of w) ≡ gs
  unfolding fields_of framed front inner
  seven = refl

  v7 : value_at (fields_of w) 7 ≡ first_value gs
  v7 = ap (λ (f : Field). f.value) (sym (get_or-drop 7 (fields_of w) 0 no_field)) ∙ ap first_value seven

  kind_in_lem : kind_in (fields_of w) ≡ kind_of_lem
  kind_in_lem = ap (λ (v : List ℕ). kind_of (slice_index v 0)) v2 ∙ kind_back kind_of_lem shapes.0

  headed_in : headed (fields_of w) ≡ true
  unfolding headed
  headed_in =
      let q = w.sequence in
      and_from _ _ tags_in
      (and_from _ _ (ap (λ (v : List ℕ). same v version) v0 ∙ same_self version)
      (and_from _ _ (ap (within 16 20) kind_in_lem ∙ shapes.0)
      (and_from _ _ ((λ i. same (v2 i) (type_of (kind_in_lem i) ∷ [])) ∙ same_self (type_of kind_of_lem ∷ []))
      (and_from _ _ (ap is_text v3 ∙ texts.0)
      (and_from _ _ (ap is_text v4 ∙ texts.1.0)
      (and_from _ _
      (ap is_number v5
      ∙ and_from _ _ (ap (λ (n : ℕ). same (digits n) (digits q)) (digits_back q) ∙ same_self (digits q)) (ap (λ (n : ℕ). ltb n (bound 8)) (digits_back q) ∙ sequence_typed))
      (ap is_text v6 ∙ texts.1.1.0)))))))

  two_off : drop 2 (front (inner w)) ≡ inner w
  unfolding front
  two_off = refl

  closes : closed (fields_of w) (stamp kind_of_lem w.time [] ++ (last ∷ [])) ≡ true
  unfolding closed
  closes =
      let out : List Field = stamp kind_of_lem w.time [] ++ (last ∷ []) in
      let t : sum_field (fields_of w) ≡ last = ap (λ (l : List Field). field 10 (low_digits 3 (sum (spellings l) % 256))) init_front in
      and_from _ _
      (ap (same_fields out) ((λ i. stamp (kind_in_lem i) (v6 i) (t i ∷ [])) ∙ stamp_one kind_of_lem w.time last) ∙ fields_self out)
      ((λ i. same (v1 i) (digits (length (spellings (drop 2 (init_front i))))))
      ∙ ap (λ (l : List Field). same (digits (length (spellings (inner w)))) (digits (length (spellings l)))) two_off
      ∙ same_self (digits (length (spellings (inner w)))))

  pub writing_passes : checks (fields_of w) ≡ true
  unfolding checks
  writing_passes =
      and_from _ _ headed_in
      (ap (ends (fields_of w)) ((λ i. walk (asked_by (kind_in_lem i) (v7 i)) false (rows (kind_in_lem i)) (seven i)) ∙ walks) ∙ closes)

  -- it is read as its fields
  pub fields_in_lem : fields_in (bytes_for w) ≡ fields_of w
  unfolding read_of
  fields_in_lem = ap (λ (r : Read). r.fields) (sym (if_true (is_message (bytes_for w)) (record { refusal = 0; fields = fields_in (bytes_for w) }) _ (written_message w is)) ∙ read_back w is)

-- ---- BYTES ARE A MESSAGE EXACTLY IF THEIR FIELDS PASS

module _ (s : List ℕ) (fs : List Field) (spelled : spellings fs ≡ s) (prints : printable fs ≡ true) where
  fields_there : fields_in s ≡ fs
  fields_there = ap fields_in (sym spelled) ∙ fields_back fs prints

  message_passes : is_message s ≡ true → checks fs ≡ true
  unfolding is_message
  message_passes m =
      let w : Writing = loose_of (fields_in s) in
      let h = and_parts (is_writing w) (same (bytes_for w) s) m in
      let e : fields_of w ≡ fs = sym (fields_in_lem w h.0) ∙ ap fields_in (same_true (bytes_for w) s h.1) ∙ fields_there in
      subst (λ (l : List Field). checks l ≡ true) e (writing_passes w h.0)

  passes_message : ((i : ℕ) → every (λ x. ltb x 256) (value_at fs i) ≡ true) → checks fs ≡ true → is_message s ≡ true
  unfolding is_message bytes_for
  passes_message bytes c =
      and_from _ _ (ap (λ (l : List Field). is_writing (loose_of l)) fields_there ∙ passes_writing fs c bytes)
      (ap (λ (l : List ℕ). same l s) (ap (λ (l : List Field). spellings (fields_of (loose_of l))) fields_there ∙ ap spellings (passes_fields fs c bytes) ∙ spelled) ∙ same_self s)

  pub message_is : ((i : ℕ) → every (λ x. ltb x 256) (value_at fs i) ≡ true) → is_message s ≡ checks fs
  message_is bytes = both_ways (is_message s) (checks fs) message_passes (passes_message bytes)
