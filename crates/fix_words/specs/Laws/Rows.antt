-- One law for every table: what a row wrote is found again, if no row that may be missing shares its tag with what can follow it.
-- Rests on Rows.
use Rattle.std.specs.Prelude.{ℕ, ◌≡◌, Bool, ◌&&◌, ◌||◌, Option, None, Some, refl, List, [], ◌∷◌, ◌++◌, true, false, not, eqb}
use Rattle.std.proofs.Common.{sym, ap, ◌∙◌, ⊎_elim, eqb-true, eq-eqb}
use Rattle.std.proofs.lemmas.Bool.{not-true, and_parts, and_from, or_cases, or_parts}
use Rattle.std.specs.Option.{is_some}
use Rattle.prelude.specs.Cases.{if◌then◌otherwise◌}
use Rattle.prelude.specs.Laws.Cases.{split_if, if_true, if_false, clash}
use Rattle.fix_words.specs.Lists.{every, is_print}
use Rattle.fix_words.specs.Spelling.{Field, field, printable}
use Rattle.fix_words.specs.Rows.{Row, Values, field_of, body, leads, first, rest, value_in, in_rows}

-- ---- what is written is found

-- the tag t cannot follow: it is of no row up to the first that must stand, and of no field behind them
abbrev pub apart : ℕ → List Row → ℕ → Bool
apart t [] last = not (eqb t last)
apart t (r ∷ rows) last = not (eqb t r.tag) && (r.must || apart t rows last)

abbrev pub all_apart : List Row → ℕ → Bool
all_apart [] last = true
all_apart (r ∷ rows) last = (r.must || apart r.tag rows last) && all_apart rows last

-- what must stand does
abbrev pub stand : List Row → Values → Bool
stand [] vs = true
stand (r ∷ rows) vs = (not r.must || is_some (vs r.bit)) && stand rows vs

or_none : (x : Bool) → (x || false) ≡ true → x ≡ true
or_none true e = refl
or_none false e = e

pub or_right : (x y : Bool) → y ≡ true → (x || y) ≡ true
or_right true y q = refl
or_right false y q = q

pub missing : (m : Bool) → (not m || false) ≡ true → m ≡ false
missing m e = not-true m (or_none (not m) e)

module _ (vs : Values) (last : ℕ) (w : List ℕ) (fs : List Field) where
  abbrev behind : List Field
  behind = field last w ∷ fs

  pub leads_apart : (t : ℕ) (rows : List Row) → apart t rows last ≡ true → stand rows vs ≡ true → leads t (body rows vs behind) ≡ false
  unfolding body
  leads_apart t [] a s = not-true (eqb t last) a
  leads_apart t (r ∷ rows) a s =
      let h = and_parts (not (eqb t r.tag)) (r.must || apart t rows last) a in
      let g = and_parts (not r.must || is_some (vs r.bit)) (stand rows vs) s in
      go (vs r.bit) h.0 g.0 h.1 (λ m. leads_apart t rows m g.1)
    where
      go : (o : Option (List ℕ)) → not (eqb t r.tag) ≡ true → (not r.must || is_some o) ≡ true → (r.must || apart t rows last) ≡ true
          → (apart t rows last ≡ true → leads t (body rows vs behind) ≡ false) → leads t (field_of r.tag o (body rows vs behind)) ≡ false
      go (Some v) p q c later = not-true (eqb t r.tag) p
      go None p q c later = ⊎_elim (λ m. clash r.must m (missing r.must q)) later (or_cases r.must (apart t rows last) c)

  pub value_back : (rows : List Row) → all_apart rows last ≡ true → stand rows vs ≡ true → (b : ℕ) → in_rows rows b ≡ true
      → value_in rows (body rows vs behind) b ≡ vs b
  unfolding body value_in
  value_back [] a s b i = clash false i refl
  value_back (r ∷ rows) a s b i =
      let h = and_parts (r.must || apart r.tag rows last) (all_apart rows last) a in
      let g = and_parts (not r.must || is_some (vs r.bit)) (stand rows vs) s in
      go (vs r.bit) refl h.0 g.0 g.1 (value_back rows h.1 g.1 b)
    where
      at : (o : Option (List ℕ)) → vs r.bit ≡ o → (in_rows rows b ≡ true → value_in rows (body rows vs behind) b ≡ vs b)
          → (x : Bool) → eqb r.bit b ≡ x → (if eqb r.bit b then o otherwise value_in rows (body rows vs behind) b) ≡ vs b
      at o z later true e = if_true (eqb r.bit b) _ _ e ∙ sym z ∙ ap vs (eqb-true r.bit b e)
      at o z later false e =
          if_false (eqb r.bit b) _ _ e
          ∙ later (⊎_elim (λ q. clash (eqb r.bit b) q e) (λ q. q) (or_cases (eqb r.bit b) (in_rows rows b) i))

      go : (o : Option (List ℕ)) → vs r.bit ≡ o → (r.must || apart r.tag rows last) ≡ true → (not r.must || is_some o) ≡ true → stand rows vs ≡ true
          → (in_rows rows b ≡ true → value_in rows (body rows vs behind) b ≡ vs b) → value_in (r ∷ rows) (field_of r.tag o (body rows vs behind)) b ≡ vs b
      go (Some v) z p q d later = if_true (eqb r.tag r.tag) _ _ (eq-eqb r.tag r.tag refl) ∙ at (Some v) z later (eqb r.bit b) refl
      go None z p q d later =
          let l : leads r.tag (body rows vs behind) ≡ false =
          ⊎_elim (λ m. clash r.must m (missing r.must q)) (λ m. leads_apart r.tag rows m d) (or_cases r.must (apart r.tag rows last) p) in
          if_false (leads r.tag (body rows vs behind)) _ _ l ∙ at None z later (eqb r.bit b) refl

-- the body asks only the bits of its rows
pub body_same : (vs us : Values) (fs : List Field) (rows : List Row) → ((b : ℕ) → in_rows rows b ≡ true → vs b ≡ us b) → body rows vs fs ≡ body rows us fs
unfolding body
body_same vs us fs [] h = refl
body_same vs us fs (r ∷ rows) h =
    let e = h r.bit (rw (eq-eqb r.bit r.bit refl) refl) in
    let i = body_same vs us fs rows (λ b q. h b (or_right (eqb r.bit b) (in_rows rows b) q)) in
    λ j. field_of r.tag (e j) (i j)

-- the values print, so the fields do
abbrev pub prints : Option (List ℕ) → Bool
prints None = true
prints (Some v) = every is_print v

pub body_prints : (vs : Values) (fs : List Field) (rows : List Row) → ((b : ℕ) → in_rows rows b ≡ true → prints (vs b) ≡ true) → printable fs ≡ true
    → printable (body rows vs fs) ≡ true
unfolding body
body_prints vs fs [] h p = p
body_prints vs fs (r ∷ rows) h p =
    go (vs r.bit) (h r.bit (rw (eq-eqb r.bit r.bit refl) refl)) (body_prints vs fs rows (λ b q. h b (or_right (eqb r.bit b) (in_rows rows b) q)) p)
  where
    go : (o : Option (List ℕ)) → prints o ≡ true → printable (body rows vs fs) ≡ true → printable (field_of r.tag o (body rows vs fs)) ≡ true
    go None q i = i
    go (Some v) q i = and_from _ _ q i

pub body_append : (vs : Values) (fs gs : List Field) (rows : List Row) → body rows vs fs ++ gs ≡ body rows vs (fs ++ gs)
unfolding body
body_append vs fs gs [] = refl
body_append vs fs gs (r ∷ rows) = go (vs r.bit) (body_append vs fs gs rows)
  where
    go : (o : Option (List ℕ)) → body rows vs fs ++ gs ≡ body rows vs (fs ++ gs)
        → field_of r.tag o (body rows vs fs) ++ gs ≡ field_of r.tag o (body rows vs (fs ++ gs))
    go None e = e
    go (Some v) e = ap (λ (l : List Field). field r.tag v ∷ l) e

-- a bit of no row has no value
pub value_none : (rows : List Row) (fs : List Field) (b : ℕ) → in_rows rows b ≡ false → value_in rows fs b ≡ None
unfolding value_in
value_none [] fs b e = refl
value_none (r ∷ rows) fs b e =
    let h = or_parts (eqb r.bit b) (in_rows rows b) e in
    split_if (λ (o : Option (List ℕ)). o ≡ None) (leads r.tag fs)
    (λ l. if_false (eqb r.bit b) (first fs) (value_in rows (rest fs) b) h.0 ∙ value_none rows (rest fs) b h.1)
    (λ l. if_false (eqb r.bit b) None (value_in rows fs b) h.0 ∙ value_none rows fs b h.1)
