-- The rows of a table walked over fields, as the reader does it: what it takes is what `body` writes, and it takes all that `body` writes.
-- Rests on Rows.
use Rattle.std.specs.Prelude.{◌≡◌, ℕ, Bool, true, false, not, ◌&&◌, ◌||◌, List, [], ◌∷◌, ◌==◌, nat_eq, slice_index_or, Option, None, Some, refl}
use Rattle.std.proofs.Common.{sym, ap, subst, ◌∙◌, eqb-true, eq-eqb, ⊎_elim}
use Rattle.std.proofs.Math.Bool.{and-false}
use Rattle.std.proofs.lemmas.Bool.{not-true, and_parts, or_cases}
use Rattle.std.specs.Option.{is_some}
use Rattle.prelude.specs.Cases.{if◌then◌otherwise◌}
use Rattle.prelude.specs.Laws.Cases.{if_true, if_false, clash, none_some, same_some}
use Rattle.fix_words.specs.Spelling.{Field, field}
use Rattle.fix_words.specs.Rows.{Row, Values, field_of, body, leads, first, rest, value_in, in_rows}
use Rattle.fix_claims.specs.Reading.{no_field}
use Rattle.fix_words.specs.Laws.Rows.{apart, all_apart, stand, missing, leads_apart, body_same, value_none, or_right}
use Rattle.fix_words.proofs.Laws.Kinds.{must_in, must_row}

-- what is asked of the value of a bit, whether the venue's text stood or not
abbrev pub Asked : Type 0
Asked = Bool → ℕ → List ℕ → Bool

abbrev pub first_value : List Field → List ℕ
first_value fs = (slice_index_or fs 0 no_field).value

-- each row takes the first field that is left, if it has the row's tag and the value passes; what is left behind the rows
unfoldable pub walk : Asked → Bool → List Row → List Field → Option (List Field)
walk t seen [] fs = Some fs
walk t seen (r ∷ rows) fs =
    if leads r.tag fs then (if t seen r.bit (first_value fs) then walk t (seen || r.bit == 20) rows (rest fs) otherwise None) otherwise
    if r.must then None otherwise
    walk t seen rows fs

-- ---- one row

-- a row that took a field, or did not have to
data Step (t : Asked) (seen : Bool) (r : Row) (rows : List Row) (gs out : List Field) : Type 0 where
  took : leads r.tag gs ≡ true → t seen r.bit (first_value gs) ≡ true → walk t (seen || r.bit == 20) rows (rest gs) ≡ Some out
      → Step t seen r rows gs out
  passed : leads r.tag gs ≡ false → r.must ≡ false → walk t seen rows gs ≡ Some out → Step t seen r rows gs out

step : (t : Asked) (seen : Bool) (r : Row) (rows : List Row) (gs out : List Field) → walk t seen (r ∷ rows) gs ≡ Some out → Step t seen r rows gs out
unfolding walk if◌then◌otherwise◌
step t seen r rows gs out e = go (leads r.tag gs) refl (t seen r.bit (first_value gs)) refl r.must refl
  where
    go : (x : Bool) → leads r.tag gs ≡ x → (y : Bool) → t seen r.bit (first_value gs) ≡ y → (z : Bool) → r.must ≡ z → Step t seen r rows gs out
    go true p true q z w = took p q (sym (rw (p, q) refl) ∙ e)
    go true p false q z w = none_some (sym e ∙ (rw (p, q) refl)) (refl {a = Some out})
    go false p y q true w = none_some (sym e ∙ (rw (p, w) refl)) (refl {a = Some out})
    go false p y q false w = passed p w (sym (rw (p, w) refl) ∙ e)

module _ (r : Row) (rows : List Row) (gs : List Field) where
  value_here : leads r.tag gs ≡ true → (b : ℕ) → (r.bit == b) ≡ true → value_in (r ∷ rows) gs b ≡ first gs
  unfolding value_in
  value_here l b e = if_true (leads r.tag gs) _ _ l ∙ if_true (r.bit == b) _ _ e

  value_later : leads r.tag gs ≡ true → (b : ℕ) → (r.bit == b) ≡ false → value_in (r ∷ rows) gs b ≡ value_in rows (rest gs) b
  unfolding value_in
  value_later l b e = if_true (leads r.tag gs) _ _ l ∙ if_false (r.bit == b) _ _ e

  value_not : leads r.tag gs ≡ false → (b : ℕ) → (r.bit == b) ≡ true → value_in (r ∷ rows) gs b ≡ None
  unfolding value_in
  value_not l b e = if_false (leads r.tag gs) _ _ l ∙ if_true (r.bit == b) _ _ e

  value_past : leads r.tag gs ≡ false → (b : ℕ) → (r.bit == b) ≡ false → value_in (r ∷ rows) gs b ≡ value_in rows gs b
  unfolding value_in
  value_past l b e = if_false (leads r.tag gs) _ _ l ∙ if_false (r.bit == b) _ _ e

-- the first field, if it has the row's tag
leading : (n : ℕ) (gs : List Field) → leads n gs ≡ true → (first gs ≡ Some (first_value gs)) × (gs ≡ field n (first_value gs) ∷ rest gs)
leading n [] l = clash false l refl
leading n (f ∷ gs) l = (refl, λ i. field (sym (eqb-true n f.tag l) i) f.value ∷ gs)

-- the value of the first row, if it has one
pub head_value : (r : Row) (rows : List Row) (gs : List Field) → is_some (value_in (r ∷ rows) gs r.bit) ≡ true → value_in (r ∷ rows) gs r.bit ≡ Some (first_value gs)
head_value r rows gs e = go (leads r.tag gs) refl
  where
    mine : nat_eq r.bit r.bit ≡ true
    mine = eq-eqb r.bit r.bit refl

    go : (x : Bool) → leads r.tag gs ≡ x → value_in (r ∷ rows) gs r.bit ≡ Some (first_value gs)
    go true l = value_here r rows gs l r.bit mine ∙ (leading r.tag gs l).0
    go false l = clash (is_some (value_in (r ∷ rows) gs r.bit)) e (ap is_some (value_not r rows gs l r.bit mine))

-- ---- what was taken

-- each bit has one row
abbrev pub distinct : List Row → Bool
distinct [] = true
distinct (r ∷ rows) = not (in_rows rows r.bit) && distinct rows

other_bit : (r : Row) (rows : List Row) → not (in_rows rows r.bit) ≡ true → (b : ℕ) → in_rows rows b ≡ true → (r.bit == b) ≡ false
other_bit r rows d b i = go (r.bit == b) refl
  where
    go : (x : Bool) → (r.bit == b) ≡ x → (r.bit == b) ≡ false
    go true e = clash (in_rows rows b) i (ap (in_rows rows) (sym (eqb-true r.bit b e)) ∙ not-true _ d)
    go false e = e

pub record Walked (t : Asked) (rows : List Row) (gs out : List Field) : Type 0 where
  pub same : gs ≡ body rows (value_in rows gs) out
  pub asked : (b : ℕ) → in_rows rows b ≡ true → (v : List ℕ) → value_in rows gs b ≡ Some v → (seen : Bool) × (t seen b v ≡ true)
  pub stands : (b : ℕ) → must_in rows b ≡ true → is_some (value_in rows gs b) ≡ true

module _ (t : Asked) (seen : Bool) (r : Row) (rows : List Row) (gs out : List Field) (n : not (in_rows rows r.bit) ≡ true) where
  took_walked : leads r.tag gs ≡ true → t seen r.bit (first_value gs) ≡ true → Walked t rows (rest gs) out → Walked t (r ∷ rows) gs out
  unfolding body
  took_walked l q k =
      let f = leading r.tag gs l in
      let mine : (b : ℕ) → (r.bit == b) ≡ true → value_in (r ∷ rows) gs b ≡ Some (first_value gs) = λ b e. value_here r rows gs l b e ∙ f.0 in
      let theirs : (b : ℕ) → in_rows rows b ≡ true → value_in (r ∷ rows) gs b ≡ value_in rows (rest gs) b = λ b i. value_later r rows gs l b (other_bit r rows n b i) in
      record {
        same =
            f.1
            ∙ ap (λ (fs : List Field). field r.tag (first_value gs) ∷ fs)
            (k.same ∙ sym (body_same (value_in (r ∷ rows) gs) (value_in rows (rest gs)) out rows theirs))
            ∙ sym (ap (λ (o : Option (List ℕ)). field_of r.tag o (body rows (value_in (r ∷ rows) gs) out)) (mine r.bit (eq-eqb r.bit r.bit refl)));
        asked = λ b i v z.
            ⊎_elim
            (λ e. (seen, subst (λ (b : ℕ). t seen b v ≡ true) (eqb-true r.bit b e) (subst (λ (v : List ℕ). t seen r.bit v ≡ true) (same_some (mine b e) z) q)))
            (λ e. k.asked b e v (sym (theirs b e) ∙ z))
            (or_cases (r.bit == b) (in_rows rows b) i);
        stands = λ b m.
            ⊎_elim
            (λ e. ap is_some (mine b (and_parts (r.bit == b) r.must e).0))
            (λ e. ap is_some (theirs b (must_row rows b e)) ∙ k.stands b e)
            (or_cases (r.bit == b && r.must) (must_in rows b) m);
      }

  passed_walked : leads r.tag gs ≡ false → r.must ≡ false → Walked t rows gs out → Walked t (r ∷ rows) gs out
  unfolding body
  passed_walked l m k =
      let theirs : (b : ℕ) → in_rows rows b ≡ true → value_in (r ∷ rows) gs b ≡ value_in rows gs b = λ b i. value_past r rows gs l b (other_bit r rows n b i) in
      record {
        same =
            k.same
            ∙ sym (body_same (value_in (r ∷ rows) gs) (value_in rows gs) out rows theirs)
            ∙ sym (ap (λ (o : Option (List ℕ)). field_of r.tag o (body rows (value_in (r ∷ rows) gs) out)) (value_not r rows gs l r.bit (eq-eqb r.bit r.bit refl)));
        asked = λ b i v z.
            ⊎_elim
            (λ e. none_some (value_not r rows gs l b e) z)
            (λ e. k.asked b e v (sym (theirs b e) ∙ z))
            (or_cases (r.bit == b) (in_rows rows b) i);
        stands = λ b e.
            ⊎_elim
            (λ q. clash r.must (and_parts (r.bit == b) r.must q).1 m)
            (λ q. ap is_some (theirs b (must_row rows b q)) ∙ k.stands b q)
            (or_cases (r.bit == b && r.must) (must_in rows b) e);
      }

pub walk_found : (t : Asked) (seen : Bool) (rows : List Row) (gs out : List Field) → distinct rows ≡ true → walk t seen rows gs ≡ Some out → Walked t rows gs out
unfolding body walk
walk_found t seen [] gs out d e = record {
  same = same_some (refl {a = Some gs}) e;
  asked = λ b i. clash false i refl;
  stands = λ b m. clash false m refl;
}
walk_found t seen (r ∷ rows) gs out d e =
    let h = and_parts (not (in_rows rows r.bit)) (distinct rows) d in
    go h.0 (λ x fs q. walk_found t x rows fs out h.1 q) (step t seen r rows gs out e)
  where
    go : not (in_rows rows r.bit) ≡ true → ((x : Bool) (fs : List Field) → walk t x rows fs ≡ Some out → Walked t rows fs out)
        → Step t seen r rows gs out → Walked t (r ∷ rows) gs out
    go n later (took l q w) = took_walked t seen r rows gs out n l q (later (seen || r.bit == 20) (rest gs) w)
    go n later (passed l m w) = passed_walked t seen r rows gs out n l m (later seen gs w)

-- ---- of the texts at most one

-- the row of 20 is not behind that of 27
abbrev pub ordered : List Row → Bool
ordered [] = true
ordered (r ∷ rows) = (not (r.bit == 27) || not (in_rows rows 20)) && ordered rows

module _ (t : Asked) (stops : (v : List ℕ) → t true 27 v ≡ false) where
  walk_text : (seen : Bool) (rows : List Row) (gs out : List Field) → seen ≡ true → walk t seen rows gs ≡ Some out → value_in rows gs 27 ≡ None
  unfolding value_in
  walk_text seen [] gs out s e = refl
  walk_text seen (r ∷ rows) gs out s e = go (λ x fs q w. walk_text x rows fs out q w) (step t seen r rows gs out e) (r.bit == 27) refl
    where
      go : ((x : Bool) (fs : List Field) → x ≡ true → walk t x rows fs ≡ Some out → value_in rows fs 27 ≡ None)
          → Step t seen r rows gs out → (y : Bool) → (r.bit == 27) ≡ y → value_in (r ∷ rows) gs 27 ≡ None
      go later (took l q w) true y =
          clash (t seen r.bit (first_value gs)) q
          (ap (λ (b : ℕ). t seen b (first_value gs)) (eqb-true r.bit 27 y) ∙ ap (λ (x : Bool). t x 27 (first_value gs)) s ∙ stops (first_value gs))
      go later (took l q w) false y = value_later r rows gs l 27 y ∙ later (seen || r.bit == 20) (rest gs) (rw s refl) w
      go later (passed l m w) true y = value_not r rows gs l 27 y
      go later (passed l m w) false y = value_past r rows gs l 27 y ∙ later seen gs s w

  pub walk_pair : (seen : Bool) (rows : List Row) (gs out : List Field) → ordered rows ≡ true → walk t seen rows gs ≡ Some out
      → (is_some (value_in rows gs 20) && is_some (value_in rows gs 27)) ≡ false
  unfolding value_in
  walk_pair seen [] gs out o e = refl
  walk_pair seen (r ∷ rows) gs out o e =
      let h = and_parts (not (r.bit == 27) || not (in_rows rows 20)) (ordered rows) o in
      go h.0 (λ x fs w. walk_pair x rows fs out h.1 w) (step t seen r rows gs out e) (r.bit == 20) refl (r.bit == 27) refl
    where
      both : (x y : Option (List ℕ)) (u v : Option (List ℕ)) → x ≡ u → y ≡ v → (is_some u && is_some v) ≡ false → (is_some x && is_some y) ≡ false
      both x y u v p q e = rw (p, q) e

      no_second : (x y : Option (List ℕ)) → y ≡ None → (is_some x && is_some y) ≡ false
      no_second x y q = rw q (and-false (is_some x))

      no_first : (x y : Option (List ℕ)) → x ≡ None → (is_some x && is_some y) ≡ false
      no_first x y q = rw q refl

      go : (not (r.bit == 27) || not (in_rows rows 20)) ≡ true
          → ((x : Bool) (fs : List Field) → walk t x rows fs ≡ Some out → (is_some (value_in rows fs 20) && is_some (value_in rows fs 27)) ≡ false)
          → Step t seen r rows gs out → (x : Bool) → (r.bit == 20) ≡ x → (y : Bool) → (r.bit == 27) ≡ y
          → (is_some (value_in (r ∷ rows) gs 20) && is_some (value_in (r ∷ rows) gs 27)) ≡ false
      go k later (took l q w) true x true y = clash (r.bit == 27) y (ap (λ (b : ℕ). nat_eq b 27) (eqb-true r.bit 20 x))
      go k later (took l q w) true x false y =
          no_second (value_in (r ∷ rows) gs 20) (value_in (r ∷ rows) gs 27) (value_later r rows gs l 27 y ∙ walk_text (seen || r.bit == 20) rows (rest gs) out (or_right seen (r.bit == 20) x) w)
      go k later (took l q w) false x true y =
          no_first (value_in (r ∷ rows) gs 20) (value_in (r ∷ rows) gs 27) (value_later r rows gs l 20 x
          ∙ value_none rows (rest gs) 20 (⊎_elim (λ z. clash (r.bit == 27) y (not-true _ z)) (λ z. not-true _ z) (or_cases (not (r.bit == 27)) _ k)))
      go k later (took l q w) false x false y =
          both (value_in (r ∷ rows) gs 20) (value_in (r ∷ rows) gs 27) (value_in rows (rest gs) 20) (value_in rows (rest gs) 27) (value_later r rows gs l 20 x) (value_later r rows gs l 27 y) (later (seen || r.bit == 20) (rest gs) w)
      go k later (passed l m w) true x y z = no_first (value_in (r ∷ rows) gs 20) (value_in (r ∷ rows) gs 27) (value_not r rows gs l 20 x)
      go k later (passed l m w) false x true y = no_second (value_in (r ∷ rows) gs 20) (value_in (r ∷ rows) gs 27) (value_not r rows gs l 27 y)
      go k later (passed l m w) false x false y = both (value_in (r ∷ rows) gs 20) (value_in (r ∷ rows) gs 27) (value_in rows gs 20) (value_in rows gs 27) (value_past r rows gs l 20 x) (value_past r rows gs l 27 y) (later seen gs w)

-- ---- all that was written is taken

module _ (t : Asked) (vs : Values) (last : ℕ) (w : List ℕ) (fs : List Field) where
  abbrev behind : List Field
  behind = field last w ∷ fs

  -- the values of the rows pass
  abbrev pub Passes : List Row → Type 0
  Passes rows = (seen : Bool) → (seen ≡ true → is_some (vs 20) ≡ true) → (b : ℕ) → in_rows rows b ≡ true → (v : List ℕ) → vs b ≡ Some v → t seen b v ≡ true

  pub walk_body : (seen : Bool) → (seen ≡ true → is_some (vs 20) ≡ true) → (rows : List Row) → Passes rows → all_apart rows last ≡ true → stand rows vs ≡ true
      → walk t seen rows (body rows vs behind) ≡ Some behind
  unfolding body walk
  walk_body seen p [] ok a s = refl
  walk_body seen p (r ∷ rows) ok a s =
      let h = and_parts (r.must || apart r.tag rows last) (all_apart rows last) a in
      let g = and_parts (not r.must || is_some (vs r.bit)) (stand rows vs) s in
      go (vs r.bit) refl h.0 g.0 g.1 (λ x q. walk_body x q rows (λ y u b i. ok y u b (or_right (r.bit == b) (in_rows rows b) i)) h.1 g.1)
    where
      next : (v : List ℕ) → vs r.bit ≡ Some v → (seen || r.bit == 20) ≡ true → is_some (vs 20) ≡ true
      next v z q = ⊎_elim p (λ e. ap is_some (ap vs (sym (eqb-true r.bit 20 e)) ∙ z)) (or_cases seen (r.bit == 20) q)

      go : (o : Option (List ℕ)) → vs r.bit ≡ o → (r.must || apart r.tag rows last) ≡ true → (not r.must || is_some o) ≡ true → stand rows vs ≡ true
          → ((x : Bool) → (x ≡ true → is_some (vs 20) ≡ true) → walk t x rows (body rows vs behind) ≡ Some behind)
          → walk t seen (r ∷ rows) (field_of r.tag o (body rows vs behind)) ≡ Some behind
      go (Some v) z m q d later =
          if_true (r.tag == r.tag) _ _ (eq-eqb r.tag r.tag refl)
          ∙ if_true (t seen r.bit v) _ _ (ok seen p r.bit (rw (eq-eqb r.bit r.bit refl) refl) v z)
          ∙ later (seen || r.bit == 20) (next v z)
      go None z m q d later =
          let l : leads r.tag (body rows vs behind) ≡ false =
          ⊎_elim (λ y. clash r.must y (missing r.must q)) (λ y. leads_apart vs last w fs r.tag rows y d) (or_cases r.must (apart r.tag rows last) m) in
          if_false (leads r.tag (body rows vs behind)) _ _ l
          ∙ if_false r.must _ _ (missing r.must q)
          ∙ later seen p
