-- Values that fit, all together: what they hold is right and writes them again, and the values of a right record fit. Rests on Fits, Again and Walk.
use Rattle.std.specs.Prelude.{◌≡◌, ℕ, ◌<◌, Bool, true, false, not, ◌&&◌, List, [], ◌∷◌, ◌++◌, ◌==◌, ◌≢◌, nat_eq, Option, None, Some, refl}
use Rattle.std.proofs.Common.{sym, ap, subst, ◌∙◌, eq-eqb, ne_eqb, ⊎_elim, arith}
use Rattle.std.proofs.Math.Decide.{ℕ_discrete}
use Rattle.std.proofs.lemmas.Bool.{not-true, and_from, or_cases}
use Rattle.std.specs.Option.{is_some}
use Rattle.prelude.specs.Cases.{if◌then◌otherwise◌}
use Rattle.prelude.specs.Laws.Cases.{if_true, if_false, clash, same_some}
use Rattle.prelude.specs.Number.{number, bytes_of}
use Rattle.bits.specs.Map.{bit}
use Rattle.decimal.specs.Decimal.{digits, number_in}
use Rattle.format.specs.Codes.{within}
use Rattle.format.specs.Format.{size, range, fields, required, required_bits}
use Rattle.fix_words.specs.Lists.{same, after}
use Rattle.fix_words.specs.Rows.{Values, in_rows}
use Rattle.fix_words.specs.Values.{tables, rows, none_text, fixed_text_number, is_plain, spelling, over, or_else, either, exec_id, fixed_text_in, value_of, unspelled, held_in, unsaid, contents}
use Rattle.fix_words.specs.Message.{paired}
use Rattle.fix_words.specs.Laws.Lists.{same_true}
use Rattle.fix_words.proofs.Laws.Kinds.{by_kind_lem, row_small, with_name, must_in, right, reasoned, unsaid_right}
use Rattle.fix_words.proofs.Laws.Again.{kept, again_right, again_values}
use Rattle.fix_reader.specs.Laws.Fits.{respelled, fits, fits_right, fits_same, fits_is, by_bit, plain_value, plain_held, plain_respelled, held_none_none, held_some, may_miss, must_name, only_report, name_rows, some_over, text_report, paired_16, paired_17, both_out, unsaid_origin, unsaid_fixed}

-- ---- values that fit

module _ (k : ℕ) (kind : within 16 20 k ≡ true) (us : Values) (nm : List ℕ)
    (fit : (b : ℕ) → in_rows (rows k) b ≡ true → (v : List ℕ) → us b ≡ Some v → fits k nm b v ≡ true)
    (stands : (b : ℕ) → must_in (rows k) b ≡ true → is_some (us b) ≡ true)
    (silent : (b : ℕ) → in_rows (rows k) b ≡ false → us b ≡ None)
    (named : in_rows (rows k) 25 ≡ true → us 2 ≡ Some nm)
    (pair : (is_some (us 20) && is_some (us 27)) ≡ false) where
  abbrev now : Values
  now = contents k us

  now_in : (b : ℕ) → in_rows (rows k) b ≡ true → now b ≡ held_in b (us b)
  unfolding contents
  now_in b i = if_true (in_rows (rows k) b) _ _ i

  now_out : (b : ℕ) → in_rows (rows k) b ≡ false → now b ≡ unsaid k (us 19) b
  unfolding contents
  now_out b i = if_false (in_rows (rows k) b) _ _ i

  reason : reasoned k (us 19) ≡ true
  reason = go k refl kind
    where
      at : (j : ℕ) → k ≡ j → reasoned j (us 19) ≡ true → reasoned k (us 19) ≡ true
      at j e r = subst (λ (j : ℕ). reasoned j (us 19) ≡ true) (sym e) r

      must : (j : ℕ) → k ≡ j → must_in (rows j) 19 ≡ true → is_some (us 19) ≡ true
      must j e m = stands 19 (subst (λ (j : ℕ). must_in (rows j) 19 ≡ true) (sym e) m)

      out : (j : ℕ) → k ≡ j → in_rows (rows j) 19 ≡ false → us 19 ≡ None
      out j e i = silent 19 (subst (λ (j : ℕ). in_rows (rows j) 19 ≡ false) (sym e) i)

      go : (j : ℕ) → k ≡ j → within 16 20 j ≡ true → reasoned k (us 19) ≡ true
      go j e w =
          by_kind_lem (λ j. k ≡ j → reasoned k (us 19) ≡ true)
          (λ e. at 16 e (unfold if◌then◌otherwise◌ in refl))
          (λ e. at 17 e (unfold if◌then◌otherwise◌ in must 17 e (unfold rows tables in refl)))
          (λ e. at 18 e (unfold if◌then◌otherwise◌ in rw (out 18 e (unfold rows tables in refl)) refl))
          (λ e. at 19 e (unfold if◌then◌otherwise◌ in rw (out 19 e (unfold rows tables in refl)) refl))
          (λ e. at 20 e (unfold if◌then◌otherwise◌ in rw (out 20 e (unfold rows tables in refl)) refl))
          j w e

  pub fit_right : (b : ℕ) → b < 32 → right k b (now b) ≡ true
  fit_right b h = go (in_rows (rows k) b) refl (us b) refl
    where
      go : (x : Bool) → in_rows (rows k) b ≡ x → (o : Option (List ℕ)) → us b ≡ o → right k b (now b) ≡ true
      go false i o z = rw (now_out b i) (⊎_elim (λ q. clash (in_rows (rows k) b) q i) (λ q. q) (or_cases (in_rows (rows k) b) _ (unsaid_right k kind (us 19) reason b h)))
      go true i (Some v) z = rw (now_in b i, z) (fits_right k nm b v (fit b i v z))
      go true i None z =
          let q : not (bit (required k) b) ≡ true =
          ⊎_elim (λ y. clash (in_rows (rows k) b) i (not-true _ y))
          (λ y. ⊎_elim (λ m. clash (is_some (us b)) (stands b m) (ap is_some z)) (λ m. m) (or_cases (must_in (rows k) b) _ y))
          (or_cases (not (in_rows (rows k) b)) _ (may_miss k kind b h)) in
          rw (now_in b i, z, held_none_none b) (and_from _ _ q refl)

  -- what is written again

  now_name : in_rows (rows k) 25 ≡ true → now 2 ≡ Some nm
  now_name i =
      let r = only_report k kind i in
      let j = with_name k kind i in
      let f : right k 2 (held_in 2 (Some nm)) ≡ true = fits_right k nm 2 nm (fit 2 j nm (named i)) in
      now_in 2 j ∙ ap (held_in 2) (named i) ∙ go (same nm none_text) refl (subst (λ (j : ℕ). right j 2 (held_in 2 (Some nm)) ≡ true) r f)
    where
      go : (x : Bool) → same nm none_text ≡ x → right 16 2 (held_in 2 (Some nm)) ≡ true → held_in 2 (Some nm) ≡ Some nm
      go false e f = unfold held_in if◌then◌otherwise◌ in rw e refl
      go true e f =
          let z : held_in 2 (Some nm) ≡ None = unfold held_in if◌then◌otherwise◌ in rw e refl in
          clash (right 16 2 (held_in 2 (Some nm))) f (rw z (unfold required required_bits in refl))

  again_2 : in_rows (rows k) 2 ≡ true → (v : List ℕ) → us 2 ≡ Some v → value_of k now 2 ≡ Some v
  unfolding value_of if◌then◌otherwise◌
  again_2 i v z = ⊎_elim report reject (name_rows k kind i)
    where
      held : now 2 ≡ (if same v none_text then None otherwise Some v)
      held = now_in 2 i ∙ ap (held_in 2) z ∙ (unfold held_in if◌then◌otherwise◌ in refl)

      report : k ≡ 16 → value_of k now 2 ≡ Some v
      report e =
          let f : right 16 2 (held_in 2 (Some v)) ≡ true = subst (λ (j : ℕ). right j 2 (held_in 2 (Some v)) ≡ true) e (fits_right k nm 2 v (fit 2 i v z)) in
          rw (ne_eqb k 17 (λ q. absurd (omega arith))) (held ∙ go (same v none_text) refl f)
        where
          go : (x : Bool) → same v none_text ≡ x → right 16 2 (held_in 2 (Some v)) ≡ true → (if same v none_text then None otherwise Some v) ≡ Some v
          go false e f = rw e refl
          go true e f =
              let z : held_in 2 (Some v) ≡ None = unfold held_in if◌then◌otherwise◌ in rw e refl in
              clash (right 16 2 (held_in 2 (Some v))) f (rw z (unfold required required_bits in refl))

      reject : k ≡ 17 → value_of k now 2 ≡ Some v
      reject e = rw (eq-eqb k 17 e, held) (go (same v none_text) refl)
        where
          go : (x : Bool) → same v none_text ≡ x → Some (or_else none_text (if same v none_text then None otherwise Some v)) ≡ Some v
          go false e = rw e refl
          go true e = rw e (ap (λ (w : List ℕ). Some w) (sym (same_true v none_text e)))

  held_20 : (o : Option (List ℕ)) → held_in 20 o ≡ o
  unfolding held_in if◌then◌otherwise◌ unspelled is_plain size range fields
  held_20 None = refl
  held_20 (Some c) = refl

  again_20 : in_rows (rows k) 20 ≡ true → value_of k now 20 ≡ us 20
  again_20 i = go (us 20) refl (ℕ_discrete k 17)
    where
      mine : now 20 ≡ us 20
      mine = now_in 20 i ∙ held_20 (us 20)

      opened : value_of k now 20 ≡ (if nat_eq k 17 then either (now 20) (over fixed_text_in (now 27)) otherwise now 20)
      opened = unfold value_of if◌then◌otherwise◌ in refl

      go : (o : Option (List ℕ)) → us 20 ≡ o → Dec (k ≡ 17) → value_of k now 20 ≡ us 20
      go o z (no e) = opened ∙ if_false (k == 17) _ _ (ne_eqb k 17 e) ∙ mine
      go (Some v) z (yes e) = opened ∙ if_true (k == 17) _ _ (eq-eqb k 17 e) ∙ ap (λ (o : Option (List ℕ)). either o (over fixed_text_in (now 27))) (mine ∙ z) ∙ sym z
      go None z (yes e) =
          clash (is_some (us 20)) (stands 20 (subst (λ (j : ℕ). must_in (rows j) 20 ≡ true) (sym e) (unfold rows tables in refl))) (ap is_some z)

  again_25 : in_rows (rows k) 25 ≡ true → value_of k now 25 ≡ us 25
  again_25 i = go (us 25) refl
    where
      opened : value_of k now 25 ≡ over (exec_id (now 2)) (now 25)
      opened = unfold value_of if◌then◌otherwise◌ in refl

      go : (o : Option (List ℕ)) → us 25 ≡ o → value_of k now 25 ≡ us 25
      go None z =
          clash (is_some (us 25)) (stands 25 (subst (λ (j : ℕ). must_in (rows j) 25 ≡ true) (sym (only_report k kind i)) (unfold rows tables in refl))) (ap is_some z)
      go (Some v) z =
          let h : now 25 ≡ Some (bytes_of 8 (number_in (after 46 v))) = now_in 25 i ∙ ap (held_in 25) z ∙ (unfold held_in if◌then◌otherwise◌ in refl) in
          let s : nm ++ (46 ∷ digits (number (bytes_of 8 (number_in (after 46 v))))) ≡ v = (unfold respelled if◌then◌otherwise◌ in fits_same k nm 25 v (fit 25 i v z)) in
          opened
          ∙ (λ x. over (exec_id (now_name i x)) (h x))
          ∙ ap (λ (w : List ℕ). Some w) s
          ∙ sym z

  again_27 : in_rows (rows k) 27 ≡ true → value_of k now 27 ≡ us 27
  again_27 i = go (us 27) refl
    where
      opened : value_of k now 27 ≡ over fixed_text_in (now 27)
      opened = unfold value_of if◌then◌otherwise◌ in refl

      go : (o : Option (List ℕ)) → us 27 ≡ o → value_of k now 27 ≡ us 27
      go None z = opened ∙ ap (over fixed_text_in) (now_in 27 i ∙ ap (held_in 27) z ∙ held_none_none 27) ∙ sym z
      go (Some v) z =
          let h : now 27 ≡ Some (fixed_text_number v ∷ []) = now_in 27 i ∙ ap (held_in 27) z ∙ (unfold held_in if◌then◌otherwise◌ in refl) in
          let s : fixed_text_in (fixed_text_number v ∷ []) ≡ v = (unfold respelled if◌then◌otherwise◌ in fits_same k nm 27 v (fit 27 i v z)) in
          opened ∙ ap (over fixed_text_in) h ∙ ap (λ (w : List ℕ). Some w) s ∙ sym z

  again_plain : (b : ℕ) → (b == 2) ≡ false → (b == 20) ≡ false → (b == 25) ≡ false → (b == 27) ≡ false → in_rows (rows k) b ≡ true → value_of k now b ≡ us b
  again_plain b n2 n20 n25 n27 i = go (us b) refl
    where
      opened : value_of k now b ≡ over (spelling b) (now b)
      opened = unfold value_of if◌then◌otherwise◌ in rw (n2, n20, n25, n27) refl

      go : (o : Option (List ℕ)) → us b ≡ o → value_of k now b ≡ us b
      go None z = opened ∙ ap (over (spelling b)) (now_in b i ∙ ap (held_in b) z ∙ held_none_none b) ∙ sym z
      go (Some v) z =
          let h : now b ≡ Some (unspelled b v) = now_in b i ∙ ap (held_in b) z ∙ (unfold held_in if◌then◌otherwise◌ in rw (n2, n25, n27) refl) in
          let q : respelled nm b v ≡ spelling b (unspelled b v) = (unfold respelled if◌then◌otherwise◌ in rw (n2, n20, n25, n27) refl) in
          opened ∙ ap (over (spelling b)) h ∙ ap (λ (w : List ℕ). Some w) (sym q ∙ fits_same k nm b v (fit b i v z)) ∙ sym z

  again_name : in_rows (rows k) 2 ≡ true → value_of k now 2 ≡ us 2
  again_name i = go (us 2) refl
    where
      go : (o : Option (List ℕ)) → us 2 ≡ o → value_of k now 2 ≡ us 2
      go (Some v) z = again_2 i v z ∙ sym z
      go None z = clash (is_some (us 2)) (stands 2 (must_name k kind i)) (ap is_some z)

  pub fit_values : (b : ℕ) → in_rows (rows k) b ≡ true → value_of k now b ≡ us b
  fit_values b i =
      by_bit (λ b. in_rows (rows k) b ≡ true → value_of k now b ≡ us b) again_name again_20 again_25 again_27 b
      (λ x y z w j. again_plain b x y z w j) i

  carried : (j b : ℕ) → k ≡ j → in_rows (rows j) b ≡ true → in_rows (rows k) b ≡ true
  carried j b e i = subst (λ (j : ℕ). in_rows (rows j) b ≡ true) (sym e) i

  unsaid_by : (j b : ℕ) → k ≡ j → in_rows (rows j) b ≡ false → now b ≡ unsaid j (us 19) b
  unsaid_by j b e i = now_out b (subst (λ (j : ℕ). in_rows (rows j) b ≡ false) (sym e) i) ∙ ap (λ (j : ℕ). unsaid j (us 19) b) e

  some_in : (j b : ℕ) → k ≡ j → in_rows (rows j) b ≡ true → (b == 2) ≡ false → is_some (now b) ≡ is_some (us b)
  some_in j b e i n = ap is_some (now_in b (carried j b e i)) ∙ held_some b n (us b)

  pub fit_paired : paired k now ≡ true
  fit_paired =
      by_kind_lem (λ j. k ≡ j → paired k now ≡ true)
      (λ e. to 16 e (paired_16 now (is_some (us 19)) (some_in 16 19 e (unfold rows tables in refl) refl)
      (ap is_some (unsaid_by 16 28 e (unfold rows tables in refl)) ∙ unsaid_origin 16 (us 19))
      (rw (some_in 16 20 e (unfold rows tables in refl) refl, some_in 16 27 e (unfold rows tables in refl) refl) pair)))
      (λ e. to 17 e (paired_17 now
      (some_in 17 20 e (unfold rows tables in refl) refl ∙ stands 20 (subst (λ (j : ℕ). must_in (rows j) 20 ≡ true) (sym e) (unfold rows tables in refl)))
      (ap is_some (unsaid_by 17 27 e (unfold rows tables in refl) ∙ unsaid_fixed (us 19)))))
      (λ e. to 18 e (unfold paired if◌then◌otherwise◌ in refl))
      (λ e. to 19 e (unfold paired if◌then◌otherwise◌ in refl))
      (λ e. to 20 e (unfold paired if◌then◌otherwise◌ in refl))
      k kind refl
    where
      to : (j : ℕ) → k ≡ j → paired j now ≡ true → paired k now ≡ true
      to j e p = subst (λ (j : ℕ). paired j now ≡ true) (sym e) p

-- ---- the values of a right record fit

module _ (k : ℕ) (at : Values) (kind : within 16 20 k ≡ true) (ok : (b : ℕ) → b < 32 → right k b (at b) ≡ true) (pair : paired k at ≡ true)
    (us : Values) (found : (b : ℕ) → in_rows (rows k) b ≡ true → us b ≡ value_of k at b) (else_none : (b : ℕ) → in_rows (rows k) b ≡ false → us b ≡ None)
    (nm : List ℕ) (named : in_rows (rows k) 25 ≡ true → us 2 ≡ Some nm) where
  abbrev read : Values
  read = contents k us

  read_in : (b : ℕ) → in_rows (rows k) b ≡ true → (v : List ℕ) → us b ≡ Some v → read b ≡ held_in b (Some v)
  unfolding contents
  read_in b i v z = if_true (in_rows (rows k) b) _ _ i ∙ ap (held_in b) z

  wrote : (b : ℕ) → in_rows (rows k) b ≡ true → (v : List ℕ) → us b ≡ Some v → value_of k read b ≡ Some v
  wrote b i v z = again_values k at kind ok pair us found else_none b i ∙ sym (found b i) ∙ z

  read_name : in_rows (rows k) 25 ≡ true → read 2 ≡ Some nm
  read_name i =
      let j = with_name k kind i in
      let e = only_report k kind i in
      let q : value_of k at 2 ≡ at 2 = (unfold value_of if◌then◌otherwise◌ in rw (ne_eqb k 17 (λ z. absurd (omega arith))) refl) in
      kept k at kind ok pair us found else_none 2 j (λ z. clash false z refl) ∙ sym q ∙ sym (found 2 j) ∙ named i

  spelled : (b : ℕ) → in_rows (rows k) b ≡ true → (v : List ℕ) → us b ≡ Some v → respelled nm b v ≡ v
  spelled b i v z =
      by_bit (λ b. in_rows (rows k) b ≡ true → us b ≡ Some v → respelled nm b v ≡ v)
      (λ i z. unfold respelled if◌then◌otherwise◌ in refl)
      (λ i z. unfold respelled if◌then◌otherwise◌ in refl)
      (λ i z. let o : value_of k read 25 ≡ Some (respelled nm 25 v) =
      (unfold value_of held_in respelled if◌then◌otherwise◌ in (λ x. over (exec_id (read_name i x)) (read_in 25 i v z x))) in
      same_some o (wrote 25 i v z))
      (λ i z. let o : value_of k read 27 ≡ Some (respelled nm 27 v) = (unfold value_of held_in respelled if◌then◌otherwise◌ in ap (over fixed_text_in) (read_in 27 i v z)) in
      same_some o (wrote 27 i v z))
      b
      (λ n2 n20 n25 n27 i z. same_some
      (plain_value b n2 n20 n25 n27 k read ∙ ap (over (spelling b)) (read_in b i v z ∙ plain_held b n2 n20 n25 n27 v) ∙ ap (λ (w : List ℕ). Some w) (sym (plain_respelled b n2 n20 n25 n27 nm v)))
      (wrote b i v z))
      i z

  pub fit_again : (b : ℕ) → in_rows (rows k) b ≡ true → (v : List ℕ) → us b ≡ Some v → fits k nm b v ≡ true
  fit_again b i v z =
      fits_is k nm b v (rw (read_in b i v z) at (again_right k at kind ok pair us found else_none b (row_small k kind b i))) (spelled b i v z)

  -- the venue's text and a fixed one do not both stand
  pub fit_once : in_rows (rows k) 27 ≡ true → is_some (us 20) ≡ true → is_some (us 27) ≢ true
  fit_once i a b =
      let e = text_report k kind i in
      let i20 : in_rows (rows k) 20 ≡ true = subst (λ (j : ℕ). in_rows (rows j) 20 ≡ true) (sym e) (unfold rows tables in refl) in
      let q20 : value_of k at 20 ≡ at 20 = (unfold value_of if◌then◌otherwise◌ in rw (ne_eqb k 17 (λ z. absurd (omega arith))) refl) in
      let q27 : value_of k at 27 ≡ over fixed_text_in (at 27) = (unfold value_of if◌then◌otherwise◌ in refl) in
      let a20 : is_some (at 20) ≡ true = sym (ap is_some (found 20 i20 ∙ q20)) ∙ a in
      let a27 : is_some (at 27) ≡ true = sym (ap is_some (found 27 i ∙ q27) ∙ some_over fixed_text_in (at 27)) ∙ b in
      let p : paired 16 at ≡ true = subst (λ (j : ℕ). paired j at ≡ true) e pair in
      let q : ◌≡◌ {A = ℕ} 0 1 = clash (paired 16 at) p (both_out at a20 a27) in
      omega arith
