-- THE PROOFS that 13 comes exactly if the name is malformed, by its length and its bytes. Rests on Calls and Written.
use Rattle.std.proofs.Common.{ℕ, zero, suc, ◌≤◌, ◌<◌, ◌≡◌, refl, Bool, true, false, ◌&&◌, ◌||◌, List, leb, length, get_or, sym, ap, inl, inr, arith, leb-true, le-leb, ⊎_elim}
use Rattle.std.proofs.Math.Decide.{dec_lt}
use Rattle.std.proofs.lemmas.Bool.{and_parts, and_from, or_cases, or_parts, cases_Bool}
use Rattle.prelude.specs.Below.{all_below}
use Rattle.prelude.specs.Laws.Cases.{clash}
use Rattle.format.specs.Codes.{within, is_alnum}
use Rattle.rules.specs.Keeps.{keeps_of}
use Rattle.marks.specs.Marks.{letter_at, is_mark_name, Marked, set_mark_of, return_of}
use Rattle.marks.specs.Promise.{Alnum, Malformed, NamesRight}
use Rattle.marks.proofs.Laws.Places.{name_short}
use Rattle.marks.specs.Laws.Calls.{set_malformed, set_ends, return_malformed, return_ends}
use Rattle.marks.proofs.Laws.Written.{letters, least}

-- ---- a digit or letter, as a test and in numbers

module _ (low high c : ℕ) where
  within_is : within low high c ≡ true → (low ≤ c) × (c ≤ high)
  within_is e = let b = and_parts (leb low c) (leb c high) e in (leb-true low c b.0, leb-true c high b.1)

  within_holds : (low ≤ c) × (c ≤ high) → within low high c ≡ true
  within_holds p = and_from (leb low c) (leb c high) (le-leb low c p.0) (le-leb c high p.1)

alnum : (c : ℕ) → is_alnum c ≡ true → Alnum c
unfolding is_alnum
alnum c e =
    ⊎_elim
    (λ p. inl (within_is 48 57 c p))
    (λ p. inr (⊎_elim (λ q. inl (within_is 65 90 c q)) (λ q. inr (within_is 97 122 c q)) (or_cases (within 65 90 c) (within 97 122 c) p)))
    (or_cases (within 48 57 c) (within 65 90 c || within 97 122 c) e)

not_alnum : (c : ℕ) → is_alnum c ≡ false → Alnum c → ⊥
unfolding is_alnum
not_alnum c e =
    let a = or_parts (within 48 57 c) (within 65 90 c || within 97 122 c) e in
    let b = or_parts (within 65 90 c) (within 97 122 c) a.1 in
    ⊎_elim
    (λ p. clash (within 48 57 c) (within_holds 48 57 c p) a.0)
    (⊎_elim (λ p. clash (within 65 90 c) (within_holds 65 90 c p) b.0) (λ p. clash (within 97 122 c) (within_holds 97 122 c p) b.1))

-- ---- a test that not all pass: one that does not

record Missed (p : ℕ → Bool) (n : ℕ) : Type 0 where
  at : ℕ
  below : at < n
  fails : p at ≡ false

missed : (p : ℕ → Bool) (n : ℕ) → all_below p n ≡ false → Missed p n
unfolding all_below
missed p zero e = clash true refl e
missed p (suc n) e =
    ⊎_elim
    (λ h.
    ⊎_elim
    (λ a. clash (all_below p n && p n) (and_from (all_below p n) (p n) a h) e)
    (λ a. let m = missed p n a in record { at = m.at; below = omega (arith, m.below); fails = m.fails })
    (cases_Bool (all_below p n)))
    (λ h. record { at = n; below = omega arith; fails = h })
    (cases_Bool (p n))

-- ---- a name that is malformed

module _ (name : List ℕ) where
  no_letters : 0 < length name → length name ≤ 16 → is_mark_name name ≡ false → all_below (letter_at name) (length name) ≡ false
  unfolding is_mark_name
  no_letters l h e =
      ⊎_elim
      (λ a. clash (is_mark_name name) (and_from _ _ (within_holds 1 16 (length name) (l, h)) a) e)
      (λ a. a)
      (cases_Bool (all_below (letter_at name) (length name)))

  malformed : is_mark_name name ≡ false → Malformed name
  malformed e = go (dec_lt 0 (length name)) (dec_lt 16 (length name))
    where
      go : Dec (0 < length name) → Dec (16 < length name) → Malformed name
      go (no l) h = inl (omega arith)
      go (yes l) (yes h) = inr (inl h)
      go (yes l) (no h) =
          let m = missed (letter_at name) (length name) (no_letters l (omega arith) e) in
          inr (inr (record { at = m.at; inside = m.below; odd = not_alnum (get_or name m.at 0) m.fails }))

  refused : Malformed name → is_mark_name name ≡ false
  refused m = ⊎_elim (λ e. absurd (wrong e m)) (λ e. e) (cases_Bool (is_mark_name name))
    where
      wrong : is_mark_name name ≡ true → Malformed name → ⊥
      wrong e =
          ⊎_elim
          (λ z. omega (arith, least name e))
          (⊎_elim (λ h. omega (arith, name_short name e)) (λ o. o.odd (alnum (get_or name o.at 0) (letters name e o.at o.inside))))

-- ---- the calls

-- 13 is said of no other name
record Only (book name : List ℕ) (r : Marked) : Type 0 where
  says : r.returned ≡ 13 → (keeps_of book ≡ true) × Malformed name

module _ (book name places : List ℕ) where
  set_only : Only book name (set_mark_of book name places)
  set_only =
      set_ends book name places (Only book name)
      (λ e. record { says = λ z. absurd (omega arith) })
      (λ k n. record { says = λ z. (k, malformed name n) })
      (λ k n e. record { says = λ z. absurd (omega arith) })
      (λ k n i e. record { says = λ z. absurd (omega arith) })

  return_only : Only book name (return_of book name places)
  return_only =
      return_ends book name places (Only book name)
      (λ e. record { says = λ z. absurd (omega arith) })
      (λ k n. record { says = λ z. (k, malformed name n) })
      (λ k n e. record { says = λ z. absurd (omega arith) })
      (λ k n i e. record { says = λ z. absurd (omega arith) })

pub names_right : NamesRight
names_right = record {
  sets = λ book name places. record {
    refused = λ k m. ap (λ (r : Marked). r.returned) (sym (set_malformed book name places k (refused name m)));
    only = (set_only book name places).says;
  };
  returns = λ book name places. record {
    refused = λ k m. ap (λ (r : Marked). r.returned) (sym (return_malformed book name places k (refused name m)));
    only = (return_only book name places).says;
  };
}
