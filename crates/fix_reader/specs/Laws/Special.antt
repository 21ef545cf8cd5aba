-- What fits the bits that go their own way: the ExecID, LastPx of two words, and the fixed texts. What a value holds is its number modulo
-- the size of its bit, so that code may let the number wrap. Rests on Fits, Wrapping and Ending.
use Rattle.std.specs.Prelude.{◌≡◌, ℕ, suc, ◌+◌, ◌-◌, ◌*◌, ◌%◌, ◌<◌, ◌≤◌, Bool, true, false, not, ◌&&◌, ◌||◌, cond, leb, ltb, List, [], ◌∷◌, ◌++◌, length, take, drop, ◌==◌, ◌≢◌, nat_eq, nat_le, nat_lt, slice_index, slice_index_or, Option, None, Some, refl}
use Rattle.std.proofs.Common.{ap, sym, ◌∙◌, drop_of_length-le, drop-cons, arith, eq-eqb, ne_eqb, lt-ltb, le-leb, leb-true}
use Rattle.std.proofs.Math.ListN.{get_or-append}
use Rattle.std.proofs.lemmas.List.{take_rest}
use Rattle.std.proofs.lemmas.Bool.{and_parts, and_from}
use Rattle.std.specs.List.{position_or_len}
use Rattle.std.specs.Cmp.Lexicographic.{pointwise}
use Rattle.std.proofs.lemmas.Bool.Decides.{nat_tests}
use Rattle.std.specs.Cmp.{both_ways}
use Rattle.prelude.specs.Cases.{if◌then◌otherwise◌}
use Rattle.prelude.specs.Laws.Cases.{if_true, if_false, maybe_none, maybe_some}
use Rattle.prelude.specs.Below.{all_below, first_below}
use Rattle.prelude.specs.Laws.Below.{all_elim, all_intro, First, first_some, first_none, first_more, first_hit}
use Rattle.prelude.specs.Number.{number, bytes_of}
use Rattle.prelude.specs.Laws.Number.{length_bytes}
use Rattle.prelude.specs.Laws.Bytes.{bytes_of_lem}
use Rattle.bits.specs.Map.{bit}
use Rattle.decimal.specs.Decimal.{decimal, digits, number_in}
use Rattle.format.specs.Codes.{within}
use Rattle.format.specs.Format.{size, range, fields, in_range, required, allowed}
use Rattle.format.specs.Places.{value}
use Rattle.fix_words.specs.Lists.{every, same, after}
use Rattle.fix_words.specs.Values.{texts, fixed_text, fixed_text_number, is_plain, places, spelling, unspelled, held_in, none_text}
use Rattle.fix_words.specs.Message.{shape_at, range_at, text_at}
use Rattle.fix_words.specs.Laws.Lists.{same_list, every_below, below_every}
use Rattle.fix_words.proofs.Laws.Kinds.{right}
use Rattle.fix_table.specs.Table.{spoken}
use Rattle.fix_reader.specs.Laws.Numbers.{word}
use Rattle.fix_reader.specs.Laws.Wrapping.{two_low, low_word, low_words}
use Rattle.fix_reader.specs.Laws.Fits.{respelled, fits}
use Rattle.fix_reader.specs.Laws.Ending.{same_turned}

bytes_every : (k n : ℕ) → every (λ x. nat_lt x 256) (bytes_of k n) ≡ true
bytes_every k n = below_every (λ x. nat_lt x 256) (bytes_of k n) (λ i h. lt-ltb (slice_index (bytes_of k n) i) 256 (bytes_of_lem k n i))

-- ---- ExecID and LastPx

module _ (k : ℕ) (nm v : List ℕ) where
  module _ (stand : (bit (required k) 25 || bit (allowed k) 25) ≡ true) where
    abbrev c : List ℕ
    c = bytes_of 8 (number_in (after 46 v))

    exec_right : right k 25 (Some c) ≡ true
    unfolding size range fields in_range if◌then◌otherwise◌
    exec_right = and_from _ _ (and_from _ _ stand (and_from _ _ (bytes_every 8 (number_in (after 46 v))) (eq-eqb (length c) 8 (length_bytes 8 (number_in (after 46 v)))))) refl

    pub exec_fits : fits k nm 25 v ≡ same (nm ++ (46 ∷ digits (number_in (after 46 v) % word))) v
    unfolding fits held_in respelled if◌then◌otherwise◌
    exec_fits =
        ap (λ (b : Bool). b && same (nm ++ (46 ∷ digits (number c))) v) exec_right
        ∙ ap (λ (n : ℕ). same (nm ++ (46 ∷ digits n)) v) (low_word (number_in (after 46 v)))

  module _ (stand : (bit (required k) 26 || bit (allowed k) 26) ≡ true) where
    abbrev d : List ℕ
    d = bytes_of 16 (number_in v)

    price_right_lem : right k 26 (Some d) ≡ true
    unfolding size range fields in_range if◌then◌otherwise◌
    price_right_lem = and_from _ _ (and_from _ _ stand (and_from _ _ (bytes_every 16 (number_in v)) (eq-eqb (length d) 16 (length_bytes 16 (number_in v))))) refl

    pub price_fits : fits k nm 26 v ≡ same (decimal 8 (two_low (number_in v))) v
    unfolding fits held_in respelled unspelled spelling is_plain places size range fields if◌then◌otherwise◌
    price_fits =
        ap (λ (b : Bool). b && same (decimal 8 (number d)) v) price_right_lem
        ∙ ap (λ (n : ℕ). same (decimal 8 n) v) (low_words (number_in v))

-- ---- fixed texts

abbrev pub is_fixed : List ℕ → ℕ → Bool
is_fixed v n = same (fixed_text n) v

module _ (v : List ℕ) where
  pub fixed_none : first_below (is_fixed v) 19 ≡ None → fixed_text_number v ≡ 0
  unfolding fixed_text_number
  fixed_none e = maybe_none (first_below (is_fixed v) 19) 0 (λ n. n) e

  pub fixed_some : (n : ℕ) → first_below (is_fixed v) 19 ≡ Some n → fixed_text_number v ≡ n
  unfolding fixed_text_number
  fixed_some n e = maybe_some (first_below (is_fixed v) 19) n 0 (λ n. n) e

  pub fixed_found : (n : ℕ) → 1 ≤ n → n < 19 → first_below (is_fixed v) n ≡ None → is_fixed v n ≡ true → nat_le 1 (fixed_text_number v) ≡ true
  fixed_found n l h e t = ap (leb 1) (fixed_some n (first_hit (is_fixed v) 19 n h e t)) ∙ le-leb 1 n l

  pub fixed_missing : first_below (is_fixed v) 19 ≡ None → nat_le 1 (fixed_text_number v) ≡ false
  fixed_missing e = ap (leb 1) (fixed_none e)

  -- no fixed text has no bytes
  pub fixed_empty : length v ≡ 0 → nat_le 1 (fixed_text_number v) ≡ false
  unfolding fixed_text texts
  fixed_empty l = ap (leb 1) (fixed_some 0 (first_hit (is_fixed v) 19 0 (omega arith) (first_none (is_fixed v)) (empty v l)))
    where
      empty : (v : List ℕ) → length v ≡ 0 → same [] v ≡ true
      empty [] l = refl
      empty (x ∷ v) l = absurd (omega arith)

  pub fixed_start : (length v ≢ 0) → first_below (is_fixed v) 1 ≡ None
  unfolding fixed_text texts
  fixed_start h = first_more (is_fixed v) 0 (first_none (is_fixed v)) (some_bytes v h)
    where
      some_bytes : (v : List ℕ) → (length v ≢ 0) → same [] v ≡ false
      some_bytes [] h = absurd (h refl)
      some_bytes (x ∷ v) h = refl

  known : 1 ≤ fixed_text_number v → First (is_fixed v) 19 (fixed_text_number v)
  known l = go (first_below (is_fixed v) 19) refl
    where
      go : (o : Option ℕ) → first_below (is_fixed v) 19 ≡ o → First (is_fixed v) 19 (fixed_text_number v)
      go None e = absurd (omega (arith, fixed_none e))
      go (Some n) e = first_some (is_fixed v) 19 (fixed_text_number v) (e ∙ ap (λ (m : ℕ). Some m) (sym (fixed_some n e)))

  module _ (k : ℕ) (nm : List ℕ) (stand : (bit (required k) 27 || bit (allowed k) 27) ≡ true) where
    abbrev n : ℕ
    n = fixed_text_number v

    fixed_right : 1 ≤ n → n < 19 → right k 27 (Some (n ∷ [])) ≡ true
    unfolding size range fields in_range value if◌then◌otherwise◌
    fixed_right l h =
        let z : n + 256 * 0 ≡ n = omega arith in
        and_from _ _ (and_from _ _ stand (and_from _ _ (and_from _ _ (lt-ltb n 256 (omega arith)) refl) refl))
        (and_from _ _ (and_from _ _ (ap (within 1 18) z ∙ and_from _ _ (le-leb 1 n l) (le-leb n 18 (omega arith))) refl) refl)

    words_least : right k 27 (Some (n ∷ [])) ≡ true → 1 ≤ n
    unfolding size range fields in_range value if◌then◌otherwise◌
    words_least e =
        let z : n + 256 * 0 ≡ n = omega arith in
        let h = and_parts (shape_at k 27 (Some (n ∷ []))) (range_at 27 (Some (n ∷ [])) && text_at 27 (Some (n ∷ []))) e in
        let r = and_parts (range_at 27 (Some (n ∷ []))) (text_at 27 (Some (n ∷ []))) h.1 in
        let w = and_parts (within 1 18 (n + 256 * 0)) true r.0 in
        omega (arith, leb-true 1 (n + 256 * 0) (and_parts (nat_le 1 (n + 256 * 0)) (nat_le (n + 256 * 0) 18) w.0).0)

    fixed_again : fits k nm 27 v ≡ (right k 27 (Some (n ∷ [])) && same (fixed_text n) v)
    unfolding fits held_in respelled if◌then◌otherwise◌
    fixed_again = refl

    pub fixed_fits : fits k nm 27 v ≡ nat_le 1 (fixed_text_number v)
    fixed_fits = fixed_again ∙ both_ways (right k 27 (Some (n ∷ [])) && same (fixed_text n) v) (nat_le 1 n)
        (λ e. le-leb 1 n (words_least (and_parts (right k 27 (Some (n ∷ []))) _ e).0))
        (λ e. let f = known (leb-true 1 n e) in and_from _ _ (fixed_right (leb-true 1 n e) f.below) f.passes)

-- fixed text n among all that are spoken
pub spoken_fixed : (n : ℕ) → n < 19 → slice_index_or spoken n [] ≡ fixed_text n
unfolding spoken fixed_text texts
spoken_fixed n h = get_or-append texts (none_text ∷ []) [] n h

-- ---- behind a point

pub after_point : (v : List ℕ) (i : ℕ) → i < length v → slice_index v i ≡ 46 → after 46 (drop i v) ≡ drop (suc i) v
unfolding after
after_point v i h e =
    ap (after 46) (drop-cons v i 0 h)
    ∙ if_true (slice_index v i == 46) (drop (suc i) v) (after 46 (drop (suc i) v)) (eq-eqb (slice_index v i) 46 e)

pub after_other : (v : List ℕ) (i : ℕ) → i < length v → (slice_index v i == 46) ≡ false → after 46 (drop i v) ≡ after 46 (drop (suc i) v)
unfolding after
after_other v i h e =
    ap (after 46) (drop-cons v i 0 h)
    ∙ if_false (slice_index v i == 46) (drop (suc i) v) (after 46 (drop (suc i) v)) e

pub after_none : after 46 [] ≡ []
unfolding after
after_none = refl

abbrev pub is_point : ℕ → Bool
is_point c = c == 46

-- by the place of the first point
after_is : (v : List ℕ) → after 46 v ≡ drop (position_or_len is_point v + 1) v
unfolding after if◌then◌otherwise◌
after_is [] = refl
after_is (c ∷ v) = go (c == 46) (after_is v)
  where
    go : (b : Bool) → after 46 v ≡ drop (position_or_len is_point v + 1) v → (if b then v otherwise after 46 v) ≡ drop (cond (not b) (1 + position_or_len is_point v) 0 + 1) (c ∷ v)
    go true e = refl
    go false e = let z : 1 + position_or_len is_point v + 1 ≡ suc (position_or_len is_point v + 1) = omega arith in rw z e

abbrev pub point_in : List ℕ → Option ℕ
point_in v = cond (ltb (position_or_len is_point v) (length v)) (Some (position_or_len is_point v)) None

pub behind_some : (v : List ℕ) (i : ℕ) → Some i ≡ point_in v → drop (i + 1) v ≡ after 46 v
behind_some v i = go (ltb (position_or_len is_point v) (length v))
  where
    go : (b : Bool) → Some i ≡ cond b (Some (position_or_len is_point v)) None → drop (i + 1) v ≡ after 46 v
    go true e = let z : i ≡ position_or_len is_point v = cc in rw z (sym (after_is v))
    go false e = cc

pub behind_none : (v : List ℕ) → None ≡ point_in v → [] ≡ after 46 v
behind_none v = go (ltb (position_or_len is_point v) (length v)) refl
  where
    go : (b : Bool) → ltb (position_or_len is_point v) (length v) ≡ b → None ≡ cond b (Some (position_or_len is_point v)) None → [] ≡ after 46 v
    go true z e = cc
    go false z e =
        let h : length v ≤ position_or_len is_point v = grind (arith, nat_tests) in
        sym (after_is v ∙ drop_of_length-le v {i = position_or_len is_point v + 1} (omega arith))

-- what begins with a name
pub exec_parts : (nm d v : List ℕ) → same (nm ++ d) v ≡ (same nm (take (length nm) v) && same d (drop (length nm) v))
exec_parts [] d v = refl
exec_parts (x ∷ nm) d [] = refl
exec_parts (x ∷ nm) d (y ∷ v) =
    ap (λ (b : Bool). (x == y) && b) (exec_parts nm d v) ∙ assoc (x == y) (same nm (take (length nm) v)) (same d (drop (length nm) v))
  where
    assoc : (x y z : Bool) → (x && (y && z)) ≡ ((x && y) && z)
    assoc true y z = refl
    assoc false y z = refl

module _ (nm d v : List ℕ) where
  exec_told : (b : Bool) → pointwise nat_eq (take (length nm) v) nm ≡ b → same (nm ++ d) v ≡ (b && same d (drop (length nm) v))
  exec_told b e =
      exec_parts nm d v
      ∙ ap (λ (b : Bool). b && same d (drop (length nm) v)) (same_turned nm (take (length nm) v) ∙ sym (same_list (take (length nm) v) nm) ∙ e)

  pub exec_other : pointwise nat_eq (take (length nm) v) nm ≡ false → same (nm ++ d) v ≡ false
  exec_other e = exec_told false e

  pub exec_behind : pointwise nat_eq (take (length nm) v) nm ≡ true → same (nm ++ d) v ≡ same d (drop (length nm) v)
  exec_behind e = exec_told true e

-- a name, a point and digits, by the bytes s behind the name
module _ (nm d v s : List ℕ) (e : pointwise nat_eq (take (length nm) v) nm ≡ true) (q : s ≡ drop (length nm) v) where
  behind : same (nm ++ (46 ∷ d)) v ≡ same (46 ∷ d) s
  behind = exec_behind nm (46 ∷ d) v e ∙ ap (same (46 ∷ d)) (sym q)

  pub exec_short : length s < 1 → same (nm ++ (46 ∷ d)) v ≡ false
  exec_short h = behind ∙ go s h
    where
      go : (s : List ℕ) → length s < 1 → same (46 ∷ d) s ≡ false
      go [] h = refl
      go (c ∷ s) h = absurd (omega arith)

  pub exec_unpointed : (slice_index s 0 ≢ 46) → same (nm ++ (46 ∷ d)) v ≡ false
  exec_unpointed h = behind ∙ go s h
    where
      go : (s : List ℕ) → (slice_index s 0 ≢ 46) → same (46 ∷ d) s ≡ false
      go [] h = refl
      go (c ∷ s) h = ap (λ (b : Bool). b && same d s) (ne_eqb 46 c (λ z. h (sym z)))

  pub exec_pointed : 1 ≤ length s → slice_index s 0 ≡ 46 → same (nm ++ (46 ∷ d)) v ≡ same d (take (length s - 1) (drop 1 s))
  exec_pointed h z = behind ∙ go s h z
    where
      go : (s : List ℕ) → 1 ≤ length s → slice_index s 0 ≡ 46 → same (46 ∷ d) s ≡ same d (take (length s - 1) (drop 1 s))
      go [] h z = absurd (omega arith)
      go (c ∷ s) h z = ap (λ (b : Bool). b && same d s) (eq-eqb 46 c (sym z)) ∙ sym (ap (same d) (take_rest (c ∷ s) 1))

-- ---- every byte

pub every_all : (p : ℕ → Bool) (v : List ℕ) → every p v ≡ all_below (λ i. p (slice_index v i)) (length v)
every_all p v =
    both_ways (every p v) (all_below (λ i. p (slice_index v i)) (length v))
    (λ e. all_intro (λ i. p (slice_index v i)) (length v) (λ i h. every_below p v e i h))
    (λ e. below_every p v (λ i h. all_elim (λ i. p (slice_index v i)) (length v) e i h))
