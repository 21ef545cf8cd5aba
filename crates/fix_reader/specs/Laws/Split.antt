-- Bytes cut into fields from the front, as code does it: what it has when it came to the end, and that bytes on which it stops spell no
-- fields. Rests on Reading and Pieces.
use Rattle.std.specs.Prelude.{◌≡◌, ℕ, ◌+◌, ◌-◌, ◌<◌, ◌≤◌, true, List, [], ◌∷◌, ◌++◌, length, get_or, take, drop, replicate, ◌≢◌, nat_lt, slice_index, slice_index_or, slice_set, refl, Option, None, Some}
use Rattle.std.proofs.Common.{sym, ap, ◌∙◌, append_assoc, append-nil, leb-true, ne_eqb, lt-ltb, le-ltb, lit<, length-append, length-set, drop_of_length-le, drop-drop, take_at, get_or-set_same, get_or-set_other, ext_get_or, arith, length-drop}
use Rattle.std.proofs.Math.Decide.{dec_lt, ℕ_discrete}
use Rattle.std.proofs.Math.ListN.{get_or-eq_default, get_or-append}
use Rattle.std.proofs.lemmas.Bool.{and_from}
use mathlib.Core.HLevel.{Unit-prop, ×_prop}
use denote.Struct.Props.{props}
use Rattle.std.proofs.lemmas.List.{get_or-replicate, take-append-le, get_or_at}
use Rattle.prelude.specs.Laws.Cases.{if_true, if_false}
use Rattle.prelude.specs.Lists.{list_below}
use Rattle.prelude.specs.Laws.Lists.{length_list, get_list}
use Rattle.prelude.specs.Span.{span}
use Rattle.prelude.specs.Laws.Span.{length_span}
use Rattle.decimal.specs.Decimal.{digits}
use Rattle.fix_claims.specs.declared.FixFields.{FixFields}
use Rattle.fix_words.specs.Lists.{every, is_print, is_not, after}
use Rattle.fix_words.specs.Spelling.{Field, field, soh, equals, piece, spellings, printable}
use Rattle.fix_claims.specs.Reading.{no_field, tag_of, place_of, length_of, tabled}
use Rattle.fix_words.specs.Laws.Lists.{every_append, every_map, after_cut}
use Rattle.fix_words.specs.Laws.Digits.{digits_not}
use Rattle.fix_words.specs.Laws.Spelling.{spellings_append}
use Rattle.fix_reader.specs.Laws.Pieces.{Plain, PieceAt}

abbrev pub Plains : List Field → Type 0
Plains [] = Unit {0}
Plains (f ∷ fs) = Plain f × Plains fs

-- one proof of it at most, so that a struct may hold it
pub plains_prop : (fs : List Field) → IsProp (Plains fs)
plains_prop [] = Unit-prop
plains_prop (f ∷ fs) = ×_prop (hlevel props) (plains_prop fs)

plains_one : (fs : List Field) (f : Field) → Plains fs → Plain f → Plains (fs ++ (f ∷ []))
plains_one [] f a p = (p, tt)
plains_one (g ∷ fs) f a p = (a.0, plains_one fs f a.1 p)

pub plains_print : (fs : List Field) → Plains fs → printable fs ≡ true
plains_print [] a = refl
plains_print (f ∷ fs) a = and_from _ _ a.0.prints (plains_print fs a.1)

-- ---- one field more

get_last : (fs : List Field) (f : Field) → slice_index_or (fs ++ (f ∷ [])) (length fs) no_field ≡ f
get_last fs f = get_or_at fs f [] no_field (length fs) refl

get_other : (fs : List Field) (f : Field) (i : ℕ) → (i ≢ length fs) → slice_index_or (fs ++ (f ∷ [])) i no_field ≡ slice_index_or fs i no_field
get_other fs f i h = go (dec_lt i (length fs))
  where
    go : Dec (i < length fs) → slice_index_or (fs ++ (f ∷ [])) i no_field ≡ slice_index_or fs i no_field
    go (yes l) = get_or-append fs (f ∷ []) no_field i l
    go (no l) =
        let a : length (fs ++ (f ∷ [])) ≤ i = omega (arith, length-append fs (f ∷ [])) in
        let b : length fs ≤ i = omega arith in
        get_or-eq_default (fs ++ (f ∷ [])) no_field {n = i} a ∙ sym (get_or-eq_default fs no_field {n = i} b)

abbrev value_at : List Field → ℕ → ℕ
value_at fs i = length (spellings (take i fs)) + length (digits (tag_of fs i)) + 1

place_last : (fs : List Field) (f : Field) → place_of (fs ++ (f ∷ [])) (length fs) ≡ length (spellings fs) + length (digits f.tag) + 1
unfolding place_of
place_last fs f =
    if_true (nat_lt (length fs) (length (fs ++ (f ∷ [])))) (value_at (fs ++ (f ∷ [])) (length fs)) 0 (lt-ltb (length fs) (length (fs ++ (f ∷ []))) (omega (arith, length-append fs (f ∷ []))))
    ∙ (λ i. length (spellings (take_at fs (f ∷ []) (length fs) refl i)) + length (digits (get_last fs f i).tag) + 1)

place_other : (fs : List Field) (f : Field) (i : ℕ) → (i ≢ length fs) → place_of (fs ++ (f ∷ [])) i ≡ place_of fs i
unfolding place_of
place_other fs f i h = go (dec_lt i (length fs))
  where
    go : Dec (i < length fs) → place_of (fs ++ (f ∷ [])) i ≡ place_of fs i
    go (yes l) =
        if_true (nat_lt i (length (fs ++ (f ∷ [])))) (value_at (fs ++ (f ∷ [])) i) 0 (lt-ltb i (length (fs ++ (f ∷ []))) (omega (arith, length-append fs (f ∷ []))))
        ∙ (λ j. length (spellings (take-append-le i fs (f ∷ []) (omega arith) j)) + length (digits (get_other fs f i h j).tag) + 1)
        ∙ sym (if_true (nat_lt i (length fs)) (value_at fs i) 0 (lt-ltb i (length fs) l))
    go (no l) =
        if_false (nat_lt i (length (fs ++ (f ∷ [])))) (value_at (fs ++ (f ∷ [])) i) 0 (le-ltb i (length (fs ++ (f ∷ []))) (omega (arith, length-append fs (f ∷ []))))
        ∙ sym (if_false (nat_lt i (length fs)) (value_at fs i) 0 (le-ltb i (length fs) (omega arith)))

-- ---- what has been cut

-- what fields there can be behind a place
pub record Rest (s : List ℕ) (p n : ℕ) (gs : List Field) : Type 0 where
  pub rest : List Field
  pub plain : Plains rest
  pub spelled : spellings rest ≡ drop p s
  pub count : length gs ≡ n + length rest

pub record Split (s : List ℕ) (p n : ℕ) (tag at len : List ℕ) : Type 0 where
  pub fields : List Field
  pub spelled : spellings fields ++ drop p s ≡ s
  pub reached : length (spellings fields) ≡ p
  pub plain : Plains fields
  pub count : length fields ≡ n
  pub few : n ≤ 32
  pub tags : (length tag ≡ 32) × ((i : ℕ) → i < 32 → slice_index tag i ≡ tag_of fields i)
  pub places : (length at ≡ 32) × ((i : ℕ) → i < 32 → slice_index at i ≡ place_of fields i)
  pub lengths : (length len ≡ 32) × ((i : ℕ) → i < 32 → slice_index len i ≡ length_of fields i)
  pub only : (gs : List Field) → Plains gs → spellings gs ≡ s → Rest s p n gs

pub split_start : (s : List ℕ) → Split s 0 0 (replicate 32 0) (replicate 32 0) (replicate 32 0)
unfolding spellings place_of
split_start s = record {
  fields = [];
  spelled = refl;
  reached = refl;
  plain = tt;
  count = refl;
  few = omega arith;
  tags = (refl, λ i h. get_or-replicate 32 i 0 0 h);
  places = (refl, λ i h. get_or-replicate 32 i 0 0 h ∙ sym (if_false (nat_lt i 0) _ 0 (le-ltb i 0 (omega arith))));
  lengths = (refl, λ i h. get_or-replicate 32 i 0 0 h);
  only = λ gs a e. record { rest = gs; plain = a; spelled = e; count = omega arith };
}

pub split_within : (s : List ℕ) (p n : ℕ) (tag at len : List ℕ) → Split s p n tag at len → p ≤ length s
split_within s p n tag at len z =
    omega (arith, z.reached, ap length (sym z.spelled) ∙ length-append (spellings z.fields) (drop p s), length-drop p s)

no_soh : (f : Field) → every is_print f.value ≡ true → every (is_not soh) (piece f) ≡ true
unfolding piece
no_soh f e =
    every_append (is_not soh) (digits f.tag) (equals ∷ f.value) (digits_not soh f.tag (lit< tt))
    (and_from _ _ refl (every_map is_print (is_not soh) (λ c h. rw (ne_eqb c soh (λ q. absurd (omega (arith, leb-true 32 c h))))) f.value e))

module _ (l : List ℕ) (size : length l ≡ 32) (n x : ℕ) (h : n < 32) (old now : ℕ → ℕ) (is : (i : ℕ) → i < 32 → slice_index l i ≡ old i)
    (here : x ≡ now n) (there : (i : ℕ) → (i ≢ n) → now i ≡ old i) where
  set_table : (length (slice_set l n x) ≡ 32) × ((i : ℕ) → i < 32 → slice_index (slice_set l n x) i ≡ now i)
  set_table = (simp length-set size, λ i k. go i k (ℕ_discrete i n))
    where
      go : (i : ℕ) → i < 32 → Dec (i ≡ n) → slice_index (slice_set l n x) i ≡ now i
      go i k (yes e) = ap (λ (j : ℕ). slice_index (slice_set l n x) j) e ∙ get_or-set_same l n x 0 (omega arith) ∙ here ∙ ap now (sym e)
      go i k (no e) = get_or-set_other l n i x 0 e ∙ is i k ∙ sym (there i e)

module _ (s : List ℕ) (p n : ℕ) (tag at len : List ℕ) (z : Split s p n tag at len) where
  -- ---- a field stands there

  module _ (t a e : ℕ) (k : PieceAt (drop p s) t a e) (more : n < 32) where
    abbrev f : Field
    f = field t (span (drop p s) a (e - a))

    abbrev fs : List Field
    fs = z.fields

    plain_f : Plain f
    plain_f = record { some = k.tagged.some; small = k.tagged.small; prints = k.prints }

    behind : drop (e + 1) (drop p s) ≡ drop (p + e + 1) s
    behind = let i : p + (e + 1) ≡ p + e + 1 = omega arith in drop-drop (e + 1) p s ∙ ap (λ (j : ℕ). drop j s) i

    here : drop p s ≡ spellings (f ∷ []) ++ drop (p + e + 1) s
    unfolding spellings
    here = k.whole ∙ ap (λ (u : List ℕ). piece f ++ (soh ∷ u)) behind ∙ sym (append_assoc (piece f) (soh ∷ []) (drop (p + e + 1) s))

    long : length (spellings (f ∷ [])) ≡ e + 1
    long =
        omega (arith, k.within, length-drop p s, ap length here ∙ length-append (spellings (f ∷ [])) (drop (p + e + 1) s), length-drop (p + e + 1) s)

    only_more : (gs : List Field) → Plains gs → spellings gs ≡ s → Rest s (p + e + 1) (n + 1) gs
    unfolding spellings
    only_more gs b q = let r = z.only gs b q in go r.rest r.plain r.spelled r.count
      where
        go : (rs : List Field) → Plains rs → spellings rs ≡ drop p s → length gs ≡ n + length rs → Rest s (p + e + 1) (n + 1) gs
        go [] b q c = absurd (omega (arith, ap length q, k.within))
        go (g ∷ rs) b q c = record {
          rest = rs;
          plain = b.1;
          spelled =
              sym (after_cut soh (piece g) (spellings rs) (no_soh g b.0.prints))
              ∙ ap (after soh) (q ∙ k.whole)
              ∙ after_cut soh (piece f) (drop (e + 1) (drop p s)) (no_soh f k.prints)
              ∙ behind;
          count = omega arith;
        }

    pub split_more : Split s (p + e + 1) (n + 1) (slice_set tag n t) (slice_set at n (p + a)) (slice_set len n (e - a))
    split_more =
        let c = z.count in
        let v : length (span (drop p s) a (e - a)) ≡ e - a = length_span (drop p s) a (e - a) (omega (arith, k.order, k.within)) in
        let other : (i : ℕ) → (i ≢ n) → (i ≢ length fs) = λ i q w. q (w ∙ c) in
        let last : get_or (fs ++ (f ∷ [])) n no_field ≡ f = ap (λ (i : ℕ). get_or (fs ++ (f ∷ [])) i no_field) (sym c) ∙ get_last fs f in
        let pl : p + a ≡ place_of (fs ++ (f ∷ [])) n =
        sym (ap (place_of (fs ++ (f ∷ []))) (sym c) ∙ place_last fs f ∙ omega (arith, z.reached, k.tagged.place)) in
        record {
          fields = fs ++ (f ∷ []);
          spelled =
              ap (λ (u : List ℕ). u ++ drop (p + e + 1) s) (spellings_append fs (f ∷ []))
              ∙ append_assoc (spellings fs) (spellings (f ∷ [])) (drop (p + e + 1) s)
              ∙ ap (λ (u : List ℕ). spellings fs ++ u) (sym here)
              ∙ z.spelled;
          reached = ap length (spellings_append fs (f ∷ [])) ∙ length-append (spellings fs) (spellings (f ∷ [])) ∙ omega (arith, z.reached, long);
          plain = plains_one fs f z.plain plain_f;
          count = length-append fs (f ∷ []) ∙ omega arith;
          few = omega arith;
          tags = set_table tag z.tags.0 n t more (tag_of fs) (tag_of (fs ++ (f ∷ []))) z.tags.1 (sym (ap (λ (g : Field). g.tag) last))
              (λ i q. ap (λ (g : Field). g.tag) (get_other fs f i (other i q)));
          places = set_table at z.places.0 n (p + a) more (place_of fs) (place_of (fs ++ (f ∷ []))) z.places.1 pl (λ i q. place_other fs f i (other i q));
          lengths = set_table len z.lengths.0 n (e - a) more (length_of fs) (length_of (fs ++ (f ∷ []))) z.lengths.1
              (sym (ap (λ (g : Field). length g.value) last ∙ v)) (λ i q. ap (λ (g : Field). length g.value) (get_other fs f i (other i q)));
          only = only_more;
        }

  -- ---- none stands there, or there is no room

  pub split_full : n ≡ 32 → p < length s → (gs : List Field) → Plains gs → length gs ≤ 32 → spellings gs ≢ s
  unfolding spellings
  split_full e h gs b few q = let r = z.only gs b q in go r.rest r.spelled r.count
    where
      go : (rs : List Field) → spellings rs ≡ drop p s → length gs ≢ n + length rs
      go [] w c = omega (arith, ap length w, length-drop p s)
      go (g ∷ rs) w c = omega arith

  pub split_stop : p < length s → ((f : Field) → Plain f → (u : List ℕ) → drop p s ≢ piece f ++ (soh ∷ u))
      → (gs : List Field) → Plains gs → length gs ≤ 32 → spellings gs ≢ s
  unfolding spellings
  split_stop h missing gs b few q = let r = z.only gs b q in go r.rest r.plain r.spelled
    where
      go : (rs : List Field) → Plains rs → spellings rs ≢ drop p s
      go [] b w = omega (arith, ap length w, length-drop p s)
      go (g ∷ rs) b w = missing g b.0 (spellings rs) (sym w)

-- ---- the end

-- the bytes are these fields, and so is the table
pub record Found (s : List ℕ) (r : FixFields) : Type 0 where
  pub fields : List Field
  pub spelled : spellings fields ≡ s
  pub plain : Plains fields
  pub few : length fields ≤ 32
  pub table : r ≡ tabled 0 fields

-- no fields of such tags, at most 32, that print are spelled so
abbrev pub NoFields : List ℕ → Type 0
NoFields s = (gs : List Field) → Plains gs → length gs ≤ 32 → spellings gs ≢ s

abbrev pub Splits : List ℕ → Option FixFields → Type 0
Splits s None = NoFields s
Splits s (Some r) = Found s r

pub splits_nothing : (s : List ℕ) → NoFields s → Splits s None
splits_nothing s none = none

table_is : (l : List ℕ) (f : ℕ → ℕ) → (length l ≡ 32) × ((i : ℕ) → i < 32 → slice_index l i ≡ f i) → l ≡ list_below f 32
table_is l f z = ext_get_or 0 l (list_below f 32) (z.0 ∙ sym (length_list f 32)) (λ i h. z.1 i (omega (arith, z.0)) ∙ sym (get_list f 0 32 i (omega (arith, z.0))))

pub split_done : (s : List ℕ) (p n : ℕ) (tag at len : List ℕ) → Split s p n tag at len → length s ≤ p
    → Found s (record { refusal = 0; count = n; tag = tag; at = at; length = len })
unfolding tabled
split_done s p n tag at len z h = record {
  fields = z.fields;
  spelled = sym (append-nil (spellings z.fields)) ∙ ap (λ (u : List ℕ). spellings z.fields ++ u) (sym (drop_of_length-le s {i = p} h)) ∙ z.spelled;
  plain = z.plain;
  few = omega (arith, z.count, z.few);
  table = λ i. record {
    refusal = 0;
    count = sym z.count i;
    tag = table_is tag (tag_of z.fields) z.tags i;
    at = table_is at (place_of z.fields) z.places i;
    length = table_is len (length_of z.fields) z.lengths i;
  };
}
