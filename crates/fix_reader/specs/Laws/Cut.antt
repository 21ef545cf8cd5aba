-- What the reader's code has of a message that was cut: its fields, and the tables of their tags, places and lengths. Rests on Split and
-- Table.
use Rattle.std.specs.Prelude.{◌≡◌, ℕ, zero, suc, ◌+◌, ◌-◌, ◌<◌, ◌≤◌, Bool, true, ◌&&◌, List, [], ◌∷◌, length, take, drop, ◌==◌, nat_eq, nat_lt, slice_index, slice_index_or, refl}
use Rattle.std.proofs.Common.{sym, ap, subst, ◌∙◌, arith, lt-ltb, le-ltb, drop_of_length-le, drop-cons}
use Rattle.std.proofs.Math.Decide.{dec_lt}
use Rattle.std.proofs.Math.ListN.{get_or-eq_default}
use denote.Struct.Props.{props}
use Rattle.prelude.specs.Laws.Cases.{if_false}
use Rattle.prelude.specs.Lists.{list_below}
use Rattle.prelude.specs.Laws.Lists.{length_list, get_list}
use Rattle.prelude.specs.Span.{span}
use Rattle.prelude.specs.Laws.Span.{span_none, part_span}
use Rattle.decimal.specs.Decimal.{digits}
use Rattle.fix_words.specs.Lists.{every, is_print}
use Rattle.fix_words.specs.Spelling.{Field, spellings, fields_in}
use Rattle.fix_words.specs.Rows.{leads}
use Rattle.fix_words.specs.Message.{value_at}
use Rattle.fix_words.specs.Laws.Spelling.{fields_back}
use Rattle.fix_claims.specs.declared.FixFields.{FixFields}
use Rattle.fix_claims.specs.Reading.{no_field, tag_of, place_of, length_of, tabled}
use Rattle.fix_reader.specs.Laws.Split.{Plains, plains_prop, plains_print, Found}
use Rattle.fix_claims.proofs.Laws.Table.{value_stands, value_within}

-- the bytes are fields, and the tables say where their values stand
pub record Placed (s at len : List ℕ) : Type 0 where
  pub spelled : spellings (fields_in s) ≡ s
  pub plain : Plains (fields_in s)
  pub places : (i : ℕ) → slice_index at i ≡ place_of (fields_in s) i
  pub lengths : (i : ℕ) → slice_index len i ≡ length_of (fields_in s) i

-- and how many they are, and their tags
pub record Cut (s : List ℕ) (n : ℕ) (tag at len : List ℕ) : Type 0 where
  pub placed : Placed s at len
  pub count : length (fields_in s) ≡ n
  pub few : n ≤ 32
  pub tags : (i : ℕ) → slice_index tag i ≡ tag_of (fields_in s) i

-- `Cut` has one proof at most
pub ruleset cut_props = (plains_prop, props)

-- ---- behind the last field

place_none : (fs : List Field) (i : ℕ) → length fs ≤ i → place_of fs i ≡ 0
unfolding place_of
place_none fs i h = if_false (nat_lt i (length fs)) (length (spellings (take i fs)) + length (digits (tag_of fs i)) + 1) 0 (le-ltb i (length fs) h)

none_at : (fs : List Field) (i : ℕ) → length fs ≤ i → slice_index_or fs i no_field ≡ no_field
none_at fs i h = get_or-eq_default fs no_field {n = i} h

-- a table of what is 0 there has it at every index
tabled_at : (f : ℕ → ℕ) → ((i : ℕ) → 32 ≤ i → f i ≡ 0) → (i : ℕ) → slice_index (list_below f 32) i ≡ f i
tabled_at f past i = go (dec_lt i 32)
  where
    go : Dec (i < 32) → slice_index (list_below f 32) i ≡ f i
    go (yes h) = get_list f 0 32 i h
    go (no h) = get_or-eq_default (list_below f 32) 0 {n = i} (omega (arith, length_list f 32)) ∙ sym (past i (omega arith))

-- ---- a message that was cut

pub found_fields : (s : List ℕ) (r : FixFields) (f : Found s r) → fields_in s ≡ f.fields
found_fields s r f = ap fields_in (sym f.spelled) ∙ fields_back f.fields (plains_print f.fields f.plain)

pub cut_of : (s : List ℕ) (r : FixFields) → Found s r → Cut s r.count r.tag r.at r.length
unfolding tabled
cut_of s r f =
    let fs : List Field = f.fields in
    let e : fields_in s ≡ fs = found_fields s r f in
    let c : length (fields_in s) ≡ r.count = ap length e ∙ sym (ap (λ (x : FixFields). x.count) f.table) in
    record {
      placed = record {
        spelled = ap spellings e ∙ f.spelled;
        plain = subst Plains (sym e) f.plain;
        places = λ i. ap (λ (x : FixFields). slice_index x.at i) f.table ∙ tabled_at (place_of fs) (λ j h. place_none fs j (omega (arith, f.few))) i ∙ ap (λ (l : List Field). place_of l i) (sym e);
        lengths = λ i. ap (λ (x : FixFields). slice_index x.length i) f.table ∙ tabled_at (length_of fs) (λ j h. ap (λ (g : Field). length g.value) (none_at fs j (omega (arith, f.few)))) i ∙ ap (λ (l : List Field). length_of l i) (sym e);
      };
      count = c;
      few = omega (arith, c, ap length e, f.few);
      tags = λ i. ap (λ (x : FixFields). slice_index x.tag i) f.table ∙ tabled_at (tag_of fs) (λ j h. ap (λ (g : Field). g.tag) (none_at fs j (omega (arith, f.few)))) i ∙ ap (λ (l : List Field). tag_of l i) (sym e);
    }

-- ---- a value

value_prints : (fs : List Field) → Plains fs → (i : ℕ) → every is_print (value_at fs i) ≡ true
value_prints [] p i = refl
value_prints (f ∷ fs) p zero = p.0.prints
value_prints (f ∷ fs) p (suc i) = value_prints fs p.1 i

module _ (s at len : List ℕ) (z : Placed s at len) (i : ℕ) where
  abbrev fs : List Field
  fs = fields_in s

  abbrev a : ℕ
  a = slice_index at i

  abbrev l : ℕ
  l = slice_index len i

  pub part_within : a + l ≤ length s
  part_within = go (dec_lt i (length fs))
    where
      go : Dec (i < length fs) → a + l ≤ length s
      go (yes k) = omega (arith, z.places i, z.lengths i, value_within fs i k, ap length z.spelled)
      go (no k) =
          let e : length fs ≤ i = omega arith in
          omega (arith, z.places i, z.lengths i, place_none fs i e, ap (λ (f : Field). length f.value) (none_at fs i e))

  -- its bytes are the value
  pub part_value : take ((a + l) - a) (drop a s) ≡ value_at fs i
  part_value = part_span s a l ∙ (λ j. span s (z.places i j) (z.lengths i j)) ∙ go (dec_lt i (length fs))
    where
      go : Dec (i < length fs) → span s (place_of fs i) (length_of fs i) ≡ value_at fs i
      go (yes k) = ap (λ (u : List ℕ). span u (place_of fs i) (length_of fs i)) (sym z.spelled) ∙ value_stands fs i k
      go (no k) =
          let e = none_at fs i (omega arith) in
          ap (λ (f : Field). span s (place_of fs i) (length f.value)) e ∙ span_none s (place_of fs i) ∙ sym (ap (λ (f : Field). f.value) e)

  pub part_prints : every is_print (value_at fs i) ≡ true
  part_prints = value_prints fs z.plain i

  pub value_long : length (value_at fs i) ≡ l
  value_long = sym (z.lengths i)

-- ---- a tag

module _ (s : List ℕ) (n : ℕ) (tag at len : List ℕ) (z : Cut s n tag at len) where
  pub cut_leads : (i t : ℕ) → leads t (drop i (fields_in s)) ≡ (nat_lt i n && t == slice_index tag i)
  cut_leads i t = go (dec_lt i n)
    where
      go : Dec (i < n) → leads t (drop i (fields_in s)) ≡ (nat_lt i n && t == slice_index tag i)
      go (yes k) =
          ap (leads t) (drop-cons (fields_in s) i no_field (omega (arith, z.count)))
          ∙ ap (nat_eq t) (sym (z.tags i))
          ∙ sym (ap (λ (b : Bool). b && t == slice_index tag i) (lt-ltb i n k))
      go (no k) =
          ap (leads t) (drop_of_length-le (fields_in s) {i = i} (omega (arith, z.count)))
          ∙ sym (ap (λ (b : Bool). b && t == slice_index tag i) (le-ltb i n (omega arith)))
