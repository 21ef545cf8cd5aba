-- What a record that is right has, fact by fact, and its texts and numbers as they come back from their bytes. Rests on Record.
use Rattle.std.specs.Prelude.{ℕ, ◌+◌, ◌-◌, ◌≤◌, ◌<◌, min, ◌≡◌, refl, true, false, ◌||◌, eqb, leb, ltb, get_or, drop, List, [], ◌∷◌, ◌++◌, length, take, replicate}
use Rattle.std.proofs.Common.{sym, ◌∙◌, ⊎_elim, arith, length-append, take_at, drop_at, ext_get_or, get_or-take, get_or-append-add, ap, append-nil, eqb-true, leb-true, ltb-true, length-take, take_all, length-take-le}
use Rattle.std.proofs.Math.Decide.{dec_lt, dec_le}
use Rattle.std.proofs.Math.ListN.{get_or-append}
use Rattle.std.proofs.lemmas.Bool.{and_parts, or_cases}
use Rattle.std.proofs.lemmas.List.{length-replicate, get_or-replicate}
use Rattle.prelude.specs.Cases.{if◌then◌otherwise◌}
use Rattle.prelude.specs.Below.{all_below}
use Rattle.prelude.specs.Laws.Below.{all_elim}
use Rattle.prelude.specs.Number.{number, bytes_of, bound}
use Rattle.prelude.specs.Laws.Number.{length_bytes, number_bytes}
use Rattle.prelude.specs.Texts.{contents, text_of, is_text}
use Rattle.prelude.specs.Laws.Texts.{text_contents}
use Rattle.prelude.specs.declared.Text.{Text}
use Rattle.bits.specs.Map.{bit}
use Rattle.format.specs.Format.{size, range, in_range, bits_right}
use Rattle.records.specs.declared.LongText.{LongText}
use Rattle.records.specs.declared.Record.{Record}
use Rattle.records.specs.Fields.{numbers_of, high_of, short_bytes, long_bytes, long_of, words}
use Rattle.format.specs.Refusal.{name_in}
use Rattle.records.specs.Record.{field_right, is_short, is_long, texts_right, price_right, is_record}

-- ---- the facts

pub record RightText (t : Text) : Type 0 where
  pub long : length t.bytes ≡ 32
  pub short : t.len ≤ 32
  pub stored : is_text t ≡ true

pub record RightLong (t : LongText) : Type 0 where
  pub long : length t.bytes ≡ 64
  pub short : t.len ≤ 64
  pub filled : (k : ℕ) → k < 64 → (ltb k t.len || eqb (get_or t.bytes k 0) 0) ≡ true

pub record Right (r : Record) : Type 0 where
  pub bits : bits_right r.kind r.map ≡ true
  pub map : r.map < bound 4
  -- a field that stands is in its range and fits its bytes, one that does not is 0
  pub range : (b : ℕ) → b < 32 → bit r.map b ≡ true → in_range (range b) (get_or (numbers_of r) b 0) ≡ true
  pub fits : (b : ℕ) → b < 32 → bit r.map b ≡ true → get_or (numbers_of r) b 0 < bound (min (size b) 8)
  pub absent : (b : ℕ) → b < 32 → bit r.map b ≡ false → get_or (numbers_of r) b 0 ≡ 0
  pub named : name_in r.map r.ids.name ≡ true
  pub name : RightText r.ids.name
  pub clordid : RightText r.ids.clordid
  pub origclordid : RightText r.ids.origclordid
  pub downstream : RightText r.ids.downstream
  pub symbol : RightText r.ids.symbol
  pub venueorderid : RightText r.ids.venueorderid
  pub origdownstream : RightText r.ids.origdownstream
  pub text : RightLong r.text
  pub two : length r.told.fillprice ≡ 2
  pub high : bit r.map 26 ≡ true → high_of r < bound 8
  pub nothigh : bit r.map 26 ≡ false → high_of r ≡ 0

right_text : (t : Text) → is_short t ≡ true → RightText t
unfolding is_short is_text
right_text t e =
    let p = and_parts (eqb (length t.bytes) 32) _ e in
    record {
      long = eqb-true _ _ p.0;
      short = leb-true _ _ (and_parts (leb t.len 32) _ p.1).0;
      stored = p.1;
    }

right_long : (t : LongText) → is_long t ≡ true → RightLong t
unfolding is_long
right_long t e =
    let p = and_parts (eqb (length t.bytes) 64) _ e in
    let q = and_parts (leb t.len 64) _ p.1 in
    record { long = eqb-true _ _ p.0; short = leb-true _ _ q.0; filled = all_elim (λ k. ltb k t.len || eqb (get_or t.bytes k 0) 0) 64 q.1 }

module _ (r : Record) (b : ℕ) (h : field_right r b ≡ true) where
  field_on : bit r.map b ≡ true → (in_range (range b) (get_or (numbers_of r) b 0) ≡ true) × (get_or (numbers_of r) b 0 < bound (min (size b) 8))
  unfolding if◌then◌otherwise◌
  field_on e =
      let p = and_parts (in_range (range b) (get_or (numbers_of r) b 0)) _ (rw e at h) in
      (p.0, ltb-true _ _ p.1)

  field_off : bit r.map b ≡ false → get_or (numbers_of r) b 0 ≡ 0
  unfolding if◌then◌otherwise◌
  field_off e = eqb-true _ _ (rw e at h)

pub right : (r : Record) → is_record r ≡ true → Right r
unfolding is_record texts_right price_right if◌then◌otherwise◌
right r e =
    let a = and_parts (bits_right r.kind r.map) _ e in
    let b = and_parts (ltb r.map (bound 4)) _ a.1 in
    let c = and_parts (all_below (field_right r) 32) _ b.1 in
    let d = and_parts (name_in r.map r.ids.name) _ c.1 in
    let f = and_parts (texts_right r) (price_right r) d.1 in
    let t1 = and_parts (is_short r.ids.name) _ f.0 in
    let t2 = and_parts (is_short r.ids.clordid) _ t1.1 in
    let t3 = and_parts (is_short r.ids.origclordid) _ t2.1 in
    let t4 = and_parts (is_short r.ids.downstream) _ t3.1 in
    let t5 = and_parts (is_short r.ids.symbol) _ t4.1 in
    let t6 = and_parts (is_short r.ids.venueorderid) _ t5.1 in
    let t7 = and_parts (is_short r.ids.origdownstream) _ t6.1 in
    let p = and_parts (eqb (length r.told.fillprice) 2) _ f.1 in
    let each : (k : ℕ) → k < 32 → field_right r k ≡ true = all_elim (field_right r) 32 c.0 in
    record {
      bits = a.0;
      map = ltb-true _ _ b.0;
      range = λ k l q. (field_on r k (each k l) q).0;
      fits = λ k l q. (field_on r k (each k l) q).1;
      absent = λ k l q. field_off r k (each k l) q;
      named = d.0;
      name = right_text _ t1.0;
      clordid = right_text _ t2.0;
      origclordid = right_text _ t3.0;
      downstream = right_text _ t4.0;
      symbol = right_text _ t5.0;
      venueorderid = right_text _ t6.0;
      origdownstream = right_text _ t7.0;
      text = right_long _ t7.1;
      two = eqb-true _ _ p.0;
      high = λ q. ltb-true _ _ (rw q at p.1);
      nothigh = λ q. eqb-true _ _ (rw q at p.1);
    }

-- ---- texts back

module _ (t : Text) (h : RightText t) where
  pub short_is : short_bytes t ≡ contents t
  unfolding short_bytes contents
  short_is = take_all 32 (take t.len t.bytes) (simp length-take (omega (arith, h.short)))

  pub short_length : length (short_bytes t) ≡ t.len
  unfolding contents
  short_length = ap length short_is ∙ length-take-le t.len t.bytes (omega (arith, h.short, h.long))

  pub short_back : text_of (short_bytes t) ≡ t
  short_back = ap text_of short_is ∙ text_contents t h.long h.stored

  pub short_none : t.len ≡ 0 → text_of [] ≡ t
  unfolding contents
  short_none z = ap text_of (sym (ap (λ (n : ℕ). take n t.bytes) z)) ∙ text_contents t h.long h.stored

-- the bytes of a text, filled up with zeros, are its array
refilled : (n len : ℕ) (l : List ℕ) → length l ≡ n → len ≤ n → ((k : ℕ) → k < n → (ltb k len || eqb (get_or l k 0) 0) ≡ true)
    → take n (take len l ++ replicate n 0) ≡ l
refilled n len l long short f =
    ext_get_or 0 (take n (take len l ++ replicate n 0)) l
    (simp (length-take, length-append, length-take, length-replicate) (omega arith))
    (λ k j. let u : k < n = omega (arith, simp (length-take, length-append, length-take, length-replicate) at j) in at k u (dec_lt k len))
  where
    q : length (take len l) ≡ len
    q = length-take-le len l (omega arith)

    at : (k : ℕ) → k < n → Dec (k < len) → get_or (take n (take len l ++ replicate n 0)) k 0 ≡ get_or l k 0
    at k u (yes p) =
        get_or-take n (take len l ++ replicate n 0) k 0 u
        ∙ get_or-append (take len l) (replicate n 0) 0 k (omega (arith, q))
        ∙ get_or-take len l k 0 p
    at k u (no p) =
        let d : ℕ = k - len in
        let e : k ≡ length (take len l) + d = omega (arith, q) in
        let z : get_or l k 0 ≡ 0 =
        ⊎_elim (λ w. absurd (p (ltb-true k len w))) (λ w. eqb-true (get_or l k 0) 0 w) (or_cases (ltb k len) (eqb (get_or l k 0) 0) (f k u)) in
        get_or-take n (take len l ++ replicate n 0) k 0 u
        ∙ ap (λ (i : ℕ). get_or (take len l ++ replicate n 0) i 0) e
        ∙ get_or-append-add (take len l) (replicate n 0) d 0
        ∙ get_or-replicate n d 0 0 (omega arith)
        ∙ sym z

module _ (t : LongText) (h : RightLong t) where
  pub long_is : long_bytes t ≡ take t.len t.bytes
  unfolding long_bytes
  long_is = take_all 64 (take t.len t.bytes) (simp length-take (omega (arith, h.short)))

  pub long_length : length (long_bytes t) ≡ t.len
  long_length = ap length long_is ∙ length-take-le t.len t.bytes (omega (arith, h.short, h.long))

  pub long_back : long_of (long_bytes t) ≡ t
  unfolding long_of
  long_back =
      let p : take 64 (long_bytes t ++ replicate 64 0) ≡ t.bytes =
      ap (λ (w : List ℕ). take 64 (w ++ replicate 64 0)) long_is ∙ refilled 64 t.len t.bytes h.long h.short h.filled in
      λ i. record { bytes = p i; len = long_length i }

  pub long_none : t.len ≡ 0 → long_of [] ≡ t
  long_none z = ap long_of (sym (long_is ∙ ap (λ (n : ℕ). take n t.bytes) z)) ∙ long_back

-- ---- numbers back

-- the low word of a number's bytes, and the high word
pub words_low : (n v high : ℕ) → v < bound (min n 8) → number (take 8 (words n v high)) ≡ v
unfolding words
words_low n v high h = go (dec_le n 8)
  where
    go : Dec (n ≤ 8) → number (take 8 (bytes_of (min n 8) v ++ bytes_of (n - 8) high)) ≡ v
    go (yes p) =
        let z : n - 8 ≡ 0 = omega arith in
        let l : length (bytes_of (min n 8) v) ≡ min n 8 = length_bytes (min n 8) v in
        rw (z, append-nil (bytes_of (min n 8) v), take_all 8 (bytes_of (min n 8) v) (omega arith)) (number_bytes (min n 8) v h)
    go (no p) =
        let e : min n 8 ≡ 8 = omega arith in
        rw e (ap number (take_at (bytes_of 8 v) (bytes_of (n - 8) high) 8 (length_bytes 8 v)) ∙ number_bytes 8 v (rw e at h))

pub words_high : (v high : ℕ) → high < bound 8 → number (drop 8 (words 16 v high)) ≡ high
unfolding words
words_high v high h = ap number (drop_at (bytes_of 8 v) (bytes_of 8 high) 8 (length_bytes 8 v)) ∙ number_bytes 8 high h

pub length_words : (n v high : ℕ) → length (words n v high) ≡ n
unfolding words
length_words n v high =
    length-append (bytes_of (min n 8) v) (bytes_of (n - 8) high)
    ∙ omega (arith, length_bytes (min n 8) v, length_bytes (n - 8) high)

pub pair : (l : List ℕ) → length l ≡ 2 → get_or l 0 0 ∷ get_or l 1 0 ∷ [] ≡ l
pair [] e = absurd (omega arith)
pair (x ∷ []) e = absurd (omega arith)
pair (x ∷ y ∷ []) e = refl
pair (x ∷ y ∷ z ∷ l) e = absurd (omega arith)
