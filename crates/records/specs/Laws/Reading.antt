-- Laws by which what code reads is what the definitions say. Rests on Record and format's laws.
use Rattle.std.specs.Prelude.{ℕ, suc, ◌+◌, ◌-◌, ◌≤◌, ◌<◌, min, List, [], ◌∷◌, Bool, eqb, leb, take, drop, ◌≡◌, refl, true, false, length, get_or}
use Rattle.std.proofs.Common.{sym, ap, ◌∙◌, arith, lit<, length-take, leb-true, le-leb, eq-eqb, ne_eqb, length-drop}
use Rattle.std.proofs.lemmas.Bool.{lt-leb, and_parts}
use Rattle.records.specs.Laws.Seen.{Shapes, Scanned, Numbered, Short, Narrow, built_from}
use Rattle.prelude.specs.Cases.{if◌then◌otherwise◌}
use Rattle.prelude.specs.Laws.Cases.{if_false}
use Rattle.prelude.specs.Below.{all_below}
use Rattle.prelude.specs.Laws.Below.{all_elim, all_ext}
use Rattle.prelude.specs.Number.{number, bound, Bytes}
use Rattle.prelude.specs.Laws.Number.{number_bound, bound_le}
use Rattle.prelude.specs.Texts.{text_of}
use Rattle.prelude.specs.Laws.Bytes.{bytes_span, bytes_take}
use Rattle.bits.specs.Map.{bit}
use Rattle.format.specs.Codes.{within}
use Rattle.format.specs.Format.{size, range, fields, is_text_bit, in_range, bits_right}
use Rattle.format.specs.Places.{extent, start, strip, part, content, value, kind_at, map_at, end_of, shaped, right_at}
use Rattle.format.specs.Laws.Seen.{Rising, between, held_at, right_in, rising, between_part, held_value, right_right}
use Rattle.format.specs.Laws.Places.{start_up, start_on, start_off, length_part, content_off, length_number, value_none}
use Rattle.records.specs.Fields.{long_of, record_of, blank}
use Rattle.records.specs.declared.Record.{Record}
use Rattle.records.specs.Record.{record_at, event_in}
use Rattle.format.specs.Refusal.{ranged, record_refusal, event_refusal}

pub within_most : (a b v : ℕ) → within a b v ≡ true → v ≤ b
within_most a b v e = leb-true v b (and_parts (leb a v) (leb v b) e).1

module _ (s : List ℕ) (o m : ℕ) (inside : start s o m 32 ≤ length s) where
  pub in_field : (b : ℕ) → b < 32 → start s o m (suc b) ≤ length s
  in_field b h = let u = start_up s o m (suc b) 32 h in omega arith

  -- a text in range has room
  pub text_short : (b most : ℕ) → b < 32 → is_text_bit b ≡ true → ((v : ℕ) → in_range (range b) v ≡ true → v ≤ most)
      → right_at s o m b ≡ true → start s o m (suc b) - start s o m b ≤ most + 1
  unfolding right_at content value strip part if◌then◌otherwise◌
  text_short b most h t r e = go (bit m b) refl
    where
      go : (x : Bool) → bit m b ≡ x → start s o m (suc b) - start s o m b ≤ most + 1
      go true q =
          let i : in_range (range b) (length (drop 1 (part s o m b))) ≡ true = rw (q, t) at e in
          let l : length (drop 1 (part s o m b)) ≤ most = r (length (drop 1 (part s o m b))) i in
          let j : length (drop 1 (part s o m b)) ≡ length (part s o m b) - 1 = length-drop 1 (part s o m b) in
          omega (arith, length_part s o m b (in_field b h))
      go false q = omega (arith, start_off s o m b q)

  -- a number takes its size
  pub number_short : (b : ℕ) → is_text_bit b ≡ false → start s o m (suc b) - start s o m b ≤ size b
  unfolding extent
  number_short b t = go (bit m b) refl
    where
      go : (x : Bool) → bit m b ≡ x → start s o m (suc b) - start s o m b ≤ size b
      go true q = omega (arith, start_on s o m b q, if_false (is_text_bit b) (1 + get_or s (start s o m b) 0) (size b) t)
      go false q = omega (arith, start_off s o m b q)

  pub bytes_content : (b : ℕ) → is_text_bit b ≡ false → Bytes s → Bytes (content s o m b)
  unfolding content strip part
  bytes_content b t w =
      rw (if_false (is_text_bit b) (drop 1 (part s o m b)) (part s o m b) t)
      (bytes_span s (start s o m b) (start s o m (suc b) - start s o m b) w)

  -- and is below what its bytes can say
  pub number_narrow : (b : ℕ) → b < 32 → is_text_bit b ≡ false → Bytes s → value b (content s o m b) < bound (min (size b) 8)
  unfolding value
  number_narrow b h t w = go (bit m b) refl
    where
      z : 0 < bound (min (size b) 8)
      z = omega (arith, bound_le 0 (min (size b) 8) (omega arith))

      go : (x : Bool) → bit m b ≡ x → value b (content s o m b) < bound (min (size b) 8)
      go true q =
          let c : List ℕ = content s o m b in
          let l : length c ≡ size b = length_number s o m b (in_field b h) q t in
          let k : length (take 8 c) ≡ min (size b) 8 = length-take 8 c ∙ omega arith in
          rw (if_false (is_text_bit b) (length c) (number (take 8 c)) t)
          (rw k at (number_bound (take 8 c) (bytes_take c 8 (bytes_content b t w))))
      go false q = rw (content_off s o m b q, value_none b) z

-- ---- places in an array

module _ (s : List ℕ) (o m : ℕ) (at : List ℕ) (places : (k : ℕ) → k ≤ 32 → get_or at k 0 ≡ start s o m k) (inside : start s o m 32 ≤ length s) where
  gap : (b : ℕ) → b < 32 → get_or at (b + 1) 0 - get_or at b 0 ≡ start s o m (suc b) - start s o m b
  gap b h = let e : b + 1 ≡ suc b = omega arith in rw (places (b + 1) (omega arith), places b (omega arith), e) refl

  pub short_of : all_below (right_at s o m) 32 ≡ true → Short at
  unfolding size range fields in_range if◌then◌otherwise◌
  short_of a = record {
    name = t 2 32 (lit< tt) refl (λ v e. omega (arith, within_most 1 20 v e));
    clordid = t 3 32 (lit< tt) refl (λ v e. within_most 1 32 v e);
    origclordid = t 4 32 (lit< tt) refl (λ v e. within_most 1 32 v e);
    downstream = t 5 32 (lit< tt) refl (λ v e. within_most 1 32 v e);
    symbol = t 6 32 (lit< tt) refl (λ v e. omega (arith, within_most 1 16 v e));
    venueorderid = t 18 32 (lit< tt) refl (λ v e. leb-true v 32 e);
    text = t 20 64 (lit< tt) refl (λ v e. within_most 1 64 v e);
    fillprice = rw (gap 26 (lit< tt)) (number_short s o m inside 26 refl);
    origdownstream = t 30 32 (lit< tt) refl (λ v e. within_most 1 32 v e);
  }
    where
      t : (b most : ℕ) → b < 32 → is_text_bit b ≡ true → ((v : ℕ) → in_range (range b) v ≡ true → v ≤ most) → get_or at (b + 1) 0 - get_or at b 0 ≤ most + 1
      t b most h q r = rw (gap b h) (text_short s o m inside b most h q r (all_elim (right_at s o m) 32 a b h))

  module _ (n : List ℕ) (e : (b : ℕ) → b < 32 → get_or n b 0 ≡ value b (content s o m b)) where
    pub narrow_of : Bytes s → Narrow n
    unfolding size fields
    narrow_of w = record {
      client = g 0 (lit< tt) refl;
      venue = g 1 (lit< tt) refl;
      side = g 7 (lit< tt) refl;
      ordtype = g 8 (lit< tt) refl;
      timeinforce = g 11 (lit< tt) refl;
      exectype = g 12 (lit< tt) refl;
      status = g 13 (lit< tt) refl;
      reason = g 19 (lit< tt) refl;
      verdict = g 23 (lit< tt) refl;
      fixedtext = g 27 (lit< tt) refl;
      origin = g 28 (lit< tt) refl;
      responseto = g 29 (lit< tt) refl;
      source = g 31 (lit< tt) refl;
    }
      where
        g : (b : ℕ) → b < 32 → is_text_bit b ≡ false → get_or n b 0 < bound (min (size b) 8)
        g b h t = rw (e b h) (number_narrow s o m inside b h t w)

    pub built_record : (k : ℕ) → built_from s k m at n ≡ record_of k m (content s o m)
    unfolding content strip size fields if◌then◌otherwise◌ long_of
    built_record k =
        let p = between_part s o m at places inside in
        λ i. record {
          kind = k;
          map = m;
          client = e 0 (lit< tt) i;
          venue = e 1 (lit< tt) i;
          reason = e 19 (lit< tt) i;
          verdict = e 23 (lit< tt) i;
          ids = record {
            name = text_of (drop 1 (p 2 (lit< tt) i));
            clordid = text_of (drop 1 (p 3 (lit< tt) i));
            origclordid = text_of (drop 1 (p 4 (lit< tt) i));
            downstream = text_of (drop 1 (p 5 (lit< tt) i));
            symbol = text_of (drop 1 (p 6 (lit< tt) i));
            venueorderid = text_of (drop 1 (p 18 (lit< tt) i));
            origdownstream = text_of (drop 1 (p 30 (lit< tt) i));
          };
          terms = record {
            side = e 7 (lit< tt) i;
            ordtype = e 8 (lit< tt) i;
            timeinforce = e 11 (lit< tt) i;
            qty = e 9 (lit< tt) i;
            price = e 10 (lit< tt) i;
          };
          exec = record {
            exectype = e 12 (lit< tt) i;
            status = e 13 (lit< tt) i;
            lastqty = e 14 (lit< tt) i;
            lastpx = e 15 (lit< tt) i;
            cumqty = e 16 (lit< tt) i;
            avgpx = e 17 (lit< tt) i;
          };
          told = record {
            leavesqty = e 24 (lit< tt) i;
            execseq = e 25 (lit< tt) i;
            fillprice = e 26 (lit< tt) i ∷ number (drop 8 (p 26 (lit< tt) i)) ∷ [];
            fixedtext = e 27 (lit< tt) i;
            origin = e 28 (lit< tt) i;
            responseto = e 29 (lit< tt) i;
            source = e 31 (lit< tt) i;
          };
          text = long_of (drop 1 (p 20 (lit< tt) i));
        }

  -- what a scan finds: the record's ranges and numbers
  pub scan_right : all_below (right_in s m at) 32 ≡ all_below (right_at s o m) 32
  scan_right = all_ext (right_in s m at) (right_at s o m) 32 (λ b l. right_right s o m at places inside b l)

  pub scan_numbers : (n : List ℕ) → ((b : ℕ) → b < 32 → get_or n b 0 ≡ held_at s m at b) → (b : ℕ) → b < 32 → get_or n b 0 ≡ value b (content s o m b)
  scan_numbers n h b l = h b l ∙ held_value s o m at places inside b l

-- ---- what a record that has shape has

pub record Whole (s : List ℕ) (o : ℕ) : Type 0 where
  pub long : o + 5 ≤ length s
  pub right : bits_right (kind_at s o) (map_at s o) ≡ true
  pub inside : start s o (map_at s o) 32 ≤ length s

pub whole_of : (s : List ℕ) (o : ℕ) → shaped s o ≡ true → Whole s o
unfolding shaped end_of
whole_of s o e =
    let p = and_parts (leb (o + 5) (length s)) _ e in
    let q = and_parts (bits_right (kind_at s o) (map_at s o)) _ p.1 in
    record { long = leb-true _ _ p.0; right = q.0; inside = leb-true _ _ q.1 }

-- ---- the record at o by its refusal: where it ends, and what it is

abbrev pub end_read : List ℕ → ℕ → ℕ
end_read s o = if shaped s o then end_of s o otherwise 0

abbrev pub record_read : List ℕ → ℕ → Record
record_read s o = if eqb (record_refusal s o) 0 then record_at s o otherwise blank

module _ (s : List ℕ) (o : ℕ) where
  pub reads_3 : shaped s o ≡ false → (record_refusal s o ≡ 3) × (end_read s o ≡ 0) × (record_read s o ≡ blank)
  unfolding record_refusal if◌then◌otherwise◌
  reads_3 h = rw h (refl, refl, refl)

  pub reads_4 : shaped s o ≡ true → ranged s o ≡ false → (record_refusal s o ≡ 4) × (end_read s o ≡ end_of s o) × (record_read s o ≡ blank)
  unfolding record_refusal if◌then◌otherwise◌
  reads_4 h g = rw (h, g) (refl, refl, refl)

  pub reads_0 : shaped s o ≡ true → ranged s o ≡ true → (record_refusal s o ≡ 0) × (end_read s o ≡ end_of s o) × (record_read s o ≡ record_at s o)
  unfolding record_refusal if◌then◌otherwise◌
  reads_0 h g = rw (h, g) (refl, refl, refl)

  -- it has shape or not, and its end
  pub read_shape : (record_refusal s o ≡ 3 → ⊥) → shaped s o ≡ true
  unfolding record_refusal if◌then◌otherwise◌
  read_shape n = go (shaped s o) refl
    where
      go : (x : Bool) → shaped s o ≡ x → shaped s o ≡ true
      go true e = e
      go false e = absurd (n (rw e refl))

  pub read_end : shaped s o ≡ true → end_read s o ≡ end_of s o
  unfolding if◌then◌otherwise◌
  read_end e = rw e refl

  pub read_none : record_refusal s o ≡ 3 → shaped s o ≡ false
  unfolding record_refusal if◌then◌otherwise◌
  read_none n = go (shaped s o) refl (ranged s o) refl
    where
      go : (x : Bool) → shaped s o ≡ x → (y : Bool) → ranged s o ≡ y → shaped s o ≡ false
      go true e true f = let z : ◌≡◌ {A = ℕ} 3 0 = sym n ∙ (rw (e, f) refl) in absurd (omega arith)
      go true e false f = let z : ◌≡◌ {A = ℕ} 3 4 = sym n ∙ (rw (e, f) refl) in absurd (omega arith)
      go false e y f = e

-- ---- the shape of a record as code holds it

module _ {s : List ℕ} {o m : ℕ} {at : List ℕ} (h : Shapes s o m at) where
  pub whole_shape : Whole s o
  whole_shape = whole_of s o h.is

  pub rising_shape : Rising s at
  rising_shape = rising s o (map_at s o) at h.places whole_shape.inside

  -- what stands between two places is the field
  part_shape : (b : ℕ) → b < 32 → between s at b ≡ part s o (map_at s o) b
  part_shape = between_part s o (map_at s o) at h.places whole_shape.inside

  pub name_shape : drop 1 (between s at 2) ≡ content s o (map_at s o) 2
  unfolding content strip size fields if◌then◌otherwise◌
  name_shape = ap (drop 1) (part_shape 2 (lit< tt))

  pub high_shape : between s at 26 ≡ content s o (map_at s o) 26
  unfolding content strip size fields if◌then◌otherwise◌
  high_shape = part_shape 26 (lit< tt)

  -- the ranges and the numbers that a scan finds are the record's
  pub ranges_shape : all_below (right_in s m at) 32 ≡ all_below (right_at s o (map_at s o)) 32
  ranges_shape =
      ap (λ (k : ℕ). all_below (right_in s k at) 32) h.map ∙ scan_right s o (map_at s o) at h.places whole_shape.inside

  pub numbers_shape : (n : List ℕ) → Scanned s m at n → (b : ℕ) → b < 32 → get_or n b 0 ≡ value b (content s o (map_at s o) b)
  numbers_shape n g =
      scan_numbers s o (map_at s o) at h.places whole_shape.inside n (λ b l. g.numbers b l ∙ ap (λ (k : ℕ). held_at s k at b) h.map)

  pub short_shape : all_below (right_at s o (map_at s o)) 32 ≡ true → Short at
  short_shape = short_of s o (map_at s o) at h.places whole_shape.inside

  module _ (n : List ℕ) (g : Numbered s o n) where
    pub short_numbered : Short at
    unfolding ranged
    short_numbered = short_shape (and_parts (all_below (right_at s o (map_at s o)) 32) _ g.right).0

    pub narrow_numbered : Bytes s → Narrow n
    narrow_numbered = narrow_of s o (map_at s o) at h.places whole_shape.inside n g.numbers

    pub built_numbered : built_from s (kind_at s o) m at n ≡ record_at s o
    unfolding record_at
    built_numbered =
        ap (λ (k : ℕ). built_from s (kind_at s o) k at n) h.map
        ∙ built_record s o (map_at s o) at h.places whole_shape.inside n g.numbers (kind_at s o)

-- ---- events

module _ (s : List ℕ) where
  pub event_shape : shaped s 0 ≡ false → (event_refusal s ≡ 3) × (event_in s ≡ blank)
  unfolding event_refusal event_in if◌then◌otherwise◌
  event_shape e = rw e (refl, refl)

  pub event_kind : shaped s 0 ≡ true → 9 < kind_at s 0 → (event_refusal s ≡ 3) × (event_in s ≡ blank)
  unfolding event_refusal event_in if◌then◌otherwise◌
  event_kind e h = rw (e, lt-leb (kind_at s 0) 9 h) (refl, refl)

  module _ (e : shaped s 0 ≡ true) (k : kind_at s 0 ≤ 9) where
    pub event_over : (end_of s 0 ≡ length s → ⊥) → (event_refusal s ≡ 3) × (event_in s ≡ blank)
    unfolding event_refusal event_in if◌then◌otherwise◌
    event_over n = rw (e, le-leb (kind_at s 0) 9 k, ne_eqb (end_of s 0) (length s) n) (refl, refl)

    module _ (n : end_of s 0 ≡ length s) where
      -- an event is read as a record is
      pub event_taken : (record_refusal s 0 ≡ event_refusal s) × (record_read s 0 ≡ event_in s)
      unfolding event_refusal event_in record_refusal if◌then◌otherwise◌
      event_taken = rw (e, le-leb (kind_at s 0) 9 k, eq-eqb (end_of s 0) (length s) n) (refl, refl)

      pub event_range : ranged s 0 ≡ false → (event_refusal s ≡ 4) × (event_in s ≡ blank)
      unfolding event_refusal event_in if◌then◌otherwise◌
      event_range r = rw (e, le-leb (kind_at s 0) 9 k, eq-eqb (end_of s 0) (length s) n, r) (refl, refl)

      pub event_read : ranged s 0 ≡ true → (event_refusal s ≡ 0) × (record_at s 0 ≡ event_in s)
      unfolding event_refusal event_in if◌then◌otherwise◌
      event_read r = rw (e, le-leb (kind_at s 0) 9 k, eq-eqb (end_of s 0) (length s) n, r) (refl, refl)
