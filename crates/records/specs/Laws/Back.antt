-- The round trip: a record that is right, written anywhere in a buffer, is read as that same record. Rests on Right and format's round trip.
use Rattle.std.specs.Prelude.{ℕ, ◌+◌, ◌/◌, ◌%◌, ◌≤◌, ◌<◌, ◌≡◌, Bool, not, ◌||◌, eqb, get_or, drop, refl, List, [], ◌∷◌, ◌++◌, true, false, length}
use Rattle.std.proofs.Common.{sym, ap, ◌∙◌, ⊎_elim, add_assoc, arith, lit<, get_or-append-add, append_assoc, eqb-true, le-leb, length-append}
use Rattle.std.proofs.Math.Seq.{get_or-append_seam}
use Rattle.std.proofs.lemmas.Bool.{not-true, and_from, or_cases}
use Rattle.prelude.specs.Cases.{if◌then◌otherwise◌}
use Rattle.prelude.specs.Laws.Cases.{if_true, if_false, clash}
use Rattle.prelude.specs.Below.{all_below}
use Rattle.prelude.specs.Laws.Below.{all_elim, all_intro}
use Rattle.prelude.specs.Number.{number, bytes_of, bound}
use Rattle.prelude.specs.Laws.Number.{length_bytes}
use Rattle.prelude.specs.Texts.{text_of}
use Rattle.prelude.specs.declared.Text.{Text}
use Rattle.bits.specs.Map.{bit}
use Rattle.format.specs.Format.{size, range, fields, is_text_bit, in_range}
use Rattle.format.specs.Places.{start, content, value, kind_at, map_at, end_of, shaped, right_at}
use Rattle.format.specs.Laws.Places.{content_off, value_none}
use Rattle.format.specs.Wire.{body, bytes}
use Rattle.format.specs.Laws.Trip.{Fits, start_at, content_back}
use Rattle.records.specs.declared.Record.{Record}
use Rattle.records.specs.Fields.{numbers_of, high_of, text_by, short_bytes, long_of, spelled, held_by, held, record_of}
use Rattle.records.specs.Record.{record_bytes, record_at}
use Rattle.format.specs.Refusal.{name_in, ranged}
use Rattle.records.specs.Laws.Writing.{length_record}
use Rattle.records.specs.Laws.Right.{RightText, Right, short_length, short_back, short_none, long_length, long_back, long_none, words_low, words_high, length_words, pair}

-- ---- the bits of texts

-- what holds of the eight holds of every text's bit
pub text_bits : (P : ℕ → Type 0) → P 2 → P 3 → P 4 → P 5 → P 6 → P 18 → P 20 → P 30 → (b : ℕ) → b < 32 → is_text_bit b ≡ true → P b
unfolding size fields all_below
text_bits P p2 p3 p4 p5 p6 p18 p20 p30 b h t =
    let all : (eqb b 2 || (eqb b 3 || (eqb b 4 || (eqb b 5 || (eqb b 6 || (eqb b 18 || (eqb b 20 || (eqb b 30 || not (is_text_bit b))))))))) ≡ true =
    all_elim (λ k. eqb k 2 || (eqb k 3 || (eqb k 4 || (eqb k 5 || (eqb k 6 || (eqb k 18 || (eqb k 20 || (eqb k 30 || not (is_text_bit k))))))))) 32 refl b h in
    step 2 p2 (λ e2.
    step 3 p3 (λ e3.
    step 4 p4 (λ e4.
    step 5 p5 (λ e5.
    step 6 p6 (λ e6.
    step 18 p18 (λ e18.
    step 20 p20 (λ e20.
    step 30 p30 (λ e30. clash (is_text_bit b) t (not-true _ e30)) e20) e18) e6) e5) e4) e3) e2) all
  where
    step : {x : Bool} (n : ℕ) → P n → (x ≡ true → P b) → (eqb b n || x) ≡ true → P b
    step {x} n p k e = ⊎_elim (λ q. rw (eqb-true b n q) p) k (or_cases (eqb b n) x e)

-- a text's length is its number
spelled_length : (r : Record) → Right r → (b : ℕ) → b < 32 → is_text_bit b ≡ true → length (spelled r.ids r.text b) ≡ get_or (numbers_of r) b 0
unfolding spelled text_by if◌then◌otherwise◌
spelled_length r h =
    text_bits (λ b. length (spelled r.ids r.text b) ≡ get_or (numbers_of r) b 0)
    (short_length r.ids.name h.name)
    (short_length r.ids.clordid h.clordid)
    (short_length r.ids.origclordid h.origclordid)
    (short_length r.ids.downstream h.downstream)
    (short_length r.ids.symbol h.symbol)
    (short_length r.ids.venueorderid h.venueorderid)
    (long_length r.text h.text)
    (short_length r.ids.origdownstream h.origdownstream)

-- ---- the map's four bytes

map_back : (pre post : List ℕ) (kind m : ℕ) → m < bound 4 → map_at (pre ++ (kind ∷ (bytes_of 4 m ++ post))) (length pre) ≡ m
map_back pre post kind m h =
    let l = kind ∷ (bytes_of 4 m ++ post) in
    let g1 : get_or (pre ++ l) (length pre + 1) 0 ≡ m % 256 = get_or-append-add pre l 1 0 in
    let g2 : get_or (pre ++ l) (length pre + 1 + 1) 0 ≡ m / 256 % 256 = rw add_assoc (get_or-append-add pre l 2 0) in
    let g3 : get_or (pre ++ l) (length pre + 1 + 2) 0 ≡ m / 256 / 256 % 256 = rw add_assoc (get_or-append-add pre l 3 0) in
    let g4 : get_or (pre ++ l) (length pre + 1 + 3) 0 ≡ m / 256 / 256 / 256 % 256 = rw add_assoc (get_or-append-add pre l 4 0) in
    rw (g1, g2, g3, g4) (omega arith)

-- ---- a record in a buffer

module _ (r : Record) (h : Right r) (pre post : List ℕ) where
  abbrev here : ℕ
  here = length pre

  abbrev whole : List ℕ
  whole = pre ++ (record_bytes r ++ post)

  abbrev front : List ℕ
  front = pre ++ (r.kind ∷ bytes_of 4 r.map)

  regroup : whole ≡ front ++ (body r.map (held r) 32 ++ post)
  unfolding record_bytes bytes
  regroup = simp append_assoc

  front_length : length front ≡ here + 5
  front_length = length-append pre (r.kind ∷ bytes_of 4 r.map) ∙ omega (arith, length_bytes 4 r.map)

  pub kind_here : kind_at whole here ≡ r.kind
  unfolding record_bytes bytes
  kind_here = get_or-append_seam pre r.kind ((bytes_of 4 r.map ++ body r.map (held r) 32) ++ post) 0

  pub map_here : map_at whole here ≡ r.map
  unfolding record_bytes bytes
  map_here = rw append_assoc (map_back pre (body r.map (held r) 32 ++ post) r.kind r.map h.map)

  sized : (b : ℕ) → bit r.map b ≡ true → Fits b (held r b)
  unfolding held_by
  sized b e t = ap length (if_false (is_text_bit b) _ _ t) ∙ length_words (size b) (get_or (numbers_of r) b 0) (high_of r)

  -- what is read of each field
  on : (b : ℕ) → b < 32 → bit r.map b ≡ true → content whole here r.map b ≡ held r b
  on b l e = rw regroup (content_back here r.map (held r) front front_length sized b 32 l post e)

  off : (b : ℕ) → bit r.map b ≡ false → content whole here r.map b ≡ []
  off b e = content_off whole here r.map b e

  held_value : (b : ℕ) → b < 32 → bit r.map b ≡ true → (x : Bool) → is_text_bit b ≡ x → value b (held r b) ≡ get_or (numbers_of r) b 0
  unfolding value held_by if◌then◌otherwise◌
  held_value b l e true t = rw t (spelled_length r h b l t)
  held_value b l e false t = rw t (words_low (size b) (get_or (numbers_of r) b 0) (high_of r) (h.fits b l e))

  pub value_here : (b : ℕ) → b < 32 → value b (content whole here r.map b) ≡ get_or (numbers_of r) b 0
  value_here b l = go (bit r.map b) refl
    where
      go : (x : Bool) → bit r.map b ≡ x → value b (content whole here r.map b) ≡ get_or (numbers_of r) b 0
      go true e = ap (value b) (on b l e) ∙ held_value b l e (is_text_bit b) refl
      go false e = ap (value b) (off b e) ∙ value_none b ∙ sym (h.absent b l e)

  text_here : (b : ℕ) (t : Text) → b < 32 → held r b ≡ short_bytes t → get_or (numbers_of r) b 0 ≡ t.len → RightText t → text_of (content whole here r.map b) ≡ t
  text_here b t l e n w = go (bit r.map b) refl
    where
      go : (x : Bool) → bit r.map b ≡ x → text_of (content whole here r.map b) ≡ t
      go true q = ap text_of (on b l q ∙ e) ∙ short_back t w
      go false q = ap text_of (off b q) ∙ short_none t w (sym n ∙ h.absent b l q)

  long_here : long_of (content whole here r.map 20) ≡ r.text
  unfolding held_by spelled size fields if◌then◌otherwise◌
  long_here = go (bit r.map 20) refl
    where
      go : (x : Bool) → bit r.map 20 ≡ x → long_of (content whole here r.map 20) ≡ r.text
      go true q = ap long_of (on 20 (lit< tt) q) ∙ long_back r.text h.text
      go false q = ap long_of (off 20 q) ∙ long_none r.text h.text (h.absent 20 (lit< tt) q)

  high_here : number (drop 8 (content whole here r.map 26)) ≡ high_of r
  unfolding held_by size fields if◌then◌otherwise◌
  high_here = go (bit r.map 26) refl
    where
      go : (x : Bool) → bit r.map 26 ≡ x → number (drop 8 (content whole here r.map 26)) ≡ high_of r
      go true q = ap (λ (l : List ℕ). number (drop 8 l)) (on 26 (lit< tt) q) ∙ words_high (get_or (numbers_of r) 26 0) (high_of r) (h.high q)
      go false q = ap (λ (l : List ℕ). number (drop 8 l)) (off 26 q) ∙ sym (h.nothigh q)

  price_here : value 26 (content whole here r.map 26) ∷ number (drop 8 (content whole here r.map 26)) ∷ [] ≡ r.told.fillprice
  price_here = rw (value_here 26 (lit< tt), high_here) (pair r.told.fillprice h.two)

  -- all fields
  fields_here : record_of r.kind r.map (content whole here r.map) ≡ r
  unfolding held_by spelled text_by size fields if◌then◌otherwise◌
  fields_here =
      let v = value_here in
      λ i. record {
        kind = r.kind;
        map = r.map;
        client = v 0 (lit< tt) i;
        venue = v 1 (lit< tt) i;
        reason = v 19 (lit< tt) i;
        verdict = v 23 (lit< tt) i;
        ids = record {
          name = text_here 2 r.ids.name (lit< tt) refl refl h.name i;
          clordid = text_here 3 r.ids.clordid (lit< tt) refl refl h.clordid i;
          origclordid = text_here 4 r.ids.origclordid (lit< tt) refl refl h.origclordid i;
          downstream = text_here 5 r.ids.downstream (lit< tt) refl refl h.downstream i;
          symbol = text_here 6 r.ids.symbol (lit< tt) refl refl h.symbol i;
          venueorderid = text_here 18 r.ids.venueorderid (lit< tt) refl refl h.venueorderid i;
          origdownstream = text_here 30 r.ids.origdownstream (lit< tt) refl refl h.origdownstream i;
        };
        terms = record { side = v 7 (lit< tt) i; ordtype = v 8 (lit< tt) i; timeinforce = v 11 (lit< tt) i; qty = v 9 (lit< tt) i; price = v 10 (lit< tt) i };
        exec = record {
          exectype = v 12 (lit< tt) i;
          status = v 13 (lit< tt) i;
          lastqty = v 14 (lit< tt) i;
          lastpx = v 15 (lit< tt) i;
          cumqty = v 16 (lit< tt) i;
          avgpx = v 17 (lit< tt) i;
        };
        told = record {
          leavesqty = v 24 (lit< tt) i;
          execseq = v 25 (lit< tt) i;
          fillprice = price_here i;
          fixedtext = v 27 (lit< tt) i;
          origin = v 28 (lit< tt) i;
          responseto = v 29 (lit< tt) i;
          source = v 31 (lit< tt) i;
        };
        text = long_here i;
      }

  -- the same record is read
  pub record_here : record_at whole here ≡ r
  unfolding record_at
  record_here = rw (map_here, kind_here) fields_here

  -- it ends where its bytes end
  pub end_here : end_of whole here ≡ here + length (record_bytes r)
  unfolding end_of record_bytes bytes
  end_here =
      rw map_here
      (ap (λ (s : List ℕ). start s here r.map 32) regroup
      ∙ start_at here r.map (held r) front front_length sized 32 post
      ∙ length-append front (body r.map (held r) 32)
      ∙ omega (arith, front_length, length-append (bytes_of 4 r.map) (body r.map (held r) 32), length_bytes 4 r.map))

  -- it has shape and is in range
  pub shaped_here : shaped whole here ≡ true
  unfolding shaped
  shaped_here =
      let n : length whole ≡ here + (length (record_bytes r) + length post) = length-append pre (record_bytes r ++ post) ∙ ap (λ (k : ℕ). here + k) (length-append (record_bytes r) post) in
      let e : end_of whole here ≤ length whole = omega (arith, end_here) in
      let f : here + 5 ≤ length whole = omega (arith, n, five) in
      rw (le-leb (here + 5) (length whole) f, le-leb (end_of whole here) (length whole) e, map_here, kind_here) (and_from _ true h.bits refl)
    where
      five : 5 ≤ length (record_bytes r)
      five = omega (arith, length_of)
        where
          length_of : length (record_bytes r) ≡ 5 + length (body r.map (held r) 32)
          length_of = length_record r

  pub ranged_here : ranged whole here ≡ true
  unfolding ranged right_at
  ranged_here =
      rw map_here (and_from _ _ (all_intro (right_at whole here r.map) 32 each) (ap (name_in r.map) (ap (λ (x : Record). x.ids.name) fields_here) ∙ h.named))
    where
      each : (b : ℕ) → b < 32 → right_at whole here r.map b ≡ true
      each b l = go (bit r.map b) refl
        where
          go : (x : Bool) → bit r.map b ≡ x → right_at whole here r.map b ≡ true
          go true e = if_true (bit r.map b) _ _ e ∙ ap (in_range (range b)) (value_here b l) ∙ h.range b l e
          go false e = if_false (bit r.map b) _ _ e
