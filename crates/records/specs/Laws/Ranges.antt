-- What the book's proofs take from a record that is right: each field's range by name, and the bits of its kind. Rests on Right and Accepted.
use Rattle.std.specs.Prelude.{ℕ, ◌+◌, ◌≤◌, ◌<◌, min, ◌≡◌, List, Bool, ◌&&◌, ◌||◌, leb, length, get_or, refl, true, false, eqb, ltb}
use Rattle.std.proofs.Common.{◌∙◌, arith, lit<, leb-true, eq-eqb, le-leb, lt-ltb}
use Rattle.std.proofs.lemmas.Bool.{and_parts, and_from}
use Rattle.prelude.specs.Cases.{if◌then◌otherwise◌}
use Rattle.prelude.specs.Laws.Cases.{if_true, if_false, clash}
use Rattle.prelude.specs.Laws.Below.{all_intro}
use Rattle.prelude.specs.Number.{bound, Bytes}
use Rattle.prelude.specs.Laws.Number.{bound_le}
use Rattle.prelude.specs.declared.Text.{Text}
use Rattle.bits.specs.Map.{bit, contains}
use Rattle.bits.specs.Laws.Map.{contains_bit}
use Rattle.format.specs.Codes.{is_side, is_ordtype, is_timeinforce, is_status, is_exectype}
use Rattle.format.specs.Format.{size, range, fields, in_range, is_kind, required, allowed, joined, bits_right}
use Rattle.records.specs.declared.LongText.{LongText}
use Rattle.records.specs.declared.Record.{Record}
use Rattle.records.specs.Fields.{numbers_of, high_of}
use Rattle.records.specs.Record.{field_right, is_short, is_long, texts_right, price_right, is_record, is_event, event_in}
use Rattle.format.specs.Refusal.{event_refusal}
use Rattle.records.specs.Laws.Reading.{within_most}
use Rattle.records.specs.Laws.Right.{RightText, RightLong, Right, right}
use Rattle.records.specs.Laws.Accepted.{event_right}

pub record Ranges (r : Record) : Type 0 where
  pub client : r.client < 65536
  pub venue : r.venue < 65536
  pub reason : r.reason < 4294967296
  pub verdict : r.verdict ≤ 7
  pub name : r.ids.name.len ≤ 20
  pub symbol : r.ids.symbol.len ≤ 16
  pub qty : r.terms.qty ≤ 1000000000000
  pub price : r.terms.price ≤ 100000000000000
  pub lastqty : r.exec.lastqty ≤ 1000000000000
  pub lastpx : r.exec.lastpx ≤ 100000000000000
  pub cumqty : r.exec.cumqty ≤ 1000000000000
  pub avgpx : r.exec.avgpx ≤ 100000000000000
  pub leavesqty : r.told.leavesqty ≤ 1000000000000
  pub fixedtext : r.told.fixedtext ≤ 18
  pub origin : r.told.origin ≤ 2
  pub responseto : r.told.responseto ≤ 2
  pub source : r.told.source ≤ 3
  pub side : bit r.map 7 ≡ true → is_side r.terms.side ≡ true
  pub ordtype : bit r.map 8 ≡ true → is_ordtype r.terms.ordtype ≡ true
  pub timeinforce : bit r.map 11 ≡ true → is_timeinforce r.terms.timeinforce ≡ true
  pub exectype : bit r.map 12 ≡ true → is_exectype r.exec.exectype ≡ true
  pub status : bit r.map 13 ≡ true → is_status r.exec.status ≡ true

module _ (r : Record) (h : Right r) where
  most : (b k : ℕ) → b < 32 → ((v : ℕ) → in_range (range b) v ≡ true → v ≤ k) → get_or (numbers_of r) b 0 ≤ k
  most b k l f = go (bit r.map b) refl
    where
      go : (x : Bool) → bit r.map b ≡ x → get_or (numbers_of r) b 0 ≤ k
      go true e = f (get_or (numbers_of r) b 0) (h.range b l e)
      go false e = omega (arith, h.absent b l e)

  below : (b : ℕ) → b < 32 → get_or (numbers_of r) b 0 < bound (min (size b) 8)
  below b l = go (bit r.map b) refl
    where
      go : (x : Bool) → bit r.map b ≡ x → get_or (numbers_of r) b 0 < bound (min (size b) 8)
      go true e = h.fits b l e
      go false e = omega (arith, h.absent b l e, bound_le 0 (min (size b) 8) (omega arith))

  pub ranges : Ranges r
  unfolding size range fields in_range if◌then◌otherwise◌
  ranges = record {
    client = below 0 (lit< tt);
    venue = below 1 (lit< tt);
    reason = below 19 (lit< tt);
    verdict = most 23 7 (lit< tt) (λ v e. leb-true v 7 e);
    name = most 2 20 (lit< tt) (λ v e. within_most 1 20 v e);
    symbol = most 6 16 (lit< tt) (λ v e. within_most 1 16 v e);
    qty = most 9 1000000000000 (lit< tt) (λ v e. leb-true v 1000000000000 e);
    price = most 10 100000000000000 (lit< tt) (λ v e. leb-true v 100000000000000 e);
    lastqty = most 14 1000000000000 (lit< tt) (λ v e. leb-true v 1000000000000 e);
    lastpx = most 15 100000000000000 (lit< tt) (λ v e. leb-true v 100000000000000 e);
    cumqty = most 16 1000000000000 (lit< tt) (λ v e. leb-true v 1000000000000 e);
    avgpx = most 17 100000000000000 (lit< tt) (λ v e. leb-true v 100000000000000 e);
    leavesqty = most 24 1000000000000 (lit< tt) (λ v e. leb-true v 1000000000000 e);
    fixedtext = most 27 18 (lit< tt) (λ v e. within_most 1 18 v e);
    origin = most 28 2 (lit< tt) (λ v e. within_most 1 2 v e);
    responseto = most 29 2 (lit< tt) (λ v e. within_most 1 2 v e);
    source = most 31 3 (lit< tt) (λ v e. leb-true v 3 e);
    side = h.range 7 (lit< tt);
    ordtype = h.range 8 (lit< tt);
    timeinforce = h.range 11 (lit< tt);
    exectype = h.range 12 (lit< tt);
    status = h.range 13 (lit< tt);
  }

  -- a bit that the kind must have stands, and one that it may not have does not
  pub stands : (b : ℕ) → bit (required r.kind) b ≡ true → bit r.map b ≡ true
  unfolding bits_right
  stands b e =
      let p = and_parts (is_kind r.kind) _ h.bits in
      let q = and_parts (contains r.map (required r.kind)) _ p.1 in
      contains_bit r.map (required r.kind) b q.0 e

  pub barred : (b : ℕ) → bit (required r.kind + allowed r.kind) b ≡ false → bit r.map b ≡ false
  unfolding bits_right
  barred b e = go (bit r.map b) refl
    where
      p : (is_kind r.kind ≡ true) × (contains r.map (required r.kind) && (contains (required r.kind + allowed r.kind) r.map && joined r.kind r.map) ≡ true)
      p = and_parts (is_kind r.kind) _ h.bits

      q : contains (required r.kind + allowed r.kind) r.map ≡ true
      q = (and_parts (contains (required r.kind + allowed r.kind) r.map) _ (and_parts (contains r.map (required r.kind)) _ p.1).1).0

      go : (x : Bool) → bit r.map b ≡ x → bit r.map b ≡ false
      go false f = f
      go true f = clash _ (contains_bit (required r.kind + allowed r.kind) r.map b q f) e

  -- the facts make the test
  short_test : (t : Text) → RightText t → is_short t ≡ true
  unfolding is_short
  short_test t w = and_from _ _ (eq-eqb _ _ w.long) w.stored

  long_test : (t : LongText) → RightLong t → is_long t ≡ true
  unfolding is_long
  long_test t w =
      and_from _ _ (eq-eqb _ _ w.long)
      (and_from _ _ (le-leb _ _ w.short) (all_intro (λ k. ltb k t.len || eqb (get_or t.bytes k 0) 0) 64 w.filled))

  pub test : is_record r ≡ true
  unfolding is_record texts_right price_right
  test =
      and_from _ _ h.bits
      (and_from _ _ (lt-ltb r.map (bound 4) h.map)
      (and_from _ _ (all_intro (field_right r) 32 each)
      (and_from _ _ h.named
      (and_from _ _
      (and_from _ _ (short_test _ h.name)
      (and_from _ _ (short_test _ h.clordid)
      (and_from _ _ (short_test _ h.origclordid)
      (and_from _ _ (short_test _ h.downstream)
      (and_from _ _ (short_test _ h.symbol)
      (and_from _ _ (short_test _ h.venueorderid) (and_from _ _ (short_test _ h.origdownstream) (long_test _ h.text))))))))
      (and_from _ _ (eq-eqb (length r.told.fillprice) 2 h.two) (high (bit r.map 26) refl))))))
    where
      each : (b : ℕ) → b < 32 → field_right r b ≡ true
      each b l = go (bit r.map b) refl
        where
          go : (x : Bool) → bit r.map b ≡ x → field_right r b ≡ true
          go true e = if_true (bit r.map b) _ _ e ∙ and_from _ _ (h.range b l e) (lt-ltb (get_or (numbers_of r) b 0) (bound (min (size b) 8)) (h.fits b l e))
          go false e = if_false (bit r.map b) _ _ e ∙ eq-eqb (get_or (numbers_of r) b 0) 0 (h.absent b l e)

      high : (x : Bool) → bit r.map 26 ≡ x → (if bit r.map 26 then ltb (high_of r) (bound 8) otherwise eqb (high_of r) 0) ≡ true
      high true e = if_true (bit r.map 26) _ _ e ∙ lt-ltb (high_of r) (bound 8) (h.high e)
      high false e = if_false (bit r.map 26) _ _ e ∙ eq-eqb (high_of r) 0 (h.nothigh e)

-- an event that is taken
pub event_facts : (s : List ℕ) → Bytes s → event_refusal s ≡ 0 → Right (event_in s)
unfolding is_event
event_facts s w e = right (event_in s) (and_parts (is_record (event_in s)) (leb (event_in s).kind 9) (event_right s w e)).0
