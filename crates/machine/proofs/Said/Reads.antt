-- An event that the reader accepts is in its ranges, is whole, and has a kind from 1 to 9. Rests on records' Ranges.
-- The ranges follow from the test of events alone: a bit that the kind must have stands, a field that stands is in its range, and one that does not is 0.
use Rattle.std.proofs.Common.{ℕ, suc, ◌+◌, ◌-◌, ◌/◌, ◌%◌, ◌^◌, ◌<◌, arith, ◌≡◌, refl, sym, ap, subst, ◌∙◌, ⊎_elim, Bool, true, false, List, ◌++◌, eqb, leb, lit<, length, get_or, replicate, eq-eqb, leb-true, le-leb}
use Rattle.std.proofs.lemmas.Bool.{and_parts, or_cases, and_from, or_left, or_right}
use Rattle.std.proofs.lemmas.Bool.Decides.{nat_tests}
use Rattle.prelude.specs.Cases.{if◌then◌otherwise◌}
use Rattle.prelude.specs.Laws.Cases.{if_true, split_if}
use Rattle.prelude.specs.Number.{Bytes}
use Rattle.prelude.specs.Texts.{text_of, WholeText}
use Rattle.prelude.specs.Laws.Bytes.{bytes_span, bytes_drop, bytes_take, bytes_append, bytes_zeros}
use Rattle.prelude.specs.declared.Text.{Text}
use Rattle.format.specs.Codes.{within, is_name, is_ordtype, is_timeinforce, is_status, is_exectype}
use Rattle.format.specs.Format.{fields, range, in_range, required_bits, required, is_kind, bits_right}
use Rattle.format.specs.Places.{start, strip, part, content, kind_at, map_at, shaped}
use Rattle.records.specs.declared.Ids.{Ids}
use Rattle.records.specs.declared.Record.{Record}
use Rattle.records.specs.Fields.{numbers_of}
use Rattle.records.specs.Record.{record_at, is_record, is_event, event_in}
use Rattle.machine.specs.Changes.{Event, has}
use Rattle.machine.specs.Ranges.{text_within, name_range}
use Rattle.machine.specs.Rules.{force_range}
use Rattle.machine.specs.Events.{Booking, Amendment, Ranged}
use Rattle.machine.specs.Reads.{EventRanged, EventWhole, EventKind}
use Rattle.machine.proofs.Kept.Laws.{decide, kept_text}
use Rattle.format.specs.Refusal.{name_in, ranged, refusal_by, event_refusal}
use Rattle.records.specs.Laws.Right.{RightText, Right, right}
use Rattle.records.specs.Laws.Ranges.{Ranges, ranges, stands, event_facts}

-- ---- one field

-- bit k of a map stands
abbrev pub bit : ℕ → ℕ → Bool
bit m k = eqb (m / 2 ^ k % 2) 1

text_of_lem : (low high : ℕ) (t : Text) → RightText t → within low high t.len ≡ true → text_within low high t ≡ true
text_of_lem low high t r w =
    let (a, c) = and_parts (leb low t.len) (leb t.len high) w in
    kept_text low high t (record { stored = r.stored; above = leb-true low t.len a; below = leb-true t.len high c })

-- a code that may be absent
coded : (test : ℕ → Bool) (there : Bool) (c : ℕ) → (there ≡ true → test c ≡ true) → (there ≡ false → c ≡ 0) → eqb c 0 ≡ false → test c ≡ true
coded test there c f g z = grind (arith, nat_tests)

module _ (e : Event) (h : Right e) where
  -- a bit that kind k must have stands, and its field is in its range
  must : (k b : ℕ) → e.kind ≡ k → bit (required k) b ≡ true → has e b ≡ true
  must k b z t = stands e h b (ap (λ (n : ℕ). bit (required n) b) z ∙ t)

  field : (k b : ℕ) → b < 32 → e.kind ≡ k → bit (required k) b ≡ true → in_range (range b) (get_or (numbers_of e) b 0) ≡ true
  field k b l z t = h.range b l (must k b z t)

  booked : e.kind ≡ 1 → Booking e
  unfolding required required_bits range fields in_range if◌then◌otherwise◌ name_range name_in
  booked z = record {
    name = and_from _ _ h.name.stored (sym (if_true (has e 2) (is_name e.ids.name) true (must 1 2 z refl)) ∙ h.named);
    clordid = text_of_lem 1 32 e.ids.clordid h.clordid (field 1 3 (lit< tt) z refl);
    symbol = text_of_lem 1 16 e.ids.symbol h.symbol (field 1 6 (lit< tt) z refl);
    side = field 1 7 (lit< tt) z refl;
    ordtype = field 1 8 (lit< tt) z refl;
  }

  amends : (k : ℕ) → e.kind ≡ k → bit (required k) 3 ≡ true → bit (required k) 4 ≡ true → Amendment e
  unfolding range fields in_range if◌then◌otherwise◌
  amends k z c d = record {
    clordid = text_of_lem 1 32 e.ids.clordid h.clordid (field k 3 (lit< tt) z c);
    origclordid = text_of_lem 1 32 e.ids.origclordid h.origclordid (field k 4 (lit< tt) z d);
  }

  pub right_ranged : Ranged e
  unfolding required required_bits force_range
  right_ranged =
      let r : Ranges e = ranges e h in
      record {
        booking = booked;
        amendment = ⊎_elim (λ z. amends 2 z refl refl) (λ z. amends 3 z refl refl);
        ordtype = coded is_ordtype (has e 8) e.terms.ordtype r.ordtype (h.absent 8 (lit< tt));
        timeinforce = decide (eqb e.terms.timeinforce 0) (λ z. or_left _ _ z)
            (λ z. or_right (eqb e.terms.timeinforce 0) _ (coded is_timeinforce (has e 11) e.terms.timeinforce r.timeinforce (h.absent 11 (lit< tt)) z));
        qty = le-leb e.terms.qty (10 ^ 12) r.qty;
        price = le-leb e.terms.price (10 ^ 14) r.price;
        unpriced = h.absent 10 (lit< tt);
        status = coded is_status (has e 13) e.exec.status r.status (h.absent 13 (lit< tt));
        avgpx = le-leb e.exec.avgpx (10 ^ 14) r.avgpx;
        venueorderid = kept_text 0 32 e.ids.venueorderid (record { stored = h.venueorderid.stored; above = omega arith; below = h.venueorderid.short });
      }

  pub right_exectype : e.kind ≡ 4 → is_exectype e.exec.exectype ≡ true
  unfolding required required_bits range fields in_range if◌then◌otherwise◌
  right_exectype z = field 4 12 (lit< tt) z refl

-- ---- bytes

read_at : (s : List ℕ) → event_refusal s ≡ 0 → event_in s ≡ record_at s 0
unfolding event_in
read_at s ok = if_true (eqb (event_refusal s) 0) _ _ (eq-eqb _ 0 ok)

-- the texts that were read are made of bytes
module _ (s : List ℕ) (w : Bytes s) where
  content_bytes : (o m b : ℕ) → Bytes (content s o m b)
  unfolding content strip part
  content_bytes o m b =
      let f : Bytes (part s o m b) = bytes_span s (start s o m b) (start s o m (suc b) - start s o m b) w in
      split_if Bytes _ (λ t. bytes_drop (part s o m b) 1 f) (λ t. f)

  text_bytes : (l : List ℕ) → Bytes l → Bytes (text_of l).bytes
  unfolding text_of
  text_bytes l f = bytes_take (l ++ replicate 32 0) 32 (bytes_append l (replicate 32 0) f (bytes_zeros 32))

  whole_text : (t : Text) (o m b : ℕ) → t ≡ text_of (content s o m b) → RightText t → WholeText t
  whole_text t o m b z r = record {
    long = r.long;
    len = omega (arith, r.short);
    bytes = λ k. subst (λ (x : Text). get_or x.bytes k 0 < 256) (sym z) (text_bytes (content s o m b) (content_bytes o m b) k);
  }

  text_at : event_refusal s ≡ 0 → (f : Ids → Text) (b : ℕ) → f (record_at s 0).ids ≡ text_of (content s 0 (map_at s 0) b) → RightText (f (event_in s).ids) → WholeText (f (event_in s).ids)
  text_at ok f b z r = whole_text (f (event_in s).ids) 0 (map_at s 0) b (ap (λ (x : Record). f x.ids) (read_at s ok) ∙ z) r

pub event_ranged : EventRanged
event_ranged s w ok = right_ranged (event_in s) (event_facts s w ok)

pub event_whole : EventWhole
unfolding record_at
event_whole s w ok =
    let h : Right (event_in s) = event_facts s w ok in
    let r : Ranges (event_in s) = ranges (event_in s) h in
    record {
      client = r.client;
      venue = r.venue;
      name = text_at s w ok (λ x. x.name) 2 refl h.name;
      clordid = text_at s w ok (λ x. x.clordid) 3 refl h.clordid;
      origclordid = text_at s w ok (λ x. x.origclordid) 4 refl h.origclordid;
      symbol = text_at s w ok (λ x. x.symbol) 6 refl h.symbol;
      venueorderid = text_at s w ok (λ x. x.venueorderid) 18 refl h.venueorderid;
    }

-- what the test of events says
pub event_right_facts : (e : Event) → is_event e ≡ true → Right e
unfolding is_event
event_right_facts e ok = right e (and_parts (is_record e) (leb e.kind 9) ok).0

-- ---- kinds

accepted : (x y : Bool) → refusal_by x y ≡ 0 → x ≡ true
unfolding if◌then◌otherwise◌
accepted true y e = refl
accepted false y e = absurd (omega arith)

kind_above : (k : ℕ) → is_kind k ≡ true → 0 < k
unfolding is_kind
kind_above k e =
    ⊎_elim (λ z. leb-true 1 k (and_parts (leb 1 k) (leb k 9) z).0) (λ z. omega (arith, leb-true 16 k (and_parts (leb 16 k) (leb k 20) z).0))
    (or_cases (within 1 9 k) (within 16 20 k) e)

pub event_kind : EventKind
unfolding event_refusal record_at shaped bits_right
event_kind s ok =
    let k : ℕ = kind_at s 0 in
    let (shape, e) = and_parts (shaped s 0) _ (accepted _ (ranged s 0) ok) in
    let (bits, whole) = and_parts (bits_right k (map_at s 0)) _ (and_parts (leb (0 + 5) (length s)) _ shape).1 in
    let is : (event_in s).kind ≡ k = ap (λ (r : Record). r.kind) (read_at s ok) in
    (rw is (kind_above k (and_parts (is_kind k) _ bits).0), rw is (leb-true k 9 (and_parts (leb k 9) _ e).0))
