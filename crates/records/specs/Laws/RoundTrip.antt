-- The round trip, put together. Rests on Back, AnswerBack, Accepted and Writing.
use Rattle.std.specs.Prelude.{ℕ, ◌+◌, ◌≡◌, refl, List, [], ◌++◌, true, eqb, leb, length}
use Rattle.std.proofs.Common.{ap, subst, ◌∙◌, arith, append-nil, eq-eqb}
use Rattle.std.proofs.lemmas.Bool.{and_parts}
use Rattle.prelude.specs.Cases.{if◌then◌otherwise◌}
use Rattle.format.specs.Places.{kind_at, end_of, shaped}
use Rattle.format.specs.Refusal.{ranged, event_refusal}
use Rattle.records.specs.declared.Record.{Record}
use Rattle.records.specs.Record.{record_bytes, record_at, event_in, is_record, is_event}
use Rattle.records.specs.RoundTrip.{RoundTrip}
use Rattle.records.specs.Laws.Writing.{answer_most}
use Rattle.records.specs.Laws.Right.{Right, right}
use Rattle.records.specs.Laws.Back.{kind_here, record_here, end_here, shaped_here, ranged_here}
use Rattle.records.specs.Laws.AnswerBack.{message_back, answer_accepted, answer_messages_lem, answer_alarm_lem, answer_alarm2_lem}
use Rattle.records.specs.Laws.Accepted.{message_right, message_writing, event_right, event_writing}

module _ (r : Record) (ok : is_event r ≡ true) where
  parts : (is_record r ≡ true) × (leb r.kind 9 ≡ true)
  unfolding is_event
  parts = and_parts (is_record r) (leb r.kind 9) ok

  is_right : Right r
  is_right = right r parts.0

  -- what holds of the record with nothing before it and nothing behind it
  alone : (P : List ℕ → Type 0) → P (record_bytes r ++ []) → P (record_bytes r)
  alone P p = subst P (append-nil (record_bytes r)) p

  pub event_accepted : event_refusal (record_bytes r) ≡ 0
  unfolding event_refusal if◌then◌otherwise◌
  event_accepted =
      let a : shaped (record_bytes r) 0 ≡ true = alone (λ s. shaped s 0 ≡ true) (shaped_here r is_right [] []) in
      let b : ranged (record_bytes r) 0 ≡ true = alone (λ s. ranged s 0 ≡ true) (ranged_here r is_right [] []) in
      let c : kind_at (record_bytes r) 0 ≡ r.kind = alone (λ s. kind_at s 0 ≡ r.kind) (kind_here r is_right [] []) in
      let d : leb (kind_at (record_bytes r) 0) 9 ≡ true = ap (λ (k : ℕ). leb k 9) c ∙ parts.1 in
      let e : eqb (end_of (record_bytes r) 0) (length (record_bytes r)) ≡ true =
      eq-eqb _ _ (alone (λ s. end_of s 0 ≡ 0 + length (record_bytes r)) (end_here r is_right [] []) ∙ omega arith) in
      rw (a, d, e, b) refl

  pub event_back : event_in (record_bytes r) ≡ r
  unfolding event_in if◌then◌otherwise◌
  event_back = rw event_accepted (alone (λ s. record_at s 0 ≡ r) (record_here r is_right [] []))

pub round_trip : RoundTrip
round_trip = record {
  event = λ r ok. (event_accepted r ok, event_back r ok);
  message = λ m ok pre post. message_back m ok pre post;
  answer = λ buf a a2 ms ok few room. record {
    refusal = answer_accepted buf a a2 ms ok few room;
    messages = answer_messages_lem buf a a2 ms ok few room;
    alarm = answer_alarm_lem buf a a2 ms ok few room;
    alarm2 = answer_alarm2_lem buf a a2 ms ok few room;
  };
  taken = λ s w ok. (event_right s w ok, event_writing s w ok);
  accepted = λ s o w ok. (message_right s o w ok, message_writing s o w ok);
  most = λ alarm alarm2 ms few. answer_most alarm alarm2 ms few;
}
