-- Laws by which the messages and answers that code reads are those of the definitions. Rests on Answer and Reading.
use Rattle.std.specs.Prelude.{ℕ, ◌≤◌, ◌<◌, List, [], Bool, eqb, leb, length, get_or, ◌≡◌, refl, true, false}
use Rattle.std.proofs.Common.{sym, ◌∙◌, arith, le-leb}
use Rattle.std.proofs.Math.Decide.{dec_le}
use Rattle.std.proofs.lemmas.Bool.{lt-leb, and_parts}
use Rattle.prelude.specs.Cases.{if◌then◌otherwise◌}
use Rattle.format.specs.Places.{kind_at, end_of, shaped}
use Rattle.records.specs.declared.Record.{Record}
use Rattle.records.specs.declared.Messages.{Messages}
use Rattle.records.specs.declared.Messages.TheVariants.{Nothing, One, Two}
use Rattle.records.specs.Fields.{blank}
use Rattle.records.specs.Record.{record_at, message_of}
use Rattle.format.specs.Refusal.{ranged, record_refusal, message_shaped, message_refusal}
use Rattle.records.specs.Laws.Seen.{MessagesIn, refusal_from}
use Rattle.records.specs.Laws.Reading.{whole_of, end_read, record_read}
use Rattle.records.specs.Answer.{head_size, length_in, count_in, alarm_in, alarm2_in, chosen, messages_from, shaped_from, ranged_from, answer_in, head_right, answer_refusal, answer_messages, answer_alarm, answer_alarm2, messages_of, ReadsAnswer}

-- ---- one message: where it ends, and what its refusal says

abbrev pub message_end : List ℕ → ℕ → ℕ
message_end s o = if message_shaped s o then end_of s o otherwise 0

module _ (s : List ℕ) (o : ℕ) where
  pub unshaped : shaped s o ≡ false → message_shaped s o ≡ false
  unfolding message_shaped
  unshaped e = rw e refl

  pub no_message : shaped s o ≡ true → kind_at s o < 16 → message_shaped s o ≡ false
  unfolding message_shaped
  no_message e h = rw (e, lt-leb 16 (kind_at s o) h) refl

  pub is_message_lem : shaped s o ≡ true → 16 ≤ kind_at s o → message_shaped s o ≡ true
  unfolding message_shaped
  is_message_lem e h = rw (e, le-leb 16 (kind_at s o) h) refl

  -- a message ends within the slice
  pub message_inside : message_shaped s o ≡ true → end_of s o ≤ length s
  unfolding message_shaped end_of
  message_inside e =
      (whole_of s o (and_parts (shaped s o) (leb 16 (kind_at s o)) e).0).inside

  pub message_no : message_shaped s o ≡ false → (message_refusal s o ≡ 3) × (message_end s o ≡ 0) × (message_of s o ≡ blank)
  unfolding message_refusal message_of if◌then◌otherwise◌
  message_no h = rw h (refl, refl, refl)

  -- a record of a message's kind is read as a record is
  pub message_yes : shaped s o ≡ true → 16 ≤ kind_at s o
      → (record_refusal s o ≡ message_refusal s o) × (end_read s o ≡ message_end s o) × (record_read s o ≡ message_of s o)
  unfolding message_shaped message_refusal message_of record_refusal if◌then◌otherwise◌
  message_yes e h = rw (e, le-leb 16 (kind_at s o) h) (refl, refl, refl)

  pub said_3 : message_refusal s o ≡ 3 → message_shaped s o ≡ false
  unfolding message_refusal if◌then◌otherwise◌
  said_3 n = go (message_shaped s o) refl (ranged s o) refl
    where
      go : (x : Bool) → message_shaped s o ≡ x → (y : Bool) → ranged s o ≡ y → message_shaped s o ≡ false
      go true e true f = let z : ◌≡◌ {A = ℕ} 3 0 = sym n ∙ (rw (e, f) refl) in absurd (omega arith)
      go true e false f = let z : ◌≡◌ {A = ℕ} 3 4 = sym n ∙ (rw (e, f) refl) in absurd (omega arith)
      go false e y f = e

  pub said_shape : (message_refusal s o ≡ 3 → ⊥) → message_shaped s o ≡ true
  unfolding message_refusal if◌then◌otherwise◌
  said_shape n = go (message_shaped s o) refl
    where
      go : (x : Bool) → message_shaped s o ≡ x → message_shaped s o ≡ true
      go true e = e
      go false e = absurd (n (rw e refl))

  module _ (w : message_shaped s o ≡ true) where
    pub said_end : message_end s o ≡ end_of s o
    unfolding if◌then◌otherwise◌
    said_end = rw w refl

    pub said_4 : message_refusal s o ≡ 4 → ranged s o ≡ false
    unfolding message_refusal if◌then◌otherwise◌
    said_4 n = go (ranged s o) refl
      where
        go : (y : Bool) → ranged s o ≡ y → ranged s o ≡ false
        go true f = let z : ◌≡◌ {A = ℕ} 4 0 = sym n ∙ (rw (w, f) refl) in absurd (omega arith)
        go false f = f

    pub said_range : (message_refusal s o ≡ 4 → ⊥) → ranged s o ≡ true
    unfolding message_refusal if◌then◌otherwise◌
    said_range n = go (ranged s o) refl
      where
        go : (y : Bool) → ranged s o ≡ y → ranged s o ≡ true
        go true f = f
        go false f = absurd (n (rw (w, f) refl))

    pub said_record : ranged s o ≡ true → message_of s o ≡ record_at s o
    unfolding message_of message_refusal if◌then◌otherwise◌
    said_record f = rw (w, f) refl

-- ---- messages behind a head: an alarm in it and the messages, none if they are refused

abbrev pub alarm_from : List ℕ → ℕ → ℕ → ℕ
alarm_from s n a = if eqb (refusal_from s n) 0 then a otherwise 0

abbrev pub taken_from : List ℕ → ℕ → List Record
taken_from s n = if eqb (refusal_from s n) 0 then messages_from s head_size n otherwise []

module _ (s : List ℕ) (n : ℕ) where
  pub from_3 : shaped_from s head_size n ≡ false → (refusal_from s n ≡ 3) × ((a : ℕ) → alarm_from s n a ≡ 0) × (taken_from s n ≡ [])
  unfolding if◌then◌otherwise◌
  from_3 h = rw h (refl, λ a. refl, refl)

  pub from_4 : shaped_from s head_size n ≡ true → ranged_from s head_size n ≡ false
      → (refusal_from s n ≡ 4) × ((a : ℕ) → alarm_from s n a ≡ 0) × (taken_from s n ≡ [])
  unfolding if◌then◌otherwise◌
  from_4 h g = rw (h, g) (refl, λ a. refl, refl)

  pub from_0 : shaped_from s head_size n ≡ true → ranged_from s head_size n ≡ true
      → (refusal_from s n ≡ 0) × ((a : ℕ) → alarm_from s n a ≡ a) × (taken_from s n ≡ messages_from s head_size n)
  unfolding if◌then◌otherwise◌
  from_0 h g = rw (h, g) (refl, λ a. refl, refl)

-- `Messages` are told by their count and two records
pub messages_chosen : (m : Messages) → messages_of m ≡ chosen (length (messages_of m)) (get_or (messages_of m) 0 blank) (get_or (messages_of m) 1 blank)
unfolding if◌then◌otherwise◌
messages_chosen Nothing = refl
messages_chosen (One first) = refl
messages_chosen (Two first second) = refl

-- ---- answers

module _ (s : List ℕ) where
  pub answer_no : head_right s ≡ false → (answer_refusal s ≡ 3) × (answer_alarm s ≡ 0) × (answer_alarm2 s ≡ 0) × (answer_messages s ≡ [])
  unfolding answer_refusal answer_alarm answer_alarm2 answer_messages if◌then◌otherwise◌
  answer_no h = rw h (refl, refl, refl, refl)

  pub answer_from : (n : ℕ) → head_right s ≡ true → count_in s ≡ n
      → (answer_refusal s ≡ refusal_from (answer_in s) n)
      × (answer_alarm s ≡ alarm_from (answer_in s) n (alarm_in s))
      × (answer_alarm2 s ≡ alarm_from (answer_in s) n (alarm2_in s))
      × (answer_messages s ≡ taken_from (answer_in s) n)
  unfolding answer_refusal answer_alarm answer_alarm2 answer_messages if◌then◌otherwise◌
  answer_from n h e = rw (h, e) (refl, refl, refl, refl)

  pub answer_so : head_right s ≡ true → answer_refusal s ≡ refusal_from (answer_in s) (count_in s)
  unfolding answer_refusal
  answer_so h = rw h refl

  module _ (ms : Messages) (h : head_right s ≡ true) (g : MessagesIn (answer_in s) (count_in s) ms) where
    pub answer_taken : answer_refusal s ≡ 0
    unfolding answer_refusal if◌then◌otherwise◌
    answer_taken = rw (h, g.shapes, g.ranges) refl

    pub answer_yes : ReadsAnswer s (record { alarm = alarm_in s; alarm2 = alarm2_in s; messages = ms })
    unfolding answer_alarm answer_alarm2 answer_messages if◌then◌otherwise◌
    answer_yes = record { taken = answer_taken; alarm = rw answer_taken refl; alarm2 = rw answer_taken refl; messages = rw answer_taken g.messages }

pub head_short : (s : List ℕ) → length s < head_size → head_right s ≡ false
unfolding head_right
head_short s h = rw (lt-leb head_size (length s) h) refl

module _ (s : List ℕ) (long : head_size ≤ length s) where
  pub head_small : length_in s < head_size → head_right s ≡ false
  unfolding head_right
  head_small h = rw (le-leb head_size (length s) long, lt-leb head_size (length_in s) h) refl

  module _ (some : head_size ≤ length_in s) where
    pub head_cut : length s < length_in s → head_right s ≡ false
    unfolding head_right
    head_cut h = rw (le-leb head_size (length s) long, le-leb head_size (length_in s) some, lt-leb (length_in s) (length s) h) refl

    pub head_count : length_in s ≤ length s → 2 < count_in s → head_right s ≡ false
    unfolding head_right
    head_count h c = rw (le-leb head_size (length s) long, le-leb head_size (length_in s) some, le-leb (length_in s) (length s) h) (lt-leb (count_in s) 2 c)

    pub head_good : length_in s ≤ length s → count_in s ≤ 2 → head_right s ≡ true
    unfolding head_right
    head_good h c = rw (le-leb head_size (length s) long, le-leb head_size (length_in s) some, le-leb (length_in s) (length s) h) (le-leb (count_in s) 2 c)

    -- if the head fits, the messages decide
    pub answer_by : length_in s ≤ length s → answer_refusal s ≡ (if leb (count_in s) 2 then refusal_from (answer_in s) (count_in s) otherwise 3)
    unfolding if◌then◌otherwise◌
    answer_by h = go (dec_le (count_in s) 2)
      where
        go : Dec (count_in s ≤ 2) → answer_refusal s ≡ (if leb (count_in s) 2 then refusal_from (answer_in s) (count_in s) otherwise 3)
        go (yes c) = rw (le-leb (count_in s) 2 c) (answer_so s (head_good h c))
        go (no c) = let k : 2 < count_in s = omega arith in rw (lt-leb (count_in s) 2 k) (answer_no s (head_count h k)).0
