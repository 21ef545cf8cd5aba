-- The promises of Claims hold. Rests on Table, Texts, fix_words' laws and cut's.
use Rattle.std.proofs.Common.{ℕ, ◌+◌, ◌%◌, ◌≤◌, ◌<◌, ◌≡◌, Bool, ◌↔◌, ◌⊎◌, eqb, length, get_or, refl, ap, subst, sym, ◌∙◌, arith, List, [], true, false, inl, inr, eqb-true, eq-eqb, ltb-true, ltb-false, ltb}
use Rattle.std.proofs.lemmas.Bool.{and_from}
use Rattle.std.proofs.lemmas.List.{length-replicate}
use Rattle.prelude.specs.Cases.{if◌then◌otherwise◌}
use Rattle.prelude.specs.Bytes.{zeros}
use Rattle.prelude.specs.Laws.Bytes.{bytes_zeros}
use Rattle.prelude.specs.Number.{Bytes}
use Rattle.prelude.specs.Span.{splice}
use Rattle.prelude.specs.Laws.Span.{get_span, span_splice_same, span_splice_after}
use Rattle.format.specs.Refusal.{message_shaped, ranged}
use Rattle.format.specs.Places.{end_of}
use Rattle.records.specs.Parts.{whole_message}
use Rattle.records.specs.Answer.{count_in, answer_refusal}
use Rattle.records.specs.Place.{place_of}
use Rattle.records.specs.Laws.Cut.{cut_at, cut_out, cut_written, none_past}
use Rattle.decimal.specs.Decimal.{digits, low_digits}
use Rattle.fix_words.specs.Spelling.{spellings}
use Rattle.fix_words.specs.Message.{inner, front, sum, texted, is_message, read_of}
use Rattle.fix_words.specs.Record.{Session, writing_of, write_of, session_typed, write_refusal, Yields}
use Rattle.fix_words.proofs.Laws.Trip.{frame, taken_or_refused}
use Rattle.fix_words.proofs.Laws.Made.{taken_yields}
use Rattle.fix_claims.specs.declared.FixFields.{FixFields}
use Rattle.fix_claims.specs.Call.{wrote, Wrote, write_call}
use Rattle.fix_claims.specs.Reading.{tabled, fields_read}
use Rattle.fix_claims.specs.Claims.{answer, message, TextOf, Clean, Unclean, Message, Zero, Reads, Claims}
use Rattle.fix_claims.proofs.Laws.Table.{zero_past, reads}
use Rattle.fix_claims.specs.Laws.Texts.{not_both, all_clean, one_unclean}

-- ---- the writer's questions, in their order

module _ (s : List ℕ) (n : Session) (room : ℕ) where
  abbrev Is : ℕ → Type 0
  Is k = write_refusal s n room ≡ k

  -- 3, or 4, or 9 as the texts say, or 10 or 0 as the room says
  abbrev Asked : Type 0
  Asked = Is 3 ⊎ (Is 4 ⊎ ((Is 9 × (texted (writing_of s n) ≡ false))
      ⊎ ((texted (writing_of s n) ≡ true) × ((Is 10 × (room < length (write_of s n))) ⊎ (Is 0 × (length (write_of s n) ≤ room))))))

  questions : Asked
  unfolding write_refusal if◌then◌otherwise◌
  questions = go (whole_message s) refl (ranged s 0) refl (texted (writing_of s n)) refl (ltb room (length (write_of s n))) refl
    where
      go : (a : Bool) → whole_message s ≡ a → (b : Bool) → ranged s 0 ≡ b → (c : Bool) → texted (writing_of s n) ≡ c
          → (d : Bool) → ltb room (length (write_of s n)) ≡ d → Asked
      go false p b q c t d l = inl (rw p refl)
      go true p false q c t d l = inr (inl (rw (p, q) refl))
      go true p true q false t d l = inr (inr (inl (rw (p, q, t) refl, t)))
      go true p true q true t true l = inr (inr (inr (t, inl (rw (p, q, t, l) refl, ltb-true room (length (write_of s n)) l))))
      go true p true q true t false l = inr (inr (inr (t, inr (rw (p, q, t, l) refl, ltb-false room (length (write_of s n)) l))))

  -- of a whole record in range it is neither 3 nor 4
  past_shape : whole_message s ≡ true → ranged s 0 ≡ true → (Is 3 → ⊥) × (Is 4 → ⊥)
  unfolding write_refusal if◌then◌otherwise◌
  past_shape a b = go (texted (writing_of s n)) refl (ltb room (length (write_of s n))) refl
    where
      go : (x : Bool) → texted (writing_of s n) ≡ x → (y : Bool) → ltb room (length (write_of s n)) ≡ y → (Is 3 → ⊥) × (Is 4 → ⊥)
      go true t true l = rw (a, b, t, l) (λ e. absurd (omega arith), λ e. absurd (omega arith))
      go true t false l = rw (a, b, t, l) (λ e. absurd (omega arith), λ e. absurd (omega arith))
      go false t y l = rw (a, b, t) (λ e. absurd (omega arith), λ e. absurd (omega arith))

-- ---- a call of the writer

module _ (s : List ℕ) (n : Session) (out : List ℕ) where
  abbrev r : ℕ
  r = write_refusal s n (length out)

  taken : r ≡ 0 → write_call s n out ≡ wrote (record { refusal = 0; length = length (write_of s n) }) (splice out 0 (write_of s n))
  unfolding write_call if◌then◌otherwise◌
  taken e = rw (eq-eqb r 0 e) refl

  not_taken : eqb r 0 ≡ false → write_call s n out ≡ wrote (record { refusal = r; length = 0 }) out
  unfolding write_call if◌then◌otherwise◌
  not_taken e = rw e refl

  -- the number that is returned
  answer_is : answer s n out ≡ r
  answer_is = go (eqb r 0) refl
    where
      go : (x : Bool) → eqb r 0 ≡ x → answer s n out ≡ r
      go true q = ap (λ (w : Wrote). w.returned.refusal) (taken (eqb-true r 0 q)) ∙ sym (eqb-true r 0 q)
      go false q = ap (λ (w : Wrote). w.returned.refusal) (not_taken q)

  answers : (answer s n out ≡ 0) ⊎ ((answer s n out ≡ 3) ⊎ ((answer s n out ≡ 4) ⊎ ((answer s n out ≡ 9) ⊎ (answer s n out ≡ 10))))
  answers = go (questions s n (length out))
    where
      go : Asked s n (length out) → (answer s n out ≡ 0) ⊎ ((answer s n out ≡ 3) ⊎ ((answer s n out ≡ 4) ⊎ ((answer s n out ≡ 9) ⊎ (answer s n out ≡ 10))))
      go (inl e) = inr (inl (answer_is ∙ e))
      go (inr (inl e)) = inr (inr (inl (answer_is ∙ e)))
      go (inr (inr (inl (e, t)))) = inr (inr (inr (inl (answer_is ∙ e))))
      go (inr (inr (inr (t, inl (e, l))))) = inr (inr (inr (inr (answer_is ∙ e))))
      go (inr (inr (inr (t, inr (e, l))))) = inl (answer_is ∙ e)

  -- two answers are not one
  apart : {A : Type 0} (a b : ℕ) → answer s n out ≡ a → r ≡ b → (a ≡ b → ⊥) → A
  apart a b p q h = absurd (h (sym p ∙ answer_is ∙ q))

  zero_right : answer s n out ≡ 0 → (texted (writing_of s n) ≡ true) × (length (write_of s n) ≤ length out)
  zero_right z = go (questions s n (length out))
    where
      go : Asked s n (length out) → (texted (writing_of s n) ≡ true) × (length (write_of s n) ≤ length out)
      go (inl e) = apart 0 3 z e (λ q. omega arith)
      go (inr (inl e)) = apart 0 4 z e (λ q. omega arith)
      go (inr (inr (inl (e, t)))) = apart 0 9 z e (λ q. omega arith)
      go (inr (inr (inr (t, inl (e, l))))) = apart 0 10 z e (λ q. omega arith)
      go (inr (inr (inr (t, inr (e, l))))) = (t, l)

  clean : answer s n out ≡ 0 → (t : List ℕ) → TextOf s n t → Clean t
  clean z = all_clean s n (zero_right z).0

  nine : (answer s n out ≡ 3 → ⊥) → (answer s n out ≡ 4 → ⊥) → (answer s n out ≡ 9) ↔ ((t : List ℕ) × TextOf s n t × Unclean t)
  nine three four = go (questions s n (length out))
    where
      dirty : texted (writing_of s n) ≡ true → ((t : List ℕ) × TextOf s n t × Unclean t) → answer s n out ≡ 9
      dirty e (t, Is, u) = absurd (not_both t (all_clean s n e t Is) u)

      go : Asked s n (length out) → (answer s n out ≡ 9) ↔ ((t : List ℕ) × TextOf s n t × Unclean t)
      go (inl e) = absurd (three (answer_is ∙ e))
      go (inr (inl e)) = absurd (four (answer_is ∙ e))
      go (inr (inr (inl (e, t)))) = (λ z. one_unclean s n t, λ u. answer_is ∙ e)
      go (inr (inr (inr (t, inl (e, l))))) = (λ z. apart 9 10 z e (λ q. omega arith), dirty t)
      go (inr (inr (inr (t, inr (e, l))))) = (λ z. apart 9 0 z e (λ q. omega arith), dirty t)

  ten : (answer s n out ≡ 3 → ⊥) → (answer s n out ≡ 4 → ⊥) → (answer s n out ≡ 9 → ⊥) → (answer s n out ≡ 10) ↔ (length out < length (write_of s n))
  ten three four nine = go (questions s n (length out))
    where
      go : Asked s n (length out) → (answer s n out ≡ 10) ↔ (length out < length (write_of s n))
      go (inl e) = absurd (three (answer_is ∙ e))
      go (inr (inl e)) = absurd (four (answer_is ∙ e))
      go (inr (inr (inl (e, t)))) = absurd (nine (answer_is ∙ e))
      go (inr (inr (inr (t, inl (e, l))))) = (λ z. l, λ h. answer_is ∙ e)
      go (inr (inr (inr (t, inr (e, l))))) = (λ z. apart 10 0 z e (λ q. omega arith), λ h. absurd (omega (arith, h, l)))

  call_written : answer s n out ≡ 0 → (message (write_call s n out) ≡ write_of s n) × ((write_call s n out).returned.length ≡ length (write_of s n))
  call_written e =
      let t = taken (sym answer_is ∙ e) in (
        ap message t ∙ span_splice_same out 0 (write_of s n) (length (write_of s n)) refl (omega (arith, (zero_right e).1)),
        ap (λ (w : Wrote). w.returned.length) t,
      )

  call_refused : (answer s n out ≡ 0 → ⊥) → ((write_call s n out).returned.length ≡ 0) × ((write_call s n out).out ≡ out)
  call_refused h = go (eqb r 0) refl
    where
      go : (x : Bool) → eqb r 0 ≡ x → ((write_call s n out).returned.length ≡ 0) × ((write_call s n out).out ≡ out)
      go true q = absurd (h (answer_is ∙ eqb-true r 0 q))
      go false q = (ap (λ (w : Wrote). w.returned.length) (not_taken q), ap (λ (w : Wrote). w.out) (not_taken q))

  behind : (w : List ℕ) (k : ℕ) → length w ≤ length out → length w ≤ k → get_or (splice out 0 w) k 0 ≡ get_or out k 0
  behind w k h l =
      let z : k + 0 ≡ k = omega arith in
      ap (λ (i : ℕ). get_or (splice out 0 w) i 0) (sym z) ∙ sym (get_span (splice out 0 w) k 1 0 (omega arith))
      ∙ ap (λ (t : List ℕ). get_or t 0 0) (span_splice_after out 0 w k 1 (omega arith) (omega arith))
      ∙ get_span out k 1 0 (omega arith) ∙ ap (λ (i : ℕ). get_or out i 0) z

  call_past : (k : ℕ) → (write_call s n out).returned.length ≤ k → get_or (write_call s n out).out k 0 ≡ get_or out k 0
  call_past k h = go (eqb r 0) refl
    where
      go : (x : Bool) → eqb r 0 ≡ x → get_or (write_call s n out).out k 0 ≡ get_or out k 0
      go true q =
          let e = eqb-true r 0 q in
          let t = taken e in
          ap (λ (w : Wrote). get_or w.out k 0) t
          ∙ behind (write_of s n) k (zero_right (answer_is ∙ e)).1 (omega (arith, h, ap (λ (w : Wrote). w.returned.length) t))
      go false q = ap (λ (w : Wrote). get_or w.out k 0) (not_taken q)

  call_read : Bytes s → session_typed n ≡ true → answer s n out ≡ 0 → Reads s n (message (write_call s n out)) (fields_read (message (write_call s n out)))
  call_read w t e = subst (λ (x : List ℕ). Reads s n x (fields_read x)) (sym (call_written e).0) (reads s n (length out) w t (sym answer_is ∙ e))

-- ---- the reader's answer

module _ (x : List ℕ) where
  read_answers : ((fields_read x).refusal ≡ 0) ⊎ ((fields_read x).refusal ≡ 3)
  unfolding fields_read tabled
  read_answers = taken_or_refused x

  -- what was written is taken
  message_taken : Message x → (fields_read x).refusal ≡ 0
  message_taken m =
      ap (λ (y : List ℕ). (fields_read y).refusal) (sym m.written)
      ∙ (call_read m.bytes m.session m.out m.are_bytes m.typed m.taken).refusal

  -- and what is taken was written, into a buffer that just holds it
  taken_message : (fields_read x).refusal ≡ 0 → Message x
  unfolding fields_read tabled
  taken_message e = go (taken_yields x e)
    where
      go : ((s : List ℕ) × (n : Session) × Yields x s n (length (write_of s n))) → Message x
      go (s, n, y) =
          let out : List ℕ = zeros (length (write_of s n)) in
          let z : answer s n out ≡ 0 = answer_is s n out ∙ ap (write_refusal s n) (length-replicate (length (write_of s n)) 0) ∙ y.refusal in
          record {
            bytes = s;
            session = n;
            out = out;
            are_bytes = y.bytes;
            typed = y.session;
            lent = bytes_zeros (length (write_of s n));
            taken = z;
            written = (call_written s n out z).0 ∙ y.written;
          }

  read_refused : ((fields_read x).refusal ≡ 3) ↔ (Message x → ⊥)
  read_refused = (λ e m. omega (arith, e, message_taken m), λ h. go h read_answers)
    where
      go : (Message x → ⊥) → ((fields_read x).refusal ≡ 0) ⊎ ((fields_read x).refusal ≡ 3) → (fields_read x).refusal ≡ 3
      go h (inl e) = absurd (h (taken_message e))
      go h (inr e) = e

  read_nothing : (fields_read x).refusal ≡ 3 → ((fields_read x).count ≡ 0) × ((i : ℕ) → Zero (fields_read x) i)
  unfolding fields_read tabled read_of if◌then◌otherwise◌
  read_nothing e = go (is_message x) refl
    where
      nothing : (f : FixFields) → f ≡ tabled 3 [] → (f.count ≡ 0) × ((i : ℕ) → Zero f i)
      nothing f q = (ap (λ (t : FixFields). t.count) q, λ i. subst (λ (t : FixFields). Zero t i) (sym q) (zero_past [] 3 i (omega arith)))

      go : (y : Bool) → is_message x ≡ y → ((fields_read x).count ≡ 0) × ((i : ℕ) → Zero (fields_read x) i)
      go true q = let z : ◌≡◌ {A = ℕ} 0 3 = rw q at e in absurd (omega arith)
      go false q = nothing (fields_read x) (rw q refl)

-- ---- an answer's messages

cut_taken : (a : List ℕ) → Bytes a → answer_refusal a ≡ 0 → (i : ℕ) → i < count_in a → (n : Session) (out : List ℕ)
    → (answer (cut_at a (place_of a i)) n out ≡ 3 → ⊥) × (answer (cut_at a (place_of a i)) n out ≡ 4 → ⊥)
unfolding whole_message
cut_taken a w e i h n out =
    let c = cut_out a w e i h in
    let s : List ℕ = cut_at a (place_of a i) in
    let p = past_shape s n (length out) (and_from (message_shaped s 0) (eqb (end_of s 0) (length s)) c.shape (eq-eqb (end_of s 0) (length s) c.whole)) c.right in
    (λ q. p.0 (sym (answer_is s n out) ∙ q), λ q. p.1 (sym (answer_is s n out) ∙ q))

pub claims : Claims
claims = record {
  answers = answers;
  clean = clean;
  nine = nine;
  ten = ten;
  written = call_written;
  refused = call_refused;
  past = call_past;
  frame = λ s n. (digits (length (spellings (inner (writing_of s n)))), low_digits 3 (sum (spellings (front (inner (writing_of s n)))) % 256), frame (writing_of s n));
  written_read = call_read;
  read_answers = read_answers;
  read_taken = λ x. (taken_message x, message_taken x);
  read_refused = read_refused;
  read_nothing = read_nothing;
  cut_written = cut_written;
  cut_taken = cut_taken;
  cut_past = none_past;
}
