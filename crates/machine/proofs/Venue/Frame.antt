-- What holds of a change's messages, of its alarm and of its order, as it is put together. Rests on Amend.
use Rattle.std.proofs.Common.{ℕ, ◌≡◌, refl, Bool, true, false, not, eqb}
use Rattle.std.proofs.lemmas.Bool.{not-true, not-false}
use Rattle.prelude.specs.Cases.{if◌then◌otherwise◌}
use Rattle.prelude.specs.Laws.Cases.{split_if, clash}
use Rattle.store.specs.declared.Order.{Order}
use Rattle.store.specs.declared.Request.{Request}
use Rattle.machine.specs.Constants.{report_kind, stuck_cancel}
use Rattle.machine.specs.Orders.{with_gateway}
use Rattle.machine.specs.Messages.{cancel_reject, cancel_request, to_venue}
use Rattle.machine.specs.Changes.{Message, unchanged, answering, superseding, adding, telling, alarming, is_first, is_answered, numbered_order}
use Rattle.machine.specs.GatewayCancel.{try_sent, given_up, send_gateway_cancel, resume_gateway_cancel, stuck, retry_gateway_cancel, gateway_cancel_refused}
use Rattle.machine.specs.Amend.{refused_order, refused_alarm, refuse_request}
use Rattle.machine.specs.Report.{settles}
use Rattle.machine.specs.declared.Findings.{Findings}
use Rattle.machine.specs.declared.Note.{Note}
use Rattle.machine.specs.declared.Refused.{Refused}
use Rattle.machine.specs.declared.Change.{Change}

-- each message is P, the first alarm A, the order O
pub record Fits (P : Message → Type 0) (A : ℕ → Type 0) (O : Order → Type 0) (c : Change) : Type 0 where
  pub first : eqb c.output.count 0 ≡ false → P c.output.first
  pub second : eqb c.output.count 0 ≡ false → eqb c.output.count 1 ≡ false → P c.output.second
  pub alarm : A c.output.alarm
  pub order : O c.order

-- P asks about reports alone; an alarm 1 behind the first one, and the gateway cancel's record, change nothing
pub record Ways (P : Message → Type 0) (A : ℕ → Type 0) (O : Order → Type 0) : Type 0 where
  pub others : (m : Message) → eqb m.kind report_kind ≡ false → P m
  pub behind : (a : ℕ) → A a → A (if eqb a 0 then stuck_cancel otherwise a)
  pub sent : (f : Findings) (x : Order) → O x → O (with_gateway (try_sent x) (numbered_order f true x))
  pub given : (x : Order) → O x → O (with_gateway (given_up x) x)

module _ {P : Message → Type 0} {A : ℕ → Type 0} {O : Order → Type 0} where
  pub unchanged_fits : (place : ℕ) (o : Order) → A 0 → O o → Fits P A O (unchanged place o)
  unfolding unchanged
  unchanged_fits place o a h = record { first = λ z. clash true refl z; second = λ z. clash true refl z; alarm = a; order = h }

  module _ (c : Change) (h : Fits P A O c) where
    pub answering_fits : (k v : ℕ) → Fits P A O (answering k v c)
    unfolding answering
    answering_fits k v = record { first = h.first; second = h.second; alarm = h.alarm; order = h.order }

    pub superseding_fits : (k : ℕ) → Fits P A O (superseding k c)
    unfolding superseding
    superseding_fits k = record { first = h.first; second = h.second; alarm = h.alarm; order = h.order }

    pub adding_fits : (q : Request) → Fits P A O (adding q c)
    unfolding adding
    adding_fits q = record { first = h.first; second = h.second; alarm = h.alarm; order = h.order }

    pub telling_fits : (m : Message) → P m → Fits P A O (telling m c)
    unfolding telling if◌then◌otherwise◌
    telling_fits m p = record {
      first = λ z. split_if P (eqb c.output.count 0) (λ e. p) (λ e. h.first e);
      second = λ z. second (eqb c.output.count 0);
      alarm = h.alarm;
      order = h.order;
    }
      where
        second : (t : Bool) → eqb (if t then 1 otherwise 2) 1 ≡ false → P (if t then c.output.second otherwise m)
        second true y = clash true refl y
        second false y = p

    pub settles_fits : (accepted : Bool) (s k : ℕ) (q : Request) (o : Order) → Fits P A O (settles accepted s k q o c)
    unfolding settles superseding answering
    settles_fits accepted s k q o =
        split_if (Fits P A O) accepted (λ e. record { first = h.first; second = h.second; alarm = h.alarm; order = h.order })
        (λ e. split_if (Fits P A O) _ (λ e. record { first = h.first; second = h.second; alarm = h.alarm; order = h.order }) (λ e. h))

-- the first alarm of a change
pub alarming_fits : {P : Message → Type 0} {A : ℕ → Type 0} {O : Order → Type 0} (a : ℕ) (c : Change) → Fits P (λ x. x ≡ 0) O c → A a → Fits P A O (alarming a c)
unfolding alarming if◌then◌otherwise◌
alarming_fits a c h p = record { first = h.first; second = h.second; alarm = rw h.alarm p; order = h.order }

-- ---- the gateway's own cancels, and a request refused

module _ {P : Message → Type 0} {A : ℕ → Type 0} {O : Order → Type 0} (w : Ways P A O) (f : Findings) where
  module _ (c : Change) (h : Fits P A O c) where
    pub send_fits : Fits P A O (send_gateway_cancel f c)
    unfolding send_gateway_cancel adding cancel_request to_venue
    send_fits =
        telling_fits _ (record { first = h.first; second = h.second; alarm = h.alarm; order = w.sent f c.order h.order }) _ (w.others _ refl)

    pub resume_fits : Fits P A O (resume_gateway_cancel f c)
    unfolding resume_gateway_cancel
    resume_fits = split_if (Fits P A O) _ (λ e. send_fits) (λ e. h)

    stuck_fits : Fits P A O (stuck c)
    unfolding stuck alarming
    stuck_fits = record { first = h.first; second = h.second; alarm = w.behind _ h.alarm; order = w.given c.order h.order }

    gateway_refused_fits : (n : Note) → Fits P A O (gateway_cancel_refused f n c)
    unfolding gateway_cancel_refused retry_gateway_cancel
    gateway_refused_fits n =
        split_if (Fits P A O) _ (λ e. h)
        (λ e. split_if (Fits P A O) _ (λ e. stuck_fits) (λ e. split_if (Fits P A O) _ (λ e. stuck_fits) (λ e. send_fits)))

  -- the first request, another venue's word and an answered request change nothing
  pub refuse_fits : (k : ℕ) (q : Request) (venue : ℕ) (r : Refused) (o : Order)
      → (is_first q ≡ true → A 0 × O o) → (eqb o.venue venue ≡ false → A 0 × O o) → (is_answered q ≡ true → A 0 × O o)
      → (is_first q ≡ false → eqb o.venue venue ≡ true → is_answered q ≡ false → A (refused_alarm r o) × O (refused_order k r o))
      → Fits P A O (refuse_request f k q venue r o)
  unfolding refuse_request
  refuse_fits k q venue r o first other answered counts =
      split_if (Fits P A O) (is_first q) (λ a. still (first a))
      (λ a. split_if (Fits P A O) (not (eqb o.venue venue)) (λ b. still (other (not-true _ b)))
      (λ b. split_if (Fits P A O) (is_answered q) (λ d. still (answered d))
      (λ d. let c = gone (counts a (not-false _ b) d) in
      split_if (Fits P A O) _ (λ g. c)
      (λ g. split_if (Fits P A O) _ (λ g. gateway_refused_fits _ c r.note) (λ g. unfold cancel_reject in telling_fits _ c _ (w.others _ refl))))))
    where
      still : A 0 × O o → Fits P A O (unchanged f.place o)
      still p = unchanged_fits f.place o p.0 p.1

      gone : A (refused_alarm r o) × O (refused_order k r o) → Fits P A O (alarming (refused_alarm r o) (answering k r.outcome (unchanged f.place (refused_order k r o))))
      gone p = alarming_fits _ _ (answering_fits _ (unchanged_fits f.place _ refl p.1) k _) p.0
