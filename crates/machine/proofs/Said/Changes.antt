-- The messages of each change are right, of venues' events and of the gateway's own cancels: one law for a function of the handling. Rests on Orders, Reads and Stepped.
-- Those of a client's cancel or replace are in Amendments.
use Rattle.std.proofs.Common.{ℕ, ◌-◌, ◌^◌, ◌≤◌, ◌<◌, arith, mod-lt, ◌≡◌, refl, sym, ap, subst, ◌∙◌, ⊎_elim, Bool, true, false, not, ◌&&◌, eqb, lit<, eqb-true, ne_eqb, le-leb}
use Rattle.std.proofs.Math.Bool.{and-false, not-and_self}
use Rattle.std.proofs.lemmas.Bool.{eqb-false, not-true, and_parts, or_cases, and_from}
use Rattle.prelude.specs.Cases.{if◌then◌otherwise◌}
use Rattle.prelude.specs.Laws.Cases.{split_if, clash}
use Rattle.prelude.specs.declared.Text.{Text}
use Rattle.wide.specs.Laws.Words.{upper_word}
use Rattle.wide.specs.Laws.Price.{price_fits, source_range}
use Rattle.format.specs.Codes.{is_status, statuses, is_exectype, exectypes, within, rejected, exec_rejected}
use Rattle.records.specs.Record.{is_message}
use Rattle.store.specs.declared.Pending.{Pending}
use Rattle.store.specs.declared.Order.{Order}
use Rattle.store.specs.declared.Request.{Request}
use Rattle.store.specs.Orders.{no_pending}
use Rattle.text.specs.Stored.{no_text}
use Rattle.machine.specs.Constants.{text_rejected, other, venues}
use Rattle.machine.specs.Orders.{set_status, record_venue_order_id, pending_terms, next_exec, with_pending}
use Rattle.machine.specs.Messages.{no_price, no_note}
use Rattle.machine.specs.Changes.{Event, has, Message, unchanged, refusing, adding, telling, alarming, is_first, is_replace, is_gateway, is_cancel, next_downstream}
use Rattle.machine.specs.GatewayCancel.{begun, send_gateway_cancel}
use Rattle.machine.specs.Amend.{not_pending, refused_order, refused_alarm, refused_note, venue_note}
use Rattle.machine.specs.Report.{is_rejection, pending_here, status_taken, accepts, answers_request, reported_order, fill_price_of, report_note, client_report}
use Rattle.machine.specs.Rules.{terms_range}
use Rattle.machine.specs.declared.Note.{Note}
use Rattle.machine.specs.declared.Refused.{Refused}
use Rattle.machine.specs.declared.Output.{Output}
use Rattle.machine.specs.declared.Change.{Change}
use Rattle.machine.proofs.Made.{calm, says, stuck_behind, left, Failure, told_us, not_sent, From, by_report, by_reject, by_failure, Refuses, still, gone, given_up_lem, told, Fails, unfailed, refused, freed, fell, ended, new_again, cancel_again, replace_again, failing, Left, fails, resends, alarms, names, applies, informs, quietly, retries, stays, refusing!, resumes, declined, waits, goes}
use Rattle.machine.proofs.Stepped.{MadeBy, AskedBy}
use Rattle.machine.proofs.Kept.Laws.{TextKept, text_kept, kept_text}
use Rattle.machine.proofs.Kept.Refused.{freed_coded}
use Rattle.machine.proofs.Kept.Steps.{replace_client}
use Rattle.machine.proofs.Said.Reads.{right_ranged, right_exectype}
use Rattle.machine.proofs.Said.Rows.{Fine}
use Rattle.machine.proofs.Said.Messages.{Words, Noted, no_fine, no_long_text_lem, report_right, reject_right, new_right, cancel_right, replace_right, named_text, named_is, Tellable}
use Rattle.machine.proofs.Said.Orders.{Asks, next_fine, sequence_tellable, state_tellable, status_tellable, named_tellable, pending_tellable, gateway_tellable, numbered_tellable, replaced_tellable}
use Rattle.machine.specs.declared.Findings.{Findings}
use Rattle.records.specs.Laws.Right.{Right}
use Rattle.records.specs.Laws.Ranges.{Ranges, ranges}

-- ---- the messages of a change

-- those that are put out are right, by their count
pub record Says (c : Change) : Type 0 where
  pub first : eqb c.output.count 0 ≡ false → is_message c.output.first ≡ true
  pub second : eqb c.output.count 0 ≡ false → eqb c.output.count 1 ≡ false → is_message c.output.second ≡ true

pub unchanged_says : (place : ℕ) (o : Order) → Says (unchanged place o)
unfolding unchanged
unchanged_says place o = record { first = λ z. clash true refl z; second = λ z. clash true refl z }

pub refusing_says : (n : ℕ) → Says (refusing n)
unfolding refusing
refusing_says n = record { first = λ z. clash true refl z; second = λ z. clash true refl z }

pub alarming_says : (a : ℕ) (c : Change) → Says c → Says (alarming a c)
unfolding alarming
alarming_says a c s = record { first = s.first; second = s.second }

pub adding_says : (q : Request) (c : Change) → Says c → Says (adding q c)
unfolding adding
adding_says q c s = record { first = s.first; second = s.second }

pub telling_says : (m : Message) (c : Change) → is_message m ≡ true → Says c → Says (telling m c)
unfolding telling if◌then◌otherwise◌
telling_says m c r s = record {
  first = λ z. split_if (λ (x : Message). is_message x ≡ true) (eqb c.output.count 0) (λ e. r) (λ e. s.first e);
  second = λ z. behind (eqb c.output.count 0);
}
  where
    behind : (t : Bool) → eqb (if t then 1 otherwise 2) 1 ≡ false → is_message (if t then c.output.second otherwise m) ≡ true
    behind true y = clash true refl y
    behind false y = r

-- what is put out: at most one message, and it is right
pub record Heard (out : Output) : Type 0 where
  pub few : out.count ≤ 1
  pub first : eqb out.count 0 ≡ false → is_message out.first ≡ true

calm_heard : (a : ℕ) → Heard (calm a)
calm_heard a = record { few = omega arith; first = λ z. clash true refl z }

behind_heard : (a : ℕ) → Heard (stuck_behind a)
behind_heard a = record { few = omega arith; first = λ z. clash true refl z }

pub says_heard : {m : Message} {a : ℕ} → is_message m ≡ true → Heard (says m a)
says_heard r = record { few = omega arith; first = λ z. r }

pub left_says : {p : ℕ} {y : Order} {j s v : ℕ} {out : Output} → Heard out → Says (left p y j s v out)
left_says {out = out} h = record {
  first = h.first;
  second = λ z u. let l : out.count ≤ 1 = h.few in let a : (out.count ≡ 0 → ⊥) = eqb-false out.count 0 z in let b : (out.count ≡ 1 → ⊥) = eqb-false out.count 1 u in absurd (omega arith);
}

-- a gateway cancel goes out
send_says : (f : Findings) (p : ℕ) (y : Order) (j s v : ℕ) {out : Output} → Tellable y → Heard out → Says (send_gateway_cancel f (left p y j s v out))
unfolding send_gateway_cancel
send_says f p y j s v {out} t h =
    telling_says _ _ (cancel_right _ (gateway_tellable _ _ (numbered_tellable f true y t)) (next_downstream y) (next_fine y t))
    (adding_says _ _ (left_says h))

-- ---- notes

pub no_noted : Noted no_note
no_noted = record { text = no_long_text_lem; fixedtext = omega arith; reason = omega arith; origin = omega arith; unsaid = λ z. refl; one = refl }

-- what the event says, with no fixed text
module _ (e : Event) (h : Right e) where
  said_noted : (reason origin : ℕ) → reason < 2 ^ 32 → origin ≤ 2 → (origin ≡ 0 → reason ≡ 0) → Noted (record { text = e.text; fixedtext = 0; reason = reason; origin = origin })
  said_noted reason origin r o u = record { text = h.text; fixedtext = omega arith; reason = r; origin = o; unsaid = u; one = and-false (not (eqb e.text.len 0)) }

  venue_noted : Noted (venue_note e)
  unfolding venue_note
  venue_noted = said_noted e.reason (if has e 19 then venues otherwise 0) (ranges e h).reason
      (split_if (λ (n : ℕ). n ≤ 2) _ (λ t. omega arith) (λ t. omega arith))
      (split_if (λ (n : ℕ). n ≡ 0 → e.reason ≡ 0) (has e 19) (λ t z. absurd (omega arith)) (λ t z. h.absent 19 (lit< tt) t))

  pub text_noted : Noted (record { text = e.text; fixedtext = 0; reason = 0; origin = 0 })
  text_noted = said_noted 0 0 (omega arith) (omega arith) (λ z. refl)

  report_noted : Noted (report_note e)
  unfolding report_note
  report_noted = said_noted (if is_rejection e then e.reason otherwise 0) (if is_rejection e && has e 19 then venues otherwise 0)
      (split_if (λ (n : ℕ). n < 2 ^ 32) _ (λ t. (ranges e h).reason) (λ t. omega arith))
      (split_if (λ (n : ℕ). n ≤ 2) _ (λ t. omega arith) (λ t. omega arith))
      (silent (is_rejection e) (has e 19) (h.absent 19 (lit< tt)))
    where
      silent : (a b : Bool) → (b ≡ false → e.reason ≡ 0) → (if a && b then venues otherwise 0) ≡ 0 → (if a then e.reason otherwise 0) ≡ 0
      silent true true g z = unfold if◌then◌otherwise◌ in let y : ◌≡◌ {A = ℕ} 2 0 = z in absurd (omega arith)
      silent true false g z = unfold if◌then◌otherwise◌ in g refl
      silent false b g z = unfold if◌then◌otherwise◌ in refl

-- a refusal's note has a reason, and a text or a fixed text
record Answered (n : Note) : Type 0 where
  noted : Noted n
  one : not (eqb n.text.len 0) ≡ not (not (eqb n.fixedtext 0))
  reason : not (eqb n.origin 0) ≡ true

refused_note_lem : (n : Note) → Noted n → Answered (refused_note n)
unfolding refused_note
refused_note_lem n k =
    let x : Bool = eqb n.text.len 0 in
    let y : Bool = eqb n.fixedtext 0 in
    let t : ℕ = if x && y then text_rejected otherwise n.fixedtext in
    let alone : not x ≡ not (not (eqb t 0)) = exactly x y refl k.one in
    record {
      noted = record {
        text = k.text;
        fixedtext = split_if (λ (m : ℕ). m ≤ 18) _ (λ e. omega arith) (λ e. k.fixedtext);
        reason = split_if (λ (m : ℕ). m < 2 ^ 32) _ (λ e. omega arith) (λ e. k.reason);
        origin = split_if (λ (m : ℕ). m ≤ 2) _ (λ e. omega arith) (λ e. k.origin);
        unsaid = split_if (λ (m : ℕ). m ≡ 0 → (if eqb n.origin 0 then other otherwise n.reason) ≡ 0) (eqb n.origin 0) (λ e z. absurd (omega arith)) (λ e z. absurd (eqb-false n.origin 0 e z));
        one = ap (λ (b : Bool). b && not (eqb t 0)) alone ∙ not-and_self (not (eqb t 0));
      };
      one = alone;
      reason = split_if (λ (m : ℕ). not (eqb m 0) ≡ true) (eqb n.origin 0) (λ e. refl) (λ e. ap not e);
    }
  where
    exactly : (x y : Bool) → eqb n.fixedtext 0 ≡ y → not x && not y ≡ false → not x ≡ not (not (eqb (if x && y then text_rejected otherwise n.fixedtext) 0))
    exactly true true e o = unfold if◌then◌otherwise◌ in refl
    exactly true false e o = unfold if◌then◌otherwise◌ in rw e refl
    exactly false true e o = unfold if◌then◌otherwise◌ in rw e refl
    exactly false false e o = clash true refl o

-- ---- a request refused

refused_tellable : (k : ℕ) (r : Refused) (o : Order) → (eqb r.status 0 ≡ false → is_status r.status ≡ true) → Fine 0 32 r.venueorderid → Tellable o → Tellable (refused_order k r o)
unfolding refused_order not_pending
refused_tellable k r o s v t =
    let n : Tellable (record_venue_order_id r.venueorderid false o) = named_tellable r.venueorderid false o v t in
    let p : Tellable (with_pending (if eqb o.pending.request k then no_pending otherwise o.pending) (record_venue_order_id r.venueorderid false o)) =
    pending_tellable _ (record_venue_order_id r.venueorderid false o)
    (unfold record_venue_order_id pending_terms in
    split_if (λ (x : Pending). eqb x.request 0 ≡ false → terms_range (record { side = o.terms.side; ordtype = x.ordtype; timeinforce = x.timeinforce; qty = x.qty; price = x.price }) ≡ true) _
    (λ e z. clash true refl z) (λ e. t.pending)) n in
    split_if Tellable _ (λ e. p)
    (λ e. split_if Tellable _ (λ e. status_tellable r.status _ (s (not-true (eqb r.status 0) e)) p)
    (λ e. split_if Tellable _ (λ e. status_tellable _ _ (freed_coded _) p) (λ e. p)))

-- a cancel or replace of the client's
client_kind : (q : Request) → q.kind ≤ 3 → is_first q ≡ false → is_gateway q ≡ false → within 1 2 q.kind ≡ true
unfolding is_first is_gateway
client_kind q h f g =
    let a : (q.kind ≡ 0 → ⊥) = eqb-false q.kind 0 f in
    let c : (q.kind ≡ 3 → ⊥) = eqb-false q.kind 3 g in
    and_from _ _ (le-leb 1 q.kind (omega arith)) (le-leb q.kind 2 (omega arith))

-- ---- a report

-- a range that begins lower
pub wider : (t : Text) → Fine 1 32 t → Fine 0 32 t
wider t f =
    let k : TextKept 1 32 t = text_kept 1 32 t f.range in
    record { long = f.long; range = kept_text 0 32 t (record { stored = k.stored; above = omega arith; below = k.below }) }

-- the fill price of an event in range has two words, and a source
price_words : (o : Order) (e : Event) → Right e → Words (fill_price_of o e).price
unfolding fill_price_of
price_words o e h =
    let r : Ranges e = ranges e h in
    price_fits _ _ _ _ _ _ _ r.lastpx r.cumqty r.avgpx Words (λ n f. record { two = refl; low = mod-lt n (lit< tt); high = upper_word n f })

price_source : (o : Order) (e : Event) → (fill_price_of o e).source ≤ 3
unfolding fill_price_of
price_source o e = (source_range _ _ _ _ _ _ _).1

-- a request of which the client is told is a cancel or replace of its own
answers_client : (k : ℕ) (q : Request) (o : Order) → answers_request k q o ≡ true → (is_first q ≡ false) × (is_gateway q ≡ false)
unfolding answers_request is_cancel
answers_client k q o e =
    let (g, c) = and_parts (not (is_gateway q)) _ e in (
      ⊎_elim (λ z. not-true (is_first q) (and_parts (not (is_first q)) (not (is_replace q)) z).0) (λ z. apart (and_parts (is_replace q) (pending_here k o) z).0) (or_cases (not (is_first q) && not (is_replace q)) _ c),
      not-true (is_gateway q) g,
    )
  where
    apart : is_replace q ≡ true → is_first q ≡ false
    apart z = unfold is_replace is_first in ne_eqb q.kind 0 (λ y. let x : q.kind ≡ 2 = eqb-true q.kind 2 (unfold is_replace in z) in omega arith)

module _ (o : Order) (t : Tellable o) (k : ℕ) (q : Request) (a : Asks q) (some : eqb k 0 ≡ false) (mine : eqb o.pending.request k ≡ true → is_replace q ≡ true)
    (e : Event) (h : Right e) where
  given : Fine 0 32 e.ids.venueorderid
  given = record { long = h.venueorderid.long; range = (right_ranged e h).venueorderid }

  pending_there : accepts k q o e ≡ true → eqb o.pending.request k ≡ true
  unfolding accepts pending_here
  pending_there z = (and_parts (eqb o.pending.request k) (not (is_rejection e)) (and_parts (eqb o.pending.request k && not (is_rejection e)) _ z).0).0

  status_listed : (s : ℕ) → s ≡ status_taken k q o e → is_status (if eqb s 0 then o.state.status otherwise s) ≡ true
  status_listed s taken = split_if (λ (x : ℕ). is_status x ≡ true) (eqb s 0) (λ z. t.state.status) (λ z. listed z)
    where
      listed : eqb s 0 ≡ false → is_status s ≡ true
      listed z = unfold status_taken in
          split_if (λ (n : ℕ). s ≡ n → is_status s ≡ true) _ (λ d y. absurd (eqb-false s 0 z y))
          (λ d y. subst (λ (n : ℕ). is_status n ≡ true) (sym y) ((right_ranged e h).status (sym (ap (λ (n : ℕ). eqb n 0) y) ∙ z))) taken

  -- the order as the report leaves it
  reported_tellable : (accepted : Bool) (s : ℕ) → accepted ≡ accepts k q o e → s ≡ status_taken k q o e → Tellable (reported_order accepted s q o e)
  unfolding reported_order record_venue_order_id if◌then◌otherwise◌
  reported_tellable true s is taken =
      let here : eqb o.pending.request k ≡ true = pending_there (sym is) in
      let n : Tellable (record_venue_order_id e.ids.venueorderid true o) = named_tellable e.ids.venueorderid true o given t in
      state_tellable _ o.state.status e.exec.cumqty e.exec.avgpx o.state.execseq _ (status_listed s taken)
      (le-leb e.exec.cumqty (10 ^ 12) (ranges e h).cumqty) (right_ranged e h).avgpx t.state.execseq
      (replaced_tellable q (record_venue_order_id e.ids.venueorderid true o) (a.clordid (replace_client q (mine here))) a.downstream (ap (λ (n : ℕ). eqb n 0) (eqb-true o.pending.request k here) ∙ some) n)
  reported_tellable false s is taken =
      state_tellable _ o.state.status e.exec.cumqty e.exec.avgpx o.state.execseq _ (status_listed s taken)
      (le-leb e.exec.cumqty (10 ^ 12) (ranges e h).cumqty) (right_ranged e h).avgpx t.state.execseq
      (named_tellable e.ids.venueorderid false o given t)

  client_right : e.kind ≡ 4 → (p : Order) → Tellable p → is_message (client_report (answers_request k q o) (e.exec.cumqty - o.state.cumqty) q (fill_price_of o e) p e) ≡ true
  unfolding client_report
  client_right kind p s =
      let most : e.exec.cumqty ≤ 1000000000000 = (ranges e h).cumqty in
      report_right p _ _ _ (e.exec.cumqty - o.state.cumqty) (fill_price_of o e) (report_note e) s
      (split_if (Fine 1 32) _ (λ z. a.clordid (answers_client k q o z).1) (λ z. s.names.clordid))
      (split_if (Fine 0 32) _ (λ z. let (first, gateway) = answers_client k q o z in wider _ (a.origclordid first gateway)) (λ z. no_fine))
      (split_if (λ (x : ℕ). is_exectype x ≡ true) _ (λ z. unfold is_exectype exectypes in refl) (λ z. right_exectype e h kind))
      (le-leb (e.exec.cumqty - o.state.cumqty) (10 ^ 12) (omega arith)) (price_words o e h) (price_source o e) (report_noted e h)

  failure_noted : {n : Note} {v : ℕ} → Failure k q o e n v → Noted n
  failure_noted (told_us h') = text_noted e h
  failure_noted (not_sent h') = record { text = no_long_text_lem; fixedtext = omega arith; reason = omega arith; origin = omega arith; unsaid = λ z. refl; one = refl }

  -- what refuses a request is right
  record Refusable (r : Refused) : Type 0 where
    status : eqb r.status 0 ≡ false → is_status r.status ≡ true
    named : Fine 0 32 r.venueorderid
    noted : Noted r.note

  refusable : {r : Refused} → From k q o e r → Refusable r
  refusable (by_report v) = record {
    status = split_if (λ (n : ℕ). eqb n 0 ≡ false → is_status n ≡ true) _ (λ z y. clash true refl y) (λ z. (right_ranged e h).status);
    named = given;
    noted = text_noted e h;
  }
  refusable (by_reject v) = record { status = (right_ranged e h).status; named = given; noted = venue_noted e h }
  refusable (by_failure n) = record { status = λ z. t.state.status; named = no_fine; noted = failure_noted n }

  refused_told : {r : Refused} → From k q o e r → Tellable (refused_order k r o)
  refused_told {r} w = let f = refusable w in refused_tellable k r o f.status f.named t

  refuses_heard : {y : Order} {j s v : ℕ} {out : Output} → Refuses k q o e y j s v out → Tellable y × Heard out
  refuses_heard still = (t, calm_heard 0)
  refuses_heard (gone w u g) = (refused_told w, calm_heard _)
  refuses_heard (given_up_lem {r} w u g z) = (gateway_tellable _ _ (refused_told w), behind_heard (refused_alarm r o))
  refuses_heard (told {r} w u g) =
      let p : Tellable (refused_order k r o) = refused_told w in
      let m : Answered (refused_note r.note) = refused_note_lem r.note (refusable w).noted in (
        p,
        says_heard (reject_right o.client o.names.name (refused_order k r o).state.status q.clordid q.origclordid q.kind (refused_note r.note)
            t.client (named_text o.names.name t.names.name) (λ z. named_is o.names.name t.names.name) p.state.status
            (a.clordid g) (a.origclordid u.later g) (client_kind q a.kind u.later g) m.noted m.one m.reason),
      )

  fails_heard : {y : Order} {j s v : ℕ} {out : Output} → Fails k q o e y j s v out → Heard out
  fails_heard unfailed = calm_heard 0
  fails_heard (refused r g) = (refuses_heard r).1
  fails_heard (freed w g z) = calm_heard 0
  fails_heard (fell w u g v z) = calm_heard 0
  fails_heard (ended {n} w u g z) =
      let m : Noted n = failure_noted w in
      let p : Tellable (next_exec (set_status rejected o)) = sequence_tellable _ (status_tellable rejected o (unfold is_status statuses in refl) t) in
      says_heard
      (report_right (next_exec (set_status rejected o)) _ no_text exec_rejected 0 no_price _ p p.names.clordid no_fine (unfold is_exectype exectypes in refl) refl
      (record { two = refl; low = omega arith; high = omega arith }) (omega arith)
      (record { text = m.text; fixedtext = m.fixedtext; reason = omega arith; origin = omega arith; unsaid = λ z. absurd (omega arith); one = m.one }))

  left_heard : {y : Order} {j s v : ℕ} {out : Output} → Left k q o e y j s v out → Heard out
  left_heard (fails z l) = fails_heard l
  left_heard (resends z new_again) = says_heard (new_right o t q.downstream a.downstream)
  left_heard (resends z (cancel_again u)) = says_heard (cancel_right o t q.downstream a.downstream)
  left_heard (resends z (replace_again u)) =
      says_heard (replace_right o t q.downstream a.downstream (pending_terms o) (t.pending (ap (λ (n : ℕ). eqb n 0) (eqb-true o.pending.request k u) ∙ some)))
  left_heard (resends z (failing u l)) = fails_heard l
  left_heard (alarms x l) = calm_heard x
  left_heard names = calm_heard 0
  left_heard (applies x u s) = calm_heard _
  left_heard (informs x s) = says_heard (client_right (eqb-true e.kind 4 x.kind) _ (sequence_tellable _ (reported_tellable _ _ refl refl)))

  pub made_says : {f : Findings} (c c' : Change) → MadeBy f k q o e c c' → Says c
  made_says c c' (stays l) = left_says (left_heard l)
  made_says c c' (refusing! z (quietly r)) = left_says (refuses_heard r).1
  made_says c c' (refusing! z (retries w u g v x)) = send_says _ _ _ _ _ _ (refused_told w) (calm_heard _)
  made_says c c' (resumes z r v x) = send_says _ _ _ _ _ _ (refuses_heard r).0 (refuses_heard r).1

pub asked_says : {f : Findings} {o : Order} → Tellable o → (c c' : Change) → AskedBy f o c c' → Says c
asked_says t c c' (declined z) = left_says (calm_heard 0)
asked_says t c c' (waits d g) = left_says (calm_heard 0)
asked_says {f} {o} t c c' (goes d g) = send_says _ _ _ _ _ _ (gateway_tellable (begun o) o t) (calm_heard 0)
