-- The messages of a client's cancel or replace are right. Rests on Changes and Asked of Kept.
use Rattle.std.proofs.Common.{ℕ, ◌+◌, ◌^◌, ◌≤◌, ◌<◌, arith, ◌≡◌, refl, sym, ap, subst, ◌∙◌, Bool, true, false, not, ◌&&◌, eqb, leb, leb-true, lt-ltb}
use Rattle.std.proofs.lemmas.Bool.{not-false, and_parts}
use Rattle.prelude.specs.Cases.{if◌then◌otherwise◌}
use Rattle.prelude.specs.Laws.Cases.{split_if, clash}
use Rattle.format.specs.Codes.{is_status, statuses, is_exectype, exectypes, is_ordtype, is_name, within, is_price, rejected, exec_status}
use Rattle.records.specs.Record.{is_message}
use Rattle.store.specs.declared.Order.{Order}
use Rattle.store.specs.Orders.{no_order}
use Rattle.machine.specs.Constants.{other}
use Rattle.machine.specs.Orders.{is_empty, pending_terms, next_exec, with_pending}
use Rattle.machine.specs.Messages.{no_price, no_note}
use Rattle.machine.specs.Changes.{Event, next_downstream, numbered_order}
use Rattle.machine.specs.Amend.{passes, refusal, amend_refusal, cancel_refusal, cancel_goes, or_own, verdict_text, check_replace, replace_refusal, new_terms, priced_right, new_pending, replace_goes}
use Rattle.machine.specs.Events.{Ranged}
use Rattle.machine.specs.Rules.{force_range, priced_range, terms_range}
use Rattle.machine.specs.declared.Reject.{Reject}
use Rattle.machine.specs.declared.Change.{Change}
use Rattle.machine.proofs.Made.{Own, of_cancel, of_replace, status_told, refusal_told, repeated, turned, unpriced, cancel_sent, replace_sent}
use Rattle.machine.proofs.Stepped.{AmendedBy}
use Rattle.machine.proofs.Claim.Walk.{none_taken, none_refused}
use Rattle.machine.proofs.Kept.OrderSteps.{TermsKept, terms_kept, kept_terms}
use Rattle.machine.proofs.Kept.Asked.{priced_range_lem}
use Rattle.machine.proofs.Said.Reads.{right_ranged}
use Rattle.machine.proofs.Said.Rows.{Fine}
use Rattle.machine.proofs.Said.Messages.{no_right_text, no_long_text_lem, report_right, reject_right, cancel_right, replace_right, named_text, named_is, Tellable}
use Rattle.machine.proofs.Said.Orders.{next_fine, sequence_tellable, pending_tellable, numbered_tellable}
use Rattle.machine.specs.declared.Findings.{Findings}
use Rattle.records.specs.Laws.Right.{RightText, Right}
use Rattle.records.specs.Laws.Ranges.{ranges}
use Rattle.machine.proofs.Said.Changes.{Says, unchanged_says, refusing_says, adding_says, telling_says, says_heard, left_says, no_noted, wider}

-- ---- a client's cancel or replace

-- a refusal of ours that is told
record Turns (r : Reject) : Type 0 where
  reason : r.reason < 2 ^ 32
  fixedtext : r.fixedtext ≤ 18

-- a refusal of known numbers, or else the next
or_known : (t : Bool) (r : Reject) {s : Reject} → leb r.reason 99 && leb r.fixedtext 18 ≡ true → Turns s → Turns (if t then r otherwise s)
or_known t r e k =
    let (a, c) = and_parts (leb r.reason 99) (leb r.fixedtext 18) e in
    split_if Turns t (λ z. record { reason = omega (arith, leb-true r.reason 99 a); fixedtext = leb-true r.fixedtext 18 c }) (λ z. k)

no_refusal : Turns passes
no_refusal = record { reason = omega arith; fixedtext = omega arith }

amend_refuses : (f : Findings) (order : ℕ) (full : Bool) (o : Order) (e : Event) (own : Reject) → Turns own → Turns (amend_refusal f order full o e own)
unfolding amend_refusal
amend_refuses f order full o e own r = or_known _ _ refl (or_known _ _ refl (or_known _ _ refl (or_known _ _ refl (or_known _ _ refl r))))

cancel_refuses : (f : Findings) (o : Order) → Turns (cancel_refusal f o)
unfolding cancel_refusal
cancel_refuses f o = or_known _ _ refl no_refusal

-- the verdicts 1 to 7 are the texts 12 to 18
verdict_text_lem : (v : ℕ) → v ≤ 7 → verdict_text v ≡ 11 + v
unfolding verdict_text if◌then◌otherwise◌
verdict_text_lem v h = rw (lt-ltb v 244 (omega arith))

replace_refuses : (f : Findings) (o : Order) (e : Event) → e.verdict ≤ 7 → Turns (replace_refusal f o e)
unfolding replace_refusal check_replace
replace_refuses f o e v =
    let verdict : Turns (refusal other (verdict_text e.verdict)) = record { reason = omega arith; fixedtext = rw (verdict_text_lem e.verdict v) (omega arith) } in
    or_known _ _ refl (or_known _ _ refl (or_known _ _ refl (or_known _ _ refl (or_known _ _ refl (or_known _ _ refl verdict)))))

-- the order is the book's, or there is none
pub data Seen (place : ℕ) (o : Order) : Type 0 where
  no_order_seen : place ≡ 0 → o ≡ no_order → Seen place o
  some_order : Tellable o → Seen place o

module _ (f : Findings) (order : ℕ) (full : Bool) (o : Order) (e : Event) (h : Right e) (clordid : Fine 1 32 e.ids.clordid) (origclordid : Fine 1 32 e.ids.origclordid) where
  own_refuses : {kind : ℕ} {own : Reject} → Own order full o e f.place f.cancel f.requests f.requests kind own → (within 1 2 kind ≡ true) × Turns own
  own_refuses of_cancel = (refl, cancel_refuses f o)
  own_refuses of_replace = (refl, replace_refuses f o e (ranges e h).verdict)

  -- what a refusal says of the order
  record Named : Type 0 where
    name : RightText o.names.name
    named : is_empty o.names.name ≡ false → is_name o.names.name ≡ true
    status : is_status (if eqb f.place 0 then rejected otherwise o.state.status) ≡ true

  seen_named : Seen f.place o → Named
  seen_named (some_order t) = record {
    name = named_text o.names.name t.names.name;
    named = λ z. named_is o.names.name t.names.name;
    status = split_if (λ (s : ℕ). is_status s ≡ true) _ (λ z. unfold is_status statuses in refl) (λ z. t.state.status);
  }
  seen_named (no_order_seen p s) = record {
    name = subst (λ (x : Order). RightText x.names.name) (sym s) no_right_text;
    named = subst (λ (x : Order). is_empty x.names.name ≡ false → is_name x.names.name ≡ true) (sym s) (λ z. clash true refl z);
    status = ap (λ (x : ℕ). is_status (if eqb x 0 then rejected otherwise o.state.status)) p ∙ (unfold is_status statuses if◌then◌otherwise◌ in refl);
  }

  refuse_heard : {kind : ℕ} {own : Reject} → Own order full o e f.place f.cancel f.requests f.requests kind own → Named
      → not (eqb (amend_refusal f order full o e own).fixedtext 0) ≡ true → is_message (refusal_told f.place kind o e (amend_refusal f order full o e own)) ≡ true
  refuse_heard {kind} {own} w n some =
      let (x, y) = own_refuses w in
      let k : Turns (amend_refusal f order full o e own) = amend_refuses f order full o e own y in
      reject_right e.client o.names.name _ e.ids.clordid e.ids.origclordid kind _ (ranges e h).client n.name n.named n.status clordid origclordid x
      (record { text = no_long_text_lem; fixedtext = k.fixedtext; reason = k.reason; origin = omega arith; unsaid = λ z. absurd (omega arith); one = refl })
      (sym (ap not some)) refl

  module _ (t : Tellable o) where
    status_heard : is_message (status_told o e) ≡ true
    status_heard =
        report_right (next_exec o) e.ids.clordid e.ids.origclordid exec_status 0 no_price no_note (sequence_tellable o t) clordid (wider _ origclordid)
        (unfold is_exectype exectypes in refl) refl (record { two = refl; low = omega arith; high = omega arith }) (omega arith) no_noted

    cancel_goes_lem : Says (cancel_goes f o e)
    unfolding cancel_goes
    cancel_goes_lem = telling_says _ _ (cancel_right _ (numbered_tellable f true o t) (next_downstream o) (next_fine o t)) (adding_says _ _ (unchanged_says _ _))

    replace_goes_lem : priced_right (or_own e.terms.ordtype o.terms.ordtype) e ≡ true → Says (replace_goes f o e)
    unfolding replace_goes
    replace_goes_lem priced =
        telling_says _ _ (replace_right _ p (next_downstream o) (next_fine o t) (new_terms o e) terms) (adding_says _ _ (unchanged_says _ _))
      where
        own : TermsKept o.terms
        own = terms_kept o.terms t.terms

        ranged : Ranged e
        ranged = right_ranged e h

        listed : is_ordtype (or_own e.terms.ordtype o.terms.ordtype) ≡ true
        listed = unfold or_own in
            split_if (λ (n : ℕ). is_ordtype n ≡ true) _
            (λ z. unfold priced_range in (and_parts (is_ordtype o.terms.ordtype) (is_price o.terms.price) (and_parts (is_ordtype o.terms.ordtype && is_price o.terms.price) _ own.priced).0).0)
            (λ z. ranged.ordtype z)

        terms : terms_range (new_terms o e) ≡ true
        terms = unfold new_terms or_own in kept_terms _ (record {
          side = own.side;
          priced = priced_range_lem _ e ranged (unfold or_own in listed) (unfold or_own in priced);
          timeinforce = split_if (λ (n : ℕ). force_range n ≡ true) _ (λ z. own.timeinforce) (λ z. ranged.timeinforce);
          qty = ranged.qty;
        })

        p : Tellable (with_pending (new_pending f (new_terms o e)) (numbered_order f false o))
        p = pending_tellable (new_pending f (new_terms o e)) (numbered_order f false o) (λ z. unfold new_pending pending_terms numbered_order new_terms in terms) (numbered_tellable f false o t)

  -- nothing goes out if there is no order
  pub amended_says : Seen f.place o → (c c' : Change) → AmendedBy f order full o e c c' → Says c
  amended_says (some_order t) c c' (repeated z) = left_says (says_heard (status_heard t))
  amended_says (no_order_seen p s) c c' (repeated z) = clash _ z (none_taken f order e p)
  amended_says (some_order t) c c' (turned w z) = left_says (says_heard (refuse_heard w (seen_named (some_order t)) z))
  amended_says (no_order_seen p s) c c' (turned w z) = left_says (says_heard (refuse_heard w (seen_named (no_order_seen p s)) z))
  amended_says (some_order t) c c' (unpriced z) = refusing_says 6
  amended_says (no_order_seen p s) c c' (unpriced z) = refusing_says 6
  amended_says (some_order t) c c' (cancel_sent y z) = cancel_goes_lem t
  amended_says (no_order_seen p s) c c' (cancel_sent y z) = clash _ (not-false _ z) (none_refused f order full o e _ p)
  amended_says (some_order t) c c' (replace_sent z y) = replace_goes_lem t y
  amended_says (no_order_seen p s) c c' (replace_sent z y) = clash _ (not-false _ z) (none_refused f order full o e _ p)
