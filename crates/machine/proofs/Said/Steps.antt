-- Every message that an event puts out on a book that keeps its rules is right. Rests on Changes.
use Rattle.std.proofs.Common.{ℕ, ◌+◌, ◌-◌, ◌≤◌, ◌<◌, arith, ◌≡◌, refl, subst, true, false, Some, List, eqb, length, eqb-true, ne_eqb}
use Rattle.std.proofs.lemmas.Bool.{and_parts, and_from}
use Rattle.prelude.specs.Span.{splice}
use Rattle.prelude.specs.Laws.Below.{first_some}
use Rattle.prelude.specs.Laws.Cases.{split_if}
use Rattle.records.specs.Record.{is_message}
use Rattle.records.specs.Answer.{answer_bytes, answer_alarm, answer_alarm2, chosen, are_messages}
use Rattle.store.specs.declared.Order.{Order}
use Rattle.store.specs.Book.{Book, order_in, request_in}
use Rattle.store.specs.Orders.{no_order}
use Rattle.machine.specs.Changes.{Event, Message, is_replace}
use Rattle.store.specs.Finds.{find_clordid}
use Rattle.machine.specs.Machine.{step_of, findings_of}
use Rattle.machine.specs.Rules.{pending_test}
use Rattle.machine.specs.Events.{Amendment}
use Rattle.machine.specs.Whole.{WholeBook}
use Rattle.machine.specs.History.{messages_of}
use Rattle.machine.specs.Said.{MessagesRight, MessagesFew, AnswerRead}
use Rattle.machine.specs.declared.Change.{Change}
use Rattle.machine.proofs.Kept.Tables.{at}
use Rattle.machine.proofs.Kept.OrderSteps.{pending_parts}
use Rattle.machine.proofs.Kept.Indexed.{BookKept, book_kept}
use Rattle.machine.proofs.Stepped.{step_made}
use Rattle.machine.proofs.Claim.Walk.{found_request, found_order}
use Rattle.machine.proofs.Said.Reads.{event_right_facts, right_ranged}
use Rattle.machine.proofs.Said.Rows.{Fine}
use Rattle.machine.proofs.Said.Messages.{Tellable}
use Rattle.machine.proofs.Said.Orders.{request_asks, order_tellable}
use Rattle.machine.proofs.Said.Alarms.{step_alarmed}
use Rattle.machine.proofs.Said.Changes.{Says, unchanged_says, refusing_says, alarming_says, adding_says, made_says, asked_says}
use Rattle.machine.proofs.Said.Amendments.{no_order_seen, some_order, amended_says}
use Rattle.records.specs.Laws.Right.{Right}
use Rattle.records.specs.Laws.Writing.{answer_most}
use Rattle.records.specs.Laws.AnswerBack.{answer_messages_lem, answer_accepted, answer_alarm_lem, answer_alarm2_lem}

-- ---- from a change to its messages

chosen_right : (count : ℕ) (first second : Message) → (eqb count 0 ≡ false → is_message first ≡ true) → (eqb count 0 ≡ false → eqb count 1 ≡ false → is_message second ≡ true)
    → are_messages (chosen count first second) ≡ true
chosen_right count first second f g =
    split_if (λ (l : List Message). are_messages l ≡ true) (eqb count 0) (λ z. refl)
    (λ z. split_if (λ (l : List Message). are_messages l ≡ true) (eqb count 1) (λ y. and_from _ _ (f z) refl) (λ y. and_from _ _ (f z) (and_from _ _ (g z y) refl)))

said : (c : Change) → Says c → are_messages (messages_of c) ≡ true
unfolding messages_of
said c s = split_if (λ (l : List Message). are_messages l ≡ true) _ (λ z. chosen_right c.output.count _ _ s.first s.second) (λ z. refl)

pub messages_few : MessagesFew
unfolding messages_of
messages_few c =
    split_if (λ (l : List Message). length l ≤ 2) _
    (λ z. split_if (λ (l : List Message). length l ≤ 2) _ (λ z. omega arith) (λ z. split_if (λ (l : List Message). length l ≤ 2) _ (λ z. omega arith) (λ z. omega arith)))
    (λ z. omega arith)

-- ---- the events

module _ (b : Book) (e : Event) (good : BookKept b) (whole : WholeBook b) (h : Right e) where
  tellable_at : (i : ℕ) → i < length b.orders → Tellable (order_in b i)
  tellable_at i l = order_tellable i (order_in b i) b.requests (good.order i l) (whole.order i l)

  -- pending terms that name the request are a replace's
  pending_replace : (j : ℕ) → j < length b.requests → eqb (order_in b (request_in b j).order).pending.request (j + 1) ≡ true → is_replace (request_in b j) ≡ true
  pending_replace j l z =
      let i : ℕ = (request_in b j).order in
      let o : Order = order_in b i in
      let is : o.pending.request ≡ j + 1 = eqb-true o.pending.request (j + 1) z in
      let t : pending_test (at b.requests (o.pending.request - 1)) ≡ true =
      (pending_parts i o b.requests (ne_eqb o.pending.request 0 (λ y. omega arith)) (good.order i (good.request j l).order)).link.passes in
      (and_parts (is_replace (request_in b j)) _ (subst (λ (n : ℕ). pending_test (at b.requests n) ≡ true) (omega arith) t)).0

  found_clordid : (j : ℕ) → find_clordid b e.client e.ids.origclordid ≡ Some j → j < length b.requests
  unfolding find_clordid
  found_clordid j z = (first_some _ (length b.requests) j z).below

  amends : Amendment e → (Fine 1 32 e.ids.clordid) × (Fine 1 32 e.ids.origclordid)
  amends a = (record { long = h.clordid.long; range = a.clordid }, record { long = h.origclordid.long; range = a.origclordid })

  step_says : Says (step_of b e)
  step_says = step_made Says b e (record {
    refuses = λ n z. refusing_says n;
    no_order_lem = λ z. unchanged_says 0 no_order;
    unknown = λ z. alarming_says _ _ (unchanged_says 0 no_order);
    books = λ t u v. adding_says _ _ (unchanged_says _ _);
    amends_none = λ z order full. let (c, d) = amends ((right_ranged e h).amendment z) in amended_says _ _ _ _ e h c d (unfold findings_of in no_order_seen refl refl);
    amends = λ z k y full. let (c, d) = amends ((right_ranged e h).amendment z) in
        amended_says _ _ _ _ e h c d (some_order (tellable_at (request_in b k).order (good.request k (found_clordid k y)).order));
    answers = λ y j z. let l : j < length b.requests = found_request b e.ids.downstream j z in
        made_says (order_in b (request_in b j).order) (tellable_at (request_in b j).order (good.request j l).order) (j + 1) (request_in b j) (request_asks b j good whole l)
        (ne_eqb (j + 1) 0 (λ y. omega arith)) (pending_replace j l) e h;
    asks = λ y i z. asked_says (tellable_at i (found_order b e.ids.name i z));
  })

pub messages_right : MessagesRight
messages_right b e k whole ok = said (step_of b e) (step_says b e (book_kept b k) whole (event_right_facts e ok))

pub answer_read : AnswerRead
answer_read b e buf k whole ok room =
    let c : Change = step_of b e in
    let ms : List Message = messages_of c in
    let a : ℕ = c.output.alarm in
    let a2 : ℕ = c.output.alarm2 in
    let few : length ms ≤ 2 = messages_few c in
    let fits : length (answer_bytes a a2 ms) ≤ length buf = omega (arith, answer_most a a2 ms few) in
    let right : are_messages ms ≡ true = messages_right b e k whole ok in
    let heard : answer_alarm (splice buf 0 (answer_bytes a a2 ms)) ≡ a = answer_alarm_lem buf a a2 ms right few fits in
    let heard2 : answer_alarm2 (splice buf 0 (answer_bytes a a2 ms)) ≡ a2 = answer_alarm2_lem buf a a2 ms right few fits in
    record {
      taken = answer_accepted buf a a2 ms right few fits;
      messages = answer_messages_lem buf a a2 ms right few fits;
      alarm = heard;
      alarm2 = heard2;
      alarms = rw (heard, heard2) (step_alarmed b e);
    }
