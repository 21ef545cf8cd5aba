-- What a change does to the gateway's cancel of its order: the cancel requests in the answer, the request added, and the tries. Rests on Laws and Made.
use Rattle.std.proofs.Common.{ℕ, ◌+◌, ◌-◌, ◌≤◌, ◌<◌, arith, ◌≡◌, refl, sym, ap, ◌∙◌, ◌⊎◌, inl, inr, Bool, true, false, not, List, [], ◌∷◌, ◌++◌, eqb}
use Rattle.wide.specs.declared.Priced.{Priced}
use Rattle.prelude.specs.Cases.{if◌then◌otherwise◌}
use Rattle.prelude.specs.Laws.Cases.{split_if, clash}
use Rattle.prelude.specs.declared.Text.{Text}
use Rattle.prelude.specs.declared.Terms.{Terms}
use Rattle.store.specs.declared.Order.{Order}
use Rattle.store.specs.declared.Request.{Request}
use Rattle.store.specs.declared.Pending.{Pending}
use Rattle.machine.specs.Orders.{one_more, has_gateway, is_done, set_status, record_venue_order_id, apply_replace, next_exec, with_state, with_pending, with_gateway}
use Rattle.store.specs.Orders.{no_pending, no_gateway}
use Rattle.machine.specs.Messages.{report, cancel_reject, to_venue, new_order, cancel_request, replace_request}
use Rattle.machine.specs.Changes.{Event, Message, unchanged, with_order, adding, telling, is_first, is_replace, is_gateway, is_cancel, is_answered, next_number, next_downstream, next_request, numbered_order}
use Rattle.machine.specs.GatewayCancel.{begun, try_sent, given_up, send_gateway_cancel}
use Rattle.machine.specs.Amend.{cancel_goes, replace_goes, not_pending, refused_order, refused_alarm}
use Rattle.machine.specs.Report.{reported_order, client_report}
use Rattle.machine.specs.Rules.{tries_rule}
use Rattle.records.specs.Answer.{chosen}
use Rattle.machine.specs.Claim.{cancels_in}
use Rattle.machine.specs.declared.Findings.{Findings}
use Rattle.machine.specs.declared.Note.{Note}
use Rattle.machine.specs.declared.Refused.{Refused}
use Rattle.machine.specs.declared.Output.{Output}
use Rattle.machine.specs.declared.Change.{Change}
use Rattle.machine.proofs.Made.{calm, says, stuck_behind, left, Refuses, still, gone, given_up_lem, told}
use Rattle.machine.proofs.Claim.Laws.{tells, tells_more}
use Rattle.machine.proofs.Kept.Local.{one_more_lem}
use Rattle.machine.proofs.Kept.Keep.{tries_unsent}

-- ---- messages

cancels_append : (s t : List Message) → cancels_in (s ++ t) ≡ cancels_in s ++ cancels_in t
unfolding cancels_in if◌then◌otherwise◌
cancels_append [] t = refl
cancels_append (m ∷ s) t = go (eqb m.kind 19) (cancels_append s t)
  where
    go : (b : Bool) → cancels_in (s ++ t) ≡ cancels_in s ++ cancels_in t
        → (if b then m.ids.downstream ∷ cancels_in (s ++ t) otherwise cancels_in (s ++ t)) ≡ (if b then m.ids.downstream ∷ cancels_in s otherwise cancels_in s) ++ cancels_in t
    go true e = ap (λ (l : List Text). m.ids.downstream ∷ l) e
    go false e = e

-- a message that is no cancel request
abbrev Plain : Message → Type 0
Plain m = cancels_in (m ∷ []) ≡ []

pub plain_reject : (client : ℕ) (name : Text) (status : ℕ) (clordid origclordid : Text) (responseto : ℕ) (n : Note) → Plain (cancel_reject client name status clordid origclordid responseto n)
unfolding cancel_reject cancels_in if◌then◌otherwise◌
plain_reject client name status clordid origclordid responseto n = refl

pub plain_report : (o : Order) (clordid origclordid : Text) (exectype lastqty : ℕ) (price : Priced) (n : Note) → Plain (report o clordid origclordid exectype lastqty price n)
unfolding report cancels_in if◌then◌otherwise◌
plain_report o clordid origclordid exectype lastqty price n = refl

pub plain_client : (answers : Bool) (rise : ℕ) (q : Request) (price : Priced) (o : Order) (e : Event) → Plain (client_report answers rise q price o e)
unfolding client_report
plain_client answers rise q price o e = plain_report _ _ _ _ _ _ _

pub plain_new : (o : Order) (d : Text) → Plain (new_order o d)
unfolding new_order to_venue cancels_in if◌then◌otherwise◌
plain_new o d = refl

pub plain_replace : (o : Order) (d : Text) (t : Terms) → Plain (replace_request o d t)
unfolding replace_request to_venue cancels_in if◌then◌otherwise◌
plain_replace o d t = refl

pub one_cancel : (o : Order) (d : Text) → cancels_in (cancel_request o d ∷ []) ≡ d ∷ []
unfolding cancel_request to_venue cancels_in if◌then◌otherwise◌
one_cancel o d = refl

says_plain : (m : Message) (c : Change) → c.output.count ≤ 1 → Plain m → cancels_in (tells c) ≡ [] → cancels_in (tells (telling m c)) ≡ []
says_plain m c l p s =
    ap cancels_in (tells_more m c l) ∙ cancels_append (tells c) (m ∷ []) ∙ ap (λ (x : List Text). x ++ cancels_in (m ∷ [])) s ∙ p

says_cancel : (o : Order) (d : Text) (c : Change) → c.output.count ≤ 1 → cancels_in (tells c) ≡ [] → cancels_in (tells (telling (cancel_request o d) c)) ≡ d ∷ []
says_cancel o d c l s =
    ap cancels_in (tells_more (cancel_request o d) c l) ∙ cancels_append (tells c) (cancel_request o d ∷ [])
    ∙ ap (λ (x : List Text). x ++ cancels_in (cancel_request o d ∷ [])) s ∙ one_cancel o d

-- the same message, with its request added
says_added : (o : Order) (d : Text) (q : Request) (c : Change) → c.output.count ≤ 1 → cancels_in (tells c) ≡ [] → cancels_in (tells (telling (cancel_request o d) (adding q c))) ≡ d ∷ []
unfolding adding
says_added o d q c l s = says_cancel o d (adding q c) l s

says_send : (f : Findings) (c : Change) → c.output.count ≤ 1 → cancels_in (tells c) ≡ [] → cancels_in (tells (send_gateway_cancel f c)) ≡ next_downstream c.order ∷ []
unfolding send_gateway_cancel
says_send f c l s = says_added _ (next_downstream c.order) _ (with_order _ c) l s

none_yet : (p : ℕ) (o : Order) → (unchanged p o).output.count ≤ 1
unfolding unchanged
none_yet p o = omega arith

none_said : (p : ℕ) (o : Order) → cancels_in (tells (unchanged p o)) ≡ []
unfolding unchanged if◌then◌otherwise◌ cancels_in
none_said p o = refl

-- ---- the order

-- an order that keeps its name, its number and, if its gateway cancel stands, the tries
pub record Near (o p : Order) : Type 0 where
  pub same_name : p.names.name ≡ o.names.name
  pub same_number : p.links.amendments ≡ o.links.amendments
  pub gate : has_gateway p ≡ true → (has_gateway o ≡ true) × (p.gateway.tries ≡ o.gateway.tries) × (p.gateway.unsent ≡ o.gateway.unsent)

pub near_self : (o : Order) → Near o o
near_self o = record { same_name = refl; same_number = refl; gate = λ h. (h, refl, refl) }

pub near_trans : (o p q : Order) → Near o p → Near p q → Near o q
near_trans o p q k l = record {
  same_name = l.same_name ∙ k.same_name;
  same_number = l.same_number ∙ k.same_number;
  gate = λ h. let (a, t, u) = l.gate h in let (a', t', u') = k.gate a in (a', t ∙ t', u ∙ u');
}

pub status_near : (s : ℕ) (o : Order) → Near o (set_status s o)
unfolding set_status has_gateway
status_near s o = record { same_name = refl; same_number = refl; gate = λ h. kept (is_done _) h }
  where
    kept : (t : Bool) → not (eqb (if t then no_gateway otherwise o.gateway).origdownstream 0) ≡ true
        → (not (eqb o.gateway.origdownstream 0) ≡ true) × ((if t then no_gateway otherwise o.gateway).tries ≡ o.gateway.tries)
        × ((if t then no_gateway otherwise o.gateway).unsent ≡ o.gateway.unsent)
    kept true h = unfold if◌then◌otherwise◌ in clash false h refl
    kept false h = unfold if◌then◌otherwise◌ in (h, refl, refl)

pub named_near : (given : Text) (replaced : Bool) (o : Order) → Near o (record_venue_order_id given replaced o)
unfolding record_venue_order_id has_gateway
named_near given replaced o = record { same_name = refl; same_number = refl; gate = λ h. (h, refl, refl) }

pending_near : (p : Pending) (o : Order) → Near o (with_pending p o)
unfolding has_gateway
pending_near p o = record { same_name = refl; same_number = refl; gate = λ h. (h, refl, refl) }

pub told_near : (o : Order) → Near o (next_exec o)
unfolding next_exec has_gateway
told_near o = record { same_name = refl; same_number = refl; gate = λ h. (h, refl, refl) }

given_up_near : (o : Order) → Near o (with_gateway (given_up o) o)
unfolding given_up has_gateway
given_up_near o = record { same_name = refl; same_number = refl; gate = λ h. (h, refl, refl) }

pub refused_near : (k : ℕ) (r : Refused) (o : Order) → Near o (refused_order k r o)
unfolding refused_order not_pending
refused_near k r o =
    split_if (Near o) _ (λ e. first)
    (λ e. split_if (Near o) _ (λ h. near_trans o _ _ first (status_near r.status _))
    (λ h. split_if (Near o) _ (λ t. near_trans o _ _ first (status_near _ _)) (λ t. first)))
  where
    first : Near o (with_pending (if eqb o.pending.request k then no_pending otherwise o.pending) (record_venue_order_id r.venueorderid false o))
    first = near_trans o _ _ (named_near r.venueorderid false o) (pending_near _ _)

pub reported_near : (accepted : Bool) (s : ℕ) (q : Request) (o : Order) (e : Event) → Near o (reported_order accepted s q o e)
unfolding reported_order
reported_near accepted s q o e = near_trans o _ _ (before accepted) (status_near _ _)
  where
    before : (a : Bool)
        → Near o (with_state (record { status = o.state.status; cumqty = e.exec.cumqty; avgpx = e.exec.avgpx; execseq = o.state.execseq })
        (if a then apply_replace q (record_venue_order_id e.ids.venueorderid accepted o) otherwise record_venue_order_id e.ids.venueorderid accepted o))
    before true = unfold apply_replace record_venue_order_id has_gateway if◌then◌otherwise◌ in record { same_name = refl; same_number = refl; gate = λ h. (h, refl, refl) }
    before false = unfold record_venue_order_id has_gateway if◌then◌otherwise◌ in record { same_name = refl; same_number = refl; gate = λ h. (h, refl, refl) }

-- the next number is the same for an order that is near
next_near : (o p : Order) → Near o p → next_downstream p ≡ next_downstream o
unfolding next_downstream next_number
next_near o p n = rw (n.same_name, n.same_number)

-- ---- a change that puts out no cancel request and adds none

-- what is put out
pub record Mute (out : Output) : Type 0 where
  pub few : out.count ≤ 1
  pub silent : cancels_in (chosen out.count out.first out.second) ≡ []

pub calm_mute : (a : ℕ) → Mute (calm a)
unfolding if◌then◌otherwise◌ cancels_in
calm_mute a = record { few = omega arith; silent = refl }

behind_mute : (a : ℕ) → Mute (stuck_behind a)
unfolding if◌then◌otherwise◌ cancels_in
behind_mute a = record { few = omega arith; silent = refl }

pub says_mute : {m : Message} {a : ℕ} → Plain m → Mute (says m a)
says_mute {m} {a} h = record { few = omega arith; silent = unfold if◌then◌otherwise◌ in h }

pub record Idle (o : Order) (c : Change) : Type 0 where
  pub near : Near o c.order
  pub within : c.output.count ≤ 1
  pub silent : cancels_in (tells c) ≡ []
  pub adds : c.requests.added ≡ 0

pub left_idle : {o y : Order} {out : Output} {p j s v : ℕ} → Near o y × Mute out → Idle o (left p y j s v out)
left_idle (n, m) = record { near = n; within = m.few; silent = m.silent; adds = refl }

-- ---- the gateway's cancel goes out

-- the request that is sent and added
pub record Out (f : Findings) (o : Order) (c : Change) : Type 0 where
  pub says : cancels_in (tells c) ≡ next_downstream o ∷ []
  pub adds : c.requests.added ≡ 1
  pub of_order : c.requests.request.order ≡ f.place - 1
  pub unanswered : is_answered c.requests.request ≡ false
  pub text : c.requests.request.downstream ≡ next_downstream o

pub record Sent (f : Findings) (o : Order) (c : Change) : Type 0 where
  pub out : Out f o c
  pub by_gateway : is_gateway c.requests.request ≡ true
  pub from : has_gateway o ≡ true
  pub room : o.gateway.tries ≤ 2
  pub more : c.order.gateway.tries ≡ o.gateway.tries + 1
  pub out_now : c.order.gateway.unsent ≡ false

send_out : (f : Findings) (o : Order) (c : Change) → Near o c.order → c.output.count ≤ 1 → cancels_in (tells c) ≡ [] → Out f o (send_gateway_cancel f c)
unfolding send_gateway_cancel adding telling next_request is_answered
send_out f o c n l s = record {
  says = says_send f c l s ∙ ap (λ (t : Text). t ∷ []) (next_near o c.order n);
  adds = refl;
  of_order = refl;
  unanswered = refl;
  text = next_near o c.order n;
}

pub send_fields : (f : Findings) (c : Change) → (is_gateway (send_gateway_cancel f c).requests.request ≡ true)
    × ((send_gateway_cancel f c).order.gateway.tries ≡ one_more 255 c.order.gateway.tries) × ((send_gateway_cancel f c).order.gateway.unsent ≡ false)
unfolding send_gateway_cancel adding telling next_request is_gateway try_sent
send_fields f c = (refl, refl, refl)

send_sent : (f : Findings) (o : Order) (c : Change) → Idle o c → has_gateway c.order ≡ true → o.gateway.tries ≤ 2 → Sent f o (send_gateway_cancel f c)
send_sent f o c d h r =
    let (a, t, u) = d.near.gate h in
    let (x, y, z) = send_fields f c in
    let l : c.order.gateway.tries ≤ 3 = omega arith in
    record { out = send_out f o c d.near d.within d.silent; by_gateway = x; from = a; room = r; more = y ∙ one_more_lem 255 _ (omega arith) ∙ ap (λ (n : ℕ). n + 1) t; out_now = z }

-- ---- the ways

module _ {k : ℕ} {q : Request} {o : Order} {e : Event} where
  pub refuses_near : {y : Order} {j s v : ℕ} {out : Output} → Refuses k q o e y j s v out → Near o y × Mute out
  refuses_near still = (near_self o, calm_mute 0)
  refuses_near (gone {r} w u g) = (refused_near k r o, calm_mute _)
  refuses_near (given_up_lem {r} w u g h) = (near_trans o _ _ (refused_near k r o) (given_up_near _), behind_mute (refused_alarm r o))
  refuses_near (told {r} w u g) = (refused_near k r o, says_mute (plain_reject _ _ _ _ _ _ _))

  pub refuses_links : {y : Order} {j s v : ℕ} {out : Output} → Refuses k q o e y j s v out → (s ≡ 0) × ((j ≡ 0) ⊎ (j ≡ k))
  refuses_links still = (refl, inl refl)
  refuses_links (gone w u g) = (refl, inr refl)
  refuses_links (given_up_lem w u g h) = (refl, inr refl)
  refuses_links (told w u g) = (refl, inr refl)

module _ (f : Findings) (o : Order) (rule : tries_rule o.gateway ≡ true) (p j s v : ℕ) {y : Order} {out : Output} (n : Near o y × Mute out) (h : has_gateway y ≡ true) where
  -- it is tried again, or it waited
  pub retried_sent : y.gateway.tries < 3 → Sent f o (send_gateway_cancel f (left p y j s v out))
  retried_sent l = let (a, t, u) = n.0.gate h in send_sent f o _ (left_idle n) h (omega arith)

  pub resumed_sent : y.gateway.unsent ≡ true → Sent f o (send_gateway_cancel f (left p y j s v out))
  resumed_sent l = let (a, t, u) = n.0.gate h in send_sent f o _ (left_idle n) h (tries_unsent o.gateway (sym u ∙ l) rule)

-- ---- the client's requests

module _ (f : Findings) (o : Order) where
  cancel_says : (e : Event) → cancels_in (tells (cancel_goes f o e)) ≡ next_downstream o ∷ []
  unfolding cancel_goes
  cancel_says e = says_added _ (next_downstream o) _ (unchanged f.place (numbered_order f true o)) (none_yet f.place _) (none_said f.place _)

  pub cancel_out : (e : Event) → Out f o (cancel_goes f o e)
  unfolding cancel_goes adding telling next_request is_answered unchanged
  cancel_out e = record {
    says = cancel_says e;
    adds = refl;
    of_order = refl;
    unanswered = refl;
    text = refl;
  }

  pub cancel_fields : (e : Event) → (is_gateway (cancel_goes f o e).requests.request ≡ false) × ((cancel_goes f o e).order.gateway ≡ o.gateway)
  unfolding cancel_goes adding telling next_request is_gateway unchanged numbered_order
  cancel_fields e = (refl, refl)

  pub replace_fields : (e : Event) → (is_cancel (replace_goes f o e).requests.request ≡ false) × ((replace_goes f o e).order.gateway ≡ o.gateway)
      × (cancels_in (tells (replace_goes f o e)) ≡ []) × ((replace_goes f o e).requests.request.order ≡ f.place - 1)
  unfolding replace_goes adding telling next_request is_cancel is_first is_replace unchanged numbered_order if◌then◌otherwise◌ cancels_in replace_request to_venue
  replace_fields e = (refl, refl, refl, refl)

-- ---- event 9

module _ (f : Findings) (o : Order) where
  pub begun_out : Out f o (send_gateway_cancel f (left f.place (with_gateway (begun o) o) 0 0 0 (calm 0)))
  unfolding send_gateway_cancel adding telling next_request is_answered next_downstream next_number
  begun_out = record {
    says = says_send f (left f.place (with_gateway (begun o) o) 0 0 0 (calm 0)) (omega arith) (calm_mute 0).silent;
    adds = refl;
    of_order = refl;
    unanswered = refl;
    text = refl;
  }

  pub begun_once : (send_gateway_cancel f (left f.place (with_gateway (begun o) o) 0 0 0 (calm 0))).order.gateway.tries ≡ 1
  unfolding begun
  begun_once = (send_fields f (left f.place (with_gateway (begun o) o) 0 0 0 (calm 0))).1 ∙ one_more_lem 255 0 (omega arith)

  pub begun_none : (left f.place (with_gateway (begun o) o) 0 0 0 (calm 0)).order.gateway.tries ≡ 0
  unfolding begun
  begun_none = refl
