-- The gateway's own cancels under other numbers for links and places. Rests on Parts.
use Rattle.std.proofs.Common.{ℕ, ◌-◌, ◌≡◌, refl, ap, ◌∙◌, Bool, true, false, not, ◌&&◌}
use Rattle.prelude.specs.Cases.{if◌then◌otherwise◌}
use Rattle.prelude.specs.declared.Text.{Text}
use Rattle.store.specs.declared.Order.{Order}
use Rattle.machine.specs.Orders.{one_more, with_gateway}
use Rattle.machine.specs.Messages.{cancel_request, to_venue}
use Rattle.machine.specs.Changes.{unchanged, adding, telling, alarming, is_gateway, is_answered, next_link, next_number, next_downstream, next_request, numbered_order}
use Rattle.machine.specs.GatewayCancel.{outstanding_cancel, gateway_cancel_in_flight, begun, try_sent, given_up, send_gateway_cancel, cancel_order, gateway_cancel_waiting, resume_gateway_cancel, stuck, retry_gateway_cancel, says_gone, gateway_cancel_refused}
use Rattle.machine.specs.declared.Findings.{Findings}
use Rattle.machine.specs.declared.Note.{Note}
use Rattle.machine.specs.declared.Change.{Change}
use Rattle.quiet.specs.Renamed.{renamed_order, renamed_request, renamed_findings, renamed_change}
use Rattle.quiet.proofs.Parts.{same_if, Renames, R, zero_test, has_gateway_ren, unchanged_ren}

-- what was looked up: the next request has the next link in both books, and the order's index goes with its link
pub record Placed (g h w : ℕ → ℕ) (n : ℕ) (f : Findings) : Type 0 where
  pub next : g (one_more 65535 f.requests) ≡ one_more 65535 n
  pub order : w (f.place - 1) ≡ h f.place - 1

module _ (g h w : ℕ → ℕ) (r : Renames g h w) (n : ℕ) (f : Findings) (l : Placed g h w n f) where
  abbrev pub F : Findings
  F = renamed_findings h w n f

  pub next_request_ren : (o : Order) (kind : ℕ) (clordid origclordid : Text)
      → next_request F (renamed_order g o) kind clordid origclordid ≡ renamed_request w (next_request f o kind clordid origclordid)
  unfolding next_request next_downstream next_number
  next_request_ren o kind clordid origclordid = rw l.order

  pub numbered_ren : (cancels : Bool) (o : Order) → numbered_order F cancels (renamed_order g o) ≡ renamed_order g (numbered_order f cancels o)
  unfolding numbered_order next_number next_link if◌then◌otherwise◌
  numbered_ren true o = rw l.next
  numbered_ren false o = refl

  pub downstream_ren : (o : Order) → next_downstream (renamed_order g o) ≡ next_downstream o
  unfolding next_downstream next_number
  downstream_ren o = refl

  pub outstanding_ren : (o : Order) → outstanding_cancel F (renamed_order g o) ≡ outstanding_cancel f o
  unfolding outstanding_cancel is_answered
  outstanding_ren o = ap (λ (x : Bool). not x && not (is_answered f.cancel)) (zero_test g h w r o.links.cancel)

  pub in_flight_ren : (o : Order) → gateway_cancel_in_flight F (renamed_order g o) ≡ gateway_cancel_in_flight f o
  unfolding gateway_cancel_in_flight is_gateway
  in_flight_ren o = ap (λ (x : Bool). x && is_gateway f.cancel) (outstanding_ren o)

  pub send_ren : (c : Change) → send_gateway_cancel F (renamed_change g h w c) ≡ renamed_change g h w (send_gateway_cancel f c)
  unfolding send_gateway_cancel renamed_change numbered_order next_link telling adding try_sent cancel_request to_venue next_request next_downstream next_number if◌then◌otherwise◌
  send_ren c = rw (l.next, l.order)

  pub begun_ren : (o : Order) → with_gateway (begun (renamed_order g o)) (renamed_order g o) ≡ renamed_order g (with_gateway (begun o) o)
  unfolding begun
  begun_ren o = refl

  pub cancel_order_ren : (o : Order) → cancel_order F (renamed_order g o) ≡ renamed_change g h w (cancel_order f o)
  unfolding cancel_order
  cancel_order_ren o =
      same_if (R g h w r) refl (unchanged_ren g h w r f.place o)
      (same_if (R g h w r) (in_flight_ren o) (unchanged_ren g h w r f.place o)
      (same_if (R g h w r) (outstanding_ren o) waits (ap (send_gateway_cancel F) waits ∙ send_ren (unchanged f.place (with_gateway (begun o) o)))))
    where
      waits : unchanged F.place (with_gateway (begun (renamed_order g o)) (renamed_order g o)) ≡ renamed_change g h w (unchanged f.place (with_gateway (begun o) o))
      waits = ap (unchanged F.place) (begun_ren o) ∙ unchanged_ren g h w r f.place (with_gateway (begun o) o)

  pub waiting_ren : (c : Change) → gateway_cancel_waiting F (renamed_change g h w c) ≡ gateway_cancel_waiting f c
  unfolding gateway_cancel_waiting renamed_change
  waiting_ren c = rw (has_gateway_ren g h w r c.order, outstanding_ren c.order, r.apart c.order.links.cancel c.requests.answered)

  pub resume_ren : (c : Change) → resume_gateway_cancel F (renamed_change g h w c) ≡ renamed_change g h w (resume_gateway_cancel f c)
  unfolding resume_gateway_cancel
  resume_ren c = same_if (R g h w r) (waiting_ren c) (send_ren c) refl

  pub stuck_ren : (c : Change) → stuck (renamed_change g h w c) ≡ renamed_change g h w (stuck c)
  unfolding stuck alarming given_up renamed_change
  stuck_ren c = refl

  pub retry_ren : (c : Change) → retry_gateway_cancel F (renamed_change g h w c) ≡ renamed_change g h w (retry_gateway_cancel f c)
  unfolding retry_gateway_cancel
  retry_ren c = same_if (R g h w r) (unfold renamed_change in refl) (stuck_ren c) (send_ren c)

  pub gateway_refused_ren : (note : Note) (c : Change) → gateway_cancel_refused F note (renamed_change g h w c) ≡ renamed_change g h w (gateway_cancel_refused f note c)
  unfolding gateway_cancel_refused
  gateway_refused_ren note c =
      same_if (R g h w r) (unfold renamed_change in ap not (has_gateway_ren g h w r c.order)) refl
      (same_if (R g h w r)
      (unfold renamed_change in ap (λ (x : Bool). says_gone note && x) (r.apart c.order.links.current c.order.gateway.origdownstream))
      (stuck_ren c) (retry_ren c))
