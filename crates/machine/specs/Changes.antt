-- A change: what an event does, as a value, and how one is put together. Rests on Messages.
use Rattle.std.specs.Prelude.{ℕ, ◌-◌, Bool, not, ◌&&◌, eqb}
use Rattle.bits.specs.Map.{bit}
use Rattle.prelude.specs.Cases.{if◌then◌otherwise◌}
use Rattle.prelude.specs.declared.Text.{Text}
use Rattle.records.specs.declared.Record.{Record}
use Rattle.store.specs.declared.Order.{Order}
use Rattle.store.specs.declared.Request.{Request}
use Rattle.store.specs.Orders.{no_order}
use Rattle.store.specs.Requests.{no_request}
use Rattle.text.specs.Numbered.{numbered_text}
use Rattle.machine.specs.Constants.{first_kind, replace_kind, gateway_kind}
use Rattle.machine.specs.Orders.{one_more, with_links}
use Rattle.machine.specs.Messages.{no_message}
use Rattle.machine.specs.declared.Findings.{Findings}
use Rattle.machine.specs.declared.Requests.{Requests}
use Rattle.machine.specs.declared.Output.{Output}
use Rattle.machine.specs.declared.Change.{Change}

abbrev pub Event : Type 0
Event = Record

abbrev pub Message : Type 0
Message = Record

-- a bit of the event's map stands
abbrev pub has : Event → ℕ → Bool
has e k = bit e.map k

-- ---- a request: `Sent.kind` and `Sent.origin`

unfoldable pub is_first : Request → Bool
is_first q = eqb q.kind first_kind

unfoldable pub is_replace : Request → Bool
is_replace q = eqb q.kind replace_kind

unfoldable pub is_gateway : Request → Bool
is_gateway q = eqb q.kind gateway_kind

-- the client's or the gateway's
unfoldable pub is_cancel : Request → Bool
is_cancel q = not (is_first q) && not (is_replace q)

unfoldable pub is_answered : Request → Bool
is_answered q = not (eqb q.answered 0)

-- ---- changes

abbrev pub no_requests : Requests
no_requests = record { answered = 0; superseded = 0; outcome = 0; added = 0; request = no_request }

abbrev pub silent : Output
silent = record { count = 0; first = no_message; second = no_message; alarm = 0; alarm2 = 0 }

-- nothing changes: the order at a place stands as it is given
unfoldable pub unchanged : (place : ℕ) → Order → Change
unchanged place o = record { refusal = 0; place = place; order = o; requests = no_requests; output = silent }

-- the event is not taken
unfoldable pub refusing : ℕ → Change
refusing n = record { refusal = n; place = 0; order = no_order; requests = no_requests; output = silent }

abbrev pub with_order : Order → Change → Change
with_order order change = record { refusal = change.refusal; place = change.place; order = order; requests = change.requests; output = change.output }

-- the request of this link is answered, and comes to this outcome
unfoldable pub answering : (link outcome : ℕ) → Change → Change
answering link outcome change = record {
  refusal = change.refusal;
  place = change.place;
  order = change.order;
  requests = record {
    answered = link;
    superseded = change.requests.superseded;
    outcome = outcome;
    added = change.requests.added;
    request = change.requests.request;
  };
  output = change.output;
}

-- and so is the request that it supersedes, which comes to the same outcome
unfoldable pub superseding : (link : ℕ) → Change → Change
superseding link change = record {
  refusal = change.refusal;
  place = change.place;
  order = change.order;
  requests = record {
    answered = change.requests.answered;
    superseded = link;
    outcome = change.requests.outcome;
    added = change.requests.added;
    request = change.requests.request;
  };
  output = change.output;
}

-- a request is added
unfoldable pub adding : Request → Change → Change
adding request change = record {
  refusal = change.refusal;
  place = change.place;
  order = change.order;
  requests = record {
    answered = change.requests.answered;
    superseded = change.requests.superseded;
    outcome = change.requests.outcome;
    added = 1;
    request = request;
  };
  output = change.output;
}

-- a message goes out, behind the first one if there is one
unfoldable pub telling : Message → Change → Change
telling message change = record {
  refusal = change.refusal;
  place = change.place;
  order = change.order;
  requests = change.requests;
  output = record {
    count = if eqb change.output.count 0 then 1 otherwise 2;
    first = if eqb change.output.count 0 then message otherwise change.output.first;
    second = if eqb change.output.count 0 then change.output.second otherwise message;
    alarm = change.output.alarm;
    alarm2 = change.output.alarm2;
  };
}

-- an alarm is raised, behind the first one if there is one
unfoldable pub alarming : ℕ → Change → Change
alarming alarm change = record {
  refusal = change.refusal;
  place = change.place;
  order = change.order;
  requests = change.requests;
  output = record {
    count = change.output.count;
    first = change.output.first;
    second = change.output.second;
    alarm = if eqb change.output.alarm 0 then alarm otherwise change.output.alarm;
    alarm2 = if eqb change.output.alarm 0 then change.output.alarm2 otherwise alarm;
  };
}

-- ---- `next_downstream`: the order's next numbered downstream ClOrdID, and the request under it

-- the link of a request that is added
unfoldable pub next_link : Findings → ℕ
next_link findings = one_more 65535 findings.requests

unfoldable pub next_number : Order → ℕ
next_number o = one_more 65535 o.links.amendments

unfoldable pub next_downstream : Order → Text
next_downstream o = numbered_text o.names.name (next_number o)

unfoldable pub next_request : Findings → Order → (kind : ℕ) → (clordid origclordid : Text) → Request
next_request findings order kind clordid origclordid = record {
  order = findings.place - 1;
  kind = kind;
  answered = 0;
  clordid = clordid;
  origclordid = origclordid;
  downstream = next_downstream order;
  outcome = 0;
}

-- a cancel becomes the order's latest
unfoldable pub numbered_order : Findings → (cancels : Bool) → Order → Order
numbered_order findings cancels order =
    with_links
    (record {
      amendments = next_number order;
      current = order.links.current;
      cancel = if cancels then next_link findings otherwise order.links.cancel;
    })
    order
