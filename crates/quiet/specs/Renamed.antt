-- A change with other numbers for its places: the links of requests by `g`, those of orders by `h`, and an order's index by `w`. Rests on machine.
use Rattle.std.specs.Prelude.{ℕ}
use Rattle.store.specs.declared.Order.{Order}
use Rattle.store.specs.declared.Request.{Request}
use Rattle.machine.specs.declared.Findings.{Findings}
use Rattle.machine.specs.declared.Change.{Change}

-- an order whose four links are renamed
abbrev pub renamed_order : (g : ℕ → ℕ) → Order → Order
renamed_order g o = record {
  client = o.client;
  venue = o.venue;
  names = o.names;
  terms = o.terms;
  state = o.state;
  links = record { amendments = o.links.amendments; current = g o.links.current; cancel = g o.links.cancel };
  pending = record {
    request = g o.pending.request;
    qty = o.pending.qty;
    price = o.pending.price;
    ordtype = o.pending.ordtype;
    timeinforce = o.pending.timeinforce;
  };
  gateway = record {
    tries = o.gateway.tries;
    unsent = o.gateway.unsent;
    stuck = o.gateway.stuck;
    origdownstream = g o.gateway.origdownstream;
    refusedsends = o.gateway.refusedsends;
  };
}

abbrev pub renamed_request : (w : ℕ → ℕ) → Request → Request
renamed_request w q = record {
  order = w q.order;
  kind = q.kind;
  answered = q.answered;
  clordid = q.clordid;
  origclordid = q.origclordid;
  downstream = q.downstream;
  outcome = q.outcome;
}

-- what the handling looked up, in a book of so many requests
abbrev pub renamed_findings : (h w : ℕ → ℕ) (requests : ℕ) → Findings → Findings
renamed_findings h w n f = record { place = h f.place; requests = n; cancel = renamed_request w f.cancel }

-- what is told stays
unfoldable pub renamed_change : (g h w : ℕ → ℕ) → Change → Change
renamed_change g h w c = record {
  refusal = c.refusal;
  place = h c.place;
  order = renamed_order g c.order;
  requests = record {
    answered = g c.requests.answered;
    superseded = g c.requests.superseded;
    outcome = c.requests.outcome;
    added = c.requests.added;
    request = renamed_request w c.requests.request;
  };
  output = c.output;
}
