-- Which requests an event touches: the one that it names, the order's current one, and one that is added for the order. Rests on Made.
use Rattle.std.proofs.Common.{ℕ, ◌-◌, ◌≡◌, refl, ◌⊎◌, inl, inr, Bool}
use Rattle.store.specs.declared.Order.{Order}
use Rattle.store.specs.declared.Request.{Request}
use Rattle.machine.specs.Changes.{Event, unchanged, refusing, adding, telling, next_request}
use Rattle.machine.specs.GatewayCancel.{send_gateway_cancel}
use Rattle.machine.specs.Amend.{cancel_goes, replace_goes}
use Rattle.machine.specs.declared.Findings.{Findings}
use Rattle.machine.specs.declared.Change.{Change}
use Rattle.machine.proofs.Walked.{Closed, closed_made}
use Rattle.machine.proofs.Made.{declined, waits, goes, repeated, turned, unpriced, cancel_sent, replace_sent}
use Rattle.machine.proofs.Stepped.{MadeBy, AskedBy, AmendedBy}

-- k is the link of the request that the event names
pub record Touches (f : Findings) (k : ℕ) (o : Order) (c : Change) : Type 0 where
  pub answers : (c.requests.answered ≡ 0) ⊎ (c.requests.answered ≡ k)
  pub supersedes : (c.requests.superseded ≡ 0) ⊎ (c.requests.superseded ≡ o.links.current)
  pub adds : (c.requests.added ≡ 0) ⊎ (c.requests.request.order ≡ f.place - 1)

pub made_touches : {f : Findings} {k : ℕ} {q : Request} {o : Order} {e : Event} {c c' : Change} → MadeBy f k q o e c c' → Touches f k o c
unfolding send_gateway_cancel telling adding next_request
made_touches {f} {k} {q} {o} {e} = closed_made z
  where
    z : Closed k q o e f.place f.cancel f.requests f.requests (λ (x : Order). x ≡ x) (λ c c'. Touches f k o c)
    z = record {
      own = refl;
      refused = λ w. refl;
      named = refl;
      fallen = refl;
      ended = refl;
      reports = refl;
      gives_up = λ y t. refl;
      counts = λ y t. refl;
      leaves = λ t u v s. record { answers = u; supersedes = v; adds = inl refl };
      sends = λ out t u v s. record { answers = u; supersedes = v; adds = inr refl };
    }

pub asked_touches : {f : Findings} {o : Order} {c c' : Change} → AskedBy f o c c' → Touches f 0 o c
unfolding send_gateway_cancel telling adding next_request
asked_touches (declined z) = record { answers = inl refl; supersedes = inl refl; adds = inl refl }
asked_touches (waits d g) = record { answers = inl refl; supersedes = inl refl; adds = inl refl }
asked_touches (goes d g) = record { answers = inl refl; supersedes = inl refl; adds = inr refl }

pub amended_touches : {f : Findings} {order : ℕ} {full : Bool} {o : Order} {e : Event} {c c' : Change} → AmendedBy f order full o e c c' → Touches f 0 o c
unfolding refusing cancel_goes replace_goes telling adding unchanged next_request
amended_touches (repeated t) = record { answers = inl refl; supersedes = inl refl; adds = inl refl }
amended_touches (turned w t) = record { answers = inl refl; supersedes = inl refl; adds = inl refl }
amended_touches (unpriced t) = record { answers = inl refl; supersedes = inl refl; adds = inl refl }
amended_touches (cancel_sent z t) = record { answers = inl refl; supersedes = inl refl; adds = inr refl }
amended_touches (replace_sent t u) = record { answers = inl refl; supersedes = inl refl; adds = inr refl }
