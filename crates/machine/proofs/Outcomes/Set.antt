-- What a change says that the requests which it answers come to is what the event makes of them, and nothing has come of one that it adds. Rests on Stepped.
use Rattle.std.proofs.Common.{ℕ, ◌≡◌, refl, inl, Bool}
use Rattle.store.specs.declared.Order.{Order}
use Rattle.store.specs.declared.Request.{Request}
use Rattle.store.specs.Book.{Book}
use Rattle.machine.specs.Changes.{Event, unchanged, refusing, adding, telling, alarming, next_request}
use Rattle.machine.specs.GatewayCancel.{send_gateway_cancel}
use Rattle.machine.specs.Amend.{cancel_goes, replace_goes}
use Rattle.machine.specs.Machine.{first_request, change_of, step_of}
use Rattle.machine.specs.Outcomes.{OutcomeSet}
use Rattle.machine.specs.declared.Findings.{Findings}
use Rattle.machine.specs.declared.Change.{Change}
use Rattle.machine.proofs.Walked.{Came, Closed, closed_made}
use Rattle.machine.proofs.Made.{declined, waits, goes, repeated, turned, unpriced, cancel_sent, replace_sent}
use Rattle.machine.proofs.Stepped.{MadeBy, AskedBy, AmendedBy, Ways, change_made, step_made}

pub record Sets (e : Event) (c : Change) : Type 0 where
  pub came : Came e c.requests.answered c.requests.superseded c.requests.outcome
  pub unanswered : c.requests.request.answered ≡ 0
  pub outcome : c.requests.request.outcome ≡ 0

made_sets : {f : Findings} {k : ℕ} {q : Request} {o : Order} {e : Event} {c c' : Change} → MadeBy f k q o e c c' → Sets e c
unfolding send_gateway_cancel telling adding next_request
made_sets {f} {k} {q} {o} {e} = closed_made z
  where
    z : Closed k q o e f.place f.cancel f.requests f.requests (λ (x : Order). x ≡ x) (λ c c'. Sets e c)
    z = record {
      own = refl;
      refused = λ w. refl;
      named = refl;
      fallen = refl;
      ended = refl;
      reports = refl;
      gives_up = λ y t. refl;
      counts = λ y t. refl;
      leaves = λ t u s v. record { came = v; unanswered = refl; outcome = refl };
      sends = λ out t u s v. record { came = v; unanswered = refl; outcome = refl };
    }

module _ (b : Book) (e : Event) where
  asked_sets : {f : Findings} {o : Order} {c c' : Change} → AskedBy f o c c' → Sets e c
  unfolding send_gateway_cancel telling adding next_request
  asked_sets (declined z) = record { came = inl (refl, refl, refl); unanswered = refl; outcome = refl }
  asked_sets (waits d g) = record { came = inl (refl, refl, refl); unanswered = refl; outcome = refl }
  asked_sets (goes d g) = record { came = inl (refl, refl, refl); unanswered = refl; outcome = refl }

  amended_sets : {f : Findings} {order : ℕ} {full : Bool} {o : Order} {c c' : Change} → AmendedBy f order full o e c c' → Sets e c
  unfolding refusing cancel_goes replace_goes telling adding unchanged next_request
  amended_sets (repeated t) = record { came = inl (refl, refl, refl); unanswered = refl; outcome = refl }
  amended_sets (turned w t) = record { came = inl (refl, refl, refl); unanswered = refl; outcome = refl }
  amended_sets (unpriced t) = record { came = inl (refl, refl, refl); unanswered = refl; outcome = refl }
  amended_sets (cancel_sent z t) = record { came = inl (refl, refl, refl); unanswered = refl; outcome = refl }
  amended_sets (replace_sent t u) = record { came = inl (refl, refl, refl); unanswered = refl; outcome = refl }

  ways : Ways (Sets e) b e
  unfolding refusing adding alarming unchanged first_request
  ways = record {
    refuses = λ n z. record { came = inl (refl, refl, refl); unanswered = refl; outcome = refl };
    no_order_lem = λ z. record { came = inl (refl, refl, refl); unanswered = refl; outcome = refl };
    unknown = λ z. record { came = inl (refl, refl, refl); unanswered = refl; outcome = refl };
    books = λ t u v. record { came = inl (refl, refl, refl); unanswered = refl; outcome = refl };
    amends_none = λ z order full c c' m. amended_sets m;
    amends = λ z k y full c c' m. amended_sets m;
    answers = λ z k y c c' m. made_sets m;
    asks = λ z i y c c' m. asked_sets m;
  }

  pub change_sets : Sets e (change_of b e)
  change_sets = change_made (Sets e) b e ways

  pub step_sets : Sets e (step_of b e)
  step_sets = step_made (Sets e) b e ways

pub outcome_set : OutcomeSet
outcome_set b e = (step_sets b e).came
