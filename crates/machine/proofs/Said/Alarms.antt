-- An event raises no alarm, one alone, or 6 and then 1: on every book, whatever it holds. Rests on Stepped.
use Rattle.std.proofs.Common.{ℕ, ◌≤◌, arith, ◌≡◌, refl, ◌⊎◌, inl, inr, Bool}
use Rattle.prelude.specs.Cases.{if◌then◌otherwise◌}
use Rattle.prelude.specs.Laws.Cases.{split_if}
use Rattle.store.specs.declared.Order.{Order}
use Rattle.store.specs.declared.Request.{Request}
use Rattle.store.specs.Book.{Book}
use Rattle.machine.specs.Constants.{most_alarm, filled_short}
use Rattle.machine.specs.Orders.{short_alarm}
use Rattle.machine.specs.Changes.{Event, unchanged, refusing, adding, telling, alarming}
use Rattle.machine.specs.GatewayCancel.{send_gateway_cancel}
use Rattle.machine.specs.Amend.{cancel_goes, replace_goes, refused_alarm}
use Rattle.machine.specs.Said.{Alarmed, AlarmsRight}
use Rattle.machine.specs.declared.Findings.{Findings}
use Rattle.machine.specs.declared.Refused.{Refused}
use Rattle.machine.specs.declared.Output.{Output}
use Rattle.machine.specs.declared.Change.{Change}
use Rattle.machine.proofs.Made.{left, stuck_behind, Refuses, still, gone, given_up_lem, told, Fails, unfailed, refused, freed, fell, ended, new_again, cancel_again, replace_again, failing, Left, fails, resends, alarms, names, applies, informs, quietly, retries, stays, refusing!, resumes, declined, waits, goes, repeated, turned, unpriced, cancel_sent, replace_sent}
use Rattle.machine.proofs.Stepped.{MadeBy, AskedBy, AmendedBy, Ways, step_made}

record Rings (out : Output) : Type 0 where
  rings : Alarmed out.alarm out.alarm2

-- a change's two alarms
record Has (c : Change) : Type 0 where
  has : Alarmed c.output.alarm c.output.alarm2

alone : {a : ℕ} → a ≤ most_alarm → Alarmed a 0
alone l = record { listed = l; second = inl refl }

none : Alarmed 0 0
none = alone (omega arith)

-- a short Filled's, or none
short_listed : (qty cumqty s : ℕ) → (short_alarm qty cumqty s ≡ 0) ⊎ (short_alarm qty cumqty s ≡ filled_short)
unfolding short_alarm
short_listed qty cumqty s = split_if (λ (n : ℕ). (n ≡ 0) ⊎ (n ≡ filled_short)) _ (λ e. inr refl) (λ e. inl refl)

refused_listed : (r : Refused) (o : Order) → (refused_alarm r o ≡ 0) ⊎ (refused_alarm r o ≡ filled_short)
unfolding refused_alarm
refused_listed r o = split_if (λ (n : ℕ). (n ≡ 0) ⊎ (n ≡ filled_short)) _ (λ e. inl refl) (λ e. short_listed _ _ _)

shorted : {a : ℕ} → (a ≡ 0) ⊎ (a ≡ filled_short) → Alarmed a 0
shorted (inl e) = alone (omega arith)
shorted (inr e) = alone (omega arith)

-- the gateway cannot cancel the order: 1 alone, or behind 6
behind : {a : ℕ} → (a ≡ 0) ⊎ (a ≡ filled_short) → Rings (stuck_behind a)
unfolding if◌then◌otherwise◌
behind (inl e) = record { rings = rw e (record { listed = omega arith; second = inl refl }) }
behind (inr e) = record { rings = rw e (record { listed = omega arith; second = inr (refl, refl) }) }

module _ {k : ℕ} {q : Request} {o : Order} {e : Event} where
  refuses_rings : {y : Order} {j s v : ℕ} {out : Output} → Refuses k q o e y j s v out → Rings out
  refuses_rings still = record { rings = none }
  refuses_rings (gone {r} w u g) = record { rings = shorted (refused_listed r o) }
  refuses_rings (given_up_lem {r} w u g h) = behind (refused_listed r o)
  refuses_rings (told {r} w u g) = record { rings = shorted (refused_listed r o) }

  fails_rings : {y : Order} {j s v : ℕ} {out : Output} → Fails k q o e y j s v out → Rings out
  fails_rings unfailed = record { rings = none }
  fails_rings (refused r g) = refuses_rings r
  fails_rings (freed w g h) = record { rings = none }
  fails_rings (fell w t g u h) = record { rings = none }
  fails_rings (ended w t g h) = record { rings = none }

  left_rings : {y : Order} {j s v : ℕ} {out : Output} → Left k q o e y j s v out → Rings out
  left_rings (fails z l) = fails_rings l
  left_rings (resends z new_again) = record { rings = none }
  left_rings (resends z (cancel_again t)) = record { rings = none }
  left_rings (resends z (replace_again t)) = record { rings = none }
  left_rings (resends z (failing t l)) = fails_rings l
  left_rings (alarms a l) = record { rings = alone l }
  left_rings names = record { rings = none }
  left_rings (applies a u s) = record { rings = shorted (short_listed _ _ _) }
  left_rings (informs a s) = record { rings = shorted (short_listed _ _ _) }

left_has : {p : ℕ} {y : Order} {j s v : ℕ} {out : Output} → Rings out → Has (left p y j s v out)
left_has h = record { has = h.rings }

sent_has : (f : Findings) (p : ℕ) (y : Order) (j s v : ℕ) {out : Output} → Rings out → Has (send_gateway_cancel f (left p y j s v out))
unfolding send_gateway_cancel telling adding
sent_has f p y j s v h = record { has = h.rings }

made_has : {f : Findings} {k : ℕ} {q : Request} {o : Order} {e : Event} (c c' : Change) → MadeBy f k q o e c c' → Has c
made_has c c' (stays l) = left_has (left_rings l)
made_has c c' (refusing! z (quietly r)) = left_has (refuses_rings r)
made_has {o = o} c c' (refusing! z (retries {r} w u g h t)) = sent_has _ _ _ _ _ _ (record { rings = shorted (refused_listed r o) })
made_has c c' (resumes z r h t) = sent_has _ _ _ _ _ _ (refuses_rings r)

asked_has : {f : Findings} {o : Order} (c c' : Change) → AskedBy f o c c' → Has c
asked_has c c' (declined z) = record { has = none }
asked_has c c' (waits d g) = record { has = none }
asked_has c c' (goes d g) = sent_has _ _ _ _ _ _ (record { rings = none })

amended_has : {f : Findings} {order : ℕ} {full : Bool} {o : Order} {e : Event} (c c' : Change) → AmendedBy f order full o e c c' → Has c
unfolding refusing cancel_goes replace_goes telling adding unchanged
amended_has c c' (repeated t) = record { has = none }
amended_has c c' (turned w t) = record { has = none }
amended_has c c' (unpriced t) = record { has = none }
amended_has c c' (cancel_sent z t) = record { has = none }
amended_has c c' (replace_sent t u) = record { has = none }

ways : (b : Book) (e : Event) → Ways Has b e
unfolding refusing unchanged alarming adding if◌then◌otherwise◌
ways b e = record {
  refuses = λ n z. record { has = none };
  no_order_lem = λ z. record { has = none };
  unknown = λ z. record { has = alone (omega arith) };
  books = λ t u v. record { has = none };
  amends_none = λ z order full. amended_has;
  amends = λ z k y full. amended_has;
  answers = λ y k z. made_has;
  asks = λ y i z. asked_has;
}

pub step_alarmed : AlarmsRight
step_alarmed b e = (step_made Has b e (ways b e)).has
