-- An event that is refused tells nothing. Rests on machine's Stepped.
use Rattle.std.proofs.Common.{ℕ, ◌≡◌, refl, ◌⊎◌, inl, inr, Bool}
use Rattle.store.specs.declared.Order.{Order}
use Rattle.store.specs.Book.{Book}
use Rattle.machine.specs.Changes.{Event, unchanged, refusing, adding, alarming, telling}
use Rattle.machine.specs.Amend.{cancel_goes, replace_goes}
use Rattle.machine.specs.Machine.{step_of}
use Rattle.machine.specs.declared.Findings.{Findings}
use Rattle.machine.specs.declared.Change.{Change}
use Rattle.machine.proofs.Made.{repeated, turned, unpriced, cancel_sent, replace_sent}
use Rattle.machine.proofs.Stepped.{AmendedBy, step_made}
use Rattle.machine.proofs.Claim.Moves.{made_moves, asked_moves}

abbrev Quiet : Change → Type 0
Quiet c = (c.refusal ≡ 0) ⊎ (c.output.count ≡ 0)

amended_quiet : {f : Findings} {order : ℕ} {full : Bool} {o : Order} {e : Event} {c c' : Change} → AmendedBy f order full o e c c' → Quiet c
unfolding refusing cancel_goes replace_goes telling adding unchanged
amended_quiet (repeated t) = inl refl
amended_quiet (turned w t) = inl refl
amended_quiet (unpriced t) = inr refl
amended_quiet (cancel_sent z t) = inl refl
amended_quiet (replace_sent t u) = inl refl

pub refused_silent : (b : Book) (e : Event) → ((step_of b e).refusal ≡ 0) ⊎ ((step_of b e).output.count ≡ 0)
refused_silent b e = step_made Quiet b e (record {
  refuses = λ n z. inr (unfold refusing in refl);
  no_order_lem = λ z. inl (unfold unchanged in refl);
  unknown = λ z. inl (unfold unchanged alarming in refl);
  books = λ t u v. inl (unfold unchanged adding in refl);
  amends_none = λ z order full c c' m. amended_quiet m;
  amends = λ z k y full c c' m. amended_quiet m;
  answers = λ z k y c c' m. inl ((made_moves m).taken);
  asks = λ z i y c c' m. inl ((asked_moves m).taken);
})
