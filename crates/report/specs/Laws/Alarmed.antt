-- An alarm may be raised before a report's requests are answered and its message is told, or after. Rests on machine's Report.
use Rattle.std.specs.Prelude.{ℕ, ◌≡◌, true, false, ◌&&◌, refl, Bool, eqb}
use Rattle.prelude.specs.Cases.{if◌then◌otherwise◌}
use Rattle.format.specs.Codes.{canceled}
use Rattle.store.specs.declared.Order.{Order}
use Rattle.store.specs.declared.Request.{Request}
use Rattle.machine.specs.Constants as came
use Rattle.machine.specs.Changes.{Message, answering, superseding, telling, alarming, is_cancel}
use Rattle.machine.specs.Report.{settles}
use Rattle.machine.specs.declared.Change.{Change}

either : (a : ℕ) (t : Bool) (x y : Change) → (if t then alarming a x otherwise alarming a y) ≡ alarming a (if t then x otherwise y)
unfolding if◌then◌otherwise◌
either a true x y = refl
either a false x y = refl

module _ (a : ℕ) (c : Change) where
  pub alarming_settles : (accepted : Bool) (s k : ℕ) (q : Request) (o : Order) → settles accepted s k q o (alarming a c) ≡ alarming a (settles accepted s k q o c)
  unfolding settles
  alarming_settles accepted s k q o =
      let cancel : Bool = is_cancel q && eqb s canceled in
      let one : answering k came.accepted (alarming a c) ≡ alarming a (answering k came.accepted c) = unfold answering alarming in refl in
      let two : superseding o.links.current (answering k came.accepted (alarming a c)) ≡ alarming a (superseding o.links.current (answering k came.accepted c)) =
      unfold superseding answering alarming in refl in
      rw (two, one, either a cancel (answering k came.accepted c) c) (either a accepted _ _)

  pub alarming_telling : (m : Message) → telling m (alarming a c) ≡ alarming a (telling m c)
  unfolding telling alarming
  alarming_telling m = refl
