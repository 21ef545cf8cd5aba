-- `less_by`: what is left, where it fits. Assumes nothing.
use Rattle.std.proofs.Common.{◌≡◌, ℕ, ◌-◌, ◌≤◌, leb, None, Some, sym, ap, ◌∙◌, le-leb, arith, Option}
use Rattle.std.proofs.lemmas.Bool.{lt-leb}
use Rattle.std.specs.Option.{SomeIff}
use Rattle.prelude.specs.Laws.Cases.{if_true, if_false}
use Rattle.fix.specs.Laws.Plan.{less_by}
use Rattle.fix.proofs.room.less_by.Goals as goal

pub returns-in_err-room : goal.returns-in_err-room
unfolding less_by
returns-in_err-room c = c.from_residual.ensures ∙ sym (ap (λ (o : Option ℕ). less_by o c.args.n) c.in_err-room.was)

taken : (r n : ℕ) (o : Option ℕ) → SomeIff o (n ≤ r) (r - n) → o ≡ less_by (Some r) n
unfolding less_by
taken r n None h = sym (if_false (leb n r) (Some (r - n)) None (lt-leb n r (omega (arith, h))))
taken r n (Some m) h = ap (λ (k : ℕ). Some k) h.1 ∙ sym (if_true (leb n r) (Some (r - n)) None (le-leb n r h.0))

pub returns : goal.returns
returns c = taken c.in_ok-room.field-0 c.args.n c.checked_sub.result c.checked_sub.ensures ∙ sym (ap (λ (o : Option ℕ). less_by o c.args.n) c.in_ok-room.was)
