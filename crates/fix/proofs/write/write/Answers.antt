-- `fix::write::write`: a refusal, or the message. Assumes nothing.
use Rattle.std.proofs.Common.{eq-eqb, ne_eqb, ◌∙◌, List, ℕ, length}
use Rattle.prelude.specs.Cases.{if◌then◌otherwise◌}
use Rattle.records.specs.Laws.Refused.{number_not}
use Rattle.fix_words.specs.Record.{Session, write_refusal}
use Rattle.fix_claims.specs.Call.{wrote, write_call}
use Rattle.fix.proofs.write.write.Goals as goal
use Rattle.fix.proofs.write.write.Goals.{Start}

abbrev src : Start → List ℕ
src s = s.args.«record».now

abbrev told : Start → Session
told s = s.args.header.now

pub returns-in-Ok : goal.returns-in-Ok
unfolding write_call if◌then◌otherwise◌
returns-in-Ok c =
    let p = c.put_message-end in
    let s = (goal.at.returns-in-Ok c).Start in
    rw (eq-eqb (write_refusal (src s) (told s) (length c.args.out.now)) 0 c.in-Ok.ensures.ok.taken)
    (λ i. wrote (record { refusal = 0; length = p.ensures.0 i }) (p.ensures.1 i))

pub returns-in-Err : goal.returns-in-Err
unfolding write_call if◌then◌otherwise◌
returns-in-Err c =
    let e = c.in-Err.ensures.err in
    let s = (goal.at.returns-in-Err c).Start in
    rw (ne_eqb (write_refusal (src s) (told s) (length c.args.out.now)) 0 (number_not _ _ e))
    (λ i. wrote (record { refusal = (c.number.ensures ∙ e) i; length = 0 }) c.args.out.now)
