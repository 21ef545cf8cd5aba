-- `fix::write::decide`: the questions in their order. Assumes nothing.
use Rattle.std.proofs.Common.{leb-true, leb-false, ◌≡◌, sym, ap, ◌∙◌, List, true, ℕ, ◌+◌, ◌-◌, ◌≤◌, arith, leb, length, Option, None, Some, Err}
use Rattle.std.specs.Option.{is_some, ok_or}
use Rattle.std.proofs.lemmas.Result.{err_from_is_err_and}
use Rattle.format.specs.Codes.{within}
use Rattle.format.specs.Places.{kind_at}
use Rattle.records.specs.Parts.{parts_refusal}
use Rattle.records.specs.Laws.Refused.{number_not}
use Rattle.fix_words.specs.Spelling.{spellings}
use Rattle.fix_words.specs.Message.{bytes_for, inner}
use Rattle.fix_words.specs.Record.{Session, writing_of}
use Rattle.fix.specs.Laws.Plan.{Parted, less_by, frame_long, inner_long}
use Rattle.fix.specs.Laws.Whole.{room_some, room_none, fit_or_not, whole_long, inner_long_lem, answer_parts, answer_9, answer_10, answer_0, whole_parted, whole_kind}
use Rattle.fix.proofs.write.decide.Goals as goal
use Rattle.fix.proofs.write.decide.Goals.{After-less_frame, In_ok-parts, In_ok-rest, Start}

abbrev src : Start → List ℕ
src s = s.args.«record».now

abbrev told : Start → Session
told s = s.args.header.now

abbrev begun : In_ok-parts → Start
begun e = (goal.at.In_ok-parts e).Start

zero : (e : In_ok-parts) → parts_refusal (src (begun e)) ≡ 0
zero e = e.in_ok-parts.ensures.ok.taken

parted : (e : In_ok-parts) → let p = e.in_ok-parts.parts in Parted (src (begun e)) p.map p.at p.numbers p.high
parted e = whole_parted (src (begun e)) e.in_ok-parts.parts e.in_ok-parts.ensures.ok

kind : (e : In_ok-parts) → (within 16 20 (kind_at (src (begun e)) 0) ≡ true) × (5 ≤ length (src (begun e)))
kind e = whole_kind (src (begun e)) (parted e).whole

-- the length
abbrev long : In_ok-parts → ℕ
long e =
    let s = begun e in
    let p = e.in_ok-parts.parts in
    inner_long (length s.args.header.now.sender) (length s.args.header.now.target) s.args.header.now.sequence (length s.args.header.now.time) (kind_at (src s) 0) p.map p.at p.numbers p.high

inner_is : (e : In_ok-parts) → length (spellings (inner (writing_of (src (begun e)) (told (begun e))))) ≡ long e
inner_is e =
    let p = e.in_ok-parts.parts in
    inner_long_lem (src (begun e)) p.map p.at p.numbers p.high (parted e) (told (begun e)) (kind e).0

whole_is : (e : In_ok-parts) → length (bytes_for (writing_of (src (begun e)) (told (begun e)))) ≡ long e + frame_long (long e)
whole_is e = whole_long (writing_of (src (begun e)) (told (begun e))) ∙ (λ i. inner_is e i + frame_long (inner_is e i))

-- what `ok_or` refuses with
refused : {T E : Type 0} (o : Option T) (e f : E) → Err e ≡ ok_or o f → e ≡ f
refused None e f q = cc
refused (Some x) e f q = cc

abbrev els : In_ok-rest → In_ok-parts
els c = (goal.at.In_ok-rest c).In_ok-parts

-- the room behind what 9 counts, and its length
left_some : (c : In_ok-rest) → c.inside-left.result ≡ Some c.in_ok-rest.rest
left_some c = c.in_ok-rest.ensures.ok_part

left_is : (c : In_ok-rest) → (long (els c) ≤ c.args.room) × (c.in_ok-rest.rest ≡ c.args.room - long (els c))
left_is c = room_some c.args.room (long (els c)) c.in_ok-rest.rest (sym c.inside-left.ensures ∙ left_some c)

body_is : (c : In_ok-rest) → c.args.room - c.in_ok-rest.rest ≡ long (els c)
body_is c = omega (arith, (left_is c).0, (left_is c).1)

-- whether the frame fits behind it
framed : (c : After-less_frame) → let s = (goal.at.After-less_frame c).In_ok-rest in is_some c.less_frame.result ≡ leb (frame_long (long (els s))) c.in_ok-rest.rest
framed c =
    let s = (goal.at.After-less_frame c).In_ok-rest in
    ap is_some (c.less_frame.ensures ∙ (λ i. less_by (left_some s i) (frame_long (body_is s i))))
    ∙ fit_or_not c.in_ok-rest.rest (frame_long (long (els s)))

pub returns-in_err-parts-clause-err : goal.returns-in_err-parts-clause-err
returns-in_err-parts-clause-err c =
    let m = c.in_err-parts.ensures.err in
    let p = err_from_is_err_and c.from_residual.result c.from_residual.ensures.1 in
    let s = (goal.at.returns-in_err-parts-clause-err c).Start in
    rw (p.1, p.2) (m ∙ sym (answer_parts (src s) (told s) c.args.room (number_not _ _ m)))

pub texted-requires : goal.texted-requires
texted-requires c = parted (goal.at.texted-requires c).In_ok-parts

pub returns-then-not-texted-clause-err : goal.returns-then-not-texted-clause-err
returns-then-not-texted-clause-err c =
    let e = (goal.at.returns-then-not-texted-clause-err c).In_ok-parts in
    let s = begun e in
    sym (answer_9 (src s) (told s) s.args.room (zero e) (sym c.texted.ensures ∙ c.if-not-texted.true))

pub bounds-record-0 : goal.bounds-record-0
bounds-record-0 c = omega (arith, (kind (goal.at.bounds-record-0 c).In_ok-parts).1)

pub returns-in_err-rest-clause-err : goal.returns-in_err-rest-clause-err
returns-in_err-rest-clause-err c =
    let e = (goal.at.returns-in_err-rest-clause-err c).In_ok-parts in
    let s = begun e in
    let p = err_from_is_err_and c.from_residual-in_err-rest.result c.from_residual-in_err-rest.ensures.1 in
    let l = room_none s.args.room (long e) (sym c.inside-left.ensures ∙ c.in_err-rest.ensures.ok_part) in
    rw (p.1, p.2, refused _ _ _ c.in_err-rest.ensures.value)
    (sym (answer_10 (src s) (told s) s.args.room (zero e) (sym c.texted.ensures ∙ c.if-not-texted.false) (omega (arith, l, whole_is e))))

pub overflow_sub-body : goal.overflow_sub-body
overflow_sub-body c =
    let l = left_is (goal.at.overflow_sub-body c).In_ok-rest in
    omega (arith, l.0, l.1)

pub returns-in_err-ok_or-clause-err : goal.returns-in_err-ok_or-clause-err
returns-in_err-ok_or-clause-err c =
    let b = (goal.at.returns-in_err-ok_or-clause-err c).In_ok-rest in
    let e = els b in
    let s = begun e in
    let p = err_from_is_err_and c.from_residual-in_err-ok_or.result c.from_residual-in_err-ok_or.ensures.1 in
    let l = leb-false (frame_long (long e)) c.in_ok-rest.rest (sym (framed (goal.at.returns-in_err-ok_or-clause-err c).After-less_frame) ∙ sym c.in_err-ok_or.ensures.variant) in
    rw (p.1, p.2, refused _ _ _ c.in_err-ok_or.ensures.value)
    (sym (answer_10 (src s) (told s) s.args.room (zero e) (sym c.texted.ensures ∙ c.if-not-texted.false) (omega (arith, l, whole_is e, (left_is b).0, (left_is b).1))))

pub returns-clause-ok : goal.returns-clause-ok
returns-clause-ok c =
    let b = (goal.at.returns-clause-ok c).In_ok-rest in
    let e = els b in
    let s = begun e in
    let l = leb-true (frame_long (long e)) c.in_ok-rest.rest (sym (framed (goal.at.returns-clause-ok c).After-less_frame) ∙ sym c.in_ok-ok_or.ensures.variant) in
    record {
      taken = answer_0 (src s) (told s) s.args.room (zero e) (sym c.texted.ensures ∙ c.if-not-texted.false) (omega (arith, l, whole_is e, (left_is b).0, (left_is b).1));
      parted = parted e;
      body = body_is b ∙ sym (inner_is e);
    }
