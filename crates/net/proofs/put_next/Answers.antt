-- `put_next` meets its contract: the order is not the first of its client and symbol, or its line is written. Rests on Call.
use Rattle.std.proofs.Common.{◌≤◌, sym, ◌∙◌, arith, length-take, length-drop}
use Rattle.store.specs.Laws.Stored.{count_most}
use Rattle.net.specs.Laws.Call.{lined_loaded, next_none, next_line}
use Rattle.net.proofs.put_next.Goals as goal
use Rattle.net.proofs.put_next.Goals.{Start}

pub returns-then-not-unseen : goal.returns-then-not-unseen
returns-then-not-unseen c =
    next_none c.args.book.now.bytes.now c.args.i c.requires.0 c.load_order-o.result c.load_order-o.ensures c.args.lines c.args.out.now (sym c.unseen.ensures ∙ c.if-not-unseen.true)

few : (s : Start) → s.args.lines ≤ 63
few s = omega (arith, s.requires.0, s.requires.1, count_most 0 64 s.args.book.now.bytes.now)

pub put_line-requires : goal.put_line-requires
put_line-requires c =
    let k = c.args.book.now in
    let r = lined_loaded k.bytes.now c.args.i c.requires.0 c.load_order-o.result c.load_order-o.ensures k.kept in
    (simp (length-take, length-drop) (omega (arith, few (goal.at.put_line-requires c).Start)), r.text, r.len)

pub returns : goal.returns
returns c =
    let k = c.args.book.now in
    next_line k.bytes.now c.args.i c.requires.0 c.load_order-o.result c.load_order-o.ensures k.kept c.amounts.result c.net-net.result c.put_line.new.s
    c.amounts.ensures c.net-net.ensures c.put_line.ensures c.args.lines c.args.out.now (sym c.unseen.ensures ∙ c.if-not-unseen.false)
