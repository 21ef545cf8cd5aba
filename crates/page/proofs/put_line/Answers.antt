-- `page::put_line` meets its contract: its stores are the fields, one behind the other. Rests on Call.
use Rattle.std.proofs.Common.{◌≡◌, length, set, arith, length-set}
use Rattle.prelude.specs.Laws.Span.{set_splice}
use Rattle.page.specs.Page.{line_of}
use Rattle.page.specs.Laws.Call.{order_written}
use Rattle.page.proofs.put_line.Goals as goal

pub returns : goal.returns
unfolding line_of
returns c =
    let named : length c.put_left-2.new.s ≡ 81 = omega (arith, c.put_left-2.auto.s, c.put_left.auto.s, c.requires.0) in
    let long : length c.put_quantity-3.new.s ≡ 81 =
    omega (arith, c.put_quantity-3.auto.s, c.put_quantity-2.auto.s, c.put_quantity.auto.s, length-set c.put_left-2.new.s 36 c.args.o.state.status) in
    rw (
      set_splice (set c.put_quantity-3.new.s 79 32) 80 10 (omega (arith, length-set c.put_quantity-3.new.s 79 32)),
      set_splice c.put_quantity-3.new.s 79 32 (omega arith),
      c.put_quantity-3.ensures,
      c.leaves_qty-leaves.ensures,
      c.put_quantity-2.ensures,
      c.put_quantity.ensures,
      set_splice c.put_left-2.new.s 36 c.args.o.state.status (omega arith),
      c.put_left-2.ensures,
      c.put_left.ensures,
    )
    (order_written c.args.s.now c.args.o c.requires.0 c.requires.1)
