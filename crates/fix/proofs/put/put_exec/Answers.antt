-- `fix::put::put_exec`: room for the digits behind the point. Assumes nothing.
use Rattle.std.proofs.Common.{ap, arith, length, length-set}
use Rattle.fix_words.specs.Laws.Counting.{decimal_none}
use Rattle.fix.proofs.put.put_exec.Goals as goal

pub put_decimal-requires : goal.put_decimal-requires
put_decimal-requires c =
    let p = c.put_bytes-a in
    omega (arith, p.ensures.0, p.auto.out, length-set p.new.out p.result 46, ap length (decimal_none c.args.n))
