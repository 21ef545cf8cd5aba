-- `line::put_line` meets its contract: its stores are the fields, one behind the other. Rests on Line.
use Rattle.std.proofs.Common.{◌≡◌, length, rules}
use Rattle.prelude.specs.Number.{bytes_of}
use Rattle.net.specs.Laws.Line.{front, line_written}
use Rattle.net.proofs.line.put_line.Goals as goal

pub returns : goal.returns
returns c =
    let p = c.args.pair in
    let long : length p.symbol.bytes ≡ 32 = search rules in
    let whose : c.to_le_bytes.result ≡ bytes_of 2 p.client = search rules in
    let number : c.to_le_bytes-2.result ≡ bytes_of 8 c.args.net = search rules in
    rw (c.put-4.ensures, number, c.put-3.ensures, front p.symbol long c.requires.1 c.requires.2, c.put-2.ensures, c.put.ensures, whose)
    (line_written c.args.s.now p.client p.symbol c.args.net c.requires.0 c.requires.2)
