-- A gateway cancel's record after one more try, which names the request `current`: `try_sent` of machine, of the record alone. Rests on machine's Orders.
use Rattle.std.specs.Prelude.{ℕ, false}
use Rattle.store.specs.declared.GatewayCancel.{GatewayCancel}
use Rattle.machine.specs.Orders.{one_more}

unfoldable pub sent_once : GatewayCancel → ℕ → GatewayCancel
sent_once g current = record {
  tries = one_more 255 g.tries;
  unsent = false;
  stuck = g.stuck;
  origdownstream = current;
  refusedsends = g.refusedsends;
}
