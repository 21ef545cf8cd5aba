-- A try sent, of the record alone, is the machine's step on the order's record. Rests on Tries and machine's GatewayCancel.
use Rattle.std.specs.Prelude.{◌≡◌, refl}
use Rattle.store.specs.declared.Order.{Order}
use Rattle.machine.specs.GatewayCancel.{try_sent}
use Rattle.gateway_cancel.specs.Tries.{sent_once}

pub sent_is_try : (o : Order) → sent_once o.gateway o.links.current ≡ try_sent o
unfolding sent_once try_sent
sent_is_try o = refl
