-- `load_order` meets its contract: it gives the order of its record, or that of zeros. Rests on Loaded.
use Rattle.std.proofs.Common.{ap, ◌∙◌}
use Rattle.store.specs.Orders.{decode_order}
use Rattle.store.specs.Book.{load_order, order_at}
use Rattle.store.proofs.Loaded.{loaded}
use Rattle.store.proofs.load_order.Goals as goal

pub returns : goal.returns
unfolding load_order order_at
returns c = loaded _ _ _ _ _ c.record.ensures c.map_or.ensures (λ a p q. q ∙ ap decode_order p)
