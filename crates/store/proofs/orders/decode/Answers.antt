-- `orders::decode` meets its contract: it reads the record's groups one by one. Rests on the laws of the record.
use Rattle.store.specs.Laws.Orders.{is_order}
use Rattle.store.proofs.orders.decode.Goals as goal

pub returns : goal.returns
returns c = is_order _ _ (record {
  client = c.u16_at.ensures;
  venue = c.u16_at-2.ensures;
  names = c.decode_names.ensures;
  terms = c.decode_terms.ensures;
  state = c.decode_state.ensures;
  links = c.decode_links.ensures;
  pending = c.decode_pending.ensures;
  gateway = c.decode_gateway.ensures;
})
