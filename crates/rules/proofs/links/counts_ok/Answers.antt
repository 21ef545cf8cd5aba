-- `counts_ok` meets its contract: each field in place. Rests on store's Fields.
use Rattle.std.proofs.Common.{eqb}
use Rattle.std.proofs.Math.Bool.{not-not}
use Rattle.store.specs.Book.{order_at}
use Rattle.store.specs.Laws.Fields.{terms_qty, state_status, state_cumqty, links_amendments, pending_request, gateway_unsent, gateway_tries, gateway_origdownstream}
use Rattle.machine.specs.Orders.{has_pending, has_gateway}
use Rattle.machine.specs.Rules.{filled_rule, done_rule, tries_rule}
use Rattle.rules.specs.Laws.Here.{counts_at}
use Rattle.rules.proofs.links.counts_ok.Goals as goal

pub returns : goal.returns
unfolding counts_at filled_rule done_rule has_pending has_gateway tries_rule
returns c =
    let b = c.args.book.now in
    let i = c.args.i in
    rw (
      c.tries_ok.ensures,
      c.unsent_of-unsent.ensures,
      c.u16_at-link.ensures,
      c.u16_at-pending.ensures,
      c.is_done.ensures,
      c.status_ok.ensures,
      c.u64_at-cumqty.ensures,
      c.u64_at.ensures,
      c.count_ok.ensures,
      c.u16_at-amendments.ensures,
      not-not (eqb (order_at b i).pending.request 0),
      not-not (eqb (order_at b i).gateway.origdownstream 0),
      terms_qty b i,
      state_status b i,
      state_cumqty b i,
      links_amendments b i,
      pending_request b i,
      gateway_unsent b i,
      gateway_tries b i,
      gateway_origdownstream b i,
    )
