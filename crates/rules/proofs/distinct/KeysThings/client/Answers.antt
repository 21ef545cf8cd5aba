-- The client of a request's order, in place. Rests on store's Fields and Things.
use Rattle.std.proofs.Common.{ℕ, sym, ap, ◌∙◌, arith}
use Rattle.prelude.specs.Cases.{if◌then◌otherwise◌}
use Rattle.store.specs.Book.{order_at}
use Rattle.store.specs.Laws.Fields.{order_client, request_order}
use Rattle.rules.specs.Laws.Things.{client_in, placed_key}
use Rattle.rules.proofs.distinct.KeysThings.client.Goals as goal

pub u16_at-requires-2 : goal.u16_at-requires-2
u16_at-requires-2 c =
    omega (arith, (placed_key c.args.book.now c.args.i c.requires.1).1, request_order c.args.book.now c.args.i, c.u16_at.ensures, c.from-o.ensures)

pub returns : goal.returns
unfolding client_in if◌then◌otherwise◌
returns c =
    let b = c.args.book.now in
    c.u16_at-2.ensures
    ∙ sym (order_client b c.from-o.result)
    ∙ ap (λ (n : ℕ). (order_at b n).client) (c.from-o.ensures ∙ c.u16_at.ensures ∙ sym (request_order b c.args.i))
