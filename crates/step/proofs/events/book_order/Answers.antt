-- `book_order` meets its contract by `book_at_lem`. Assumes nothing.
use Rattle.std.proofs.Common.{◌∙◌}
use Rattle.amend.specs.Laws.Booking.{book_at_lem}
use Rattle.step.specs.Laws.Found.{orders_read, requests_read}
use Rattle.step.proofs.events.book_order.Goals as goal

pub returns-clause-is : goal.returns-clause-is
returns-clause-is c =
    c.book_order.ensures.is
    ∙ rw (c.is_unused-fresh.ensures, c.link_of-place.ensures, c.link_of-link.ensures, (orders_read _ _ c.order_count.ensures).0, (requests_read _ _ c.request_count.ensures).0) (book_at_lem _ _)
