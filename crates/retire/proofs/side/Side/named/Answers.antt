-- `Side::named` meets its contract: what is named goes along, or it is the order's own. Rests on Moved.
use Rattle.std.proofs.Common.{ℕ, ◌-◌, ◌≤◌, sym, ap, ◌∙◌, arith, length}
use Rattle.store.specs.Book.{book_of, request_count}
use Rattle.store.specs.Laws.Stored.{length_requests}
use Rattle.parts.specs.Parts.{of_passing}
use Rattle.retire.specs.Laws.Side.{side}
use Rattle.retire.specs.Laws.Moved.{named_zero, named_same, named_own, own_within}
use Rattle.retire.proofs.side.Side.named.Goals as goal

pub returns-then-link-eq0 : goal.returns-then-link-eq0
returns-then-link-eq0 c =
    let s = c.args.self.now in
    let x = book_of s.book.bytes.now in
    (named_zero x c.args.i (side s.done x) c.args.o c.requires.1 c.if-link-eq0.true, omega arith)

pub returns-then-has_request : goal.returns-then-has_request
returns-then-has_request c =
    let s = c.args.self.now in
    let x = book_of s.book.bytes.now in
    (named_same x c.args.i (side s.done x) c.args.o c.requires.1 (ap (λ (n : ℕ). of_passing (side s.done x) x (n - 1)) (sym c.from.ensures) ∙ sym c.has_request.ensures ∙ c.if-has_request.true), c.requires.2.named)

pub returns : goal.returns
returns c =
    let s = c.args.self.now in
    let b = s.book.bytes.now in
    let x = book_of b in
    let own = c.own_cancel in
    let few : length x.requests ≤ request_count b = omega (arith, length_requests b) in (
      named_own x c.args.i (side s.done x) c.args.o c.requires.1 own.result own.ensures c.if-link-eq0.false
          (ap (λ (n : ℕ). of_passing (side s.done x) x (n - 1)) (sym c.from.ensures) ∙ sym c.has_request.ensures ∙ c.if-has_request.false),
      own_within x c.args.i (side s.done x) c.args.o c.requires.1 (request_count b) own.result c.requires.2 few own.ensures,
    )
