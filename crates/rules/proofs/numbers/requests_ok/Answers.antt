-- `requests_ok` meets its contract: the requests below j keep their rules, and each order's counter is how many of them it has. Rests on Here.
use Rattle.std.proofs.Common.{◌≡◌, ◌<◌, get_or, sym, ◌∙◌, refl, arith, length-set}
use Rattle.prelude.specs.Laws.Below.{all_none, all_more, all_miss, all_elim, count_none, count_le, count_next}
use Rattle.prelude.specs.Laws.Bytes.{get_zeros}
use Rattle.store.specs.Book.{request_at}
use Rattle.store.specs.Laws.Fields.{request_order}
use Rattle.rules.specs.Laws.Here.{range_at, of_order_at, pass_at, range_name, rule_unbooked, rule_booked}
use Rattle.rules.specs.Laws.Origin.{pass_text}
use Rattle.rules.proofs.numbers.requests_ok.Goals as goal
use Rattle.rules.proofs.numbers.requests_ok.Goals.{then-o-book-via-then-o-book, then-o-book-via-else-o-book+then-not-request_ok}

pub loop-j-init : goal.loop-j-init
loop-j-init c = record {
  long = refl;
  right = all_none _;
  counted = λ o h. get_zeros 64 o ∙ sym (count_none _);
}

pub request_ok-requires : goal.request_ok-requires
request_ok-requires c =
    let b = c.args.book.now.bytes.now in
    let n = c.args.book.now.orders in
    let o = c.from-o.result in
    let l = c.loop-j in
    let h : o < n = c.if-o-book.false in (
      omega arith,
      omega arith,
      omega (arith, l.invariant.counted o (omega arith), count_le (of_order_at b o) l.j),
      range_name b c.args.book.now.requests o (all_elim (range_at b c.args.book.now.requests) n c.requires o h),
      request_order b l.j ∙ sym c.u16_at.ensures ∙ sym c.from-o.ensures,
      λ i u. pass_text b n i (all_elim (pass_at b n) l.j l.invariant.right i u),
    )

pub returns-then-o-book : goal.returns-then-o-book
returns-then-o-book c =
    let b = c.args.book.now.bytes.now in
    let n = c.args.book.now.orders in
    let o = c.from-o.result in
    let l = c.loop-j in
    let e : (request_at b l.j).order ≡ o = request_order b l.j ∙ sym c.u16_at.ensures ∙ sym c.from-o.ensures in
    all_miss (pass_at b n) c.args.book.now.requests l.j (omega arith)
    (elim c.then-o-book.branch [
      | then-o-book-via-then-o-book w ↦ rule_unbooked b n l.j o e w.if-o-book.true
      | then-o-book-via-else-o-book+then-not-request_ok w ↦
          rule_booked b n l.j o e (get_or l.next o 0) w.if-o-book.false (l.invariant.counted o (omega arith)) ∙ sym w.request_ok.ensures ∙ w.if-not-request_ok.true
    ])

pub overflow_add-next : goal.overflow_add-next
overflow_add-next c =
    let o = c.from-o.result in
    let l = c.loop-j in
    record { fits = omega (arith, l.invariant.counted o (omega arith), count_le (of_order_at c.args.book.now.bytes.now o) l.j) }

pub loop-j-preserved : goal.loop-j-preserved
loop-j-preserved c =
    let b = c.args.book.now.bytes.now in
    let n = c.args.book.now.orders in
    let o = c.from-o.result in
    let l = c.loop-j in
    let e : (request_at b l.j).order ≡ o = request_order b l.j ∙ sym c.u16_at.ensures ∙ sym c.from-o.ensures in
    record {
      long = simp length-set l.invariant.long;
      right = all_more _ _ l.invariant.right
          (rule_booked b n l.j o e (get_or l.next o 0) c.if-o-book.false (l.invariant.counted o (omega arith)) ∙ sym c.request_ok.ensures ∙ c.if-not-request_ok.false);
      counted = count_next (λ k. (request_at b k).order) l.next 64 l.j o (omega arith) e l.invariant.counted;
    }
