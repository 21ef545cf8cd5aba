-- `count_clordids` meets its contract: it counts the requests in use that pass. Rests on Finds and InUse.
use Rattle.std.proofs.Common.{Bool, true, false, ◌≡◌, ◌+◌, refl, sym, ap, ◌∙◌, arith}
use Rattle.std.specs.Int.{from_bool}
use Rattle.prelude.specs.Below.{count_below}
use Rattle.prelude.specs.Laws.Below.{count_none, count_le}
use Rattle.prelude.specs.Cases.{if◌then◌otherwise◌}
use Rattle.store.specs.Layout.{header·orders, most_orders, header·requests, most_requests}
use Rattle.store.specs.Laws.Stored.{count_most}
use Rattle.store.specs.Laws.Finds.{used_at, count_step, count_clordids_bytes}
use Rattle.store.proofs.InUse.{none_counted}
use Rattle.store.proofs.finds.count_clordids.Goals as goal

one : (b : Bool) → from_bool b ≡ (if b then 1 otherwise 0)
unfolding if◌then◌otherwise◌
one true = refl
one false = refl

pub returns-in_default : goal.returns-in_default
returns-in_default c = sym (count_clordids_bytes _ c.args.client ∙ ap (count_below _) (none_counted _ _ _ c.in_default.ensures) ∙ count_none _)

pub loop-k-init : goal.loop-k-init
loop-k-init c = (omega arith, sym (count_none _))

pub used-requires : goal.used-requires
used-requires c =
    let b = c.in-Some.book.now in
    (omega (arith, count_most header·requests most_requests b), omega (arith, count_most header·orders most_orders b))

pub loop-k-preserved : goal.loop-k-preserved
loop-k-preserved c =
    let l = c.loop-k in
    let p = used_at c.in-Some.book.now c.order_count-n.result c.args.client in
    let e : l.count + c.from-count.result ≡ count_below p (l.k + 1) = rw (c.from-count.ensures, c.used.ensures, one, l.invariant.1) (sym (count_step p l.k)) in
    (rw e (count_le p (l.k + 1)), e)

pub returns : goal.returns
returns c =
    let b = c.in-Some.book.now in
    let n = c.request_count-k-end.result in
    let e : c.loop-k.k ≡ n = omega arith in
    rw (e, c.request_count-k-end.ensures, c.order_count-n.ensures, c.in-Some.ensures.1) at c.loop-k.invariant.1
    ∙ sym (count_clordids_bytes c.args.book.now c.args.client)
