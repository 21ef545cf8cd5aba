-- `open_words` meets its contract: each turn adds what one order has left. Rests on Opens.
use Rattle.std.proofs.Common.{rules, sym, subst, ◌+◌}
use Rattle.retire.specs.Laws.Opens.{Words, words_none, first_some, first_few, words_more}
use Rattle.retire.proofs.opens.open_words.Goals.{in-Some, in_default}
use Rattle.retire.proofs.opens.open_words.Goals as goal

pub loop-k-init : goal.loop-k-init
loop-k-init c = words_none c.args.book.now

pub bounds-words-first : goal.bounds-words-first
bounds-words-first c = first_few c.args.book.now c.loop-k.k c.load_order-o.result (search rules) c.load_order-o.ensures c.find_client.result c.find_client.ensures c.in-Some.first c.in-Some.is

pub loop-k-preserved : goal.loop-k-preserved
loop-k-preserved c =
    let b = c.args.book.now in
    let l = c.loop-k in
    let o = c.load_order-o in
    let f = c.find_client in
    elim c.match-find_client.branch [
      | in-Some w ↦
          subst (Words b (l.k + 1)) (sym w.words-is)
          (words_more b l.k o.result (search rules) o.ensures f.result f.ensures l.words w.in-Some.first c.leaves_of-leaves.result w.in-Some.is c.leaves_of-leaves.ensures l.invariant)
      | in_default w ↦ absurd (first_some b l.k o.result (search rules) o.ensures f.result f.ensures w.in_default.is)
    ]
