-- `texts_ok` meets its contract: if all are short, no bit stands behind them. Rests on Gathered, Letters and store's Fields.
use Rattle.std.proofs.Common.{◌≡◌, true, sym, ◌∙◌}
use Rattle.store.specs.Book.{order_at}
use Rattle.store.specs.Laws.Fields.{names_clordid, names_downstream, names_symbol, names_venueorderid}
use Rattle.rules.specs.Laws.Gathered.{or_clear}
use Rattle.rules.specs.Laws.Letters.{shorts, texts_short}
use Rattle.rules.proofs.ranges.texts_ok.Goals as goal

pub returns-then-short_all : goal.returns-then-short_all
returns-then-short_all c =
    let b = c.args.book.now in
    let i = c.args.i in
    let n = (order_at b i).names in
    let e : shorts n.clordid.len n.downstream.len n.symbol.len n.venueorderid.len ≡ true =
    rw (names_clordid b i, names_downstream b i, names_symbol b i, names_venueorderid b i) (sym c.short_all.ensures ∙ c.if-short_all.true) in
    simp or_clear
    (rw (
      c.short_diff.ensures,
      c.short_diff-then-short_all.ensures,
      c.short_diff-then-short_all-2.ensures,
      c.short_diff-then-short_all-3.ensures,
      ← names_clordid b i,
      ← names_downstream b i,
      ← names_symbol b i,
      ← names_venueorderid b i,
    ) (texts_short n e))
