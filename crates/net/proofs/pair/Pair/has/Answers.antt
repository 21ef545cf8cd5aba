-- `Pair::has` meets its contract: client and symbol are those of the record. Rests on Pair.
use Rattle.std.proofs.Common.{◌+◌, ◌∙◌, arith, ne_eqb}
use Rattle.net.specs.Laws.Pair.{used_few, used_long, in_use, pair_other, pair_same}
use Rattle.words.specs.Laws.Windows.{window_16}
use Rattle.store.specs.Layout.{order_base, order·client}
use Rattle.net.proofs.pair.Pair.has.Goals as goal

pub slice_bounds-get16-end : goal.slice_bounds-get16-end
slice_bounds-get16-end c = omega (arith, used_few c.args.book.now c.args.k c.requires, used_long c.args.book.now c.args.k c.requires)

pub returns-then-get16-self : goal.returns-then-get16-self
returns-then-get16-self c =
    let b = c.args.book.now in
    pair_same b c.args.k (in_use b c.args.k c.requires) c.args.self.now.client c.args.self.now.symbol _ (c.get16.ensures ∙ window_16 b (order_base c.args.k + order·client)) c.if-get16-self.true _ c.text_is.ensures

pub returns-else-get16-self : goal.returns-else-get16-self
returns-else-get16-self c =
    let b = c.args.book.now in
    ne_eqb _ _ c.if-get16-self.false
    ∙ pair_other b c.args.k (in_use b c.args.k c.requires) c.args.self.now.client c.args.self.now.symbol _ (c.get16.ensures ∙ window_16 b (order_base c.args.k + order·client)) c.if-get16-self.false
