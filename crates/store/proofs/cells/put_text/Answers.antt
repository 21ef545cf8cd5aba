-- `put_text` meets its contract: it writes the bytes and the length behind them as one splice. Rests on prelude's Span.
use Rattle.std.proofs.Common.{◌≡◌, sym, ap, ◌∙◌, [], ◌∷◌, ℕ, ◌+◌, arith, length, get_or, Fits, w8, rules}
use Rattle.prelude.specs.Span.{splice}
use Rattle.prelude.specs.Laws.Span.{splice_append}
use Rattle.prelude.specs.Texts.{WholeText}
use Rattle.store.specs.Cells.{text_bytes}
use Rattle.store.proofs.cells.put_text.Goals as goal
use Rattle.store.proofs.cells.put_text.Goals.{Start}

whole : (s : Start) → WholeText s.args.t
whole s = record {
  long = search rules;
  len = search rules;
  bytes = λ k. let f : Fits w8 (get_or s.args.t.bytes k 0) = search rules in omega arith;
}

pub returns : goal.returns
unfolding text_bytes
returns c = let a = c.args in
    let h : length a.t.bytes ≡ 32 = search rules in (
      rw (c.put-2.ensures, c.put.ensures)
          (ap (λ (n : ℕ). splice (splice a.s.now a.at a.t.bytes) (a.at + n) (a.t.len ∷ [])) (sym h)
          ∙ splice_append a.s.now a.at a.t.bytes (a.t.len ∷ []) (omega arith)),
      whole (goal.at.returns c).Start,
    )
