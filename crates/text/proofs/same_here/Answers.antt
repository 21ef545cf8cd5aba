-- `same_here` meets its contract: the length and the four words. Rests on ByWords.
use Rattle.std.proofs.Common.{rules, arith, Fits, w8, get_or}
use Rattle.text.specs.Laws.ByWords.{same_words}
use Rattle.text.proofs.same_here.Goals as goal

pub returns : goal.returns
returns c =
    rw (c.u64_at.ensures, c.u64_at-2.ensures, c.u64_at-3.ensures, c.u64_at-4.ensures, c.u64_at-5.ensures, c.u64_at-6.ensures, c.u64_at-7.ensures, c.u64_at-8.ensures)
    (same_words c.args.s.now c.args.at c.args.t (λ n. omega (arith, c.type_inv.s n)) c.requires (search rules) (λ n. let f : Fits w8 (get_or c.args.t.bytes n 0) = search rules in f.fits))
