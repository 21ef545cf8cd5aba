-- The measure of `count` is k: each step goes to a request numbered lower.
use Rattle.chain.proofs.+count.Given as goal

abbrev pub decreases-count : goal.decreases-count
decreases-count l = l.k
