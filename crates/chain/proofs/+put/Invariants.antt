-- The measure of `put` is k: each step goes to a request numbered lower.
use Rattle.chain.proofs.+put.Given as goal

abbrev pub decreases-put : goal.decreases-put
decreases-put l = l.k
