-- The chain of a ClOrdID after any calls (change request 9), on bytes. Rests on Claims, Opens (`bytes_after`) and chain's promises.
use Rattle.std.specs.Prelude.{ℕ, ◌≡◌, List}
use Rattle.store.specs.Book.{book_of}
use Rattle.chain.specs.Promise.{Chains, IsCall}
use Rattle.step.specs.Entries.{check_of, start_of, start_refusal}
use Rattle.claims.specs.Claims.{Call, Passes}
use Rattle.claims.specs.Opens.{bytes_after}

-- THE CHAIN OF A NAME goes back to the first request of its order, each step to one numbered lower there (chain's Promise)
pub record ChainOnBytes : Type 0 where
  -- on any bytes that check passes
  pub passes : (b : List ℕ) → check_of b ≡ 0 → Chains (book_of b)
  -- from such bytes, and from start, after any list of calls
  pub calls : (b : List ℕ) → Passes b → (cs : List Call) → Chains (book_of (bytes_after b cs))
  pub start : (b : List ℕ) (setting : ℕ) → start_refusal b ≡ 0 → (cs : List Call) → Chains (book_of (bytes_after (start_of b setting) cs))
  -- and the call's refusals, count and entries are what chain says, of any bytes
  pub call : (b : List ℕ) (client : ℕ) (name list : List ℕ) → IsCall b client name list
