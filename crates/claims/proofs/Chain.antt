-- The chain of a ClOrdID after any calls: each call leaves a book that check passes. Rests on Calls, and on chain's Sound and Called.
use Rattle.std.proofs.Common.{sym, subst, List, [], ◌∷◌, ℕ}
use Rattle.store.specs.Book.{book_of, blank}
use Rattle.store.specs.Laws.Kept.{bytes_blank}
use Rattle.chain.specs.Promise.{Chains}
use Rattle.chain.specs.Laws.Sound.{sound_chain}
use Rattle.chain.specs.Laws.Called.{sound_call}
use Rattle.step.specs.Entries.{event_of}
use Rattle.claims.specs.Claims.{Call}
use Rattle.claims.specs.Opens.{bytes_after}
use Rattle.claims.specs.Chain.{ChainOnBytes}
use Rattle.kept.proofs.Header.{blank_keeps}
use Rattle.claims.proofs.Taken.{kept_check}
use Rattle.claims.proofs.Calls.{Good, faithful, start_is}

list_good : (b : List ℕ) → Good b → (cs : List Call) → Good (bytes_after b cs)
list_good b g [] = g
list_good b g (i ∷ is) = list_good (event_of b i.event i.answer).book (faithful.stays b i g) is

chains : (b : List ℕ) → Good b → (cs : List Call) → Chains (book_of (bytes_after b cs))
chains b g cs = sound_chain (bytes_after b cs) (list_good b g cs).keeps

pub chain_on_bytes : ChainOnBytes
chain_on_bytes = record {
  passes = λ b z. sound_chain b (kept_check b z);
  calls = λ b p cs. chains b (record { keeps = kept_check b p.passes; bytes = p.bytes }) cs;
  start = λ b setting z cs.
      subst (λ (x : List ℕ). Chains (book_of (bytes_after x cs))) (sym (start_is b setting z))
      (chains (blank setting) (record { keeps = blank_keeps setting; bytes = bytes_blank setting }) cs);
  call = sound_call;
}
