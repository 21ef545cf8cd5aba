-- The call as the code comes to it. Rests on rules' laws and index's Sums.
use Rattle.std.specs.Prelude.{◌≡◌, ℕ, true, false, List, None, Some}
use Rattle.std.proofs.Common.{sym, ap, ◌∙◌}
use Rattle.prelude.specs.Laws.Cases.{if_true, if_false, maybe_none, maybe_some}
use Rattle.store.specs.Book.{book_of, open_at, load_open}
use Rattle.store.specs.Finds.{find_client}
use Rattle.store.specs.Laws.Opens.{load_open_in}
use Rattle.machine.specs.Exchange.{open_of}
use Rattle.index.specs.Index.{stored_open}
use Rattle.index.specs.Laws.Sums.{client_at}
use Rattle.rules.specs.Keeps.{keeps_of}
use Rattle.rules.specs.Laws.Keeps.{keeps_stored}
use Rattle.opens.specs.Opens.{opened, open_call}

module _ (b : List ℕ) where
  pub call_bad : (client : ℕ) → keeps_of b ≡ false → opened 1 0 ≡ open_call b client
  unfolding open_call
  call_bad client e = sym (if_false _ _ _ e)

  module _ (client : ℕ) (e : keeps_of b ≡ true) where
    call_good : open_call b client ≡ opened 0 (open_of (book_of b) client)
    unfolding open_call
    call_good = if_true _ _ _ e

    -- the word of the first order, or 0
    pub call_found : (i n : ℕ) → find_client (book_of b) client ≡ Some i → n ≡ load_open b i → opened 0 n ≡ open_call b client
    unfolding stored_open
    call_found i n f v =
        let is : n ≡ open_of (book_of b) client =
        v ∙ load_open_in b i (client_at b client i f).0 ∙ sym (maybe_some (find_client (book_of b) client) i 0 (open_at b) f) ∙ keeps_stored b e client in
        ap (opened 0) is ∙ sym call_good

    pub call_none : find_client (book_of b) client ≡ None → opened 0 0 ≡ open_call b client
    unfolding stored_open
    call_none f =
        let is : 0 ≡ open_of (book_of b) client = sym (maybe_none (find_client (book_of b) client) 0 (open_at b) f) ∙ keeps_stored b e client in
        ap (opened 0) is ∙ sym call_good

-- for the tactic of the call
pub ruleset calls = (call_bad, call_found, call_none)
