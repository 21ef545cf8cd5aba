-- The call as the code comes to it. Rests on Walk and Called.
use Rattle.std.specs.Prelude.{ℕ, ◌*◌, ◌≤◌, ◌<◌, ◌≡◌, true, List, [], length, None, Some}
use Rattle.std.proofs.Common.{arith, sym, ap, ap₂, ◌∙◌}
use Rattle.prelude.specs.Span.{splice}
use Rattle.prelude.specs.Laws.Span.{splice_nil}
use Rattle.prelude.specs.declared.Counted.{Counted}
use Rattle.prelude.specs.Counted.{refusing, counting}
use Rattle.store.specs.Book.{book_of}
use Rattle.rules.specs.Keeps.{keeps_of}
use Rattle.chain.specs.Chain.{called_by, chain_of, entry_size, entries_of, chained, chain_call}
use Rattle.chain.specs.Laws.Walk.{walk, chain_walk, chain_empty}
use Rattle.chain.specs.Laws.Called.{call_bad, call_short, call_written}

module _ (b : List ℕ) (client : ℕ) (name list : List ℕ) (keeps : keeps_of b ≡ true) where
  abbrev ks : List ℕ
  ks = chain_of (book_of b) client name

  -- a request is called, and its walk has n entries
  module _ (k n : ℕ) (e : called_by (book_of b) client name ≡ Some k) (count : n ≡ length (walk b k)) where
    is_walk : ks ≡ walk b k
    is_walk = (chain_walk b keeps client name k e).1

    is_count : n ≡ length ks
    is_count = count ∙ sym (ap length is_walk)

    pub as_short : (r : Counted) → length list < entry_size * n → r ≡ refusing 12 → chained r list ≡ chain_call b client name list
    as_short r h s = ap (λ (c : Counted). chained c list) s ∙ sym (call_short b client name list keeps (omega (arith, is_count)))

    pub as_written : (r : Counted) (out : List ℕ) → entry_size * n ≤ length list → r ≡ counting n → out ≡ splice list 0 (entries_of b (walk b k))
        → chained r out ≡ chain_call b client name list
    as_written r out h s w =
        ap₂ chained (s ∙ ap counting is_count) (w ∙ ap (λ (l : List ℕ). splice list 0 (entries_of b l)) (sym is_walk))
        ∙ sym (call_written b client name list keeps (omega (arith, is_count)))

  pub as_none : (r : Counted) → called_by (book_of b) client name ≡ None → r ≡ counting 0 → chained r list ≡ chain_call b client name list
  as_none r e s =
      let z : ks ≡ [] = chain_empty b keeps client name e in
      let n : length ks ≡ 0 = ap length z in
      ap₂ chained (s ∙ ap counting (sym n)) (sym (ap (λ (l : List ℕ). splice list 0 (entries_of b l)) z ∙ blank))
      ∙ sym (call_written b client name list keeps (omega arith))
    where
      blank : splice list 0 (entries_of b []) ≡ list
      blank = unfold entries_of in splice_nil list 0

-- for the tactic of the call
pub ruleset calls = (call_bad, as_short, as_written, as_none)
