-- A ClOrdID names a request in use, and an empty one none. Rests on store's Finds and Named.
use Rattle.std.specs.Prelude.{ℕ, ◌+◌, ◌<◌, ◌≡◌, List, Some}
use Rattle.std.proofs.Common.{sym, ◌∙◌, arith, eq-eqb}
use Rattle.prelude.specs.Laws.Below.{First, first_some}
use Rattle.prelude.specs.Laws.Cases.{maybe_none}
use Rattle.prelude.specs.declared.Text.{Text}
use Rattle.store.specs.Layout.{header·requests, most_requests}
use Rattle.store.specs.Book.{book_of, order_count, request_count}
use Rattle.store.specs.Finds.{find_clordid}
use Rattle.store.specs.Laws.Finds.{used_as_at, find_clordid_bytes}
use Rattle.store.specs.Laws.Stored.{count_most}
use Rattle.index.specs.Index.{origin_of}
use Rattle.index.specs.Laws.Named.{empty_none}

module _ (b : List ℕ) where
  -- what a ClOrdID names is a request in use
  pub found_used : (client : ℕ) (t : Text) (k : ℕ) → find_clordid (book_of b) client t ≡ Some k → k < request_count b
  found_used client t k e =
      let f : First (used_as_at b (order_count b) client t) (request_count b) k = first_some _ _ k (sym (find_clordid_bytes b client t) ∙ e) in
      f.below

  pub found_few : (client : ℕ) (t : Text) (k : ℕ) → find_clordid (book_of b) client t ≡ Some k → k < most_requests
  found_few client t k e = omega (arith, found_used client t k e, count_most header·requests most_requests b)

  pub origin_none : (client : ℕ) (t : Text) → t.len ≡ 0 → 0 ≡ origin_of (book_of b) client t
  unfolding origin_of
  origin_none client t e = sym (maybe_none (find_clordid (book_of b) client t) 0 (λ k. k + 1) (empty_none (book_of b) client t (eq-eqb t.len 0 e)))
