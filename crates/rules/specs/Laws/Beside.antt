-- The link of an OrigClOrdID, on the book's bytes, and that it is machine's rule and index's of them. Rests on index and store's Laws.
use Rattle.std.specs.Prelude.{◌≡◌, ℕ, ◌-◌, ◌<◌, Bool, true, false, ◌&&◌, ◌||◌, List, ◌==◌, nat_le, nat_lt, refl}
use Rattle.std.proofs.Common.{ap₂, ap, arith, ltb-true, leb-true}
use Rattle.prelude.specs.Texts.{same_text}
use Rattle.store.specs.declared.Request.{Request}
use Rattle.store.specs.Book.{book_of, request_at, request_in, request_count, origin_at}
use Rattle.store.specs.Laws.Stored.{request_in_lem}
use Rattle.machine.specs.Orders.{is_empty}
use Rattle.index.specs.Laws.Links.{backs}

-- the link of request k names a request before it, of its order, that bears its OrigClOrdID
unfoldable pub link_at : List ℕ → (k link : ℕ) → Bool
link_at b k link =
    nat_lt 0 link && nat_le link k && (request_at b (link - 1)).order == (request_at b k).order
    && same_text (request_at b (link - 1)).clordid (request_at b k).origclordid

unfoldable pub beside_at : List ℕ → ℕ → Bool
beside_at b k = is_empty (request_at b k).origclordid || link_at b k (origin_at b k)

module _ (b : List ℕ) where
  backs_here : (k link : ℕ) → k < request_count b → backs (book_of b).requests k link ≡ link_at b k link
  unfolding link_at backs
  backs_here k link h = rw (request_in_lem b k h) (go (nat_lt 0 link) (nat_le link k) refl refl)
    where
      go : (u v : Bool) → nat_lt 0 link ≡ u → nat_le link k ≡ v
          → nat_lt 0 link && nat_le link k && (request_in (book_of b) (link - 1)).order == (request_at b k).order
          && same_text (request_in (book_of b) (link - 1)).clordid (request_at b k).origclordid
          ≡ nat_lt 0 link && nat_le link k && (request_at b (link - 1)).order == (request_at b k).order
          && same_text (request_at b (link - 1)).clordid (request_at b k).origclordid
      go true true p q = rw (request_in_lem b (link - 1) (omega (arith, ltb-true 0 link p, leb-true link k q)))
      go true false p q = rw (p, q)
      go false v p q = rw p

  pub beside_here : (k : ℕ) → k < request_count b → is_empty (request_in (book_of b) k).origclordid || backs (book_of b).requests k (origin_at b k) ≡ beside_at b k
  unfolding beside_at
  beside_here k h = ap₂ ◌||◌ (ap (λ (q : Request). is_empty q.origclordid) (request_in_lem b k h)) (backs_here k (origin_at b k) h)
