-- A side of a book, its done orders or its live ones, and how many of it stand before each order and request, as code has them in arrays. Rests on Parts.
use Rattle.std.specs.Prelude.{◌≡◌, refl, ℕ, ◌+◌, ◌-◌, ◌≤◌, ◌<◌, Bool, true, false, List, length, get_or, slice_index, slice_set}
use Rattle.std.proofs.Common.{arith, ap, sym, ◌∙◌, below_more, get_or-set_same, get_or-set_other, eq-eqb, ne_eqb}
use Rattle.prelude.specs.Below.{count_below}
use Rattle.prelude.specs.Laws.Below.{count_none, count_hit, count_pass, count_le}
use Rattle.prelude.specs.Laws.Cases.{if_true, if_false}
use Rattle.prelude.specs.Number.{word16}
use Rattle.store.specs.declared.Order.{Order}
use Rattle.store.specs.declared.Request.{Request}
use Rattle.store.specs.Layout.{book_size, order_base, request_base, state·status, request·order}
use Rattle.store.specs.Book.{Book, book_of, request_in, order_count, request_count}
use Rattle.store.specs.Laws.Fields.{state_status, request_order}
use Rattle.store.specs.Laws.Stored.{length_orders, length_requests, order_in_lem, request_in_lem}
use Rattle.machine.specs.Orders.{is_done}
use Rattle.machine.proofs.Kept.Indexed.{BookKept, book_kept}
use Rattle.rules.specs.Keeps.{keeps_of}
use Rattle.rules.specs.Laws.Keeps.{keeps_held}
use Rattle.parts.specs.Parts.{done_at, live_at, of_passing, moved_link}

-- its done orders, or its live ones
unfoldable pub side : (done : Bool) → Book → ℕ → Bool
side true b = done_at b
side false b = live_at b

pub side_done : (b : Book) → side true b ≡ done_at b
unfolding side
side_done b = refl

pub side_live : (b : Book) → side false b ≡ live_at b
unfolding side
side_live b = refl

-- ---- as it is read

module _ (b : List ℕ) where
  pub kept_long : keeps_of b ≡ true → length b ≡ book_size
  kept_long e = (keeps_held b e).long

  pub good : keeps_of b ≡ true → BookKept (book_of b)
  good e = book_kept (book_of b) (keeps_held b e).rules

  pub done_read : (i : ℕ) → i < order_count b → is_done (get_or b (order_base i + state·status) 0) ≡ done_at (book_of b) i
  unfolding done_at
  done_read i h = ap is_done (sym (ap (λ (o : Order). o.state.status) (order_in_lem b i h) ∙ state_status b i))

  pub order_read : (j : ℕ) → j < request_count b → word16 b (request_base j + request·order) ≡ (request_in (book_of b) j).order
  order_read j h = sym (ap (λ (q : Request). q.order) (request_in_lem b j h) ∙ request_order b j)

  pub order_few : keeps_of b ≡ true → (j : ℕ) → j < request_count b → (request_in (book_of b) j).order < order_count b
  order_few e j h = omega (arith, length_orders b, length_requests b, ((good e).request j (omega (arith, length_requests b))).order)

-- an order is of the side, by whether it is done
pub side_same : (b : Book) (i : ℕ) (done : Bool) → done_at b i ≡ done → side done b i ≡ true
unfolding side
side_same b i true e = e
side_same b i false e = rw e

pub side_other : (b : Book) (i : ℕ) (done : Bool) → (done_at b i ≡ done → ⊥) → side done b i ≡ false
unfolding side
side_other b i done n = go done (done_at b i) refl n
  where
    go : (t d : Bool) → done_at b i ≡ d → (done_at b i ≡ t → ⊥) → side t b i ≡ false
    go true true e m = absurd (m e)
    go true false e m = e
    go false true e m = rw e
    go false false e m = absurd (m e)

-- ---- how many stand before each of the first n

pub record Ranks (p : ℕ → Bool) (n : ℕ) (ranks : List ℕ) : Type 0 where
  pub at : (k : ℕ) → k < n → slice_index ranks k ≡ count_below p k

pub record Ranked (done : Bool) (b before earlier : List ℕ) : Type 0 where
  pub orders : Ranks (side done (book_of b)) (order_count b) before
  pub requests : Ranks (of_passing (side done (book_of b)) (book_of b)) (request_count b) earlier

pub ranks_none : (p : ℕ → Bool) (ranks : List ℕ) → Ranks p 0 ranks
ranks_none p ranks = record { at = λ k h. absurd (omega arith) }

pub ranks_more : (p : ℕ → Bool) (i count : ℕ) (ranks : List ℕ) → i < length ranks → Ranks p i ranks → count ≡ count_below p i → Ranks p (i + 1) (slice_set ranks i count)
ranks_more p i count ranks h r e = record {
  at =
      below_more (λ k. slice_index (slice_set ranks i count) k ≡ count_below p k) i
      (λ k l. get_or-set_other ranks i k count 0 (λ q. absurd (omega (arith, q))) ∙ r.at k l)
      (get_or-set_same ranks i count 0 h ∙ e);
}

pub rank_few : (p : ℕ → Bool) (n k : ℕ) (ranks : List ℕ) → Ranks p n ranks → k < n → slice_index ranks k ≤ k
rank_few p n k ranks r h = omega (arith, r.at k h, count_le p k)

-- ---- a link moved by them

pub link_none : (p : ℕ → Bool) (behind link : ℕ) → link ≡ 0 → moved_link p behind link ≡ 0
unfolding moved_link
link_none p behind link e = if_true _ _ _ (eq-eqb link 0 e)

pub link_some : (p : ℕ → Bool) (n behind link : ℕ) (ranks : List ℕ) → Ranks p n ranks → link ≤ n → (link ≡ 0 → ⊥) → moved_link p behind link ≡ behind + slice_index ranks (link - 1) + 1
unfolding moved_link
link_some p n behind link ranks r h z = if_false _ _ _ (ne_eqb link 0 z) ∙ ap (λ (x : ℕ). behind + x + 1) (sym (r.at (link - 1) (omega (arith, z))))

-- ---- for the tactics of functions
pub ruleset read = (kept_long, done_read, order_read, order_few)

pub ruleset sides = (side_same, side_other)

pub ruleset ranking = (ranks_none, ranks_more, count_none, count_hit, count_pass, count_le)

pub ruleset linking = (rank_few, link_none, link_some)
