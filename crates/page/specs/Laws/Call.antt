-- Laws by which the code of the call goes: an order's line, one turn of the loop over the orders, and the three ways the call ends.
-- Rests on Pages and Kept.
use Rattle.std.specs.Prelude.{ℕ, ◌+◌, ◌-◌, ◌*◌, ◌≤◌, ◌<◌, ◌≡◌, true, false, List, ◌++◌, length, get_or, take, drop}
use Rattle.std.proofs.Common.{sym, ap, subst, ◌∙◌, arith, take_all, lt-ltb, le-ltb}
use Rattle.prelude.specs.Cases.{if◌then◌otherwise◌}
use Rattle.prelude.specs.Pieces.{writes}
use Rattle.prelude.specs.Span.{splice}
use Rattle.prelude.specs.Laws.Span.{length_splice, part_splice}
use Rattle.prelude.specs.Counted.{refusing, counting}
use Rattle.store.specs.declared.Order.{Order}
use Rattle.store.specs.Book.{book_of, order_in, order_count, load_order}
use Rattle.store.specs.Laws.Stored.{length_orders, load_order_in}
use Rattle.rules.specs.Keeps.{keeps_of}
use Rattle.page.specs.Page.{fields, line_of, line_bytes, page_of, page_bytes, paged, page_call}
use Rattle.page.specs.Promise.{InRange}
use Rattle.page.specs.Laws.Line.{widths, sized, line_written, length_line}
use Rattle.page.specs.Laws.Pages.{length_page, length_some, page_put}
use Rattle.page.specs.Laws.Kept.{in_range_lem, fine_order, no_line, page_line, fine_bytes, count_lines}
use Rattle.rules.specs.Laws.Keeps.{keeps_held}

-- an order's fields over 81 bytes
pub order_written : (s : List ℕ) (o : Order) → length s ≡ 81 → InRange o → writes s 0 widths (fields (line_of o)) ≡ line_bytes (line_of o)
unfolding line_of
order_written s o e r = line_written s (line_of o) e (sized (line_of o) r.ordered r.cumulative r.leaves)

module _ (b : List ℕ) (kept : keeps_of b ≡ true) where
  -- the order that is loaded
  loaded : (i : ℕ) → i < order_count b → (o : Order) → o ≡ load_order b i → o ≡ order_in (book_of b) i
  loaded i h o e = e ∙ load_order_in b i h

  pub range_loaded : (i : ℕ) → i < order_count b → (o : Order) → o ≡ load_order b i → InRange o
  range_loaded i h o e =
      subst InRange (sym (loaded i h o e)) (in_range_lem (book_of b) (keeps_held b kept).rules i (omega (arith, length_orders b)))

  long_loaded : (i : ℕ) → i < order_count b → (o : Order) → o ≡ load_order b i → length (line_bytes (line_of o)) ≡ 81
  long_loaded i h o e =
      ap (λ (x : Order). length (line_bytes (line_of x))) (loaded i h o e)
      ∙ length_line (line_of (order_in (book_of b) i)) (fine_order (book_of b) (keeps_held b kept).rules i (omega (arith, length_orders b)))

  -- one turn: the part that was lent is back with line i in it
  pub turn : (s t w : List ℕ) (i : ℕ) (o : Order) → i < order_count b → 81 * order_count b ≤ length s → o ≡ load_order b i
      → t ≡ splice s 0 (page_bytes (take i (page_of (book_of b)))) → w ≡ line_bytes (line_of o)
      → take (81 * i) t ++ (w ++ drop ((81 * i + 81) - 81 * i) (drop (81 * i) t)) ≡ splice s 0 (page_bytes (take (i + 1) (page_of (book_of b))))
  turn s t w i o h room e before line =
      part_splice t w (81 * i) 81 (ap length line ∙ long_loaded i h o e)
      ∙ ap (splice t (81 * i)) (line ∙ ap (λ (x : Order). line_bytes (line_of x)) (loaded i h o e) ∙ sym (ap line_bytes (page_line (book_of b) i)))
      ∙ ap (λ (x : List ℕ). splice x (81 * i) (line_bytes (get_or (page_of (book_of b)) i no_line))) before
      ∙ page_put s no_line (page_of (book_of b)) i (fine_bytes b kept) (omega (arith, count_lines b)) (omega (arith, count_lines b))

  pub turn_length : (s : List ℕ) (i : ℕ) → i < order_count b → 81 * order_count b ≤ length s → length (splice s 0 (page_bytes (take (i + 1) (page_of (book_of b))))) ≡ length s
  turn_length s i h room =
      let l : length (page_bytes (take (i + 1) (page_of (book_of b)))) ≡ 81 * (i + 1) = length_some no_line (page_of (book_of b)) (i + 1) (fine_bytes b kept) (omega (arith, count_lines b)) in
      length_splice s 0 (page_bytes (take (i + 1) (page_of (book_of b)))) (omega arith)

  -- all lines
  pub whole : (i : ℕ) → i ≡ order_count b → page_bytes (take i (page_of (book_of b))) ≡ page_bytes (page_of (book_of b))
  whole i e = ap page_bytes (take_all i (page_of (book_of b)) (omega (arith, count_lines b)))

  pub page_long : length (page_bytes (page_of (book_of b))) ≡ 81 * order_count b
  page_long = length_page no_line (page_of (book_of b)) (fine_bytes b kept) ∙ ap (λ (n : ℕ). 81 * n) (count_lines b)

  -- ---- how the call ends

  pub page_short : (out : List ℕ) → length out < 81 * order_count b → paged (refusing 8) out ≡ page_call b out
  unfolding page_call if◌then◌otherwise◌
  page_short out h = rw (kept, count_lines b, lt-ltb (length out) (81 * order_count b) h)

  pub page_done : (out : List ℕ) → 81 * order_count b ≤ length out
      → paged (counting (81 * order_count b)) (splice out 0 (page_bytes (page_of (book_of b)))) ≡ page_call b out
  unfolding page_call if◌then◌otherwise◌
  page_done out h = rw (kept, count_lines b, le-ltb (length out) (81 * order_count b) h, page_long)

pub page_bad : (b out : List ℕ) → keeps_of b ≡ false → paged (refusing 1) out ≡ page_call b out
unfolding page_call if◌then◌otherwise◌
page_bad b out e = rw e

-- for the tactics of the turns and of the call
pub ruleset turns = (turn, turn_length, whole)

pub ruleset calls = (page_bad, page_short, page_done)
