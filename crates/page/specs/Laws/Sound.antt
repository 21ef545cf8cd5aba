-- `SoundPage`, the page of a book that keeps its rules, said of its bytes; `LargestFits`; and `SoundCall`, the ways the call ends: proved.
-- Rests on Pages, Kept and Call.
use Rattle.std.specs.Prelude.{ℕ, ◌+◌, ◌*◌, ◌^◌, ◌≤◌, ◌<◌, ◌≡◌, refl, Bool, true, false, List, length, get_or}
use Rattle.std.proofs.Common.{sym, ap, ◌∙◌, add-zero, arith, lit≤, subst}
use Rattle.std.proofs.Math.Decide.{dec_lt}
use Rattle.prelude.specs.Span.{span, splice}
use Rattle.prelude.specs.Laws.Span.{span_span, get_span, span_byte, length_splice, span_splice_same, span_splice_after}
use Rattle.prelude.specs.Texts.{contents}
use Rattle.prelude.specs.declared.Text.{Text}
use Rattle.decimal.specs.Decimal.{blank, digits, down}
use Rattle.decimal.specs.Laws.Width.{width_more, width_one, decimal_long}
use Rattle.store.specs.declared.Order.{Order}
use Rattle.store.specs.Book.{book_of, order_in, order_count}
use Rattle.store.specs.Laws.Stored.{length_orders}
use Rattle.machine.specs.Orders.{leaves_qty}
use Rattle.rules.specs.Keeps.{keeps_of}
use Rattle.page.specs.Page.{left, quantity, line_of, line_bytes, page_of, page_bytes, Paged, page_call}
use Rattle.page.specs.Promise.{Shows, Reads, InRange, IsLine, SoundPage, LargestFits, IsPrinted, SoundCall}
use Rattle.page.specs.Laws.Line.{Fine, text_shows, quantity_reads, field, line_feed_lem, line_print}
use Rattle.page.specs.Laws.Pages.{length_page, line_at}
use Rattle.page.specs.Laws.Kept.{in_range_lem, fine_order, no_line, page_line, fine_bytes, count_lines}
use Rattle.page.specs.Laws.Call.{page_long, page_bad, page_short, page_done}
use Rattle.rules.specs.Laws.Keeps.{keeps_held}

-- a line that stands in a page
module _ (p : List ℕ) (i : ℕ) (o : Order) (f : Fine (line_of o)) (r : InRange o) (line : span p (81 * i) 81 ≡ line_bytes (line_of o)) where
  part : (at n : ℕ) → at + n ≤ 81 → span p (81 * i + at) n ≡ span (line_bytes (line_of o)) at n
  part at n h = sym (span_span p (81 * i) 81 at n h) ∙ ap (λ (s : List ℕ). span s at n) line

  byte : (k : ℕ) → k < 81 → get_or p (81 * i + k) 0 ≡ get_or (line_bytes (line_of o)) k 0
  byte k h = sym (get_span p (81 * i) 81 k h) ∙ ap (λ (s : List ℕ). get_or s k 0) line

  start : span p (81 * i) 20 ≡ span p (81 * i + 0) 20
  start = let e : 81 * i ≡ 81 * i + 0 = omega arith in ap (λ (k : ℕ). span p k 20) e

  shows : (at width : ℕ) (t : Text) → span p at width ≡ left width (contents t) → t.len ≤ width → Shows width (span p at width) t
  shows at width t e h = subst (λ (s : List ℕ). Shows width s t) (sym e) (text_shows width t h)

  reads : (at n : ℕ) → span p at 14 ≡ quantity n → Reads (quantity n) n → Reads (span p at 14) n
  reads at n e q = subst (λ (s : List ℕ). Reads s n) (sym e) q

  is_line : IsLine p i o
  unfolding line_of
  is_line = record {
    range = r;
    columns = record {
      name = shows (81 * i) 20 o.names.name (start ∙ part 0 20 (omega arith) ∙ field (line_of o) f 0) r.name;
      symbol = shows (81 * i + 20) 16 o.names.symbol (part 20 16 (omega arith) ∙ field (line_of o) f 1) r.symbol;
      status = byte 36 (omega arith) ∙ span_byte (line_bytes (line_of o)) 36 o.state.status (field (line_of o) f 2);
      ordered = reads (81 * i + 37) o.terms.qty (part 37 14 (omega arith) ∙ field (line_of o) f 3) (quantity_reads o.terms.qty r.ordered);
      cumulative = reads (81 * i + 51) o.state.cumqty (part 51 14 (omega arith) ∙ field (line_of o) f 4) (quantity_reads o.state.cumqty r.cumulative);
      leaves = reads (81 * i + 65) (leaves_qty o) (part 65 14 (omega arith) ∙ field (line_of o) f 5) (quantity_reads (leaves_qty o) r.leaves);
      gap = byte 79 (omega arith) ∙ span_byte (line_bytes (line_of o)) 79 blank (field (line_of o) f 6);
      feed = byte 80 (omega arith) ∙ line_feed_lem (line_of o) f;
    };
    line = line;
    visible = λ k h. subst (λ (x : ℕ). 32 ≤ x) (sym (byte k (omega arith))) (line_print (line_of o) f k h);
  }

-- THE THEOREM
pub sound_page : SoundPage
sound_page b kept =
    let m : length (page_of (book_of b)) ≡ order_count b = count_lines b in
    let k = (keeps_held b kept).rules in (
      length_page no_line (page_of (book_of b)) (fine_bytes b kept) ∙ ap (λ (n : ℕ). 81 * n) m,
      λ i h.
          let l : i < length (book_of b).orders = omega (arith, length_orders b) in
          is_line (page_bytes (page_of (book_of b))) i (order_in (book_of b) i) (fine_order (book_of b) k i l) (in_range_lem (book_of b) k i l)
          (line_at no_line (page_of (book_of b)) (fine_bytes b kept) i (omega arith) ∙ ap line_bytes (page_line (book_of b) i)),
    )

down_largest : down 4 (10 ^ 12) ≡ 100000000
unfolding down
down_largest = refl

pub largest_fits : LargestFits
largest_fits =
    decimal_long 4 (10 ^ 12) (omega arith)
    ∙ ap (λ (n : ℕ). length (digits n) + 1 + 4) down_largest
    ∙ omega (
      arith,
      width_more 100000000 (lit≤ tt),
      width_more 10000000 (lit≤ tt),
      width_more 1000000 (lit≤ tt),
      width_more 100000 (lit≤ tt),
      width_more 10000 (lit≤ tt),
      width_more 1000 (lit≤ tt),
      width_more 100 (lit≤ tt),
      width_more 10 (lit≤ tt),
      width_one 1 (lit≤ tt),
    )

-- ---- the call

-- a byte behind what is written at the front
pub behind_front : (s w : List ℕ) (k : ℕ) → length w ≤ k → length w ≤ length s → get_or (splice s 0 w) k 0 ≡ get_or s k 0
behind_front s w k h l =
    ap (λ (j : ℕ). get_or (splice s 0 w) j 0) (sym (add-zero k))
    ∙ sym (get_span (splice s 0 w) k 1 0 (omega arith))
    ∙ ap (λ (t : List ℕ). get_or t 0 0) (span_splice_after s 0 w k 1 (omega arith) (omega arith))
    ∙ get_span s k 1 0 (omega arith)
    ∙ ap (λ (j : ℕ). get_or s j 0) (add-zero k)

module _ (book out : List ℕ) where
  call_enough : keeps_of book ≡ true → 81 * order_count book ≤ length out → IsPrinted book out (page_call book out)
  call_enough kept h =
      let w : List ℕ = page_bytes (page_of (book_of book)) in
      let l : length w ≡ 81 * order_count book = page_long book kept in
      subst (λ (r : Paged). IsPrinted book out r) (page_done book kept out h)
      (record {
        returned = refl;
        size = length_splice out 0 w (omega arith);
        page = span_splice_same out 0 w (81 * order_count book) l (omega arith);
        rest = λ k g. behind_front out w k (omega arith) (omega arith);
      })

  -- the refusal, each way
  ends : (P : ℕ → Type 0)
      → (keeps_of book ≡ false → P 1)
      → (keeps_of book ≡ true → length out < 81 * order_count book → P 8)
      → (keeps_of book ≡ true → 81 * order_count book ≤ length out → P 0)
      → P (page_call book out).returned.refusal
  ends P bad short enough = by (keeps_of book) refl (dec_lt (length out) (81 * order_count book))
    where
      by : (b : Bool) → keeps_of book ≡ b → Dec (length out < 81 * order_count book) → P (page_call book out).returned.refusal
      by false e d = subst (λ (r : Paged). P r.returned.refusal) (page_bad book out e) (bad e)
      by true e (yes h) = subst (λ (r : Paged). P r.returned.refusal) (page_short book e out h) (short e h)
      by true e (no h) =
          subst (λ (r : Paged). P r.returned.refusal) (page_done book e out (omega arith)) (enough e (omega arith))

pub sound_call : SoundCall
sound_call book out = record {
  bad = λ e. sym (page_bad book out e);
  short = λ e h. sym (page_short book e out h);
  enough = call_enough book out;
  one = ends book out (λ n. n ≡ 1 → keeps_of book ≡ false) (λ e z. e) (λ e h z. absurd (omega arith)) (λ e h z. absurd (omega arith));
  eight = ends book out (λ n. n ≡ 8 → (keeps_of book ≡ true) × (length out < 81 * order_count book)) (λ e z. absurd (omega arith)) (λ e h z. (e, h)) (λ e h z. absurd (omega arith));
}
