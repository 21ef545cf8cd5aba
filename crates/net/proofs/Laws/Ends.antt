-- The nets are small, the lines are read back, and the call ends as Promise says. Rests on Sound and Call.
use Rattle.std.proofs.Common.{ℕ, suc, ◌*◌, ◌^◌, ◌≤◌, ◌<◌, ◌≡◌, refl, Bool, ◌⊎◌, List, [], ◌∷◌, length, get_or, sym, subst, ⊎_elim, arith, true, false}
use Rattle.std.proofs.Math.Decide.{dec_lt}
use Rattle.prelude.specs.Laws.Cases.{split_if}
use Rattle.prelude.specs.Number.{Bytes}
use Rattle.prelude.specs.Laws.Span.{length_splice}
use Rattle.prelude.specs.Totals.{total_of, Every}
use Rattle.prelude.specs.declared.Text.{Text}
use Rattle.prelude.specs.Counted.{refusing}
use Rattle.store.specs.declared.Order.{Order}
use Rattle.store.specs.Orders.{no_order, FitsOrder}
use Rattle.store.specs.Book.{Book, order_in, book_of, order_count}
use Rattle.store.specs.Laws.Stored.{length_orders, order_in_lem, order_fits}
use Rattle.machine.specs.Since.{filled_on}
use Rattle.machine.specs.Rules.{rules}
use Rattle.machine.proofs.Kept.Indexed.{book_kept}
use Rattle.page.specs.Laws.Sound.{behind_front}
use Rattle.rules.specs.Keeps.{keeps_of}
use Rattle.rules.specs.Laws.Keeps.{keeps_held}
use Rattle.net.specs.Net.{filled_in, Position, position_of, positions, net_of, no_position, net_bytes, least_scratch, least_lines, Written, written, net_call}
use Rattle.net.specs.Promise.{small, IsSmall, NetSmall, IsWritten, SoundCall}
use Rattle.net.specs.Laws.Pair.{in_use}
use Rattle.net.specs.Laws.Line.{twos_read, twos_bound, Fits}
use Rattle.net.specs.Laws.Lines.{length_net, lines_read}
use Rattle.net.specs.Laws.Call.{order_lined, positions_all, narrow, whole, net_few, net_bad, net_scratch, net_short, net_done}

-- ---- how large a net can be

total_most : (f : Order → ℕ) (os : List Order) → ((k : ℕ) → k < length os → f (get_or os k no_order) ≤ 10 ^ 12) → total_of f os ≤ 10 ^ 12 * length os
total_most f [] h = omega arith
total_most f (o ∷ os) h = omega (arith, h 0 (omega arith), total_most f os (λ k l. h (suc k) (omega arith)))

filled_most : (bought : Bool) (client : ℕ) (symbol : Text) (o : Order) → filled_on bought client symbol o ≤ o.state.cumqty
filled_most bought client symbol o = split_if (λ n. n ≤ o.state.cumqty) _ (λ e. omega arith) (λ e. omega arith)

module _ (b : Book) (kept : rules b ≡ true) (client : ℕ) (symbol : Text) where
  total_small : (bought : Bool) → total_of (filled_on bought client symbol) b.orders ≤ small
  total_small bought =
      omega (
        arith,
        (book_kept b kept).orders,
        total_most (filled_on bought client symbol) b.orders
            (λ k h. omega (arith, filled_most bought client symbol (order_in b k), (order_lined b kept k h).filled)),
      )

  pub bought_small : (filled_in b client symbol).bought ≤ small
  unfolding filled_in
  bought_small = total_small true

  pub sold_small : (filled_in b client symbol).sold ≤ small
  unfolding filled_in
  sold_small = total_small false

pub net_small : NetSmall
unfolding net_of position_of
net_small b kept =
    positions_all IsSmall b
    (λ i h.
    let o : Order = order_in b i in
    let x = bought_small b kept o.client o.names.symbol in
    let y = sold_small b kept o.client o.names.symbol in
    record { above = omega arith; below = omega arith })
    (length b.orders) (omega arith)

-- ---- the lines read

module _ (b : List ℕ) (kept : keeps_of b ≡ true) (bytes : Bytes b) where
  fits_order : (i : ℕ) → i < order_count b → FitsOrder (order_in (book_of b) i)
  fits_order i h = subst FitsOrder (sym (order_in_lem b i h)) (order_fits b (keeps_held b kept).long bytes i (in_use b i h).few)

  position_fits : (i : ℕ) → i < length (book_of b).orders → Fits (position_of (book_of b) (order_in (book_of b) i))
  unfolding position_of
  position_fits i h =
      let o : Order = order_in (book_of b) i in
      let r : rules (book_of b) ≡ true = (keeps_held b kept).rules in
      let f : FitsOrder o = fits_order i (omega (arith, length_orders b)) in
      let l = order_lined (book_of b) r i h in
      let x : (filled_in (book_of b) o.client o.names.symbol).bought ≤ small = bought_small (book_of b) r o.client o.names.symbol in
      let y : (filled_in (book_of b) o.client o.names.symbol).sold ≤ small = sold_small (book_of b) r o.client o.names.symbol in
      record {
        client = f.client;
        long = f.names.symbol.long;
        text = l.text;
        len = l.len;
        net = twos_read _ _ (omega (arith, x)) (omega (arith, y));
        bits = twos_bound _ _ (omega (arith, x));
      }

  pub net_fits : Every Fits (net_of (book_of b))
  unfolding net_of
  net_fits = positions_all Fits (book_of b) position_fits (length (book_of b).orders) (omega arith)

-- ---- the call

module _ (book : List ℕ) (scratch : ℕ) (lines : List ℕ) where
  call_enough : keeps_of book ≡ true → least_scratch ≤ scratch → least_lines ≤ length lines → IsWritten book lines (net_call book scratch lines)
  call_enough kept g h =
      let ps : List Position = net_of (book_of book) in
      let is : positions (book_of book) (order_count book) ≡ ps = whole book (order_count book) refl in
      let most : length ps ≤ 64 = net_few book kept in
      let long : length (net_bytes ps) ≡ 27 * length ps = length_net (subst (Every _) is (narrow book kept (order_count book) (omega arith))) in
      subst (λ (r : Written). IsWritten book lines r) (net_done book kept lines scratch g h)
      (record {
        returned = refl;
        most = most;
        size = length_splice lines 0 (net_bytes ps) (omega arith);
        read = λ bytes. lines_read lines no_position (net_fits book kept bytes) (omega arith);
        rest = λ k l. behind_front lines (net_bytes ps) k (omega arith) (omega arith);
      })

  call_short : keeps_of book ≡ true → Dec (scratch < least_scratch) → ((scratch < least_scratch) ⊎ (length lines < least_lines))
      → net_call book scratch lines ≡ written (refusing 11) lines
  call_short kept (yes l) d = sym (net_scratch book kept lines scratch l)
  call_short kept (no l) d = ⊎_elim (λ x. absurd (l x)) (λ x. sym (net_short book kept lines scratch (omega arith) x)) d

pub sound_call : SoundCall
sound_call book scratch lines = record {
  bad = λ e. sym (net_bad book lines scratch e);
  short = λ e d. call_short book scratch lines e (dec_lt scratch least_scratch) d;
  enough = call_enough book scratch lines;
}
