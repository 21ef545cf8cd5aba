-- What the book's rules give the lines, a turn of the loop over the orders, and the ways the call ends. Rests on Pair and Lines.
use Rattle.std.specs.Prelude.{ℕ, zero, suc, ◌+◌, ◌-◌, ◌*◌, ◌^◌, ◌≤◌, ◌<◌, ◌≡◌, refl, Bool, true, false, ◌&&◌, leb, length, take, drop, List, [], ◌∷◌, ◌++◌}
use Rattle.std.proofs.Common.{sym, subst, ◌∙◌, add-one, arith, length-append, ap, append-nil, lt-ltb, le-ltb}
use Rattle.std.proofs.lemmas.Bool.{and_parts}
use Rattle.std.specs.List.{concat}
use Rattle.prelude.specs.Cases.{if◌then◌otherwise◌}
use Rattle.prelude.specs.Laws.Cases.{split_if, if_true, if_false}
use Rattle.prelude.specs.Laws.Pieces.{length_joined}
use Rattle.prelude.specs.Span.{splice}
use Rattle.prelude.specs.Laws.Span.{length_splice, splice_nil, part_splice}
use Rattle.prelude.specs.Texts.{is_text}
use Rattle.prelude.specs.Totals.{Every, every[], every∷}
use Rattle.prelude.specs.declared.Text.{Text}
use Rattle.prelude.specs.Counted.{refusing, counting}
use Rattle.store.specs.declared.Order.{Order}
use Rattle.store.specs.Book.{Book, book_of, order_in, order_count, load_order}
use Rattle.store.specs.Laws.Stored.{length_orders, load_order_in, count_most}
use Rattle.machine.specs.Ranges.{text_within}
use Rattle.machine.specs.Rules.{rules}
use Rattle.machine.proofs.Kept.Indexed.{book_kept}
use Rattle.machine.proofs.Kept.OrderSteps.{names_kept}
use Rattle.page.specs.Laws.Kept.{in_range_lem}
use Rattle.rules.specs.Keeps.{keeps_of}
use Rattle.rules.specs.Laws.Keeps.{keeps_held}
use Rattle.net.specs.declared.Amounts.{Amounts}
use Rattle.net.specs.Net.{Position, position_of, netted, filled_in, unseen, is_first, positions, net_of, twos, fields, line_bytes, net_bytes, least_scratch, least_lines, written, net_call}
use Rattle.net.specs.Laws.Line.{widths, sized}
use Rattle.net.specs.Laws.Lines.{Narrow, every_append, length_net, net_put}

-- ---- an order that keeps its rules

is_text_lem : (t : Text) → text_within 1 16 t ≡ true → is_text t ≡ true
unfolding text_within
is_text_lem t e = (and_parts (is_text t) (leb 1 t.len) (and_parts (is_text t && leb 1 t.len) (leb t.len 16) e).0).0

-- what a line needs of it
pub record Lined (o : Order) : Type 0 where
  pub text : is_text o.names.symbol ≡ true
  pub len : o.names.symbol.len ≤ 16
  pub filled : o.state.cumqty ≤ 10 ^ 12

module _ (b : Book) (kept : rules b ≡ true) where
  pub order_lined : (i : ℕ) → i < length b.orders → Lined (order_in b i)
  order_lined i h =
      let r = in_range_lem b kept i h in
      record { text = is_text_lem _ (names_kept (order_in b i).names ((book_kept b kept).order i h).names).symbol; len = r.symbol; filled = r.cumulative }

-- ---- the positions

-- one order more
module _ (b : Book) (n : ℕ) where
  pub positions_first : is_first b n ≡ true → positions b (n + 1) ≡ positions b n ++ (position_of b (order_in b n) ∷ [])
  unfolding positions
  positions_first e = ap (positions b) (add-one n) ∙ ap (λ (l : List Position). positions b n ++ l) (if_true _ _ _ e)

  pub positions_other : is_first b n ≡ false → positions b (n + 1) ≡ positions b n
  unfolding positions
  positions_other e = ap (positions b) (add-one n) ∙ ap (λ (l : List Position). positions b n ++ l) (if_false _ _ _ e) ∙ append-nil (positions b n)

pub positions_few : (b : Book) (n : ℕ) → length (positions b n) ≤ n
unfolding positions
positions_few b zero = omega arith
positions_few b (suc n) =
    split_if (λ (l : List Position). length (positions b n ++ l) ≤ suc n) (is_first b n)
    (λ e. simp length-append (omega (arith, positions_few b n))) (λ e. simp length-append (omega (arith, positions_few b n)))

-- what holds of the position of each order holds of all
pub positions_all : (P : Position → Type 0) (b : Book) → ((i : ℕ) → i < length b.orders → P (position_of b (order_in b i)))
    → (n : ℕ) → n ≤ length b.orders → Every P (positions b n)
unfolding positions
positions_all P b f zero h = every[]
positions_all P b f (suc n) h =
    every_append (positions_all P b f n (omega arith))
    (split_if (Every P) (is_first b n) (λ e. every∷ (f n (omega arith)) every[]) (λ e. every[]))

-- ---- on bytes

module _ (b : List ℕ) (kept : keeps_of b ≡ true) where
  pub order_at : (i : ℕ) → i < order_count b → Lined (order_in (book_of b) i)
  order_at i h = order_lined (book_of b) (keeps_held b kept).rules i (omega (arith, length_orders b))

  pub narrow : (n : ℕ) → n ≤ order_count b → Every Narrow (positions (book_of b) n)
  unfolding position_of
  narrow n h = positions_all Narrow (book_of b) (λ i k. (order_lined (book_of b) (keeps_held b kept).rules i k).len) n (omega (arith, length_orders b))

  pub fewest : (n : ℕ) → n ≤ order_count b → length (positions (book_of b) n) ≤ 64
  fewest n h = omega (arith, positions_few (book_of b) n, count_most 0 64 b)

  -- the lines so far leave the buffer as long as it was
  pub length_lines : (s : List ℕ) (n : ℕ) → n ≤ order_count b → least_lines ≤ length s → length (splice s 0 (net_bytes (positions (book_of b) n))) ≡ length s
  length_lines s n h room = length_splice s 0 (net_bytes (positions (book_of b) n)) (omega (arith, length_net (narrow n h), fewest n h))

-- what the turn at order i makes of the buffer and of the count of lines
pub record IsNext (b : Book) (i lines : ℕ) (out : List ℕ) (r : ℕ) (left : List ℕ) : Type 0 where
  pub number : r ≡ (if is_first b i then lines + 1 otherwise lines)
  pub bytes : left ≡ (if is_first b i then splice out (27 * lines) (line_bytes (position_of b (order_in b i))) otherwise out)

-- by what was loaded, compared, summed and written
module _ (b : List ℕ) (i : ℕ) (h : i < order_count b) (o : Order) (e : o ≡ load_order b i) where
  loaded : o ≡ order_in (book_of b) i
  loaded = e ∙ load_order_in b i h

  first_is : unseen (book_of b) o.client o.names.symbol i ≡ is_first (book_of b) i
  first_is = ap (λ (x : Order). unseen (book_of b) x.client x.names.symbol i) loaded

  pub lined_loaded : keeps_of b ≡ true → Lined o
  lined_loaded kept = subst Lined (sym loaded) (order_at b kept i h)

  pub next_none : (lines : ℕ) (out : List ℕ) → unseen (book_of b) o.client o.names.symbol i ≡ false → IsNext (book_of b) i lines out lines out
  next_none lines out f =
      let z : is_first (book_of b) i ≡ false = sym first_is ∙ f in
      record { number = sym (if_false _ _ _ z); bytes = sym (if_false _ _ _ z) }

  module _ (kept : keeps_of b ≡ true) (a : Amounts) (n : ℕ) (w : List ℕ)
      (s : a ≡ filled_in (book_of b) o.client o.names.symbol) (t : n ≡ twos (netted a)) (is : w ≡ concat (fields o.client o.names.symbol n)) where
    line_is : w ≡ line_bytes (position_of (book_of b) (order_in (book_of b) i))
    unfolding line_bytes position_of
    line_is =
        is
        ∙ ap (λ (k : ℕ). concat (fields o.client o.names.symbol k)) (t ∙ ap (λ (x : Amounts). twos (netted x)) s)
        ∙ ap (λ (x : Order). concat (fields x.client x.names.symbol (twos (netted (filled_in (book_of b) x.client x.names.symbol))))) loaded

    pub line_long : length w ≡ 27
    line_long = ap length is ∙ length_joined widths (fields o.client o.names.symbol n) (sized o.client o.names.symbol n (lined_loaded kept).len)

    pub next_line : (lines : ℕ) (out : List ℕ) → unseen (book_of b) o.client o.names.symbol i ≡ true
        → IsNext (book_of b) i lines out (lines + 1) (take (27 * lines) out ++ (w ++ drop ((27 * lines + 27) - 27 * lines) (drop (27 * lines) out)))
    next_line lines out f =
        let z : is_first (book_of b) i ≡ true = sym first_is ∙ f in
        record {
          number = sym (if_true _ _ _ z);
          bytes = part_splice out w (27 * lines) 27 line_long ∙ ap (splice out (27 * lines)) line_is ∙ sym (if_true _ _ _ z);
        }

-- a turn
pub record Turned (b : Book) (s : List ℕ) (n r : ℕ) (out : List ℕ) : Type 0 where
  pub number : r ≡ length (positions b n)
  pub bytes : out ≡ splice s 0 (net_bytes (positions b n))

pub turned_none : (b : Book) (s : List ℕ) → Turned b s 0 0 s
unfolding positions net_bytes
turned_none b s = record { number = refl; bytes = sym (splice_nil s 0) }

pub turn : (b : List ℕ) → keeps_of b ≡ true → (s : List ℕ) (i lines r : ℕ) (out left : List ℕ) → i < order_count b → least_lines ≤ length s
    → Turned (book_of b) s i lines out → IsNext (book_of b) i lines out r left → Turned (book_of b) s (i + 1) r left
turn b kept s i lines r out left h room t x = go (is_first (book_of b) i) refl
  where
    go : (v : Bool) → is_first (book_of b) i ≡ v → Turned (book_of b) s (i + 1) r left
    go true e =
        let more = positions_first (book_of b) i e in
        record {
          number = x.number ∙ if_true _ _ _ e ∙ omega (arith, t.number, ap length more, length-append (positions (book_of b) i) (position_of (book_of b) (order_in (book_of b) i) ∷ []));
          bytes =
              x.bytes ∙ if_true _ _ _ e
              ∙ (λ k. splice (t.bytes k) (27 * t.number k) (line_bytes (position_of (book_of b) (order_in (book_of b) i))))
              ∙ net_put s (positions (book_of b) i) (position_of (book_of b) (order_in (book_of b) i)) (narrow b kept i (omega arith)) (omega (arith, fewest b kept i (omega arith)))
              ∙ ap (λ (l : List Position). splice s 0 (net_bytes l)) (sym more);
        }
    go false e =
        let same = positions_other (book_of b) i e in
        record {
          number = x.number ∙ if_false _ _ _ e ∙ t.number ∙ ap length (sym same);
          bytes = x.bytes ∙ if_false _ _ _ e ∙ t.bytes ∙ ap (λ (l : List Position). splice s 0 (net_bytes l)) (sym same);
        }

-- all orders
pub whole : (b : List ℕ) (n : ℕ) → n ≡ order_count b → positions (book_of b) n ≡ net_of (book_of b)
unfolding net_of
whole b n e = ap (positions (book_of b)) (e ∙ sym (length_orders b))

pub net_few : (b : List ℕ) → keeps_of b ≡ true → length (net_of (book_of b)) ≤ 64
net_few b kept = omega (arith, ap length (whole b (order_count b) refl), fewest b kept (order_count b) (omega arith))

-- ---- how the call ends

pub net_bad : (b lines : List ℕ) (n : ℕ) → keeps_of b ≡ false → written (refusing 1) lines ≡ net_call b n lines
unfolding net_call if◌then◌otherwise◌
net_bad b lines n e = rw e

module _ (b : List ℕ) (kept : keeps_of b ≡ true) (lines : List ℕ) (n : ℕ) where
  pub net_scratch : n < least_scratch → written (refusing 11) lines ≡ net_call b n lines
  unfolding net_call if◌then◌otherwise◌
  net_scratch h = rw (kept, lt-ltb n least_scratch h)

  pub net_short : least_scratch ≤ n → length lines < least_lines → written (refusing 11) lines ≡ net_call b n lines
  unfolding net_call if◌then◌otherwise◌
  net_short g h = rw (kept, le-ltb n least_scratch g, lt-ltb (length lines) least_lines h)

  pub net_done : least_scratch ≤ n → least_lines ≤ length lines → written (counting (length (net_of (book_of b)))) (splice lines 0 (net_bytes (net_of (book_of b)))) ≡ net_call b n lines
  unfolding net_call if◌then◌otherwise◌
  net_done g h = rw (kept, le-ltb n least_scratch g, le-ltb (length lines) least_lines h)

-- for the tactics of the turns and of the call
pub ruleset turns = (positions_few, length_lines, turned_none, turn, whole)

pub ruleset calls = (net_scratch, net_short, net_done, net_few)
