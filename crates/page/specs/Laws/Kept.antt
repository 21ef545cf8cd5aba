-- What the book's rules give a page: each order's line is in range, and is the page's line of that number. Rests on machine's, index's and rules' laws.
use Rattle.std.specs.Prelude.{ℕ, zero, suc, ◌^◌, ◌≤◌, ◌<◌, ◌≡◌, refl, Bool, true, not, ◌&&◌, List, [], ◌∷◌, map, eqb, leb, length, get_or}
use Rattle.std.proofs.Common.{sym, subst, ◌∙◌, ⊎_elim, arith, eqb-true, leb-true}
use Rattle.std.proofs.lemmas.Bool.{and_parts, or_cases}
use Rattle.std.proofs.lemmas.List.{length-map}
use Rattle.prelude.specs.Below.{all_below}
use Rattle.prelude.specs.Laws.Cases.{clash}
use Rattle.prelude.specs.Texts.{is_text}
use Rattle.prelude.specs.declared.Text.{Text}
use Rattle.format.specs.Codes.{listed, statuses, is_side, is_status}
use Rattle.store.specs.declared.Order.{Order}
use Rattle.store.specs.Orders.{no_order}
use Rattle.store.specs.Book.{Book, book_of, order_in, order_count}
use Rattle.store.specs.Laws.Stored.{length_orders}
use Rattle.format.specs.Codes.{within, alnum_at, is_none, is_name}
use Rattle.machine.specs.Ranges.{text_within, name_range}
use Rattle.machine.specs.Rules.{force_range, priced_range, terms_range, filled_rule, rules}
use Rattle.machine.proofs.Kept.Indexed.{book_kept}
use Rattle.machine.proofs.Kept.OrderSteps.{names_kept}
use Rattle.rules.specs.Keeps.{keeps_of}
use Rattle.page.specs.Page.{Line, line_of, page_of}
use Rattle.page.specs.Promise.{InRange}
use Rattle.page.specs.Laws.Line.{Fine}
use Rattle.page.specs.Laws.Pages.{AllFine}
use Rattle.rules.specs.Laws.Keeps.{keeps_held}
use Rattle.index.specs.Laws.Sums.{leaves_less}

-- ---- ranges

name_short : (t : Text) → name_range t ≡ true → t.len ≤ 20
unfolding name_range is_name
name_short t e =
    let (w, _) = and_parts (within 1 20 t.len) (all_below (alnum_at t) t.len && not (is_none t)) (and_parts (is_text t) (is_name t) e).1 in
    leb-true t.len 20 (and_parts (leb 1 t.len) (leb t.len 20) w).1

symbol_short : (t : Text) → text_within 1 16 t ≡ true → t.len ≤ 16
unfolding text_within
symbol_short t e = leb-true t.len 16 (and_parts (is_text t && leb 1 t.len) (leb t.len 16) e).1

terms_qty : (o : Order) → terms_range o.terms ≡ true → o.terms.qty ≤ 10 ^ 12
unfolding terms_range
terms_qty o e = leb-true o.terms.qty (10 ^ 12) (and_parts (is_side o.terms.side && priced_range o.terms.ordtype o.terms.price && force_range o.terms.timeinforce) (leb o.terms.qty (10 ^ 12)) e).1

filled_qty : (o : Order) → filled_rule o ≡ true → o.state.cumqty ≤ o.terms.qty
unfolding filled_rule
filled_qty o e = leb-true o.state.cumqty o.terms.qty e

-- a status is a character from 0 on
abbrev above : ℕ → List ℕ → Bool
above n [] = true
above n (c ∷ cs) = leb n c && above n cs

listed_above : (n v : ℕ) (cs : List ℕ) → above n cs ≡ true → listed v cs ≡ true → n ≤ v
listed_above n v [] a e = clash _ e refl
listed_above n v (c ∷ cs) a e =
    let p = and_parts (leb n c) (above n cs) a in
    ⊎_elim
    (λ q. let z : v ≡ c = eqb-true v c q in omega (arith, leb-true n c p.0))
    (λ q. listed_above n v cs p.1 q)
    (or_cases (eqb v c) (listed v cs) e)

status_prints : (v : ℕ) → is_status v ≡ true → 32 ≤ v
unfolding is_status statuses
status_prints v e = listed_above 32 v statuses refl e

module _ (b : Book) (kept : rules b ≡ true) (i : ℕ) (h : i < length b.orders) where
  pub in_range_lem : InRange (order_in b i)
  in_range_lem =
      let k = (book_kept b kept).order i h in
      let n = names_kept (order_in b i).names k.names in
      let q : (order_in b i).terms.qty ≤ 10 ^ 12 = terms_qty (order_in b i) k.terms in
      record {
        name = name_short (order_in b i).names.name n.name;
        symbol = symbol_short (order_in b i).names.symbol n.symbol;
        ordered = q;
        cumulative = omega (arith, filled_qty (order_in b i) k.filled);
        leaves = omega (arith, leaves_less (order_in b i));
      }

  pub fine_order : Fine (line_of (order_in b i))
  unfolding line_of
  fine_order = record {
    status = status_prints (order_in b i).state.status ((book_kept b kept).order i h).coded;
    ordered = in_range_lem.ordered;
    cumulative = in_range_lem.cumulative;
    leaves = in_range_lem.leaves;
  }

-- ---- line i is order i's

abbrev pub no_line : Line
no_line = line_of no_order

get_line : (os : List Order) (i : ℕ) → get_or (map line_of os) i no_line ≡ line_of (get_or os i no_order)
get_line [] i = refl
get_line (o ∷ os) zero = refl
get_line (o ∷ os) (suc i) = get_line os i

pub page_line : (b : Book) (i : ℕ) → get_or (page_of b) i no_line ≡ line_of (order_in b i)
unfolding page_of
page_line b i = get_line b.orders i

pub length_lines : (b : Book) → length (page_of b) ≡ length b.orders
unfolding page_of
length_lines b = length-map b.orders line_of

pub fine_page : (b : Book) → rules b ≡ true → AllFine no_line (page_of b)
fine_page b kept i h = subst Fine (sym (page_line b i)) (fine_order b kept i (omega (arith, length_lines b)))

-- ---- on bytes

module _ (b : List ℕ) (kept : keeps_of b ≡ true) where
  pub fine_bytes : AllFine no_line (page_of (book_of b))
  fine_bytes = fine_page (book_of b) (keeps_held b kept).rules

pub count_lines : (b : List ℕ) → length (page_of (book_of b)) ≡ order_count b
count_lines b = length_lines (book_of b) ∙ length_orders b
