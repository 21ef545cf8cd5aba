-- Open quantities and nets across a retirement: done orders have nothing open, and what was bought and sold goes along. Rests on parts' laws and Net.
use Rattle.std.proofs.Common.{ℕ, ◌+◌, ◌-◌, arith, ◌≡◌, refl, sym, ap, ◌∙◌, Bool, true, false, List, ◌++◌, eqb, length}
use Rattle.std.proofs.lemmas.Bool.{or_left, not-false}
use Rattle.prelude.specs.Cases.{if◌then◌otherwise◌}
use Rattle.prelude.specs.Laws.Cases.{if_true, split_if}
use Rattle.prelude.specs.Totals.{total_of}
use Rattle.prelude.specs.Laws.Totals.{total_append}
use Rattle.prelude.specs.declared.Text.{Text}
use Rattle.store.specs.declared.Order.{Order}
use Rattle.store.specs.Orders.{no_order}
use Rattle.store.specs.Book.{Book, order_in, book_of}
use Rattle.machine.specs.Exchange.{open_of}
use Rattle.machine.specs.Orders.{leaves_qty, leaves_of}
use Rattle.machine.specs.Since.{filled_on}
use Rattle.net.specs.declared.Amounts.{Amounts}
use Rattle.net.specs.Net.{Signed, netted, filled_in, net_call}
use Rattle.opens.specs.Opens.{opened, open_call}
use Rattle.rules.specs.Keeps.{keeps_of}
use Rattle.parts.specs.Parts.{passing, done_at, live_at, moved_order, joined, live_part, archived}
use Rattle.parts.specs.Laws.Sums.{list_places, total_passing, total_nothing, total_both}
use Rattle.retire.specs.Retire.{Retired}
use Rattle.claims.specs.Claims.{Passes}
use Rattle.claims.specs.Net.{plus, said_net}
use Rattle.claims.specs.RetirePlaced.{added, SumsStay}
use Rattle.claims.proofs.Taken.{kept_check}
use Rattle.claims.proofs.Net.{says}

-- ---- on books

module _ (held was : Book) where
  -- what a client has open
  abbrev open_in : (client : ℕ) → Order → ℕ
  open_in client o = if eqb o.client client then leaves_qty o otherwise 0

  done_nothing : (client i : ℕ) → done_at was i ≡ true → open_in client (order_in was i) ≡ 0
  unfolding leaves_qty leaves_of done_at
  done_nothing client i d =
      split_if (λ (n : ℕ). n ≡ 0) (eqb (order_in was i).client client) (λ e. if_true _ 0 _ (or_left _ _ d)) (λ e. refl)

  same : (client i : ℕ) → open_in client (moved_order (done_at was) (length held.requests) was i) ≡ open_in client (order_in was i)
  unfolding moved_order leaves_qty
  same client i = refl

  pub live_open : (client : ℕ) → open_of (live_part was) client ≡ open_of was client
  unfolding joined
  live_open client =
      total_passing (open_in client) (live_at was) (moved_order (live_at was) 0 was) (order_in was) (length was.orders)
      (λ j h e. unfold moved_order leaves_qty in refl) (λ j h e. done_nothing client j (not-false _ e))
      ∙ ap (total_of (open_in client)) (list_places no_order was.orders)

  pub archive_open : (client : ℕ) → open_of (archived held was) client ≡ open_of held client
  unfolding joined
  archive_open client =
      let moved : ℕ → Order = moved_order (done_at was) (length held.requests) was in
      let gone : List Order = passing (done_at was) moved (length was.orders) in
      let e : total_of (open_in client) (held.orders ++ gone) ≡ total_of (open_in client) held.orders + total_of (open_in client) gone =
      total_append (open_in client) held.orders gone in
      let z : total_of (open_in client) gone ≡ 0 =
      total_nothing (open_in client) (done_at was) moved (order_in was) (length was.orders)
      (λ j h d. same client j ∙ done_nothing client j d) in
      omega arith

  -- what was bought, or sold
  filled_both : (bought : Bool) (client : ℕ) (symbol : Text)
      → total_of (filled_on bought client symbol) (live_part was).orders + total_of (filled_on bought client symbol) (archived held was).orders
      ≡ total_of (filled_on bought client symbol) was.orders + total_of (filled_on bought client symbol) held.orders
  unfolding joined
  filled_both bought client symbol =
      let f : Order → ℕ = filled_on bought client symbol in
      let moved : ℕ → Order = moved_order (done_at was) (length held.requests) was in
      let kept : ℕ → Order = moved_order (live_at was) 0 was in
      let e : total_of f (held.orders ++ passing (done_at was) moved (length was.orders)) ≡ total_of f held.orders + total_of f (passing (done_at was) moved (length was.orders)) =
      total_append f held.orders (passing (done_at was) moved (length was.orders)) in
      let z : total_of f (passing (done_at was) moved (length was.orders)) + total_of f (passing (live_at was) kept (length was.orders)) ≡ total_of f was.orders =
      total_both f (done_at was) (live_at was) moved kept (order_in was) (length was.orders) (λ j h. refl) (λ j. unfold moved_order in refl) (λ j. unfold moved_order in refl)
      ∙ ap (total_of f) (list_places no_order was.orders) in
      omega arith

  pub filled_parts : (client : ℕ) (symbol : Text) → plus (filled_in (live_part was) client symbol) (filled_in (archived held was) client symbol)
      ≡ plus (filled_in was client symbol) (filled_in held client symbol)
  unfolding filled_in
  filled_parts client symbol = λ i. record { bought = filled_both true client symbol i; sold = filled_both false client symbol i }

-- ---- nets

above_adds : (a b c d : ℕ) → (a - b + (c - d)) - (b - a + (d - c)) ≡ a + c - (b + d)
above_adds a b c d = omega arith

added_netted : (x y : Amounts) → added (netted x) (netted y) ≡ netted (plus x y)
added_netted x y = λ i. record { above = above_adds x.bought x.sold y.bought y.sold i; below = above_adds x.sold x.bought y.sold y.bought i }

-- ---- on bytes

given : (b : List ℕ) (client : ℕ) → keeps_of b ≡ true → open_call b client ≡ opened 0 (open_of (book_of b) client)
unfolding open_call
given b client k = if_true _ _ _ k

-- buffers that pass, and what was open and filled stays so
pub sums_stay : (b a : List ℕ) (r : Retired) → Passes b → Passes a → Passes r.book → Passes r.archive
    → ((client : ℕ) → open_of (book_of r.book) client ≡ open_of (book_of b) client)
    → ((client : ℕ) → open_of (book_of r.archive) client ≡ open_of (book_of a) client)
    → ((client : ℕ) (symbol : Text) → plus (filled_in (book_of r.book) client symbol) (filled_in (book_of r.archive) client symbol)
    ≡ plus (filled_in (book_of b) client symbol) (filled_in (book_of a) client symbol))
    → SumsStay b a r
sums_stay b a r pb pa pl pk x y z = record {
  given = λ client. given r.book client (kept_check r.book pl.passes) ∙ ap (opened 0) (x client) ∙ sym (given b client (kept_check b pb.passes));
  given_archive = λ client. given r.archive client (kept_check r.archive pk.passes) ∙ ap (opened 0) (y client) ∙ sym (given a client (kept_check a pa.passes));
  filled = z;
  nets = λ scratch lines g h client symbol.
      let net : (x : List ℕ) → Passes x → said_net (net_call x scratch lines) client symbol ≡ netted (filled_in (book_of x) client symbol) =
      λ x p. (says x p scratch lines g h).1 client symbol in
      ap (λ (n : Signed). added n (said_net (net_call r.archive scratch lines) client symbol)) (net r.book pl)
      ∙ ap (added (netted (filled_in (book_of r.book) client symbol))) (net r.archive pk)
      ∙ added_netted (filled_in (book_of r.book) client symbol) (filled_in (book_of r.archive) client symbol)
      ∙ ap netted (z client symbol)
      ∙ sym (ap (λ (n : Signed). added n (said_net (net_call a scratch lines) client symbol)) (net b pb)
      ∙ ap (added (netted (filled_in (book_of b) client symbol))) (net a pa)
      ∙ added_netted (filled_in (book_of b) client symbol) (filled_in (book_of a) client symbol));
  said = says r.book pl;
  said_archive = says r.archive pk;
}
