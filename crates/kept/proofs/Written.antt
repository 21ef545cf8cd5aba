-- A change written into the bytes of a book is the change on the book. Rests on store's laws, and on the rules for what a book in bytes can hold.
use Rattle.std.proofs.Common.{ℕ, ◌-◌, ◌^◌, ◌≤◌, ◌<◌, arith, ◌≡◌, refl, sym, ap, ◌∙◌, subst, ⊎_elim, Bool, true, false, not, ◌&&◌, ◌||◌, List, [], ◌∷◌, ◌++◌, eqb, leb, ltb, length, get_or, set, length-append, length-set, get_or-set_same, leb-true, ltb-true}
use Rattle.std.proofs.Math.Seq.{get_or_at}
use Rattle.std.proofs.lemmas.Bool.{eqb-false, not-true, and_parts, or_cases}
use Rattle.prelude.specs.Cases.{if◌then◌otherwise◌}
use Rattle.prelude.specs.Laws.Cases.{split_if, split_maybe, if_true, if_false, clash}
use Rattle.prelude.specs.Number.{Bytes}
use Rattle.store.specs.declared.Order.{Order}
use Rattle.store.specs.declared.Request.{Request}
use Rattle.store.specs.declared.GatewayCancel.{GatewayCancel}
use Rattle.store.specs.Layout.{book_size}
use Rattle.store.specs.Orders.{WholeOrder, no_order}
use Rattle.store.specs.Requests.{WholeRequest, no_request}
use Rattle.store.specs.Book.{Book, order_in, order_at, is_book, setting_of, book_of, order_count, request_count, add_request}
use Rattle.store.specs.Finds.{find_client}
use Rattle.machine.specs.declared.Requests.{Requests}
use Rattle.machine.specs.declared.Change.{Change}
use Rattle.machine.specs.Machine.{has_room, answer_link, orders_after, requests_after, after}
use Rattle.machine.specs.Rules.{gateway_range}
use Rattle.machine.specs.Whole.{WholeBook}
use Rattle.machine.proofs.Kept.Indexed.{BookKept, book_kept}
use Rattle.machine.proofs.Kept.Tables.{length_answer}
use Rattle.step.specs.Entries.{place_order, mark_link, place_requests, tables_with, place_origin, place_open, place_index, book_with}
use Rattle.store.specs.Laws.Cells.{fits_32}
use Rattle.store.specs.Laws.Stored.{length_orders, length_requests, order_in_lem, request_in_lem, order_whole, request_whole, store_order_book}
use Rattle.store.specs.Laws.Adds.{add_order_book, add_request_book, mark_book}
use Rattle.store.specs.Laws.Kept.{Keeps, store_order_keeps, add_order_keeps, add_request_keeps, mark_keeps, store_open_keeps}
use Rattle.store.specs.Laws.Opens.{store_open_book}
use Rattle.store.specs.Laws.Beside.{store_origin_book, store_origin_keeps}
use Rattle.rules.specs.Laws.Ruled.{Held}

-- ---- a book in bytes that keeps its rules can be written again

one_stage : (n : ℕ) (g : GatewayCancel) → gateway_range n g ≡ true → g.unsent && g.stuck ≡ false
unfolding gateway_range
one_stage n g e =
    not-true (g.unsent && g.stuck)
    (and_parts (not (g.unsent && g.stuck)) (leb g.origdownstream n) (and_parts (not (g.unsent && g.stuck) && leb g.origdownstream n) _ e).0).0

setting_fits : (b : List ℕ) → Bytes b → (book_of b).setting < 2 ^ 32
unfolding book_of setting_of
setting_fits b h = split_if (λ (n : ℕ). n < 2 ^ 32) (is_book b) (λ e. fits_32 b h 4) (λ e. omega arith)

pub whole_held : (b : List ℕ) → Held b → Bytes b → WholeBook (book_of b)
whole_held b h bytes =
    let good : BookKept (book_of b) = book_kept (book_of b) h.rules in
    record {
      setting = setting_fits b bytes;
      order = λ i l.
          let k : i < order_count b = omega (arith, length_orders b) in
          let is : order_in (book_of b) i ≡ order_at b i = order_in_lem b i k in
          subst WholeOrder (sym is)
          (order_whole b h.long bytes i (omega (arith, h.few_orders))
          (subst (λ (o : Order). o.gateway.unsent && o.gateway.stuck ≡ false) is (one_stage _ _ (good.order i l).gateway)));
      request = λ j l.
          let k : j < request_count b = omega (arith, length_requests b) in
          subst WholeRequest (sym (request_in_lem b j k)) (request_whole b h.long bytes j (omega (arith, h.few_requests)));
    }

-- ---- what a change writes is in the book that it leaves

module _ (b : Book) (c : Change) (w : WholeBook (after b c)) where
  pub order_written : eqb c.place 0 ≡ false → WholeOrder c.order
  unfolding after orders_after if◌then◌otherwise◌
  order_written e = go (leb c.place (length b.orders)) refl
    where
      go : (t : Bool) → leb c.place (length b.orders) ≡ t → WholeOrder c.order
      go true f =
          let l : c.place ≤ length b.orders = leb-true c.place (length b.orders) f in
          let n : (c.place ≡ 0 → ⊥) = eqb-false c.place 0 e in
          let i : ℕ = c.place - 1 in
          let is : (after b c).orders ≡ set b.orders i c.order = if_false _ _ _ e ∙ if_true _ _ _ f in
          let h : i < length (after b c).orders = omega (arith, ap length is, length-set b.orders i c.order) in
          subst WholeOrder (ap (λ (os : List Order). get_or os i no_order) is ∙ get_or-set_same b.orders i c.order no_order (omega arith)) (w.order i h)
      go false f =
          let i : ℕ = length b.orders in
          let is : (after b c).orders ≡ b.orders ++ (c.order ∷ []) = if_false _ _ _ e ∙ if_false _ _ _ f in
          let h : i < length (after b c).orders = omega (arith, ap length is, length-append b.orders (c.order ∷ [])) in
          subst WholeOrder (ap (λ (os : List Order). get_or os i no_order) is ∙ get_or_at b.orders c.order [] no_order i refl) (w.order i h)

  pub request_written : eqb c.requests.added 0 ≡ false → WholeRequest c.requests.request
  unfolding after requests_after
  request_written e =
      let v : ℕ = c.requests.outcome in
      let qs : List Request = answer_link c.requests.superseded v (answer_link c.requests.answered v b.requests) in
      let is : (after b c).requests ≡ qs ++ (c.requests.request ∷ []) = if_false _ _ _ e in
      let h : length qs < length (after b c).requests = omega (arith, ap length is, length-append qs (c.requests.request ∷ [])) in
      subst WholeRequest (ap (λ (l : List Request). get_or l (length qs) no_request) is ∙ get_or_at qs c.requests.request [] no_request (length qs) refl) (w.request (length qs) h)

-- ---- what is written keeps length and bytes

keeps_self : (b : List ℕ) → Keeps b b
keeps_self b = record { same = refl; bytes = λ h. h }

keeps_more : (b d f : List ℕ) → Keeps b d → Keeps d f → Keeps b f
keeps_more b d f h g = record { same = g.same ∙ h.same; bytes = λ k. g.bytes (h.bytes k) }

pub place_keeps : (b : List ℕ) (place : ℕ) (o : Order) → (eqb place 0 ≡ false → WholeOrder o) → Keeps b (place_order b place o)
unfolding place_order
place_keeps b place o w =
    split_if (Keeps b) (eqb place 0) (λ e. keeps_self b)
    (λ e. split_if (Keeps b) _ (λ f. store_order_keeps b (place - 1) o (w e).fits) (λ f. add_order_keeps b o (w e).fits))

module _ (v : ℕ) (small : v ≤ 3) where
  pub mark_link_keeps : (b : List ℕ) (k : ℕ) → Keeps b (mark_link b k v)
  unfolding mark_link
  mark_link_keeps b k = split_if (Keeps b) (eqb k 0) (λ e. keeps_self b) (λ e. mark_keeps b (k - 1) v (omega arith))

-- the requests settled
abbrev pub marked : List ℕ → Requests → List ℕ
marked b r = mark_link (mark_link b r.answered r.outcome) r.superseded r.outcome

pub marked_keeps : (b : List ℕ) (r : Requests) → r.outcome ≤ 3 → Keeps b (marked b r)
marked_keeps b r small =
    let once : List ℕ = mark_link b r.answered r.outcome in
    keeps_more b once (marked b r) (mark_link_keeps r.outcome small b r.answered) (mark_link_keeps r.outcome small once r.superseded)

requests_keeps : (b : List ℕ) (r : Requests) → r.outcome ≤ 3 → (eqb r.added 0 ≡ false → WholeRequest r.request) → Keeps b (place_requests b r)
unfolding place_requests
requests_keeps b r small w =
    split_if (Keeps b) (eqb r.added 0) (λ e. marked_keeps b r small)
    (λ e. keeps_more b (marked b r) (add_request (marked b r) r.request) (marked_keeps b r small) (add_request_keeps (marked b r) r.request (w e)))

pub tables_keeps : (b : List ℕ) (c : Change) → c.requests.outcome ≤ 3 → (eqb c.place 0 ≡ false → WholeOrder c.order)
    → (eqb c.requests.added 0 ≡ false → WholeRequest c.requests.request) → Keeps b (tables_with b c)
unfolding tables_with
tables_keeps b c small o q =
    let d : List ℕ = place_order b c.place c.order in
    keeps_more b d _ (place_keeps b c.place c.order o) (requests_keeps d c.requests small q)

-- ---- each write is the book's

abbrev with_orders : List Order → Book → Book
with_orders os x = record { setting = x.setting; orders = os; requests = x.requests }

abbrev with_requests : List Request → Book → Book
with_requests qs x = record { setting = x.setting; orders = x.orders; requests = qs }

pub place_book : (b : List ℕ) (c : Change) → length b ≡ book_size → leb c.place (length (book_of b).orders) || ltb (length (book_of b).orders) 64 ≡ true
    → (eqb c.place 0 ≡ false → WholeOrder c.order) → book_of (place_order b c.place c.order) ≡ with_orders (orders_after (book_of b).orders c) (book_of b)
unfolding place_order orders_after if◌then◌otherwise◌
place_book b c l room w = go (eqb c.place 0) (leb c.place (order_count b)) refl refl
  where
    go : (s t : Bool) → eqb c.place 0 ≡ s → leb c.place (order_count b) ≡ t
        → book_of (place_order b c.place c.order) ≡ with_orders (orders_after (book_of b).orders c) (book_of b)
    go true t e f = rw e refl
    go false true e f = rw (e, length_orders b, f) (store_order_book b (c.place - 1) c.order (w e))
    go false false e f =
        let either : leb c.place (order_count b) || ltb (order_count b) 64 ≡ true = rw (length_orders b) at room in
        let h : order_count b < 64 = ⊎_elim (λ z. clash (leb c.place (order_count b)) z f) (λ z. ltb-true (order_count b) 64 z) (or_cases (leb c.place (order_count b)) _ either) in
        rw (e, length_orders b, f) (add_order_book b c.order l h (w e))

pub mark_link_book : (v : ℕ) (b : List ℕ) (k : ℕ) → book_of (mark_link b k v) ≡ with_requests (answer_link k v (book_of b).requests) (book_of b)
unfolding mark_link answer_link if◌then◌otherwise◌
mark_link_book v b k = go (eqb k 0) refl
  where
    go : (t : Bool) → eqb k 0 ≡ t → book_of (mark_link b k v) ≡ with_requests (answer_link k v (book_of b).requests) (book_of b)
    go true e = rw e refl
    go false e = rw e (mark_book b (k - 1) v)

marked_book : (b : List ℕ) (r : Requests) → book_of (marked b r) ≡ with_requests (answer_link r.superseded r.outcome (answer_link r.answered r.outcome (book_of b).requests)) (book_of b)
marked_book b r =
    mark_link_book r.outcome (mark_link b r.answered r.outcome) r.superseded
    ∙ ap (λ (x : Book). with_requests (answer_link r.superseded r.outcome x.requests) x) (mark_link_book r.outcome b r.answered)

pub marked_count : (b : List ℕ) (r : Requests) → request_count (marked b r) ≡ length (book_of b).requests
marked_count b r =
    sym (length_requests (marked b r))
    ∙ ap (λ (x : Book). length x.requests) (marked_book b r)
    ∙ length_answer r.superseded r.outcome (answer_link r.answered r.outcome (book_of b).requests)
    ∙ length_answer r.answered r.outcome (book_of b).requests

requests_book : (b : List ℕ) (c : Change) → c.requests.outcome ≤ 3 → length b ≡ book_size → eqb c.requests.added 0 || ltb (length (book_of b).requests) 256 ≡ true
    → (eqb c.requests.added 0 ≡ false → WholeRequest c.requests.request) → book_of (place_requests b c.requests) ≡ with_requests (requests_after (book_of b).requests c) (book_of b)
unfolding place_requests requests_after if◌then◌otherwise◌
requests_book b c small l room w = go (eqb c.requests.added 0) refl
  where
    go : (t : Bool) → eqb c.requests.added 0 ≡ t → book_of (place_requests b c.requests) ≡ with_requests (requests_after (book_of b).requests c) (book_of b)
    go true e = rw e (marked_book b c.requests)
    go false e =
        let d : List ℕ = marked b c.requests in
        let q : Request = c.requests.request in
        let h : request_count d < 256 =
        ⊎_elim (λ z. clash (eqb c.requests.added 0) z e) (λ z. omega (arith, ltb-true (length (book_of b).requests) 256 z, marked_count b c.requests)) (or_cases _ _ room) in
        rw e
        (add_request_book d q ((marked_keeps b c.requests small).same ∙ l) h (w e)
        ∙ ap (λ (x : Book). with_requests (x.requests ++ (q ∷ [])) x) (marked_book b c.requests))

-- ---- what is stored only to be found quickly: the book does not see it

origin_book : (b : List ℕ) (added k origin : ℕ) → book_of (place_origin b added k origin) ≡ book_of b
unfolding place_origin
origin_book b added k origin = split_if (λ d. book_of d ≡ book_of b) (eqb added 0) (λ e. refl) (λ e. store_origin_book b k origin)

pub origin_keeps : (b : List ℕ) (added k origin : ℕ) → Keeps b (place_origin b added k origin)
unfolding place_origin
origin_keeps b added k origin = split_if (Keeps b) (eqb added 0) (λ e. keeps_self b) (λ e. store_origin_keeps b k origin)

open_book : (b : List ℕ) (left : Book) (place client : ℕ) → book_of (place_open b left place client) ≡ book_of b
unfolding place_open
open_book b left place client =
    let P : List ℕ → Type 0 = λ d. book_of d ≡ book_of b in
    split_if P (eqb place 0) (λ e. refl) (λ e. split_maybe P (find_client left client) (λ z. refl) (λ i z. store_open_book b i _))

open_keeps : (b : List ℕ) (left : Book) (place client : ℕ) → Keeps b (place_open b left place client)
unfolding place_open
open_keeps b left place client =
    split_if (Keeps b) (eqb place 0) (λ e. keeps_self b) (λ e. split_maybe (Keeps b) (find_client left client) (λ z. keeps_self b) (λ i z. store_open_keeps b i _))

index_book : (b : List ℕ) (x : Book) (c : Change) → book_of (place_index b x c) ≡ book_of b
unfolding place_index
index_book b x c = open_book (place_origin b c.requests.added _ _) (after x c) c.place c.order.client ∙ origin_book b c.requests.added _ _

index_keeps : (b : List ℕ) (x : Book) (c : Change) → Keeps b (place_index b x c)
unfolding place_index
index_keeps b x c = keeps_more b (place_origin b c.requests.added _ _) _ (origin_keeps b c.requests.added _ _) (open_keeps _ (after x c) c.place c.order.client)

-- ---- the whole change

-- a change in the tables is the change on the book, and keeps length and bytes
pub record Tables (b : List ℕ) (c : Change) : Type 0 where
  pub is : book_of (tables_with b c) ≡ after (book_of b) c
  pub keeps : Keeps b (tables_with b c)

tables_writes : (b : List ℕ) (c : Change) → c.requests.outcome ≤ 3 → length b ≡ book_size → has_room (book_of b) c ≡ true → WholeBook (after (book_of b) c) → Tables b c
unfolding tables_with after has_room
tables_writes b c small l room w =
    let d : List ℕ = place_order b c.place c.order in
    let (orders, requests) = and_parts _ _ room in
    let o : (eqb c.place 0 ≡ false → WholeOrder c.order) = order_written (book_of b) c w in
    let q : (eqb c.requests.added 0 ≡ false → WholeRequest c.requests.request) = request_written (book_of b) c w in
    let k : Keeps b d = place_keeps b c.place c.order o in
    let put : book_of d ≡ with_orders (orders_after (book_of b).orders c) (book_of b) = place_book b c l orders o in
    let n : length (book_of d).requests ≡ length (book_of b).requests = ap (λ (x : Book). length x.requests) put in
    record {
      is =
          requests_book d c small (k.same ∙ l) (ap (λ (m : ℕ). eqb c.requests.added 0 || ltb m 256) n ∙ requests) q
          ∙ ap (λ (x : Book). with_requests (requests_after x.requests c) x) put;
      keeps = tables_keeps b c small o q;
    }

-- A CHANGE ON BYTES is the change on the book, and keeps length and bytes
pub record Writes (b : List ℕ) (c : Change) : Type 0 where
  pub is : book_of (book_with b c) ≡ after (book_of b) c
  pub keeps : Keeps b (book_with b c)
  pub tables : Keeps b (tables_with b c)

pub change_writes : (b : List ℕ) (c : Change) → c.requests.outcome ≤ 3 → length b ≡ book_size → has_room (book_of b) c ≡ true → WholeBook (after (book_of b) c) → Writes b c
unfolding book_with
change_writes b c small l room w =
    let t : Tables b c = tables_writes b c small l room w in
    let d : List ℕ = tables_with b c in
    record {
      is = index_book d (book_of b) c ∙ t.is;
      keeps = keeps_more b d (place_index d (book_of b) c) t.keeps (index_keeps d (book_of b) c);
      tables = t.keeps;
    }
