-- The header's counts: no write takes them past their tables, and start's are 0. Rests on store's laws.
use Rattle.std.proofs.Common.{ℕ, ◌+◌, ◌-◌, ◌≤◌, arith, ◌≡◌, refl, ap, ◌∙◌, inl, inr, true, false, List, [], ◌∷◌, eqb, length, eq-eqb}
use Rattle.std.proofs.Math.ListN.{length-replicate}
use Rattle.prelude.specs.Below.{all_below}
use Rattle.prelude.specs.Laws.Below.{all_none}
use Rattle.prelude.specs.Cases.{if◌then◌otherwise◌}
use Rattle.prelude.specs.Laws.Cases.{split_if, split_maybe}
use Rattle.prelude.specs.Lists.{list_below}
use Rattle.prelude.specs.Number.{bytes_of, word16}
use Rattle.prelude.specs.Span.{span, splice}
use Rattle.prelude.specs.Laws.Span.{length_splice, span_splice_before}
use Rattle.prelude.specs.Bytes.{zeros}
use Rattle.prelude.specs.Laws.Bytes.{get_zeros}
use Rattle.store.specs.declared.Order.{Order}
use Rattle.store.specs.declared.Request.{Request}
use Rattle.store.specs.Layout.{book_size, request_base, request·answered, request·outcome}
use Rattle.store.specs.Orders.{WholeOrder}
use Rattle.store.specs.Requests.{WholeRequest}
use Rattle.store.specs.Book.{Book, book_of, count_at, order_count, request_count, setting_of, order_at, request_at, put_order, put_request, set_count, store_order, add_order, add_request, settled_as, mark_answered, store_origin, store_open, blank, empty_book}
use Rattle.store.specs.Finds.{find_client}
use Rattle.machine.specs.declared.Requests.{Requests}
use Rattle.machine.specs.declared.Change.{Change}
use Rattle.machine.specs.Machine.{after}
use Rattle.machine.specs.Rules.{rules}
use Rattle.machine.proofs.Kept.Steps.{start_keeps}
use Rattle.rules.specs.Keeps.{keeps_of}
use Rattle.index.specs.Index.{link_right, links_right, open_right, opens_right}
use Rattle.step.specs.Entries.{place_order, mark_link, place_requests, tables_with, place_origin, place_open, place_index, book_with}
use Rattle.store.specs.Laws.Cells.{same_16}
use Rattle.store.specs.Laws.Tables.{length_put_order, span_put_order, length_put_request, span_put_request, length_set_count, span_set_count, count_set_count}
use Rattle.store.specs.Laws.Stored.{in_table}
use Rattle.store.specs.Laws.Adds.{blank_length}
use Rattle.store.specs.Laws.Kept.{store_open_keeps}
use Rattle.store.specs.Laws.Opens.{span_store_open}
use Rattle.store.specs.Laws.Beside.{store_origin_keeps, span_store_origin}
use Rattle.rules.specs.Laws.Keeps.{held_keeps}

pub record Headed (b : List ℕ) : Type 0 where
  pub long : length b ≡ book_size
  pub orders : word16 b 0 ≤ 64
  pub requests : word16 b 2 ≤ 256

-- the header's first four bytes are as they were
pub same_head : (b d : List ℕ) → Headed b → length d ≡ book_size → span d 0 2 ≡ span b 0 2 → span d 2 2 ≡ span b 2 2 → Headed d
same_head b d h l o r = record {
  long = l;
  orders = omega (arith, same_16 d b 0 (omega arith) (omega arith) o);
  requests = omega (arith, same_16 d b 2 (omega arith) (omega arith) r);
}

-- a count set
set_head : (d : List ℕ) → length d ≡ book_size → (at n : ℕ) → at + 2 ≤ 256 → n ≤ 256 → word16 (set_count d at n) at ≡ n
unfolding count_at if◌then◌otherwise◌
set_head d l at n h k =
    let e : count_at at 65536 (set_count d at n) ≡ n = count_set_count d l at n h 65536 (omega arith) ∙ omega arith in
    let m : length (set_count d at n) ≡ book_size = length_set_count d l at n h in
    omega (arith, rw (eq-eqb _ _ m) at e)

module _ (b : List ℕ) (h : Headed b) where
  store_head : (i : ℕ) (o : Order) → WholeOrder o → Headed (store_order b i o)
  unfolding store_order if◌then◌otherwise◌
  store_head i o w =
      in_table (λ t. Headed (if t then put_order b i o otherwise b)) b 64 i
      (λ l k.
      same_head b (put_order b i o) h (length_put_order b l i k o w.fits) (span_put_order b l i k o w.fits 0 2 (inl (omega arith)))
      (span_put_order b l i k o w.fits 2 2 (inl (omega arith))))
      (λ d. h)

  pub add_order_head : (o : Order) → WholeOrder o → Headed (add_order b o)
  unfolding add_order if◌then◌otherwise◌
  add_order_head o w =
      let n : ℕ = order_count b in
      in_table (λ t. Headed (if t then set_count (put_order b n o) 0 (n + 1) otherwise b)) b 64 n
      (λ l k.
      let d : List ℕ = put_order b n o in
      let m : length d ≡ book_size = length_put_order b l n k o w.fits in
      let u : length (set_count d 0 (n + 1)) ≡ book_size = length_set_count d m 0 (n + 1) (omega arith) in
      record {
        long = u;
        orders = omega (arith, set_head d m 0 (n + 1) (omega arith) (omega arith));
        requests = omega (
          arith,
          same_16 (set_count d 0 (n + 1)) b 2 (omega arith) (omega arith)
              (span_set_count d m 0 (n + 1) (omega arith) 2 2 (inr (omega arith)) ∙ span_put_order b l n k o w.fits 2 2 (inl (omega arith))),
        );
      })
      (λ d. h)

  pub add_request_head : (q : Request) → WholeRequest q → Headed (add_request b q)
  unfolding add_request if◌then◌otherwise◌
  add_request_head q w =
      let n : ℕ = request_count b in
      in_table (λ t. Headed (if t then set_count (put_request b n q) 2 (n + 1) otherwise b)) b 256 n
      (λ l k.
      let d : List ℕ = put_request b n q in
      let m : length d ≡ book_size = length_put_request b l n k q w in
      let u : length (set_count d 2 (n + 1)) ≡ book_size = length_set_count d m 2 (n + 1) (omega arith) in
      record {
        long = u;
        orders = omega (
          arith,
          same_16 (set_count d 2 (n + 1)) b 0 (omega arith) (omega arith)
              (span_set_count d m 2 (n + 1) (omega arith) 0 2 (inl (omega arith)) ∙ span_put_request b l n k q w 0 2 (inl (omega arith))),
        );
        requests = omega (arith, set_head d m 2 (n + 1) (omega arith) (omega arith));
      })
      (λ d. h)

  mark_head : (i v : ℕ) → Headed (mark_answered b i v)
  unfolding mark_answered if◌then◌otherwise◌
  mark_head i v =
      let x : List ℕ = splice b (request_base i + request·answered) (1 ∷ []) in
      let w : List ℕ = settled_as v (request_at b i) ∷ [] in
      in_table (λ t. Headed (if t then splice x (request_base i + request·outcome) w otherwise b)) b 256 i
      (λ l k.
      let m : length x ≡ book_size = length_splice b (request_base i + request·answered) (1 ∷ []) (omega arith) ∙ l in
      let same : (at : ℕ) → at + 2 ≤ 4 → span (splice x (request_base i + request·outcome) w) at 2 ≡ span b at 2 = λ at h.
      span_splice_before x (request_base i + request·outcome) w at 2 (omega arith) (omega arith) ∙ span_splice_before b (request_base i + request·answered) (1 ∷ []) at 2 (omega arith) (omega arith) in
      same_head b (splice x (request_base i + request·outcome) w) h (length_splice x (request_base i + request·outcome) w (omega arith) ∙ m) (same 0 (omega arith)) (same 2 (omega arith)))
      (λ d. h)

  place_head : (place : ℕ) (o : Order) → (eqb place 0 ≡ false → WholeOrder o) → Headed (place_order b place o)
  unfolding place_order
  place_head place o w =
      split_if Headed (eqb place 0) (λ e. h) (λ e. split_if Headed _ (λ f. store_head (place - 1) o (w e)) (λ f. add_order_head o (w e)))

  link_head : (k v : ℕ) → Headed (mark_link b k v)
  unfolding mark_link
  link_head k v = split_if Headed (eqb k 0) (λ e. h) (λ e. mark_head (k - 1) v)

requests_head : (b : List ℕ) → Headed b → (r : Requests) → (eqb r.added 0 ≡ false → WholeRequest r.request) → Headed (place_requests b r)
unfolding place_requests
requests_head b h r w =
    let v : ℕ = r.outcome in
    let d : List ℕ = mark_link (mark_link b r.answered v) r.superseded v in
    let k : Headed d = link_head (mark_link b r.answered v) (link_head b h r.answered v) r.superseded v in
    split_if Headed (eqb r.added 0) (λ e. k) (λ e. add_request_head d k r.request (w e))

-- an origin is not in the header, nor is a word behind the tables
origin_head : (b : List ℕ) → Headed b → (added k origin : ℕ) → Headed (place_origin b added k origin)
unfolding place_origin
origin_head b h added k origin =
    split_if Headed (eqb added 0) (λ e. h)
    (λ e. same_head b (store_origin b k origin) h ((store_origin_keeps b k origin).same ∙ h.long) (span_store_origin b k origin 0 2 (omega arith)) (span_store_origin b k origin 2 2 (omega arith)))

open_head : (b : List ℕ) → Headed b → (left : Book) (place client : ℕ) → Headed (place_open b left place client)
unfolding place_open
open_head b h left place client =
    split_if Headed (eqb place 0) (λ e. h)
    (λ e. split_maybe Headed (find_client left client) (λ z. h)
    (λ i z. same_head b (store_open b i _) h ((store_open_keeps b i _).same ∙ h.long) (span_store_open b i _ 0 2 (omega arith)) (span_store_open b i _ 2 2 (omega arith))))

-- a change keeps the counts within their tables
pub change_head : (b : List ℕ) (c : Change) → Headed b → (eqb c.place 0 ≡ false → WholeOrder c.order)
    → (eqb c.requests.added 0 ≡ false → WholeRequest c.requests.request) → Headed (book_with b c)
unfolding book_with tables_with place_index
change_head b c h o q =
    open_head _ (origin_head _ (requests_head (place_order b c.place c.order) (place_head b h c.place c.order o) c.requests q) c.requests.added _ _)
    (after (book_of b) c) c.place c.order.client

-- ---- start

module _ (n : ℕ) (h : 8 ≤ n) (w : List ℕ) (k : length w ≡ 4) where
  zeros_head : (at : ℕ) → at + 2 ≤ 4 → word16 (splice (zeros n) 4 w) at ≡ 0
  zeros_head at l =
      let m : length (zeros n) ≡ n = length-replicate n 0 in
      let u : length (splice (zeros n) 4 w) ≡ length (zeros n) = length_splice (zeros n) 4 w (omega arith) in
      same_16 (splice (zeros n) 4 w) (zeros n) at (omega arith) (omega arith) (span_splice_before (zeros n) 4 w at 2 l (omega arith))
      ∙ omega (arith, get_zeros n at, get_zeros n (at + 1))

module _ (setting : ℕ) where
  pub blank_head : (at : ℕ) → at + 2 ≤ 4 → word16 (blank setting) at ≡ 0
  unfolding blank
  blank_head at l = zeros_head book_size (omega arith) (bytes_of 4 setting) refl at l

  blank_count : (at most : ℕ) → at + 2 ≤ 4 → count_at at most (blank setting) ≡ 0
  unfolding count_at if◌then◌otherwise◌
  blank_count at most l = rw (eq-eqb _ book_size (blank_length setting)) (omega (arith, blank_head at l))

  pub blank_empty : book_of (blank setting) ≡ empty_book (setting_of (blank setting))
  unfolding book_of list_below
  blank_empty = λ t. record {
    setting = setting_of (blank setting);
    orders = ap (list_below (order_at (blank setting))) (blank_count 0 64 (omega arith)) t;
    requests = ap (list_below (request_at (blank setting))) (blank_count 2 256 (omega arith)) t;
  }

  -- no order, no word to be right
  blank_opens : opens_right (blank setting) ≡ true
  unfolding opens_right
  blank_opens = ap (all_below (open_right (blank setting))) (blank_count 0 64 (omega arith)) ∙ all_none (open_right (blank setting))

  -- no request, no link
  blank_links : links_right (blank setting) ≡ true
  unfolding links_right
  blank_links = ap (all_below (link_right (blank setting))) (blank_count 2 256 (omega arith)) ∙ all_none (link_right (blank setting))

  pub blank_keeps : keeps_of (blank setting) ≡ true
  blank_keeps =
      held_keeps (blank setting) (blank_length setting) (omega (arith, blank_head 0 (omega arith))) (omega (arith, blank_head 2 (omega arith)))
      (ap rules blank_empty ∙ start_keeps (setting_of (blank setting))) blank_links blank_opens
