-- The rows that a retirement writes, byte for byte: each is the bytes of its record, and zeros behind its fields. Rests on Stays.
use Rattle.std.specs.Prelude.{ℕ, zero, suc, ◌+◌, ◌≤◌, ◌<◌, ◌≡◌, Bool, true, List, length, get_or, refl}
use Rattle.std.proofs.Common.{arith, sym, ap, subst, ◌∙◌, inl, inr, ⊎_elim, eq-eqb, lt-ltb, eq-or-lt_of_le, le_of_suc-le-suc}
use Rattle.prelude.specs.Below.{count_below}
use Rattle.prelude.specs.Cases.{if◌then◌otherwise◌}
use Rattle.prelude.specs.Laws.Cases.{split_if, if_true, clash}
use Rattle.prelude.specs.Number.{bytes_of}
use Rattle.prelude.specs.Span.{splice}
use Rattle.store.specs.declared.Order.{Order}
use Rattle.store.specs.declared.Request.{Request}
use Rattle.store.specs.Layout.{book_size, header·orders, header·requests, order_size, request_size, most_orders, most_requests, order_base, request_base, request·origin}
use Rattle.store.specs.Orders.{FitsOrder, encode_order}
use Rattle.store.specs.Requests.{WholeRequest, encode_request}
use Rattle.store.specs.Book.{Book, book_of, order_in, request_in, order_count, request_count, put_order, put_request, add_order, add_request, origin_at, store_origin}
use Rattle.store.specs.Laws.Orders.{length_order}
use Rattle.store.specs.Laws.Requests.{length_request}
use Rattle.store.specs.Laws.Tables.{length_put_order, length_put_request}
use Rattle.store.specs.Laws.Stored.{in_table}
use Rattle.store.specs.Laws.Kept.{add_request_keeps}
use Rattle.machine.specs.Orders.{is_empty}
use Rattle.machine.specs.Whole.{WholeBook}
use Rattle.machine.proofs.Kept.Indexed.{BookKept}
use Rattle.index.specs.Index.{links_right}
use Rattle.kept.proofs.Header.{Headed}
use Rattle.parts.specs.Parts.{of_passing, moved_order, moved_request, joined}
use Rattle.parts.specs.Laws.Ranks.{rank_below}
use Rattle.parts.specs.Laws.Joined.{joined_orders, FromOrder, FromRequest, order_from, request_from}
use Rattle.retire.specs.Retire.{add_linked, moved_origin, orders_moved, requests_moved, moved_into}
use Rattle.claims.specs.Retire.{Written}
use Rattle.claims.proofs.Retired.Emptied.{get_out, get_in}
use Rattle.claims.proofs.Retired.Orders.{OrdersAt, orders_count, orders_at, whole_order}
use Rattle.claims.proofs.Retired.Requests.{RequestsAt, request_moved, requests_count, requests_at, whole_request, few_requests}
use Rattle.claims.proofs.Retired.Moved.{Into, orders_done, requests_done, words_done, moved_is, moved_book}
use Rattle.claims.proofs.Retired.Stays.{Out, count_stays, order_stays, request_stays, origin_stays, requests_stay, words_stay}

-- ---- one row

module _ (d : List ℕ) (l : length d ≡ book_size) where
  order_put_in : (o : Order) → FitsOrder o → order_count d < most_orders → (k : ℕ) → k < order_size → get_or (add_order d o) (order_base (order_count d) + k) 0 ≡ get_or (encode_order o) k 0
  unfolding add_order put_order if◌then◌otherwise◌
  order_put_in o w h k g =
      let n : ℕ = order_count d in
      let e : length (encode_order o) ≡ 256 = length_order o w in
      rw (eq-eqb (length d) book_size l, lt-ltb n most_orders h)
      (count_stays (put_order d n o) (length_put_order d l n h o w) header·orders (n + 1) (order_base n + k) (omega arith) (omega arith)
      ∙ get_in d (order_base n) (encode_order o) (omega arith) k (omega arith))

  request_put_in : (r : Request) → WholeRequest r → request_count d < most_requests → (k : ℕ) → k < request_size
      → get_or (add_request d r) (request_base (request_count d) + k) 0 ≡ get_or (encode_request r) k 0
  unfolding add_request put_request if◌then◌otherwise◌
  request_put_in r w h k g =
      let n : ℕ = request_count d in
      let e : length (encode_request r) ≡ 128 = length_request r w in
      rw (eq-eqb (length d) book_size l, lt-ltb n most_requests h)
      (count_stays (put_request d n r) (length_put_request d l n h r w) header·requests (n + 1) (request_base n + k) (omega arith) (omega arith)
      ∙ get_in d (request_base n) (encode_request r) (omega arith) k (omega arith))

  -- the link beside the fields
  origin_beside : (i origin k : ℕ) → Out request·origin (request·origin + 2) k → get_or (store_origin d i origin) (request_base i + k) 0 ≡ get_or d (request_base i + k) 0
  unfolding store_origin if◌then◌otherwise◌
  origin_beside i origin k out =
      in_table (λ t. get_or (if t then splice d (request_base i + request·origin) (bytes_of 2 origin) otherwise d) (request_base i + k) 0 ≡ get_or d (request_base i + k) 0) d most_requests i
      (λ m h. get_out d (request_base i + request·origin) (bytes_of 2 origin) (omega arith) (request_base i + k) (⊎_elim (λ p. inl (omega arith)) (λ p. inr (omega arith)) out))
      (λ e. refl)

-- ---- all of them

module _ (p : ℕ → Bool) (was into : List ℕ) (old : BookKept (book_of was)) (whole : WholeBook (book_of was)) (links : links_right was ≡ true) (to : Into into)
    (good : BookKept (joined p (book_of into) (book_of was))) where
  abbrev W : Book
  W = book_of was

  abbrev O : Book
  O = book_of into

  abbrev q : ℕ → Bool
  q = of_passing p W

  abbrev N : ℕ
  N = length O.orders

  abbrev M : ℕ
  M = length O.requests

  abbrev sent : ℕ → Request
  sent = request_moved p was into good old whole links

  orders_written : (n : ℕ) → n ≤ length W.orders → (i : ℕ) → i < n → p i ≡ true → (k : ℕ) → k < order_size
      → get_or (orders_moved p was M into n) (order_base (N + count_below p i) + k) 0 ≡ get_or (encode_order (moved_order p M W i)) k 0
  unfolding orders_moved
  orders_written zero h i l e k g = absurd (omega arith)
  orders_written (suc n) h i l e k g =
      let d : List ℕ = orders_moved p was M into n in
      let at : OrdersAt p was into good whole n d = orders_at p was into good whole to.head n (omega arith) in
      let c : order_count d ≡ N + count_below p n = orders_count p was into good whole n d at in
      let P : List ℕ → Type 0 = λ f. get_or f (order_base (N + count_below p i) + k) 0 ≡ get_or (encode_order (moved_order p M W i)) k 0 in
      ⊎_elim
      (λ z. split_if P (p n)
      (λ t.
      let r : count_below p n < count_below p (length W.orders) = rank_below p n (length W.orders) h t in
      let most : length (joined p O W).orders ≤ 64 = good.orders in
      ap (λ (j : ℕ). get_or (add_order d (moved_order p M W n)) (order_base j + k) 0) (ap (λ (j : ℕ). N + count_below p j) z ∙ sym c)
      ∙ order_put_in d at.head.long (moved_order p M W n) (whole_order p was into good whole n h t).fits (omega (arith, joined_orders p O W)) k g
      ∙ ap (λ (j : ℕ). get_or (encode_order (moved_order p M W j)) k 0) (sym z))
      (λ t. clash (p n) (ap p (sym z) ∙ e) t))
      (λ u.
      let before : P d = orders_written n (omega arith) i u e k g in
      split_if P (p n)
      (λ t.
      let r : count_below p n < count_below p (length W.orders) = rank_below p n (length W.orders) h t in
      let s : count_below p i < count_below p n = rank_below p i n u e in
      let most : length (joined p O W).orders ≤ 64 = good.orders in
      order_stays d at.head.long (moved_order p M W n) (whole_order p was into good whole n h t).fits (omega (arith, joined_orders p O W)) (order_base (N + count_below p i) + k) (omega arith) (inl (omega arith))
      ∙ before)
      (λ t. before))
      (eq-or-lt_of_le (le_of_suc-le-suc l))

  module _ (from : List ℕ) (head : Headed from) (had : (book_of from).requests ≡ O.requests) where
    requests_written : (n : ℕ) → n ≤ length W.requests → (j : ℕ) → j < n → q j ≡ true → (k : ℕ) → k < request_size → Out request·origin (request·origin + 2) k
        → get_or (requests_moved p was N M from n) (request_base (M + count_below q j) + k) 0 ≡ get_or (encode_request (sent j)) k 0
    unfolding requests_moved add_linked
    requests_written zero h j l e k g out = absurd (omega arith)
    requests_written (suc n) h j l e k g out =
        let d : List ℕ = requests_moved p was N M from n in
        let at : RequestsAt p was into good old whole links from n d = requests_at p was into good old whole links from head had n (omega arith) in
        let c : request_count d ≡ M + count_below q n = requests_count p was into good old whole links from head had n h d at in
        let few : M + count_below q (length W.requests) ≤ 256 = few_requests p was into good old whole links in
        let P : List ℕ → Type 0 = λ f. get_or f (request_base (M + count_below q j) + k) 0 ≡ get_or (encode_request (sent j)) k 0 in
        ⊎_elim
        (λ z. split_if P (q n)
        (λ t.
        let r : count_below q n < count_below q (length W.requests) = rank_below q n (length W.requests) h t in
        let w : WholeRequest (sent n) = whole_request p was into good old whole links n h t in
        ap (λ (i : ℕ). get_or (store_origin (add_request d (sent n)) (request_count d) (moved_origin p was M n)) (request_base i + k) 0) (ap (λ (i : ℕ). M + count_below q i) z ∙ sym c)
        ∙ origin_beside (add_request d (sent n)) ((add_request_keeps d (sent n) w).same ∙ at.head.long) (request_count d) (moved_origin p was M n) k out
        ∙ request_put_in d at.head.long (sent n) w (omega arith) k g
        ∙ ap (λ (i : ℕ). get_or (encode_request (sent i)) k 0) (sym z))
        (λ t. clash (q n) (ap q (sym z) ∙ e) t))
        (λ u.
        let before : P d = requests_written n (omega arith) j u e k g out in
        split_if P (q n)
        (λ t.
        let r : count_below q n < count_below q (length W.requests) = rank_below q n (length W.requests) h t in
        let s : count_below q j < count_below q n = rank_below q j n u e in
        let w : WholeRequest (sent n) = whole_request p was into good old whole links n h t in
        origin_stays (add_request d (sent n)) ((add_request_keeps d (sent n) w).same ∙ at.head.long) (request_count d) (moved_origin p was M n) (request_base (M + count_below q j) + k) (inl (omega arith))
        ∙ request_stays d at.head.long (sent n) w (omega arith) (request_base (M + count_below q j) + k) (omega arith) (inl (omega arith))
        ∙ before)
        (λ t. before))
        (eq-or-lt_of_le (le_of_suc-le-suc l))

  -- ---- in what is left

  abbrev left : List ℕ
  left = moved_into p was into

  order_row : (i : ℕ) → FromOrder p O W i → (k : ℕ) → k < order_size → get_or left (order_base i + k) 0 ≡ get_or (encode_order (order_in (book_of left) i)) k 0
  order_row i f k g =
      let at = orders_done p was into old whole links to good in
      let r : count_below p f.at < count_below p (length W.orders) = rank_below p f.at (length W.orders) f.below f.passes in
      let most : length (joined p O W).orders ≤ 64 = good.orders in
      let here : i ≡ N + count_below p f.at = f.place in
      ap (λ (d : List ℕ). get_or d (order_base i + k) 0) (moved_is p was into old whole links to good)
      ∙ words_stay p was into old whole links to good (order_base i + k) (omega arith) _ (requests_done p was into old whole links to good).head.long most_orders (omega arith) (inl (omega (arith, joined_orders p O W)))
      ∙ requests_stay p was into old whole links to good (order_base i + k) (omega arith) _ at.head (ap (λ (b : Book). b.requests) at.is) (length W.requests) (omega arith) (inl (omega (arith, joined_orders p O W)))
      ∙ ap (λ (j : ℕ). get_or (orders_moved p was M into (length W.orders)) (order_base j + k) 0) here
      ∙ orders_written (length W.orders) (omega arith) f.at f.below f.passes k g
      ∙ ap (λ (o : Order). get_or (encode_order o) k 0) (sym f.is ∙ ap (λ (b : Book). order_in b i) (sym (moved_book p was into old whole links to good)))

  request_row : (j : ℕ) → FromRequest p O W j → (k : ℕ) → k < request_size → Out request·origin (request·origin + 2) k
      → get_or left (request_base j + k) 0 ≡ get_or (encode_request (request_in (book_of left) j)) k 0
  request_row j f k g out =
      let at = orders_done p was into old whole links to good in
      let r : count_below q f.at < count_below q (length W.requests) = rank_below q f.at (length W.requests) f.below f.passes in
      let few : M + count_below q (length W.requests) ≤ 256 = few_requests p was into good old whole links in
      let here : j ≡ M + count_below q f.at = f.place in
      ap (λ (d : List ℕ). get_or d (request_base j + k) 0) (moved_is p was into old whole links to good)
      ∙ words_stay p was into old whole links to good (request_base j + k) (omega arith) _ (requests_done p was into old whole links to good).head.long most_orders (omega arith) (inl (omega arith))
      ∙ ap (λ (i : ℕ). get_or (requests_moved p was N M (orders_moved p was M into (length W.orders)) (length W.requests)) (request_base i + k) 0) here
      ∙ requests_written _ at.head (ap (λ (b : Book). b.requests) at.is) (length W.requests) (omega arith) f.at f.below f.passes k g out
      ∙ ap (λ (r : Request). get_or (encode_request r) k 0) (sym f.is ∙ ap (λ (b : Book). request_in b j) (sym (moved_book p was into old whole links to good)))

  -- without an OrigClOrdID the link is 0
  no_origin : (j : ℕ) → FromRequest p O W j → is_empty (request_in (book_of left) j).origclordid ≡ true → origin_at left j ≡ 0
  unfolding moved_origin moved_request
  no_origin j f e =
      let r : count_below q f.at < count_below q (length W.requests) = rank_below q f.at (length W.requests) f.below f.passes in
      let few : M + count_below q (length W.requests) ≤ 256 = few_requests p was into good old whole links in
      let none : is_empty (request_in W f.at).origclordid ≡ true = ap (λ (r : Request). is_empty r.origclordid) (sym f.is ∙ ap (λ (b : Book). request_in b j) (sym (moved_book p was into old whole links to good))) ∙ e in
      ap (λ (d : List ℕ). origin_at d j) (moved_is p was into old whole links to good)
      ∙ (words_done p was into old whole links to good).origin j (omega (arith, f.place))
      ∙ ap (origin_at _) f.place
      ∙ (requests_done p was into old whole links to good).origin_new f.at f.below f.passes
      ∙ if_true _ 0 _ none

  -- THE LAW
  pub moved_written : Written N M left
  moved_written =
      let is : book_of left ≡ joined p O W = moved_book p was into old whole links to good in
      record {
        orders = λ i k n h g. ⊎_elim (λ l. absurd (omega arith)) (λ f. order_row i f k g) (order_from p O W i (subst (λ (b : Book). i < length b.orders) is h));
        requests = λ j k n h g out. ⊎_elim (λ l. absurd (omega arith)) (λ f. request_row j f k g out) (request_from p O W j (subst (λ (b : Book). j < length b.requests) is h));
        origins = λ j n h e. ⊎_elim (λ l. absurd (omega arith)) (λ f. no_origin j f e) (request_from p O W j (subst (λ (b : Book). j < length b.requests) is h));
      }
