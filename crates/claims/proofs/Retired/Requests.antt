-- The requests' rows of a retirement, on bytes, with the link that stands beside each: one that moves is written behind those that the book has, with the link of
-- the request that its OrigClOrdID names in its new place. Rests on Orders, on index's Links and on store's laws.
use Rattle.std.specs.Prelude.{ℕ, zero, suc, ◌+◌, ◌-◌, ◌≤◌, ◌<◌, ◌≡◌, Bool, true, false, List, [], ◌∷◌, ◌++◌, length, refl}
use Rattle.std.proofs.Common.{arith, sym, ap, ◌∙◌, ⊎_elim, append_assoc, append-nil, length-append, eq-or-lt_of_le, le_of_suc-le-suc}
use Rattle.prelude.specs.Below.{count_below}
use Rattle.prelude.specs.Laws.Below.{count_le, all_elim}
use Rattle.prelude.specs.Laws.Cases.{split_if, if_true, if_false, clash}
use Rattle.store.specs.declared.Request.{Request}
use Rattle.store.specs.Layout.{book_size}
use Rattle.store.specs.Requests.{WholeRequest}
use Rattle.store.specs.Book.{Book, book_of, request_in, request_count, origin_at, add_request, store_origin, plus_request}
use Rattle.store.specs.Laws.Stored.{length_requests}
use Rattle.store.specs.Laws.Adds.{add_request_book}
use Rattle.store.specs.Laws.Beside.{add_request_origin, store_origin_book, store_origin_keeps, span_store_origin, origin_here, origin_other}
use Rattle.store.specs.Laws.Kept.{Keeps, add_request_keeps}
use Rattle.machine.specs.Orders.{is_empty}
use Rattle.machine.specs.Whole.{WholeBook}
use Rattle.machine.proofs.Kept.Indexed.{BookKept}
use Rattle.index.specs.Index.{link_right, links_right}
use Rattle.index.specs.Laws.Links.{Lower, link_lower}
use Rattle.kept.proofs.Header.{Headed, same_head, add_request_head}
use Rattle.machine.proofs.Kept.Laws.{decide}
use Rattle.parts.specs.Parts.{passing, of_passing, moved_request, joined}
use Rattle.parts.specs.Laws.Ranks.{rank_below}
use Rattle.parts.specs.Laws.Passing.{passing_hit, passing_pass, length_passing}
use Rattle.parts.specs.Laws.Joined.{moved_above, joined_orders, joined_requests}
use Rattle.retire.specs.Retire.{add_linked, moved_origin, requests_moved}

-- the same requests, and these behind them
abbrev pub with_sent : Book → List Request → Book
with_sent b qs = record { setting = b.setting; orders = b.orders; requests = b.requests ++ qs }

module _ (p : ℕ → Bool) (was into : List ℕ) (good : BookKept (joined p (book_of into) (book_of was))) (old : BookKept (book_of was)) (whole : WholeBook (book_of was))
    (links : links_right was ≡ true) where
  abbrev W : Book
  W = book_of was

  abbrev O : Book
  O = book_of into

  abbrev q : ℕ → Bool
  q = of_passing p W

  abbrev N : ℕ
  N = length O.orders

  abbrev M : ℕ
  M = length O.requests

  -- a request as it moves
  abbrev pub request_moved : ℕ → Request
  request_moved j = moved_request p N (request_in W j)

  few_orders : N ≤ 64
  few_orders = let n : length (joined p O W).orders ≤ 64 = good.orders in omega (arith, joined_orders p O W)

  pub few_requests : M + count_below q (length W.requests) ≤ 256
  few_requests = let n : length (joined p O W).requests ≤ 256 = good.requests in omega (arith, joined_requests p O W)

  module _ (j : ℕ) (h : j < length W.requests) (e : q j ≡ true) where
    -- it can be written
    pub whole_request : WholeRequest (request_moved j)
    unfolding moved_request
    whole_request =
        let w : WholeRequest (request_in W j) = whole.request j h in
        let o : (request_in W j).order < length W.orders = (old.request j h).order in
        let c : count_below p (request_in W j).order ≤ (request_in W j).order = count_le p (request_in W j).order in
        let n : length W.orders ≤ 64 = old.orders in
        record {
          order = omega (arith, few_orders);
          kind = w.kind;
          answered = w.answered;
          clordid = w.clordid;
          origclordid = w.origclordid;
          downstream = w.downstream;
          outcome = w.outcome;
        }

    -- its link names one of its order that is sent before it, so one that goes along
    module _ (some : is_empty (request_in W j).origclordid ≡ false) where
      pub before : (0 < origin_at was j) × Lower W j (origin_at was j - 1)
      before =
          let right : (k : ℕ) → k < request_count was → link_right was k ≡ true = all_elim (link_right was) (request_count was) (unfold links_right in links) in
          link_lower was (λ k l. (old.request k l).order) old.keys j h some (old.request j h).origin
          (right j (omega (arith, length_requests was)))

      pub along : q (origin_at was j - 1) ≡ true
      along = ap p before.1.order ∙ e

      pub origin_is : moved_origin p was M j ≡ M + count_below q (origin_at was j - 1) + 1
      unfolding moved_origin
      origin_is = if_false _ 0 _ some ∙ moved_above q M (origin_at was j) before.0

    origin_small : moved_origin p was M j < 65536
    unfolding moved_origin
    origin_small =
        decide (is_empty (request_in W j).origclordid) (λ t. let z : moved_origin p was M j ≡ 0 = if_true _ 0 _ t in omega arith)
        (λ t.
        let b = before t in
        let l : origin_at was j - 1 < j = b.1.below in
        let r : count_below q (origin_at was j - 1) < count_below q (length W.requests) = rank_below q (origin_at was j - 1) (length W.requests) (omega arith) (along t) in
        omega (arith, origin_is t, few_requests))

  -- ---- the loop

  -- `from` is what the orders left; d what the first n requests leave
  pub record RequestsAt (from : List ℕ) (n : ℕ) (d : List ℕ) : Type 0 where
    pub head : Headed d
    pub keeps : Keeps from d
    pub is : book_of d ≡ with_sent (book_of from) (passing q request_moved n)
    pub origin_old : (j : ℕ) → j < M → origin_at d j ≡ origin_at from j
    pub origin_new : (j : ℕ) → j < n → q j ≡ true → origin_at d (M + count_below q j) ≡ moved_origin p was M j

  module _ (from : List ℕ) (head : Headed from) (sent : (book_of from).requests ≡ O.requests) where
    requests_start : RequestsAt from 0 from
    unfolding passing
    requests_start = record {
      head = head;
      keeps = record { same = refl; bytes = λ h. h };
      is = λ t. record { setting = (book_of from).setting; orders = (book_of from).orders; requests = sym (append-nil (book_of from).requests) t };
      origin_old = λ j h. refl;
      origin_new = λ j h e. absurd (omega arith);
    }

    module _ (n : ℕ) (h : n < length W.requests) (d : List ℕ) (at : RequestsAt from n d) where
      -- so many requests stand there
      pub requests_count : request_count d ≡ M + count_below q n
      requests_count =
          sym (length_requests d) ∙ ap (λ (b : Book). length b.requests) at.is ∙ length-append (book_of from).requests _
          ∙ ap (λ (k : ℕ). k + length (passing q request_moved n)) (ap length sent)
          ∙ ap (λ (k : ℕ). M + k) (length_passing q request_moved n)

      requests_hit : q n ≡ true → RequestsAt from (suc n) (add_linked d (request_moved n) (moved_origin p was M n))
      unfolding add_linked
      requests_hit e =
          let r : Request = request_moved n in
          let w : WholeRequest r = whole_request n h e in
          let c : count_below q n < count_below q (length W.requests) = rank_below q n (length W.requests) h e in
          let m : request_count d ≡ M + count_below q n = requests_count in
          let l : length d ≡ book_size = at.head.long in
          let f : List ℕ = add_request d r in
          let more : Keeps d f = add_request_keeps d r w in
          let o : ℕ = moved_origin p was M n in
          let last : Keeps f (store_origin f (request_count d) o) = store_origin_keeps f (request_count d) o in
          let fh : Headed f = add_request_head d at.head r w in
          record {
            head = same_head f (store_origin f (request_count d) o) fh (last.same ∙ fh.long) (span_store_origin f (request_count d) o 0 2 (omega arith)) (span_store_origin f (request_count d) o 2 2 (omega arith));
            keeps = record { same = last.same ∙ more.same ∙ at.keeps.same; bytes = λ k. last.bytes (more.bytes (at.keeps.bytes k)) };
            is =
                store_origin_book f (request_count d) o
                ∙ add_request_book d r l (omega (arith, few_requests)) w
                ∙ ap (λ (b : Book). plus_request b r) at.is
                ∙ (λ t. record { setting = (book_of from).setting; orders = (book_of from).orders; requests = append_assoc (book_of from).requests (passing q request_moved n) (r ∷ []) t })
                ∙ ap (with_sent (book_of from)) (sym (passing_hit q request_moved n e));
            origin_old = λ j k. beside j (omega arith) ∙ at.origin_old j k;
            origin_new = λ j k t. ⊎_elim (here j) (λ u. let s : count_below q j < count_below q n = rank_below q j n u t in beside (M + count_below q j) (omega arith) ∙ at.origin_new j u t) (eq-or-lt_of_le (le_of_suc-le-suc k));
          }
        where
          beside : (k : ℕ) → k < request_count d → origin_at (store_origin (add_request d (request_moved n)) (request_count d) (moved_origin p was M n)) k ≡ origin_at d k
          beside k u =
              origin_other (add_request d (request_moved n)) (request_count d) (moved_origin p was M n) k (omega (arith, requests_count, few_requests, rank_below q n (length W.requests) h e)) (λ z. omega arith)
              ∙ add_request_origin d (request_moved n) (whole_request n h e) k u

          here : (j : ℕ) → j ≡ n → origin_at (store_origin (add_request d (request_moved n)) (request_count d) (moved_origin p was M n)) (M + count_below q j) ≡ moved_origin p was M j
          here j z =
              ap (λ (k : ℕ). origin_at (store_origin (add_request d (request_moved n)) (request_count d) (moved_origin p was M n)) k) (ap (λ (k : ℕ). M + count_below q k) z ∙ sym requests_count)
              ∙ origin_here (add_request d (request_moved n)) (request_count d) (moved_origin p was M n) ((add_request_keeps d (request_moved n) (whole_request n h e)).same ∙ at.head.long)
              (omega (arith, requests_count, few_requests, rank_below q n (length W.requests) h e)) (origin_small n h e)
              ∙ ap (moved_origin p was M) (sym z)

      requests_miss : q n ≡ false → RequestsAt from (suc n) d
      requests_miss e = record {
        head = at.head;
        keeps = at.keeps;
        is = at.is ∙ ap (with_sent (book_of from)) (sym (passing_pass q request_moved n e));
        origin_old = at.origin_old;
        origin_new = λ j k t. ⊎_elim (λ z. clash (q n) (ap q (sym z) ∙ t) e) (λ u. at.origin_new j u t) (eq-or-lt_of_le (le_of_suc-le-suc k));
      }

    pub requests_at : (n : ℕ) → n ≤ length W.requests → RequestsAt from n (requests_moved p was N M from n)
    unfolding requests_moved
    requests_at zero h = requests_start
    requests_at (suc n) h =
        let at = requests_at n (omega arith) in
        split_if (RequestsAt from (suc n)) (q n) (requests_hit n (omega arith) _ at) (requests_miss n (omega arith) _ at)
