-- What a retirement with an order done leaves, byte for byte where it leaves them as they were. Rests on Left, Stays, Words and Emptied.
use Rattle.std.specs.Prelude.{ℕ, ◌+◌, ◌*◌, ◌≤◌, ◌<◌, ◌≡◌, List, length, get_or}
use Rattle.std.proofs.Common.{arith, sym, ap, subst, ◌∙◌, inl, inr, ⊎_elim}
use Rattle.prelude.specs.Laws.Below.{count_le}
use Rattle.prelude.specs.Number.{Bytes}
use Rattle.store.specs.Layout.{header·orders, most_orders, order_base, request_base, opens_at}
use Rattle.store.specs.Book.{Book, book_of, open_at, empty_book}
use Rattle.store.specs.Laws.Stored.{count_most, length_orders, length_requests}
use Rattle.rules.specs.Laws.Keeps.{keeps_links}
use Rattle.parts.specs.Parts.{done_at, live_at, of_passing, joined, archived}
use Rattle.parts.specs.Laws.Joined.{joined_orders, joined_requests}
use Rattle.retire.specs.Retire.{open_word, emptied, book_left, archive_left}
use Rattle.claims.specs.Retire.{Elsewhere, Written, Words}
use Rattle.claims.proofs.Retired.Emptied.{emptied_book, emptied_into, emptied_rest, emptied_order, emptied_request}
use Rattle.claims.proofs.Retired.Words.{first_word, other_word}
use Rattle.claims.proofs.Retired.Left.{kept_into, held, old, whole, live_kept, left_book, left_words, done_kept, archive_book, archive_words}
use Rattle.claims.proofs.Retired.Asked.{Goes}
use Rattle.claims.proofs.Retired.Stays.{Out, moved_stays}
use Rattle.claims.proofs.Retired.Written.{moved_written}

words_by : (d : List ℕ) → ((i : ℕ) → i < most_orders → open_at d i ≡ open_word (book_of d) i) → Words d
words_by d w = record { first = first_word d (count_most header·orders most_orders d) w; other = other_word d (count_most header·orders most_orders d) w }

module _ (b a : List ℕ) (bytes : Bytes b) (g : Goes b a) where
  abbrev B : Book
  B = book_of b

  abbrev A : Book
  A = book_of a

  pub both_words : Words (book_left b) × Words (archive_left a b)
  both_words = (words_by (book_left b) (left_words b bytes g.book), words_by (archive_left a b) (archive_words b bytes g.book a g.archive g.free g.room))

  pub both_written : Written 0 0 (book_left b) × Written (length A.orders) (length A.requests) (archive_left a b)
  unfolding book_left archive_left
  both_written =
      let e : book_of (emptied b) ≡ empty_book B.setting = emptied_book b (held b bytes g.book).long in (
        subst (λ (x : Book). Written (length x.orders) (length x.requests) (book_left b)) e
            (moved_written (live_at B) b (emptied b) (old b bytes g.book) (whole b bytes g.book) (keeps_links b g.book) (emptied_into b (held b bytes g.book).long) (live_kept b bytes g.book)),
        moved_written (done_at B) b a (old b bytes g.book) (whole b bytes g.book) (keeps_links b g.book) (kept_into a g.archive) (done_kept b bytes g.book a g.archive g.free g.room),
      )

  pub both_settings : ((book_of (book_left b)).setting ≡ B.setting) × ((book_of (archive_left a b)).setting ≡ A.setting)
  unfolding joined
  both_settings = (ap (λ (x : Book). x.setting) (left_book b bytes g.book), ap (λ (x : Book). x.setting) (archive_book b bytes g.book a g.archive g.free g.room))

  -- ---- the archive

  pub archive_stays : (k : ℕ) → Elsewhere (length A.orders) (length (book_of (archive_left a b)).orders) (length A.requests) (length (book_of (archive_left a b)).requests) k
      → get_or (archive_left a b) k 0 ≡ get_or a k 0
  unfolding archive_left
  archive_stays k e =
      let is : book_of (archive_left a b) ≡ archived A B = archive_book b bytes g.book a g.archive g.free g.room in
      moved_stays (done_at B) b a (old b bytes g.book) (whole b bytes g.book) (keeps_links b g.book) (kept_into a g.archive) (done_kept b bytes g.book a g.archive g.free g.room) k e.counts
      (subst (λ (x : Book). Out (order_base (length A.orders)) (order_base (length x.orders)) k) is e.orders)
      (subst (λ (x : Book). Out (request_base (length A.requests)) (request_base (length x.requests)) k) is e.requests)
      e.words

  -- ---- the book

  abbrev E : Book
  E = book_of (emptied b)

  abbrev J : Book
  J = joined (live_at B) E B

  none_there : (length E.orders ≡ 0) × (length E.requests ≡ 0)
  none_there = let e : E ≡ empty_book B.setting = emptied_book b (held b bytes g.book).long in (ap (λ (x : Book). length x.orders) e, ap (λ (x : Book). length x.requests) e)

  -- as many as are left
  left_long : (length (book_of (book_left b)).orders ≡ length J.orders) × (length (book_of (book_left b)).requests ≡ length J.requests)
  left_long =
      let e : E ≡ empty_book B.setting = emptied_book b (held b bytes g.book).long in
      let is : book_of (book_left b) ≡ J = left_book b bytes g.book ∙ ap (λ (x : Book). joined (live_at B) x B) (sym e) in
      (ap (λ (x : Book). length x.orders) is, ap (λ (x : Book). length x.requests) is)

  fewer : (length J.orders ≤ length B.orders) × (length J.requests ≤ length B.requests)
  fewer =
      let z = none_there in
      let n : length E.orders ≡ 0 = z.0 in
      let m : length E.requests ≡ 0 = z.1 in
      (omega (arith, joined_orders (live_at B) E B, count_le (live_at B) (length B.orders)), omega (arith, joined_requests (live_at B) E B, count_le (of_passing (live_at B) B) (length B.requests)))

  left_stays : (k : ℕ) → 4 ≤ k → Out (order_base 0) (order_base (length J.orders)) k → Out (request_base 0) (request_base (length J.requests)) k → Out opens_at (opens_at + 64 * 8) k
      → get_or (book_left b) k 0 ≡ get_or (emptied b) k 0
  unfolding book_left
  left_stays k h o r w =
      let z = none_there in
      moved_stays (live_at B) b (emptied b) (old b bytes g.book) (whole b bytes g.book) (keeps_links b g.book) (emptied_into b (held b bytes g.book).long) (live_kept b bytes g.book) k h
      (subst (λ (n : ℕ). Out (order_base n) (order_base (length J.orders)) k) (sym z.0) o) (subst (λ (n : ℕ). Out (request_base n) (request_base (length J.requests)) k) (sym z.1) r) w

  pub book_rest : (k : ℕ) → Elsewhere 0 (length B.orders) 0 (length B.requests) k → get_or (book_left b) k 0 ≡ get_or b k 0
  book_rest k e =
      let f = fewer in
      let o : length J.orders ≤ length B.orders = f.0 in
      let r : length J.requests ≤ length B.requests = f.1 in
      left_stays k e.counts (⊎_elim (λ l. inl l) (λ l. inr (omega arith)) e.orders) (⊎_elim (λ l. inl l) (λ l. inr (omega arith)) e.requests) e.words
      ∙ emptied_rest b (held b bytes g.book).long k e.counts (⊎_elim (λ l. inl (omega arith)) (λ l. inr (omega (arith, length_orders b))) e.orders)
      (⊎_elim (λ l. inl (omega arith)) (λ l. inr (omega (arith, length_requests b))) e.requests)

  pub free_order : (k : ℕ) → order_base (length (book_of (book_left b)).orders) ≤ k → k < order_base (length B.orders) → get_or (book_left b) k 0 ≡ 0
  free_order k h l =
      let f = left_long in
      let o : length (book_of (book_left b)).orders ≡ length J.orders = f.0 in
      let m : length B.orders ≤ 64 = (old b bytes g.book).orders in
      left_stays k (omega arith) (inr (omega arith)) (inl (omega arith)) (inl (omega arith))
      ∙ emptied_order b (held b bytes g.book).long k (omega arith) (omega (arith, length_orders b))

  pub free_request : (k : ℕ) → request_base (length (book_of (book_left b)).requests) ≤ k → k < request_base (length B.requests) → get_or (book_left b) k 0 ≡ 0
  free_request k h l =
      let f = left_long in
      let r : length (book_of (book_left b)).requests ≡ length J.requests = f.1 in
      let s = fewer in
      let o : length J.orders ≤ length B.orders = s.0 in
      let m : length B.requests ≤ 256 = (old b bytes g.book).requests in
      let n : length B.orders ≤ 64 = (old b bytes g.book).orders in
      left_stays k (omega arith) (inr (omega arith)) (inr (omega arith)) (inl (omega arith))
      ∙ emptied_request b (held b bytes g.book).long k (omega arith) (omega (arith, length_requests b))
