-- What a change of one order writes into the bytes of a book, as a list of writes, and where they stand: in the order's record, in its own requests' records, in
-- the first free request record and the count, and in the word of its client. Rests on Splices and store's laws.
use Rattle.std.proofs.Common.{ℕ, ◌+◌, ◌-◌, ◌≤◌, ◌<◌, arith, ◌≡◌, refl, sym, ap, ap₂, subst, ◌∙◌, ◌⊎◌, inl, inr, ⊎_elim, ◌&&◌, true, false, Some, List, [], ◌∷◌, ◌++◌, eqb, ltb, length, eq-eqb, ne_eqb, le-leb, lt-ltb}
use Rattle.std.proofs.Math.Decide.{ℕ_discrete}
use Rattle.std.proofs.lemmas.Bool.{eqb-false, and_from, or_left}
use Rattle.prelude.specs.Cases.{if◌then◌otherwise◌}
use Rattle.prelude.specs.Laws.Cases.{split_if, if_true, if_false, maybe_some}
use Rattle.prelude.specs.Number.{bytes_of}
use Rattle.prelude.specs.Span.{splice}
use Rattle.prelude.specs.Laws.Span.{length_splice}
use Rattle.prelude.specs.Totals.{Every, every[], every∷}
use Rattle.prelude.specs.Laws.Totals.{every_map, every_append}
use Rattle.store.specs.declared.Order.{Order}
use Rattle.store.specs.declared.Request.{Request}
use Rattle.store.specs.Layout.{book_size, header·orders, header·requests, order_size, most_orders, request_size, most_requests, order_base, request_base, request·answered, request·outcome, request·origin, open_size, open_base}
use Rattle.store.specs.Orders.{WholeOrder, encode_order}
use Rattle.store.specs.Requests.{WholeRequest, encode_request}
use Rattle.store.specs.Book.{Book, book_of, is_book, request_in, order_count, request_count, settled_as, put_order, store_order, put_request, set_count, add_request, mark_answered, store_origin, store_open}
use Rattle.store.specs.Finds.{find_client}
use Rattle.store.specs.Laws.Orders.{length_order}
use Rattle.store.specs.Laws.Requests.{length_request}
use Rattle.store.specs.Laws.Tables.{length_put_order}
use Rattle.store.specs.Laws.Stored.{count_most, length_orders, length_requests, request_in_lem, put_order_count}
use Rattle.machine.specs.declared.Requests.{Requests}
use Rattle.machine.specs.declared.Change.{Change}
use Rattle.machine.specs.Machine.{answer_link, after}
use Rattle.machine.specs.Exchange.{open_of}
use Rattle.machine.proofs.Kept.Tables.{at, length_answer, answer_case}
use Rattle.index.specs.Index.{origin_of}
use Rattle.step.specs.Entries.{place_order, mark_link, place_requests, tables_with, place_origin, place_open, place_index, book_with}
use Rattle.claims.proofs.Splices.{splice_within, Write, write, ends, put, put_all, Inside, Beside, apart, put_append, put_comm, all_comm}
use Rattle.kept.proofs.Written.{place_book, mark_link_keeps, mark_link_book, marked, marked_keeps, marked_count, tables_keeps, origin_keeps}

-- ---- the writes

abbrev pub order_write : ℕ → Order → Write
order_write i o = write (order_base i) (encode_order o)

-- the request of a link marked answered, and its outcome
unfoldable mark_writes : (link outcome : ℕ) → List Write
mark_writes k v = if eqb k 0 then [] otherwise write (request_base (k - 1) + request·answered) (1 ∷ []) ∷ write (request_base (k - 1) + request·outcome) (v ∷ []) ∷ []

-- if there is no link, the outcome does not matter
mark_values : (k v u : ℕ) → ((k ≡ 0 → ⊥) → v ≡ u) → mark_writes k v ≡ mark_writes k u
mark_values k v u h = go (ℕ_discrete k 0)
  where
    go : Dec (k ≡ 0) → mark_writes k v ≡ mark_writes k u
    go (yes z) = unfold mark_writes in if_true _ _ _ (eq-eqb k 0 z) ∙ sym (if_true _ _ _ (eq-eqb k 0 z))
    go (no z) = ap (mark_writes k) (h z)

abbrev open_write : ℕ → ℕ → Write
open_write p n = write (open_base p) (bytes_of 8 n)

-- the requests settled, with the outcomes f and s, and the word at p of the order's client, which becomes n
pub rest_writes : (p n f s : ℕ) → Requests → List Write
rest_writes p n f s r = mark_writes r.answered f ++ (mark_writes r.superseded s ++ (open_write p n ∷ []))

pub rest_values : (p n f s g u : ℕ) (r : Requests) → ((r.answered ≡ 0 → ⊥) → f ≡ g) → ((r.superseded ≡ 0 → ⊥) → s ≡ u) → rest_writes p n f s r ≡ rest_writes p n g u r
unfolding rest_writes
rest_values p n f s g u r a b = ap₂ (λ (v w : List Write). v ++ (w ++ (open_write p n ∷ []))) (mark_values r.answered f g a) (mark_values r.superseded s u b)

-- a request's record with its origin
abbrev pub linked_bytes : (origin : ℕ) → Request → List ℕ
linked_bytes origin q = splice (encode_request q) request·origin (bytes_of 2 origin)

pub length_linked : (origin : ℕ) (q : Request) → WholeRequest q → length (linked_bytes origin q) ≡ request_size
length_linked origin q w = let l : length (encode_request q) ≡ request_size = length_request q w in length_splice (encode_request q) request·origin (bytes_of 2 origin) (omega arith) ∙ l

abbrev origin_write : (t origin : ℕ) → Write
origin_write t origin = write (request_base t + request·origin) (bytes_of 2 origin)

-- a request added behind t of them, with its origin, and their count
abbrev pub request_write : (t origin : ℕ) → Request → Write
request_write t origin q = write (request_base t) (linked_bytes origin q)

abbrev pub count_write : ℕ → Write
count_write n = write header·requests (bytes_of 2 n)

-- as the tables have it, without an origin
unfoldable plain_writes : (t : ℕ) → Requests → List Write
plain_writes t r = if eqb r.added 0 then [] otherwise write (request_base t) (encode_request r.request) ∷ count_write (t + 1) ∷ []

unfoldable pub add_writes : (t origin : ℕ) → Requests → List Write
add_writes t origin r = if eqb r.added 0 then [] otherwise request_write t origin r.request ∷ count_write (t + 1) ∷ []

pub none_added : (t origin : ℕ) (r : Requests) → r.added ≡ 0 → add_writes t origin r ≡ []
unfolding add_writes
none_added t origin r z = if_true _ _ _ (eq-eqb r.added 0 z)

pub one_added : (t origin : ℕ) (r : Requests) → (r.added ≡ 0 → ⊥) → add_writes t origin r ≡ request_write t origin r.request ∷ count_write (t + 1) ∷ []
unfolding add_writes
one_added t origin r z = if_false _ _ _ (ne_eqb r.added 0 z)

-- ---- where they stand

-- a write in the record of an order of O or of a request of R, in the count if C, or in a word of P
pub data Zone (O R : ℕ → Type 0) (C : Type 0) (P : ℕ → Type 0) (w : Write) : Type 0 where
  in_order : (k : ℕ) → O k → k < most_orders → w.at ≡ order_base k → length w.bytes ≡ order_size → Zone O R C P w
  in_request : (k : ℕ) → R k → k < most_requests → request_base k ≤ w.at → ends w ≤ request_base k + request_size → Zone O R C P w
  in_count : C → w.at ≡ header·requests → length w.bytes ≡ 2 → Zone O R C P w
  in_word : (k : ℕ) → P k → k < most_orders → w.at ≡ open_base k → length w.bytes ≡ open_size → Zone O R C P w

abbrev pub No : ℕ → Type 0
No k = ⊥

-- of order i and its own requests
abbrev pub Mine : Book → ℕ → ℕ → Type 0
Mine x i k = ((request_in x k).order ≡ i) × (k < length x.requests)

abbrev pub InOrder : ℕ → Write → Type 0
InOrder i = Zone (λ k. k ≡ i) No ⊥ No

abbrev pub InRest : Book → (i p : ℕ) → Write → Type 0
InRest x i p = Zone No (Mine x i) ⊥ (λ k. k ≡ p)

abbrev pub InRequest : ℕ → Write → Type 0
InRequest t = Zone No (λ k. k ≡ t) ⊥ No

-- the count, and requests from t on
abbrev pub InAdded : ℕ → Write → Type 0
InAdded t = Zone No (λ k. t ≤ k) (Unit {0}) No

module _ {O R : ℕ → Type 0} {C : Type 0} {P : ℕ → Type 0} (w : Write) where
  pub zone_inside : Zone O R C P w → Inside book_size w
  zone_inside (in_order k o h a l) = omega arith
  zone_inside (in_request k r h f g) = omega arith
  zone_inside (in_count c a l) = omega arith
  zone_inside (in_word k p h a l) = omega arith

  -- two writes that have no record, count or word in common
  pub zones_beside : {O' R' : ℕ → Type 0} {C' : Type 0} {P' : ℕ → Type 0} → ((k : ℕ) → O k → O' k → ⊥) → ((k : ℕ) → R k → R' k → ⊥) → (C → C' → ⊥) → ((k : ℕ) → P k → P' k → ⊥)
      → (v : Write) → Zone O R C P w → Zone O' R' C' P' v → Beside w v
  zones_beside fo fr fc fp v (in_order k o h a l) (in_order m p g b n) = ⊎_elim (λ z. inl (omega arith)) (λ z. inr (omega arith)) (apart k m (λ z. fo m (subst O z o) p))
  zones_beside fo fr fc fp v (in_order k o h a l) (in_request m p g b n) = inl (omega arith)
  zones_beside fo fr fc fp v (in_order k o h a l) (in_count p b n) = inr (omega arith)
  zones_beside fo fr fc fp v (in_order k o h a l) (in_word m p g b n) = inl (omega arith)
  zones_beside fo fr fc fp v (in_request k o h a l) (in_order m p g b n) = inr (omega arith)
  zones_beside fo fr fc fp v (in_request k o h a l) (in_request m p g b n) = ⊎_elim (λ z. inl (omega arith)) (λ z. inr (omega arith)) (apart k m (λ z. fr m (subst R z o) p))
  zones_beside fo fr fc fp v (in_request k o h a l) (in_count p b n) = inr (omega arith)
  zones_beside fo fr fc fp v (in_request k o h a l) (in_word m p g b n) = inl (omega arith)
  zones_beside fo fr fc fp v (in_count o a l) (in_order m p g b n) = inl (omega arith)
  zones_beside fo fr fc fp v (in_count o a l) (in_request m p g b n) = inl (omega arith)
  zones_beside fo fr fc fp v (in_count o a l) (in_count p b n) = absurd (fc o p)
  zones_beside fo fr fc fp v (in_count o a l) (in_word m p g b n) = inl (omega arith)
  zones_beside fo fr fc fp v (in_word k o h a l) (in_order m p g b n) = inr (omega arith)
  zones_beside fo fr fc fp v (in_word k o h a l) (in_request m p g b n) = inr (omega arith)
  zones_beside fo fr fc fp v (in_word k o h a l) (in_count p b n) = inr (omega arith)
  zones_beside fo fr fc fp v (in_word k o h a l) (in_word m p g b n) = ⊎_elim (λ z. inl (omega arith)) (λ z. inr (omega arith)) (apart k m (λ z. fp m (subst P z o) p))

pub order_zone : (i : ℕ) (o : Order) → i < most_orders → WholeOrder o → InOrder i (order_write i o)
order_zone i o h w = in_order i refl h refl (length_order o w.fits)

mark_zones : (x : Book) (i p k v : ℕ) → length x.requests ≤ most_requests → k ≤ length x.requests → ((m : ℕ) → k ≡ m + 1 → (request_in x m).order ≡ i) → Every (InRest x i p) (mark_writes k v)
unfolding mark_writes
mark_zones x i p k v few h own =
    split_if (Every (InRest x i p)) (eqb k 0) (λ e. every[])
    (λ e.
    let z : (k ≡ 0 → ⊥) = eqb-false k 0 e in
    let mine : Mine x i (k - 1) = (own (k - 1) (omega arith), omega arith) in
    every∷ (in_request (k - 1) mine (omega arith) (omega arith) (omega arith)) (every∷ (in_request (k - 1) mine (omega arith) (omega arith) (omega arith)) every[]))

pub rest_zones : (x : Book) (i p n f s : ℕ) (r : Requests) → length x.requests ≤ most_requests → p < most_orders → r.answered ≤ length x.requests → r.superseded ≤ length x.requests
    → ((k : ℕ) → r.answered ≡ k + 1 → (request_in x k).order ≡ i) → ((k : ℕ) → r.superseded ≡ k + 1 → (request_in x k).order ≡ i) → Every (InRest x i p) (rest_writes p n f s r)
unfolding rest_writes
rest_zones x i p n f s r few h ha hs own' own =
    every_append (mark_zones x i p r.answered f few ha own')
    (every_append (mark_zones x i p r.superseded s few hs own) (every∷ (in_word p refl h refl refl) every[]))

pub request_zone : (t origin : ℕ) (q : Request) → t < most_requests → WholeRequest q → InRequest t (request_write t origin q)
request_zone t origin q h w = let l : length (linked_bytes origin q) ≡ request_size = length_linked origin q w in in_request t refl h (omega arith) (omega arith)

-- a request at t or behind it, and the count
pub behind_zone : (t k : ℕ) (w : Write) → t ≤ k → InRequest k w → InAdded t w
behind_zone t k w l (in_order m o h a e) = absurd o
behind_zone t k w l (in_request m o h a e) = in_request m (omega arith) h a e
behind_zone t k w l (in_count o a e) = absurd o
behind_zone t k w l (in_word m o h a e) = absurd o

pub count_zone : (t n : ℕ) → InAdded t (count_write n)
count_zone t n = in_count tt refl refl

pub add_zones : (t origin : ℕ) (r : Requests) → (r.added ≡ 0) ⊎ (t < most_requests) → ((r.added ≡ 0 → ⊥) → WholeRequest r.request) → Every (InAdded t) (add_writes t origin r)
unfolding add_writes
add_zones t origin r room whole =
    split_if (Every (InAdded t)) (eqb r.added 0) (λ e. every[])
    (λ e.
    let z : (r.added ≡ 0 → ⊥) = eqb-false r.added 0 e in
    every∷ (behind_zone t t _ (omega arith) (request_zone t origin r.request (⊎_elim (λ y. absurd (z y)) (λ y. y) room) (whole z))) (every∷ (count_zone t (t + 1)) every[]))

-- ---- a change on bytes is its writes

module _ (b : List ℕ) (long : length b ≡ book_size) where
  in_table : (i most : ℕ) → i < most → (x : List ℕ) → (if is_book b && ltb i most then x otherwise b) ≡ x
  in_table i most h x = if_true _ _ _ (and_from _ _ (eq-eqb (length b) book_size long) (lt-ltb i most h))

  mark_is : (k v : ℕ) → k ≤ request_count b → mark_link b k v ≡ put_all b (mark_writes k (settled_as v (request_in (book_of b) (k - 1))))
  unfolding mark_link mark_writes mark_answered
  mark_is k v h = go (ℕ_discrete k 0)
    where
      go : Dec (k ≡ 0) → mark_link b k v ≡ put_all b (mark_writes k (settled_as v (request_in (book_of b) (k - 1))))
      go (yes z) = if_true _ _ _ (eq-eqb k 0 z) ∙ ap (put_all b) (sym (if_true (eqb k 0) [] _ (eq-eqb k 0 z)))
      go (no z) =
          if_false _ _ _ (ne_eqb k 0 z)
          ∙ in_table (k - 1) most_requests (omega (arith, h, count_most header·requests most_requests b)) _
          ∙ ap (λ (q : Request). put_all b (write (request_base (k - 1) + request·answered) (1 ∷ []) ∷ write (request_base (k - 1) + request·outcome) (settled_as v q ∷ []) ∷ []))
          (sym (request_in_lem b (k - 1) (omega arith)))
          ∙ ap (put_all b) (sym (if_false (eqb k 0) [] _ (ne_eqb k 0 z)))

  order_is : (i place : ℕ) (o : Order) → place ≡ i + 1 → i < order_count b → i < most_orders → place_order b place o ≡ put_order b i o
  unfolding place_order store_order
  order_is i place o e h m =
      let z : place - 1 ≡ i = omega arith in
      if_false _ _ _ (ne_eqb place 0 (λ q. omega arith))
      ∙ if_true _ _ _ (le-leb place (order_count b) (omega arith))
      ∙ ap (λ (k : ℕ). store_order b k o) z
      ∙ in_table i most_orders m _

  open_is : (left : Book) (place client p : ℕ) → (place ≡ 0 → ⊥) → find_client left client ≡ Some p → p < most_orders
      → place_open b left place client ≡ put b (open_write p (open_of left client))
  unfolding place_open store_open
  open_is left place client p z e h =
      if_false _ _ _ (ne_eqb place 0 z) ∙ maybe_some (find_client left client) p b (λ i. store_open b i (open_of left client)) e ∙ in_table p most_orders h _

  added_is : (q : Request) (t : ℕ) → request_count b ≡ t → t < most_requests
      → add_request b q ≡ put_all b (write (request_base t) (encode_request q) ∷ write header·requests (bytes_of 2 (t + 1)) ∷ [])
  unfolding add_request put_request set_count
  added_is q t e h =
      in_table (request_count b) most_requests (omega arith) _
      ∙ ap (λ (n : ℕ). put_all b (write (request_base n) (encode_request q) ∷ write header·requests (bytes_of 2 (n + 1)) ∷ [])) e

abbrev settled : List ℕ → (f s : ℕ) → Requests → List ℕ
settled b f s r = put_all (put_all b (mark_writes r.answered f)) (mark_writes r.superseded s)

-- what the request of a link comes to if it is settled
abbrev pub value_of : List ℕ → Requests → (link : ℕ) → ℕ
value_of b r link = settled_as r.outcome (request_in (book_of b) (link - 1))

-- what is set is set: the same once another is settled
settled_again : (link v : ℕ) (qs : List Request) (k : ℕ) → k < length qs → settled_as v (at (answer_link link v qs) k) ≡ settled_as v (at qs k)
unfolding if◌then◌otherwise◌
settled_again link v qs k l = answer_case (λ (q : Request). settled_as v q ≡ settled_as v (at qs k)) link v qs k l (λ n. refl) (λ e. refl)

-- the requests settled, and one added behind t of them
module _ (b : List ℕ) (long : length b ≡ book_size) (r : Requests) (small : r.outcome ≤ 3) (t : ℕ) (count : request_count b ≡ t) (ha : r.answered ≤ t) (hs : r.superseded ≤ t) where
  abbrev once : List ℕ
  once = mark_link b r.answered r.outcome

  once_count : request_count once ≡ t
  once_count =
      sym (length_requests once)
      ∙ ap (λ (x : Book). length x.requests) (mark_link_book r.outcome b r.answered)
      ∙ length_answer r.answered r.outcome (book_of b).requests
      ∙ length_requests b
      ∙ count

  settled_is : marked b r ≡ settled b (value_of b r r.answered) (value_of b r r.superseded) r
  settled_is =
      mark_is once ((mark_link_keeps r.outcome small b r.answered).same ∙ long) r.superseded r.outcome (omega (arith, hs, once_count))
      ∙ ap₂ put_all (mark_is b long r.answered r.outcome (omega (arith, ha, count)))
      (mark_values r.superseded _ _ (λ z.
      let k : ℕ = r.superseded - 1 in
      ap (λ (x : Book). settled_as r.outcome (request_in x k)) (mark_link_book r.outcome b r.answered)
      ∙ settled_again r.answered r.outcome (book_of b).requests k (omega (arith, hs, count, length_requests b))))

  abbrev after_both : List ℕ
  after_both = settled b (value_of b r r.answered) (value_of b r r.superseded) r

  requests_is : (r.added ≡ 0) ⊎ (t < most_requests) → place_requests b r ≡ put_all after_both (plain_writes t r)
  unfolding place_requests plain_writes
  requests_is room = go (ℕ_discrete r.added 0) room
    where
      go : Dec (r.added ≡ 0) → (r.added ≡ 0) ⊎ (t < most_requests) → place_requests b r ≡ put_all after_both (plain_writes t r)
      go (yes z) d = if_true _ _ _ (eq-eqb r.added 0 z) ∙ settled_is ∙ ap (put_all after_both) (sym (if_true (eqb r.added 0) [] _ (eq-eqb r.added 0 z)))
      go (no z) (inl d) = absurd (z d)
      go (no z) (inr d) =
          if_false _ _ _ (ne_eqb r.added 0 z)
          ∙ added_is (marked b r) ((marked_keeps b r small).same ∙ long) r.request t (marked_count b r ∙ length_requests b ∙ count) d
          ∙ ap (λ (x : List ℕ). put_all x (write (request_base t) (encode_request r.request) ∷ write header·requests (bytes_of 2 (t + 1)) ∷ [])) settled_is
          ∙ ap (put_all after_both) (sym (if_false (eqb r.added 0) [] _ (ne_eqb r.added 0 z)))

-- the origin goes into the record that was added
origin_is : (s : List ℕ) → length s ≡ book_size → (t origin : ℕ) (r : Requests) → (r.added ≡ 0) ⊎ (t < most_requests) → ((r.added ≡ 0 → ⊥) → WholeRequest r.request)
    → place_origin (put_all s (plain_writes t r)) r.added t origin ≡ put_all s (add_writes t origin r)
unfolding place_origin store_origin plain_writes add_writes
origin_is s l t origin r room whole = go (ℕ_discrete r.added 0) room
  where
    go : Dec (r.added ≡ 0) → (r.added ≡ 0) ⊎ (t < most_requests) → place_origin (put_all s (plain_writes t r)) r.added t origin ≡ put_all s (add_writes t origin r)
    go (yes z) d =
        let none : eqb r.added 0 ≡ true = eq-eqb r.added 0 z in
        if_true _ _ _ none ∙ ap (put_all s) (if_true (eqb r.added 0) [] _ none ∙ sym (if_true (eqb r.added 0) [] _ none))
    go (no z) (inl d) = absurd (z d)
    go (no z) (inr d) =
        let one : eqb r.added 0 ≡ false = ne_eqb r.added 0 z in
        let q : List ℕ = encode_request r.request in
        let e : length q ≡ request_size = length_request r.request (whole z) in
        let w : Write = write (request_base t) q in
        let o : Write = origin_write t origin in
        let s₁ : List ℕ = put s w in
        let l₁ : length s₁ ≡ book_size = length_splice s (request_base t) q (omega arith) ∙ l in
        let s₂ : List ℕ = put s₁ (count_write (t + 1)) in
        let l₂ : length s₂ ≡ book_size = length_splice s₁ header·requests (bytes_of 2 (t + 1)) (omega arith) ∙ l₁ in
        if_false _ _ _ one
        ∙ ap (λ (ws : List Write). store_origin (put_all s ws) t origin) (if_false (eqb r.added 0) [] _ one)
        ∙ in_table s₂ l₂ t most_requests d _
        ∙ put_comm s₁ (count_write (t + 1)) o (omega arith) (omega arith) (inl (omega arith))
        ∙ ap (λ (x : List ℕ). put x (count_write (t + 1))) (splice_within s q (bytes_of 2 origin) (request_base t) request·origin (omega arith) (omega arith))
        ∙ ap (put_all s) (sym (if_false (eqb r.added 0) [] _ one))

-- what a change needs, so that it is these writes
pub record Placing (b : List ℕ) (i p : ℕ) (c : Change) : Type 0 where
  pub long : length b ≡ book_size
  pub there : c.place ≡ i + 1
  pub inside : i < length (book_of b).orders
  pub answers : c.requests.answered ≤ length (book_of b).requests
  pub supersedes : c.requests.superseded ≤ length (book_of b).requests
  pub room : (c.requests.added ≡ 0) ⊎ (length (book_of b).requests < most_requests)
  pub order : WholeOrder c.order
  pub small : c.requests.outcome ≤ 3
  pub request : (c.requests.added ≡ 0 → ⊥) → WholeRequest c.requests.request
  pub found : find_client (after (book_of b) c) c.order.client ≡ Some p
  pub first : p < most_orders

-- the origin of a request that the change adds
abbrev pub origin_by : List ℕ → Change → ℕ
origin_by b c = origin_of (book_of b) c.order.client c.requests.request.origclordid

module _ (b : List ℕ) (i p : ℕ) (c : Change) (h : Placing b i p c) where
  abbrev t : ℕ
  t = length (book_of b).requests

  abbrev n : ℕ
  n = open_of (after (book_of b) c) c.order.client

  inside : i < order_count b
  inside = omega (arith, h.inside, length_orders b)

  few : i < most_orders
  few = omega (arith, inside, count_most header·orders most_orders b)

  abbrev placed : List ℕ
  placed = put_order b i c.order

  placed_is : place_order b c.place c.order ≡ placed
  placed_is = order_is b h.long i c.place c.order h.there inside few

  placed_long : length placed ≡ book_size
  placed_long = length_put_order b h.long i few c.order h.order.fits

  placed_count : request_count placed ≡ t
  placed_count = put_order_count b h.long i few c.order h.order header·requests most_requests (omega arith) ∙ sym (length_requests b)

  -- the order's record is no request's
  placed_value : (link : ℕ) → value_of placed c.requests link ≡ value_of b c.requests link
  placed_value link =
      ap (λ (x : List ℕ). value_of x c.requests link) (sym placed_is)
      ∙ ap (λ (x : Book). settled_as c.requests.outcome (request_in x (link - 1)))
      (place_book b c h.long (or_left _ _ (le-leb c.place (length (book_of b).orders) (omega (arith, h.there, h.inside)))) (λ y. h.order))

  abbrev before : List ℕ
  before = settled placed (value_of b c.requests c.requests.answered) (value_of b c.requests c.requests.superseded) c.requests

  -- with the values as they are before the order is placed
  before_is : settled placed (value_of placed c.requests c.requests.answered) (value_of placed c.requests c.requests.superseded) c.requests ≡ before
  before_is = ap₂ (λ (u w : ℕ). settled placed u w c.requests) (placed_value c.requests.answered) (placed_value c.requests.superseded)

  before_long : length before ≡ book_size
  before_long =
      ap length (sym (settled_is placed placed_long c.requests h.small t placed_count h.answers h.supersedes ∙ before_is))
      ∙ (marked_keeps placed c.requests h.small).same ∙ placed_long

  tables_is : tables_with b c ≡ put_all before (plain_writes t c.requests)
  unfolding tables_with
  tables_is =
      ap (λ (x : List ℕ). place_requests x c.requests) placed_is
      ∙ requests_is placed placed_long c.requests h.small t placed_count h.answers h.supersedes h.room
      ∙ ap (λ (x : List ℕ). put_all x (plain_writes t c.requests)) before_is

  -- the tables, and the origin
  abbrev linked : List ℕ
  linked = place_origin (tables_with b c) c.requests.added t (origin_by b c)

  linked_is : linked ≡ put_all before (add_writes t (origin_by b c) c.requests)
  linked_is = ap (λ (x : List ℕ). place_origin x c.requests.added t (origin_by b c)) tables_is ∙ origin_is before before_long t (origin_by b c) c.requests h.room h.request

  linked_long : length linked ≡ book_size
  linked_long = (origin_keeps (tables_with b c) c.requests.added t (origin_by b c)).same ∙ (tables_keeps b c h.small (λ y. h.order) (λ y. h.request (eqb-false c.requests.added 0 y))).same ∙ h.long

  -- the word goes before what is added
  word_first : put (put_all before (add_writes t (origin_by b c) c.requests)) (open_write p n) ≡ put_all (put before (open_write p n)) (add_writes t (origin_by b c) c.requests)
  word_first =
      let added : Every (InAdded t) (add_writes t (origin_by b c) c.requests) = add_zones t (origin_by b c) c.requests h.room h.request in
      let word : Zone No No ⊥ (λ k. k ≡ p) (open_write p n) = in_word p refl h.first refl refl in
      all_comm book_size before (add_writes t (origin_by b c) c.requests) (open_write p n ∷ []) before_long (every_map (λ w z. zone_inside w z) added) (every∷ (zone_inside (open_write p n) word) every[])
      (every_map (λ w z. every∷ (zones_beside w (λ k y a. y) (λ k y a. a) (λ y a. a) (λ k y a. y) (open_write p n) z word) every[]) added)

  pub change_is : book_with b c
      ≡ put_all (put_all b (order_write i c.order ∷ rest_writes p n (value_of b c.requests c.requests.answered) (value_of b c.requests c.requests.superseded) c.requests))
      (add_writes t (origin_by b c) c.requests)
  unfolding book_with place_index rest_writes put_order
  change_is =
      let r : Requests = c.requests in
      let f : ℕ = value_of b r r.answered in
      let s : ℕ = value_of b r r.superseded in
      open_is linked linked_long (after (book_of b) c) c.place c.order.client p (λ z. let y : c.place ≡ i + 1 = h.there in omega arith) h.found h.first
      ∙ ap (λ (x : List ℕ). put x (open_write p n)) linked_is
      ∙ word_first
      ∙ ap (λ (x : List ℕ). put_all x (add_writes t (origin_by b c) r))
      (sym
      (put_append placed (mark_writes r.answered f) _
      ∙ put_append (put_all placed (mark_writes r.answered f)) (mark_writes r.superseded s) (open_write p n ∷ [])))
