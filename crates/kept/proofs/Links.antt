-- The links beside the requests' fields after a change: each stays, and the request that is added has that of the request that its OrigClOrdID names. Both books keep
-- machine's rules, so each OrigClOrdID names the same request as before. Rests on Written, Origin, index's Links, and store's laws of what each write leaves there.
use Rattle.std.specs.Prelude.{ℕ, ◌+◌, ◌-◌, ◌≤◌, ◌<◌, ◌≡◌, Bool, true, false, not, ◌||◌, List, ◌==◌, eqb, length, Some, refl}
use Rattle.std.proofs.Common.{arith, sym, ap, ap₂, subst, ◌∙◌, eq-eqb, ne_eqb}
use Rattle.std.proofs.Math.Decide.{ℕ_discrete, dec_lt}
use Rattle.std.proofs.lemmas.Bool.{and_parts, or_left, or_right}
use Rattle.prelude.specs.Laws.Below.{all_elim, all_intro}
use Rattle.prelude.specs.Laws.Cases.{split_if, split_maybe, if_true, if_false, maybe_some}
use Rattle.prelude.specs.Texts.{same_text}
use Rattle.prelude.specs.Laws.Texts.{same_length}
use Rattle.prelude.specs.declared.Text.{Text}
use Rattle.store.specs.declared.Order.{Order}
use Rattle.store.specs.declared.Request.{Request}
use Rattle.store.specs.Layout.{book_size, header·requests, most_requests}
use Rattle.store.specs.Orders.{WholeOrder}
use Rattle.store.specs.Book.{Book, book_of, order_in, request_in, request_count, origin_at, store_origin, add_request}
use Rattle.store.specs.Finds.{find_client, find_clordid}
use Rattle.store.specs.Laws.Stored.{count_most, length_requests}
use Rattle.store.specs.Laws.Beside.{store_order_origin, add_order_origin, store_open_origin, add_request_origin, mark_origin, origin_here, origin_other}
use Rattle.machine.specs.declared.Change.{Change}
use Rattle.machine.specs.Orders.{is_empty}
use Rattle.machine.specs.Machine.{has_room, after}
use Rattle.machine.specs.Rules.{client_of}
use Rattle.machine.specs.Whole.{WholeBook}
use Rattle.machine.proofs.Kept.Indexed.{BookKept}
use Rattle.machine.proofs.Claim.Records.{added_at, added_long, none_kept, longer}
use Rattle.index.specs.Index.{origin_of, link_right, links_right}
use Rattle.index.specs.Laws.Named.{Bears, bears_found}
use Rattle.index.specs.Laws.Links.{Lower, Named, rule_lower, lower_link, link_lower}
use Rattle.step.specs.Entries.{place_order, mark_link, place_requests, tables_with, place_origin, place_open, place_index, book_with}
use Rattle.kept.proofs.Origin.{Added, nothing_added, first_one, own, same_order, same_clordid, same_origclordid}
use Rattle.kept.proofs.Written.{order_written, request_written, place_book, marked, marked_count, Writes}

-- ---- the writes that leave a link as it was

module _ (b : List ℕ) (j : ℕ) (k : j < most_requests) where
  abbrev Same : List ℕ → Type 0
  Same d = origin_at d j ≡ origin_at b j

  place_same : (place : ℕ) (o : Order) → (eqb place 0 ≡ false → WholeOrder o) → Same (place_order b place o)
  unfolding place_order
  place_same place o w =
      split_if Same (eqb place 0) (λ e. refl) (λ e. split_if Same _ (λ f. store_order_origin b j k (place - 1) o (w e).fits) (λ f. add_order_origin b j k o (w e).fits))

  link_same : (link v : ℕ) → Same (mark_link b link v)
  unfolding mark_link
  link_same link v = split_if Same (eqb link 0) (λ e. refl) (λ e. mark_origin b (link - 1) v j k)

  open_same : (left : Book) (place client : ℕ) → Same (place_open b left place client)
  unfolding place_open
  open_same left place client = split_if Same (eqb place 0) (λ e. refl) (λ e. split_maybe Same (find_client left client) (λ z. refl) (λ i z. store_open_origin b j k i _))

-- ---- a change

module _ (b : List ℕ) (c : Change) (long : length b ≡ book_size) (right : links_right b ≡ true) (good : BookKept (book_of b)) (good_after : BookKept (after (book_of b) c))
    (room : has_room (book_of b) c ≡ true) (whole : WholeBook (after (book_of b) c)) (added : Added (book_of b) c) (small : c.requests.outcome ≤ 3) (w : Writes b c) where
  abbrev x : Book
  x = book_of b

  abbrev y : Book
  y = after x c

  abbrev f : List ℕ
  f = book_with b c

  abbrev d : List ℕ
  d = place_order b c.place c.order

  -- the tables are written
  abbrev to : List ℕ
  to = tables_with b c

  abbrev origin : ℕ
  origin = origin_of x c.order.client c.requests.request.origclordid

  abbrev mk : List ℕ
  mk = marked d c.requests

  few_requests : (k : ℕ) → k < request_count b → k < most_requests
  few_requests k l = omega (arith, l, count_most header·requests most_requests b)

  in_book : (k : ℕ) → k < request_count b → k < length x.requests
  in_book k l = omega (arith, l, length_requests b)

  d_requests : (book_of d).requests ≡ x.requests
  unfolding has_room
  d_requests = ap (λ (z : Book). z.requests) (place_book b c long (and_parts _ _ room).0 (order_written x c whole))

  -- ---- the requests settled

  mk_count : request_count mk ≡ request_count b
  mk_count = marked_count d c.requests ∙ ap length d_requests ∙ length_requests b

  mk_origin : (k : ℕ) → k < most_requests → origin_at mk k ≡ origin_at b k
  mk_origin k l =
      link_same (mark_link d c.requests.answered c.requests.outcome) k l c.requests.superseded c.requests.outcome
      ∙ link_same d k l c.requests.answered c.requests.outcome
      ∙ place_same b k l c.place c.order (order_written x c whole)

  -- ---- one added

  none_tables : c.requests.added ≡ 0 → to ≡ mk
  unfolding tables_with place_requests
  none_tables z = if_true _ _ _ (eq-eqb c.requests.added 0 z)

  one_tables : (c.requests.added ≡ 0 → ⊥) → to ≡ add_request mk c.requests.request
  unfolding tables_with place_requests
  one_tables z = if_false _ _ _ (ne_eqb c.requests.added 0 z)

  tables_origin : (k : ℕ) → k < request_count b → origin_at to k ≡ origin_at mk k
  tables_origin k l = go (ℕ_discrete c.requests.added 0)
    where
      go : Dec (c.requests.added ≡ 0) → origin_at to k ≡ origin_at mk k
      go (yes z) = ap (λ (t : List ℕ). origin_at t k) (none_tables z)
      go (no z) =
          ap (λ (t : List ℕ). origin_at t k) (one_tables z)
          ∙ add_request_origin mk c.requests.request (request_written x c whole (ne_eqb c.requests.added 0 z)) k (omega (arith, l, mk_count))

  -- ---- and the origin

  abbrev linked : List ℕ
  linked = place_origin to c.requests.added (length x.requests) origin

  f_same : (k : ℕ) → k < most_requests → origin_at f k ≡ origin_at linked k
  unfolding book_with place_index
  f_same k l = open_same linked k l y c.place c.order.client

  linked_other : (k : ℕ) → k < request_count b → origin_at linked k ≡ origin_at to k
  unfolding place_origin
  linked_other k l =
      split_if (Same to k (few_requests k l)) (eqb c.requests.added 0) (λ e. refl)
      (λ e. origin_other to (length x.requests) origin k (few_requests k l) (λ z. omega (arith, in_book k l, z)))

  f_origin : (k : ℕ) → k < request_count b → origin_at f k ≡ origin_at b k
  f_origin k l = f_same k (few_requests k l) ∙ linked_other k l ∙ tables_origin k l ∙ mk_origin k (few_requests k l)

  f_count : request_count f ≡ length y.requests
  f_count = sym (length_requests f) ∙ ap (λ (z : Book). length z.requests) w.is

  -- a request that was not there is the one added
  record IsNew (k : ℕ) : Type 0 where
    adds : c.requests.added ≡ 0 → ⊥
    last : k ≡ request_count b
    fits : k < most_requests

  is_new : (k : ℕ) → request_count b ≤ k → k < request_count f → IsNew k
  is_new k h l =
      let n : (c.requests.added ≡ 0 → ⊥) = λ z. omega (arith, h, l, f_count, none_kept x c z, length_requests b) in
      let z : k ≡ request_count b = omega (arith, h, l, f_count, added_long x c n, length_requests b) in
      record { adds = n; last = z; fits = omega (arith, l, count_most header·requests most_requests f) }

  module _ (k : ℕ) (n : IsNew k) where
    at_end : k ≡ length x.requests
    at_end = n.last ∙ sym (length_requests b)

    linked_here : linked ≡ store_origin to k origin
    unfolding place_origin
    linked_here = if_false _ _ _ (ne_eqb c.requests.added 0 n.adds) ∙ ap (λ (m : ℕ). store_origin to m origin) (sym at_end)

    new_origin : origin < 65536 → origin_at f k ≡ origin
    new_origin s =
        f_same k n.fits ∙ ap (λ (t : List ℕ). origin_at t k) linked_here ∙ origin_here to k origin (w.tables.same ∙ long) n.fits s

    new_request : request_in y k ≡ c.requests.request
    new_request = ap (λ (m : ℕ). request_in y m) at_end ∙ added_at x c n.adds

  -- ---- the rule is kept

  -- on the book that is left
  abbrev RightLink : ℕ → Type 0
  RightLink k = is_empty (request_in y k).origclordid || origin_at f k == origin_of y (client_of y k) (request_in y k).origclordid ≡ true

  booked : (j : ℕ) → j < length x.requests → (request_in x j).order < length x.orders
  booked j m = (good.request j m).order

  -- the link of the request that is named on the book that is left
  named_link : (k j : ℕ) → k < length y.requests → is_empty (request_in y k).origclordid ≡ false → Lower y k j → origin_of y (client_of y k) (request_in y k).origclordid ≡ j + 1
  named_link k j l z low = lower_link y k z (λ i m. (good_after.request i m).order) good_after.keys l j low

  old_right : (k : ℕ) → k < request_count b → RightLink k
  unfolding links_right
  old_right k l = go (is_empty (request_in x k).origclordid) refl
    where
      here : k < length x.requests
      here = in_book k l

      go : (v : Bool) → is_empty (request_in x k).origclordid ≡ v → RightLink k
      go true z = or_left _ _ (ap is_empty (same_origclordid x c k here) ∙ z)
      go false z =
          let (above, low) = link_lower b booked good.keys k here z (good.request k here).origin (all_elim (link_right b) (request_count b) right k l) in
          let j : ℕ = origin_at b k - 1 in
          let below : j < k = low.below in
          let there : j < length x.requests = omega (arith, here) in
          let link : origin_of y (client_of y k) (request_in y k).origclordid ≡ j + 1 =
          named_link k j (omega (arith, here, longer x c)) (ap is_empty (same_origclordid x c k here) ∙ z)
          (record {
            below = below;
            order = same_order x c j there ∙ low.order ∙ sym (same_order x c k here);
            text = ap₂ same_text (same_clordid x c j there) (same_origclordid x c k here) ∙ low.text;
          }) in
          or_right (is_empty (request_in y k).origclordid) _ (eq-eqb _ _ (f_origin k l ∙ omega (arith, above, link)))

  origin_is : (j : ℕ) → find_clordid x c.order.client c.requests.request.origclordid ≡ Some j → origin ≡ j + 1
  unfolding origin_of
  origin_is j e = maybe_some (find_clordid x c.order.client c.requests.request.origclordid) j 0 (λ k. k + 1) e

  new_right : (k : ℕ) → IsNew k → k < length y.requests → RightLink k
  new_right k n h = go (is_empty (request_in y k).origclordid) refl added
    where
      q : Request
      q = c.requests.request

      go : (v : Bool) → is_empty (request_in y k).origclordid ≡ v → Added x c → RightLink k
      go v z (nothing_added e) = absurd (n.adds e)
      go v z (first_one t) = or_left _ _ (ap (λ (r : Request). is_empty r.origclordid) (new_request k n) ∙ t)
      go true z (own i o m) = or_left _ _ z
      go false z (own i o m) =
          let found : Named y k = rule_lower y k z (good_after.request k h).origin in
          let j : ℕ = found.at in
          let below : j < k = found.lower.below in
          let there : j < length x.requests = omega (arith, n.last, length_requests b) in
          let same : request_in y k ≡ q = new_request k n in
          let text : same_text (request_in x j).clordid q.origclordid ≡ true =
          sym (ap₂ (λ (t : Text) (r : Request). same_text t r.origclordid) (same_clordid x c j there) same) ∙ found.lower.text in
          let order : (request_in x j).order ≡ i = sym (same_order x c j there) ∙ found.lower.order ∙ ap (λ (r : Request). r.order) same ∙ o in
          let some : is_empty q.origclordid ≡ false = ap (λ (r : Request). is_empty r.origclordid) (sym same) ∙ z in
          let bears : Bears x c.order.client q.origclordid j = record {
            used = there;
            named = ap not (ap (λ (l : ℕ). eqb l 0) (same_length (request_in x j).clordid q.origclordid text) ∙ some);
            same = text;
            booked = booked j there;
            whose = ap (λ (a : ℕ). (order_in x a).client) order ∙ sym m;
          } in
          let is : origin ≡ j + 1 = origin_is j (bears_found x c.order.client q.origclordid good.keys j bears) in
          let fits = n.fits in
          or_right (is_empty (request_in y k).origclordid) _ (eq-eqb _ _ (new_origin k n (omega arith) ∙ is ∙ sym (named_link k j h z found.lower)))

  pub links_after : links_right f ≡ true
  unfolding links_right link_right
  links_after = all_intro (link_right f) (request_count f) (λ k h. each k h (dec_lt k (request_count b)))
    where
      by : (k : ℕ) → k < request_count f → Dec (k < request_count b) → RightLink k
      by k h (yes l) = old_right k l
      by k h (no l) = new_right k (is_new k (omega arith) h) (omega (arith, h, f_count))

      each : (k : ℕ) → k < request_count f → Dec (k < request_count b) → link_right f k ≡ true
      each k h t =
          subst (λ (z : Book). is_empty (request_in z k).origclordid || origin_at f k == origin_of z (client_of z k) (request_in z k).origclordid ≡ true) (sym w.is) (by k h t)
