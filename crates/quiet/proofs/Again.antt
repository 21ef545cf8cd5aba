-- A part of a part is the part at once: the orders that pass twice. Rests on Lookups.
use Rattle.std.proofs.Common.{ℕ, ◌+◌, ◌-◌, ◌≤◌, ◌<◌, arith, ◌≡◌, refl, sym, ap, subst, ◌∙◌, ◌⊎◌, inl, inr, Bool, true, false, ◌&&◌, length}
use Rattle.std.proofs.lemmas.List.{ext_get_or}
use Rattle.prelude.specs.Below.{count_below}
use Rattle.prelude.specs.Laws.Below.{count_ext}
use Rattle.prelude.specs.Laws.Cases.{clash}
use Rattle.store.specs.declared.Order.{Order}
use Rattle.store.specs.declared.Request.{Request}
use Rattle.store.specs.Orders.{no_order}
use Rattle.store.specs.Requests.{no_request}
use Rattle.store.specs.Book.{Book, order_in, request_in, empty_book}
use Rattle.parts.specs.Parts.{of_passing, joined, part}
use Rattle.parts.specs.Laws.Ranks.{count_ranks, rank_below}
use Rattle.parts.specs.Laws.Joined.{FromOrder, FromRequest, order_from, request_from}
use Rattle.parts.specs.Laws.Whole.{part_rules}
use Rattle.quiet.specs.Renamed.{renamed_order, renamed_request}
use Rattle.parts.specs.Alike.{OwnLink}
use Rattle.quiet.specs.Part.{Owns, Parted, part_link, part_index}
use Rattle.quiet.proofs.Links.{part_renames, part_link_at}
use Rattle.quiet.proofs.Lookups.{good, count_orders, count_requests, owns_at, order_at, request_at}

-- a number's rank among those that pass twice, by its rank among those that pass once
twice : (p q q' : ℕ → Bool) (n : ℕ) → ((j : ℕ) → j < n → p j ≡ true → q' (count_below p j) ≡ q j) → ((j : ℕ) → j < n → q j ≡ true → p j ≡ true)
    → count_below q' (count_below p n) ≡ count_below q n
twice p q q' n same imp = count_ranks p n q' q same ∙ count_ext (λ j. p j && q j) q n (λ j l. both (p j) (q j) (imp j l))
  where
    both : (x y : Bool) → (y ≡ true → x ≡ true) → x && y ≡ y
    both true y f = refl
    both false true f = clash false (f refl) refl
    both false false f = refl

module _ (p : ℕ → Bool) (b : Book) (w : Parted p b) where
  abbrev c : Book
  c = part p b

  -- an order's own link names its own request in the part
  own_moved : (i : ℕ) → p i ≡ true → (l : ℕ) → OwnLink b i l → OwnLink c (count_below p i) (part_link p b l)
  own_moved i h l (inl z) = let r = part_renames p b in inl (ap (part_link p b) z ∙ r.none)
  own_moved i h l (inr (a, m, o)) =
      let k : ℕ = l - 1 in
      let e : k + 1 ≡ l = omega arith in
      let pass : of_passing p b k ≡ true = ap p o ∙ h in
      let at : part_link p b l ≡ count_below (of_passing p b) k + 1 = ap (part_link p b) (sym e) ∙ part_link_at p b k (omega arith) pass in
      let low : part_link p b l - 1 ≡ count_below (of_passing p b) k = omega arith in
      let rank : count_below (of_passing p b) k < count_below (of_passing p b) (length b.requests) = rank_below (of_passing p b) k (length b.requests) (omega arith) pass in
      inr (
        omega arith,
        omega (arith, count_requests p b w),
        ap (λ (j : ℕ). (request_in c j).order) low ∙ ap (λ (q : Request). q.order) (request_at p b w k (omega arith) pass) ∙ ap (part_index p) o
            ∙ (let z : 0 + count_below p i ≡ count_below p i = omega arith in z),
      )

  -- so the part may be parted again
  pub parted_part : (q : ℕ → Bool) → ((i : ℕ) → length c.orders ≤ i → q i ≡ true) → Parted q c
  parted_part q more = record { kept = part_rules p b w.kept; more = more; own = λ k l h. go k (order_from p (empty_book b.setting) b k l) }
    where
      go : (k : ℕ) → (k < length (empty_book b.setting).orders) ⊎ FromOrder p (empty_book b.setting) b k → OwnLink c k (order_in c k).gateway.origdownstream
      go k (inl l) = absurd (omega arith)
      go k (inr s) =
          let place : k ≡ 0 + count_below p s.at = s.place in
          let at : count_below p s.at ≡ k = omega arith in
          subst (λ (j : ℕ). OwnLink c j (order_in c j).gateway.origdownstream) at
          (subst (λ (o : Order). OwnLink c (count_below p s.at) o.gateway.origdownstream) (sym (order_at p b w s.at s.below s.passes))
          (own_moved s.at s.passes (order_in b s.at).gateway.origdownstream (owns_at p b w s.at s.below s.passes).named))

  -- q' says of an order of the part what q says of it in the book, and q wants none that is not there
  module _ (q q' : ℕ → Bool) (w' : Parted q b) (more : (i : ℕ) → length c.orders ≤ i → q' i ≡ true)
      (same : (i : ℕ) → i < length b.orders → p i ≡ true → q' (count_below p i) ≡ q i) (imp : (i : ℕ) → i < length b.orders → q i ≡ true → p i ≡ true) where
    again : Parted q' c
    again = parted_part q' more

    rank_order : (i : ℕ) → i ≤ length b.orders → count_below q' (count_below p i) ≡ count_below q i
    rank_order i l = twice p q q' i (λ j h. same j (omega arith)) (λ j h. imp j (omega arith))

    request_order : (j : ℕ) → j < length b.requests → (request_in b j).order < length b.orders
    request_order j l = ((good p b w).request j l).order

    same_request : (j : ℕ) → j < length b.requests → of_passing p b j ≡ true → of_passing q' c (count_below (of_passing p b) j) ≡ of_passing q b j
    same_request j l h =
        ap (λ (x : Request). q' x.order) (request_at p b w j l h)
        ∙ (let z : 0 + count_below p (request_in b j).order ≡ count_below p (request_in b j).order = omega arith in ap q' z) ∙ same (request_in b j).order (request_order j l) h

    imp_request : (j : ℕ) → j < length b.requests → of_passing q b j ≡ true → of_passing p b j ≡ true
    imp_request j l h = imp (request_in b j).order (request_order j l) h

    rank_request : (j : ℕ) → j ≤ length b.requests → count_below (of_passing q' c) (count_below (of_passing p b) j) ≡ count_below (of_passing q b) j
    rank_request j l = twice (of_passing p b) (of_passing q b) (of_passing q' c) j (λ k h. same_request k (omega arith)) (λ k h. imp_request k (omega arith))

    -- ---- links

    link_twice : (i : ℕ) → q i ≡ true → i < length b.orders → (l : ℕ) → OwnLink b i l → part_link q' c (part_link p b l) ≡ part_link q b l
    link_twice i h n l (inl z) =
        let r = part_renames p b in
        let r' = part_renames q' c in
        let s = part_renames q b in
        ap (part_link q' c) (ap (part_link p b) z ∙ r.none) ∙ r'.none ∙ sym (ap (part_link q b) z ∙ s.none)
    link_twice i h n l (inr (a, m, o)) =
        let k : ℕ = l - 1 in
        let e : k + 1 ≡ l = omega arith in
        let wanted : of_passing q b k ≡ true = ap q o ∙ h in
        let pass : of_passing p b k ≡ true = imp_request k (omega arith) wanted in
        let rank : count_below (of_passing p b) k < count_below (of_passing p b) (length b.requests) = rank_below (of_passing p b) k (length b.requests) (omega arith) pass in
        ap (λ (j : ℕ). part_link q' c (part_link p b j)) (sym e) ∙ ap (part_link q' c) (part_link_at p b k (omega arith) pass)
        ∙ part_link_at q' c (count_below (of_passing p b) k) (omega (arith, count_requests p b w)) (same_request k (omega arith) pass ∙ wanted)
        ∙ ap (λ (j : ℕ). j + 1) (rank_request k (omega arith)) ∙ sym (part_link_at q b k (omega arith) wanted) ∙ ap (part_link q b) e

    order_twice : (i : ℕ) → i < length b.orders → q i ≡ true → renamed_order (part_link q' c) (renamed_order (part_link p b) (order_in b i)) ≡ renamed_order (part_link q b) (order_in b i)
    order_twice i n h =
        let o = order_in b i in
        let v : Owns b i o = owns_at p b w i n (imp i n h) in
        let l₁ = link_twice i h n o.links.current v.current in
        let l₂ = link_twice i h n o.links.cancel v.cancel in
        let l₃ = link_twice i h n o.pending.request v.pending in
        let l₄ = link_twice i h n o.gateway.origdownstream v.named in
        λ k. record {
          client = o.client;
          venue = o.venue;
          names = o.names;
          terms = o.terms;
          state = o.state;
          links = record { amendments = o.links.amendments; current = l₁ k; cancel = l₂ k };
          pending = record { request = l₃ k; qty = o.pending.qty; price = o.pending.price; ordtype = o.pending.ordtype; timeinforce = o.pending.timeinforce };
          gateway = record {
            tries = o.gateway.tries;
            unsent = o.gateway.unsent;
            stuck = o.gateway.stuck;
            origdownstream = l₄ k;
            refusedsends = o.gateway.refusedsends;
          };
        }

    -- ---- the tables

    orders_twice : (part q' c).orders ≡ (part q b).orders
    orders_twice =
        sym (ext_get_or no_order (part q b).orders (part q' c).orders
        (count_orders q b w' ∙ sym (rank_order (length b.orders) (omega arith)) ∙ ap (count_below q') (sym (count_orders p b w)) ∙ sym (count_orders q' c again))
        (λ k l. go k (order_from q (empty_book b.setting) b k l)))
      where
        go : (k : ℕ) → (k < length (empty_book b.setting).orders) ⊎ FromOrder q (empty_book b.setting) b k → order_in (part q b) k ≡ order_in (part q' c) k
        go k (inl l) = absurd (omega arith)
        go k (inr s) =
            let i : ℕ = s.at in
            let n : i < length b.orders = s.below in
            let h : q i ≡ true = s.passes in
            let pass : p i ≡ true = imp i n h in
            let place : k ≡ 0 + count_below q i = s.place in
            let at : count_below q i ≡ k = omega arith in
            let rank : count_below p i < count_below p (length b.orders) = rank_below p i (length b.orders) n pass in
            ap (order_in (part q b)) (sym at) ∙ order_at q b w' i n h ∙ sym (order_twice i n h)
            ∙ ap (renamed_order (part_link q' c)) (sym (order_at p b w i n pass))
            ∙ sym (order_at q' c again (count_below p i) (omega (arith, count_orders p b w)) (same i n pass ∙ h))
            ∙ ap (order_in (part q' c)) (rank_order i (omega arith) ∙ at)

    request_twice : (j : ℕ) → j < length b.requests → of_passing q b j ≡ true
        → renamed_request (part_index q') (renamed_request (part_index p) (request_in b j)) ≡ renamed_request (part_index q) (request_in b j)
    request_twice j l h =
        let x = request_in b j in
        let z : 0 + count_below p x.order ≡ count_below p x.order = omega arith in
        let y : 0 + count_below q' (0 + count_below p x.order) ≡ 0 + count_below q x.order =
        ap (λ (k : ℕ). 0 + count_below q' k) z ∙ ap (λ (k : ℕ). 0 + k) (rank_order x.order (let n = request_order j l in omega arith)) in
        λ k. record { order = y k; kind = x.kind; answered = x.answered; clordid = x.clordid; origclordid = x.origclordid; downstream = x.downstream; outcome = x.outcome }

    requests_twice : (part q' c).requests ≡ (part q b).requests
    requests_twice =
        sym (ext_get_or no_request (part q b).requests (part q' c).requests
        (count_requests q b w' ∙ sym (rank_request (length b.requests) (omega arith)) ∙ ap (count_below (of_passing q' c)) (sym (count_requests p b w)) ∙ sym (count_requests q' c again))
        (λ k l. go k (request_from q (empty_book b.setting) b k l)))
      where
        go : (k : ℕ) → (k < length (empty_book b.setting).requests) ⊎ FromRequest q (empty_book b.setting) b k → request_in (part q b) k ≡ request_in (part q' c) k
        go k (inl l) = absurd (omega arith)
        go k (inr s) =
            let j : ℕ = s.at in
            let n : j < length b.requests = s.below in
            let h : of_passing q b j ≡ true = s.passes in
            let pass : of_passing p b j ≡ true = imp_request j n h in
            let place : k ≡ 0 + count_below (of_passing q b) j = s.place in
            let at : count_below (of_passing q b) j ≡ k = omega arith in
            let rank : count_below (of_passing p b) j < count_below (of_passing p b) (length b.requests) = rank_below (of_passing p b) j (length b.requests) n pass in
            ap (request_in (part q b)) (sym at) ∙ request_at q b w' j n h ∙ sym (request_twice j n h)
            ∙ ap (renamed_request (part_index q')) (sym (request_at p b w j n pass))
            ∙ sym (request_at q' c again (count_below (of_passing p b) j) (omega (arith, count_requests p b w)) (same_request j n pass ∙ h))
            ∙ ap (request_in (part q' c)) (rank_request j (omega arith) ∙ at)

    pub part_twice : part q' c ≡ part q b
    part_twice = λ k. record { setting = settings k; orders = orders_twice k; requests = requests_twice k }
      where
        settings : (part q' c).setting ≡ (part q b).setting
        settings = unfold joined in refl
