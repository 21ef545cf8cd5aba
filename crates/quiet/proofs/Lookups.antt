-- What is found in the part is what is found in the book, under the part's numbers. Rests on Links.
use Rattle.std.proofs.Common.{inl, inr, ℕ, zero, suc, ◌+◌, ◌-◌, ◌≤◌, ◌<◌, arith, ◌≡◌, refl, sym, ap, ◌∙◌, Bool, true, false, ◌&&◌, Option, None, Some, eqb, ltb, length, eq-eqb, ne_eqb, lt-ltb}
use Rattle.prelude.specs.Below.{count_below, first_below}
use Rattle.prelude.specs.Laws.Below.{count_le, first_ext, first_some}
use Rattle.prelude.specs.Cases.{if◌then◌otherwise◌, maybe}
use Rattle.prelude.specs.Laws.Cases.{if_true, if_false, clash}
use Rattle.prelude.specs.Texts.{same_text}
use Rattle.prelude.specs.declared.Text.{Text}
use Rattle.store.specs.declared.Order.{Order}
use Rattle.store.specs.declared.Request.{Request}
use Rattle.store.specs.Book.{Book, order_in, request_in}
use Rattle.store.specs.Requests.{no_request}
use Rattle.store.specs.Finds.{find_name, find_downstream, find_clordid, count_clordids, has_clordid, of_client, used_by, bears_clordid}
use Rattle.machine.specs.Machine.{order_of, order_link, latest_cancel, order_at_link, findings_of}
use Rattle.machine.specs.declared.Findings.{Findings}
use Rattle.machine.proofs.Kept.Local.{one_more_lem}
use Rattle.machine.proofs.Kept.Tables.{at_link}
use Rattle.machine.proofs.Kept.Indexed.{BookKept, book_kept}
use Rattle.parts.specs.Parts.{of_passing, moved_request, part}
use Rattle.parts.specs.Laws.Ranks.{first_ranks, count_ranks, rank_below}
use Rattle.parts.specs.Laws.Joined.{joined_orders, joined_requests, joined_order, joined_request, moved_none, moved_some}
use Rattle.store.specs.Book.{empty_book}
use Rattle.quiet.specs.Renamed.{renamed_order, renamed_request, renamed_findings}
use Rattle.parts.specs.Alike.{OwnLink}
use Rattle.quiet.specs.Part.{Owns, Parted, part_link, part_place, part_index}
use Rattle.quiet.proofs.Cancels.{Placed}
use Rattle.quiet.proofs.Links.{part_renames, index_place, next_link_part, part_link_at, order_agrees, owns_by}

-- fewer pass two tests than one
count_fewer : (p u : ℕ → Bool) (n : ℕ) → count_below (λ j. p j && u j) n ≤ count_below u n
unfolding count_below
count_fewer p u zero = omega arith
count_fewer p u (suc n) = let l = count_fewer p u n in go (p n) (u n) l
  where
    go : (x y : Bool) → count_below (λ j. p j && u j) n ≤ count_below u n
        → count_below (λ j. p j && u j) n + (if x && y then 1 otherwise 0) ≤ count_below u n + (if y then 1 otherwise 0)
    go true y l = omega arith
    go false true l = unfold if◌then◌otherwise◌ in omega arith
    go false false l = unfold if◌then◌otherwise◌ in omega arith

-- a test that another implies
implied : (x y : Bool) → (y ≡ true → x ≡ true) → x && y ≡ y
implied true y f = refl
implied false true f = clash false (f refl) refl
implied false false f = refl

module _ (p : ℕ → Bool) (b : Book) (w : Parted p b) where
  abbrev pub c : Book
  c = part p b

  pub good : BookKept b
  good = book_kept b w.kept

  pub count_orders : length c.orders ≡ count_below p (length b.orders)
  count_orders = joined_orders p (empty_book b.setting) b ∙ (let z : 0 + count_below p (length b.orders) ≡ count_below p (length b.orders) = omega arith in z)

  pub count_requests : length c.requests ≡ count_below (of_passing p b) (length b.requests)
  count_requests =
      joined_requests p (empty_book b.setting) b
      ∙ (let z : 0 + count_below (of_passing p b) (length b.requests) ≡ count_below (of_passing p b) (length b.requests) = omega arith in z)

  pub owns_at : (i : ℕ) → i < length b.orders → p i ≡ true → Owns b i (order_in b i)
  owns_at i l h = owns_by b good i l (w.own i l h)

  pub order_at : (i : ℕ) → i < length b.orders → p i ≡ true → order_in c (count_below p i) ≡ renamed_order (part_link p b) (order_in b i)
  order_at i l h =
      let z : count_below p i ≡ 0 + count_below p i = omega arith in
      ap (order_in c) z ∙ joined_order p (empty_book b.setting) b i l h
      ∙ order_agrees p b b (λ k m. refl) (omega arith) i h (owns_at i l h)

  pub request_at : (j : ℕ) → j < length b.requests → of_passing p b j ≡ true
      → request_in c (count_below (of_passing p b) j) ≡ renamed_request (part_index p) (request_in b j)
  unfolding moved_request
  request_at j l h =
      let z : count_below (of_passing p b) j ≡ 0 + count_below (of_passing p b) j = omega arith in
      ap (request_in c) z ∙ joined_request p (empty_book b.setting) b j l h

  -- ---- orders by name, requests by downstream ClOrdID

  pub name_found : (t : Text) → ((i : ℕ) → i < length b.orders → same_text (order_in b i).names.name t ≡ true → p i ≡ true)
      → find_name c t ≡ maybe None (λ i. Some (count_below p i)) (find_name b t)
  unfolding find_name
  name_found t h =
      ap (first_below (λ k. same_text (order_in c k).names.name t)) count_orders
      ∙ first_ranks p (λ k. same_text (order_in c k).names.name t) (λ i. same_text (order_in b i).names.name t) (length b.orders)
      (λ i l q. ap (λ (o : Order). same_text o.names.name t) (order_at i l q))
      ∙ ap (maybe None (λ i. Some (count_below p i))) (first_ext (λ i. p i && same_text (order_in b i).names.name t) (λ i. same_text (order_in b i).names.name t) (length b.orders)
      (λ i l. implied (p i) _ (h i l)))

  pub downstream_found : (t : Text) → ((j : ℕ) → j < length b.requests → same_text (request_in b j).downstream t ≡ true → of_passing p b j ≡ true)
      → find_downstream c t ≡ maybe None (λ j. Some (count_below (of_passing p b) j)) (find_downstream b t)
  unfolding find_downstream
  downstream_found t h =
      ap (first_below (λ k. same_text (request_in c k).downstream t)) count_requests
      ∙ first_ranks (of_passing p b) (λ k. same_text (request_in c k).downstream t) (λ j. same_text (request_in b j).downstream t) (length b.requests)
      (λ j l q. ap (λ (x : Request). same_text x.downstream t) (request_at j l q))
      ∙ ap (maybe None (λ j. Some (count_below (of_passing p b) j)))
      (first_ext (λ j. of_passing p b j && same_text (request_in b j).downstream t) (λ j. same_text (request_in b j).downstream t) (length b.requests)
      (λ j l. implied (of_passing p b j) _ (h j l)))

  -- ---- by client

  client_same : (client j : ℕ) → j < length b.requests → of_passing p b j ≡ true
      → of_client c.orders client (renamed_request (part_index p) (request_in b j)) ≡ of_client b.orders client (request_in b j)
  unfolding of_client
  client_same client j l h =
      let i : ℕ = (request_in b j).order in
      let inside : i < length b.orders = (good.request j l).order in
      let rank : count_below p i < count_below p (length b.orders) = rank_below p i (length b.orders) inside h in
      let e : 0 + count_below p i ≡ count_below p i = omega arith in
      let n : length c.orders ≡ count_below p (length b.orders) = count_orders in
      ap (λ (x : Bool). x && eqb (order_in c (0 + count_below p i)).client client) (lt-ltb (0 + count_below p i) (length c.orders) (omega arith) ∙ sym (lt-ltb i (length b.orders) inside))
      ∙ ap (λ (x : ℕ). ltb i (length b.orders) && eqb (order_in c x).client client) e
      ∙ ap (λ (o : Order). ltb i (length b.orders) && eqb o.client client) (order_at i inside h)

  pub clordid_found : (client : ℕ) (t : Text) → ((j : ℕ) → j < length b.requests → bears_clordid b.orders client t (request_in b j) ≡ true → of_passing p b j ≡ true)
      → find_clordid c client t ≡ maybe None (λ j. Some (count_below (of_passing p b) j)) (find_clordid b client t)
  unfolding find_clordid
  clordid_found client t h =
      ap (first_below (λ k. bears_clordid c.orders client t (request_in c k))) count_requests
      ∙ first_ranks (of_passing p b) (λ k. bears_clordid c.orders client t (request_in c k)) (λ j. bears_clordid b.orders client t (request_in b j)) (length b.requests)
      (λ j l q. ap (bears_clordid c.orders client t) (request_at j l q)
      ∙ ap (λ (x : Bool). has_clordid (request_in b j) && (same_text (request_in b j).clordid t && x)) (client_same client j l q))
      ∙ ap (maybe None (λ j. Some (count_below (of_passing p b) j)))
      (first_ext (λ j. of_passing p b j && bears_clordid b.orders client t (request_in b j)) (λ j. bears_clordid b.orders client t (request_in b j)) (length b.requests)
      (λ j l. implied (of_passing p b j) _ (h j l)))

  -- the order of a ClOrdID, by its link
  pub order_found : (client : ℕ) (t : Text) → ((j : ℕ) → j < length b.requests → bears_clordid b.orders client t (request_in b j) ≡ true → of_passing p b j ≡ true)
      → order_of c client t ≡ part_place p (order_of b client t)
  unfolding order_of
  order_found client t h = ap (maybe 0 (order_link c)) (clordid_found client t h) ∙ go (find_clordid b client t) refl
    where
      go : (o : Option ℕ) → find_clordid b client t ≡ o
          → maybe 0 (order_link c) (maybe None (λ j. Some (count_below (of_passing p b) j)) o) ≡ part_place p (maybe 0 (order_link b) o)
      go None e = unfold maybe in sym (moved_none p 0)
      go (Some j) e = unfold maybe find_clordid in
          let f = first_some (λ k. bears_clordid b.orders client t (request_in b k)) (length b.requests) j e in
          ap (λ (q : Request). q.order + 1) (request_at j f.below (h j f.below f.passes)) ∙ sym (moved_some p 0 (request_in b j).order)

  -- a client has used fewer ClOrdIDs in the part
  pub count_fewer_part : (client : ℕ) → count_clordids c client ≤ count_clordids b client
  unfolding count_clordids
  count_fewer_part client =
      let z : count_below (λ k. used_by c.orders client (request_in c k)) (length c.requests)
      ≡ count_below (λ j. of_passing p b j && used_by b.orders client (request_in b j)) (length b.requests) =
      ap (count_below (λ k. used_by c.orders client (request_in c k))) count_requests
      ∙ count_ranks (of_passing p b) (length b.requests) (λ k. used_by c.orders client (request_in c k)) (λ j. used_by b.orders client (request_in b j))
      (λ j l q. ap (used_by c.orders client) (request_at j l q) ∙ ap (λ (x : Bool). has_clordid (request_in b j) && x) (client_same client j l q)) in
      omega (arith, count_fewer (of_passing p b) (λ j. used_by b.orders client (request_in b j)) (length b.requests))

  -- ---- what the handling looks up

  pub cancel_found : (i : ℕ) → p i ≡ true → (o : Order) → OwnLink b i o.links.cancel
      → latest_cancel c (renamed_order (part_link p b) o) ≡ renamed_request (part_index p) (latest_cancel b o)
  unfolding latest_cancel
  cancel_found i h o (inl z) =
      let r = part_renames p b in
      if_true _ _ _ (eq-eqb (part_link p b o.links.cancel) 0 (ap (part_link p b) z ∙ r.none))
      ∙ (rw r.first)
      ∙ sym (ap (renamed_request (part_index p)) (if_true (eqb o.links.cancel 0) no_request _ (eq-eqb o.links.cancel 0 z)))
  cancel_found i h o (inr (a, l, own)) =
      let k : ℕ = o.links.cancel - 1 in
      let e : k + 1 ≡ o.links.cancel = omega arith in
      let g : part_link p b o.links.cancel ≡ count_below (of_passing p b) k + 1 = ap (part_link p b) (sym e) ∙ part_link_at p b k (omega arith) (ap p own ∙ h) in
      let g' : part_link p b o.links.cancel - 1 ≡ count_below (of_passing p b) k = omega arith in
      if_false _ _ _ (ne_eqb (part_link p b o.links.cancel) 0 (λ z. omega arith))
      ∙ ap (request_in c) g' ∙ request_at k (omega arith) (ap p own ∙ h)
      ∙ sym (ap (renamed_request (part_index p)) (if_false (eqb o.links.cancel 0) no_request _ (ne_eqb o.links.cancel 0 (λ z. omega arith))))

  pub place_at : (i : ℕ) → part_place p (i + 1) ≡ count_below p i + 1
  place_at i = moved_some p 0 i ∙ (let z : 0 + count_below p i + 1 ≡ count_below p i + 1 = omega arith in z)

  pub findings_at : (i : ℕ) → i < length b.orders → p i ≡ true
      → findings_of c (count_below p i + 1) ≡ renamed_findings (part_place p) (part_index p) (length c.requests) (findings_of b (i + 1))
  unfolding findings_of
  findings_at i l h =
      ap (λ (o : Order). found (count_below p i + 1) (latest_cancel c o)) (at_link c (count_below p i) ∙ order_at i l h)
      ∙ ap (found (count_below p i + 1)) (cancel_found i h (order_in b i) (owns_at i l h).cancel)
      ∙ ap (λ (n : ℕ). found n (renamed_request (part_index p) (latest_cancel b (order_in b i)))) (sym (place_at i))
      ∙ sym (ap (λ (o : Order). found (part_place p (i + 1)) (renamed_request (part_index p) (latest_cancel b o))) (at_link b i))
    where
      found : ℕ → Request → Findings
      found n q = record { place = n; requests = length c.requests; cancel = q }

  -- of no order
  pub findings_none : findings_of c 0 ≡ renamed_findings (part_place p) (part_index p) (length c.requests) (findings_of b 0)
  unfolding findings_of latest_cancel order_at_link if◌then◌otherwise◌
  findings_none = let r = part_renames p b in rw (r.first, r.no_place)

  pub placed_part : (l : ℕ) → Placed (part_link p b) (part_place p) (part_index p) (length c.requests) (findings_of b l)
  unfolding findings_of
  placed_part l = record {
    next =
        let few = good.requests in
        let z = count_requests in
        ap (part_link p b) (one_more_lem 65535 (length b.requests) (omega arith)) ∙ next_link_part p b ∙ ap (λ (n : ℕ). n + 1) (sym z)
        ∙ sym (one_more_lem 65535 (length c.requests) (omega (arith, count_le (of_passing p b) (length b.requests))));
    order = index_place p b l;
  }
