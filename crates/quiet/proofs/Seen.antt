-- What an event does to the part is what it does to the book, under the part's numbers, if it names nothing that does not pass and the client is not told of too
-- many requests. Rests on Lookups and the handlers.
use Rattle.std.proofs.Common.{subst, ℕ, ◌+◌, ◌≤◌, ◌<◌, arith, ◌≡◌, refl, sym, ap, ◌∙◌, ◌⊎◌, inl, inr, ⊎_elim, Bool, true, false, not, ◌&&◌, Option, None, Some, eqb, leb, length, eqb-true, eq-eqb, ne_eqb, leb-true, le-leb}
use Rattle.std.proofs.Math.Decide.{ℕ_discrete, dec_lt}
use Rattle.std.proofs.lemmas.Bool.{cases_Bool, eqb-false}
use Rattle.prelude.specs.Below.{count_below}
use Rattle.prelude.specs.Laws.Below.{first_some}
use Rattle.prelude.specs.Cases.{if◌then◌otherwise◌, maybe}
use Rattle.prelude.specs.Laws.Cases.{if_true, if_false, clash}
use Rattle.prelude.specs.Refusal.{number_of}
use Rattle.prelude.specs.Texts.{same_text}
use Rattle.prelude.specs.declared.Refusal.TheVariants.{InUse, WrongPrice}
use Rattle.prelude.specs.declared.Text.{Text}
use Rattle.store.specs.declared.Order.{Order}
use Rattle.store.specs.declared.Request.{Request}
use Rattle.store.specs.Book.{Book, order_in, request_in}
use Rattle.store.specs.Orders.{no_order}
use Rattle.store.specs.Finds.{find_name, find_downstream, find_clordid, count_clordids, bears_clordid}
use Rattle.machine.specs.Constants as came
use Rattle.machine.specs.Constants.{text_too_many}
use Rattle.machine.specs.Orders.{is_done}
use Rattle.machine.specs.Messages.{cancel_reject}
use Rattle.machine.specs.Changes.{Event, unchanged, adding, telling, alarming}
use Rattle.machine.specs.GatewayCancel.{cancel_order}
use Rattle.machine.specs.Amend.{amendable, amend_refusal, already_taken, redelivered_report, refuse, cancel, replace}
use Rattle.machine.specs.Machine.{order_link, order_of, order_at_link, findings_of, booked_order, first_request, unused, book_order, Amending, amending, on_request, nothing, unknown_report, text_note, on_name, change_of}
use Rattle.machine.specs.declared.Findings.{Findings}
use Rattle.machine.specs.declared.Reject.{Reject}
use Rattle.machine.specs.declared.Change.{Change}
use Rattle.machine.proofs.Kept.Tables.{at_link}
use Rattle.parts.specs.Parts.{of_passing, joined, part}
use Rattle.parts.specs.Laws.Ranks.{rank_injective}
use Rattle.parts.specs.Laws.Joined.{moved_zero}
use Rattle.quiet.specs.Renamed.{renamed_order, renamed_request, renamed_findings, renamed_change}
use Rattle.quiet.specs.Part.{Parted, NamesPassing, NotMany, part_link, part_place, part_index}
use Rattle.quiet.proofs.Parts.{Renames, same_if, refusing_ren, unchanged_ren, alarming_ren}
use Rattle.quiet.proofs.Cancels.{Placed, cancel_order_ren}
use Rattle.quiet.proofs.Refusals.{venue_reject_ren, send_failed_ren, unsent_ren}
use Rattle.quiet.proofs.Amends.{Used, cancel_ren, replace_ren}
use Rattle.quiet.proofs.Reports.{unknown_ren, on_report_ren}
use Rattle.quiet.proofs.Links.{part_renames, next_link_part, part_link_at}
use Rattle.quiet.proofs.Lookups.{good, count_orders, count_requests, order_at, request_at, name_found, downstream_found, order_found, count_fewer_part, place_at, findings_at, findings_none, placed_part}

-- ---- whether the client has used as many ClOrdIDs as it may, if it is not told so

many_told : (f : Findings) (responseto : ℕ) (o : Order) (e : Event) (r : Reject) → r.fixedtext ≡ text_too_many → NotMany (refuse f responseto o e r) → ⊥
unfolding NotMany refuse telling unchanged cancel_reject if◌then◌otherwise◌
many_told f responseto o e r k n = n (omega arith) refl k

-- the tests before that of the count: the reject is the same with and without it, or says it
full_or : (f : Findings) (used : ℕ) (o : Order) (e : Event) (own : Reject)
    → (amend_refusal f used true o e own ≡ amend_refusal f used false o e own) ⊎ ((amend_refusal f used true o e own).fixedtext ≡ text_too_many)
unfolding amend_refusal
full_or f used o e own = go (not (eqb used 0)) (eqb f.place 0) (is_done o.state.status) _ _ _ _ _ refl
  where
    go : (x y z : Bool) (a b c u v : Reject) → v.fixedtext ≡ text_too_many
        → ((if x then a otherwise if y then b otherwise if z then c otherwise if true then v otherwise u)
        ≡ (if x then a otherwise if y then b otherwise if z then c otherwise if false then v otherwise u))
        ⊎ ((if x then a otherwise if y then b otherwise if z then c otherwise if true then v otherwise u).fixedtext ≡ text_too_many)
    go true y z a b c u v k = unfold if◌then◌otherwise◌ in inl refl
    go false true z a b c u v k = unfold if◌then◌otherwise◌ in inl refl
    go false false true a b c u v k = unfold if◌then◌otherwise◌ in inl refl
    go false false false a b c u v k = unfold if◌then◌otherwise◌ in inr k

full_amendable : (f : Findings) (responseto used : ℕ) (o : Order) (e : Event) (own : Reject) (goes : Change) → NotMany (amendable f responseto used true o e own goes)
    → amendable f responseto used true o e own goes ≡ amendable f responseto used false o e own goes
full_amendable f responseto used o e own goes = go (already_taken f used e) (amend_refusal f used true o e own) (amend_refusal f used false o e own) (full_or f used o e own)
  where
    told : (r : Reject) → r.fixedtext ≡ text_too_many → NotMany (if not (eqb r.fixedtext 0) then refuse f responseto o e r otherwise goes) → ⊥
    told r k n =
        many_told f responseto o e r k (subst NotMany (if_true _ (refuse f responseto o e r) goes (ap not (ne_eqb r.fixedtext 0 (λ z. omega arith)))) n)

    go : (t : Bool) (r r' : Reject) → (r ≡ r') ⊎ (r.fixedtext ≡ text_too_many)
        → NotMany (if t then redelivered_report f o e otherwise if not (eqb r.fixedtext 0) then refuse f responseto o e r otherwise goes)
        → (if t then redelivered_report f o e otherwise if not (eqb r.fixedtext 0) then refuse f responseto o e r otherwise goes)
        ≡ (if t then redelivered_report f o e otherwise if not (eqb r'.fixedtext 0) then refuse f responseto o e r' otherwise goes)
    go true r r' k n = unfold if◌then◌otherwise◌ in refl
    go false r r' (inl k) n =
        ap (λ (x : Reject). if false then redelivered_report f o e otherwise if not (eqb x.fixedtext 0) then refuse f responseto o e x otherwise goes) k
    go false r r' (inr k) n = absurd (told r k (subst NotMany (if_false false (redelivered_report f o e) _ refl) n))

full_cancel : (f : Findings) (used : ℕ) (o : Order) (e : Event) → NotMany (cancel f used true o e) → cancel f used true o e ≡ cancel f used false o e
unfolding cancel
full_cancel f used o e n = full_amendable f _ used o e _ _ n

full_replace : (f : Findings) (used : ℕ) (o : Order) (e : Event) → NotMany (replace f used true o e) → replace f used true o e ≡ replace f used false o e
unfolding replace
full_replace f used o e n = full_amendable f _ used o e _ _ n

-- ---- an event on the part

-- a link names no order, or one that passes
data Place (p : ℕ → Bool) (b : Book) (l : ℕ) : Type 0 where
  none : l ≡ 0 → Place p b l
  at : (i : ℕ) → i < length b.orders → p i ≡ true → l ≡ i + 1 → Place p b l

module _ (p : ℕ → Bool) (b : Book) (w : Parted p b) (e : Event) (names : NamesPassing p b e) where
  abbrev c : Book
  c = part p b

  abbrev g : ℕ → ℕ
  g = part_link p b

  abbrev h : ℕ → ℕ
  h = part_place p

  abbrev x : ℕ → ℕ
  x = part_index p

  abbrev R : Change → Change
  R = renamed_change g h x

  r : Renames g h x
  r = part_renames p b

  none_same : no_order ≡ renamed_order g no_order
  none_same = rw r.none

  nothing_same : nothing ≡ R nothing
  nothing_same =
      ap (λ (n : ℕ). unchanged n no_order) (sym r.no_place) ∙ ap (unchanged (h 0)) none_same ∙ unchanged_ren g h x r 0 no_order

  unknown_same : unknown_report ≡ R unknown_report
  unknown_same = ap (alarming came.unknown_order) nothing_same ∙ alarming_ren g h x r came.unknown_order nothing

  setting_same : c.setting ≡ b.setting
  unfolding joined
  setting_same = refl

  -- ---- events 4 to 8

  abbrev Natural : (Findings → (link : ℕ) → Request → Order → Change) → Type 0
  Natural handle = (n : ℕ) (f : Findings) → Placed g h x n f → (k : ℕ) (q : Request) (o : Order)
      → handle (renamed_findings h x n f) (g k) (renamed_request x q) (renamed_order g o) ≡ R (handle f k q o)

  request_seen : (4 ≤ e.kind) × (e.kind ≤ 8) → (unknown : Change) (handle : Findings → (link : ℕ) → Request → Order → Change) → unknown ≡ R unknown → Natural handle
      → on_request unknown handle c e ≡ R (on_request unknown handle b e)
  unfolding on_request
  request_seen kind unknown handle u natural =
      ap (maybe unknown (by c)) (downstream_found p b w e.ids.downstream (names.downstream kind)) ∙ go (find_downstream b e.ids.downstream) refl
    where
      by : Book → ℕ → Change
      by d k = handle (findings_of d (order_link d k)) (k + 1) (request_in d k) (order_in d (request_in d k).order)

      go : (o : Option ℕ) → find_downstream b e.ids.downstream ≡ o → maybe unknown (by c) (maybe None (λ j. Some (count_below (of_passing p b) j)) o) ≡ R (maybe unknown (by b) o)
      go None z = unfold maybe in u
      go (Some j) z = unfold maybe find_downstream in
          let f = first_some (λ k. same_text (request_in b k).downstream e.ids.downstream) (length b.requests) j z in
          let l : j < length b.requests = f.below in
          let q : Request = request_in b j in
          let i : ℕ = q.order in
          let pass : of_passing p b j ≡ true = names.downstream kind j l f.passes in
          let inside : i < length b.orders = ((good p b w).request j l).order in
          let k : ℕ = count_below (of_passing p b) j in
          let s : 0 + count_below p i ≡ count_below p i = omega arith in
          ap (λ (y : Request). handle (findings_of c (y.order + 1)) (k + 1) y (order_in c y.order)) (request_at p b w j l pass)
          ∙ ap (λ (n : ℕ). handle (findings_of c (n + 1)) (k + 1) (renamed_request x q) (order_in c n)) s
          ∙ ap (λ (y : Findings). handle y (k + 1) (renamed_request x q) (order_in c (count_below p i))) (findings_at p b w i inside pass)
          ∙ ap (λ (n : ℕ). handle (renamed_findings h x (length c.requests) (findings_of b (i + 1))) n (renamed_request x q) (order_in c (count_below p i))) (sym (part_link_at p b j l pass))
          ∙ ap (handle (renamed_findings h x (length c.requests) (findings_of b (i + 1))) (g (j + 1)) (renamed_request x q)) (order_at p b w i inside pass)
          ∙ natural (length c.requests) (findings_of b (i + 1)) (placed_part p b w (i + 1)) (j + 1) q (order_in b i)

  -- ---- event 9

  name_seen : (e.kind ≤ 1) ⊎ (9 ≤ e.kind) → on_name c e ≡ R (on_name b e)
  unfolding on_name
  name_seen kind = ap (maybe nothing (by c)) (name_found p b w e.ids.name (names.name kind)) ∙ go (find_name b e.ids.name) refl
    where
      by : Book → ℕ → Change
      by d i = cancel_order (findings_of d (i + 1)) (order_in d i)

      go : (o : Option ℕ) → find_name b e.ids.name ≡ o → maybe nothing (by c) (maybe None (λ i. Some (count_below p i)) o) ≡ R (maybe nothing (by b) o)
      go None z = unfold maybe in nothing_same
      go (Some i) z = unfold maybe find_name in
          let f = first_some (λ k. same_text (order_in b k).names.name e.ids.name) (length b.orders) i z in
          let pass : p i ≡ true = names.name kind i f.below f.passes in
          ap (λ (y : Findings). cancel_order y (order_in c (count_below p i))) (findings_at p b w i f.below pass)
          ∙ ap (cancel_order (renamed_findings h x (length c.requests) (findings_of b (i + 1)))) (order_at p b w i f.below pass)
          ∙ cancel_order_ren g h x r (length c.requests) (findings_of b (i + 1)) (placed_part p b w (i + 1)) (order_in b i)

  -- ---- events 2 and 3

  abbrev NaturalClient : Amending → Type 0
  NaturalClient handle = (n : ℕ) (f : Findings) → Placed g h x n f → (used : ℕ) → Used h f used → (full : Bool) (o : Order)
      → handle (renamed_findings h x n f) (h used) full (renamed_order g o) e ≡ R (handle f used full o e)

  abbrev Fullness : Amending → Type 0
  Fullness handle = (f : Findings) (used : ℕ) (o : Order) → NotMany (handle f used true o e) → handle f used true o e ≡ handle f used false o e

  order_place : (t : Text) → ((j : ℕ) → j < length b.requests → bears_clordid b.orders e.client t (request_in b j) ≡ true → of_passing p b j ≡ true) → Place p b (order_of b e.client t)
  unfolding order_of
  order_place t k = go (find_clordid b e.client t) refl
    where
      go : (o : Option ℕ) → find_clordid b e.client t ≡ o → Place p b (maybe 0 (order_link b) o)
      go None z = unfold maybe in none refl
      go (Some j) z = unfold maybe find_clordid in
          let f = first_some (λ k. bears_clordid b.orders e.client t (request_in b k)) (length b.requests) j z in
          at (request_in b j).order (((good p b w).request j f.below).order) (k j f.below f.passes) refl

  findings_place : (l : ℕ) → Place p b l → findings_of c (h l) ≡ renamed_findings h x (length c.requests) (findings_of b l)
  findings_place l (none z) =
      ap (λ (n : ℕ). findings_of c (h n)) z ∙ ap (findings_of c) r.no_place ∙ findings_none p b w ∙ ap (λ (n : ℕ). renamed_findings h x (length c.requests) (findings_of b n)) (sym z)
  findings_place l (at i s q z) =
      ap (λ (n : ℕ). findings_of c (h n)) z ∙ ap (findings_of c) (place_at p b w i) ∙ findings_at p b w i s q
      ∙ ap (λ (n : ℕ). renamed_findings h x (length c.requests) (findings_of b n)) (sym z)

  order_link_place : (l : ℕ) → Place p b l → order_at_link c (h l) ≡ renamed_order g (order_at_link b l)
  order_link_place l (none z) =
      let y : order_at_link c 0 ≡ renamed_order g (order_at_link b 0) = unfold order_at_link if◌then◌otherwise◌ in none_same in
      ap (λ (n : ℕ). order_at_link c (h n)) z ∙ ap (order_at_link c) r.no_place ∙ y
      ∙ ap (λ (n : ℕ). renamed_order g (order_at_link b n)) (sym z)
  order_link_place l (at i s q z) =
      ap (λ (n : ℕ). order_at_link c (h n)) z ∙ ap (order_at_link c) (place_at p b w i) ∙ at_link c (count_below p i) ∙ order_at p b w i s q
      ∙ sym (ap (λ (n : ℕ). renamed_order g (order_at_link b n)) z ∙ ap (renamed_order g) (at_link b i))

  used_place : (l used : ℕ) → Place p b l → Place p b used → Used h (findings_of b l) used
  unfolding findings_of
  used_place l used s t = record { place = moved_zero p 0 l; none = moved_zero p 0 used; same = go s t }
    where
      go : Place p b l → Place p b used → eqb (h used) (h l) ≡ eqb used l
      go (none z) t = ap (λ (n : ℕ). eqb (h used) (h n)) z ∙ ap (eqb (h used)) r.no_place ∙ moved_zero p 0 used ∙ ap (eqb used) (sym z)
      go (at i s q z) (none y) =
          let u : h used ≡ 0 = ap h y ∙ r.no_place in
          let v : h l ≡ count_below p i + 1 = ap h z ∙ place_at p b w i in
          ne_eqb (h used) (h l) (λ k. omega arith) ∙ sym (ne_eqb used l (λ k. omega arith))
      go (at i s q z) (at j t o y) = both (ℕ_discrete j i)
        where
          both : Dec (j ≡ i) → eqb (h used) (h l) ≡ eqb used l
          both (yes k) = let a : used ≡ l = omega arith in eq-eqb (h used) (h l) (ap h a) ∙ sym (eq-eqb used l a)
          both (no k) =
              let u : h used ≡ count_below p j + 1 = ap h y ∙ place_at p b w j in
              let v : h l ≡ count_below p i + 1 = ap h z ∙ place_at p b w i in
              ne_eqb (h used) (h l) (λ m. k (rank_injective p j i o q (omega arith))) ∙ sym (ne_eqb used l (λ m. k (omega arith)))

  amending_seen : (e.kind ≡ 2) ⊎ (e.kind ≡ 3) → (handle : Amending) → NaturalClient handle → Fullness handle → NotMany (amending handle b e) → amending handle c e ≡ R (amending handle b e)
  unfolding amending
  amending_seen kind handle natural fullness few =
      let low : e.kind ≤ 3 = ⊎_elim (λ z. omega arith) (λ z. omega arith) kind in
      let l : ℕ = order_of b e.client e.ids.origclordid in
      let used : ℕ = order_of b e.client e.ids.clordid in
      let s : Place p b l = order_place e.ids.origclordid (names.origclordid kind) in
      let t : Place p b used = order_place e.ids.clordid (names.clordid low) in
      let f : Findings = findings_of b l in
      let full : Bool = leb c.setting (count_clordids c e.client) in
      ap (λ (k : ℕ). handle (findings_of c k) (order_of c e.client e.ids.clordid) full (order_at_link c k) e) (order_found p b w e.client e.ids.origclordid (names.origclordid kind))
      ∙ ap (λ (k : ℕ). handle (findings_of c (h l)) k full (order_at_link c (h l)) e) (order_found p b w e.client e.ids.clordid (names.clordid low))
      ∙ ap (λ (k : Findings). handle k (h used) full (order_at_link c (h l)) e) (findings_place l s)
      ∙ ap (λ (k : Order). handle (renamed_findings h x (length c.requests) f) (h used) full k e) (order_link_place l s)
      ∙ natural (length c.requests) f (placed_part p b w l) used (used_place l used s t) full (order_at_link b l)
      ∙ ap R (go (cases_Bool full) (cases_Bool (leb b.setting (count_clordids b e.client))))
    where
      by : Bool → Change
      by k = handle (findings_of b (order_of b e.client e.ids.origclordid)) (order_of b e.client e.ids.clordid) k (order_at_link b (order_of b e.client e.ids.origclordid)) e

      go : (leb c.setting (count_clordids c e.client) ≡ true) ⊎ (leb c.setting (count_clordids c e.client) ≡ false)
          → (leb b.setting (count_clordids b e.client) ≡ true) ⊎ (leb b.setting (count_clordids b e.client) ≡ false)
          → by (leb c.setting (count_clordids c e.client)) ≡ by (leb b.setting (count_clordids b e.client))
      go (inl y) (inl z) = ap by (y ∙ sym z)
      go (inr y) (inr z) = ap by (y ∙ sym z)
      go (inl y) (inr z) =
          let a : c.setting ≤ count_clordids c e.client = leb-true c.setting (count_clordids c e.client) y in
          let d : b.setting ≤ count_clordids b e.client = omega (arith, count_fewer_part p b w e.client, setting_same) in
          clash _ (le-leb b.setting (count_clordids b e.client) d) z
      go (inr y) (inl z) =
          ap by y
          ∙ sym (fullness _ _ _ (subst (λ (k : Bool). NotMany (by k)) z few))
          ∙ ap by (sym z)

  -- ---- event 1

  unused_same : e.kind ≤ 1 → unused c e ≡ unused b e
  unfolding unused
  unused_same kind =
      ap (λ (o : Option ℕ). maybe true (λ k. false) o && eqb (order_of c e.client e.ids.clordid) 0) (name_found p b w e.ids.name (names.name (inl kind)))
      ∙ ap (λ (y : Bool). y && eqb (order_of c e.client e.ids.clordid) 0) (go (find_name b e.ids.name))
      ∙ ap (λ (k : ℕ). maybe true (λ k. false) (find_name b e.ids.name) && eqb k 0) (order_found p b w e.client e.ids.clordid (names.clordid (omega arith)))
      ∙ ap (λ (y : Bool). maybe true (λ k. false) (find_name b e.ids.name) && y) (moved_zero p 0 (order_of b e.client e.ids.clordid))
    where
      go : (o : Option ℕ) → maybe true (λ k. false) (maybe None (λ i. Some (count_below p i)) o) ≡ maybe true (λ k. false) o
      go None = unfold maybe in refl
      go (Some i) = unfold maybe in refl

  abbrev entered : (index place link : ℕ) → Change
  entered index place link = adding (first_request index e) (unchanged place (booked_order link e))

  entered_same : (index place link : ℕ) → entered (x index) (h place) (g link) ≡ R (entered index place link)
  unfolding adding first_request unchanged booked_order renamed_change
  entered_same index place link = rw r.none

  book_seen : e.kind ≤ 1 → book_order c e ≡ R (book_order b e)
  unfolding book_order
  book_seen kind =
      same_if R (ap not (unused_same kind)) (refusing_ren g h x r (number_of InUse))
      (same_if R refl (refusing_ren g h x r (number_of WrongPrice))
      (ap (λ (k : ℕ). entered k (length c.orders + 1) (length c.requests + 1)) index
      ∙ ap (λ (k : ℕ). entered (x (length b.orders)) k (length c.requests + 1)) place
      ∙ ap (entered (x (length b.orders)) (h (length b.orders + 1))) link
      ∙ entered_same (length b.orders) (length b.orders + 1) (length b.requests + 1)))
    where
      index : length c.orders ≡ x (length b.orders)
      index = count_orders p b w ∙ (let z : count_below p (length b.orders) ≡ 0 + count_below p (length b.orders) = omega arith in z)

      place : length c.orders + 1 ≡ h (length b.orders + 1)
      place = ap (λ (k : ℕ). k + 1) (count_orders p b w) ∙ sym (place_at p b w (length b.orders))

      link : length c.requests + 1 ≡ g (length b.requests + 1)
      link = ap (λ (k : ℕ). k + 1) (count_requests p b w) ∙ sym (next_link_part p b)

  -- ---- any event

  choose : (s : Bool) (u v y z : Change) → (s ≡ true → NotMany y → u ≡ R y) → (s ≡ false → NotMany z → v ≡ R z) → NotMany (if s then y otherwise z)
      → (if s then u otherwise v) ≡ R (if s then y otherwise z)
  choose true u v y z k m = unfold if◌then◌otherwise◌ in k refl
  choose false u v y z k m = unfold if◌then◌otherwise◌ in m refl

  -- an event of no kind from 1 to 8
  past : (n : ℕ) → eqb e.kind (n + 1) ≡ false → (e.kind ≤ 1) ⊎ (n + 1 ≤ e.kind) → (e.kind ≤ 1) ⊎ (n + 2 ≤ e.kind)
  past n z (inl l) = inl l
  past n z (inr l) = let y : (e.kind ≡ n + 1 → ⊥) = eqb-false e.kind (n + 1) z in inr (omega arith)

  first_past : (e.kind ≤ 1) ⊎ (2 ≤ e.kind)
  first_past = go (dec_lt e.kind 2)
    where
      go : Dec (e.kind < 2) → (e.kind ≤ 1) ⊎ (2 ≤ e.kind)
      go (yes l) = inl (omega arith)
      go (no l) = inr (omega arith)

  is : (n : ℕ) → eqb e.kind n ≡ true → e.kind ≡ n
  is n z = eqb-true e.kind n z

  venues : (n : ℕ) → 4 ≤ n → n ≤ 8 → eqb e.kind n ≡ true → (4 ≤ e.kind) × (e.kind ≤ 8)
  venues n l h z = let k : e.kind ≡ n = is n z in (omega arith, omega arith)

  pub change_seen : NotMany (change_of b e) → change_of c e ≡ R (change_of b e)
  unfolding change_of
  change_seen =
      choose _ _ _ _ _ (λ k m. book_seen (let z : e.kind ≡ 1 = is 1 k in omega arith))
      (λ k₁. choose _ _ _ _ _ (λ k. amending_seen (inl (is 2 k)) cancel (λ n f l used u full o. cancel_ren g h x r n f l used u full o e) (λ f used o. full_cancel f used o e))
      (λ k₂. choose _ _ _ _ _ (λ k. amending_seen (inr (is 3 k)) replace (λ n f l used u full o. replace_ren g h x r n f l used u full o e) (λ f used o. full_replace f used o e))
      (λ k₃. choose _ _ _ _ _ (λ k m. request_seen (venues 4 (omega arith) (omega arith) k) _ _ unknown_same (λ n f l k q o. on_report_ren g h x r k q o e n f l))
      (λ k₄. choose _ _ _ _ _ (λ k m. request_seen (venues 5 (omega arith) (omega arith) k) _ _ unknown_same (λ n f l k q o. unknown_ren g h x r k q o e n f l))
      (λ k₅. choose _ _ _ _ _ (λ k m. request_seen (venues 6 (omega arith) (omega arith) k) _ _ unknown_same (λ n f l k q o. venue_reject_ren g h x r n f l k q o e))
      (λ k₆. choose _ _ _ _ _
      (λ k m. request_seen (venues 7 (omega arith) (omega arith) k) _ _ nothing_same (λ n f l k q o. send_failed_ren g h x r n f l k q e.venue came.failed_to_send (text_note e) o))
      (λ k₇. choose _ _ _ _ _ (λ k m. request_seen (venues 8 (omega arith) (omega arith) k) _ _ nothing_same (λ n f l k q o. unsent_ren g h x r n f l k q e.venue o))
      (λ k₈ m. name_seen (past 7 k₈ (past 6 k₇ (past 5 k₆ (past 4 k₅ (past 3 k₄ (past 2 k₃ (past 1 k₂ first_past)))))))))))))))
