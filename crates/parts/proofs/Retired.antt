-- Demand 3 across a retirement, on books: what holds by names of the book holds of its live part, if the names of its done orders are taken for gone. Rests on Since and
-- the laws of joined books.
use Rattle.std.proofs.Common.{ℕ, ◌+◌, ◌≤◌, ◌<◌, arith, ◌≡◌, refl, sym, ap, ◌∙◌, subst, ◌⊎◌, inl, inr, Bool, true, false, not, Option, None, Some, List, length}
use Rattle.std.proofs.Math.Decide.{dec_lt}
use Rattle.std.proofs.Math.ListN.{get_or-eq_default}
use Rattle.std.proofs.lemmas.Bool.{cases_Bool, not-true}
use Rattle.prelude.specs.Below.{count_below}
use Rattle.prelude.specs.Laws.Cases.{clash, none_some}
use Rattle.prelude.specs.Texts.{same_text}
use Rattle.prelude.specs.Laws.Texts.{same_self, same_back, same_trans, same_right}
use Rattle.prelude.specs.declared.Text.{Text}
use Rattle.store.specs.declared.Order.{Order}
use Rattle.store.specs.declared.Request.{Request}
use Rattle.store.specs.Orders.{no_order}
use Rattle.store.specs.Book.{Book, order_in, request_in, empty_book}
use Rattle.store.specs.Finds.{find_name, find_downstream}
use Rattle.machine.specs.Orders.{has_gateway}
use Rattle.machine.specs.Changes.{is_first, is_replace, is_gateway, is_cancel, is_answered}
use Rattle.machine.specs.History.{Entry}
use Rattle.machine.specs.Rules.{number_in}
use Rattle.machine.proofs.Kept.Indexed.{BookKept}
use Rattle.machine.proofs.Kept.Consequences.{found_downstream, downstream_at, name_at}
use Rattle.machine.proofs.Claim.Fresh.{number_small}
use Rattle.machine.proofs.Claim.Walk.{found_request, found_order, found_text}
use Rattle.machine.proofs.Claim.Tries.{find_cong, Own}
use Rattle.machine.proofs.Claim.Rounds.{Few, no_gateway}
use Rattle.machine.proofs.Numbered.{numbered_laws}
use Rattle.parts.specs.Parts.{done_at, live_at, of_passing, moved_order, moved_request, live_part}
use Rattle.parts.specs.Laws.Ranks.{rank_injective}
use Rattle.parts.specs.Laws.Joined.{moved_zero, joined_request, FromOrder, FromRequest, order_from, request_from}
use Rattle.parts.specs.Laws.Linked.{new_place, named_zero}
use Rattle.parts.specs.Laws.Found.{new_request, joined_found, joined_downstream}
use Rattle.prelude.specs.Laws.Below.{first_ext}
use Rattle.machine.proofs.Claim.Names.{kept_apart, named_at, absent_at}
use Rattle.machine.proofs.Claim.Told.{ToldIn, told}
use Rattle.machine.proofs.Claim.Sent.{OfGone, Sent, Counts}
use Rattle.machine.proofs.Claim.Since.{SinceImage}

-- ---- what of an order does not move

pub record Stays (o p : Order) : Type 0 where
  pub client : p.client ≡ o.client
  pub name : p.names.name ≡ o.names.name
  pub qty : p.terms.qty ≡ o.terms.qty
  pub cumqty : p.state.cumqty ≡ o.state.cumqty
  pub status : p.state.status ≡ o.state.status
  pub tries : p.gateway.tries ≡ o.gateway.tries

pub moved_stays : (p : ℕ → Bool) (behind : ℕ) (b : Book) (i : ℕ) → Stays (order_in b i) (moved_order p behind b i)
unfolding moved_order
moved_stays p behind b i = record { client = refl; name = refl; qty = refl; cumqty = refl; status = refl; tries = refl }

-- and of a request
record Alike (p : ℕ → Bool) (behind : ℕ) (q r : Request) : Type 0 where
  order : r.order ≡ behind + count_below p q.order
  text : r.downstream ≡ q.downstream
  gateway : is_gateway r ≡ is_gateway q
  cancel : is_cancel r ≡ is_cancel q
  answered : is_answered r ≡ is_answered q

moved_alike : (p : ℕ → Bool) (behind : ℕ) (q : Request) → Alike p behind q (moved_request p behind q)
unfolding moved_request is_gateway is_cancel is_first is_replace is_answered
moved_alike p behind q = record { order = refl; text = refl; gateway = refl; cancel = refl; answered = refl }

moved_gateway : (p : ℕ → Bool) (behind : ℕ) (b : Book) → BookKept b → (i : ℕ) → i < length b.orders → p i ≡ true → has_gateway (moved_order p behind b i) ≡ has_gateway (order_in b i)
unfolding moved_order has_gateway
moved_gateway p behind b good i h e = ap not (moved_zero (of_passing p b) behind _ ∙ named_zero p b good i h e)

pub name_cong : (b : Book) (t u : Text) → same_text t u ≡ true → find_name b t ≡ find_name b u
unfolding find_name
name_cong b t u s = first_ext _ _ _ (λ k l. same_right (order_in b k).names.name t u s)

-- ---- the live part of a book that keeps its rules, and which keeps them

module _ (b : Book) (good : BookKept b) (good' : BookKept (live_part b)) where
  abbrev live : Book
  live = live_part b

  abbrev nothing : Book
  nothing = empty_book b.setting

  abbrev rank : ℕ → ℕ
  rank = count_below (live_at b)

  -- an order of it, and what it was
  record Was (j : ℕ) : Type 0 where
    at : ℕ
    below : at < length b.orders
    is_live : live_at b at ≡ true
    place : j ≡ rank at
    stays : Stays (order_in b at) (order_in live j)
    gateway : has_gateway (order_in live j) ≡ has_gateway (order_in b at)

  was : (j : ℕ) → j < length live.orders → Was j
  was j h = go (order_from (live_at b) nothing b j h)
    where
      go : (j < 0) ⊎ FromOrder (live_at b) nothing b j → Was j
      go (inl l) = absurd (omega arith)
      go (inr f) = record {
        at = f.at;
        below = f.below;
        is_live = f.passes;
        place = omega (arith, f.place);
        stays = subst (Stays (order_in b f.at)) (sym f.is) (moved_stays (live_at b) 0 b f.at);
        gateway = ap has_gateway f.is ∙ moved_gateway (live_at b) 0 b good f.at f.below f.passes;
      }

  -- each order that is not done is found by its name
  pub live_found : (i : ℕ) → i < length b.orders → live_at b i ≡ true → (t : Text) → same_text (order_in b i).names.name t ≡ true → find_name live t ≡ Some (new_place (live_at b) nothing i)
  live_found i h e t w = name_cong live t (order_in b i).names.name (same_back _ t w) ∙ joined_found (live_at b) nothing b good' i h e

  -- a request of it, and what it was
  record WasRequest (d : Text) (k : ℕ) : Type 0 where
    at : ℕ
    found : find_downstream b d ≡ Some at
    below : (request_in b at).order < length b.orders
    is_live : live_at b (request_in b at).order ≡ true
    alike : Alike (live_at b) 0 (request_in b at) (request_in live k)

  was_request : (d : Text) (k : ℕ) → find_downstream live d ≡ Some k → WasRequest d k
  was_request d k w = go (request_from (live_at b) nothing b k (found_request live d k w))
    where
      go : (k < 0) ⊎ FromRequest (live_at b) nothing b k → WasRequest d k
      go (inl l) = absurd (omega arith)
      go (inr f) =
          let a : Alike (live_at b) 0 (request_in b f.at) (request_in live k) = subst (Alike (live_at b) 0 (request_in b f.at)) (sym f.is) (moved_alike (live_at b) 0 (request_in b f.at)) in
          let t : same_text (request_in b f.at).downstream d ≡ true = ap (λ (x : Text). same_text x d) (sym a.text) ∙ found_text live d k w in
          record {
            at = f.at;
            found = find_cong b d (request_in b f.at).downstream (same_back _ d t) ∙ found_downstream b good numbered_laws f.at f.below;
            below = (good.request f.at f.below).order;
            is_live = f.passes;
            alike = a;
          }

  record IsRequest (d : Text) (k : ℕ) : Type 0 where
    at : ℕ
    found : find_downstream live d ≡ Some at
    alike : Alike (live_at b) 0 (request_in b k) (request_in live at)

  is_request : (d : Text) (k : ℕ) → find_downstream b d ≡ Some k → live_at b (request_in b k).order ≡ true → IsRequest d k
  is_request d k w e =
      let l : k < length b.requests = found_request b d k w in
      record {
        at = new_request (live_at b) nothing b k;
        found = find_cong live d (request_in b k).downstream (same_back _ d (found_text b d k w)) ∙ joined_downstream (live_at b) nothing b good' k l e;
        alike = subst (Alike (live_at b) 0 (request_in b k)) (sym (joined_request (live_at b) nothing b k l e)) (moved_alike (live_at b) 0 (request_in b k));
      }

  -- ---- what holds by names

  module _ (gone gone' : Text → Bool) (image : Book) (past : List Entry)
      (rises : (name : Text) → gone name ≡ true → gone' name ≡ true)
      (goes : (i : ℕ) → i < length b.orders → done_at b i ≡ true → (name : Text) → same_text (order_in b i).names.name name ≡ true → gone' name ≡ true)
      (only : (name : Text) → gone' name ≡ true
      → (gone name ≡ true) ⊎ ((i : ℕ) × (i < length b.orders) × (done_at b i ≡ true) × (same_text (order_in b i).names.name name ≡ true)))
      (s : SinceImage gone image b past) where
    -- a name that neither the live part has nor one that went, the book had not
    absent_was : (name : Text) → find_name live name ≡ None → gone' name ≡ false → (find_name b name ≡ None) × (gone name ≡ false)
    absent_was name w g = (go (find_name b name) refl, not_gone (cases_Bool (gone name)))
      where
        not_gone : (gone name ≡ true) ⊎ (gone name ≡ false) → gone name ≡ false
        not_gone (inl x) = clash _ (rises name x) g
        not_gone (inr x) = x

        there : (i : ℕ) → find_name b name ≡ Some i → (done_at b i ≡ true) ⊎ (done_at b i ≡ false) → find_name b name ≡ None
        there i v (inl x) = clash _ (goes i (found_order b name i v) x name (named_at b name i v)) g
        there i v (inr x) = none_some w (live_found i (found_order b name i v) (ap not x) name (named_at b name i v))

        go : (x : Option ℕ) → find_name b name ≡ x → find_name b name ≡ None
        go None v = v
        go (Some i) v = there i v (cases_Bool (done_at b i))

    told_live : ToldIn gone' image live past
    told_live = record {
      filled = λ j h.
          let w : Was j = was j h in
          (λ i. told image past (w.stays.client i) (w.stays.name i)) ∙ s.told.filled w.at w.below ∙ sym w.stays.cumqty;
      ordered = λ j h. let w : Was j = was j h in omega (arith, w.stays.cumqty, w.stays.qty, s.told.ordered w.at w.below);
      absent = λ client name w g. let a = absent_was name w g in s.told.absent client name a.0 a.1;
    }

    of_gone : (d : Text) → OfGone gone d → OfGone gone' d
    of_gone d g = record { name = g.name; is = rises g.name g.is; range = g.range; number = g.number; small = g.small; same = g.same }

    -- a request of an order that goes is of one that went
    went_with : (d : Text) (k : ℕ) → find_downstream b d ≡ Some k → done_at b (request_in b k).order ≡ true → OfGone gone' d
    went_with d k w e =
        let l : k < length b.requests = found_request b d k w in
        let i : ℕ = (request_in b k).order in
        let h : i < length b.orders = (good.request k l).order in
        record {
          name = (order_in b i).names.name;
          is = goes i h e (order_in b i).names.name (same_self (order_in b i).names.name);
          range = name_at b good i h;
          number = number_in b.requests k;
          small = omega (arith, number_small b k, good.requests);
          same = same_trans d (request_in b k).downstream _ (same_back _ d (found_text b d k w)) (downstream_at b good k l);
        }

    sent_live : Sent gone' image live past
    sent_live = record {
      sent_has = λ d h. has d (s.tries.sent.sent_has d h);
      cancel_sent = λ d k w c. let x : WasRequest d k = was_request d k w in s.tries.sent.cancel_sent d x.at x.found (sym x.alike.cancel ∙ c);
      fail_answered = λ d h. answered d (s.tries.sent.fail_answered d h);
    }
      where
        has : (d : Text) → ((k : ℕ) × (find_downstream b d ≡ Some k)) ⊎ OfGone gone d → ((k : ℕ) × (find_downstream live d ≡ Some k)) ⊎ OfGone gone' d
        has d (inr g) = inr (of_gone d g)
        has d (inl (k, w)) = go (cases_Bool (done_at b (request_in b k).order))
          where
            go : (done_at b (request_in b k).order ≡ true) ⊎ (done_at b (request_in b k).order ≡ false) → ((k : ℕ) × (find_downstream live d ≡ Some k)) ⊎ OfGone gone' d
            go (inl x) = inr (went_with d k w x)
            go (inr x) = let r : IsRequest d k = is_request d k w (ap not x) in inl (r.at, r.found)

        answered : (d : Text) → ((k : ℕ) × (find_downstream b d ≡ Some k) × (is_answered (request_in b k) ≡ true)) ⊎ OfGone gone d
            → ((k : ℕ) × (find_downstream live d ≡ Some k) × (is_answered (request_in live k) ≡ true)) ⊎ OfGone gone' d
        answered d (inr g) = inr (of_gone d g)
        answered d (inl (k, w, a)) = go (cases_Bool (done_at b (request_in b k).order))
          where
            go : (done_at b (request_in b k).order ≡ true) ⊎ (done_at b (request_in b k).order ≡ false)
                → ((k : ℕ) × (find_downstream live d ≡ Some k) × (is_answered (request_in live k) ≡ true)) ⊎ OfGone gone' d
            go (inl x) = inr (went_with d k w x)
            go (inr x) = let r : IsRequest d k = is_request d k w (ap not x) in inl (r.at, r.found, r.alike.answered ∙ a)

    counts_live : (j : ℕ) → j < length live.orders → Counts image live past (order_in live j).names.name j
    counts_live j h =
        let w : Was j = was j h in
        let c : Counts image b past (order_in live j).names.name w.at = subst (λ (n : Text). Counts image b past n w.at) (sym w.stays.name) (s.tries.orders w.at w.below) in
        record {
          own = λ d x.
              let o : Own w.at b d = c.own d x in
              let r : IsRequest d o.at = is_request d o.at o.found (ap (live_at b) o.of_order ∙ w.is_live) in
              record { at = r.at; found = r.found; by_gateway = r.alike.gateway ∙ o.by_gateway; of_order = omega (arith, r.alike.order, ap rank o.of_order, w.place) };
          one = c.one;
          unanswered = λ hg d o u.
              let x : WasRequest d o.at = was_request d o.at o.found in
              let same : (request_in b x.at).order ≡ w.at =
              rank_injective (live_at b) (request_in b x.at).order w.at x.is_live w.is_live (omega (arith, x.alike.order, o.of_order, w.place)) in
              c.unanswered (sym w.gateway ∙ hg) d (record { at = x.at; found = x.found; by_gateway = sym x.alike.gateway ∙ o.by_gateway; of_order = same }) (sym x.alike.answered ∙ u);
          tries = λ hg. omega (arith, w.stays.tries, c.tries (sym w.gateway ∙ hg));
        }

    few_live : Few live
    few_live j hg = go (dec_lt j (length live.orders))
      where
        go : Dec (j < length live.orders) → (order_in live j).gateway.tries ≤ 3
        go (yes l) = let w : Was j = was j l in omega (arith, w.stays.tries, s.tries.few w.at (sym w.gateway ∙ hg))
        go (no l) = clash _ hg (ap has_gateway (get_or-eq_default live.orders no_order (omega arith)) ∙ no_gateway)

    free_live : (name : Text) → gone' name ≡ true → find_name live name ≡ None
    free_live name g = go (find_name live name) refl
      where
        there : (j : ℕ) → find_name live name ≡ Some j
            → (gone name ≡ true) ⊎ ((i : ℕ) × (i < length b.orders) × (done_at b i ≡ true) × (same_text (order_in b i).names.name name ≡ true)) → find_name live name ≡ None
        there j v (inl x) =
            let w : Was j = was j (found_order live name j v) in
            clash _ (ap (λ (t : Text). same_text t name) (sym w.stays.name) ∙ named_at live name j v) (absent_at b name (s.free name x) w.at w.below)
        there j v (inr (i, h, x, t)) =
            let w : Was j = was j (found_order live name j v) in
            let z : i ≡ w.at =
            kept_apart b good i w.at h w.below (same_trans _ name _ t (same_back _ name (ap (λ (t : Text). same_text t name) (sym w.stays.name) ∙ named_at live name j v))) in
            clash _ (ap (done_at b) (sym z) ∙ x) (not-true _ w.is_live)

        go : (x : Option ℕ) → find_name live name ≡ x → find_name live name ≡ None
        go None v = v
        go (Some j) v = there j v (only name g)

    pub since_retired : SinceImage gone' image live past
    since_retired = record {
      told = told_live;
      tries = record {
        sent = sent_live;
        orders = counts_live;
        absent = λ name w g. let a = absent_was name w g in s.tries.absent name a.0 a.1;
        few = few_live;
      };
      free = free_live;
      apart = kept_apart live good';
      placed = λ k l. (good'.request k l).order;
    }
