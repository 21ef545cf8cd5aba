-- The image, as the history since it begins: each gateway cancel that it holds has its record, and each once; none of its orders has gone. Rests on Since and the book's rules.
use Rattle.std.proofs.Math.Bool.{and-false}
use Rattle.std.proofs.Math.Decide.{dec_lt}
use Rattle.std.proofs.Math.ListN.{get_or-eq_default}
use Rattle.store.specs.Orders.{no_order}
use Rattle.machine.specs.Orders.{has_gateway}
use Rattle.machine.specs.Changes.{is_gateway}
use Rattle.machine.specs.Rules.{filled_rule}
use Rattle.machine.proofs.Kept.Keep.{tries_at}
use Rattle.machine.proofs.Kept.Consequences.{found_name}
use Rattle.machine.proofs.Claim.Filled.{persists_same}
use Rattle.machine.proofs.Claim.Rounds.{Few, no_gateway}
use Rattle.machine.proofs.Claim.Names.{kept_apart, bears_at, absent_at}
use Rattle.machine.proofs.Claim.Told.{told_start}
use Rattle.machine.proofs.Claim.Sent.{out, Sent, Counts}
use Rattle.machine.proofs.Claim.Since.{SinceImage}
use Rattle.std.proofs.Common.{ℕ, ◌≤◌, sym, ◌∙◌, subst, ◌&&◌, eqb, leb-true, zero, suc, ◌<◌, not-suc-le-zero, le_of_suc-le-suc, arith, ◌≡◌, refl, ap, ◌∙◌, ◌⊎◌, inl, inr, Bool, true, false, ◌||◌, Option, None, Some, List, [], ◌∷◌, length, get_or, eqb-true, eq-eqb}
use Rattle.std.proofs.lemmas.Bool.{and_parts, and_from, or_cases, or_right, false_from_ne_true}
use Rattle.prelude.specs.Cases.{if◌then◌otherwise◌, maybe}
use Rattle.prelude.specs.Laws.Cases.{split_if, clash, if_true, if_false, maybe_some}
use Rattle.prelude.specs.Texts.{same_text}
use Rattle.prelude.specs.Laws.Texts.{same_back}
use Rattle.prelude.specs.Totals.{how_many}
use Rattle.prelude.specs.declared.Text.{Text}
use Rattle.store.specs.declared.Order.{Order}
use Rattle.store.specs.declared.Request.{Request}
use Rattle.store.specs.Book.{Book, order_in, request_in}
use Rattle.store.specs.Requests.{no_request}
use Rattle.store.specs.Finds.{bears_name, find_name, find_downstream}
use Rattle.machine.specs.Claim.{holds, failed}
use Rattle.machine.specs.Since.{is_held, downstreams, held_out, held_tries}
use Rattle.machine.proofs.Kept.Indexed.{BookKept}
use Rattle.machine.proofs.Kept.Consequences.{downstreams_apart, found_downstream}
use Rattle.machine.proofs.Claim.Walk.{found_request, found_text}
use Rattle.machine.proofs.Claim.Tries.{Distinct, holds_self, find_cong}
use Rattle.machine.proofs.Numbered.{numbered_laws}

-- ---- the requests that pass a test

module _ (p : Request → Bool) where
  -- the place of the request of that text
  record Place (d : Text) (qs : List Request) : Type 0 where
    at : ℕ
    below : at < length qs
    passes : p (get_or qs at no_request) ≡ true
    same : same_text d (get_or qs at no_request).downstream ≡ true

  place_of : (d : Text) (qs : List Request) → holds d (downstreams p qs) ≡ true → Place d qs
  unfolding downstreams
  place_of d [] h = clash false h refl
  place_of d (q ∷ qs) h = go (p q) refl h (place_of d qs)
    where
      later : Place d qs → Place d (q ∷ qs)
      later x = let l = x.below in record { at = suc x.at; below = omega arith; passes = x.passes; same = x.same }

      go : (x : Bool) → p q ≡ x → holds d (if x then q.downstream ∷ downstreams p qs otherwise downstreams p qs) ≡ true → (holds d (downstreams p qs) ≡ true → Place d qs) → Place d (q ∷ qs)
      go false e h r = later (r (unfold if◌then◌otherwise◌ in h))
      go true e h r = first (or_cases (same_text d q.downstream) (holds d (downstreams p qs)) (unfold if◌then◌otherwise◌ in h))
        where
          first : (same_text d q.downstream ≡ true) ⊎ (holds d (downstreams p qs) ≡ true) → Place d (q ∷ qs)
          first (inl s) = record { at = 0; below = omega arith; passes = e; same = s }
          first (inr m) = later (r m)

  in_place : (d : Text) (qs : List Request) (k : ℕ) → k < length qs → p (get_or qs k no_request) ≡ true → same_text d (get_or qs k no_request).downstream ≡ true → holds d (downstreams p qs) ≡ true
  unfolding downstreams
  in_place d [] k l a s = absurd (not-suc-le-zero l)
  in_place d (q ∷ qs) zero l a s = ap (holds d) (if_true _ _ _ a) ∙ holds_self d q.downstream (downstreams p qs) s
  in_place d (q ∷ qs) (suc k) l a s =
      let r : holds d (downstreams p qs) ≡ true = in_place d qs k (le_of_suc-le-suc l) a s in
      split_if (λ (x : List Text). holds d x ≡ true) (p q) (λ e. or_right (same_text d q.downstream) _ r) (λ e. r)

  distinct_places : (qs : List Request)
      → ((i j : ℕ) → i < j → j < length qs → same_text (get_or qs i no_request).downstream (get_or qs j no_request).downstream ≡ false) → Distinct (downstreams p qs)
  unfolding downstreams Distinct
  distinct_places [] f = tt
  distinct_places (q ∷ qs) f =
      let r : Distinct (downstreams p qs) = distinct_places qs (λ i j l m. f (suc i) (suc j) (omega arith) (omega arith)) in
      split_if Distinct (p q) (λ e. (false_from_ne_true _ (λ h. let x = place_of q.downstream qs h in let l = x.below in clash _ x.same (f 0 (suc x.at) (omega arith) (omega arith))), r)) (λ e. r)

downstreams_same : (p r : Request → Bool) (qs : List Request) → ((k : ℕ) → k < length qs → p (get_or qs k no_request) ≡ r (get_or qs k no_request)) → downstreams p qs ≡ downstreams r qs
unfolding downstreams
downstreams_same p r [] f = refl
downstreams_same p r (q ∷ qs) f =
    ap (λ (x : Bool). if x then q.downstream ∷ downstreams p qs otherwise downstreams p qs) (f 0 (omega arith))
    ∙ ap (λ (l : List Text). if r q then q.downstream ∷ l otherwise l) (downstreams_same p r qs (λ k l. f (suc k) (omega arith)))

-- ---- at the image, when none has gone

none_failed : (l : List Text) → how_many (failed []) l ≡ 0
unfolding if◌then◌otherwise◌
none_failed [] = refl
none_failed (d ∷ l) = omega (arith, none_failed l)

held_found : (b : Book) (d : Text) → is_held b d ≡ true → (k : ℕ) × (find_downstream b d ≡ Some k)
unfolding maybe
held_found b d h = go (find_downstream b d) refl h
  where
    go : (x : Option ℕ) → find_downstream b d ≡ x → maybe false (λ k. true) x ≡ true → (k : ℕ) × (find_downstream b d ≡ Some k)
    go None e z = clash false z refl
    go (Some k) e z = (k, e)

no_downstreams : (qs : List Request) → downstreams (λ q. false) qs ≡ []
unfolding downstreams if◌then◌otherwise◌
no_downstreams [] = refl
no_downstreams (q ∷ qs) = no_downstreams qs

within : (o : Order) → filled_rule o ≡ true → o.state.cumqty ≤ o.terms.qty
unfolding filled_rule
within o e = leb-true _ _ e

module _ (image : Book) (good : BookKept image) where
  abbrev name : ℕ → Text
  name j = (order_in image j).names.name

  -- a gateway's cancel request for the order of that name
  abbrev for_name : Text → Request → Bool
  for_name t q = is_gateway q && bears_name t (order_in image q.order)

  start_out : (t : Text) → out image t [] ≡ downstreams (for_name t) image.requests
  start_out t = if_false _ [] (held_out image t) refl

  of_order : (j : ℕ) → j < length image.orders → (k : ℕ) → k < length image.requests → bears_name (name j) (order_in image (request_in image k).order) ≡ eqb (request_in image k).order j
  of_order j h k l = bears_at image (kept_apart image good) j h image (persists_same image) (request_in image k).order (good.request k l).order

  start_none : (t : Text) → find_name image t ≡ None → out image t [] ≡ []
  start_none t w =
      start_out t
      ∙ downstreams_same (for_name t) (λ q. false) image.requests
      (λ k l. ap (λ (x : Bool). is_gateway (request_in image k) && x) (absent_at image t w (request_in image k).order (good.request k l).order) ∙ and-false (is_gateway (request_in image k)))
      ∙ no_downstreams image.requests

  start_counts : (j : ℕ) → j < length image.orders → Counts image image [] (name j) j
  start_counts j h = record {
    own = λ d x.
        let y = place_of (for_name (name j)) d image.requests (sym (ap (holds d) (start_out (name j))) ∙ x) in
        let (g, o) = and_parts _ _ y.passes in
        record {
          at = y.at;
          found = find_cong image d _ y.same ∙ found_downstream image good numbered_laws y.at y.below;
          by_gateway = g;
          of_order = eqb-true _ j (sym (of_order j h y.at y.below) ∙ o);
        };
    one = subst Distinct (sym (start_out (name j)))
        (distinct_places (for_name (name j)) image.requests (λ i k l m. downstreams_apart image good numbered_laws i k (omega arith) m (λ z. omega arith)));
    unanswered = λ hg d w a.
        let l : w.at < length image.requests = found_request image d w.at w.found in
        ap (holds d) (start_out (name j))
        ∙ in_place (for_name (name j)) d image.requests w.at l (and_from _ _ w.by_gateway (of_order j h w.at l ∙ eq-eqb _ j w.of_order))
        (same_back _ _ (found_text image d w.at w.found));
    tries = λ hg.
        omega (
          arith,
          none_failed (out image (name j) []),
          if_false false 0 (held_tries image (name j)) refl,
          maybe_some (find_name image (name j)) j 0 (λ i. (order_in image i).gateway.tries) (found_name image good j h),
        );
  }

  start_few : Few image
  start_few j hg = go (dec_lt j (length image.orders))
    where
      go : Dec (j < length image.orders) → (order_in image j).gateway.tries ≤ 3
      go (yes l) = tries_at (order_in image j).gateway (good.order j l).tries
      go (no l) = clash _ hg (ap has_gateway (get_or-eq_default image.orders no_order (omega arith)) ∙ no_gateway)

  start_sent : (gone : Text → Bool) → Sent gone image image []
  start_sent gone = record {
    sent_has = λ d h. inl (has d (or_cases (is_held image d) false h));
    cancel_sent = λ d k h c. ap (λ (x : Bool). x || false) (maybe_some _ k false (λ (j : ℕ). true) h);
    fail_answered = λ d h. clash false h refl;
  }
    where
      has : (d : Text) → (is_held image d ≡ true) ⊎ (false ≡ true) → (k : ℕ) × (find_downstream image d ≡ Some k)
      has d (inl h) = held_found image d h
      has d (inr h) = clash false h refl

  pub since_start : (gone : Text → Bool) → ((name : Text) → gone name ≡ false) → SinceImage gone image image []
  since_start gone none = record {
    told = told_start gone image good (λ j h. within (order_in image j) (good.order j h).filled);
    tries = record { sent = start_sent gone; orders = start_counts; absent = λ name w g. start_none name w; few = start_few };
    free = λ name g. clash _ g (none name);
    apart = kept_apart image good;
    placed = λ k l. (good.request k l).order;
  }
