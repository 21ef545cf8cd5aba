-- What `check` asks of what came of each request, and of the link of its OrigClOrdID. Rests on Taken, on machine's rules and on index's Links.
use Rattle.std.proofs.Common.{ℕ, ◌-◌, ◌<◌, arith, ◌≡◌, refl, sym, subst, ◌∙◌, ◌⊎◌, inl, inr, Bool, true, false, ◌&&◌, List, eqb, leb, ltb, length, eq-eqb, le-leb, lt-ltb}
use Rattle.std.proofs.Math.Decide.{ℕ_discrete}
use Rattle.std.proofs.lemmas.Bool.{and_from, and_parts, or_left}
use Rattle.prelude.specs.Below.{count_below}
use Rattle.prelude.specs.Laws.Below.{all_elim, all_intro}
use Rattle.prelude.specs.Cases.{if◌then◌otherwise◌}
use Rattle.prelude.specs.Laws.Cases.{if_true, if_false, clash}
use Rattle.store.specs.declared.Request.{Request}
use Rattle.store.specs.Book.{Book, book_of, request_in, request_count, origin_at}
use Rattle.store.specs.Laws.Stored.{length_requests}
use Rattle.machine.specs.Changes.{is_answered}
use Rattle.machine.specs.Orders.{is_empty}
use Rattle.machine.specs.Rules.{of_order, number_in, outcome_rule, origin_rule, rules}
use Rattle.index.specs.Index.{link_right, links_right, opens_right, indexed}
use Rattle.index.specs.Laws.Links.{Lower, Named, rule_lower, lower_rule, link_lower, lower_right}
use Rattle.rules.specs.Keeps.{ruled_of, keeps_of}
use Rattle.rules.specs.Laws.Ruled.{ruled_held}
use Rattle.rules.specs.Laws.Keeps.{keeps_held, keeps_links}
use Rattle.step.specs.Entries.{check_of}
use Rattle.claims.specs.Claims.{Exactly}
use Rattle.claims.specs.Outcomes.{RightOutcome, RightOrigin, Borne}
use Rattle.claims.proofs.Taken.{check_kept, kept_check}
use Rattle.machine.proofs.Kept.Consequences.{count_passed}
use Rattle.machine.proofs.Kept.Indexed.{OutcomeKept, outcome_kept, BookKept, book_kept}

-- ---- a request of a book that keeps its rules

outcome_ruled : (b : List ℕ) → keeps_of b ≡ true → (k : ℕ) → k < request_count b → outcome_rule (request_in (book_of b) k) ≡ true
outcome_ruled b g k l = ((book_kept (book_of b) (keeps_held b g).rules).request k (omega (arith, l, length_requests b))).outcome

pub ruled : (b : List ℕ) → keeps_of b ≡ true → (k : ℕ) → k < request_count b → OutcomeKept (request_in (book_of b) k)
ruled b g k l = outcome_kept (request_in (book_of b) k) (outcome_ruled b g k l)

-- so that one that is answered has another than 0
pub settled : (q : Request) → OutcomeKept q → is_answered q ≡ true → q.outcome ≡ 0 → ⊥
settled q r a z = let low : 0 < q.outcome = r.some a in omega arith

-- ---- what check asks

-- machine's rule of an outcome, as it is spelled out
right_outcome : (q : Request) → outcome_rule q ≡ true → RightOutcome q
right_outcome q e = let r : OutcomeKept q = outcome_kept q e in record { none = (λ z. unanswered r (is_answered q) refl z, r.none); most = r.most }
  where
    unanswered : OutcomeKept q → (a : Bool) → is_answered q ≡ a → q.outcome ≡ 0 → is_answered q ≡ false
    unanswered r true e z = absurd (settled q r e z)
    unanswered r false e z = e

outcome_right : (q : Request) → RightOutcome q → outcome_rule q ≡ true
unfolding outcome_rule
outcome_right q r = go (is_answered q) refl (ℕ_discrete q.outcome 0)
  where
    go : (a : Bool) → is_answered q ≡ a → Dec (q.outcome ≡ 0) → (if is_answered q then ltb 0 q.outcome && leb q.outcome 3 otherwise eqb q.outcome 0) ≡ true
    go true e (yes z) = clash _ e (r.none.0 z)
    go true e (no z) = if_true _ _ _ e ∙ and_from _ _ (lt-ltb 0 q.outcome (omega arith)) (le-leb q.outcome 3 r.most)
    go false e z = if_false _ _ _ e ∙ eq-eqb q.outcome 0 (r.none.1 e)

pub alone : (q : Request) → Exactly (outcome_rule q ≡ true) (RightOutcome q)
alone q = (right_outcome q, outcome_right q)

-- machine's rule of an OrigClOrdID, too
pub borne : (b : List ℕ) (k : ℕ) → Exactly (origin_rule (book_of b).requests k ≡ true) ((is_empty (request_in (book_of b) k).origclordid ≡ true) ⊎ Borne b k)
borne b k = (λ e. go e (is_empty (request_in (book_of b) k).origclordid) refl, back)
  where
    go : origin_rule (book_of b).requests k ≡ true → (v : Bool) → is_empty (request_in (book_of b) k).origclordid ≡ v
        → (is_empty (request_in (book_of b) k).origclordid ≡ true) ⊎ Borne b k
    go e true z = inl z
    go e false z =
        let n : Named (book_of b) k = rule_lower (book_of b) k z e in
        inr (record { at = n.at; below = n.lower.below; order = n.lower.order; text = n.lower.text })

    back : (is_empty (request_in (book_of b) k).origclordid ≡ true) ⊎ Borne b k → origin_rule (book_of b).requests k ≡ true
    back (inl z) = unfold origin_rule in or_left _ _ z
    back (inr n) = lower_rule (book_of b) k n.at (record { below = n.below; order = n.order; text = n.text })

-- ---- the links of a book that keeps machine's rules

module _ (b : List ℕ) (r : rules (book_of b) ≡ true) where
  abbrev x : Book
  x = book_of b

  of_book : BookKept x
  of_book = book_kept x r

  booked : (j : ℕ) → j < length x.requests → (request_in x j).order < length x.orders
  booked j l = (of_book.request j l).order

  right_link : links_right b ≡ true → (k : ℕ) → k < request_count b → RightOrigin b k
  unfolding links_right
  right_link t k l = go (is_empty (request_in x k).origclordid) refl
    where
      go : (v : Bool) → is_empty (request_in x k).origclordid ≡ v → RightOrigin b k
      go true z = inl z
      go false z =
          let here : k < length x.requests = omega (arith, l, length_requests b) in
          let (above, low) = link_lower b booked of_book.keys k here z (of_book.request k here).origin (all_elim (link_right b) (request_count b) t k l) in
          let j : ℕ = origin_at b k - 1 in
          inr (record {
            at = j;
            link = omega (arith, above);
            below = low.below;
            order = low.order;
            number = unfold number_in in
                subst (λ (o : ℕ). count_below (of_order x.requests o) j < count_below (of_order x.requests (request_in x k).order) k) (sym low.order)
                (count_passed (of_order x.requests (request_in x k).order) j k low.below (eq-eqb _ _ low.order));
            text = low.text;
          })

  link_is_right : ((k : ℕ) → k < request_count b → RightOrigin b k) → links_right b ≡ true
  unfolding links_right
  link_is_right t = all_intro (link_right b) (request_count b) (λ k l. go k l (is_empty (request_in x k).origclordid) refl (t k l))
    where
      go : (k : ℕ) → k < request_count b → (v : Bool) → is_empty (request_in x k).origclordid ≡ v → RightOrigin b k → link_right b k ≡ true
      go k l true z q = unfold link_right in or_left _ _ z
      go k l false z (inl e) = clash _ e z
      go k l false z (inr e) =
          let is : e.at ≡ origin_at b k - 1 = omega (arith, e.link) in
          lower_right b booked of_book.keys k (omega (arith, l, length_requests b)) z (omega (arith, e.link))
          (subst (Lower x k) is (record { below = e.below; order = e.order; text = e.text }))

pub rule : (b : List ℕ) → check_of b ≡ 0 → (k : ℕ) → k < request_count b → RightOutcome (request_in (book_of b) k) × RightOrigin b k
rule b z k l =
    let g : keeps_of b ≡ true = kept_check b z in
    (right_outcome (request_in (book_of b) k) (outcome_ruled b g k l), right_link b (keeps_held b g).rules (keeps_links b g) k l)

pub links : (b : List ℕ) → ruled_of b ≡ true → Exactly (links_right b ≡ true) ((k : ℕ) → k < request_count b → RightOrigin b k)
links b r = (right_link b (ruled_held b r).rules, link_is_right b (ruled_held b r).rules)

-- ---- no more is asked

pub exact : (b : List ℕ) → Exactly (check_of b ≡ 0) ((ruled_of b ≡ true) × (opens_right b ≡ true) × (links_right b ≡ true))
unfolding keeps_of indexed
exact b = (λ z. parts (kept_check b z), λ (r, o, t). check_kept b (and_from (ruled_of b) (links_right b && opens_right b) r (and_from (links_right b) (opens_right b) t o)))
  where
    parts : ruled_of b && (links_right b && opens_right b) ≡ true → (ruled_of b ≡ true) × (opens_right b ≡ true) × (links_right b ≡ true)
    parts e =
        let p = and_parts (ruled_of b) (links_right b && opens_right b) e in
        let q = and_parts (links_right b) (opens_right b) p.1 in
        (p.0, q.1, q.0)
