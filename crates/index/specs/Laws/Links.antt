-- An OrigClOrdID's link. If the ClOrdIDs of a client are distinct, machine's rule of a request's OrigClOrdID and index's rule of its link say together that the
-- link names a request of the same order, numbered lower, with the OrigClOrdID as its ClOrdID. Rests on Named.
use Rattle.std.specs.Prelude.{◌≡◌, ℕ, ◌+◌, ◌-◌, ◌<◌, Bool, true, false, not, ◌&&◌, ◌||◌, List, Option, None, Some, eqb, leb, ltb, length, get_or, refl}
use Rattle.std.proofs.Common.{arith, sym, ap, subst, ◌∙◌, eqb-true, eq-eqb, ltb-true, lt-ltb, leb-true, le-leb}
use Rattle.std.proofs.lemmas.Bool.{and_parts, and_from}
use Rattle.std.specs.Cmp.{both_ways}
use Rattle.prelude.specs.Below.{all_below, first_below}
use Rattle.prelude.specs.Laws.Below.{First, all_intro, all_miss, first_elim, first_some}
use Rattle.prelude.specs.Laws.Cases.{clash, maybe_some}
use Rattle.prelude.specs.Texts.{same_text}
use Rattle.prelude.specs.Laws.Texts.{same_length}
use Rattle.store.specs.declared.Request.{Request}
use Rattle.store.specs.Requests.{no_request}
use Rattle.store.specs.Book.{Book, book_of, order_in, request_in, origin_at}
use Rattle.store.specs.Finds.{find_clordid}
use Rattle.machine.specs.Orders.{is_empty}
use Rattle.machine.specs.Rules.{bears_origin, origin_rule, client_of, same_key}
use Rattle.index.specs.Index.{origin_of, link_right}
use Rattle.index.specs.Laws.Named.{bears_found}

-- request j is of request k's order, numbered lower, and has the OrigClOrdID of request k as its ClOrdID
pub record Lower (x : Book) (k j : ℕ) : Type 0 where
  pub below : j < k
  pub order : (request_in x j).order ≡ (request_in x k).order
  pub text : same_text (request_in x j).clordid (request_in x k).origclordid ≡ true

-- there is one
pub record Named (x : Book) (k : ℕ) : Type 0 where
  pub at : ℕ
  pub lower : Lower x k at

-- the request of a link is such a one, as the code decides it
unfoldable pub backs : List Request → (k link : ℕ) → Bool
backs qs k link =
    ltb 0 link && leb link k && eqb (get_or qs (link - 1) no_request).order (get_or qs k no_request).order
    && same_text (get_or qs (link - 1) no_request).clordid (get_or qs k no_request).origclordid

module _ (x : Book) (k : ℕ) where
  bears_lower : (j : ℕ) → j < k → bears_origin x.requests k j ≡ true → Lower x k j
  bears_lower j h e =
      let p = and_parts (eqb (request_in x j).order (request_in x k).order) (same_text (request_in x j).clordid (request_in x k).origclordid) e in
      record { below = h; order = eqb-true _ _ p.0; text = p.1 }

  lower_bears : (j : ℕ) → Lower x k j → bears_origin x.requests k j ≡ true
  lower_bears j l = and_from _ _ (eq-eqb _ _ l.order) l.text

  pub backs_lower : (link : ℕ) → backs x.requests k link ≡ true → (0 < link) × Lower x k (link - 1)
  unfolding backs
  backs_lower link e =
      let (e, t) = and_parts _ (same_text (request_in x (link - 1)).clordid (request_in x k).origclordid) e in
      let (e, o) = and_parts _ (eqb (request_in x (link - 1)).order (request_in x k).order) e in
      let (a, w) = and_parts (ltb 0 link) (leb link k) e in
      (ltb-true 0 link a, record { below = omega (arith, ltb-true 0 link a, leb-true link k w); order = eqb-true _ _ o; text = t })

  pub lower_backs : (link : ℕ) → 0 < link → Lower x k (link - 1) → backs x.requests k link ≡ true
  unfolding backs
  lower_backs link h l =
      and_from _ _ (and_from _ _ (and_from _ _ (lt-ltb 0 link h) (le-leb link k (omega (arith, l.below)))) (eq-eqb _ _ l.order)) l.text

  -- machine's rule is that there is one
  pub lower_rule : (j : ℕ) → Lower x k j → origin_rule x.requests k ≡ true
  unfolding origin_rule
  lower_rule j l =
      let e : all_below (λ i. not (bears_origin x.requests k i)) k ≡ false =
      all_miss (λ i. not (bears_origin x.requests k i)) k j l.below (ap not (lower_bears j l)) in
      go (is_empty (request_in x k).origclordid) _ e
    where
      go : (u v : Bool) → v ≡ false → u || not v ≡ true
      go true v e = refl
      go false v e = ap not e

  module _ (some : is_empty (request_in x k).origclordid ≡ false) where
    pub rule_lower : origin_rule x.requests k ≡ true → Named x k
    unfolding origin_rule
    rule_lower e = go (first_below (bears_origin x.requests k) k) refl
      where
        go : (v : Option ℕ) → first_below (bears_origin x.requests k) k ≡ v → Named x k
        go (Some j) f =
            let is : First (bears_origin x.requests k) k j = first_some (bears_origin x.requests k) k j f in
            record { at = j; lower = bears_lower j is.below is.passes }
        go None f =
            let none : all_below (λ i. not (bears_origin x.requests k i)) k ≡ true =
            all_intro (λ i. not (bears_origin x.requests k i)) k (λ i h. ap not (first_elim (bears_origin x.requests k) k f i h)) in
            absurd (clash false (rw (some, none) at e) refl)

    -- it is what the OrigClOrdID names
    module _ (booked : (j : ℕ) → j < length x.requests → (request_in x j).order < length x.orders)
        (keys : (i j : ℕ) → i < length x.requests → j < i → same_key x i j ≡ false) (here : k < length x.requests) where
      pub lower_found : (j : ℕ) → Lower x k j → find_clordid x (client_of x k) (request_in x k).origclordid ≡ Some j
      lower_found j l =
          let used : j < length x.requests = omega (arith, l.below) in
          bears_found x (client_of x k) (request_in x k).origclordid keys j
          (record {
            used = used;
            named = ap not (ap (λ (n : ℕ). eqb n 0) (same_length (request_in x j).clordid (request_in x k).origclordid l.text) ∙ some);
            same = l.text;
            booked = booked j used;
            whose = ap (λ (i : ℕ). (order_in x i).client) l.order;
          })

      pub lower_link : (j : ℕ) → Lower x k j → origin_of x (client_of x k) (request_in x k).origclordid ≡ j + 1
      unfolding origin_of
      lower_link j l = maybe_some (find_clordid x (client_of x k) (request_in x k).origclordid) j 0 (λ k. k + 1) (lower_found j l)

-- ---- on bytes

module _ (b : List ℕ) (booked : (j : ℕ) → j < length (book_of b).requests → (request_in (book_of b) j).order < length (book_of b).orders)
    (keys : (i j : ℕ) → i < length (book_of b).requests → j < i → same_key (book_of b) i j ≡ false) (k : ℕ) (here : k < length (book_of b).requests) where
  abbrev x : Book
  x = book_of b

  module _ (some : is_empty (request_in x k).origclordid ≡ false) where
    -- the request of the link that is stored
    pub link_lower : origin_rule x.requests k ≡ true → link_right b k ≡ true → (0 < origin_at b k) × Lower x k (origin_at b k - 1)
    unfolding link_right
    link_lower r e =
        let n : Named x k = rule_lower x k some r in
        let is : origin_at b k ≡ origin_of x (client_of x k) (request_in x k).origclordid = eqb-true _ _ (rw some at e) in
        let link : origin_at b k ≡ n.at + 1 = is ∙ lower_link x k some booked keys here n.at n.lower in
        (omega arith, subst (Lower x k) (omega arith) n.lower)

    pub lower_right : 0 < origin_at b k → Lower x k (origin_at b k - 1) → link_right b k ≡ true
    unfolding link_right
    lower_right h l =
        let is : origin_of x (client_of x k) (request_in x k).origclordid ≡ origin_at b k = lower_link x k some booked keys here (origin_at b k - 1) l ∙ omega arith in
        rw some (eq-eqb _ _ (sym is))

  -- THE LAW of one request
  pub linked_here : origin_rule x.requests k && link_right b k ≡ is_empty (request_in x k).origclordid || backs x.requests k (origin_at b k)
  linked_here = go (is_empty (request_in x k).origclordid) refl
    where
      go : (v : Bool) → is_empty (request_in x k).origclordid ≡ v → origin_rule x.requests k && link_right b k ≡ is_empty (request_in x k).origclordid || backs x.requests k (origin_at b k)
      go true e = unfold origin_rule link_right in rw e
      go false e =
          both_ways _ (backs x.requests k (origin_at b k))
          (λ t. let (r, q) = and_parts (origin_rule x.requests k) (link_right b k) t in let (a, l) = link_lower e r q in lower_backs x k (origin_at b k) a l)
          (λ t. let (a, l) = backs_lower x k (origin_at b k) t in and_from _ _ (lower_rule x k (origin_at b k - 1) l) (lower_right e a l))
          ∙ rw e
