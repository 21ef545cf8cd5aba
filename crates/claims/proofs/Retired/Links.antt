-- The links beside the requests' fields after a retirement are right: that of a request which was there names the one that it named, and that of one which moves the
-- same one in its new place. Rests on Requests and on index's Links.
use Rattle.std.specs.Prelude.{ℕ, ◌+◌, ◌-◌, ◌<◌, ◌≡◌, Bool, true, false, List, length, refl}
use Rattle.std.proofs.Common.{arith, sym, ap, subst, ◌∙◌, ⊎_elim}
use Rattle.prelude.specs.Below.{count_below}
use Rattle.prelude.specs.Laws.Below.{all_elim, all_intro}
use Rattle.store.specs.declared.Request.{Request}
use Rattle.store.specs.Book.{Book, book_of, request_in, request_count, origin_at}
use Rattle.store.specs.Laws.Stored.{length_requests}
use Rattle.machine.specs.Orders.{is_empty}
use Rattle.machine.specs.Whole.{WholeBook}
use Rattle.machine.proofs.Kept.Indexed.{BookKept}
use Rattle.index.specs.Index.{link_right, links_right}
use Rattle.index.specs.Laws.Links.{Lower, link_lower, lower_right}
use Rattle.machine.proofs.Kept.Laws.{decide}
use Rattle.parts.specs.Parts.{of_passing, moved_request, joined}
use Rattle.parts.specs.Laws.Ranks.{rank_below}
use Rattle.parts.specs.Laws.Joined.{joined_old_request, joined_request, FromRequest, request_from}
use Rattle.retire.specs.Retire.{moved_origin}
use Rattle.claims.proofs.Retired.Requests.{before, along, origin_is}

module _ (p : ℕ → Bool) (was into : List ℕ) (good : BookKept (joined p (book_of into) (book_of was))) (old : BookKept (book_of was)) (whole : WholeBook (book_of was))
    (links : links_right was ≡ true) (there : BookKept (book_of into)) (linked : links_right into ≡ true) where
  abbrev W : Book
  W = book_of was

  abbrev O : Book
  O = book_of into

  abbrev J : Book
  J = joined p O W

  abbrev q : ℕ → Bool
  q = of_passing p W

  abbrev M : ℕ
  M = length O.requests

  module _ (d : List ℕ) (is : book_of d ≡ J) (origin_old : (j : ℕ) → j < M → origin_at d j ≡ origin_at into j)
      (origin_new : (j : ℕ) → j < length W.requests → q j ≡ true → origin_at d (M + count_below q j) ≡ moved_origin p was M j) where
    -- the request that the link names, in the joined book
    abbrev Names : ℕ → Type 0
    Names k = is_empty (request_in J k).origclordid ≡ false → (0 < origin_at d k) × Lower J k (origin_at d k - 1)

    names_old : (k : ℕ) → k < M → Names k
    names_old k h some =
        let same : request_in J k ≡ request_in O k = joined_old_request p O W k h in
        let right : (k : ℕ) → k < request_count into → link_right into k ≡ true = all_elim (link_right into) (request_count into) (unfold links_right in linked) in
        let l = link_lower into (λ k l. (there.request k l).order) there.keys k h (ap (λ (r : Request). is_empty r.origclordid) (sym same) ∙ some) (there.request k h).origin (right k (omega (arith, length_requests into))) in
        let b : origin_at into k - 1 < k = l.1.below in
        let lower : request_in J (origin_at into k - 1) ≡ request_in O (origin_at into k - 1) = joined_old_request p O W (origin_at into k - 1) (omega arith) in
        subst (λ (n : ℕ). (0 < n) × Lower J k (n - 1)) (sym (origin_old k h))
        (l.0, record { below = b; order = rw (same, lower) l.1.order; text = rw (same, lower) l.1.text })

    names_new : (k : ℕ) → FromRequest p O W k → Names k
    unfolding moved_request
    names_new k f some =
        let j : ℕ = f.at in
        let some' : is_empty (request_in W j).origclordid ≡ false = ap (λ (r : Request). is_empty r.origclordid) (sym f.is) ∙ some in
        let l = before p was into good old whole links j f.below f.passes some' in
        let goes : q (origin_at was j - 1) ≡ true = along p was into good old whole links j f.below f.passes some' in
        let b : origin_at was j - 1 < j = l.1.below in
        let r : count_below q (origin_at was j - 1) < count_below q j = rank_below q (origin_at was j - 1) j b goes in
        let place : k ≡ M + count_below q j = f.place in
        let o : origin_at d k ≡ M + count_below q (origin_at was j - 1) + 1 = ap (origin_at d) place ∙ origin_new j f.below f.passes ∙ origin_is p was into good old whole links j f.below f.passes some' in
        let at : origin_at d k - 1 ≡ M + count_below q (origin_at was j - 1) = omega arith in
        let lower : request_in J (origin_at d k - 1) ≡ moved_request p (length O.orders) (request_in W (origin_at was j - 1)) =
        ap (request_in J) at ∙ joined_request p O W (origin_at was j - 1) (omega (arith, f.below)) goes in (
          omega arith,
          record {
            below = omega arith;
            order = ap (λ (x : Request). x.order) lower ∙ ap (λ (n : ℕ). length O.orders + count_below p n) l.1.order ∙ ap (λ (x : Request). x.order) (sym f.is);
            text = rw (lower, f.is) l.1.text;
          },
        )

    names : (k : ℕ) → k < length J.requests → Names k
    names k h = ⊎_elim (names_old k) (names_new k) (request_from p O W k h)

    pub links_moved : links_right d ≡ true
    unfolding links_right
    links_moved = all_intro (link_right d) (request_count d) each
      where
        kept : BookKept (book_of d)
        kept = subst BookKept (sym is) good

        each : (k : ℕ) → k < request_count d → link_right d k ≡ true
        each k h =
            let h' : k < length (book_of d).requests = omega (arith, length_requests d) in
            decide (is_empty (request_in (book_of d) k).origclordid) (λ t. unfold link_right in rw t refl)
            (λ t. let n = subst (λ (x : Book). is_empty (request_in x k).origclordid ≡ false → (0 < origin_at d k) × Lower x k (origin_at d k - 1)) (sym is)
            (names k (subst (λ (x : Book). k < length x.requests) is h')) t in
            lower_right d (λ i l. (kept.request i l).order) kept.keys k h' t n.0 n.1)
