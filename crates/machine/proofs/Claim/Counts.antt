-- The tries of gateway cancels since an image, one call: what holds by names goes on. Rests on Turn and Sent.
use Rattle.std.proofs.Common.{ℕ, ◌+◌, ◌<◌, arith, ◌≡◌, refl, sym, ap, ◌∙◌, subst, ◌⊎◌, inl, inr, Bool, true, false, not, ◌&&◌, ◌||◌, Option, None, Some, List, [], ◌∷◌, ◌++◌, append-nil, eqb, length, length-append}
use Rattle.std.proofs.Math.Bool.{and-false, and-true}
use Rattle.std.proofs.lemmas.Bool.{and_parts, or_cases, cases_Bool, or_from, or_left, or_right}
use Rattle.prelude.specs.Cases.{if◌then◌otherwise◌}
use Rattle.prelude.specs.Laws.Cases.{split_if, clash, if_false, none_some, same_some}
use Rattle.prelude.specs.Laws.Texts.{same_back}
use Rattle.prelude.specs.Totals.{how_many, those}
use Rattle.prelude.specs.Laws.Totals.{many_append}
use Rattle.prelude.specs.declared.Text.{Text}
use Rattle.store.specs.Book.{Book, order_in, request_in}
use Rattle.store.specs.Finds.{find_downstream}
use Rattle.machine.specs.Orders.{has_gateway}
use Rattle.machine.specs.Changes.{is_cancel, is_answered}
use Rattle.machine.specs.Claim.{holds, of_kind, cancels_in, once, sent, answered_in, is_for, begins, fails, failed, put_out_by}
use Rattle.machine.specs.History.{Entry}
use Rattle.machine.specs.Since.{is_held, known, new_out, base_tries}
use Rattle.machine.proofs.Kept.Laws.{or_map}
use Rattle.machine.proofs.Claim.Filled.{Persists}
use Rattle.machine.proofs.Claim.Tries.{begins_at, Distinct, holds_self, holds_one, many_same, many_one, find_cong, answered_at, answered_some, fails_cong, Own}
use Rattle.machine.proofs.Claim.Rounds.{Placed, Apart}
use Rattle.machine.proofs.Claim.Turn.{gateway_same, cancel_same, once_one, once_none, still_held, new_held, own_new, distinct_new, new_put, Goes, silent, repeated, fresh, new_of, Tried, begun, goes_on_lem, fell, Turn}
use Rattle.machine.proofs.Claim.Sent.{out, OfGone, Sent, Counts, for_at, begins_same, begun_new, begun_out, begun_tries, goes_new, goes_out, goes_tries}

module _ (gone : Text → Bool) (image : Book) (e : Entry) (past : List Entry) (apart : Apart e.left) (placed : Placed e.left) (p : Persists e.before e.left) (t : Turn e)
    -- a request of the book is of no order that went
    (of_none : (d : Text) (k : ℕ) → find_downstream e.left d ≡ Some k → OfGone gone d → ⊥) (s : Sent gone image e.before past) where
  grown : (d : Text) → ((k : ℕ) × (find_downstream e.before d ≡ Some k)) → (k : ℕ) × (find_downstream e.left d ≡ Some k)
  grown d (k, w) = (k, (t.grows d k w).0)

  -- a request that is new has not gone out, and has not failed
  unsent : (d : Text) (k : ℕ) → find_downstream e.left d ≡ Some k → find_downstream e.before d ≡ None → known image d past ≡ false
  unsent d k v h = go (cases_Bool (known image d past))
    where
      had : ((k : ℕ) × (find_downstream e.before d ≡ Some k)) ⊎ OfGone gone d → known image d past ≡ false
      had (inl w) = none_some h w.1
      had (inr g) = absurd (of_none d k v g)

      go : (known image d past ≡ true) ⊎ (known image d past ≡ false) → known image d past ≡ false
      go (inl w) = had (s.sent_has d w)
      go (inr w) = w

  unfailed : (d : Text) (k : ℕ) → find_downstream e.left d ≡ Some k → find_downstream e.before d ≡ None → failed past d ≡ false
  unfailed d k v h = go (cases_Bool (failed past d))
    where
      had : ((k : ℕ) × (find_downstream e.before d ≡ Some k) × (is_answered (request_in e.before k) ≡ true)) ⊎ OfGone gone d → failed past d ≡ false
      had (inl w) = none_some h w.1
      had (inr g) = absurd (of_none d k v g)

      go : (failed past d ≡ true) ⊎ (failed past d ≡ false) → failed past d ≡ false
      go (inl w) = had (s.fail_answered d w)
      go (inr w) = w

  unfailed_yet : (d : Text) (k : ℕ) → find_downstream e.before d ≡ Some k → is_answered (request_in e.before k) ≡ false → failed past d ≡ false
  unfailed_yet d k h a = go (cases_Bool (failed past d))
    where
      had : ((k : ℕ) × (find_downstream e.before d ≡ Some k) × (is_answered (request_in e.before k) ≡ true)) ⊎ OfGone gone d → failed past d ≡ false
      had (inl (k', x, y)) = clash _ (ap (λ (n : ℕ). is_answered (request_in e.before n)) (same_some h x) ∙ y) a
      had (inr g) = absurd (of_none d k (t.grows d k h).0 g)

      go : (failed past d ≡ true) ⊎ (failed past d ≡ false) → failed past d ≡ false
      go (inl w) = had (s.fail_answered d w)
      go (inr w) = w

  -- a record after the call was there before, or is new
  comes : (d : Text) (k : ℕ) → find_downstream e.left d ≡ Some k → (find_downstream e.before d ≡ Some k) ⊎ (find_downstream e.before d ≡ None)
  comes d k h = go (find_downstream e.before d) refl
    where
      go : (x : Option ℕ) → find_downstream e.before d ≡ x → (find_downstream e.before d ≡ Some k) ⊎ (find_downstream e.before d ≡ None)
      go None w = inr w
      go (Some k') w = inl (w ∙ ap Some (same_some (t.grows d k' w).0 h))

  -- ---- what was sent

  went_out : Goes e → (d : Text) → holds d (cancels_in e.messages) ≡ true → (k : ℕ) × (find_downstream e.left d ≡ Some k)
  went_out (silent m n) d h = clash false (ap (holds d) (sym m) ∙ h) refl
  went_out (repeated d₀ k m w c n) d h = (k, find_cong e.left d d₀ (holds_one d d₀ (ap (holds d) (sym m) ∙ h)) ∙ (t.grows d₀ k w).0)
  went_out (fresh d₀ k m w v g a n) d h = (k, find_cong e.left d d₀ (holds_one d d₀ (ap (holds d) (sym m) ∙ h)) ∙ v)

  new_cancel : Goes e → (d : Text) (k : ℕ) → find_downstream e.left d ≡ Some k → find_downstream e.before d ≡ None → is_cancel (request_in e.left k) ≡ true
      → holds d (cancels_in e.messages) ≡ true
  new_cancel (silent m n) d k h w c = clash _ c (n d k h w)
  new_cancel (repeated d₀ k₀ m w₀ c₀ n) d k h w c = clash _ c (n d k h w)
  new_cancel (fresh d₀ k₀ m w₀ v g a n) d k h w c = ap (holds d) m ∙ holds_self d d₀ [] (same_back d₀ d (n d k h w))

  pub sent_next : Sent gone image e.left (e ∷ past)
  sent_next = record {
    sent_has = λ d h. has d (or_cases (is_held image d) (sent d (e ∷ past)) h);
    cancel_sent = λ d k h c. was d k h c (comes d k h);
    fail_answered = λ d h. answered d (or_cases (fails e d) (failed past d) h);
  }
    where
      had : (d : Text) → known image d past ≡ true → ((k : ℕ) × (find_downstream e.left d ≡ Some k)) ⊎ OfGone gone d
      had d h = go (s.sent_has d h)
        where
          go : ((k : ℕ) × (find_downstream e.before d ≡ Some k)) ⊎ OfGone gone d → ((k : ℕ) × (find_downstream e.left d ≡ Some k)) ⊎ OfGone gone d
          go (inl w) = inl (grown d w)
          go (inr g) = inr g

      sends : (d : Text) → (holds d (cancels_in e.messages) ≡ true) ⊎ (sent d past ≡ true) → ((k : ℕ) × (find_downstream e.left d ≡ Some k)) ⊎ OfGone gone d
      sends d (inl h) = inl (went_out t.goes d h)
      sends d (inr h) = had d (or_right (is_held image d) _ h)

      has : (d : Text) → (is_held image d ≡ true) ⊎ (sent d (e ∷ past) ≡ true) → ((k : ℕ) × (find_downstream e.left d ≡ Some k)) ⊎ OfGone gone d
      has d (inl h) = had d (or_left _ (sent d past) h)
      has d (inr h) = sends d (or_cases (holds d (cancels_in e.messages)) (sent d past) h)

      was : (d : Text) (k : ℕ) → find_downstream e.left d ≡ Some k → is_cancel (request_in e.left k) ≡ true
          → (find_downstream e.before d ≡ Some k) ⊎ (find_downstream e.before d ≡ None) → known image d (e ∷ past) ≡ true
      was d k h c (inl w) =
          or_map (is_held image d) (sent d past) (λ x. x) (λ x. or_right (holds d (cancels_in e.messages)) _ x) (s.cancel_sent d k w (sym (cancel_same _ _ (t.grows d k w).1) ∙ c))
      was d k h c (inr w) = or_right (is_held image d) _ (or_left _ (sent d past) (new_cancel t.goes d k h w c))

      kept : (d : Text) → ((k : ℕ) × (find_downstream e.before d ≡ Some k) × (is_answered (request_in e.before k) ≡ true)) ⊎ OfGone gone d
          → ((k : ℕ) × (find_downstream e.left d ≡ Some k) × (is_answered (request_in e.left k) ≡ true)) ⊎ OfGone gone d
      kept d (inl (k, w, a)) = let (v, m) = t.grows d k w in inl (k, v, m.answered a)
      kept d (inr g) = inr g

      answered : (d : Text) → (fails e d ≡ true) ⊎ (failed past d ≡ true)
          → ((k : ℕ) × (find_downstream e.left d ≡ Some k) × (is_answered (request_in e.left k) ≡ true)) ⊎ OfGone gone d
      answered d (inl h) = inl (answered_some e.left d (and_parts (not (answered_in e.before d)) (answered_in e.left d) (and_parts (of_kind 7 e.input) _ h).1).1)
      answered d (inr h) = kept d (s.fail_answered d h)

  -- ---- one order

  module _ (j : ℕ) (h : j < length e.left.orders) (a : Counts image e.before past (order_in e.left j).names.name j) where
    abbrev name : Text
    name = (order_in e.left j).names.name

    abbrev news : List Text
    news = new_of t.goes j

    -- what the line puts out
    puts : (g : Goes e) → put_out_by (known image) name e past ≡ new_of g j
    unfolding new_of if◌then◌otherwise◌ put_out_by
    puts (silent m n) =
        split_if (λ (l : List Text). l ≡ []) (of_kind 2 e.input) (λ c. refl)
        (λ c. ap (λ (l : List Text). those (λ d. is_for name e.left d && not (known image d past)) (once l)) m ∙ ap (those (λ d. is_for name e.left d && not (known image d past))) once_none)
    puts (repeated d k m w c n) =
        split_if (λ (l : List Text). l ≡ []) (of_kind 2 e.input) (λ c. refl)
        (λ c'. ap (λ (l : List Text). those (λ d. is_for name e.left d && not (known image d past)) (once l)) m
        ∙ ap (those (λ d. is_for name e.left d && not (known image d past))) (once_one d)
        ∙ if_false _ (d ∷ []) [] (ap (λ (x : Bool). is_for name e.left d && not x) (s.cancel_sent d k w c) ∙ and-false (is_for name e.left d)))
    puts (fresh d k m w v g a n) = go (of_kind 2 e.input)
      where
        held : (if is_for name e.left d && not (known image d past) then d ∷ [] otherwise []) ≡ (if eqb (request_in e.left k).order j then d ∷ [] otherwise [])
        held =
            ap (λ (x : Bool). if is_for name e.left d && not x then d ∷ [] otherwise []) (unsent d k v w)
            ∙ ap (λ (x : Bool). if x then d ∷ [] otherwise []) (and-true (is_for name e.left d) ∙ for_at e.left apart j h placed d k v)

        go : (x : Bool) → (if x then [] otherwise those (λ d. is_for name e.left d && not (known image d past)) (once (cancels_in e.messages)))
            ≡ (if not x && eqb (request_in e.left k).order j then d ∷ [] otherwise [])
        go true = refl
        go false =
            ap (λ (l : List Text). those (λ d. is_for name e.left d && not (known image d past)) (once l)) m
            ∙ ap (those (λ d. is_for name e.left d && not (known image d past))) (once_one d)
            ∙ held

    begins_is : begins name e ≡ begins_at j e
    begins_is = begins_same e.left apart j h e p

    -- what counts after the call
    recounted : begins_at j e ≡ true → out image name (e ∷ past) ≡ news ++ []
    recounted b = begun_out image name e past (begins_is ∙ b) ∙ ap (λ (l : List Text). l ++ []) (puts t.goes)

    counted : begins_at j e ≡ false → out image name (e ∷ past) ≡ news ++ out image name past
    counted b = goes_out image name e past (begins_is ∙ b) ∙ ap (λ (l : List Text). l ++ out image name past) (puts t.goes)

    older : (d : Text) → Own j e.before d → Own j e.left d
    older d w =
        let (v, m) = t.grows d w.at w.found in
        record { at = w.at; found = v; by_gateway = gateway_same _ _ m ∙ w.by_gateway; of_order = m.order ∙ w.of_order }

    unheld : (d : Text) → find_downstream e.before d ≡ None → holds d (out image name past) ≡ false
    unheld d w = go (cases_Bool (holds d (out image name past)))
      where
        go : (holds d (out image name past) ≡ true) ⊎ (holds d (out image name past) ≡ false) → holds d (out image name past) ≡ false
        go (inl h) = none_some w (a.own d h).found
        go (inr h) = h

    -- a gateway request that is not answered counts still
    unanswered_kept : has_gateway (order_in e.left j) ≡ true → (d : Text) (w : Own j e.left d) → is_answered (request_in e.left w.at) ≡ false → holds d (out image name (e ∷ past)) ≡ true
    unanswered_kept hg d w u = go (comes d w.at w.found)
      where
        counts : holds d (out image name past) ≡ true → begins_at j e ≡ false → holds d (out image name (e ∷ past)) ≡ true
        counts x b = ap (holds d) (counted b) ∙ still_held news (out image name past) d x

        old : (v : Own j e.before d) → is_answered (request_in e.before v.at) ≡ false → Tried j e news → holds d (out image name (e ∷ past)) ≡ true
        old v x (begun b all m) = clash _ (all d v) x
        old v x (goes_on_lem b g f m) = counts (a.unanswered g d v x) b
        old v x (fell b g z l d₀ w₀ u₀ f fs m) = counts (a.unanswered g d v x) b

        new : find_downstream e.before d ≡ None → (begins_at j e ≡ true) ⊎ (begins_at j e ≡ false) → holds d (out image name (e ∷ past)) ≡ true
        new h (inl b) = ap (holds d) (recounted b) ∙ new_held news [] d (new_put e j t.goes d w h)
        new h (inr b) = ap (holds d) (counted b) ∙ new_held news (out image name past) d (new_put e j t.goes d w h)

        go : (find_downstream e.before d ≡ Some w.at) ⊎ (find_downstream e.before d ≡ None) → holds d (out image name (e ∷ past)) ≡ true
        go (inl h) =
            let m = (t.grows d w.at h).1 in
            old (record { at = w.at; found = h; by_gateway = sym (gateway_same _ _ m) ∙ w.by_gateway; of_order = sym m.order ∙ w.of_order })
            (before (cases_Bool (is_answered (request_in e.before w.at))) m.answered) (t.tried j hg)
          where
            before : (is_answered (request_in e.before w.at) ≡ true) ⊎ (is_answered (request_in e.before w.at) ≡ false)
                → (is_answered (request_in e.before w.at) ≡ true → is_answered (request_in e.left w.at) ≡ true) → is_answered (request_in e.before w.at) ≡ false
            before (inl y) k = clash _ (k y) u
            before (inr y) k = y
        go (inr h) = new h (cases_Bool (begins_at j e))

    -- a request put out now has not failed
    new_failed : (g : Goes e) → how_many (failed (e ∷ past)) (new_of g j) ≡ 0
    unfolding new_of
    new_failed (silent m n) = refl
    new_failed (repeated d k m w c n) = refl
    new_failed (fresh d k m w v g u n) =
        split_if (λ (l : List Text). how_many (failed (e ∷ past)) l ≡ 0) _ (λ z. ap (λ (x : ℕ). x + 0) (if_false (failed (e ∷ past) d) 1 0 (or_from _ _ no! (unfailed d k v w)))) (λ z. refl)
      where
        no! : fails e d ≡ false
        no! =
            ap (λ (x : Bool). of_kind 7 e.input && (not (answered_in e.before d) && x)) (answered_at e.left d k v ∙ u)
            ∙ ap (λ (x : Bool). of_kind 7 e.input && x) (and-false (not (answered_in e.before d)))
            ∙ and-false (of_kind 7 e.input)

    tries_kept : has_gateway (order_in e.left j) ≡ true
        → (order_in e.left j).gateway.tries + how_many (failed (e ∷ past)) (out image name (e ∷ past)) ≡ length (new_out image name (e ∷ past)) + base_tries image name (e ∷ past)
    tries_kept hg = go (t.tried j hg)
      where
        goal : List Text → List Text → ℕ → Type 0
        goal l m n = (order_in e.left j).gateway.tries + how_many (failed (e ∷ past)) l ≡ length m + n

        there : (l m : List Text) (n : ℕ) → out image name (e ∷ past) ≡ l → new_out image name (e ∷ past) ≡ m → base_tries image name (e ∷ past) ≡ n → goal l m n
            → goal (out image name (e ∷ past)) (new_out image name (e ∷ past)) (base_tries image name (e ∷ past))
        there l m n x y z g = omega (arith, ap (how_many (failed (e ∷ past))) x, ap length y, z, g)

        new_at : begins_at j e ≡ false → new_out image name (e ∷ past) ≡ news ++ new_out image name past
        new_at b = goes_new image name e past (begins_is ∙ b) ∙ ap (λ (l : List Text). l ++ new_out image name past) (puts t.goes)

        go : Tried j e news → goal (out image name (e ∷ past)) (new_out image name (e ∷ past)) (base_tries image name (e ∷ past))
        go (begun b all m) =
            there (news ++ []) (news ++ []) 0 (recounted b) (begun_new image name e past (begins_is ∙ b) ∙ ap (λ (l : List Text). l ++ []) (puts t.goes))
            (begun_tries image name e past (begins_is ∙ b)) (rw append-nil (omega (arith, m, new_failed t.goes)))
        go (goes_on_lem b g f m) =
            let c : how_many (failed past) (out image name past) ≡ how_many (failed (e ∷ past)) (out image name past) =
            many_same _ _ (out image name past) (λ d h. sym (ap (λ (x : Bool). x || failed past d) (f d (a.own d h)))) in
            there (news ++ out image name past) (news ++ new_out image name past) (base_tries image name past) (counted b) (new_at b) (goes_tries image name e past (begins_is ∙ b))
            (rw (many_append, length-append) (omega (arith, m, new_failed t.goes, c, a.tries g)))
        go (fell b g z l d w u f fs m) =
            let c : how_many (failed (e ∷ past)) (out image name past) ≡ how_many (failed past) (out image name past) + 1 =
            many_one (failed past) (failed (e ∷ past)) d (out image name past) a.one (a.unanswered g d w u)
            (λ x q. (unfailed_yet x w.at (sym (find_cong e.before d x q) ∙ w.found) u, or_left _ (failed past x) (sym (fails_cong e d x q) ∙ f)))
            (λ x q. sym (ap (λ (y : Bool). y || failed past x) (fs x q))) in
            there (out image name past) (new_out image name past) (base_tries image name past) (counted b ∙ ap (λ (x : List Text). x ++ out image name past) l)
            (new_at b ∙ ap (λ (x : List Text). x ++ new_out image name past) l) (goes_tries image name e past (begins_is ∙ b)) (omega (arith, m, z, c, a.tries g))

    own_kept : (d : Text) → holds d (out image name (e ∷ past)) ≡ true → Own j e.left d
    own_kept d h = go (cases_Bool (begins_at j e))
      where
        go : (begins_at j e ≡ true) ⊎ (begins_at j e ≡ false) → Own j e.left d
        go (inl b) = own_new e j t.goes [] (λ x z. clash false z refl) d (ap (holds d) (sym (recounted b)) ∙ h)
        go (inr b) = own_new e j t.goes (out image name past) (λ x z. older x (a.own x z)) d (ap (holds d) (sym (counted b)) ∙ h)

    one_kept : Distinct (out image name (e ∷ past))
    one_kept = go (cases_Bool (begins_at j e))
      where
        go : (begins_at j e ≡ true) ⊎ (begins_at j e ≡ false) → Distinct (out image name (e ∷ past))
        go (inl b) = subst Distinct (sym (recounted b)) (distinct_new e j t.goes [] (unfold Distinct in tt) (λ d w. refl))
        go (inr b) = subst Distinct (sym (counted b)) (distinct_new e j t.goes (out image name past) a.one unheld)

    pub counts_next : Counts image e.left (e ∷ past) name j
    counts_next = record { own = own_kept; one = one_kept; unanswered = unanswered_kept; tries = tries_kept }
