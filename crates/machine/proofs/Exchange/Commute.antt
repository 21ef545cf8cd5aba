-- Two changes of different orders, one after the other and the other way round: the tables that they leave. Rests on Links and Frame.
use Rattle.std.proofs.Common.{ℕ, zero, suc, ◌+◌, ◌-◌, ◌≤◌, ◌<◌, arith, ◌≡◌, refl, sym, ap, ◌∙◌, ◌⊎◌, inl, inr, ⊎_elim, Bool, true, false, List, [], ◌∷◌, ◌++◌, append_assoc, append-nil, eqb, length, get_or, set, length-append, length-set, get_or-set_same, get_or-set_other, eq-eqb, ne_eqb}
use Rattle.std.proofs.Math.Decide.{ℕ_discrete}
use Rattle.std.proofs.Math.ListN.{get_or-append}
use Rattle.std.proofs.Math.Seq.{set-append_left, set_comm, get_or_at}
use Rattle.prelude.specs.Cases.{if◌then◌otherwise◌}
use Rattle.prelude.specs.Laws.Cases.{if_true, if_false}
use Rattle.prelude.specs.Totals.{those}
use Rattle.prelude.specs.Laws.Totals.{those_append, append_swap}
use Rattle.store.specs.declared.Order.{Order}
use Rattle.store.specs.declared.Request.{Request}
use Rattle.store.specs.Book.{Book, order_in, request_in, answered}
use Rattle.store.specs.Orders.{no_order}
use Rattle.store.specs.Requests.{no_request}
use Rattle.machine.specs.Machine.{answer_link, requests_after, after}
use Rattle.machine.specs.declared.Requests.{Requests}
use Rattle.machine.specs.declared.Change.{Change}
use Rattle.machine.proofs.Kept.Tables.{at, length_answer}
use Rattle.machine.proofs.Claim.Filled.{orders_set, after_orders}
use Rattle.machine.proofs.Exchange.Frame.{Owned, owned_orders}

-- the requests of the order at index k
abbrev own_by : ℕ → Request → Bool
own_by k q = eqb q.order k

abbrev own_of : ℕ → List Request → List Request
own_of k = those (own_by k)

-- ---- requests answered

-- in front of what is added behind them
answer_front : (k a : ℕ) (s t : List Request) → k ≤ length s → answer_link k a (s ++ t) ≡ answer_link k a s ++ t
unfolding answer_link
answer_front k a s t l = go (ℕ_discrete k 0)
  where
    go : Dec (k ≡ 0) → (if eqb k 0 then s ++ t otherwise set (s ++ t) (k - 1) (answered a (at (s ++ t) (k - 1)))) ≡ (if eqb k 0 then s otherwise set s (k - 1) (answered a (at s (k - 1)))) ++ t
    go (yes z) = if_true _ _ _ (eq-eqb k 0 z) ∙ ap (λ (x : List Request). x ++ t) (sym (if_true (eqb k 0) s _ (eq-eqb k 0 z)))
    go (no z) =
        let h : k - 1 < length s = omega arith in
        if_false _ _ _ (ne_eqb k 0 z)
        ∙ ap (λ (q : Request). set (s ++ t) (k - 1) (answered a q)) (get_or-append s t no_request (k - 1) h)
        ∙ set-append_left s t (k - 1) _ h
        ∙ ap (λ (x : List Request). x ++ t) (sym (if_false (eqb k 0) s _ (ne_eqb k 0 z)))

-- of two requests in either order
answer_comm : (k l x y : ℕ) (qs : List Request) → (k ≡ l → k ≡ 0) → answer_link k x (answer_link l y qs) ≡ answer_link l y (answer_link k x qs)
answer_comm k l x y qs apart = go (ℕ_discrete k 0) (ℕ_discrete l 0)
  where
    none : (k x : ℕ) (s : List Request) → k ≡ 0 → answer_link k x s ≡ s
    none k x s z = unfold answer_link in if_true _ _ _ (eq-eqb k 0 z)

    one : (k x : ℕ) (s : List Request) → (k ≡ 0 → ⊥) → answer_link k x s ≡ set s (k - 1) (answered x (at s (k - 1)))
    one k x s z = unfold answer_link in if_false _ _ _ (ne_eqb k 0 z)

    both : (k l x y : ℕ) → (k ≡ 0 → ⊥) → (l ≡ 0 → ⊥) → (k - 1 ≡ l - 1 → ⊥)
        → answer_link k x (answer_link l y qs) ≡ set (set qs (l - 1) (answered y (at qs (l - 1)))) (k - 1) (answered x (at qs (k - 1)))
    both k l x y nk nl d =
        ap (answer_link k x) (one l y qs nl) ∙ one k x _ nk
        ∙ ap (λ (q : Request). set (set qs (l - 1) (answered y (at qs (l - 1)))) (k - 1) (answered x q)) (get_or-set_other qs (l - 1) (k - 1) _ no_request d)

    go : Dec (k ≡ 0) → Dec (l ≡ 0) → answer_link k x (answer_link l y qs) ≡ answer_link l y (answer_link k x qs)
    go (yes p) q = none k x (answer_link l y qs) p ∙ ap (answer_link l y) (sym (none k x qs p))
    go (no p) (yes q) = ap (answer_link k x) (none l y qs q) ∙ sym (none l y (answer_link k x qs) q)
    go (no p) (no q) =
        let e : k - 1 ≡ l - 1 → ⊥ = λ z. p (apart (omega arith)) in
        both k l x y p q e ∙ set_comm qs (l - 1) (k - 1) _ _ (λ z. e (sym z)) ∙ sym (both l k y x q p (λ z. e (sym z)))

-- ---- the requests that a change leaves: those settled, and what is added

abbrev pub settle : Requests → List Request → List Request
settle r qs = answer_link r.superseded r.outcome (answer_link r.answered r.outcome qs)

unfoldable pub more : Requests → List Request
more r = if eqb r.added 0 then [] otherwise r.request ∷ []

pub none_more : (r : Requests) → r.added ≡ 0 → more r ≡ []
unfolding more
none_more r z = if_true _ _ _ (eq-eqb r.added 0 z)

pub one_more_lem : (r : Requests) → (r.added ≡ 0 → ⊥) → more r ≡ r.request ∷ []
unfolding more
one_more_lem r z = if_false _ _ _ (ne_eqb r.added 0 z)

pub requests_after_lem : (b : Book) (c : Change) → (after b c).requests ≡ settle c.requests b.requests ++ more c.requests
unfolding after requests_after more
requests_after_lem b c = go (eqb c.requests.added 0)
  where
    go : (a : Bool) → (if a then settle c.requests b.requests otherwise settle c.requests b.requests ++ (c.requests.request ∷ []))
        ≡ settle c.requests b.requests ++ (if a then [] otherwise c.requests.request ∷ [])
    go true = unfold if◌then◌otherwise◌ in sym (append-nil (settle c.requests b.requests))
    go false = unfold if◌then◌otherwise◌ in refl

pub length_settle : (r : Requests) (qs : List Request) → length (settle r qs) ≡ length qs
length_settle r qs = length_answer r.superseded r.outcome _ ∙ length_answer r.answered r.outcome qs

settle_front : (r : Requests) (s t : List Request) → r.answered ≤ length s → r.superseded ≤ length s → settle r (s ++ t) ≡ settle r s ++ t
settle_front r s t l h =
    ap (answer_link r.superseded r.outcome) (answer_front r.answered r.outcome s t l)
    ∙ answer_front r.superseded r.outcome (answer_link r.answered r.outcome s) t (omega (arith, length_answer r.answered r.outcome s))

-- two changes that settle requests of different orders
settle_comm : (b : Book) (i j : ℕ) → (i ≡ j → ⊥) → (c d : Change) → Owned b i c → Owned b j d → settle c.requests (settle d.requests b.requests) ≡ settle d.requests (settle c.requests b.requests)
settle_comm b i j n c d w v =
    let r : Requests = c.requests in
    let q : Requests = d.requests in
    let x : ℕ = r.outcome in
    let y : ℕ = q.outcome in
    ap (answer_link r.superseded x)
    (answer_comm r.answered q.superseded x y _ (apart w.answers v.supersedes) ∙ ap (answer_link q.superseded y) (answer_comm r.answered q.answered x y _ (apart w.answers v.answers)))
    ∙ answer_comm r.superseded q.superseded x y _ (apart w.supersedes v.supersedes)
    ∙ ap (answer_link q.superseded y) (answer_comm r.superseded q.answered x y _ (apart w.supersedes v.answers))
  where
    apart : {k l : ℕ} → ((m : ℕ) → k ≡ m + 1 → (request_in b m).order ≡ i) → ((m : ℕ) → l ≡ m + 1 → (request_in b m).order ≡ j) → k ≡ l → k ≡ 0
    apart {k = zero} f g e = refl
    apart {k = suc m} f g e = absurd (n (sym (f m (omega arith)) ∙ g m (omega arith)))

-- ---- one after the other: d' is d as it is seen after c

module _ (b : Book) (i j : ℕ) (c d d' : Change) (w : Owned b i c) (v : Owned b j d) where
  -- both settled, then what is added, each in its turn
  pub requests_two : d'.requests ≡ d.requests → (after (after b c) d').requests ≡ (settle d.requests (settle c.requests b.requests) ++ more c.requests) ++ more d.requests
  requests_two same =
      requests_after_lem (after b c) d'
      ∙ ap (λ (r : Requests). settle r (after b c).requests ++ more r) same
      ∙ ap (λ (s : List Request). settle d.requests s ++ more d.requests) (requests_after_lem b c)
      ∙ ap (λ (s : List Request). s ++ more d.requests)
      (settle_front d.requests (settle c.requests b.requests) (more c.requests)
      (omega (arith, v.answers_in, length_settle c.requests b.requests)) (omega (arith, v.supersedes_in, length_settle c.requests b.requests)))

  orders_two : d'.place ≡ d.place → (after (after b c) d').orders ≡ set (set b.orders i c.order) j d'.order
  orders_two same =
      let e = owned_orders b i c w in
      let l : length (after b c).orders ≡ length b.orders = ap length e ∙ length-set b.orders i c.order in
      after_orders (after b c) d' ∙ orders_set (after b c).orders d' j (omega (arith, v.inside)) (same ∙ v.there) ∙ ap (λ (os : List Order). set os j d'.order) e

  pub count_two : d'.place ≡ d.place → length (after (after b c) d').orders ≡ length b.orders
  count_two same = ap length (orders_two same) ∙ length-set (set b.orders i c.order) j d'.order ∙ length-set b.orders i c.order

  -- the first's order, the second's, and the others
  module _ (same : d'.place ≡ d.place) (n : i ≡ j → ⊥) where
    pub first_at : order_in (after (after b c) d') i ≡ c.order
    first_at =
        ap (λ (os : List Order). get_or os i no_order) (orders_two same) ∙ get_or-set_other (set b.orders i c.order) j i d'.order no_order n
        ∙ get_or-set_same b.orders i c.order no_order w.inside

    pub second_at : order_in (after (after b c) d') j ≡ d'.order
    second_at =
        ap (λ (os : List Order). get_or os j no_order) (orders_two same)
        ∙ get_or-set_same (set b.orders i c.order) j d'.order no_order (omega (arith, v.inside, length-set b.orders i c.order))

    pub others_at : (k : ℕ) → (k ≡ i → ⊥) → (k ≡ j → ⊥) → order_in (after (after b c) d') k ≡ order_in b k
    others_at k x y =
        ap (λ (os : List Order). get_or os k no_order) (orders_two same) ∙ get_or-set_other (set b.orders i c.order) j k d'.order no_order y
        ∙ get_or-set_other b.orders i k c.order no_order x

-- ---- if one of them adds nothing, they leave the same book

module _ (b : Book) (i j : ℕ) (n : i ≡ j → ⊥) (c d : Change) (w : Owned b i c) (v : Owned b j d) where
  pub after_comm : (c.requests.added ≡ 0) ⊎ (d.requests.added ≡ 0) → after (after b c) d ≡ after (after b d) c
  after_comm a = λ x. record { setting = settings x; orders = orders x; requests = requests x }
    where
      settings : (after (after b c) d).setting ≡ (after (after b d) c).setting
      settings = unfold after in refl

      orders : (after (after b c) d).orders ≡ (after (after b d) c).orders
      orders = orders_two b i j c d d w v refl ∙ set_comm b.orders i j c.order d.order n ∙ sym (orders_two b j i d c c v w refl)

      requests : (after (after b c) d).requests ≡ (after (after b d) c).requests
      requests =
          requests_two b i j c d d w v refl
          ∙ append_swap (settle d.requests (settle c.requests b.requests)) (more c.requests) (more d.requests) (⊎_elim (λ z. inl (none_more c.requests z)) (λ z. inr (none_more d.requests z)) a)
          ∙ ap (λ (s : List Request). (s ++ more d.requests) ++ more c.requests) (settle_comm b j i (λ z. n (sym z)) d c v w)
          ∙ sym (requests_two b j i d c c v w refl)

-- ---- and the other way round

module _ (b : Book) (i j : ℕ) (n : i ≡ j → ⊥) (c c' d d' : Change) (w : Owned b i c) (v : Owned b j d) (p : c'.requests ≡ c.requests) (q : d'.requests ≡ d.requests) where
  abbrev one : Book
  one = after (after b c) d'

  abbrev two : Book
  two = after (after b d) c'

  both_settled : List Request
  both_settled = settle d.requests (settle c.requests b.requests)

  both_length : length both_settled ≡ length b.requests
  unfolding both_settled
  both_length = length_settle d.requests _ ∙ length_settle c.requests b.requests

  requests_one : one.requests ≡ (both_settled ++ more c.requests) ++ more d.requests
  unfolding both_settled
  requests_one = requests_two b i j c d d' w v q

  requests_other : two.requests ≡ (both_settled ++ more d.requests) ++ more c.requests
  unfolding both_settled
  requests_other =
      requests_two b j i d c c' v w p
      ∙ ap (λ (s : List Request). (s ++ more d.requests) ++ more c.requests) (settle_comm b i j n c d w v)

  -- a request that was there
  pub old_same : (k : ℕ) → k < length b.requests → request_in one k ≡ request_in two k
  old_same k l = old (more c.requests) (more d.requests) one.requests requests_one ∙ sym (old (more d.requests) (more c.requests) two.requests requests_other)
    where
      old : (s t r : List Request) → r ≡ (both_settled ++ s) ++ t → get_or r k no_request ≡ get_or both_settled k no_request
      old s t r e =
          ap (λ (x : List Request). get_or x k no_request) e
          ∙ get_or-append (both_settled ++ s) t no_request k (omega (arith, both_length, length-append both_settled s))
          ∙ get_or-append both_settled s no_request k (omega (arith, both_length))

  -- the request that the first adds
  module _ (a : c.requests.added ≡ 0 → ⊥) where
    pub added_one : request_in one (length b.requests) ≡ c.requests.request
    added_one =
        ap (λ (x : List Request). get_or x (length b.requests) no_request)
        (requests_one ∙ ap (λ (x : List Request). (both_settled ++ x) ++ more d.requests) (one_more_lem c.requests a) ∙ append_assoc both_settled (c.requests.request ∷ []) (more d.requests))
        ∙ get_or_at both_settled c.requests.request (more d.requests) no_request (length b.requests) both_length

    pub added_two : request_in two (length (after b d).requests) ≡ c.requests.request
    added_two =
        ap (λ (x : List Request). get_or x (length (after b d).requests) no_request)
        (requests_other ∙ ap (λ (x : List Request). (both_settled ++ more d.requests) ++ x) (one_more_lem c.requests a))
        ∙ get_or_at (both_settled ++ more d.requests) c.requests.request [] no_request (length (after b d).requests) long
      where
        long : length (both_settled ++ more d.requests) ≡ length (after b d).requests
        long =
            length-append both_settled (more d.requests) ∙ ap (λ (x : ℕ). x + length (more d.requests)) (both_length ∙ sym (length_settle d.requests b.requests))
            ∙ sym (length-append (settle d.requests b.requests) (more d.requests)) ∙ sym (ap length (requests_after_lem b d))

  -- what is added is its own order's
  others_none : (x : ℕ) (k : ℕ) (r : Requests) → (r.added ≡ 0) ⊎ (r.request.order ≡ x) → (x ≡ k → ⊥) → own_of k (more r) ≡ []
  others_none x k r u z = go (ℕ_discrete r.added 0) u
    where
      go : Dec (r.added ≡ 0) → (r.added ≡ 0) ⊎ (r.request.order ≡ x) → own_of k (more r) ≡ []
      go (yes e) o = ap (own_of k) (none_more r e)
      go (no e) (inl o) = absurd (e o)
      go (no e) (inr o) = ap (own_of k) (one_more_lem r e) ∙ if_false _ _ _ (ne_eqb r.request.order k (λ h. z (sym o ∙ h)))

  -- an order's requests, in their order
  pub requests_same : (k : ℕ) → own_of k one.requests ≡ own_of k two.requests
  requests_same k = go (ℕ_discrete i k)
    where
      parts : (s t : List Request) → own_of k ((both_settled ++ s) ++ t) ≡ (own_of k both_settled ++ own_of k s) ++ own_of k t
      parts s t = those_append (own_by k) (both_settled ++ s) t ∙ ap (λ (x : List Request). x ++ own_of k t) (those_append (own_by k) both_settled s)

      whole : (own_of k (more c.requests) ≡ []) ⊎ (own_of k (more d.requests) ≡ []) → own_of k one.requests ≡ own_of k two.requests
      whole e =
          ap (own_of k) requests_one ∙ parts (more c.requests) (more d.requests) ∙ append_swap (own_of k both_settled) (own_of k (more c.requests)) (own_of k (more d.requests)) e
          ∙ sym (parts (more d.requests) (more c.requests)) ∙ sym (ap (own_of k) requests_other)

      go : Dec (i ≡ k) → own_of k one.requests ≡ own_of k two.requests
      go (yes z) = whole (inr (others_none j k d.requests v.adds (λ h. n (z ∙ sym h))))
      go (no z) = whole (inl (others_none i k c.requests w.adds z))
