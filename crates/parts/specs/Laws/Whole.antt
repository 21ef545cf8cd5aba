-- A joined book keeps its rules if both did, has room, and no name or ClOrdID of what moves stands in it. Rests on Rules.
use Rattle.std.specs.Prelude.{◌≡◌, Bool, true, false, refl, List, ◌++◌, ℕ, ◌+◌, ◌≤◌, ◌<◌, length}
use Rattle.std.proofs.Common.{ap, subst, sym, ◌∙◌, ⊎_elim, arith}
use Rattle.prelude.specs.Below.{count_below}
use Rattle.prelude.specs.Laws.Below.{count_le}
use Rattle.prelude.specs.Texts.{same_text}
use Rattle.store.specs.declared.Order.{Order}
use Rattle.store.specs.declared.Request.{Request}
use Rattle.store.specs.Book.{Book, order_in, request_in, empty_book}
use Rattle.store.specs.Requests.{no_request}
use Rattle.machine.specs.Rules.{request_range, outcome_rule, client_of, same_key, rules}
use Rattle.machine.proofs.Kept.Tables.{at, Same, number_same, origin_same}
use Rattle.machine.proofs.Kept.Local.{OrderKept}
use Rattle.machine.proofs.Kept.Indexed.{RequestKept, BookKept, book_kept, kept_book}
use Rattle.machine.proofs.Kept.Steps.{start_keeps}
use Rattle.parts.specs.Parts.{passing, of_passing, moved_order, moved_request, joined, part}
use Rattle.parts.specs.Laws.Ranks.{Source, source, below_rank}
use Rattle.parts.specs.Laws.Passing.{length_passing, get_passing}
use Rattle.parts.specs.Laws.Joined.{joined_orders, joined_requests, joined_old_order, joined_old_request, FromOrder, FromRequest, order_from, request_from, joined_client, joined_old_client}
use Rattle.parts.specs.Laws.Kept.{others_kept, order_joined}
use Rattle.parts.specs.Laws.Rules.{FreeNames, taken_key, FreeKeys, request_joined}

module _ (p : ℕ → Bool) (into b : Book) (hi : BookKept into) (hb : BookKept b) where
  -- ---- what was there

  moved_requests : List Request
  moved_requests = passing (of_passing p b) (λ j. moved_request p (length into.orders) (request_in b j)) (length b.requests)

  moved_to : (q : Request) → (moved_request p (length into.orders) q).order ≡ length into.orders + count_below p q.order
  unfolding moved_request
  moved_to q = refl

  -- requests that move are not of an order that was there
  moved_behind : (i : ℕ) → i < length into.orders → (k : ℕ) → k < length moved_requests → (at moved_requests k).order ≡ i → ⊥
  unfolding moved_requests
  moved_behind i h k l e =
      let q : ℕ → Bool = of_passing p b in
      let f : ℕ → Request = λ j. moved_request p (length into.orders) (request_in b j) in
      let n : length (passing q f (length b.requests)) ≡ count_below q (length b.requests) = length_passing q f (length b.requests) in
      let s : Source q (length b.requests) k = source q (length b.requests) k (omega arith) in
      let o : (at (passing q f (length b.requests)) k).order ≡ length into.orders + count_below p (request_in b s.at).order =
      ap (λ (j : ℕ). (at (passing q f (length b.requests)) j).order) (sym s.rank)
      ∙ ap (λ (r : Request). r.order) (get_passing q f no_request (length b.requests) s.at s.below s.passes) ∙ (moved_to (request_in b s.at)) in
      omega arith

  old_order : (i : ℕ) → i < length into.orders → OrderKept i (order_in (joined p into b) i) (joined p into b).requests
  unfolding joined moved_requests
  old_order i h =
      subst (λ (o : Order). OrderKept i o (into.requests ++ moved_requests)) (sym (joined_old_order p into b i h))
      (others_kept i (order_in into i) into.requests moved_requests (moved_behind i h) (hi.order i h))

  old_same : (j : ℕ) → j < length into.requests → Same (at (joined p into b).requests j) (at into.requests j)
  old_same j h = subst (λ (q : Request). Same q (at into.requests j)) (sym (joined_old_request p into b j h)) (record { order = refl; clordid = refl; origclordid = refl })

  old_request : (j : ℕ) → j < length into.requests → RequestKept (joined p into b) j
  old_request j h =
      let r : RequestKept into j = hi.request j h in
      let is : request_in (joined p into b) j ≡ request_in into j = joined_old_request p into b j h in
      let o : order_in (joined p into b) (request_in into j).order ≡ order_in into (request_in into j).order = joined_old_order p into b (request_in into j).order r.order in
      record {
        range = ap request_range is ∙ r.range;
        outcome = ap outcome_rule is ∙ r.outcome;
        order = omega (arith, ap (λ (q : Request). q.order) is, r.order, joined_orders p into b);
        number = rw (number_same (joined p into b).requests into.requests j (λ k l. (old_same k (omega arith)).order), is, o) r.number;
        flight = rw (is, o) r.flight;
        origin = origin_same (joined p into b).requests into.requests j (λ k l. old_same k (omega arith)) ∙ r.origin;
      }

  -- ---- names

  module _ (free : FreeNames p into b) where
    names_joined : (i k : ℕ) → i < length (joined p into b).orders → k < i → same_text (order_in (joined p into b) i).names.name (order_in (joined p into b) k).names.name ≡ false
    names_joined i k h l = ⊎_elim old (λ f. ⊎_elim (old_new f) (new_new f) (order_from p into b k (omega arith))) (order_from p into b i h)
      where
        old : i < length into.orders → same_text (order_in (joined p into b) i).names.name (order_in (joined p into b) k).names.name ≡ false
        old m = rw (joined_old_order p into b i m, joined_old_order p into b k (omega arith)) (hi.names i k m l)

        named : (n : ℕ) → (f : FromOrder p into b n) → (order_in (joined p into b) n).names.name ≡ (order_in b f.at).names.name
        named n f = ap (λ (o : Order). o.names.name) f.is ∙ (unfold moved_order in refl)

        old_new : FromOrder p into b i → k < length into.orders → same_text (order_in (joined p into b) i).names.name (order_in (joined p into b) k).names.name ≡ false
        old_new f m = rw (named i f, joined_old_order p into b k m) (free f.at f.below f.passes k m)

        new_new : FromOrder p into b i → FromOrder p into b k → same_text (order_in (joined p into b) i).names.name (order_in (joined p into b) k).names.name ≡ false
        new_new f g =
            let x : i ≡ length into.orders + count_below p f.at = f.place in
            let y : k ≡ length into.orders + count_below p g.at = g.place in
            rw (named i f, named k g) (hb.names f.at g.at f.below (below_rank p g.at f.at (omega arith)))

  -- ---- ClOrdIDs

  -- request i of c has the ClOrdID and the client of request j of d
  record SameKey (c d : Book) (i j : ℕ) : Type 0 where
    clordid : (request_in c i).clordid ≡ (request_in d j).clordid
    client : client_of c i ≡ client_of d j

  key_by : (c d : Book) (i k j l : ℕ) → SameKey c d i j → SameKey c d k l → same_key c i k ≡ same_key d j l
  unfolding same_key
  key_by c d i k j l s t = rw (s.clordid, t.clordid, s.client, t.client)

  keys_by : (i k : ℕ) {j l : ℕ} → SameKey (joined p into b) b i j → SameKey (joined p into b) into k l → same_key (joined p into b) i k ≡ taken_key into b j l
  unfolding same_key
  keys_by i k s t = rw (s.clordid, t.clordid, s.client, t.client)

  old_key : (j : ℕ) → j < length into.requests → SameKey (joined p into b) into j j
  old_key j h = record { clordid = ap (λ (q : Request). q.clordid) (joined_old_request p into b j h); client = joined_old_client p into b j h (hi.request j h).order }

  new_key : (j : ℕ) (f : FromRequest p into b j) → SameKey (joined p into b) b j f.at
  unfolding moved_request
  new_key j f = record {
    clordid = ap (λ (q : Request). q.clordid) f.is;
    client = ap (client_of (joined p into b)) f.place ∙ joined_client p into b f.at f.below f.passes (hb.request f.at f.below).order;
  }

  module _ (free : FreeKeys p into b) where
    keys_joined : (i k : ℕ) → i < length (joined p into b).requests → k < i → same_key (joined p into b) i k ≡ false
    keys_joined i k h l = ⊎_elim old (λ f. ⊎_elim (old_new f) (new_new f) (request_from p into b k (omega arith))) (request_from p into b i h)
      where
        old : i < length into.requests → same_key (joined p into b) i k ≡ false
        old m = key_by (joined p into b) into i k i k (old_key i m) (old_key k (omega arith)) ∙ hi.keys i k m l

        old_new : FromRequest p into b i → k < length into.requests → same_key (joined p into b) i k ≡ false
        old_new f m = keys_by i k (new_key i f) (old_key k m) ∙ free f.at f.below f.passes k m

        new_new : FromRequest p into b i → FromRequest p into b k → same_key (joined p into b) i k ≡ false
        new_new f g =
            let x : i ≡ length into.requests + count_below (of_passing p b) f.at = f.place in
            let y : k ≡ length into.requests + count_below (of_passing p b) g.at = g.place in
            key_by (joined p into b) b i k f.at g.at (new_key i f) (new_key k g) ∙ hb.keys f.at g.at f.below (below_rank (of_passing p b) g.at f.at (omega arith))

  pub joined_kept : length into.orders + count_below p (length b.orders) ≤ 64 → length into.requests + count_below (of_passing p b) (length b.requests) ≤ 256 → FreeNames p into b → FreeKeys p into b
      → BookKept (joined p into b)
  joined_kept n m names keys = record {
    orders = omega (arith, joined_orders p into b);
    requests = omega (arith, joined_requests p into b);
    order = λ i h. ⊎_elim (old_order i) (λ f. moved_order_kept i f) (order_from p into b i h);
    request = λ j h. ⊎_elim (old_request j) (λ f. subst (RequestKept (joined p into b)) (sym f.place) (request_joined p into b hi hb f.at f.below f.passes)) (request_from p into b j h);
    names = names_joined names;
    keys = keys_joined keys;
  }
    where
      moved_order_kept : (i : ℕ) → FromOrder p into b i → OrderKept i (order_in (joined p into b) i) (joined p into b).requests
      moved_order_kept i f =
          subst (λ (o : Order). OrderKept i o (joined p into b).requests) (sym f.is)
          (subst (λ (k : ℕ). OrderKept k (moved_order p (length into.requests) b f.at) (joined p into b).requests) (sym f.place) (order_joined p into b hi hb f.at f.below f.passes))

-- THE LAW
pub joined_rules : (p : ℕ → Bool) (into b : Book) → rules into ≡ true → rules b ≡ true
    → length into.orders + count_below p (length b.orders) ≤ 64 → length into.requests + count_below (of_passing p b) (length b.requests) ≤ 256
    → FreeNames p into b → FreeKeys p into b → rules (joined p into b) ≡ true
joined_rules p into b r s n m names keys = kept_book (joined p into b) (joined_kept p into b (book_kept into r) (book_kept b s) n m names keys)

-- a part of a book keeps the rules
pub part_rules : (p : ℕ → Bool) (b : Book) → rules b ≡ true → rules (part p b) ≡ true
part_rules p b r =
    let k : BookKept b = book_kept b r in
    joined_rules p (empty_book b.setting) b (start_keeps b.setting) r
    (omega (arith, k.orders, count_le p (length b.orders))) (omega (arith, k.requests, count_le (of_passing p b) (length b.requests)))
    (λ i h e n l. absurd (omega arith)) (λ j h e n l. absurd (omega arith))
