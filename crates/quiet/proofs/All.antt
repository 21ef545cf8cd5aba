-- If all orders pass, the part is the book. Rests on Lookups.
use Rattle.std.proofs.Common.{inl, inr, ℕ, zero, suc, ◌+◌, ◌-◌, ◌<◌, arith, ◌≡◌, refl, sym, ap, ◌∙◌, Bool, true, length}
use Rattle.prelude.specs.Below.{count_below}
use Rattle.prelude.specs.Laws.Lists.{list_ext}
use Rattle.store.specs.declared.Request.{Request}
use Rattle.store.specs.Book.{Book, order_in, request_in}
use Rattle.store.specs.Orders.{no_order}
use Rattle.store.specs.Requests.{no_request}
use Rattle.parts.specs.Parts.{passing, of_passing, moved_order, moved_request, named_along, moved_link, joined, part}
use Rattle.parts.specs.Laws.Ranks.{rank_hit}
use Rattle.parts.specs.Laws.Passing.{passing_all}
use Rattle.parts.specs.Laws.Sums.{list_places}
use Rattle.parts.specs.Laws.Joined.{moved_none, moved_above}
use Rattle.parts.specs.Alike.{OwnLink}
use Rattle.quiet.specs.Part.{Owns, Parted}
use Rattle.quiet.proofs.Links.{named_same}
use Rattle.quiet.proofs.Lookups.{owns_at}

-- all numbers pass, so each is its own rank
count_all : (p : ℕ → Bool) → ((i : ℕ) → p i ≡ true) → (n : ℕ) → count_below p n ≡ n
count_all p h zero = unfold count_below in refl
count_all p h (suc n) = let less : count_below p n ≡ n = count_all p h n in omega (arith, rank_hit p n (h n))

module _ (p : ℕ → Bool) (b : Book) (w : Parted p b) (all : (i : ℕ) → p i ≡ true) where
  link_all : (i l : ℕ) → OwnLink b i l → moved_link (of_passing p b) 0 l ≡ l
  link_all i l (inl z) = ap (moved_link (of_passing p b) 0) z ∙ moved_none (of_passing p b) 0 ∙ sym z
  link_all i l (inr (a, m, o)) =
      moved_above (of_passing p b) 0 l a
      ∙ (let c : count_below (of_passing p b) (l - 1) ≡ l - 1 = count_all (of_passing p b) (λ k. all (request_in b k).order) (l - 1) in
      let z : 0 + count_below (of_passing p b) (l - 1) + 1 ≡ l = omega arith in z)

  order_all : (i : ℕ) → i < length b.orders → moved_order p 0 b i ≡ order_in b i
  unfolding moved_order
  order_all i h =
      let o = order_in b i in
      let w' : Owns b i o = owns_at p b w i h (all i) in
      let l₁ = link_all i o.links.current w'.current in
      let l₂ = link_all i o.links.cancel w'.cancel in
      let l₃ = link_all i o.pending.request w'.pending in
      let l₄ : moved_link (of_passing p b) 0 (named_along p b i) ≡ o.gateway.origdownstream =
      ap (moved_link (of_passing p b) 0) (named_same p b b (λ k m. refl) (omega arith) i (all i) w'.named) ∙ link_all i o.gateway.origdownstream w'.named in
      λ k. record {
        client = o.client;
        venue = o.venue;
        names = o.names;
        terms = o.terms;
        state = o.state;
        links = record { amendments = o.links.amendments; current = l₁ k; cancel = l₂ k };
        pending = record { request = l₃ k; qty = o.pending.qty; price = o.pending.price; ordtype = o.pending.ordtype; timeinforce = o.pending.timeinforce };
        gateway = record {
          tries = o.gateway.tries;
          unsent = o.gateway.unsent;
          stuck = o.gateway.stuck;
          origdownstream = l₄ k;
          refusedsends = o.gateway.refusedsends;
        };
      }

  request_all : (q : Request) → moved_request p 0 q ≡ q
  unfolding moved_request
  request_all q =
      let c : count_below p q.order ≡ q.order = count_all p all q.order in
      let z : 0 + count_below p q.order ≡ q.order = omega arith in
      λ k. record { order = z k; kind = q.kind; answered = q.answered; clordid = q.clordid; origclordid = q.origclordid; downstream = q.downstream; outcome = q.outcome }

  pub part_all : part p b ≡ b
  unfolding joined
  part_all =
      let os : passing p (moved_order p 0 b) (length b.orders) ≡ b.orders =
      passing_all p (moved_order p 0 b) (length b.orders) (λ i l. all i) ∙ list_ext (moved_order p 0 b) (order_in b) (length b.orders) order_all ∙ list_places no_order b.orders in
      let qs : passing (of_passing p b) (λ j. moved_request p 0 (request_in b j)) (length b.requests) ≡ b.requests =
      passing_all (of_passing p b) (λ j. moved_request p 0 (request_in b j)) (length b.requests) (λ j l. all (request_in b j).order)
      ∙ list_ext (λ j. moved_request p 0 (request_in b j)) (request_in b) (length b.requests) (λ j l. request_all (request_in b j)) ∙ list_places no_request b.requests in
      λ k. record { setting = b.setting; orders = os k; requests = qs k }
