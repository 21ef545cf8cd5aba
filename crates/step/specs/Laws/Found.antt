-- What a lookup finds, and that its index and the order of a request fit the code's numbers. Rests on store's lookups and rules' Keeps.
use Rattle.std.specs.Prelude.{◌≡◌, false, List, ℕ, ◌≤◌, ◌<◌, ◌&&◌, ◌||◌, eqb, leb, ltb, length, Option, None, Some, refl, true}
use Rattle.std.proofs.Common.{sym, ap, ◌∙◌, arith}
use Rattle.std.proofs.Math.Decide.{dec_lt}
use Rattle.std.proofs.Math.ListN.{get_or-eq_default}
use Rattle.prelude.specs.Laws.Below.{first_some}
use Rattle.prelude.specs.Cases.{maybe}
use Rattle.prelude.specs.declared.Text.{Text}
use Rattle.store.specs.declared.Request.{Request}
use Rattle.store.specs.Requests.{no_request}
use Rattle.store.specs.Book.{Book, book_of, order_in, request_in, order_count, request_count, setting_of}
use Rattle.store.specs.Finds.{find_name, find_downstream}
use Rattle.store.specs.Laws.Stored.{count_most, length_orders, length_requests}
use Rattle.store.specs.Orders.{no_order}
use Rattle.machine.specs.Changes.{Event}
use Rattle.machine.specs.Machine.{order_of, unused}
use Rattle.step.specs.Steps.{has_room_for}
use Rattle.rules.specs.Keeps.{keeps_of}
use Rattle.rules.specs.Laws.Keeps.{keeps_held}
use Rattle.machine.proofs.Kept.Indexed.{book_kept}

module _ {A : Type 0} (d : A) (f : ℕ → A) (x : Option ℕ) where
  pub found_some : (k : ℕ) → x ≡ Some k → f k ≡ maybe d f x
  unfolding maybe
  found_some k e = rw e refl

  pub found_nothing : x ≡ None → d ≡ maybe d f x
  unfolding maybe
  found_nothing e = rw e refl

-- a count that the code has read
pub below_count : (i n m : ℕ) → n ≡ m → i < n → i < m
below_count i n m e h = omega arith

pub past_count : (i n m : ℕ) → n ≡ m → n ≤ i → m ≤ i
past_count i n m e h = omega arith

module _ (b : List ℕ) where
  pub orders_read : (n : ℕ) → n ≡ order_count b → (n ≡ length (book_of b).orders) × (n ≤ 64)
  orders_read n e = (e ∙ sym (length_orders b), omega (arith, e, count_most 0 64 b))

  pub requests_read : (n : ℕ) → n ≡ request_count b → (n ≡ length (book_of b).requests) × (n ≤ 256)
  requests_read n e = (e ∙ sym (length_requests b), omega (arith, e, count_most 2 256 b))

  pub setting_read : setting_of b ≡ (book_of b).setting
  unfolding book_of
  setting_read = refl

  -- an index past those in use
  pub order_past : (i : ℕ) → order_count b ≤ i → order_in (book_of b) i ≡ no_order
  order_past i h = get_or-eq_default (book_of b).orders no_order (omega (arith, length_orders b))

  pub request_past : (k : ℕ) → request_count b ≤ k → request_in (book_of b) k ≡ no_request
  request_past k h = get_or-eq_default (book_of b).requests no_request (omega (arith, length_requests b))

  pub name_few : (t : Text) (i : ℕ) → find_name (book_of b) t ≡ Some i → i < 64
  unfolding find_name
  name_few t i e = omega (arith, (first_some _ _ i e).below, length_orders b, count_most 0 64 b)

  pub downstream_few : (t : Text) (k : ℕ) → find_downstream (book_of b) t ≡ Some k → k < 256
  unfolding find_downstream
  downstream_few t k e = omega (arith, (first_some _ _ k e).below, length_requests b, count_most 2 256 b)

  -- each request names a booked order; one that is not in use names order 0
  pub order_few : keeps_of b ≡ true → (k : ℕ) → (request_in (book_of b) k).order < 64
  order_few e k = go (dec_lt k (length (book_of b).requests))
    where
      go : Dec (k < length (book_of b).requests) → (request_in (book_of b) k).order < 64
      go (yes h) = omega (arith, ((book_kept (book_of b) (keeps_held b e).rules).request k h).order, length_orders b, count_most 0 64 b)
      go (no h) =
          let z : (request_in (book_of b) k).order ≡ 0 = ap (λ (q : Request). q.order) (get_or-eq_default (book_of b).requests no_request (omega arith)) in
          omega arith

  pub order_fits : keeps_of b ≡ true → (k : ℕ) (q : Request) → q ≡ request_in (book_of b) k → q.order < 64
  order_fits e k q h = rw h (order_few e k)

-- a booking's name is used, or not: then its ClOrdID is asked for
module _ (b : Book) (e : Event) where
  pub name_used : (i : ℕ) → find_name b e.ids.name ≡ Some i → false ≡ unused b e
  unfolding unused
  name_used i h = rw (← found_some true (λ k. false) (find_name b e.ids.name) i h) refl

  pub name_unused : (place : ℕ) → find_name b e.ids.name ≡ None → place ≡ order_of b e.client e.ids.clordid → eqb place 0 ≡ unused b e
  unfolding unused
  name_unused place h p = rw (← found_nothing true (λ k. false) (find_name b e.ids.name) h, p) refl

-- question 7, by counts that the code has read
pub room_read : (b : List ℕ) (n m place added : ℕ) → n ≡ order_count b → m ≡ request_count b
    → (leb place n || ltb n 64) && (eqb added 0 || ltb m 256) ≡ has_room_for (book_of b) place added
unfolding has_room_for
room_read b n m place added p q = rw ((orders_read b n p).0, (requests_read b m q).0)
