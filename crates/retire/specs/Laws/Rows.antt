-- The rows of a side, one more at a time, as code writes them. Rests on Retire and Moved.
use Rattle.std.specs.Prelude.{◌≡◌, refl, ℕ, ◌+◌, ◌<◌, Bool, true, false, List}
use Rattle.std.proofs.Common.{ap, sym, subst, ◌∙◌, add-one}
use Rattle.prelude.specs.Laws.Cases.{if_true, if_false}
use Rattle.store.specs.declared.Request.{Request}
use Rattle.store.specs.Book.{book_of, request_in, order_count, request_count, add_order, load_request}
use Rattle.store.specs.Laws.Stored.{load_request_in}
use Rattle.rules.specs.Keeps.{keeps_of}
use Rattle.parts.specs.Parts.{of_passing, moved_order, moved_request}
use Rattle.retire.specs.Retire.{orders_moved, add_linked, moved_origin, requests_moved}
use Rattle.retire.specs.Laws.Side.{order_few}

module _ (p : ℕ → Bool) (was : List ℕ) (behind : ℕ) (into : List ℕ) where
  pub orders_none : into ≡ orders_moved p was behind into 0
  unfolding orders_moved
  orders_none = refl

  pub orders_more : (n : ℕ) (l : List ℕ) → l ≡ orders_moved p was behind into n → p n ≡ true → add_order l (moved_order p behind (book_of was) n) ≡ orders_moved p was behind into (n + 1)
  unfolding orders_moved
  orders_more n l e t =
      ap (λ (b : List ℕ). add_order b (moved_order p behind (book_of was) n)) e ∙ sym (ap (orders_moved p was behind into) (add-one n) ∙ if_true (p n) _ _ t)

  pub orders_other : (n : ℕ) (l : List ℕ) → l ≡ orders_moved p was behind into n → p n ≡ false → l ≡ orders_moved p was behind into (n + 1)
  unfolding orders_moved
  orders_other n l e t = e ∙ sym (ap (orders_moved p was behind into) (add-one n) ∙ if_false (p n) _ _ t)

module _ (p : ℕ → Bool) (was : List ℕ) (orders requests : ℕ) (into : List ℕ) where
  pub requests_none : into ≡ requests_moved p was orders requests into 0
  unfolding requests_moved
  requests_none = refl

  pub requests_more : (n : ℕ) (l : List ℕ) → l ≡ requests_moved p was orders requests into n → of_passing p (book_of was) n ≡ true
      → add_linked l (moved_request p orders (request_in (book_of was) n)) (moved_origin p was requests n) ≡ requests_moved p was orders requests into (n + 1)
  unfolding requests_moved
  requests_more n l e t =
      ap (λ (b : List ℕ). add_linked b (moved_request p orders (request_in (book_of was) n)) (moved_origin p was requests n)) e
      ∙ sym (ap (requests_moved p was orders requests into) (add-one n) ∙ if_true (of_passing p (book_of was) n) _ _ t)

  pub requests_other : (n : ℕ) (l : List ℕ) → l ≡ requests_moved p was orders requests into n → of_passing p (book_of was) n ≡ false → l ≡ requests_moved p was orders requests into (n + 1)
  unfolding requests_moved
  requests_other n l e t = e ∙ sym (ap (requests_moved p was orders requests into) (add-one n) ∙ if_false (of_passing p (book_of was) n) _ _ t)

-- a request as it was loaded
module _ (b : List ℕ) (j : ℕ) (q : Request) (h : j < request_count b) (is : q ≡ load_request b j) where
  pub loaded_in : q ≡ request_in (book_of b) j
  loaded_in = is ∙ load_request_in b j h

  pub loaded_few : keeps_of b ≡ true → q.order < order_count b
  loaded_few e = subst (λ (r : Request). r.order < order_count b) (sym loaded_in) (order_few b e j h)

-- ---- for the tactics of functions
pub ruleset ordered = (orders_none, orders_more, orders_other)

pub ruleset requested = (requests_none, requests_more, requests_other, loaded_in, loaded_few)
