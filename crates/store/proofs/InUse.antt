-- The records in use, as a range of indices: there are none if the buffer is no book, and the first that passes a test. Rests on prelude's Chains.
use Rattle.std.specs.Prelude.{⊤}
use Rattle.std.proofs.Common.{◌≡◌, ℕ, Bool, true, false, List, Option, None, MatchOption, Bor, refl, sym, ap, ◌∙◌, arith}
use Rattle.std.specs.Fn.{Mut, CalledAt}
use Rattle.std.specs.Iterator.{YieldsThen}
use Rattle.std.specs.List.{FoldsTo}
use Rattle.std.specs.declared.ops.Range.{Range}
use Rattle.std.proofs.iter.Yields.{nat_range_steps}
use Rattle.std.proofs.lemmas.Iterator.{YieldsList-from_range}
use Rattle.std.proofs.lemmas.Iterator.Adapters.{option_map_id}
use Rattle.std.proofs.lemmas.Iterator.Search.{find_from_yields_List}
use Rattle.prelude.specs.Below.{first_below}
use Rattle.prelude.specs.Laws.Below.{first_none}
use Rattle.prelude.specs.Cases.{if◌then◌otherwise◌}
use Rattle.prelude.specs.Laws.Chains.{find_range}
use Rattle.store.specs.Book.{is_book, count_at}

pub none_counted : (at most : ℕ) (b : List ℕ) → is_book b ≡ false → count_at at most b ≡ 0
unfolding count_at if◌then◌otherwise◌
none_counted at most b e = rw e

pub none_found : (p : ℕ → Bool) (at most : ℕ) (b : List ℕ) → is_book b ≡ false → first_below p (count_at at most b) ≡ None
none_found p at most b e = ap (first_below p) (none_counted at most b e) ∙ first_none p

-- what `find` over the records in use of the book b, which is the buffer d, returns
pub found_in_use : {F : Type 0} {g : Mut F (Bor ℕ × Unit {0}) Bool} {f : F} {r : Option ℕ} (p : List ℕ → ℕ → Bool) (count : List ℕ → ℕ) (b d : List ℕ) (n : ℕ) (u : Range ℕ) → b ≡ d → n ≡ count b
    → (xs : List ℕ) × (j : F) × YieldsThen nat_range_steps (record { start = 0; end = n }) xs r u × FoldsTo (λ s x q. CalledAt g s x false q) f xs j × MatchOption r ⊤ (λ x. (h : F) × CalledAt g j x true h)
    → ((x : ℕ) (t : Bool) (q : F) → CalledAt g f x t q → (q ≡ f) × (t ≡ p b x)) → r ≡ first_below (p d) (count d)
found_in_use {f = f} {r = r} p count b d n u e m ran calls =
    sym (option_map_id r)
    ∙ find_from_yields_List (p b) u f r ran (YieldsList-from_range 0 n n refl (omega arith)) calls
    ∙ find_range (p b) n
    ∙ ap (first_below (p b)) m
    ∙ ap (λ (l : List ℕ). first_below (p l) (count l)) e
