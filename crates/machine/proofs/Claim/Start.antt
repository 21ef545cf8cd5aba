-- Demand 3, whole: the claim from an image, with the empty book as the image. Rests on Whole.
use Rattle.std.proofs.Common.{ℕ, ◌+◌, arith, ◌≡◌, refl, ap, ◌∙◌, subst, Bool, false, not, ◌&&◌, ◌||◌, List, [], ◌∷◌, ◌++◌, length}
use Rattle.prelude.specs.Below.{first_below}
use Rattle.prelude.specs.Cases.{if◌then◌otherwise◌, maybe}
use Rattle.prelude.specs.Laws.Cases.{split_if}
use Rattle.prelude.specs.Totals.{how_many}
use Rattle.prelude.specs.Laws.Totals.{those_ext}
use Rattle.prelude.specs.declared.Text.{Text}
use Rattle.store.specs.Book.{Book, order_in}
use Rattle.store.specs.Finds.{find_name, find_downstream}
use Rattle.machine.specs.History.{Entry, State, start, run}
use Rattle.machine.specs.Claim.{begins, of_kind, cancels_in, once, sent, is_for, failed, put_out_by, put_out, Demand3, Demand}
use Rattle.machine.specs.Since.{held_qty, held_tries, is_held, downstreams, held_out, known, new_out, begun_since, base_tries, base_out, Demand3From}
use Rattle.machine.proofs.Kept.Steps.{start_keeps}
use Rattle.machine.proofs.Claim.Whole.{demand_from}

-- the empty book holds nothing
module _ (setting : ℕ) where
  abbrev empty : Book
  empty = (start setting).book

  no_qty : (name : Text) → held_qty empty name ≡ 0
  unfolding find_name first_below maybe
  no_qty name = refl

  no_tries : (name : Text) → held_tries empty name ≡ 0
  unfolding find_name first_below maybe
  no_tries name = refl

  not_held : (d : Text) → is_held empty d ≡ false
  unfolding find_downstream first_below maybe
  not_held d = refl

  no_out : (name : Text) → held_out empty name ≡ []
  unfolding downstreams
  no_out name = refl

  base_tries_lem : (name : Text) (past : List Entry) → base_tries empty name past ≡ 0
  base_tries_lem name past = split_if (λ (n : ℕ). n ≡ 0) (begun_since name past) (λ e. refl) (λ e. no_tries name)

  base_out_lem : (name : Text) (past : List Entry) → base_out empty name past ≡ []
  base_out_lem name past = split_if (λ (l : List Text). l ≡ []) (begun_since name past) (λ e. refl) (λ e. no_out name)

  by_same : (name : Text) (e : Entry) (past : List Entry) → put_out_by (known empty) name e past ≡ put_out_by sent name e past
  unfolding put_out_by
  by_same name e past =
      ap (λ (l : List Text). if of_kind 2 e.input then [] otherwise l)
      (those_ext _ _ (once (cancels_in e.messages)) (λ d. ap (λ (x : Bool). is_for name e.left d && not (x || sent d past)) (not_held d)))

  new_same : (name : Text) (past : List Entry) → new_out empty name past ≡ put_out name past
  new_same name [] = refl
  new_same name (e ∷ past) =
      ap (λ (l : List Text). l ++ (if begins name e then [] otherwise new_out empty name past)) (by_same name e past)
      ∙ ap (λ (l : List Text). put_out_by sent name e past ++ (if begins name e then [] otherwise l)) (new_same name past)

  pub from_start : (s : State) → Demand3From empty s → Demand3 s
  from_start s h = record {
    filled = λ i l. omega (arith, h.filled i l, no_qty (order_in s.book i).names.name);
    ordered = h.ordered;
    done = h.done;
    tries = λ i l g.
        let n : Text = (order_in s.book i).names.name in
        let z : how_many (failed s.past) (base_out empty n s.past) ≡ 0 = ap (how_many (failed s.past)) (base_out_lem n s.past) in
        let w : (order_in s.book i).gateway.tries + how_many (failed s.past) (new_out empty n s.past) ≡ length (new_out empty n s.past) =
        omega (arith, h.tries i l g, z, base_tries_lem n s.past) in
        subst (λ (x : List Text). (order_in s.book i).gateway.tries + how_many (failed s.past) x ≡ length x) (new_same n s.past) w;
    few = h.few;
  }

pub demand : Demand
demand In read kinds setting is = from_start setting (run read (start setting) is) (demand_from In read kinds (start setting).book (start_keeps setting) is)
