-- All that demand 3 from an image needs, by names, and that one call more keeps it, though orders may have gone from the book. Rests on Told and Counts.
use Rattle.std.proofs.Common.{ℕ, ◌+◌, ◌≤◌, ◌<◌, arith, ◌≡◌, refl, sym, ap, ◌∙◌, subst, ◌⊎◌, inl, inr, Bool, true, false, not, ◌&&◌, Option, None, Some, List, [], ◌∷◌, ◌++◌, eqb, length}
use Rattle.std.proofs.Math.Decide.{dec_lt}
use Rattle.std.proofs.Math.ListN.{get_or-eq_default}
use Rattle.std.proofs.lemmas.Bool.{cases_Bool}
use Rattle.prelude.specs.Cases.{maybe}
use Rattle.prelude.specs.Laws.Cases.{split_if, clash, if_false}
use Rattle.prelude.specs.Texts.{same_text}
use Rattle.prelude.specs.Totals.{how_many, those}
use Rattle.prelude.specs.Laws.Totals.{many_append}
use Rattle.prelude.specs.declared.Text.{Text}
use Rattle.store.specs.Orders.{no_order}
use Rattle.store.specs.Book.{Book, order_in, request_in}
use Rattle.store.specs.Finds.{bears_name, find_name, find_downstream}
use Rattle.machine.specs.Orders.{has_gateway}
use Rattle.machine.specs.Changes.{Event}
use Rattle.machine.specs.Rules.{rules}
use Rattle.machine.specs.Claim.{of_kind, holds, cancels_in, once, is_for, begins, failed, put_out_by}
use Rattle.machine.specs.History.{Decoded, read_as, comes_to, Entry, line_of}
use Rattle.machine.specs.Since.{known, new_out, base_out, base_tries}
use Rattle.machine.proofs.Kept.Indexed.{book_kept}
use Rattle.machine.proofs.Claim.Walk.{found_order, found_request}
use Rattle.machine.proofs.Claim.Filled.{same_name, Advances, call_advances}
use Rattle.machine.proofs.Claim.Tries.{Distinct}
use Rattle.machine.proofs.Claim.Rounds.{Placed, Apart, Round, no_gateway, call_round}
use Rattle.machine.proofs.Numbered.{numbered_laws}
use Rattle.machine.proofs.Claim.Names.{named_at, absent_at, absent_before, not_before}
use Rattle.machine.proofs.Claim.Booked.{books, unused_names}
use Rattle.machine.proofs.Claim.Told.{ToldIn, told_next}
use Rattle.machine.proofs.Claim.Sent.{out, OfGone, Counts, TriesIn, not_of_gone, begun_out, goes_out}
use Rattle.machine.proofs.Claim.Counts.{sent_next, counts_next}

-- `gone` is the test whether an order of that name went
pub record SinceImage (gone : Text → Bool) (image b : Book) (past : List Entry) : Type 0 where
  pub told : ToldIn gone image b past
  pub tries : TriesIn gone image b past
  pub free : (name : Text) → gone name ≡ true → find_name b name ≡ None
  pub apart : Apart b
  pub placed : Placed b

those_none : (f : Text → Bool) (l : List Text) → ((d : Text) → f d ≡ false) → those f l ≡ []
those_none f [] h = refl
those_none f (d ∷ l) h = if_false _ _ _ (h d) ∙ those_none f l h

-- ---- one call

module _ (gone : Text → Bool) (alike : (x y : Text) → same_text x y ≡ true → gone x ≡ gone y) (image : Book) (e : Entry) (past : List Entry)
    (a : Advances e.before e.messages e.left) (r : Round e)
    (unused : (j : ℕ) → length e.before.orders ≤ j → j < length e.left.orders → gone (order_in e.left j).names.name ≡ false) (s : SinceImage gone image e.before past) where
  apart : Apart e.left
  apart = r.apart s.apart

  placed : Placed e.left
  placed = r.placed s.placed

  pub still_free : (name : Text) → gone name ≡ true → find_name e.left name ≡ None
  still_free name g = go (find_name e.left name) refl
    where
      there : (i : ℕ) → i < length e.left.orders → same_text (order_in e.left i).names.name name ≡ true → Dec (i < length e.before.orders) → find_name e.left name ≡ None
      there i h w (yes l) = clash _ (ap (λ (x : Text). same_text x name) (sym (same_name e.before e.left a.persists i l)) ∙ w) (absent_at e.before name (s.free name g) i l)
      there i h w (no l) = clash _ g (sym (alike _ name w) ∙ unused i (omega arith) h)

      go : (x : Option ℕ) → find_name e.left name ≡ x → find_name e.left name ≡ None
      go None w = w
      go (Some i) w = there i (found_order e.left name i w) (named_at e.left name i w) (dec_lt i (length e.before.orders))

  -- of a name that the book does not have nothing is put out
  for_none : (name : Text) → find_name e.left name ≡ None → (d : Text) → is_for name e.left d ≡ false
  unfolding maybe
  for_none name w d = go (find_downstream e.left d) refl
    where
      go : (x : Option ℕ) → find_downstream e.left d ≡ x → maybe false (λ k. bears_name name (order_in e.left (request_in e.left k).order)) x ≡ false
      go None v = refl
      go (Some k) v = absent_at e.left name w (request_in e.left k).order (placed k (found_request e.left d k v))

  put_none : (name : Text) → find_name e.left name ≡ None → put_out_by (known image) name e past ≡ []
  unfolding put_out_by
  put_none name w =
      split_if (λ (l : List Text). l ≡ []) (of_kind 2 e.input) (λ c. refl)
      (λ c. those_none (λ d. is_for name e.left d && not (known image d past)) (once (cancels_in e.messages)) (λ d. ap (λ (x : Bool). x && not (known image d past)) (for_none name w d)))

  out_none : (name : Text) → find_name e.left name ≡ None → gone name ≡ false → out image name (e ∷ past) ≡ []
  out_none name w g = go (cases_Bool (begins name e))
    where
      put : put_out_by (known image) name e past ≡ []
      put = put_none name w

      go : (begins name e ≡ true) ⊎ (begins name e ≡ false) → out image name (e ∷ past) ≡ []
      go (inl b) = begun_out image name e past b ∙ ap (λ (l : List Text). l ++ []) put
      go (inr b) =
          goes_out image name e past b ∙ ap (λ (l : List Text). l ++ out image name past) put
          ∙ s.tries.absent name (absent_before e.before e.left a.persists name w) g

  -- an order that is new has nothing that counts
  new_counts : (j : ℕ) (name : Text) → length e.before.orders ≤ j → out image name past ≡ [] → Counts image e.before past name j
  new_counts j name l w = record {
    own = λ d h. clash false (sym (ap (holds d) w) ∙ h) refl;
    one = subst Distinct (sym w) (unfold Distinct in tt);
    unanswered = λ hg. clash _ hg none;
    tries = λ hg. clash _ hg none;
  }
    where
      none : has_gateway (order_in e.before j) ≡ false
      none = ap has_gateway (get_or-eq_default e.before.orders no_order (omega arith)) ∙ no_gateway

  counts_before : (j : ℕ) → j < length e.left.orders → Counts image e.before past (order_in e.left j).names.name j
  counts_before j h = go (dec_lt j (length e.before.orders))
    where
      go : Dec (j < length e.before.orders) → Counts image e.before past (order_in e.left j).names.name j
      go (yes l) = subst (λ (n : Text). Counts image e.before past n j) (sym (same_name e.before e.left a.persists j l)) (s.tries.orders j l)
      go (no l) =
          new_counts j (order_in e.left j).names.name (omega arith)
          (s.tries.absent (order_in e.left j).names.name (not_before e.before e.left apart a.persists j (omega arith) h) (unused j (omega arith) h))

  -- a request of the book is of no order that went
  module _ (of_none : (d : Text) (k : ℕ) → find_downstream e.left d ≡ Some k → OfGone gone d → ⊥) where
    pub since_next : SinceImage gone image e.left (e ∷ past)
    since_next = record {
      told = told_next gone image e past apart a unused s.told;
      tries = record {
        sent = sent_next gone image e past apart placed a.persists r.turn of_none s.tries.sent;
        orders = λ j h. counts_next gone image e past apart placed a.persists r.turn of_none s.tries.sent j h (counts_before j h);
        absent = out_none;
        few = r.few s.tries.few;
      };
      free = still_free;
      apart = apart;
      placed = placed;
    }

-- a call on a book that keeps its rules
pub since_call : (gone : Text → Bool) → ((x y : Text) → same_text x y ≡ true → gone x ≡ gone y) → (image b : Book) (past : List Entry) (i : Decoded)
    → ((e : Event) → i ≡ read_as e → (0 < e.kind) × (e.kind ≤ 9)) → rules (line_of b i (comes_to b i)).left ≡ true → eqb (comes_to b i).refusal 0 && books gone i ≡ false
    → SinceImage gone image b past → SinceImage gone image (line_of b i (comes_to b i)).left (line_of b i (comes_to b i) ∷ past)
since_call gone alike image b past i k r u s =
    let e : Entry = line_of b i (comes_to b i) in
    let round : Round e = call_round numbered_laws b i k in
    let unused = unused_names gone b i u in
    since_next gone alike image e past (call_advances b i) round unused s
    (not_of_gone numbered_laws gone e.left (book_kept e.left r) (still_free gone alike image e past (call_advances b i) round unused s))

-- ---- the tries, as the claim has them

pub tries_are : (gone : Text → Bool) (image b : Book) (past : List Entry) → SinceImage gone image b past → (j : ℕ) → j < length b.orders → has_gateway (order_in b j) ≡ true
    → let name = (order_in b j).names.name in
    (order_in b j).gateway.tries + (how_many (failed past) (new_out image name past) + how_many (failed past) (base_out image name past))
    ≡ length (new_out image name past) + base_tries image name past
tries_are gone image b past s j h hg =
    let name : Text = (order_in b j).names.name in
    let c : Counts image b past name j = s.tries.orders j h in
    omega (arith, c.tries hg, many_append (failed past) (new_out image name past) (base_out image name past))
