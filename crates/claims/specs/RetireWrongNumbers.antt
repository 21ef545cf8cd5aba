-- WRONG RETIREMENTS that Retire, RetireSince and Unnoticed shut out, and one that RetirePlaced does; those of RetireWrong are of what moves where.
-- The book has A, live, whose next report is its fourth, and B, filled. Rests on Retire, RetirePlaced, RetireSince and Unnoticed.
use Rattle.std.specs.Prelude.{ℕ, ◌+◌, ◌≡◌, refl, false, List, [], ◌∷◌, Some}
use Rattle.std.proofs.Common.{ap, subst, ◌∙◌, ⊎_elim, arith}
use Rattle.prelude.specs.Below.{first_below, all_below, count_below}
use Rattle.prelude.specs.Cases.{if◌then◌otherwise◌, maybe}
use Rattle.prelude.specs.Laws.Cases.{clash, none_some, same_some}
use Rattle.prelude.specs.Texts.{text_of, same_text}
use Rattle.prelude.specs.declared.Counted.{Counted}
use Rattle.prelude.specs.declared.Text.{Text}
use Rattle.store.specs.declared.State.{State}
use Rattle.store.specs.declared.Order.{Order}
use Rattle.store.specs.declared.Request.{Request}
use Rattle.store.specs.Orders.{no_order}
use Rattle.store.specs.Book.{Book, book_of, order_in}
use Rattle.store.specs.Finds.{find_name}
use Rattle.machine.specs.Claim.{last_qty_of}
use Rattle.machine.specs.Orders.{is_done}
use Rattle.machine.specs.Since.{held_qty}
use Rattle.step.specs.Entries.{check_of}
use Rattle.claims.specs.Retire.{order_done, RetireNumbers}
use Rattle.claims.specs.RetirePlaced.{DoneOrder, Placed}
use Rattle.claims.specs.RetireSince.{Since, Gone, archive_in, StandsArchived}
use Rattle.claims.specs.Unnoticed.{SameBut}

-- ---- the books: 48 is New, 50 Filled and 51 DoneForDay

abbrev letter : ℕ → Text
letter a = text_of (a ∷ [])

abbrev order : (name status cumqty execseq current : ℕ) → Order
order name status cumqty execseq current = record {
  client = 7;
  venue = 1;
  names = record { name = letter name; clordid = letter (name + 32); downstream = letter name; symbol = letter 87; venueorderid = letter 86 };
  terms = record { side = 49; ordtype = 49; timeinforce = 0; qty = 50000; price = 0 };
  state = record { status = status; cumqty = cumqty; avgpx = 0; execseq = execseq };
  links = record { amendments = 0; current = current; cancel = 0 };
  pending = no_order.pending;
  gateway = no_order.gateway;
}

-- an order's first request
abbrev first : (order name : ℕ) → Request
first order name = record { order = order; kind = 0; answered = 1; clordid = letter (name + 32); origclordid = text_of []; downstream = letter name; outcome = 1 }

abbrev book : (setting : ℕ) → List Order → List Request → Book
book setting os qs = record { setting = setting; orders = os; requests = qs }

abbrev order_a : (execseq : ℕ) → Order
order_a execseq = order 65 48 0 execseq 1

abbrev order_b : (cumqty link : ℕ) → Order
order_b cumqty link = order 66 50 cumqty 2 link

abbrev was : Book
was = book 100 (order_a 3 ∷ order_b 50000 2 ∷ []) (first 0 65 ∷ first 1 66 ∷ [])

-- ---- numbers

-- 17 for the name or ClOrdID of a live order
asked_of_live : (b a : List ℕ) (n : Counted) → ((i : ℕ) → order_done (book_of b) i ≡ false) → n.refusal ≡ 17 → RetireNumbers b a n → ⊥
asked_of_live b a n none e r =
    let (both, stands) = r.seventeen.0 e in
    ⊎_elim (λ s. clash _ s.done (none s.i)) (λ s. clash _ s.done (none _)) stands

-- 0 with an archive that does not keep its rules
archive_unasked : (b a : List ℕ) (n : Counted) → check_of b ≡ 0 → check_of a ≡ 1 → n.refusal ≡ 0 → RetireNumbers b a n → ⊥
archive_unasked b a n p q e r = let z : n.refusal ≡ 16 = r.sixteen.1 (p, q) in absurd (omega arith)

-- ---- an order that is done for the day goes along

day_taken : (held kept : Book) → Placed (book 100 (order 67 51 0 0 1 ∷ []) (first 0 67 ∷ [])) held (book 100 [] []) kept → ⊥
unfolding is_done find_name first_below
day_taken held kept p = let s = p.live 0 (record { there = omega arith; live = refl }) in none_some refl s.stands.found

-- ---- nothing else notices: what `SameBut` says of the book that the retirement leaves, before any call

b_done : DoneOrder was 1
unfolding is_done
b_done = record { there = omega arith; done = refl }

a_stays : DoneOrder was 0 → ⊥
unfolding is_done
a_stays d = clash false d.done refl

-- A's reports are counted anew, which the next answer tells
reports_anew : SameBut was was (book 100 (order_a 0 ∷ []) (first 0 65 ∷ [])) → ⊥
unfolding count_below
reports_anew s =
    let z : ◌≡◌ {A = ℕ} 3 0 = ap (λ (x : State). x.execseq) (s.stands 0 (omega arith) a_stays).same.state in
    absurd (omega arith)

-- the setting is lost, by which the next request may be one too many
setting_lost : SameBut was was (book 0 (order_a 3 ∷ []) (first 0 65 ∷ [])) → ⊥
setting_lost s = let z : ◌≡◌ {A = ℕ} 0 100 = s.setting in absurd (omega arith)

-- B stays
done_left : SameBut was was was → ⊥
unfolding count_below is_done if◌then◌otherwise◌
done_left s = let z : ◌≡◌ {A = ℕ} 3 2 = s.orders in absurd (omega arith)

-- ---- demand 3: what `StandsArchived` says of an order that went

module _ (s : Since) (g : Gone) where
  -- it stands in the book too
  still_there : (k : ℕ) → find_name (book_of s.book.held) g.name ≡ Some k → StandsArchived s g → ⊥
  still_there k e t = none_some t.no_more e

  -- the archive has no order of its name
  lost : g.name ≡ letter 66 → book_of (archive_in s g.archive) ≡ book 100 [] [] → StandsArchived s g → ⊥
  unfolding find_name first_below
  lost n e t = none_some {A = ℕ} {B = ⊥} (ap (λ (x : Book). find_name x g.name) e ∙ refl) t.found

  -- B is there, and what was told of it is forgotten
  filled_forgotten : g.name ≡ letter 66 → book_of (archive_in s g.archive) ≡ book 100 (order_b 0 1 ∷ []) (first 0 66 ∷ [])
      → last_qty_of 7 (letter 66) s.book.past + held_qty (book_of s.book.image) (letter 66) ≡ 50000 → StandsArchived s g → ⊥
  unfolding find_name first_below all_below same_text text_of maybe if◌then◌otherwise◌
  filled_forgotten n e told t =
      let here : find_name (book_of (archive_in s g.archive)) g.name ≡ Some 0 = rw (n, e) refl in
      let at : t.at ≡ 0 = same_some t.found here in
      let is : order_in (book_of (archive_in s g.archive)) t.at ≡ order_b 0 1 = rw (at, e) refl in
      let z : last_qty_of 7 (letter 66) s.book.past + held_qty (book_of s.book.image) (letter 66) ≡ 0 =
      subst (λ (o : Order). last_qty_of o.client o.names.name s.book.past + held_qty (book_of s.book.image) o.names.name ≡ o.state.cumqty) is t.told.filled in
      absurd (omega arith)
