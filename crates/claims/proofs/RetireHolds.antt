-- Demand 3 across retirements: what is kept from move to move, and that a call of `event` keeps it. Rests on parts' proofs and Calls.
use Rattle.std.proofs.Common.{ℕ, ◌<◌, arith, ◌≡◌, refl, sym, ap, ◌∙◌, subst, ◌⊎◌, inl, inr, Bool, true, false, ◌&&◌, ◌||◌, Option, None, Some, List, [], ◌∷◌, eqb, length, get_or}
use Rattle.std.proofs.lemmas.Bool.{cases_Bool}
use Rattle.prelude.specs.Cases.{if◌then◌otherwise◌, maybe}
use Rattle.prelude.specs.Laws.Cases.{clash, none_some, maybe_none}
use Rattle.prelude.specs.Number.{Bytes}
use Rattle.prelude.specs.Texts.{same_text}
use Rattle.prelude.specs.Laws.Texts.{same_back, same_right}
use Rattle.prelude.specs.Totals.{Every, every[], every∷}
use Rattle.prelude.specs.Laws.Totals.{every_map}
use Rattle.prelude.specs.declared.Text.{Text}
use Rattle.store.specs.declared.Order.{Order}
use Rattle.store.specs.Book.{Book, order_in, book_of}
use Rattle.store.specs.Finds.{find_name}
use Rattle.machine.specs.Orders.{is_done}
use Rattle.machine.specs.Calls.{line_at, just_returned}
use Rattle.machine.specs.Claim.{status_of}
use Rattle.machine.specs.Rules.{rules}
use Rattle.machine.specs.History.{Decoded, unread, read_as, comes_to, Entry, line_of}
use Rattle.machine.proofs.Kept.Indexed.{book_kept}
use Rattle.machine.proofs.Claim.Filled.{name_stays, status_stays, Advances, call_advances}
use Rattle.rules.specs.Laws.Keeps.{keeps_held}
use Rattle.step.specs.Entries.{event_of}
use Rattle.machine.proofs.Claim.Names.{named_at, silent}
use Rattle.machine.proofs.Claim.Booked.{books}
use Rattle.machine.proofs.Claim.Since.{SinceImage, since_call}
use Rattle.machine.proofs.Claim.Image.{since_start}
use Rattle.claims.specs.Claims.{Call, read_call, entries, Passes}
use Rattle.claims.specs.RetireSince.{Gone, Since, archive_in, is_gone, books_gone, Unused, went_to, stands_in, Has, Told, StandsArchived}
use Rattle.claims.proofs.Taken.{kept_check}
use Rattle.claims.proofs.Calls.{passing, kinds}

pub passes_rules : (b : List ℕ) → Passes b → rules (book_of b) ≡ true
passes_rules b p = (keeps_held b (kept_check b p.passes)).rules

-- ---- the orders that went

pub gone_alike : (gone : List Gone) (x y : Text) → same_text x y ≡ true → is_gone gone x ≡ is_gone gone y
gone_alike [] x y s = refl
gone_alike (g ∷ gs) x y s = (λ i. same_right g.name x y s i || gone_alike gs x y s i)

-- of one that did not go, nothing says where
pub went_none : (gone : List Gone) (name : Text) → is_gone gone name ≡ false → went_to gone name ≡ None
unfolding if◌then◌otherwise◌
went_none [] name h = refl
went_none (g ∷ gs) name h = go (same_text g.name name) h (went_none gs name)
  where
    go : (t : Bool) → t || is_gone gs name ≡ false → (is_gone gs name ≡ false → went_to gs name ≡ None) → (if t then Some g.archive otherwise went_to gs name) ≡ None
    go true w f = clash true refl w
    go false w f = f w

pub books_same : (gone : List Gone) (i : Decoded) → books_gone gone i ≡ books (is_gone gone) i
books_same gone (unread n) = refl
books_same gone (read_as e) = refl

-- ---- what is kept

abbrev pub Still : Since → Text → ℕ → Type 0
Still s name st = status_of name (stands_in s name) ≡ Some st

abbrev pub StillHas : Since → Text → Type 0
StillHas s name = Has (stands_in s name) name

pub record InArchive (s : Since) (g : Gone) : Type 0 where
  pub within : g.archive < length s.archives
  pub is : is_gone s.gone g.name ≡ true
  pub stands : StandsArchived s g

pub record Holds (s : Since) : Type 0 where
  pub passes : Passes s.book.held
  pub bytes : (k : ℕ) → Bytes (archive_in s k)
  pub since : SinceImage (is_gone s.gone) (book_of s.book.image) (book_of s.book.held) s.book.past
  pub archived : Every (InArchive s) s.gone
  pub had : (name : Text) → Has (book_of s.book.image) name → StillHas s name
  pub booked : Every (λ e. (name : Text) → Has e.left name → StillHas s name) s.book.past
  pub held : (name : Text) (st : ℕ) → status_of name (book_of s.book.image) ≡ Some st → is_done st ≡ true → Still s name st
  pub done : Every (λ e. (name : Text) (st : ℕ) → status_of name e.left ≡ Some st → is_done st ≡ true → Still s name st) s.book.past

-- a name that the book has did not go
pub had_not_gone : (gone : List Gone) (b : Book) → ((name : Text) → is_gone gone name ≡ true → find_name b name ≡ None) → (name : Text) → Has b name → is_gone gone name ≡ false
had_not_gone gone b free name w = go (cases_Bool (is_gone gone name))
  where
    go : (is_gone gone name ≡ true) ⊎ (is_gone gone name ≡ false) → is_gone gone name ≡ false
    go (inl g) = none_some (free name g) w.1
    go (inr g) = g

pub has_not_gone : (gone : List Gone) (b : Book) → ((name : Text) → is_gone gone name ≡ true → find_name b name ≡ None)
    → (name : Text) (st : ℕ) → status_of name b ≡ Some st → is_gone gone name ≡ false
has_not_gone gone b free name st w = go (cases_Bool (is_gone gone name))
  where
    go : (is_gone gone name ≡ true) ⊎ (is_gone gone name ≡ false) → is_gone gone name ≡ false
    go (inl g) = none_some (maybe_none (find_name b name) None (λ i. Some (order_in b i).state.status) (free name g)) w
    go (inr g) = g

-- ---- at the beginning, and after a return

pub anew_holds : (b : List ℕ) → Passes b → (archives : List (List ℕ)) → ((k : ℕ) → Bytes (get_or archives k []))
    → Holds (record { book = just_returned entries b; archives = archives; gone = [] })
unfolding maybe
anew_holds b p archives bytes = record {
  passes = p;
  bytes = bytes;
  since = since_start (book_of b) (book_kept (book_of b) (passes_rules b p)) (is_gone []) (λ name. refl);
  archived = every[];
  had = λ name w. w;
  booked = every[];
  held = λ name st w d. w;
  done = every[];
}

-- ---- a call of `event`

module _ (s : Since) (h : Holds s) (c : Call) (u : Unused s.gone (line_at entries s.book.held c)) where
  abbrev b : Book
  b = book_of s.book.held

  abbrev e : Entry
  e = line_at entries s.book.held c

  abbrev m : Entry
  m = line_of b (read_call c) (comes_to b (read_call c))

  abbrev after : Since
  after = record {
    book = record { image = s.book.image; held = (event_of s.book.held c.event c.answer).book; past = e ∷ s.book.past };
    archives = s.archives;
    gone = s.gone;
  }

  same : e ≡ m
  same = passing.same s.book.held c h.passes

  left_passes : Passes after.book.held
  left_passes = passing.stays s.book.held c h.passes

  advances : Advances b e.messages e.left
  advances = subst (λ (l : Entry). Advances b l.messages l.left) (sym same) (call_advances b (read_call c))

  since_after : SinceImage (is_gone s.gone) (book_of s.book.image) e.left (e ∷ s.book.past)
  since_after =
      subst (λ (l : Entry). SinceImage (is_gone s.gone) (book_of s.book.image) l.left (l ∷ s.book.past)) (sym same)
      (since_call (is_gone s.gone) (gone_alike s.gone) (book_of s.book.image) b s.book.past (read_call c) (λ x w. (kinds.above c x w, kinds.below c x w))
      (subst (λ (l : Entry). rules l.left ≡ true) same (passes_rules after.book.held left_passes))
      (ap (λ (x : Bool). eqb (comes_to b (read_call c)).refusal 0 && x) (sym (books_same s.gone (read_call c)))
      ∙ ap (λ (l : Entry). eqb l.refusal 0 && books_gone s.gone l.input) (sym same) ∙ u)
      h.since)

  -- nothing more is told of an order that went
  told_more : (g : Gone) → InArchive s g → (o : Order) → same_text g.name o.names.name ≡ true → Told s o → Told after o
  told_more g x o w t =
      let none : find_name e.left o.names.name ≡ None = since_after.free o.names.name (sym (gone_alike s.gone g.name o.names.name w) ∙ x.is) in
      record { filled = omega (arith, silent e advances o.client o.names.name none, t.filled); ordered = t.ordered }

  archived_after : (g : Gone) → InArchive s g → InArchive after g
  archived_after g x =
      let a : Book = book_of (archive_in s g.archive) in
      record {
        within = x.within;
        is = x.is;
        stands = record {
          passes = x.stands.passes;
          at = x.stands.at;
          found = x.stands.found;
          done = x.stands.done;
          told = told_more g x (order_in a x.stands.at) (same_back _ g.name (named_at a g.name x.stands.at x.stands.found)) x.stands.told;
          no_more = since_after.free g.name x.is;
        };
      }

  still_after : (name : Text) (st : ℕ) → is_done st ≡ true → Still s name st → Still after name st
  unfolding maybe
  still_after name st d = go (went_to s.gone name)
    where
      go : (x : Option ℕ) → status_of name (maybe b (λ k. book_of (archive_in s k)) x) ≡ Some st
          → status_of name (maybe e.left (λ k. book_of (archive_in s k)) x) ≡ Some st
      go None w = status_stays b e.left advances.persists name st w d
      go (Some k) w = w

  has_after : (name : Text) → StillHas s name → StillHas after name
  unfolding maybe
  has_after name = go (went_to s.gone name)
    where
      go : (x : Option ℕ) → Has (maybe b (λ k. book_of (archive_in s k)) x) name → Has (maybe e.left (λ k. book_of (archive_in s k)) x) name
      go None (k, w) = (k, name_stays b e.left advances.persists name k w)
      go (Some i) w = w

  call_has : (name : Text) → Has e.left name → StillHas after name
  unfolding maybe
  call_has name w =
      subst (λ (x : Option ℕ). Has (maybe e.left (λ k. book_of (archive_in s k)) x) name) (sym (went_none s.gone name (had_not_gone s.gone e.left since_after.free name w))) w

  call_done : (name : Text) (st : ℕ) → status_of name e.left ≡ Some st → Still after name st
  unfolding maybe
  call_done name st w =
      ap (λ (x : Option ℕ). status_of name (maybe e.left (λ k. book_of (archive_in s k)) x)) (went_none s.gone name (has_not_gone s.gone e.left since_after.free name st w)) ∙ w

  pub call_holds : Holds after
  call_holds = record {
    passes = left_passes;
    bytes = h.bytes;
    since = since_after;
    archived = every_map archived_after h.archived;
    had = λ name w. has_after name (h.had name w);
    booked = every∷ call_has (every_map (λ x f name w. has_after name (f name w)) h.booked);
    held = λ name st w d. still_after name st d (h.held name st w d);
    done = every∷ (λ name st w d. call_done name st w) (every_map (λ x f name st w d. still_after name st d (f name st w d)) h.done);
  }
