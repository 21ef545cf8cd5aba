-- Demand 3 across retirements: a retirement keeps it, refused, with nothing done, or taken. Rests on RetireHolds, RetireGone, Retired and parts' proofs.
use Rattle.std.proofs.Common.{ℕ, ◌≤◌, ◌<◌, arith, ◌≡◌, refl, sym, ap, ◌∙◌, subst, true, false, Option, None, Some, List, [], ◌++◌, length, get_or}
use Rattle.std.proofs.lemmas.Bool.{or_right}
use Rattle.prelude.specs.Cases.{maybe}
use Rattle.prelude.specs.Laws.Cases.{none_some}
use Rattle.prelude.specs.Number.{Bytes}
use Rattle.prelude.specs.Totals.{Every}
use Rattle.prelude.specs.Laws.Totals.{every_map, every_append}
use Rattle.prelude.specs.declared.Text.{Text}
use Rattle.store.specs.declared.Order.{Order}
use Rattle.store.specs.Book.{order_in, book_of}
use Rattle.store.specs.Finds.{find_name}
use Rattle.machine.specs.Orders.{is_done}
use Rattle.machine.specs.Claim.{status_of}
use Rattle.machine.proofs.Claim.Since.{SinceImage}
use Rattle.parts.proofs.Archived.{Extends}
use Rattle.claims.specs.Claims.{Passes}
use Rattle.claims.specs.RetireSince.{Gone, Since, archive_in, is_gone, went_to, Has, Told}
use Rattle.claims.proofs.RetireHolds.{Still, StillHas, InArchive, Holds}
use Rattle.claims.proofs.RetireGone.{gone_append, went_behind, went_among}

-- ---- another book, archives that have what they had, and orders that have gone now

module _ (s : Since) (h : Holds s) (held : List ℕ) (archives : List (List ℕ)) (new : List Gone) where
  abbrev pub after : Since
  after = record { book = record { image = s.book.image; held = held; past = s.book.past }; archives = archives; gone = new ++ s.gone }

  -- an archive is as it was, or has more
  pub record Grown (k : ℕ) : Type 0 where
    pub extends : Extends (book_of (archive_in s k)) (book_of (archive_in after k))
    pub passes : Passes (archive_in s k) → Passes (archive_in after k)

  module _ (longer : length s.archives ≤ length archives) (passes : Passes held) (bytes : (k : ℕ) → Bytes (get_or archives k []))
      (since : SinceImage (is_gone (new ++ s.gone)) (book_of s.book.image) (book_of held) s.book.past)
      (grown : (k : ℕ) → k < length s.archives → Grown k)
      (news : Every (InArchive after) new)
      (still : (name : Text) (st : ℕ) → is_done st ≡ true → Still s name st → Still after name st) (has : (name : Text) → StillHas s name → StillHas after name) where
    still_gone : (name : Text) → is_gone s.gone name ≡ true → is_gone (new ++ s.gone) name ≡ true
    still_gone name x = gone_append new s.gone name ∙ or_right (is_gone new name) (is_gone s.gone name) x

    older : (g : Gone) → InArchive s g → InArchive after g
    older g x =
        let w : Grown g.archive = grown g.archive x.within in
        let e : order_in (book_of (archive_in after g.archive)) x.stands.at ≡ order_in (book_of (archive_in s g.archive)) x.stands.at = w.extends.same g.name x.stands.at x.stands.found in
        record {
          within = omega (arith, x.within);
          is = still_gone g.name x.is;
          stands = record {
            passes = w.passes x.stands.passes;
            at = x.stands.at;
            found = w.extends.found g.name x.stands.at x.stands.found;
            done = ap (λ (o : Order). is_done o.state.status) e ∙ x.stands.done;
            told = subst (Told after) (sym e) (record { filled = x.stands.told.filled; ordered = x.stands.told.ordered });
            no_more = since.free g.name (still_gone g.name x.is);
          };
        }

    pub grown_holds : Holds after
    grown_holds = record {
      passes = passes;
      bytes = bytes;
      since = since;
      archived = every_append news (every_map older h.archived);
      had = λ name w. has name (h.had name w);
      booked = every_map (λ x f name w. has name (f name w)) h.booked;
      held = λ name st w d. still name st d (h.held name st w d);
      done = every_map (λ x f name st w d. still name st d (f name st w d)) h.done;
    }

  grown_at : ((k : ℕ) → k < length s.archives → Grown k) → (name : Text) (k : ℕ) → went_to s.gone name ≡ Some k → Grown k
  grown_at grown name k w = let (g, p, e) = went_among s.gone name k h.archived w in grown k (subst (λ (n : ℕ). n < length s.archives) e p.within)

  -- what is said of a name that has not gone now is still so
  pub has_there : ((k : ℕ) → k < length s.archives → Grown k) → (name : Text) → is_gone new name ≡ false
      → (went_to s.gone name ≡ None → Has (book_of s.book.held) name → Has (book_of held) name) → StillHas s name → StillHas after name
  unfolding maybe
  has_there grown name n here v =
      subst (λ (x : Option ℕ). Has (maybe (book_of held) (λ k. book_of (archive_in after k)) x) name) (sym (went_behind new s.gone name n)) (go (went_to s.gone name) refl v)
    where
      go : (o : Option ℕ) → went_to s.gone name ≡ o → Has (maybe (book_of s.book.held) (λ k. book_of (archive_in s k)) o) name → Has (maybe (book_of held) (λ k. book_of (archive_in after k)) o) name
      go None e w = here e w
      go (Some k) e (i, w) = (i, (grown_at grown name k e).extends.found name i w)

  module _ (grown : (k : ℕ) → k < length s.archives → Grown k) (name : Text) (st : ℕ) where
    elsewhere : (k : ℕ) → went_to s.gone name ≡ Some k → status_of name (book_of (archive_in s k)) ≡ Some st → status_of name (book_of (archive_in after k)) ≡ Some st
    unfolding maybe
    elsewhere k w v = go (find_name (book_of (archive_in s k)) name) refl v
      where
        x : Extends (book_of (archive_in s k)) (book_of (archive_in after k))
        x = (grown_at grown name k w).extends

        go : (o : Option ℕ) → find_name (book_of (archive_in s k)) name ≡ o → maybe None (λ i. Some (order_in (book_of (archive_in s k)) i).state.status) o ≡ Some st
            → status_of name (book_of (archive_in after k)) ≡ Some st
        go None e z = none_some refl z
        go (Some i) e z =
            ap (maybe None (λ (j : ℕ). Some (order_in (book_of (archive_in after k)) j).state.status)) (x.found name i e)
            ∙ ap (λ (o : Order). Some o.state.status) (x.same name i e) ∙ z

    pub still_there : is_gone new name ≡ false → (went_to s.gone name ≡ None → status_of name (book_of s.book.held) ≡ Some st → status_of name (book_of held) ≡ Some st)
        → Still s name st → Still after name st
    unfolding maybe
    still_there n here v =
        ap (λ (x : Option ℕ). status_of name (maybe (book_of held) (λ k. book_of (archive_in after k)) x)) (went_behind new s.gone name n) ∙ go (went_to s.gone name) refl v
      where
        go : (o : Option ℕ) → went_to s.gone name ≡ o → status_of name (maybe (book_of s.book.held) (λ k. book_of (archive_in s k)) o) ≡ Some st
            → status_of name (maybe (book_of held) (λ k. book_of (archive_in after k)) o) ≡ Some st
        go None e w = here e w
        go (Some k) e w = elsewhere k e w
