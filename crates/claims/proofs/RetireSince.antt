-- DEMAND 3 ACROSS RETIREMENTS, on bytes: from move to move it is kept. Rests on RetireCalls and RetireTaken.
use Rattle.std.proofs.Common.{ℕ, ◌+◌, ◌<◌, arith, ◌≡◌, refl, sym, ap, ◌∙◌, subst, ◌⊎◌, inl, inr, true, List, [], ◌∷◌, ◌++◌, length, get_or, set, length-append, length-set, get_or-set_same, get_or-set_other}
use Rattle.std.proofs.Math.Decide.{ℕ_discrete, dec_lt}
use Rattle.std.proofs.Math.ListN.{get_or-append, get_or-eq_default}
use Rattle.std.proofs.Math.Seq.{get_or_at}
use Rattle.prelude.specs.Number.{Bytes}
use Rattle.prelude.specs.Laws.Totals.{every_map, many_append}
use Rattle.store.specs.declared.Order.{Order}
use Rattle.prelude.specs.declared.Text.{Text}
use Rattle.prelude.specs.Below.{first_below}
use Rattle.prelude.specs.Cases.{maybe}
use Rattle.prelude.specs.Laws.Cases.{same_some}
use Rattle.store.specs.Finds.{find_name}
use Rattle.store.specs.Laws.Adds.{blank_book}
use Rattle.store.specs.Book.{Book, order_in, book_of, empty_book}
use Rattle.step.specs.Entries.{start_of}
use Rattle.claims.proofs.Calls.{start_is}
use Rattle.claims.proofs.Net.{start_passes}
use Rattle.machine.specs.Claim.{failed}
use Rattle.machine.specs.Since.{held_qty, new_out, base_out}
use Rattle.rules.specs.Keeps.{keeps_of}
use Rattle.rules.specs.Laws.Keeps.{keeps_held}
use Rattle.machine.proofs.Claim.Since.{tries_are}
use Rattle.retire.specs.Retire.{Retired, retire_of}
use Rattle.claims.specs.Claims.{Passes}
use Rattle.claims.specs.RetireSince.{Move, mixed, into_used, into_other, Since, archive_in, is_gone, after_move, after_moves, beginning, Fresh, Told, SinceRetired, Booked, SinceBooked, RetireSinceOnBytes}
use Rattle.claims.proofs.Retired.Asked.{Asked, broken, bad_archive, stands, full, idle, moves, asked}
use Rattle.claims.proofs.RetireHolds.{Holds, anew_holds}
use Rattle.claims.proofs.RetireCalls.{mixed_holds}
use Rattle.claims.proofs.RetireTaken.{moved_at, Placed, retired_holds}

-- ---- the archives as bytes

no_bytes : (k : ℕ) → Bytes (get_or [] k [])
no_bytes k j = subst (λ (x : List ℕ). get_or x j 0 < 256) (sym (get_or-eq_default [] [] {n = k} (omega arith))) (omega arith)

archive_bytes : (b a : List ℕ) → Passes b → Bytes a → Bytes (retire_of b a).archive
archive_bytes b a p bytes = go (retire_of b a) (asked b a)
  where
    go : (r : Retired) → Asked b a r → Bytes r.archive
    go r (broken k) = bytes
    go r (bad_archive k l) = bytes
    go r (stands k l f) = bytes
    go r (full k l f w) = bytes
    go r (idle g z) = bytes
    go r (moves g z) = (moved_at b a p bytes g).passes_archive.bytes

-- no bytes are no book
no_book : keeps_of [] ≡ true → ⊥
no_book k = omega (arith, (keeps_held [] k).long)

module _ (s : Since) (h : Holds s) where
  -- an archive that was used before
  module _ (k : ℕ) where
    abbrev again : Retired
    again = retire_of s.book.held (archive_in s k)

    at_place : k < length s.archives → get_or (set s.archives k again.archive) k [] ≡ again.archive
    at_place l = get_or-set_same s.archives k again.archive [] l

    placed_again : Placed s k (archive_in s k) again (set s.archives k again.archive)
    placed_again = record {
      longer = omega (arith, length-set s.archives k again.archive);
      bytes = λ j. at j (ℕ_discrete j k) (dec_lt k (length s.archives));
      here = λ a. there a (dec_lt k (length s.archives));
      others = λ j l. other j l (ℕ_discrete j k);
    }
      where
        at : (j : ℕ) → Dec (j ≡ k) → Dec (k < length s.archives) → Bytes (get_or (set s.archives k again.archive) j [])
        at j (yes z) (yes l) = subst Bytes (sym (ap (λ (n : ℕ). get_or (set s.archives k again.archive) n []) z ∙ at_place l)) (archive_bytes s.book.held (archive_in s k) h.passes (h.bytes k))
        at j (yes z) (no l) = subst Bytes (sym (get_or-eq_default (set s.archives k again.archive) [] (omega (arith, length-set s.archives k again.archive)))) (no_bytes 0)
        at j (no z) d = subst Bytes (sym (get_or-set_other s.archives k j again.archive [] z)) (h.bytes j)

        there : keeps_of (archive_in s k) ≡ true → Dec (k < length s.archives) → (k < length (set s.archives k again.archive)) × (get_or (set s.archives k again.archive) k [] ≡ again.archive)
        there a (yes l) = (omega (arith, length-set s.archives k again.archive), at_place l)
        there a (no l) = absurd (no_book (ap keeps_of (sym (get_or-eq_default s.archives [] (omega arith))) ∙ a))

        other : (j : ℕ) → j < length s.archives → Dec (j ≡ k)
            → (get_or (set s.archives k again.archive) j [] ≡ archive_in s j) ⊎ ((archive_in s j ≡ archive_in s k) × (get_or (set s.archives k again.archive) j [] ≡ again.archive))
        other j l (yes z) =
            inr (ap (archive_in s) z, ap (λ (n : ℕ). get_or (set s.archives k again.archive) n []) z ∙ at_place (subst (λ (n : ℕ). n < length s.archives) z l))
        other j l (no z) = inl (get_or-set_other s.archives k j again.archive [] z)

  -- another one
  module _ (a : List ℕ) (bytes : Bytes a) where
    abbrev first : Retired
    first = retire_of s.book.held a

    last_place : get_or (s.archives ++ (first.archive ∷ [])) (length s.archives) [] ≡ first.archive
    last_place = get_or_at s.archives first.archive [] [] (length s.archives) refl

    placed_first : Placed s (length s.archives) a first (s.archives ++ (first.archive ∷ []))
    placed_first = record {
      longer = omega (arith, long);
      bytes = λ j. at j (dec_lt j (length s.archives)) (ℕ_discrete j (length s.archives));
      here = λ k. (omega (arith, long), last_place);
      others = λ j l. inl (get_or-append s.archives (first.archive ∷ []) [] j l);
    }
      where
        long : length (s.archives ++ (first.archive ∷ [])) ≡ length s.archives + 1
        long = length-append s.archives (first.archive ∷ [])

        at : (j : ℕ) → Dec (j < length s.archives) → Dec (j ≡ length s.archives) → Bytes (get_or (s.archives ++ (first.archive ∷ [])) j [])
        at j (yes l) d = subst Bytes (sym (get_or-append s.archives (first.archive ∷ []) [] j l)) (h.bytes j)
        at j (no l) (yes z) = subst Bytes (sym (ap (λ (n : ℕ). get_or (s.archives ++ (first.archive ∷ [])) n []) z ∙ last_place)) (archive_bytes s.book.held a h.passes bytes)
        at j (no l) (no z) = subst Bytes (sym (get_or-eq_default (s.archives ++ (first.archive ∷ [])) [] (omega (arith, long)))) (no_bytes 0)

-- ---- the list

moves_hold : (s : Since) → Holds s → (ms : List Move) → Fresh s ms → Holds (after_moves s ms)
moves_hold s h [] f = h
moves_hold s h (mixed m ∷ ms) f = moves_hold (after_move s (mixed m)) (mixed_holds s h m f.0) ms f.1
moves_hold s h (into_used k ∷ ms) f =
    moves_hold (after_move s (into_used k)) (retired_holds s h k (archive_in s k) (h.bytes k) (set s.archives k (again s h k).archive) (placed_again s h k)) ms f.1
moves_hold s h (into_other a bytes ∷ ms) f =
    moves_hold (after_move s (into_other a bytes))
    (retired_holds s h (length s.archives) a bytes (s.archives ++ ((first s h a bytes).archive ∷ [])) (placed_first s h a bytes)) ms f.1

-- ---- what is claimed

claimed : (s : Since) → Holds s → SinceRetired s
claimed s h = record {
  passes = h.passes;
  book = λ i l. record { filled = h.since.told.filled i l; ordered = h.since.told.ordered i l };
  archived = every_map (λ g x. x.stands) h.archived;
  had = h.had;
  booked = h.booked;
  held = h.held;
  done = h.done;
  tries = tries_are (is_gone s.gone) (book_of s.book.image) (book_of s.book.held) s.book.past h.since;
  few = λ i l hg. h.since.tries.few i hg;
}

-- an empty book holds of no order anything
empty_held : (setting : ℕ) (name : Text) → held_qty (empty_book setting) name ≡ 0
unfolding find_name first_below maybe
empty_held setting name = refl

since_booked : (s : Since) → SinceRetired s → (setting : ℕ) → book_of s.book.image ≡ empty_book setting → SinceBooked s
since_booked s c setting e = record {
  book = λ i l. all (order_in (book_of s.book.held) i) (c.book i l);
  archived = every_map (λ g x at w. subst (λ (k : ℕ). Booked s (order_in (book_of (archive_in s g.archive)) k)) (same_some x.found w) (all _ x.told)) c.archived;
}
  where
    all : (o : Order) → Told s o → Booked s o
    all o t = omega (arith, t.filled, ap (λ (b : Book). held_qty b o.names.name) e, empty_held setting o.names.name)

-- DEMAND 3 ACROSS RETIREMENTS
pub retire_since_on_bytes : RetireSinceOnBytes
retire_since_on_bytes = record {
  since = since;
  booked = λ b setting small z ms f i.
      since_booked _ (since (start_of b setting) (start_passes b setting z) ms f) setting (ap book_of (i ∙ start_is b setting z) ∙ blank_book setting small);
}
  where
    since : (b : List ℕ) → Passes b → (ms : List Move) → Fresh (beginning b) ms → SinceRetired (after_moves (beginning b) ms)
    since b p ms f = claimed _ (moves_hold (beginning b) (anew_holds b p [] no_bytes) ms f)
