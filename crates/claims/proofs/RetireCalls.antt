-- Demand 3 across retirements: the calls that are no retirement keep it, and a return begins anew. Rests on RetireHolds, Events and Marks.
use Rattle.std.proofs.Common.{ℕ, ◌≡◌, refl, sym, ap, ◌∙◌, subst, Bool, true, false, List, [], ◌∷◌, ◌++◌, append_assoc, eqb}
use Rattle.std.proofs.lemmas.Bool.{eqb-false}
use Rattle.prelude.specs.Cases.{if◌then◌otherwise◌}
use Rattle.prelude.specs.Totals.{Every, every[], every∷}
use Rattle.machine.specs.Calls.{line_at, just_returned}
use Rattle.machine.specs.History.{Entry}
use Rattle.marks.specs.Marks.{Marked, return_of}
use Rattle.marks.proofs.Laws.Stands.{calls_keep}
use Rattle.step.specs.Entries.{event_of}
use Rattle.claims.specs.Claims.{Call, entries}
use Rattle.claims.specs.Opens.{bytes_after}
use Rattle.claims.specs.Marks.{event, set_mark, return_to}
use Rattle.claims.specs.Events.{singly, lines_of, Mixed, taking, calling, put_back}
use Rattle.claims.specs.RetireSince.{Since, mixed, after_move, lines_by, Unused}
use Rattle.claims.proofs.Events.{past_more, left_is}
use Rattle.claims.proofs.Marks.{return_passes}
use Rattle.claims.proofs.RetireHolds.{Holds, anew_holds, call_holds}

every_split : {P : Entry → Type 0} (s t : List Entry) → Every P (s ++ t) → Every P s × Every P t
every_split [] t e = (every[], e)
every_split (x ∷ s) t (every∷ p ps) = let (q, r) = every_split s t ps in (every∷ p q, r)

every_head : {P : Entry → Type 0} {x : Entry} → Every P (x ∷ []) → P x
every_head (every∷ p ps) = p

-- the same with another book, history
abbrev moved : Since → (held : List ℕ) → (past : List Entry) → Since
moved s held past = record { book = record { image = s.book.image; held = held; past = past }; archives = s.archives; gone = s.gone }

calls_hold : (cs : List Call) (s : Since) → Holds s → Every (Unused s.gone) (lines_of s.book.held cs) → Holds (moved s (bytes_after s.book.held cs) (lines_of s.book.held cs ++ s.book.past))
calls_hold [] s h u = h
calls_hold (c ∷ cs) s h u =
    let left : List ℕ = (event_of s.book.held c.event c.answer).book in
    let l : Entry = line_at entries s.book.held c in
    let e : lines_of s.book.held (c ∷ cs) ≡ lines_of left cs ++ (l ∷ []) = past_more left (l ∷ []) cs in
    let v = every_split (lines_of left cs) (l ∷ []) (subst (Every (Unused s.gone)) e u) in
    subst (λ (p : List Entry). Holds (moved s (bytes_after left cs) p))
    (sym (append_assoc (lines_of left cs) (l ∷ []) s.book.past) ∙ ap (λ (x : List Entry). x ++ s.book.past) (sym e))
    (calls_hold cs (moved s left (l ∷ s.book.past)) (call_holds s h c (every_head v.1)) v.0)

-- the book is the same, and nothing was told
unmoved : (s : Since) (held : List ℕ) → held ≡ s.book.held → Holds s → Holds (moved s held s.book.past)
unmoved s held e h = subst (λ (x : List ℕ). Holds (moved s x s.book.past)) (sym e) h

pub mixed_holds : (s : Since) → Holds s → (m : Mixed) → Every (Unused s.gone) (lines_by s.book.held m) → Holds (after_move s (mixed m))
unfolding if◌then◌otherwise◌
mixed_holds s h (taking t) u =
    subst (λ (x : List ℕ). Holds (moved s x (lines_of s.book.held (singly s.book.held t) ++ s.book.past))) (sym (left_is s.book.held h.passes t))
    (calls_hold (singly s.book.held t) s h u)
mixed_holds s h (calling (event c)) u = call_holds s h c (every_head u)
mixed_holds s h (calling (set_mark name places)) u = unmoved s _ (calls_keep.same_book s.book.held name places) h
mixed_holds s h (calling (return_to name places bytes)) u = go (eqb r.returned 0) refl
  where
    r : Marked
    r = return_of s.book.held name places

    go : (t : Bool) → eqb r.returned 0 ≡ t
        → Holds (record {
          book = if t then just_returned entries r.book otherwise record { image = s.book.image; held = r.book; past = s.book.past };
          archives = s.archives;
          gone = if t then [] otherwise s.gone;
        })
    go true e = anew_holds r.book (return_passes s.book.held name places h.passes bytes) s.archives h.bytes
    go false e = unmoved s r.book ((calls_keep.returns s.book.held name places).refused (eqb-false _ 0 e)).0 h
mixed_holds s h (put_back image p) u = anew_holds image p s.archives h.bytes
