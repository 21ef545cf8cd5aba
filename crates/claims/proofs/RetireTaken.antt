-- Demand 3 across retirements: a retirement keeps it, whether it is refused, has nothing done, or moves the orders that are done. Rests on RetireMoves and Retired.
use Rattle.std.proofs.Common.{not, ℕ, ◌≤◌, ◌<◌, arith, ◌≡◌, refl, sym, ap, ◌∙◌, subst, ◌⊎◌, inl, inr, true, false, ◌||◌, Option, None, Some, List, [], ◌++◌, eqb, length, get_or}
use Rattle.std.proofs.lemmas.Bool.{cases_Bool, false_from_ne_true, or_cases, or_left, or_right}
use Rattle.prelude.specs.Counted.{refusing, counting}
use Rattle.prelude.specs.Cases.{if◌then◌otherwise◌, maybe}
use Rattle.prelude.specs.Laws.Cases.{clash, none_some, same_some, maybe_some, if_true, if_false}
use Rattle.prelude.specs.Number.{Bytes}
use Rattle.prelude.specs.Texts.{same_text}
use Rattle.prelude.specs.Laws.Texts.{same_self, same_back}
use Rattle.prelude.specs.Totals.{Every, every[]}
use Rattle.prelude.specs.declared.Text.{Text}
use Rattle.store.specs.Book.{Book, order_in, book_of}
use Rattle.store.specs.Finds.{find_name}
use Rattle.machine.specs.Orders.{is_done}
use Rattle.machine.specs.Claim.{status_of}
use Rattle.machine.proofs.Kept.Indexed.{BookKept, book_kept}
use Rattle.machine.proofs.Kept.Consequences.{found_name}
use Rattle.rules.specs.Keeps.{keeps_of}
use Rattle.parts.specs.Parts.{done_at, live_part, archived, orders_gone}
use Rattle.machine.proofs.Claim.Names.{named_at}
use Rattle.machine.proofs.Claim.Told.{told}
use Rattle.machine.proofs.Claim.Walk.{found_order}
use Rattle.parts.specs.Laws.Ranks.{rank_below}
use Rattle.prelude.specs.Below.{count_below}
use Rattle.machine.proofs.Claim.Since.{SinceImage}
use Rattle.parts.proofs.Retired.{name_cong, live_found, since_retired}
use Rattle.parts.proofs.Archived.{Extends, Went, extends, went}
use Rattle.retire.specs.Retire.{book_left, archive_left, Retired, retire_of}
use Rattle.claims.specs.Claims.{Passes}
use Rattle.claims.specs.RetireSince.{Gone, Since, archive_in, is_gone, gone_of, retiring, Has}
use Rattle.claims.proofs.Taken.{check_kept}
use Rattle.claims.proofs.Retired.Asked.{Goes, Asked, broken, bad_archive, stands, full, idle, moves, asked}
use Rattle.claims.proofs.Retired.Left.{left_book, left_keeps, left_same, done_kept, archive_book, archive_keeps, archive_same}
use Rattle.claims.proofs.RetireHolds.{passes_rules, went_none, Still, StillHas, InArchive, Holds}
use Rattle.claims.proofs.RetireGone.{gone_append, gone_none, every_gone, Among, among, is_among, went_here}
use Rattle.claims.proofs.RetireMoves.{Grown, grown_holds, has_there, still_there}

-- ---- the books that a retirement of done orders leaves

pub record Moved (b a : List ℕ) : Type 0 where
  passes_book : Passes (book_left b)
  pub passes_archive : Passes (archive_left a b)
  book : book_of (book_left b) ≡ live_part (book_of b)
  archive : book_of (archive_left a b) ≡ archived (book_of a) (book_of b)
  kept_book : BookKept (live_part (book_of b))
  kept_archive : BookKept (archived (book_of a) (book_of b))

pub moved_at : (b a : List ℕ) → Passes b → Bytes a → Goes b a → Moved b a
moved_at b a p bytes g =
    let book : book_of (book_left b) ≡ live_part (book_of b) = left_book b p.bytes g.book in
    let passes : Passes (book_left b) = record { bytes = (left_same b p.bytes g.book).bytes p.bytes; passes = check_kept _ (left_keeps b p.bytes g.book) } in
    record {
      passes_book = passes;
      passes_archive = record { bytes = (archive_same b p.bytes g.book a g.archive g.free g.room).bytes bytes; passes = check_kept _ (archive_keeps b p.bytes g.book a g.archive g.free g.room) };
      book = book;
      archive = archive_book b p.bytes g.book a g.archive g.free g.room;
      kept_book = subst BookKept book (book_kept _ (passes_rules (book_left b) passes));
      kept_archive = done_kept b p.bytes g.book a g.archive g.free g.room;
    }

-- ---- where the archive stands among the others

pub record Placed (s : Since) (number : ℕ) (a : List ℕ) (r : Retired) (archives : List (List ℕ)) : Type 0 where
  pub longer : length s.archives ≤ length archives
  pub bytes : (k : ℕ) → Bytes (get_or archives k [])
  pub here : keeps_of a ≡ true → (number < length archives) × (get_or archives number [] ≡ r.archive)
  pub others : (k : ℕ) → k < length s.archives
      → (get_or archives k [] ≡ archive_in s k) ⊎ ((archive_in s k ≡ a) × (get_or archives k [] ≡ r.archive))

module _ (s : Since) (h : Holds s) (number : ℕ) (a : List ℕ) (bytes : Bytes a) (archives : List (List ℕ)) where
  abbrev held : List ℕ
  held = s.book.held

  abbrev B : Book
  B = book_of held

  -- ---- nothing moves

  still_same : (archives : List (List ℕ)) → ((k : ℕ) → k < length s.archives → get_or archives k [] ≡ archive_in s k) → (k : ℕ) → k < length s.archives → Grown s h held archives [] k
  still_same archives f k l =
      let e : get_or archives k [] ≡ archive_in s k = f k l in
      record {
        extends = subst (λ (x : List ℕ). Extends (book_of (archive_in s k)) (book_of x)) (sym e) (record { found = λ t i w. w; same = λ t i w. refl });
        passes = λ p. subst Passes (sym e) p;
      }

  as_before : (archives : List (List ℕ)) → length s.archives ≤ length archives → ((k : ℕ) → Bytes (get_or archives k []))
      → ((k : ℕ) → k < length s.archives → get_or archives k [] ≡ archive_in s k)
      → Holds (record { book = record { image = s.book.image; held = held; past = s.book.past }; archives = archives; gone = [] ++ s.gone })
  as_before archives l y f =
      grown_holds s h held archives [] l h.passes y h.since (still_same archives f) every[]
      (λ name st d v. still_there s h held archives [] (still_same archives f) name st refl (λ n w. w) v)
      (λ name v. has_there s h held archives [] (still_same archives f) name refl (λ n w. w) v)

  unchanged : (r : Retired) → r.book ≡ held → r.archive ≡ a → Placed s number a r archives → (new : List Gone) → new ≡ []
      → Holds (record { book = record { image = s.book.image; held = r.book; past = s.book.past }; archives = archives; gone = new ++ s.gone })
  unchanged r eb ea p new en =
      subst (λ (x : List ℕ). Holds (record { book = record { image = s.book.image; held = x; past = s.book.past }; archives = archives; gone = new ++ s.gone })) (sym eb)
      (subst (λ (x : List Gone). Holds (record { book = record { image = s.book.image; held = held; past = s.book.past }; archives = archives; gone = x ++ s.gone })) (sym en)
      (as_before archives p.longer p.bytes (λ k l. at k (p.others k l))))
    where
      at : (k : ℕ) → (get_or archives k [] ≡ archive_in s k) ⊎ ((archive_in s k ≡ a) × (get_or archives k [] ≡ r.archive)) → get_or archives k [] ≡ archive_in s k
      at k (inl e) = e
      at k (inr e) = e.1 ∙ ea ∙ sym e.0

  -- ---- those that are done move

  abbrev new : List Gone
  new = gone_of number B.orders

  none_new : orders_gone B ≡ 0 → new ≡ []
  unfolding done_at
  none_new z = gone_none number B.orders (λ i l. false_from_ne_true _ (λ d. let r : count_below (done_at B) i < count_below (done_at B) (length B.orders) = rank_below (done_at B) i (length B.orders) l d in omega arith))

  module _ (m : Moved held a) (p : Placed s number a (record { returned = counting (orders_gone B); book = book_left held; archive = archive_left a held }) archives)
      (ka : keeps_of a ≡ true) where
    kept : BookKept B
    kept = book_kept B (passes_rules held h.passes)

    here : get_or archives number [] ≡ archive_left a held
    here = (p.here ka).1

    abbrev s' : Since
    s' = record { book = record { image = s.book.image; held = book_left held; past = s.book.past }; archives = archives; gone = new ++ s.gone }

    gone_split : (name : Text) → is_gone (new ++ s.gone) name ≡ is_gone new name || is_gone s.gone name
    gone_split name = gone_append new s.gone name

    -- an order that is done now has gone
    done_gone : (i : ℕ) → i < length B.orders → done_at B i ≡ true → (name : Text) → same_text (order_in B i).names.name name ≡ true → is_gone new name ≡ true
    unfolding done_at
    done_gone i l d name t = is_among number B.orders name i l d t

    live_since : SinceImage (is_gone (new ++ s.gone)) (book_of s.book.image) (book_of (book_left held)) s.book.past
    live_since =
        subst (λ (x : Book). SinceImage (is_gone (new ++ s.gone)) (book_of s.book.image) x s.book.past) (sym m.book)
        (since_retired B kept m.kept_book (is_gone s.gone) (is_gone (new ++ s.gone)) (book_of s.book.image) s.book.past
        (λ name g. gone_split name ∙ or_right (is_gone new name) (is_gone s.gone name) g)
        (λ i l d name t. gone_split name ∙ or_left (is_gone new name) (is_gone s.gone name) (done_gone i l d name t))
        (λ name g. which name (or_cases (is_gone new name) (is_gone s.gone name) (sym (gone_split name) ∙ g)))
        h.since)
      where
        which : (name : Text) → (is_gone new name ≡ true) ⊎ (is_gone s.gone name ≡ true)
            → (is_gone s.gone name ≡ true) ⊎ ((i : ℕ) × (i < length B.orders) × (done_at B i ≡ true) × (same_text (order_in B i).names.name name ≡ true))
        which name (inl g) = let x : Among number B.orders name = among number B.orders name g in inr (x.at, x.below, unfold done_at in x.done, x.same)
        which name (inr g) = inl g

    grown : (k : ℕ) → k < length s.archives → Grown s h (book_left held) archives new k
    grown k l = go (p.others k l)
      where
        go : (get_or archives k [] ≡ archive_in s k) ⊎ ((archive_in s k ≡ a) × (get_or archives k [] ≡ archive_left a held)) → Grown s h (book_left held) archives new k
        go (inl e) = record {
          extends = subst (λ (x : List ℕ). Extends (book_of (archive_in s k)) (book_of x)) (sym e) (record { found = λ t i w. w; same = λ t i w. refl });
          passes = λ q. subst Passes (sym e) q;
        }
        go (inr (e, f)) = record {
          extends =
              subst (λ (x : List ℕ). Extends (book_of x) (book_of (get_or archives k []))) (sym e)
              (subst (λ (x : List ℕ). Extends (book_of a) (book_of x)) (sym f)
              (subst (Extends (book_of a)) (sym m.archive) (extends (book_of a) B m.kept_archive)));
          passes = λ q. subst Passes (sym f) m.passes_archive;
        }

    abbrev A : Book
    A = book_of (get_or archives number [])

    archive_is : A ≡ archived (book_of a) B
    archive_is = ap book_of here ∙ m.archive

    gone_at : (i : ℕ) → i < length B.orders → done_at B i ≡ true → Went (order_in B i) A
    gone_at i l d = subst (Went (order_in B i)) (sym archive_is) (went (book_of a) B m.kept_archive i l d)

    news : Every (InArchive s') new
    news = every_gone number B.orders (λ i l d. at i l (unfold done_at in d))
      where
        at : (i : ℕ) → i < length B.orders → done_at B i ≡ true → InArchive s' (record { name = (order_in B i).names.name; archive = number })
        at i l d =
            let name : Text = (order_in B i).names.name in
            let w : Went (order_in B i) A = gone_at i l d in
            let g : is_gone (new ++ s.gone) name ≡ true = gone_split name ∙ or_left (is_gone new name) (is_gone s.gone name) (done_gone i l d name (same_self name)) in
            record {
              within = (p.here ka).0;
              is = g;
              stands = record {
                passes = subst Passes (sym here) m.passes_archive;
                at = w.at;
                found = w.found;
                done = ap is_done w.stays.status ∙ (unfold done_at in d);
                told = record {
                  filled = (λ t. told (book_of s.book.image) s.book.past (w.stays.client t) (w.stays.name t)) ∙ h.since.told.filled i l ∙ sym w.stays.cumqty;
                  ordered = omega (arith, w.stays.cumqty, w.stays.qty, h.since.told.ordered i l);
                };
                no_more = live_since.free name g;
              };
            }

    -- a done status stands still where it stood, or in the archive now
    still_gone : (name : Text) (st : ℕ) → is_gone new name ≡ true → Still s name st → Still s' name st
    unfolding maybe
    still_gone name st g v =
        ap (λ (o : Option ℕ). status_of name (maybe (book_of (book_left held)) (λ k. book_of (archive_in s' k)) o)) (went_here number B.orders s.gone name g)
        ∙ ap (maybe None (λ (j : ℕ). Some (order_in A j).state.status)) found
        ∙ ap Some w.stays.status ∙ sym (maybe_some (find_name B name) x.at None (λ i. Some (order_in B i).state.status) there) ∙ before
      where
        x : Among number B.orders name
        x = among number B.orders name g

        w : Went (order_in B x.at) A
        w = gone_at x.at x.below (unfold done_at in x.done)

        found : find_name A name ≡ Some w.at
        found = name_cong A name (order_in B x.at).names.name (same_back _ name x.same) ∙ w.found

        there : find_name B name ≡ Some x.at
        there = name_cong B name (order_in B x.at).names.name (same_back _ name x.same) ∙ found_name B kept x.at x.below

        not_gone : (is_gone s.gone name ≡ true) ⊎ (is_gone s.gone name ≡ false) → is_gone s.gone name ≡ false
        not_gone (inl y) = none_some (h.since.free name y) there
        not_gone (inr y) = y

        before : status_of name B ≡ Some st
        before = ap (λ (o : Option ℕ). status_of name (maybe B (λ k. book_of (archive_in s k)) o)) (sym (went_none s.gone name (not_gone (cases_Bool (is_gone s.gone name))))) ∙ v

    not_here : (name : Text) (st : ℕ) → is_done st ≡ true → is_gone new name ≡ false → status_of name B ≡ Some st → ⊥
    unfolding maybe
    not_here name st d n v = go (find_name B name) refl v
      where
        go : (o : Option ℕ) → find_name B name ≡ o → maybe None (λ i. Some (order_in B i).state.status) o ≡ Some st → ⊥
        go None e z = none_some refl z
        go (Some i) e z =
            clash (is_gone new name)
            (is_among number B.orders name i (found_order B name i e) (ap is_done (same_some refl z) ∙ d) (named_at B name i e)) n

    still_moved : (name : Text) (st : ℕ) → is_done st ≡ true → Still s name st → Still s' name st
    still_moved name st d v = go (cases_Bool (is_gone new name))
      where
        go : (is_gone new name ≡ true) ⊎ (is_gone new name ≡ false) → Still s' name st
        go (inl g) = still_gone name st g v
        go (inr n) = still_there s h (book_left held) archives new grown name st n (λ e w. absurd (not_here name st d n w)) v

    has_moved : (name : Text) → StillHas s name → StillHas s' name
    has_moved name v = go (cases_Bool (is_gone new name))
      where
        in_archive : Among number B.orders name → Has A name
        in_archive x =
            let w : Went (order_in B x.at) A = gone_at x.at x.below (unfold done_at in x.done) in
            (w.at, name_cong A name (order_in B x.at).names.name (same_back _ name x.same) ∙ w.found)

        live_there : (i : ℕ) → find_name B name ≡ Some i → (done_at B i ≡ true) ⊎ (done_at B i ≡ false) → is_gone new name ≡ false → Has (live_part B) name
        live_there i w (inl d) n = clash _ (done_gone i (found_order B name i w) d name (named_at B name i w)) n
        live_there i w (inr d) n = (_, live_found B kept m.kept_book i (found_order B name i w) (ap not d) name (named_at B name i w))

        go : (is_gone new name ≡ true) ⊎ (is_gone new name ≡ false) → StillHas s' name
        go (inl g) =
            subst (λ (o : Option ℕ). Has (maybe (book_of (book_left held)) (λ k. book_of (archive_in s' k)) o) name) (sym (went_here number B.orders s.gone name g))
            (unfold maybe in in_archive (among number B.orders name g))
        go (inr n) =
            has_there s h (book_left held) archives new grown name n
            (λ e (i, w). subst (λ (x : Book). Has x name) (sym m.book) (live_there i w (cases_Bool (done_at B i)) n)) v

    moved_holds : Holds s'
    moved_holds = grown_holds s h (book_left held) archives new p.longer m.passes_book p.bytes live_since grown news still_moved has_moved

  -- ---- a retirement

  pub retired_holds : Placed s number a (retire_of held a) archives → Holds (retiring s number archives (retire_of held a))
  retired_holds = go (retire_of held a) (asked held a)
    where
      refused : (n : ℕ) → eqb n 0 ≡ false → Placed s number a (record { returned = refusing n; book = held; archive = a }) archives
          → Holds (retiring s number archives (record { returned = refusing n; book = held; archive = a }))
      refused n z p = unchanged (record { returned = refusing n; book = held; archive = a }) refl refl p (if eqb n 0 then new otherwise []) (if_false _ _ _ z)

      go : (r : Retired) → Asked held a r → Placed s number a r archives → Holds (retiring s number archives r)
      go r (broken k) p = refused 1 refl p
      go r (bad_archive k l) p = refused 16 refl p
      go r (stands k l f) p = refused 17 refl p
      go r (full k l f w) p = refused 18 refl p
      go r (idle g z) p = unchanged (record { returned = counting 0; book = held; archive = a }) refl refl p (if eqb 0 0 then new otherwise []) (if_true _ _ _ refl ∙ none_new z)
      go r (moves g z) p =
          subst (λ (x : List Gone). Holds (record { book = record { image = s.book.image; held = book_left held; past = s.book.past }; archives = archives; gone = x ++ s.gone }))
          (sym (if_true _ new [] refl)) (moved_holds (moved_at held a h.passes bytes g) p g.archive)
