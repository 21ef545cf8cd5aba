-- Nothing else notices a retirement, over lists of calls on bytes. Rests on Call, Same and on what a retirement leaves.
use Rattle.std.proofs.Common.{ℕ, ◌<◌, arith, ◌≡◌, refl, sym, ap, subst, ◌∙◌, ⊎_elim, Bool, true, not, List, [], ◌∷◌, length}
use Rattle.std.proofs.lemmas.Bool.{cases_Bool}
use Rattle.prelude.specs.Number.{Bytes}
use Rattle.prelude.specs.Laws.Cases.{clash}
use Rattle.store.specs.declared.Order.{Order}
use Rattle.records.specs.Record.{event_in}
use Rattle.store.specs.Book.{Book, book_of}
use Rattle.machine.specs.Orders.{is_done}
use Rattle.machine.proofs.Kept.Indexed.{BookKept, book_kept}
use Rattle.rules.specs.Keeps.{keeps_of}
use Rattle.rules.specs.Laws.Keeps.{keeps_held}
use Rattle.retire.specs.Retire.{Retired, retire_of}
use Rattle.parts.specs.Parts.{done_at, live_at, part, live_part, orders_gone}
use Rattle.prelude.specs.Below.{count_below}
use Rattle.parts.specs.Laws.Ranks.{rank_below}
use Rattle.quiet.specs.Part.{Parted, Fixed}
use Rattle.quiet.proofs.All.{part_all}
use Rattle.quiet.proofs.Again.{parted_part, part_twice}
use Rattle.quiet.proofs.Lookups.{order_at}
use Rattle.claims.specs.Claims.{Call}
use Rattle.claims.specs.Exchange.{called}
use Rattle.claims.specs.Unnoticed.{after_calls, given, Undisturbed, ConcernsLive, NamesNoneDone, SameBut, TakenRetirement, NothingNotices, UnnoticedOnBytes}
use Rattle.claims.proofs.Retired.Asked.{Taken, as_it_was, moved, taken}
use Rattle.claims.proofs.Retired.Left.{left_book, left_keeps, left_same}
use Rattle.claims.proofs.Taken.{check_kept}
use Rattle.claims.proofs.Unnoticed.Named.{live_past, done_order, parted_start}
use Rattle.claims.proofs.Unnoticed.Live.{concerns_live}
use Rattle.claims.proofs.Unnoticed.Call.{Apart, SameCall, same_call}
use Rattle.claims.proofs.Unnoticed.Same.{same_but}

-- ---- the same list on both

module _ (was : Book) (good : BookKept was) where
  pub record SameList (x y : List ℕ) (cs : List Call) : Type 0 where
    pub answers : given y cs ≡ given x cs
    pub apart : Apart was (after_calls x cs) (after_calls y cs)

  pub same_list : (cs : List Call) (x y : List ℕ) → Apart was x y → Undisturbed was x cs → SameList x y cs
  same_list [] x y a u = record { answers = refl; apart = a }
  same_list (c ∷ cs) x y a (names, roomy, few, more) =
      let s : SameCall was x y c = same_call was good x y a c names roomy few in
      let r : SameList (called x c).book (called y c).book cs = same_list cs (called x c).book (called y c).book s.apart more in
      record { answers = λ k. record { number = s.number k; answer = s.answer k } ∷ r.answers k; apart = r.apart }

-- ---- what a retirement leaves

-- with no order done, all are live
all_live : (b : Book) → orders_gone b ≡ 0 → (i : ℕ) → live_at b i ≡ true
all_live b z i = ⊎_elim (λ h. h) (λ h. let d = done_order b i h in let l = d.there in
    absurd (omega (arith, rank_below (done_at b) i (length b.orders) l (unfold done_at in d.done)))) (cases_Bool (live_at b i))

-- of any bytes, if gateway cancels of live orders name their own orders' requests
left_live : (x d : List ℕ) → Bytes x → Parted (live_at (book_of x)) (book_of x) → (retire_of x d).returned.refusal ≡ 0 → book_of (retire_of x d).book ≡ live_part (book_of x)
left_live x d bytes w z = go (taken x d z)
  where
    go : {o : Retired} → Taken x d o → book_of o.book ≡ live_part (book_of x)
    go (as_it_was g e) = sym (part_all (live_at (book_of x)) (book_of x) w (all_live (book_of x) e))
    go (moved g n) = left_book x bytes g.book

-- two books of which one is the part of the other that was not done: if both are retired, one book is left
module _ (was : Book) (x y : List ℕ) (s : Apart was x y) where
  abbrev p : ℕ → Bool
  p = live_at was

  abbrev now : Book
  now = book_of x

  -- what was done still is
  still_live : (i : ℕ) → live_at now i ≡ true → p i ≡ true
  unfolding done_at
  still_live i h = ⊎_elim (λ z. z) (λ z. clash _ h (ap (λ (o : Order). not (is_done o.state.status)) (s.fixed.orders i z) ∙ z)) (cases_Bool (p i))

  live_parted : Parted (live_at now) now
  live_parted = record { kept = s.parted.kept; more = live_past now; own = λ i l h. s.parted.own i l (still_live i h) }

  same_live : (i : ℕ) → i < length now.orders → p i ≡ true → live_at (part p now) (count_below p i) ≡ live_at now i
  unfolding done_at
  same_live i l h = ap (λ (o : Order). not (is_done o.state.status)) (order_at p now s.parted i l h)

  pub one_book : (d e : List ℕ) → (retire_of x d).returned.refusal ≡ 0 → (retire_of y e).returned.refusal ≡ 0 → book_of (retire_of y e).book ≡ book_of (retire_of x d).book
  one_book d e z u =
      left_live y e s.bytes' (subst (λ (c : Book). Parted (live_at c) c) (sym s.part_of) (parted_part p now s.parted (live_at (part p now)) (live_past (part p now)))) u
      ∙ ap live_part s.part_of
      ∙ part_twice p now s.parted (live_at now) (live_at (part p now)) live_parted (live_past (part p now)) same_live (λ i l h. still_live i h)
      ∙ sym (left_live x d s.bytes live_parted z)

module _ (b a : List ℕ) (t : TakenRetirement b a) where
  abbrev was : Book
  was = book_of b

  keeps : keeps_of b ≡ true
  keeps = go (taken b a t.taken)
    where
      go : {o : Retired} → Taken b a o → keeps_of b ≡ true
      go (as_it_was g e) = g.book
      go (moved g n) = g.book

  kept : BookKept was
  kept = book_kept was (keeps_held b keeps).rules

  parted : Parted (live_at was) was
  parted = parted_start was kept (keeps_held b keeps).rules t.own

  fixed : Fixed (live_at was) was was
  fixed = record { orders = λ i h. refl; requests = λ j l h. (l, refl); there = λ j l h. (l, refl) }

  apart_by : (o : Retired) → Taken b a o → Apart was b o.book
  apart_by o (as_it_was g e) = record {
    bytes = t.bytes;
    bytes' = t.bytes;
    keeps = keeps;
    keeps' = keeps;
    part_of = sym (part_all (live_at was) was parted (all_live was e));
    parted = parted;
    fixed = fixed;
  }
  apart_by o (moved g n) = record {
    bytes = t.bytes;
    bytes' = (left_same b t.bytes keeps).bytes t.bytes;
    keeps = keeps;
    keeps' = left_keeps b t.bytes keeps;
    part_of = left_book b t.bytes keeps;
    parted = parted;
    fixed = fixed;
  }

  apart : Apart was b (retire_of b a).book
  apart = apart_by (retire_of b a) (taken b a t.taken)

  both_lists : (cs : List Call) → Undisturbed was b cs → SameList was kept b (retire_of b a).book cs
  both_lists cs u = same_list was kept cs b (retire_of b a).book apart u

  notices : (cs : List Call) → Undisturbed was b cs → NothingNotices b a cs
  notices cs u =
      let r = both_lists cs u in
      let a' = r.apart in
      record {
        answers = r.answers;
        books = subst (SameBut was (book_of (after_calls b cs))) (sym a'.part_of) (same_but was (book_of (after_calls b cs)) a'.parted a'.fixed);
        later = one_book was (after_calls b cs) (after_calls (retire_of b a).book cs) a';
        passes = (record { bytes = a'.bytes; passes = check_kept _ a'.keeps }, record { bytes = a'.bytes'; passes = check_kept _ a'.keeps' });
      }

  live : (cs : List Call) → Undisturbed was b cs → (r : List ℕ) → ConcernsLive was (after_calls b cs) r → NamesNoneDone was (event_in r)
  live cs u r c = let l = both_lists cs u in let a' = l.apart in concerns_live was (after_calls b cs) r a'.parted a'.fixed c

pub unnoticed_on_bytes : UnnoticedOnBytes
unnoticed_on_bytes = record {
  notices = notices;
  live = live;
}
