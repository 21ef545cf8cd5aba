-- What a retirement returns, and that both books keep their rules. Rests on Retired.
use Rattle.std.specs.Prelude.{ℕ, ◌≤◌, ◌<◌, ◌≡◌, true, false, List, length, refl}
use Rattle.std.proofs.Common.{arith, sym, ap, subst, ◌∙◌, inl, inr, ⊎_elim}
use Rattle.prelude.specs.Cases.{if◌then◌otherwise◌}
use Rattle.prelude.specs.Counted.{counting}
use Rattle.prelude.specs.Laws.Cases.{if_true, if_false, split_if, clash}
use Rattle.prelude.specs.Laws.Below.{count_le}
use Rattle.prelude.specs.Number.{Bytes}
use Rattle.store.specs.Book.{Book, is_book, book_of, blank}
use Rattle.store.specs.Laws.Kept.{Keeps}
use Rattle.machine.proofs.Kept.Indexed.{BookKept, book_kept}
use Rattle.rules.specs.Keeps.{keeps_of}
use Rattle.rules.specs.Laws.Keeps.{keeps_held}
use Rattle.step.specs.Entries.{start_of, start_refusal, check_of}
use Rattle.kept.proofs.Header.{blank_keeps, blank_empty}
use Rattle.parts.specs.Parts.{orders_gone}
use Rattle.retire.specs.Retire.{all_free, has_room, book_left, archive_left, Retired, retire_of}
use Rattle.claims.specs.Retire.{order_done, request_done, done_orders, done_requests, InArchive, NoRoom, BothPass, RetireNumbers, RetireLeaves, RetireKeeps}
use Rattle.claims.proofs.Taken.{check_kept, kept_check}
use Rattle.claims.proofs.Retired.Free.{stands_if, if_stands, no_room_if, if_no_room, gone_orders}
use Rattle.claims.proofs.Retired.Left.{left_keeps, left_same, archive_keeps, archive_same}
use Rattle.claims.proofs.Retired.Leaves.{both_words, both_written, both_settings, archive_stays, book_rest, free_order, free_request}
use Rattle.claims.proofs.Retired.Asked.{Goes, Asked, broken, bad_archive, stands, full, idle, moves, asked, Taken, as_it_was, moved, taken}

check_broken : (b : List ℕ) → keeps_of b ≡ false → check_of b ≡ 1
unfolding check_of
check_broken b k = if_false _ 0 1 k

-- ---- what each number means

self : (b : List ℕ) → Keeps b b
self b = record { same = refl; bytes = λ h. h }

module _ (b a : List ℕ) where
  abbrev B : Book
  B = book_of b

  abbrev A : Book
  A = book_of a

  archive_kept : keeps_of a ≡ true → BookKept A
  archive_kept l = book_kept A (keeps_held a l).rules

  -- a call that is taken
  taken_numbers : Goes b a → (n : ℕ) → n ≡ done_orders B → RetireNumbers b a (counting n)
  taken_numbers g n e =
      let c : check_of b ≡ 0 = check_kept b g.book in
      let d : check_of a ≡ 0 = check_kept a g.archive in
      record {
        known = inl refl;
        one = (λ z. absurd (omega arith), λ z. absurd (omega arith));
        sixteen = (λ z. absurd (omega arith), λ z. let w : check_of a ≡ 1 = z.1 in absurd (omega arith));
        seventeen = (λ z. absurd (omega arith), λ z. clash (all_free A B) g.free (if_stands B A (archive_kept g.archive) z.1));
        eighteen = (λ z. absurd (omega arith), λ z. clash (has_room A B) g.room (if_no_room B A z.2));
        moved = λ z. e;
        none = λ z. absurd (z refl);
      }

  -- what is so if the call returns this
  numbers_by : (o : Retired) → Asked b a o → RetireNumbers b a o.returned
  numbers_by o (broken k) =
      let c : check_of b ≡ 1 = check_broken b k in
      record {
        known = inr (inl refl);
        one = (λ z. c, λ z. refl);
        sixteen = (λ z. absurd (omega arith), λ z. let w : check_of b ≡ 0 = z.0 in absurd (omega arith));
        seventeen = (λ z. absurd (omega arith), λ z. let w : check_of b ≡ 0 = z.0.0 in absurd (omega arith));
        eighteen = (λ z. absurd (omega arith), λ z. let w : check_of b ≡ 0 = z.0.0 in absurd (omega arith));
        moved = λ z. absurd (omega arith);
        none = λ z. refl;
      }
  numbers_by o (bad_archive k l) =
      let c : check_of b ≡ 0 = check_kept b k in
      let d : check_of a ≡ 1 = check_broken a l in
      record {
        known = inr (inr (inl refl));
        one = (λ z. absurd (omega arith), λ z. absurd (omega arith));
        sixteen = (λ z. (c, d), λ z. refl);
        seventeen = (λ z. absurd (omega arith), λ z. let w : check_of a ≡ 0 = z.0.1 in absurd (omega arith));
        eighteen = (λ z. absurd (omega arith), λ z. let w : check_of a ≡ 0 = z.0.1 in absurd (omega arith));
        moved = λ z. absurd (omega arith);
        none = λ z. refl;
      }
  numbers_by o (stands k l f) =
      let c : check_of b ≡ 0 = check_kept b k in
      let d : check_of a ≡ 0 = check_kept a l in
      let s : InArchive B A = stands_if B A (archive_kept l) f in
      record {
        known = inr (inr (inr (inl refl)));
        one = (λ z. absurd (omega arith), λ z. absurd (omega arith));
        sixteen = (λ z. absurd (omega arith), λ z. let w : check_of a ≡ 1 = z.1 in absurd (omega arith));
        seventeen = (λ z. ((c, d), s), λ z. refl);
        eighteen = (λ z. absurd (omega arith), λ z. absurd (z.1 s));
        moved = λ z. absurd (omega arith);
        none = λ z. refl;
      }
  numbers_by o (full k l f r) =
      let c : check_of b ≡ 0 = check_kept b k in
      let d : check_of a ≡ 0 = check_kept a l in
      record {
        known = inr (inr (inr (inr refl)));
        one = (λ z. absurd (omega arith), λ z. absurd (omega arith));
        sixteen = (λ z. absurd (omega arith), λ z. let w : check_of a ≡ 1 = z.1 in absurd (omega arith));
        seventeen = (λ z. absurd (omega arith), λ z. clash (all_free A B) f (if_stands B A (archive_kept l) z.1));
        eighteen = (λ z. ((c, d), λ s. clash (all_free A B) f (if_stands B A (archive_kept l) s), no_room_if B A r), λ z. refl);
        moved = λ z. absurd (omega arith);
        none = λ z. refl;
      }
  numbers_by o (idle g e) = taken_numbers g 0 (sym e ∙ gone_orders B)
  numbers_by o (moves g e) = taken_numbers g (orders_gone B) (gone_orders B)

-- ---- refused, and with none done

refused_by : (b a : List ℕ) (o : Retired) → Asked b a o → (o.returned.refusal ≡ 0 → ⊥) → (o.book ≡ b) × (o.archive ≡ a)
refused_by b a o (broken k) z = (refl, refl)
refused_by b a o (bad_archive k l) z = (refl, refl)
refused_by b a o (stands k l f) z = (refl, refl)
refused_by b a o (full k l f r) z = (refl, refl)
refused_by b a o (idle g e) z = (refl, refl)
refused_by b a o (moves g e) z = absurd (z refl)

idle_by : (b a : List ℕ) (o : Retired) → Asked b a o → done_orders (book_of b) ≡ 0 → (o.book ≡ b) × (o.archive ≡ a)
idle_by b a o (broken k) z = (refl, refl)
idle_by b a o (bad_archive k l) z = (refl, refl)
idle_by b a o (stands k l f) z = (refl, refl)
idle_by b a o (full k l f r) z = (refl, refl)
idle_by b a o (idle g e) z = (refl, refl)
idle_by b a o (moves g e) z = absurd (e (gone_orders (book_of b) ∙ z))

-- ---- what is left keeps the rules

module _ (b a : List ℕ) (bytes : Bytes b) where
  kept_by : (o : Retired) → Taken b a o → BothPass o.book o.archive
  kept_by o (as_it_was g e) = (check_kept b g.book, check_kept a g.archive)
  kept_by o (moved g e) = (check_kept (book_left b) (left_keeps b bytes g.book), check_kept (archive_left a b) (archive_keeps b bytes g.book a g.archive g.free g.room))

  same_by : (o : Retired) → Asked b a o → Keeps b o.book × Keeps a o.archive
  same_by o (broken k) = (self b, self a)
  same_by o (bad_archive k l) = (self b, self a)
  same_by o (stands k l f) = (self b, self a)
  same_by o (full k l f r) = (self b, self a)
  same_by o (idle g e) = (self b, self a)
  same_by o (moves g e) = (left_same b bytes g.book, archive_same b bytes g.book a g.archive g.free g.room)

leaves_by : (b a : List ℕ) → Bytes b → (o : Retired) → Taken b a o → 0 < o.returned.number → RetireLeaves b a o
leaves_by b a bytes o (as_it_was g e) h = absurd (omega arith)
leaves_by b a bytes o (moved g e) h =
    let both = kept_by b a bytes _ (moved g e) in
    record {
      book = both.0;
      archive = both.1;
      words = both_words b a bytes g;
      rows = both_written b a bytes g;
      settings = both_settings b a bytes g;
      stays = archive_stays b a bytes g;
      rest = book_rest b a bytes g;
      free_orders = free_order b a bytes g;
      free_requests = free_request b a bytes g;
    }

-- ---- an archive fresh from start

module _ (b : List ℕ) (setting : ℕ) (k : keeps_of b ≡ true) where
  -- nothing stands in it, and there is room
  empty_free : InArchive (book_of b) (book_of (blank setting)) → ⊥
  empty_free = ⊎_elim (λ n. none_order n.k n.within) (λ n. none_request n.k n.within)
    where
      none_order : (i : ℕ) → i < length (book_of (blank setting)).orders → ⊥
      none_order i h = let e : length (book_of (blank setting)).orders ≡ 0 = ap (λ (x : Book). length x.orders) (blank_empty setting) in omega arith

      none_request : (i : ℕ) → i < length (book_of (blank setting)).requests → ⊥
      none_request i h = let e : length (book_of (blank setting)).requests ≡ 0 = ap (λ (x : Book). length x.requests) (blank_empty setting) in omega arith

  empty_room : NoRoom (book_of b) (book_of (blank setting)) → ⊥
  empty_room =
      let o : length (book_of (blank setting)).orders ≡ 0 = ap (λ (x : Book). length x.orders) (blank_empty setting) in
      let q : length (book_of (blank setting)).requests ≡ 0 = ap (λ (x : Book). length x.requests) (blank_empty setting) in
      let n : BookKept (book_of b) = book_kept (book_of b) (keeps_held b k).rules in
      let i : done_orders (book_of b) ≤ length (book_of b).orders = count_le (order_done (book_of b)) (length (book_of b).orders) in
      let j : done_requests (book_of b) ≤ length (book_of b).requests = count_le (request_done (book_of b)) (length (book_of b).requests) in
      ⊎_elim (λ l. omega (arith, n.orders)) (λ l. omega (arith, n.requests))

  fresh_by : (o : Retired) → Asked b (blank setting) o → o.returned ≡ counting (done_orders (book_of b))
  fresh_by o (broken l) = clash _ k l
  fresh_by o (bad_archive l m) = clash _ (blank_keeps setting) m
  fresh_by o (stands l m f) = absurd (empty_free (stands_if (book_of b) (book_of (blank setting)) (archive_kept b (blank setting) m) f))
  fresh_by o (full l m f r) = absurd (empty_room (no_room_if (book_of b) (book_of (blank setting)) r))
  fresh_by o (idle g e) = ap counting (sym e ∙ gone_orders (book_of b))
  fresh_by o (moves g e) = ap counting (gone_orders (book_of b))

started : (s : List ℕ) (setting : ℕ) → start_refusal s ≡ 0 → start_of s setting ≡ blank setting
unfolding start_refusal start_of
started s setting =
    split_if (λ (n : ℕ). n ≡ 0 → (if is_book s then blank setting otherwise s) ≡ blank setting) (is_book s) (λ e z. if_true (is_book s) _ s e) (λ e z. absurd (omega arith))

-- ---- the theorem

pub retire_keeps : RetireKeeps
retire_keeps = record {
  numbers = λ b a. numbers_by b a (retire_of b a) (asked b a);
  refused = λ b a. refused_by b a (retire_of b a) (asked b a);
  idle = λ b a. idle_by b a (retire_of b a) (asked b a);
  kept = λ b a bytes _ z. kept_by b a bytes (retire_of b a) (taken b a z);
  leaves = λ b a bytes _ z some. leaves_by b a bytes (retire_of b a) (taken b a z) some;
  long = λ b a bytes _. let k = same_by b a bytes (retire_of b a) (asked b a) in (k.0.same, k.1.same);
  bytes = λ b a bytes more. let k = same_by b a bytes (retire_of b a) (asked b a) in (k.0.bytes bytes, k.1.bytes more);
  fresh = λ b s setting c e. subst (λ (a : List ℕ). (retire_of b a).returned ≡ counting (done_orders (book_of b))) (sym (started s setting e)) (fresh_by b setting (kept_check b c) (retire_of b (blank setting)) (asked b (blank setting)));
}
