-- What a retirement that is taken leaves: the bytes of the book are its live part, those of the archive what it held with the done part behind it, and both keep
-- their rules. Rests on Moved, Emptied, Free and parts' law of a joined book.
use Rattle.std.specs.Prelude.{ℕ, ◌<◌, ◌≡◌, true, List}
use Rattle.std.proofs.Common.{arith, sym, ap, subst, ◌∙◌}
use Rattle.prelude.specs.Number.{Bytes}
use Rattle.store.specs.Layout.{most_orders}
use Rattle.store.specs.Book.{Book, book_of, open_at}
use Rattle.store.specs.Laws.Kept.{Keeps}
use Rattle.machine.specs.Whole.{WholeBook}
use Rattle.machine.proofs.Kept.Indexed.{BookKept, book_kept}
use Rattle.rules.specs.Keeps.{keeps_of}
use Rattle.rules.specs.Laws.Ruled.{Held}
use Rattle.rules.specs.Laws.Keeps.{keeps_held, keeps_links}
use Rattle.kept.proofs.Written.{whole_held}
use Rattle.parts.specs.Parts.{done_at, live_at, joined, live_part, archived}
use Rattle.parts.specs.Laws.Whole.{joined_kept, part_rules}
use Rattle.retire.specs.Retire.{open_word, all_free, has_room, emptied, book_left, archive_left}
use Rattle.claims.proofs.Retired.Emptied.{emptied_book, emptied_into, emptied_same}
use Rattle.claims.proofs.Retired.Free.{free_names, free_keys, room_if}
use Rattle.claims.proofs.Retired.Moved.{Into, moved_book, moved_words, moved_keeps, moved_same}

-- bytes that keep all rules, as those that rows move into
pub kept_into : (a : List ℕ) → keeps_of a ≡ true → Into a
kept_into a k =
    let h : Held a = keeps_held a k in
    record {
      head = record { long = h.long; orders = omega (arith, h.orders, h.few_orders); requests = omega (arith, h.requests, h.few_requests) };
      kept = book_kept (book_of a) h.rules;
      links = keeps_links a k;
    }

module _ (b : List ℕ) (bytes : Bytes b) (keeps : keeps_of b ≡ true) where
  pub held : Held b
  held = keeps_held b keeps

  pub old : BookKept (book_of b)
  old = book_kept (book_of b) held.rules

  pub whole : WholeBook (book_of b)
  whole = whole_held b held bytes

  -- ---- the book

  pub live_kept : BookKept (joined (live_at (book_of b)) (book_of (emptied b)) (book_of b))
  live_kept =
      subst (λ (x : Book). BookKept (joined (live_at (book_of b)) x (book_of b))) (sym (emptied_book b held.long))
      (book_kept (live_part (book_of b)) (part_rules (live_at (book_of b)) (book_of b) held.rules))

  pub left_book : book_of (book_left b) ≡ live_part (book_of b)
  unfolding book_left
  left_book =
      moved_book (live_at (book_of b)) b (emptied b) old whole (keeps_links b keeps) (emptied_into b held.long) live_kept
      ∙ ap (λ (x : Book). joined (live_at (book_of b)) x (book_of b)) (emptied_book b held.long)

  pub left_keeps : keeps_of (book_left b) ≡ true
  unfolding book_left
  left_keeps = moved_keeps (live_at (book_of b)) b (emptied b) old whole (keeps_links b keeps) (emptied_into b held.long) live_kept

  pub left_words : (i : ℕ) → i < most_orders → open_at (book_left b) i ≡ open_word (book_of (book_left b)) i
  unfolding book_left
  left_words = moved_words (live_at (book_of b)) b (emptied b) old whole (keeps_links b keeps) (emptied_into b held.long) live_kept

  pub left_same : Keeps b (book_left b)
  unfolding book_left
  left_same =
      let m : Keeps (emptied b) (book_left b) = moved_same (live_at (book_of b)) b (emptied b) old whole (keeps_links b keeps) (emptied_into b held.long) live_kept in
      let e : Keeps b (emptied b) = emptied_same b held.long in
      record { same = m.same ∙ e.same; bytes = λ h. m.bytes (e.bytes h) }

  -- ---- the archive

  module _ (a : List ℕ) (archive : keeps_of a ≡ true) (free : all_free (book_of a) (book_of b) ≡ true) (room : has_room (book_of a) (book_of b) ≡ true) where
    pub done_kept : BookKept (archived (book_of a) (book_of b))
    done_kept =
        let k : BookKept (book_of a) = (kept_into a archive).kept in
        let r = room_if (book_of b) (book_of a) room in
        joined_kept (done_at (book_of b)) (book_of a) (book_of b) k old r.0 r.1 (free_names (book_of b) (book_of a) k free) (free_keys (book_of b) (book_of a) k free)

    pub archive_book : book_of (archive_left a b) ≡ archived (book_of a) (book_of b)
    unfolding archive_left
    archive_book = moved_book (done_at (book_of b)) b a old whole (keeps_links b keeps) (kept_into a archive) done_kept

    pub archive_keeps : keeps_of (archive_left a b) ≡ true
    unfolding archive_left
    archive_keeps = moved_keeps (done_at (book_of b)) b a old whole (keeps_links b keeps) (kept_into a archive) done_kept

    pub archive_words : (i : ℕ) → i < most_orders → open_at (archive_left a b) i ≡ open_word (book_of (archive_left a b)) i
    unfolding archive_left
    archive_words = moved_words (done_at (book_of b)) b a old whole (keeps_links b keeps) (kept_into a archive) done_kept

    pub archive_same : Keeps a (archive_left a b)
    unfolding archive_left
    archive_same = moved_same (done_at (book_of b)) b a old whole (keeps_links b keeps) (kept_into a archive) done_kept
