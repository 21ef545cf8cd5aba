-- A retirement by the questions that it is asked, and what it returns. Rests on Retire, rules and Free.
use Rattle.std.specs.Prelude.{ℕ, ◌≡◌, true, false, not, List, eqb}
use Rattle.std.proofs.Common.{arith, eqb-true}
use Rattle.std.proofs.lemmas.Bool.{eqb-false, not-true, not-false}
use Rattle.prelude.specs.Counted.{refusing, counting}
use Rattle.prelude.specs.Laws.Cases.{split_if}
use Rattle.store.specs.Book.{book_of}
use Rattle.rules.specs.Keeps.{keeps_of}
use Rattle.parts.specs.Parts.{orders_gone}
use Rattle.retire.specs.Retire.{all_free, has_room, book_left, archive_left, Retired, retired, retire_of}

-- what a retirement with its questions answered goes by
pub record Goes (b a : List ℕ) : Type 0 where
  pub book : keeps_of b ≡ true
  pub archive : keeps_of a ≡ true
  pub free : all_free (book_of a) (book_of b) ≡ true
  pub room : has_room (book_of a) (book_of b) ≡ true

pub data Asked (b a : List ℕ) : Retired → Type 0 where
  broken : keeps_of b ≡ false → Asked b a (retired (refusing 1) b a)
  bad_archive : keeps_of b ≡ true → keeps_of a ≡ false → Asked b a (retired (refusing 16) b a)
  stands : keeps_of b ≡ true → keeps_of a ≡ true → all_free (book_of a) (book_of b) ≡ false → Asked b a (retired (refusing 17) b a)
  full : keeps_of b ≡ true → keeps_of a ≡ true → all_free (book_of a) (book_of b) ≡ true → has_room (book_of a) (book_of b) ≡ false → Asked b a (retired (refusing 18) b a)
  idle : Goes b a → orders_gone (book_of b) ≡ 0 → Asked b a (retired (counting 0) b a)
  moves : Goes b a → (orders_gone (book_of b) ≡ 0 → ⊥) → Asked b a (retired (counting (orders_gone (book_of b))) (book_left b) (archive_left a b))

pub asked : (b a : List ℕ) → Asked b a (retire_of b a)
unfolding retire_of
asked b a =
    split_if (Asked b a) (not (keeps_of b)) (λ t. broken (not-true (keeps_of b) t))
    (λ t. let k : keeps_of b ≡ true = not-false (keeps_of b) t in
    split_if (Asked b a) (not (keeps_of a)) (λ u. bad_archive k (not-true (keeps_of a) u))
    (λ u. let l : keeps_of a ≡ true = not-false (keeps_of a) u in
    split_if (Asked b a) (not (all_free (book_of a) (book_of b))) (λ v. stands k l (not-true _ v))
    (λ v. let f : all_free (book_of a) (book_of b) ≡ true = not-false _ v in
    split_if (Asked b a) (not (has_room (book_of a) (book_of b))) (λ w. full k l f (not-true _ w))
    (λ w. let g : Goes b a = record { book = k; archive = l; free = f; room = not-false _ w } in
    split_if (Asked b a) (eqb (orders_gone (book_of b)) 0) (λ z. idle g (eqb-true _ 0 z)) (λ z. moves g (eqb-false _ 0 z))))))

-- ---- a retirement that is taken

-- with none done, or with some
pub data Taken (b a : List ℕ) : Retired → Type 0 where
  as_it_was : Goes b a → orders_gone (book_of b) ≡ 0 → Taken b a (retired (counting 0) b a)
  moved : Goes b a → (orders_gone (book_of b) ≡ 0 → ⊥) → Taken b a (retired (counting (orders_gone (book_of b))) (book_left b) (archive_left a b))

taken_by : (b a : List ℕ) (o : Retired) → Asked b a o → o.returned.refusal ≡ 0 → Taken b a o
taken_by b a o (broken k) z = absurd (omega arith)
taken_by b a o (bad_archive k l) z = absurd (omega arith)
taken_by b a o (stands k l f) z = absurd (omega arith)
taken_by b a o (full k l f r) z = absurd (omega arith)
taken_by b a o (idle g e) z = as_it_was g e
taken_by b a o (moves g e) z = moved g e

-- THE LAW for callers
pub taken : (b a : List ℕ) → (retire_of b a).returned.refusal ≡ 0 → Taken b a (retire_of b a)
taken b a z = taken_by b a (retire_of b a) (asked b a) z
