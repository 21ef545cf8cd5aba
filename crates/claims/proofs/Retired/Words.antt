-- The open-quantity words that a retirement leaves: each is the open quantity of its order's client if the order is the client's first, and else 0; so what is
-- stored for each client is its open quantity. Rests on index's Sums and on store's laws.
use Rattle.std.specs.Prelude.{ℕ, zero, suc, ◌≤◌, ◌<◌, ◌≡◌, true, List, Some, eqb, refl}
use Rattle.std.proofs.Common.{arith, sym, ap, ◌∙◌, ⊎_elim, eqb-true, eq-eqb, eq-or-lt_of_le, le_of_suc-le-suc}
use Rattle.prelude.specs.Laws.Below.{all_intro}
use Rattle.prelude.specs.Cases.{if◌then◌otherwise◌, maybe}
use Rattle.prelude.specs.Laws.Cases.{split_if, split_maybe, if_true, maybe_some, clash}
use Rattle.prelude.specs.Number.{bound}
use Rattle.store.specs.declared.Order.{Order}
use Rattle.store.specs.Layout.{most_orders, most_requests}
use Rattle.store.specs.Book.{Book, book_of, order_in, order_at, order_count, origin_at, open_at, store_open}
use Rattle.store.specs.Finds.{find_client}
use Rattle.store.specs.Laws.Stored.{order_in_lem}
use Rattle.store.specs.Laws.Beside.{store_open_origin}
use Rattle.store.specs.Laws.Kept.{Keeps, store_open_keeps}
use Rattle.store.specs.Laws.Opens.{store_open_book, span_store_open, open_here, open_other}
use Rattle.machine.specs.Exchange.{open_of}
use Rattle.machine.specs.Rules.{rules}
use Rattle.index.specs.Index.{stored_open, open_right, opens_right}
use Rattle.index.specs.Laws.Sums.{open_fits, client_at, none_at}
use Rattle.kept.proofs.Header.{Headed, same_head}
use Rattle.retire.specs.Retire.{open_word, opens_settled}

-- ---- what a word says

-- the word of a client's first order
pub word_first : (b : Book) (i client : ℕ) → find_client b client ≡ Some i → (order_in b i).client ≡ client → open_word b i ≡ open_of b client
unfolding open_word
word_first b i client e c =
    ap (λ (k : ℕ). maybe 0 (λ first. if eqb first i then open_of b k otherwise 0) (find_client b k)) c
    ∙ maybe_some (find_client b client) i 0 (λ first. if eqb first i then open_of b client otherwise 0) e
    ∙ if_true (eqb i i) (open_of b client) 0 (eq-eqb i i refl)

-- the word of another
pub word_other : (b : Book) (i : ℕ) → ((client : ℕ) → find_client b client ≡ Some i → ⊥) → open_word b i ≡ 0
unfolding open_word
word_other b i d =
    split_maybe (λ (n : ℕ). n ≡ 0) (find_client b (order_in b i).client) (λ z. refl)
    (λ k z. split_if (λ (n : ℕ). n ≡ 0) (eqb k i) (λ t. absurd (d (order_in b i).client (z ∙ ap Some (eqb-true k i t)))) (λ t. refl))

word_fits : (b : Book) → rules b ≡ true → (i : ℕ) → open_word b i < bound 8
unfolding open_word
word_fits b r i =
    let P : ℕ → Type 0 = λ n. n < bound 8 in
    split_maybe P (find_client b (order_in b i).client) (λ z. omega arith) (λ k z. split_if P (eqb k i) (λ t. open_fits b r (order_in b i).client) (λ t. omega arith))

-- ---- the loop

module _ (b : List ℕ) (h₀ : Headed b) where
  -- d is what the first n words leave
  pub record WordsAt (n : ℕ) (d : List ℕ) : Type 0 where
    pub head : Headed d
    pub keeps : Keeps b d
    pub is : book_of d ≡ book_of b
    pub origin : (j : ℕ) → j < most_requests → origin_at d j ≡ origin_at b j
    pub word : (i : ℕ) → i < n → open_at d i ≡ open_word (book_of b) i

  module _ (r : rules (book_of b) ≡ true) where
    pub words_at : (n : ℕ) → n ≤ most_orders → WordsAt n (opens_settled b n)
    unfolding opens_settled
    words_at zero h = record { head = h₀; keeps = record { same = refl; bytes = λ k. k }; is = refl; origin = λ j k. refl; word = λ i k. absurd (omega arith) }
    words_at (suc n) h =
        let at = words_at n (omega arith) in
        let d : List ℕ = opens_settled b n in
        let w : ℕ = open_word (book_of b) n in
        let more : Keeps d (store_open d n w) = store_open_keeps d n w in
        record {
          head = same_head d (store_open d n w) at.head (more.same ∙ at.head.long) (span_store_open d n w 0 2 (omega arith)) (span_store_open d n w 2 2 (omega arith));
          keeps = record { same = more.same ∙ at.keeps.same; bytes = λ k. more.bytes (at.keeps.bytes k) };
          is = store_open_book d n w ∙ at.is;
          origin = λ j k. store_open_origin d j k n w ∙ at.origin j k;
          word = λ i k. ⊎_elim (λ z. ap (open_at (store_open d n w)) z ∙ open_here d n w at.head.long h (word_fits (book_of b) r n) ∙ ap (open_word (book_of b)) (sym z))
              (λ u. open_other d n w i (omega arith) (λ z. omega arith) ∙ at.word i u) (eq-or-lt_of_le (le_of_suc-le-suc k));
        }

-- ---- so each client's is right

module _ (d : List ℕ) (few : order_count d ≤ most_orders) (words : (i : ℕ) → i < most_orders → open_at d i ≡ open_word (book_of d) i) where
  pub first_word : (i client : ℕ) → find_client (book_of d) client ≡ Some i → open_at d i ≡ open_of (book_of d) client
  first_word i client e =
      let f = client_at d client i e in
      let h : i < order_count d = f.0 in
      words i (omega arith) ∙ word_first (book_of d) i client e (ap (λ (o : Order). o.client) (order_in_lem d i h) ∙ f.1)

  pub other_word : (i : ℕ) → i < most_orders → ((client : ℕ) → find_client (book_of d) client ≡ Some i → ⊥) → open_at d i ≡ 0
  other_word i h n = words i h ∙ word_other (book_of d) i n

  pub words_right : opens_right d ≡ true
  unfolding opens_right open_right stored_open
  words_right = all_intro (open_right d) (order_count d) (λ i h. eq-eqb _ _ (stored i h))
    where
      stored : (i : ℕ) → i < order_count d → maybe 0 (open_at d) (find_client (book_of d) (order_in (book_of d) i).client) ≡ open_of (book_of d) (order_in (book_of d) i).client
      stored i h =
          split_maybe (λ (n : ℕ). n ≡ open_of (book_of d) (order_in (book_of d) i).client) (find_client (book_of d) (order_in (book_of d) i).client)
          (λ z. clash _ (eq-eqb (order_at d i).client (order_in (book_of d) i).client (ap (λ (o : Order). o.client) (sym (order_in_lem d i h)))) (none_at d (order_in (book_of d) i).client z i h))
          (λ k z. first_word k (order_in (book_of d) i).client z)
