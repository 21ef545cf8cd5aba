-- The open quantity, on bytes: each call leaves a book that keeps its rules, and on such a book the call gives the sum. Rests on Calls and Demands.
use Rattle.std.proofs.Common.{ℕ, ◌<◌, ◌^◌, arith, ◌≡◌, refl, sym, ap, ◌∙◌, subst, Bool, true, false, Some, List, [], ◌∷◌, length, eq-eqb}
use Rattle.std.proofs.lemmas.Bool.{and_from}
use Rattle.prelude.specs.Laws.Below.{all_intro}
use Rattle.prelude.specs.Laws.Cases.{if_true, if_false, maybe_some}
use Rattle.prelude.specs.Number.{Bytes}
use Rattle.store.specs.Layout.{book_size, header·orders, most_orders}
use Rattle.store.specs.Book.{Book, book_of, order_in, order_count, open_at, store_open, blank}
use Rattle.store.specs.Finds.{find_client}
use Rattle.store.specs.Laws.Kept.{bytes_blank}
use Rattle.store.specs.Laws.Stored.{count_book, count_most}
use Rattle.store.specs.Laws.Opens.{store_open_book, open_here}
use Rattle.machine.specs.Exchange.{open_of}
use Rattle.opens.specs.declared.Opened.{Opened}
use Rattle.index.specs.Index.{links_right, stored_open, open_right, opens_right}
use Rattle.rules.specs.Keeps.{ruled_of, keeps_of}
use Rattle.opens.specs.Opens.{opened, open_call}
use Rattle.rules.specs.Laws.Keeps.{keeps_stored, keeps_then}
use Rattle.step.specs.Entries.{Returned, event_of, check_of}
use Rattle.claims.specs.Claims.{Call, Exactly}
use Rattle.claims.specs.Opens.{bytes_after, OpenRight, OpenOnBytes}
use Rattle.kept.proofs.Header.{blank_keeps}
use Rattle.kept.proofs.Taken.{keeps_after}
use Rattle.claims.proofs.Taken.{check_kept, check_broken, either_way}
use Rattle.claims.proofs.Calls.{Good, faithful, start_is}
use Rattle.claims.proofs.Demands.{demand1}

-- ---- the call

given : (b : List ℕ) (client : ℕ) → keeps_of b ≡ true → open_call b client ≡ opened 0 (open_of (book_of b) client)
unfolding open_call
given b client k = if_true _ _ _ k

refused : (b : List ℕ) (client : ℕ) → keeps_of b ≡ false → open_call b client ≡ opened 1 0
unfolding open_call
refused b client k = if_false _ _ _ k

pub right : (b : List ℕ) → keeps_of b ≡ true → OpenRight b
right b k = record { given = λ client. given b client k; stored = keeps_stored b k }

one : (b : List ℕ) (client : ℕ) → Exactly (open_call b client ≡ opened 1 0) (check_of b ≡ 1)
one b client = go (keeps_of b) refl
  where
    go : (t : Bool) → keeps_of b ≡ t → Exactly (open_call b client ≡ opened 1 0) (check_of b ≡ 1)
    go true k = (
      λ e. let z : ◌≡◌ {A = ℕ} 0 1 = ap (λ (o : Opened). o.refusal) (sym (given b client k) ∙ e) in absurd (omega arith),
      λ e. absurd (omega (arith, check_kept b k)),
    )
    go false k = (λ e. check_broken b k, λ e. refused b client k)

-- ---- events

all_right : (b : List ℕ) → Good b → (cs : List Call) → OpenRight (bytes_after b cs)
all_right b g [] = right b g.keeps
all_right b g (i ∷ is) = all_right (event_of b i.event i.answer).book (faithful.stays b i g) is

event_right : (b r a : List ℕ) → Bytes b → Bytes r → ((event_of b r a).returned ≡ 1 → ⊥) → OpenRight (event_of b r a).book
event_right b r a bytes bytes' n = right (event_of b r a).book (kept (keeps_of b) refl)
  where
    kept : (t : Bool) → keeps_of b ≡ t → keeps_of (event_of b r a).book ≡ true
    kept true k =
        either_way (λ (o : Returned). keeps_of o.book ≡ true) b r a (λ t. keeps_after b r bytes bytes' t.keeps t.reads t.taken) (λ e. k)
    kept false k = absurd (n ((demand1.numbers b r a).one.1 (check_broken b k)))

other : (b : List ℕ) (client : ℕ) → (stored_open b client ≡ open_of (book_of b) client → ⊥) → (check_of b ≡ 1) × ((r a : List ℕ) → (event_of b r a).returned ≡ 1)
other b client n = let broken : check_of b ≡ 1 = check_broken b (go (keeps_of b) refl) in (broken, λ r a. (demand1.numbers b r a).one.1 broken)
  where
    go : (t : Bool) → keeps_of b ≡ t → keeps_of b ≡ false
    go true k = absurd (n (keeps_stored b k client))
    go false k = k

-- ---- the bytes

stored_all : (b : List ℕ) → ((client : ℕ) → stored_open b client ≡ open_of (book_of b) client) → opens_right b ≡ true
unfolding opens_right open_right
stored_all b s = all_intro (open_right b) (order_count b) (λ i h. eq-eqb _ _ (s (order_in (book_of b) i).client))

exact : (b : List ℕ) → ruled_of b ≡ true → ((client : ℕ) → stored_open b client ≡ open_of (book_of b) client) → links_right b ≡ true → check_of b ≡ 0
exact b r s o = check_kept b (keeps_then b (and_from (ruled_of b) (links_right b) r o) ∙ stored_all b s)

-- what is stored once the word of a client's first order is written
stored_here : (b : List ℕ) (i q client : ℕ) → i < order_count b → find_client (book_of b) client ≡ Some i → q < 2 ^ 64 → stored_open (store_open b i q) client ≡ q
unfolding stored_open
stored_here b i q client h f w =
    let d : List ℕ = store_open b i q in
    let l : length b ≡ book_size = count_book header·orders most_orders b i h in
    let k : i < most_orders = omega (arith, count_most header·orders most_orders b) in
    maybe_some (find_client (book_of d) client) i 0 (open_at d) (ap (λ (x : Book). find_client x client) (store_open_book b i q) ∙ f)
    ∙ open_here b i q l k w

written : (b : List ℕ) (i q : ℕ) → i < order_count b → find_client (book_of b) (order_in (book_of b) i).client ≡ Some i → q < 2 ^ 64 → (q ≡ open_of (book_of b) (order_in (book_of b) i).client → ⊥) → check_of (store_open b i q) ≡ 1
written b i q h f w n =
    let client : ℕ = (order_in (book_of b) i).client in
    (other (store_open b i q) client
    (λ e. n (sym (stored_here b i q client h f w) ∙ e ∙ ap (λ (x : Book). open_of x client) (store_open_book b i q)))).0

-- THE OPEN QUANTITY on bytes
pub open_on_bytes : OpenOnBytes
open_on_bytes = record {
  calls = λ b setting z cs.
      subst (λ (x : List ℕ). OpenRight (bytes_after x cs)) (sym (start_is b setting z)) (all_right (blank setting) (record { keeps = blank_keeps setting; bytes = bytes_blank setting }) cs);
  event = event_right;
  one = one;
  other = other;
  exact = exact;
  bytes = written;
}
