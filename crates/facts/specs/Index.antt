-- What is stored to be found quickly, on any bytes that are a small book: the link of the request that an OrigClOrdID names, and a client's open quantity. Rests on
-- index and Play. What they shut out: the link of another request or of another client's, and an open quantity that leaves out an order.
use Rattle.std.specs.Prelude.{ℕ, ◌≡◌, refl, Bool, true, false, ◌||◌, List, [], ◌∷◌, ◌==◌}
use Rattle.std.proofs.Common.{ap, ap₂, ◌∙◌}
use Rattle.prelude.specs.Cases.{maybe}
use Rattle.prelude.specs.Texts.{text_of}
use Rattle.text.specs.Stored.{no_text}
use Rattle.store.specs.Book.{Book, book_of, order_in, request_in, origin_at, open_at}
use Rattle.store.specs.Finds.{find_client}
use Rattle.machine.specs.Orders.{is_empty}
use Rattle.machine.specs.Rules.{client_of}
use Rattle.machine.specs.Exchange.{open_of}
use Rattle.index.specs.Index.{origin_of, link_right, stored_open, open_right}
use Rattle.facts.specs.Play.{shares, X_, C, D, E, books_as, books, acknowledges, replaces, cancels, rejects, gateway_cancels, called, empty, playing}

-- order X with a replace D of C that is refused, and a cancel E of C
abbrev day : Book
day = playing (empty 10000) (books ∷ acknowledges ∷ replaces D 150 ∷ rejects (X_ 1) 99 ∷ cancels E ∷ [])

-- of bytes that are that book, and have this link at request k
abbrev Linked : (k link : ℕ) → Bool → Type 0
Linked k link right = (b : List ℕ) → book_of b ≡ day → origin_at b k ≡ link → link_right b k ≡ right

linked : (k link : ℕ) (right : Bool)
    → is_empty (request_in day k).origclordid || link == origin_of day (client_of day k) (request_in day k).origclordid ≡ right → Linked k link right
unfolding link_right
linked k link right e b is at =
    ap₂ (λ (x : Book) (l : ℕ). is_empty (request_in x k).origclordid || l == origin_of x (client_of x k) (request_in x k).origclordid) is at ∙ e

record Links : Type 0 where
  -- by value: the client's own request is found; another client's is not, nor one of a name that was never used, nor one of the empty name, though the gateway's cancel has an empty ClOrdID
  named : (origin_of day 7 (text_of C) ≡ 1) × (origin_of day 7 (text_of D) ≡ 2)
  another : origin_of day 8 (text_of C) ≡ 0
  unused : origin_of day 7 (text_of (70 ∷ [])) ≡ 0
  nameless : origin_of (playing (empty 10000) (books ∷ gateway_cancels ∷ [])) 7 no_text ≡ 0
  -- as it is stored: the link of C's request is right, though another of the order's requests stands between; 0 is wrong, and so is the link of the one between, of the request itself, or of none in use
  right : Linked 1 1 true × Linked 2 1 true
  wrong : Linked 2 0 false × Linked 2 2 false × Linked 2 3 false × Linked 2 9 false
  -- without an OrigClOrdID any link will do
  first : Linked 0 0 true × Linked 0 7 true

links : Links
unfolding called origin_of
links = record {
  named = (refl, refl);
  another = refl;
  unused = refl;
  nameless = refl;
  right = (linked 1 1 true refl, linked 2 1 true refl);
  wrong = (linked 2 0 false refl, linked 2 2 false refl, linked 2 3 false refl, linked 2 9 false refl);
  first = (linked 0 0 true refl, linked 0 7 true refl);
}

-- two orders of client 7
abbrev twice : Book
twice = playing (empty 10000) (books ∷ books_as (89 ∷ []) D ∷ [])

-- of bytes that are that book, and have this word at its first order
abbrev Stored : (order quantity : ℕ) → Bool → Type 0
Stored order quantity right = (b : List ℕ) → book_of b ≡ twice → open_at b 0 ≡ quantity → open_right b order ≡ right

stored : (order quantity : ℕ) (right : Bool)
    → ((f : ℕ → ℕ) → (maybe 0 f (find_client twice (order_in twice order).client) == open_of twice (order_in twice order).client) ≡ (f 0 == shares 200))
    → (quantity == shares 200) ≡ right → Stored order quantity right
unfolding open_right stored_open
stored order quantity right here e b is at =
    ap (λ (x : Book). maybe 0 (open_at b) (find_client x (order_in x order).client) == open_of x (order_in x order).client) is
    ∙ here (open_at b) ∙ ap (λ (n : ℕ). n == shares 200) at ∙ e

record Opens : Type 0 where
  -- the sum of both, of either order
  right : Stored 0 (shares 200) true × Stored 1 (shares 200) true
  -- the first order's own quantity is wrong, and so is 0
  wrong : Stored 0 (shares 100) false × Stored 1 (shares 100) false × Stored 0 0 false

opens : Opens
unfolding called find_client
opens = record {
  right = (stored 0 (shares 200) true (λ f. refl) refl, stored 1 (shares 200) true (λ f. refl) refl);
  wrong = (stored 0 (shares 100) false (λ f. refl) refl, stored 1 (shares 100) false (λ f. refl) refl, stored 0 0 false (λ f. refl) refl);
}
