-- Where a retirement puts everything, on bytes: with none done nothing moves, else what parts' laws say of the two books. Rests on RetirePlaced, RetireSums and RetireOwn.
use Rattle.std.proofs.Common.{ℕ, ◌<◌, arith, ◌≡◌, refl, sym, ap, subst, ◌∙◌, inl, Bool, true, false, not, Option, Some, None, List, [], ◌∷◌, ◌^◌, length}
use Rattle.std.proofs.lemmas.Bool.{and_parts}
use Rattle.prelude.specs.Below.{all_below, count_below}
use Rattle.prelude.specs.Cases.{maybe}
use Rattle.prelude.specs.Laws.Below.{all_elim}
use Rattle.prelude.specs.Laws.Cases.{maybe_some, clash, same_some}
use Rattle.prelude.specs.Number.{Bytes}
use Rattle.prelude.specs.Counted.{counting}
use Rattle.store.specs.Book.{Book, order_in, book_of, empty_book}
use Rattle.store.specs.Finds.{find_name}
use Rattle.store.specs.Laws.Kept.{bytes_blank}
use Rattle.machine.specs.Exchange.{SameRecord, open_of}
use Rattle.machine.specs.Orders.{is_done}
use Rattle.machine.proofs.Kept.Laws.{or_else}
use Rattle.machine.proofs.Kept.Steps.{start_keeps}
use Rattle.machine.proofs.Kept.Indexed.{BookKept, book_kept}
use Rattle.machine.proofs.Kept.Consequences.{found_name, found_downstream}
use Rattle.machine.proofs.Numbered.{numbered_laws}
use Rattle.net.specs.Net.{filled_in}
use Rattle.rules.specs.Keeps.{keeps_of}
use Rattle.parts.specs.Parts.{done_at, live_at, live_part, archived, orders_gone}
use Rattle.parts.specs.Laws.Ranks.{rank_below}
use Rattle.parts.specs.Laws.Whole.{part_rules}
use Rattle.parts.specs.Laws.Own.{own_joined}
use Rattle.retire.specs.Retire.{Retired, retired, retire_of, book_left, archive_left, name_free, all_free}
use Rattle.step.specs.Entries.{event_of, start_of, start_refusal}
use Rattle.claims.specs.Claims.{Passes}
use Rattle.claims.specs.Net.{plus}
use Rattle.parts.specs.Alike.{OwnNamed}
use Rattle.claims.specs.RetirePlaced.{StandsAt, SentAt, LiveOrder, DoneOrder, DoneRequest, NamedStill, Placed, SumsStay, RetirePlacedOnBytes, Act, event, retire, book_acted}
use Rattle.claims.proofs.Taken.{check_kept, keeps_sizes}
use Rattle.claims.proofs.Calls.{start_is}
use Rattle.claims.proofs.Retired.Asked.{Goes, Asked, broken, bad_archive, stands, full, idle, moves, asked, Taken, as_it_was, moved, taken}
use Rattle.claims.proofs.Retired.Left.{kept_into, held, old, left_book, left_keeps, left_same, done_kept, archive_book, archive_keeps, archive_same}
use Rattle.claims.proofs.RetireOwn.{own_start, own_event}
use Rattle.claims.proofs.RetirePlaced.{placed}
use Rattle.claims.proofs.RetireSums.{sums_stay, live_open, archive_open, filled_parts}

-- ---- nothing moves

module _ (was held : Book) (hw : BookKept was) (none : (i : ℕ) → DoneOrder was i → ⊥) where
  self_record : (i : ℕ) → SameRecord was was (order_in was i) (order_in was i)
  self_record i = record {
    client = refl;
    venue = refl;
    names = refl;
    terms = refl;
    state = refl;
    amendments = refl;
    current = refl;
    cancel = refl;
    pending = refl;
    wanted = refl;
    tries = refl;
    unsent = refl;
    stuck = refl;
    refused = refl;
    named = refl;
  }

  self_stands : (i : ℕ) → i < length was.orders → StandsAt was was i (order_in was i) i
  self_stands i h = record { found = found_name was hw i h; same = self_record i; requests = refl }

  self_named : (i : ℕ) → NamedStill was i (order_in was i).gateway.origdownstream
  self_named i = record { none = λ z. z; stays = λ r. refl; goes = λ h r. absurd (none _ r.done) }

  self_sent : (j : ℕ) → j < length was.requests → SentAt was was j j
  self_sent j h = record { found = found_downstream was hw numbered_laws j h; same = refl; order = refl }

  no_request : (j : ℕ) → DoneRequest was j → ⊥
  no_request j r = none _ r.done

  stays_live : (i : ℕ) → i < length was.orders → LiveOrder was i
  stays_live i h = record { there = h; live = go (is_done (order_in was i).state.status) refl }
    where
      go : (t : Bool) → is_done (order_in was i).state.status ≡ t → is_done (order_in was i).state.status ≡ false
      go true e = absurd (none i (record { there = h; done = e }))
      go false e = e

  nothing_moves : Placed was held was held
  nothing_moves = record {
    live = λ i r. record { place = i; link = (order_in was i).gateway.origdownstream; stands = self_stands i r.there; named = self_named i; apart = refl };
    done = λ i r. absurd (none i r);
    orders = refl;
    requests = refl;
    from_live = λ k h. record { place = k; live = stays_live k h; found = found_name was hw k h };
    from_done = λ k h. inl h;
    held_orders = λ k h. refl;
    held_requests = λ j h. refl;
    held_own = λ k h. refl;
    booked_live = λ i j less r s k l x y.
        let u : k ≡ i = same_some x (found_name was hw i r.there) in
        let v : l ≡ j = same_some y (found_name was hw j s.there) in
        omega arith;
    booked_done = λ i j less r. absurd (none i r);
    sent_live = λ j r. (j, self_sent j r.there);
    sent_done = λ j r. absurd (no_request j r);
    sending_live = λ i j less r s k l x y.
        let u : k ≡ i = same_some x (found_downstream was hw numbered_laws i r.there) in
        let v : l ≡ j = same_some y (found_downstream was hw numbered_laws j s.there) in
        omega arith;
    sending_done = λ i j less r. absurd (no_request i r);
    exact = λ own i r. (i, self_stands i r.there);
  }

-- ---- the two ways of a retirement that is taken

-- a done order's name does not stand in the archive
free_name : (a b : Book) → all_free a b ≡ true → (i : ℕ) → DoneOrder b i → find_name a (order_in b i).names.name ≡ None
unfolding all_free name_free
free_name a b e i d =
    go (find_name a (order_in b i).names.name) refl
    (or_else (live_at b i) _ (unfold done_at in ap not d.done)
    (all_elim (name_free a b) (length b.orders) (and_parts (all_below (name_free a b) (length b.orders)) _ e).0 i d.there))
  where
    go : (o : Option ℕ) → find_name a (order_in b i).names.name ≡ o → maybe true (λ k. false) (find_name a (order_in b i).names.name) ≡ true
        → find_name a (order_in b i).names.name ≡ None
    go None q t = q
    go (Some k) q t = clash _ t (maybe_some _ k true (λ k. false) q)

-- with none gone none is done
none_gone : (b : Book) → orders_gone b ≡ 0 → (i : ℕ) → DoneOrder b i → ⊥
none_gone b z i d = let l : count_below (done_at b) i < count_below (done_at b) (length b.orders) = rank_below (done_at b) i (length b.orders) d.there (unfold done_at in d.done) in omega arith

passes_at : (b : List ℕ) → Bytes b → keeps_of b ≡ true → Passes b
passes_at b bytes k = record { bytes = bytes; passes = check_kept b k }

module _ (b a : List ℕ) (bytes : Bytes b) (bytes' : Bytes a) where
  -- what the theorem says of r
  record Says (r : Retired) : Type 0 where
    pub placed : Placed (book_of b) (book_of a) (book_of r.book) (book_of r.archive)
    pub sums : SumsStay b a r

  both_sums : (n : ℕ) → Goes b a → SumsStay b a (retired (counting n) (book_left b) (archive_left a b))
  both_sums n g =
      let W : Book = book_of b in
      let H : Book = book_of a in
      let book : book_of (book_left b) ≡ live_part W = left_book b bytes g.book in
      let archive : book_of (archive_left a b) ≡ archived H W = archive_book b bytes g.book a g.archive g.free g.room in
      sums_stay b a (retired (counting n) (book_left b) (archive_left a b)) (passes_at b bytes g.book) (passes_at a bytes' g.archive)
      (passes_at (book_left b) ((left_same b bytes g.book).bytes bytes) (left_keeps b bytes g.book))
      (passes_at (archive_left a b) ((archive_same b bytes g.book a g.archive g.free g.room).bytes bytes') (archive_keeps b bytes g.book a g.archive g.free g.room))
      (λ client. ap (λ (x : Book). open_of x client) book ∙ live_open H W client)
      (λ client. ap (λ (x : Book). open_of x client) archive ∙ archive_open H W client)
      (λ client symbol.
      ap (λ (x : Book). plus (filled_in x client symbol) (filled_in (book_of (archive_left a b)) client symbol)) book
      ∙ ap (λ (x : Book). plus (filled_in (live_part W) client symbol) (filled_in x client symbol)) archive
      ∙ filled_parts H W client symbol)

  says_by : (r : Retired) → Taken b a r → Says r
  says_by r (as_it_was g e) = record {
    placed = nothing_moves (book_of b) (book_of a) (old b bytes g.book) (none_gone (book_of b) e);
    sums = sums_stay b a (retired (counting 0) b a) (passes_at b bytes g.book) (passes_at a bytes' g.archive) (passes_at b bytes g.book) (passes_at a bytes' g.archive)
        (λ client. refl) (λ client. refl) (λ client symbol. refl);
  }
  says_by r (moved g e) = record {
    placed =
        subst (λ (x : Book). Placed (book_of b) (book_of a) x (book_of (archive_left a b))) (sym (left_book b bytes g.book))
        (subst (λ (x : Book). Placed (book_of b) (book_of a) (live_part (book_of b)) x) (sym (archive_book b bytes g.book a g.archive g.free g.room))
        (placed (book_of b) (book_of a) (old b bytes g.book) (kept_into a g.archive).kept
        (book_kept (live_part (book_of b)) (part_rules (live_at (book_of b)) (book_of b) (held b bytes g.book).rules)) (done_kept b bytes g.book a g.archive g.free g.room)
        (free_name (book_of a) (book_of b) g.free)));
    sums = both_sums (orders_gone (book_of b)) g;
  }

-- ---- gateway cancels name their own orders' requests in both

module _ (b a : List ℕ) (bytes : Bytes b) (own : OwnNamed (book_of b)) where
  own_book : (r : Retired) → Asked b a r → OwnNamed (book_of r.book)
  own_book r (broken k) = own
  own_book r (bad_archive k l) = own
  own_book r (stands k l f) = own
  own_book r (full k l f m) = own
  own_book r (idle g e) = own
  own_book r (moves g e) =
      subst OwnNamed (sym (left_book b bytes g.book))
      (own_joined (live_at (book_of b)) (empty_book (book_of b).setting) (book_of b) (book_kept (empty_book (book_of b).setting) (start_keeps (book_of b).setting))
      (old b bytes g.book) (λ i h. absurd (omega arith)) own)

  own_archive : (r : Retired) → Asked b a r → OwnNamed (book_of a) → OwnNamed (book_of r.archive)
  own_archive r (broken k) y = y
  own_archive r (bad_archive k l) y = y
  own_archive r (stands k l f) y = y
  own_archive r (full k l f m) y = y
  own_archive r (idle g e) y = y
  own_archive r (moves g e) y =
      subst OwnNamed (sym (archive_book b bytes g.book a g.archive g.free g.room))
      (own_joined (done_at (book_of b)) (book_of a) (book_of b) (kept_into a g.archive).kept (old b bytes g.book) y own)

-- a retirement leaves bytes
left_bytes : (b a : List ℕ) → Bytes b → (r : Retired) → Asked b a r → Bytes r.book
left_bytes b a bytes r (broken k) = bytes
left_bytes b a bytes r (bad_archive k l) = bytes
left_bytes b a bytes r (stands k l f) = bytes
left_bytes b a bytes r (full k l f m) = bytes
left_bytes b a bytes r (idle g e) = bytes
left_bytes b a bytes r (moves g e) = (left_same b bytes g.book).bytes bytes

-- over lists
own_acted : (b : List ℕ) → Bytes b → OwnNamed (book_of b) → (xs : List Act) → OwnNamed (book_of (book_acted b xs))
own_acted b bytes own [] = own
own_acted b bytes own (event c ∷ xs) =
    own_acted (event_of b c.event c.answer).book ((keeps_sizes b c.event c.answer).bytes bytes c.bytes) (own_event b c.event c.answer bytes c.bytes own) xs
own_acted b bytes own (retire a ∷ xs) =
    own_acted (retire_of b a).book (left_bytes b a bytes (retire_of b a) (asked b a)) (own_book b a bytes own (retire_of b a) (asked b a)) xs

own_list : (b : List ℕ) (setting : ℕ) → setting < 2 ^ 32 → start_refusal b ≡ 0 → (xs : List Act) → OwnNamed (book_of (book_acted (start_of b setting) xs))
own_list b setting small z xs =
    own_acted (start_of b setting) (subst Bytes (sym (start_is b setting z)) (bytes_blank setting)) (own_start b setting small z) xs

-- THE THEOREM
pub retire_placed_on_bytes : RetirePlacedOnBytes
retire_placed_on_bytes = record {
  retires = λ b a bytes bytes' z.
      let s : Says b a bytes bytes' (retire_of b a) = says_by b a bytes bytes' (retire_of b a) (taken b a z) in
      record { placed = s.placed; sums = s.sums };
  own = own_list;
  own_event = own_event;
  own_retire = λ b a bytes x y. (own_book b a bytes x (retire_of b a) (asked b a), own_archive b a bytes x (retire_of b a) (asked b a) y);
}
