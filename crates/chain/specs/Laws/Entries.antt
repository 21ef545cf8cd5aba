-- Entries: 34 bytes each, a stored ClOrdID being its length and its 32 bytes; written one behind the other. Rests on Chain.
use Rattle.std.specs.Prelude.{ℕ, suc, ◌+◌, ◌*◌, ◌≤◌, ◌<◌, ◌≡◌, Bool, ◌&&◌, length, get_or, None, Some, refl, true, List, [], ◌∷◌, map, leb}
use Rattle.std.proofs.Common.{arith, ◌∙◌, length-take, sym, ap, ap₂, append-nil, length-append}
use Rattle.std.proofs.lemmas.Bool.{and_parts}
use Rattle.std.proofs.lemmas.List.{length-replicate}
use Rattle.std.specs.List.{concat}
use Rattle.prelude.specs.Cases.{if◌then◌otherwise◌}
use Rattle.prelude.specs.Laws.Cases.{split_if}
use Rattle.prelude.specs.Pieces.{Sized}
use Rattle.prelude.specs.Laws.Pieces.{length_joined, writes_joined}
use Rattle.prelude.specs.Span.{span, splice}
use Rattle.prelude.specs.Laws.Span.{length_span, length_splice, splice_append}
use Rattle.prelude.specs.Texts.{text_at, contents, text_of, is_text}
use Rattle.prelude.specs.Laws.Texts.{text_contents}
use Rattle.prelude.specs.declared.Text.{Text}
use Rattle.store.specs.Layout.{book_size, most_requests, request_base, request·clordid, request·clordidLen, request·outcome}
use Rattle.store.specs.declared.Request.{Request}
use Rattle.store.specs.Book.{book_of, request_in, request_count}
use Rattle.store.specs.Laws.Fields.{request_clordid, request_clordid_len, request_outcome}
use Rattle.store.specs.Laws.Stored.{length_requests, request_in_lem}
use Rattle.machine.specs.Changes.{is_gateway}
use Rattle.machine.specs.Ranges.{text_within}
use Rattle.machine.proofs.Kept.Indexed.{book_kept, range_kept}
use Rattle.rules.specs.Keeps.{keeps_of}
use Rattle.rules.specs.Laws.Keeps.{keeps_held}
use Rattle.chain.specs.Laws.Walk.{earlier, walk, walk_some, walk_end, walk_more}
use Rattle.chain.specs.Chain.{entry_size, entry_fields, entry_of, entries_of}

abbrev widths : List ℕ
widths = 1 ∷ 32 ∷ 1 ∷ []

sized : (name : List ℕ) (outcome : ℕ) → Sized widths (entry_fields name outcome)
sized name outcome = (refl, (simp (length-take, length-append, length-replicate) (omega arith), (refl, tt)))

module _ (b : List ℕ) where
  pub length_entry : (k : ℕ) → length (entry_of b k) ≡ entry_size
  unfolding entry_of
  length_entry k =
      let q : Request = request_in (book_of b) k in
      length_joined widths (entry_fields (contents q.clordid) q.outcome) (sized (contents q.clordid) q.outcome)

  pub length_entries : (ks : List ℕ) → length (entries_of b ks) ≡ entry_size * length ks
  unfolding entries_of
  length_entries [] = refl
  length_entries (k ∷ ks) = length-append (entry_of b k) (concat (map (entry_of b) ks)) ∙ omega (arith, length_entry k, length_entries ks)

  -- one, and one before others
  pub entries_one : (k : ℕ) → entries_of b (k ∷ []) ≡ entry_of b k
  unfolding entries_of
  entries_one k = append-nil (entry_of b k)

  pub entries_more : (s : List ℕ) (at k : ℕ) (ks : List ℕ) → at + entry_size ≤ length s
      → splice (splice s at (entry_of b k)) (at + entry_size) (entries_of b ks) ≡ splice s at (entries_of b (k ∷ ks))
  unfolding entries_of
  entries_more s at k ks h =
      ap (λ (n : ℕ). splice (splice s at (entry_of b k)) (at + n) (concat (map (entry_of b) ks))) (sym (length_entry k))
      ∙ splice_append s at (entry_of b k) (concat (map (entry_of b) ks)) (omega (arith, length_entry k))

-- ---- an entry as it is stored: the length, the 32 bytes of the ClOrdID, and the outcome

abbrev stored : List ℕ → ℕ → List (List ℕ)
stored b k = (get_or b (request_base k + request·clordidLen) 0 ∷ []) ∷ span b (request_base k + request·clordid) 32 ∷ (get_or b (request_base k + request·outcome) 0 ∷ []) ∷ []

unfoldable pub stored_entry : List ℕ → ℕ → List ℕ
stored_entry b k = concat (stored b k)

-- its three parts written
pub entry_written : (b : List ℕ) (k : ℕ) (s : List ℕ) (at : ℕ) → length b ≡ book_size → k < most_requests → at + entry_size ≤ length s
    → splice (splice (splice s at (get_or b (request_base k + request·clordidLen) 0 ∷ [])) (at + 1) (span b (request_base k + request·clordid) 32)) (at + 1 + 32)
    (get_or b (request_base k + request·outcome) 0 ∷ [])
    ≡ splice s at (stored_entry b k)
unfolding stored_entry
entry_written b k s at l h r = writes_joined widths (stored b k) s at (refl, (length_span b (request_base k + request·clordid) 32 (omega arith), (refl, tt))) (omega arith)

module _ (b : List ℕ) (keeps : keeps_of b ≡ true) (k : ℕ) (h : k < request_count b) where
  abbrev name : Text
  name = (request_in (book_of b) k).clordid

  name_at : name ≡ text_at b (request_base k + request·clordid)
  name_at = ap (λ (q : Request). q.clordid) (request_in_lem b k h) ∙ request_clordid b k

  len_at : name.len ≡ get_or b (request_base k + request·clordidLen) 0
  len_at = ap (λ (q : Request). q.clordid.len) (request_in_lem b k h) ∙ request_clordid_len b k

  outcome_is : (request_in (book_of b) k).outcome ≡ get_or b (request_base k + request·outcome) 0
  outcome_is = ap (λ (q : Request). q.outcome) (request_in_lem b k h) ∙ request_outcome b k

  name_long : length name.bytes ≡ 32
  name_long =
      ap (λ (t : Text). length t.bytes) name_at
      ∙ length_span b (request_base k + request·clordid) 32 (omega (arith, (keeps_held b keeps).long, (keeps_held b keeps).few_requests))

  pub name_text : is_text name ≡ true
  unfolding text_within
  name_text =
      go (is_gateway (request_in (book_of b) k))
      (range_kept _ ((book_kept (book_of b) (keeps_held b keeps).rules).request k (omega (arith, length_requests b))).range).clordid
    where
      fine : (lo hi : ℕ) → text_within lo hi name ≡ true → is_text name ≡ true
      fine lo hi e = (and_parts (is_text name) _ (and_parts (is_text name && leb lo name.len) (leb name.len hi) e).0).0

      go : (t : Bool) → (if t then text_within 0 0 name otherwise text_within 1 32 name) ≡ true → is_text name ≡ true
      go t = split_if (λ (v : Bool). v ≡ true → is_text name ≡ true) t (λ e. fine 0 0) (λ e. fine 1 32)

  -- the text of its contents
  pub name_whole : text_of (contents name) ≡ name
  name_whole = text_contents name name_long name_text

  pub entry_stored : stored_entry b k ≡ entry_of b k
  unfolding stored_entry entry_of text_of
  entry_stored =
      sym
      (ap₂ (λ (t : Text) (n : ℕ). concat ((t.len ∷ []) ∷ t.bytes ∷ (n ∷ []) ∷ [])) name_whole outcome_is
      ∙ ap₂ (λ (n : ℕ) (l : List ℕ). concat ((n ∷ []) ∷ l ∷ (get_or b (request_base k + request·outcome) 0 ∷ []) ∷ [])) len_at (ap (λ (t : Text). t.bytes) name_at))

-- ---- the entries of a walk: written as far as its first, then the rest behind it

module _ (b : List ℕ) (keeps : keeps_of b ≡ true) (k : ℕ) (h : k < request_count b) (s one : List ℕ) (at : ℕ) (room : at + entry_size * length (walk b k) ≤ length s) where
  pub first_room : at + entry_size ≤ length s
  first_room = omega (arith, walk_some b keeps k)

  module _ (w : one ≡ splice s at (stored_entry b k)) where
    written : one ≡ splice s at (entry_of b k)
    written = w ∙ ap (splice s at) (entry_stored b keeps k h)

    pub length_one : length one ≡ length s
    length_one = ap length written ∙ length_splice s at (entry_of b k) (omega (arith, first_room, length_entry b k))

    pub put_end : earlier b k ≡ None → one ≡ splice s at (entries_of b (walk b k))
    put_end e = written ∙ ap (splice s at) (sym (ap (entries_of b) (walk_end b keeps k h e) ∙ entries_one b k))

    module _ (j : ℕ) (e : earlier b k ≡ Some j) where
      pub rest_room : at + entry_size + entry_size * length (walk b j) ≤ length one
      rest_room =
          let n : length (walk b k) ≡ suc (length (walk b j)) = ap length (walk_more b keeps k h j e) in
          omega (arith, length_one)

      pub put_more : (all : List ℕ) → all ≡ splice one (at + entry_size) (entries_of b (walk b j)) → all ≡ splice s at (entries_of b (walk b k))
      put_more all v =
          v
          ∙ ap (λ (l : List ℕ). splice l (at + entry_size) (entries_of b (walk b j))) written
          ∙ entries_more b s at k (walk b j) first_room
          ∙ ap (λ (ks : List ℕ). splice s at (entries_of b ks)) (sym (walk_more b keeps k h j e))

-- for the tactic of the function that writes them
pub ruleset put = (first_room, rest_room, put_end, put_more)
