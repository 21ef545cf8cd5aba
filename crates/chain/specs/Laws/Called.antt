-- The promises of the call. Rests on Entries.
use Rattle.std.specs.Prelude.{ℕ, zero, suc, ◌+◌, ◌-◌, ◌*◌, ◌≤◌, ◌<◌, ◌≡◌, get_or, take, drop, replicate, refl, true, false, not, List, [], ◌∷◌, ◌++◌, map, length}
use Rattle.std.proofs.Common.{add-zero, zero-add, sym, ap, ◌∙◌, length-append, length-take, take_at, get_or-take, get_or-append-add, arith, subst, lt-ltb, le-ltb}
use Rattle.std.proofs.Math.Decide.{dec_lt}
use Rattle.std.proofs.Math.ListN.{get_or-append, get_or-eq_default}
use Rattle.std.proofs.Math.Seq.{drop-append-add, get_or-append_seam}
use Rattle.std.proofs.lemmas.List.{length-replicate, get_or-replicate}
use Rattle.std.specs.List.{concat}
use Rattle.prelude.specs.Laws.Cases.{if_true, if_false}
use Rattle.prelude.specs.Span.{span, splice}
use Rattle.prelude.specs.Laws.Span.{length_splice, span_splice_same, span_splice_after, span_span, get_span}
use Rattle.prelude.specs.Texts.{contents}
use Rattle.store.specs.Book.{book_of, request_in}
use Rattle.prelude.specs.Counted.{refusing, counting}
use Rattle.rules.specs.Keeps.{keeps_of}
use Rattle.chain.specs.Chain.{chain_of, entry_size, entry_of, entries_of, chained, chain_call}
use Rattle.chain.specs.Promise.{IsEntry, IsWritten, SoundCall}
use Rattle.chain.specs.Laws.Entries.{length_entry, length_entries}

-- ---- the call

-- entry i of many
entry_at : (b ks : List ℕ) (i : ℕ) → i < length ks → span (entries_of b ks) (entry_size * i) entry_size ≡ entry_of b (get_or ks i 0)
unfolding entries_of span
entry_at b [] i h = absurd (omega arith)
entry_at b (k ∷ ks) zero h = take_at (entry_of b k) (concat (map (entry_of b) ks)) entry_size (length_entry b k)
entry_at b (k ∷ ks) (suc i) h =
    let e : entry_size * suc i ≡ length (entry_of b k) + entry_size * i = omega (arith, length_entry b k) in
    ap (λ (n : ℕ). take entry_size (drop n (entry_of b k ++ concat (map (entry_of b) ks)))) e
    ∙ ap (take entry_size) (drop-append-add (entry_of b k) (concat (map (entry_of b) ks)) (entry_size * i))
    ∙ entry_at b ks i (omega arith)

-- byte by byte
filled : (name : List ℕ) (i : ℕ) → i < 32 → get_or (name ++ replicate 32 0) i 0 ≡ get_or name i 0
filled name i h = go (dec_lt i (length name))
  where
    go : Dec (i < length name) → get_or (name ++ replicate 32 0) i 0 ≡ get_or name i 0
    go (yes l) = get_or-append name (replicate 32 0) 0 i l
    go (no l) =
        let e : i ≡ length name + (i - length name) = omega arith in
        ap (λ (n : ℕ). get_or (name ++ replicate 32 0) n 0) e
        ∙ get_or-append-add name (replicate 32 0) (i - length name) 0
        ∙ get_or-replicate 32 (i - length name) 0 0 (omega arith)
        ∙ sym (get_or-eq_default name 0 (omega arith))

is_entry : (b : List ℕ) (k : ℕ) → IsEntry b k (entry_of b k)
unfolding entry_of
is_entry b k =
    let name : List ℕ = contents (request_in (book_of b) k).clordid in
    let outcome : ℕ = (request_in (book_of b) k).outcome in
    let text : List ℕ = take 32 (name ++ replicate 32 0) in
    let l : length text ≡ 32 = simp (length-take, length-append, length-replicate) (omega arith) in
    record {
      size = length_entry b k;
      long = refl;
      name = λ i h. get_or-append text (outcome ∷ []) 0 i (omega arith) ∙ get_or-take 32 (name ++ replicate 32 0) i 0 h ∙ filled name i h;
      outcome = ap (λ (n : ℕ). get_or (text ++ (outcome ∷ [])) n 0) (sym l) ∙ get_or-append_seam text (outcome) [] 0;
    }

-- what the call comes to, written
module _ (b : List ℕ) (client : ℕ) (name list : List ℕ) (keeps : keeps_of b ≡ true) where
  abbrev ks : List ℕ
  ks = chain_of (book_of b) client name

  pub call_written : entry_size * length ks ≤ length list → chain_call b client name list ≡ chained (counting (length ks)) (splice list 0 (entries_of b ks))
  unfolding chain_call
  call_written h = if_false _ _ _ (ap not keeps) ∙ if_false _ _ _ (le-ltb (length list) (entry_size * length ks) h)

  pub call_short : length list < entry_size * length ks → chain_call b client name list ≡ chained (refusing 12) list
  unfolding chain_call
  call_short h = if_false _ _ _ (ap not keeps) ∙ if_true _ _ _ (lt-ltb (length list) (entry_size * length ks) h)

  is_written : entry_size * length ks ≤ length list → IsWritten b ks list (chained (counting (length ks)) (splice list 0 (entries_of b ks)))
  is_written h =
      let n : length (entries_of b ks) ≡ entry_size * length ks = length_entries b ks in
      let l : length (splice list 0 (entries_of b ks)) ≡ length list = length_splice list 0 (entries_of b ks) (omega arith) in
      record {
        returned = refl;
        size = l;
        entries = λ i k. subst (IsEntry b (get_or ks i 0)) (sym (entry_in n h i k)) (is_entry b (get_or ks i 0));
        rest = λ k g. sym (get_one (splice list 0 (entries_of b ks)) k) ∙ ap (λ (s : List ℕ). get_or s 0 0) (span_splice_after list 0 (entries_of b ks) k 1 (omega arith) (omega arith)) ∙ get_one list k;
      }
    where
      entry_in : length (entries_of b ks) ≡ entry_size * length ks → entry_size * length ks ≤ length list → (i : ℕ) → i < length ks
          → span (splice list 0 (entries_of b ks)) (entry_size * i) entry_size ≡ entry_of b (get_or ks i 0)
      entry_in n h i k =
          ap (λ (n : ℕ). span (splice list 0 (entries_of b ks)) n entry_size) (sym (zero-add (entry_size * i)))
          ∙ sym (span_span (splice list 0 (entries_of b ks)) 0 (entry_size * length ks) (entry_size * i) entry_size (omega arith))
          ∙ ap (λ (s : List ℕ). span s (entry_size * i) entry_size) (span_splice_same list 0 (entries_of b ks) (entry_size * length ks) n (omega arith))
          ∙ entry_at b ks i k

      get_one : (s : List ℕ) (k : ℕ) → get_or (span s k 1) 0 0 ≡ get_or s k 0
      get_one s k = get_span s k 1 0 (omega arith) ∙ ap (λ (n : ℕ). get_or s n 0) (add-zero k)

pub call_bad : (b : List ℕ) (client : ℕ) (name list : List ℕ) → keeps_of b ≡ false → chain_call b client name list ≡ chained (refusing 1) list
unfolding chain_call
call_bad b client name list e = if_true _ _ _ (ap not e)

pub sound_call : SoundCall
sound_call b client name list = record {
  bad = call_bad b client name list;
  short = λ e. call_short b client name list e;
  enough = λ e h. subst (IsWritten b (chain_of (book_of b) client name) list) (sym (call_written b client name list e h)) (is_written b client name list e h);
}
