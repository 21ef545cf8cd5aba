-- The records at the front of bytes, as a relation: which records there are, how many bytes they take, and what more bytes behind them add. Rests on events.
use Rattle.std.specs.Prelude.{ℕ, zero, suc, ◌+◌, ◌*◌, ◌≤◌, ◌≡◌, ◌&&◌, refl, true, false, List, [], ◌∷◌, ◌++◌, leb, length, take, drop, get_or}
use Rattle.std.proofs.Common.{Bool, inl, inr, ⊎_elim, arith, sym, ap, ◌∙◌, subst, length-append, length-drop, drop-drop, take-add, le-leb}
use Rattle.std.proofs.Math.ListN.{get_or-append}
use Rattle.std.proofs.lemmas.Bool.{leb-false, and_from, lt-leb}
use Rattle.std.proofs.lemmas.List.{take-append-le, drop-append-le}
use Rattle.prelude.specs.Number.{Bytes, number, bytes_of, word16}
use Rattle.prelude.specs.Span.{span}
use Rattle.prelude.specs.Laws.Bytes.{bytes_span, bytes_drop}
use Rattle.prelude.specs.Laws.Cases.{split_if, clash}
use Rattle.prelude.specs.Laws.Number.{word16_number, bytes_number}
use Rattle.prelude.specs.Laws.Span.{length_span}
use Rattle.events.specs.Events.{has_whole, records_from, records_in}
use Rattle.events.specs.Laws.Runs.{whole_long}
use Rattle.claims.specs.Events.{packed, Partial}

-- the whole records at the front
pub data Front : List ℕ → List (List ℕ) → Type 0 where
  ends : (rs : List ℕ) → has_whole rs ≡ false → Front rs []
  goes : (rs : List ℕ) (ss : List (List ℕ)) → has_whole rs ≡ true → Front (drop (2 + word16 rs 0) rs) ss → Front rs (span rs 2 (word16 rs 0) ∷ ss)

-- as the statement has it: there is none
pub partial : (rs : List ℕ) → has_whole rs ≡ false → Partial rs
unfolding has_whole
partial rs e = go (leb 2 (length rs)) refl
  where
    go : (t : Bool) → leb 2 (length rs) ≡ t → Partial rs
    go false d = inl (leb-false _ _ d)
    go true d = inr (leb-false _ _ (sym (ap (λ (x : Bool). x && leb (2 + word16 rs 0) (length rs)) d) ∙ e))

pub none_whole : (rs : List ℕ) → Partial rs → has_whole rs ≡ false
none_whole rs p = go (has_whole rs) refl
  where
    go : (t : Bool) → has_whole rs ≡ t → t ≡ false
    go false e = refl
    go true e = let l = whole_long rs e in let c : ⊥ = ⊎_elim (λ h. omega arith) (λ h. omega arith) p in absurd c

pub whole_there : (rs : List ℕ) → (Partial rs → ⊥) → has_whole rs ≡ true
whole_there rs n = go (has_whole rs) refl
  where
    go : (t : Bool) → has_whole rs ≡ t → t ≡ true
    go true e = refl
    go false e = absurd (n (partial rs e))

none_short : (rs : List ℕ) → length rs ≤ 0 → has_whole rs ≡ false
unfolding has_whole
none_short rs h = rw (lt-leb 2 (length rs) (omega arith)) refl

front_from : (n : ℕ) (rs : List ℕ) → length rs ≤ n → Front rs (records_from n rs)
front_from zero rs h = ends rs (none_short rs h)
front_from (suc n) rs h =
    split_if (Front rs) (has_whole rs)
    (λ e. goes rs _ e (front_from n (drop (2 + word16 rs 0) rs) (let l = whole_long rs e in simp length-drop (omega arith))))
    (λ e. ends rs e)

pub front : (rs : List ℕ) → Front rs (records_in rs)
unfolding records_in
front rs = front_from (length rs) rs (omega arith)

pub front_same : (rs : List ℕ) (xs ys : List (List ℕ)) → Front rs xs → Front rs ys → xs ≡ ys
front_same _ _ _ (ends rs e) (ends _ f) = refl
front_same _ _ _ (ends rs e) (goes _ ss f c) = clash (has_whole rs) f e
front_same _ _ _ (goes rs ss e c) (ends _ f) = clash (has_whole rs) e f
front_same _ _ _ (goes rs ss e c) (goes _ ts f d) = ap (λ (l : List (List ℕ)). span rs 2 (word16 rs 0) ∷ l) (front_same _ ss ts c d)

pub records_are : (rs : List ℕ) (xs : List (List ℕ)) → Front rs xs → records_in rs ≡ xs
records_are rs xs c = front_same rs (records_in rs) xs (front rs) c

-- ---- how many bytes they take

pub packed_long : (r : List ℕ) (ss : List (List ℕ)) → length (packed (r ∷ ss)) ≡ 2 + (length r + length (packed ss))
packed_long r ss = simp length-append (omega arith)

behind_first : (rs : List ℕ) (ss : List (List ℕ)) → has_whole rs ≡ true
    → drop (length (packed (span rs 2 (word16 rs 0) ∷ ss))) rs ≡ drop (length (packed ss)) (drop (2 + word16 rs 0) rs)
behind_first rs ss e =
    let l : length (span rs 2 (word16 rs 0)) ≡ word16 rs 0 = length_span rs 2 (word16 rs 0) (whole_long rs e) in
    let n : length (packed (span rs 2 (word16 rs 0) ∷ ss)) ≡ 2 + word16 rs 0 + length (packed ss) = omega (arith, packed_long (span rs 2 (word16 rs 0)) ss) in
    ap (λ (k : ℕ). drop k rs) n ∙ sym (drop-drop (length (packed ss)) (2 + word16 rs 0) rs)

-- behind k of them are the others
pub front_behind : (rs : List ℕ) (xs : List (List ℕ)) → Front rs xs → (k : ℕ) → Front (drop (length (packed (take k xs))) rs) (drop k xs)
front_behind rs xs c zero = c
front_behind _ _ (ends rs e) (suc k) = ends rs e
front_behind _ _ (goes rs ss e c) (suc k) =
    subst (λ (d : List ℕ). Front d (drop k ss)) (sym (behind_first rs (take k ss) e)) (front_behind (drop (2 + word16 rs 0) rs) ss c k)

pub packed_fits : (rs : List ℕ) (xs : List (List ℕ)) → Front rs xs → (k : ℕ) → length (packed (take k xs)) ≤ length rs
packed_fits rs xs c zero = omega arith
packed_fits _ _ (ends rs e) (suc k) = omega arith
packed_fits _ _ (goes rs ss e c) (suc k) =
    let w : 2 + word16 rs 0 ≤ length rs = whole_long rs e in
    let l : length (drop (2 + word16 rs 0) rs) + (2 + word16 rs 0) ≡ length rs = simp length-drop (omega arith) in
    omega (arith, packed_long (span rs 2 (word16 rs 0)) (take k ss), length_span rs 2 (word16 rs 0) w, packed_fits (drop (2 + word16 rs 0) rs) ss c k)

parts : (rs : List ℕ) (n m : ℕ) → take (2 + (n + m)) rs ≡ span rs 0 2 ++ (span rs 2 n ++ take m (drop (2 + n) rs))
unfolding span
parts rs n m =
    take-add 2 (n + m) rs
    ∙ ap (λ (x : List ℕ). take 2 rs ++ x) (take-add n m (drop 2 rs) ∙ ap (λ (x : List ℕ). take n (drop 2 rs) ++ take m x) (drop-drop n 2 rs))

-- the bytes that k of them take are these records, each after its length
pub front_packed : (rs : List ℕ) (xs : List (List ℕ)) → Bytes rs → Front rs xs → (k : ℕ) → take (length (packed (take k xs))) rs ≡ packed (take k xs)
front_packed rs xs h c zero = refl
front_packed _ _ h (ends rs e) (suc k) = refl
front_packed _ _ h (goes rs ss e c) (suc k) =
    let n : ℕ = word16 rs 0 in
    let w : 2 + n ≤ length rs = whole_long rs e in
    let r : List ℕ = span rs 2 n in
    let l : length r ≡ n = length_span rs 2 n w in
    let m : ℕ = length (packed (take k ss)) in
    let size : length (packed (r ∷ take k ss)) ≡ 2 + (n + m) = omega (arith, packed_long r (take k ss)) in
    let two : length (span rs 0 2) ≡ 2 = length_span rs 0 2 (omega arith) in
    let head : span rs 0 2 ≡ bytes_of 2 (length r) =
    sym (bytes_number (span rs 0 2) (bytes_span rs 0 2 h)) ∙ ap (λ (j : ℕ). bytes_of j (number (span rs 0 2))) two ∙ ap (bytes_of 2) (sym (word16_number rs 0 (omega arith)) ∙ sym l) in
    ap (λ (j : ℕ). take j rs) size
    ∙ parts rs n m
    ∙ ap (λ (x : List ℕ). x ++ (r ++ take m (drop (2 + n) rs))) head
    ∙ ap (λ (x : List ℕ). bytes_of 2 (length r) ++ (r ++ x)) (front_packed (drop (2 + n) rs) ss (bytes_drop rs (2 + n) h) c k)

-- ---- more bytes behind them

module _ (rs more : List ℕ) (e : has_whole rs ≡ true) where
  more_word : word16 (rs ++ more) 0 ≡ word16 rs 0
  more_word =
      let l = whole_long rs e in
      let a : get_or (rs ++ more) 0 0 ≡ get_or rs 0 0 = get_or-append rs more 0 0 (omega arith) in
      let b : get_or (rs ++ more) 1 0 ≡ get_or rs 1 0 = get_or-append rs more 0 1 (omega arith) in
      λ i. a i + 256 * b i

  more_whole : has_whole (rs ++ more) ≡ true
  unfolding has_whole
  more_whole =
      let l = whole_long rs e in
      let n : 2 + word16 (rs ++ more) 0 ≤ length (rs ++ more) = rw more_word (simp length-append (omega arith)) in
      and_from _ _ (le-leb 2 (length (rs ++ more)) (omega arith)) (le-leb (2 + word16 (rs ++ more) 0) (length (rs ++ more)) n)

  more_first : span (rs ++ more) 2 (word16 (rs ++ more) 0) ≡ span rs 2 (word16 rs 0)
  unfolding span
  more_first =
      let l = whole_long rs e in
      ap (λ (n : ℕ). take n (drop 2 (rs ++ more))) more_word
      ∙ ap (take (word16 rs 0)) (drop-append-le 2 rs more (omega arith))
      ∙ take-append-le (word16 rs 0) (drop 2 rs) more (simp length-drop (omega arith))

  more_behind : drop (2 + word16 (rs ++ more) 0) (rs ++ more) ≡ drop (2 + word16 rs 0) rs ++ more
  more_behind = ap (λ (n : ℕ). drop (2 + n) (rs ++ more)) more_word ∙ drop-append-le (2 + word16 rs 0) rs more (whole_long rs e)

pub front_more : (rs : List ℕ) (xs : List (List ℕ)) → Front rs xs → (more : List ℕ) (ys : List (List ℕ)) → Front (drop (length (packed xs)) rs ++ more) ys → Front (rs ++ more) (xs ++ ys)
front_more _ _ (ends rs e) more ys d = d
front_more _ _ (goes rs ss e c) more ys d =
    let next : Front (drop (2 + word16 rs 0) rs ++ more) (ss ++ ys) =
    front_more (drop (2 + word16 rs 0) rs) ss c more ys (subst (λ (x : List ℕ). Front (x ++ more) ys) (behind_first rs ss e) d) in
    subst (λ (x : List ℕ). Front (rs ++ more) (x ∷ (ss ++ ys))) (more_first rs more e)
    (goes (rs ++ more) (ss ++ ys) (more_whole rs more e) (subst (λ (x : List ℕ). Front x (ss ++ ys)) (sym (more_behind rs more e)) next))
