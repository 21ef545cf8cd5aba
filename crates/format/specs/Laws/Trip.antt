-- What is written is read as it was, field by field, whatever the table says; and fields that were read are what stands there.
-- Rests on Wire and Laws.
use Rattle.std.specs.Prelude.{ℕ, zero, suc, ◌≤◌, ◌<◌, ◌+◌, ◌-◌, ◌≡◌, Bool, refl, List, [], ◌++◌, true, false, length}
use Rattle.std.proofs.Common.{ap, sym, ◌∙◌, append_assoc, append-nil, length-append, arith}
use Rattle.std.proofs.Math.Decide.{le_ind}
use Rattle.std.proofs.Math.Seq.{get_or-append_seam, drop-append_seam, take-append_seam}
use Rattle.prelude.specs.Cases.{if◌then◌otherwise◌}
use Rattle.prelude.specs.Span.{span}
use Rattle.prelude.specs.Laws.Span.{span_none, span_join}
use Rattle.bits.specs.Map.{bit}
use Rattle.format.specs.Format.{size, is_text_bit}
use Rattle.format.specs.Places.{extent, next, start, strip, part, content}
use Rattle.format.specs.Wire.{encode, field_bytes, body}
use Rattle.format.specs.Laws.Places.{start_up}

-- a number has the length that the table says
abbrev pub Fits : ℕ → List ℕ → Type 0
Fits b q = is_text_bit b ≡ false → length q ≡ size b

extent_encoded : (P q t : List ℕ) (b : ℕ) → Fits b q → extent (P ++ (encode b q ++ t)) b (length P) ≡ length (encode b q)
unfolding extent encode if◌then◌otherwise◌
extent_encoded P q t b ok = go (is_text_bit b) refl
  where
    go : (x : Bool) → is_text_bit b ≡ x → extent (P ++ (encode b q ++ t)) b (length P) ≡ length (encode b q)
    go true e = rw e (ap (λ (n : ℕ). 1 + n) (get_or-append_seam P (length q) (q ++ t) 0) ∙ omega arith)
    go false e = rw e (sym (ok e))

next_field : (P t : List ℕ) (m : ℕ) (fs : ℕ → List ℕ) (b : ℕ) → (bit m b ≡ true → Fits b (fs b))
    → next (P ++ (field_bytes m fs b ++ t)) m b (length P) ≡ length P + length (field_bytes m fs b)
unfolding next field_bytes if◌then◌otherwise◌
next_field P t m fs b ok = go (bit m b) refl
  where
    go : (x : Bool) → bit m b ≡ x → next (P ++ (field_bytes m fs b ++ t)) m b (length P) ≡ length P + length (field_bytes m fs b)
    go true e = rw e (ap (λ (n : ℕ). length P + n) (extent_encoded P (fs b) t b (ok e)))
    go false e = rw e (omega arith)

-- field b, and what comes after it
pub split : (m : ℕ) (fs : ℕ → List ℕ) (b n : ℕ) → b < n → (t : List ℕ) × (body m fs n ≡ body m fs b ++ (field_bytes m fs b ++ t))
unfolding body
split m fs b =
    le_ind (λ (n : ℕ). (t : List ℕ) × (body m fs n ≡ body m fs b ++ (field_bytes m fs b ++ t))) ([], simp append-nil)
    (λ n h p. (p.0 ++ field_bytes m fs n, rw p.1 (simp append_assoc)))

pub body_room : (m : ℕ) (fs : ℕ → List ℕ) (b n : ℕ) → b < n → length (body m fs b) + length (field_bytes m fs b) ≤ length (body m fs n)
body_room m fs b n h = let w = split m fs b n h in rw w.1 (simp length-append (omega arith))

module _ (o m : ℕ) (fs : ℕ → List ℕ) (H : List ℕ) (at : length H ≡ o + 5) (ok : (b : ℕ) → bit m b ≡ true → Fits b (fs b)) where
  -- the fields below b lie before field b
  pub start_at : (b : ℕ) (t : List ℕ) → start (H ++ (body m fs b ++ t)) o m b ≡ length (H ++ body m fs b)
  unfolding start body
  start_at zero t = simp append-nil (sym at)
  start_at (suc b) t =
      let f = field_bytes m fs b in
      let P = H ++ body m fs b in
      let e : H ++ ((body m fs b ++ f) ++ t) ≡ P ++ (f ++ t) = simp append_assoc in
      let i : start (P ++ (f ++ t)) o m b ≡ length P = rw append_assoc (start_at b (f ++ t)) in
      ap (λ (s : List ℕ). start s o m (suc b)) e ∙ rw i (next_field P t m fs b (ok b) ∙ simp length-append (omega arith))

  -- each field is read as it was written
  pub part_back : (b n : ℕ) → b < n → (post : List ℕ) → part (H ++ (body m fs n ++ post)) o m b ≡ field_bytes m fs b
  unfolding part body span
  part_back b n h post =
      let f = field_bytes m fs b in
      let P = H ++ body m fs b in
      let w = split m fs b n h in
      let t = w.0 ++ post in
      let e : H ++ (body m fs n ++ post) ≡ P ++ (f ++ t) = rw w.1 (simp append_assoc) in
      let x : start (P ++ (f ++ t)) o m b ≡ length P = rw append_assoc (start_at b (f ++ t)) in
      let y : start (P ++ (f ++ t)) o m (suc b) ≡ length P + length f =
      rw (append_assoc, ← append_assoc (body m fs b) f t) (start_at (suc b) t ∙ simp length-append (omega arith)) in
      let z : length P + length f - length P ≡ length f = omega arith in
      rw (e, x, y, z, drop-append_seam P (f ++ t)) (take-append_seam f t)

  -- what a field that stands held is read
  pub content_back : (b n : ℕ) → b < n → (post : List ℕ) → bit m b ≡ true → content (H ++ (body m fs n ++ post)) o m b ≡ fs b
  unfolding content strip field_bytes encode if◌then◌otherwise◌
  content_back b n h post e = rw (part_back b n h post, e) (go (is_text_bit b) refl)
    where
      go : (x : Bool) → is_text_bit b ≡ x → strip b (encode b (fs b)) ≡ fs b
      go true t = rw t refl
      go false t = rw t refl

-- fields that were read, written again, are what stands there
pub body_part : (s : List ℕ) (o m : ℕ) (fs : ℕ → List ℕ) (n : ℕ) → ((b : ℕ) → b < n → field_bytes m fs b ≡ part s o m b)
    → body m fs n ≡ span s (o + 5) (start s o m n - (o + 5))
unfolding body start part
body_part s o m fs zero h = let z : o + 5 - (o + 5) ≡ 0 = omega arith in rw z (sym (span_none s (o + 5)))
body_part s o m fs (suc n) h =
    let a : ℕ = o + 5 in
    let p : ℕ = start s o m n in
    let q : ℕ = start s o m (suc n) in
    let u : a ≤ p = start_up s o m 0 n (omega arith) in
    let v : p ≤ q = start_up s o m n (suc n) (omega arith) in
    let x : a + (p - a) ≡ p = omega arith in
    let y : (p - a) + (q - p) ≡ q - a = omega arith in
    rw (body_part s o m fs n (λ b l. h b (omega arith)), h n (omega arith))
    (ap (λ (k : ℕ). span s a (p - a) ++ span s k (q - p)) (sym x) ∙ span_join s a (p - a) (q - p) ∙ ap (span s a) y)
