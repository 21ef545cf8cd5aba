-- Things spread over cells by a function of what they are: those in other cells are others. Laws for any such function,
-- and for a loop that notes each thing's cell in a map of bits, and lists it. Rests on prelude and bits' Map.
use Rattle.std.specs.Prelude.{◌≡◌, ℕ, ◌+◌, ◌/◌, ◌%◌, ◌^◌, ◌<◌, ◌≤◌, max, Bool, true, false, not, List, length, ◌≢◌, bit_or, slice_index, slice_set, refl}
use Rattle.std.proofs.Common.{sym, ap, ◌∙◌, eq-or-lt_of_le, zero-lt-suc, pow_pos, eqb-true, eq-eqb, get_or-set_same, get_or-set_other, ⊎_elim, mod-lt, arith}
use Rattle.std.proofs.Math.Decide.{ℕ_discrete}
use Rattle.std.proofs.Math.Nat.{div_self}
use Rattle.std.proofs.lemmas.Nat.{or_shr}
use Rattle.std.specs.Int.Bits.{or_step}
use Rattle.prelude.specs.Below.{all_below}
use Rattle.prelude.specs.Laws.Below.{all_intro}
use Rattle.bits.specs.Map.{bit, digit, with_bit}
use Rattle.bits.specs.Laws.Map.{or_one}

-- ---- a map of bits over words of 32

-- the bit of a cell stands
unfoldable pub stands : List ℕ → ℕ → Bool
stands seen c = bit (slice_index seen (c / 32)) (c % 32)

-- the map with the bit of a cell
abbrev pub noted : List ℕ → ℕ → List ℕ
noted seen c = slice_set seen (c / 32) (with_bit (slice_index seen (c / 32)) (c % 32))

digit_two : (m k : ℕ) → digit m k < 2
digit_two m k = mod-lt (m / 2 ^ k) (zero-lt-suc 1)

digit_or : (m n k : ℕ) → digit (bit_or m n) k ≡ max (digit m k) (digit n k)
digit_or m n k = rw (or_shr m n k, or_step (m / 2 ^ k) (n / 2 ^ k)) (omega (arith, digit_two m k, digit_two n k))

digit_with : (m k q : ℕ) → k < 32 → digit (with_bit m k) q ≡ max (digit m q) (digit (2 ^ k) q)
digit_with m k q h = ap (λ (x : ℕ). digit x q) (sym (or_one m k h)) ∙ digit_or m (2 ^ k) q

-- a bit that stood still stands, and the new one does
bit_kept : (m k q : ℕ) → k < 32 → bit m q ≡ true → bit (with_bit m k) q ≡ true
bit_kept m k q h e =
    let d : digit m q ≡ 1 = eqb-true (digit m q) 1 e in
    eq-eqb (digit (with_bit m k) q) 1 (digit_with m k q h ∙ omega (arith, digit_two (2 ^ k) q))

bit_new : (m k : ℕ) → k < 32 → bit (with_bit m k) k ≡ true
bit_new m k h =
    let d : digit (2 ^ k) k ≡ 1 = ap (λ (x : ℕ). x % 2) (div_self (pow_pos k)) in
    eq-eqb (digit (with_bit m k) k) 1 (digit_with m k k h ∙ omega (arith, digit_two m k))

-- the cells of the things below i are noted in the map
pub record Noted (cell : ℕ → ℕ) (seen : List ℕ) (i : ℕ) : Type 0 where
  pub stand : (j : ℕ) → j < i → stands seen (cell j) ≡ true

module _ (cell : ℕ → ℕ) where
  pub other : (i j : ℕ) (v : Bool) → (v ≡ true → cell i ≡ cell j) → (cell i ≢ cell j) → v ≡ false
  other i j false h d = refl
  other i j true h d = absurd (d (h refl))

  -- nothing before i is in its cell, so i is apart from all before it
  pub fresh : (same : ℕ → Bool) (i : ℕ) → ((j : ℕ) → j < i → same j ≡ true → cell i ≡ cell j) → ((j : ℕ) → j < i → cell j ≢ cell i)
      → all_below (λ j. not (same j)) i ≡ true
  fresh same i s d = all_intro (λ j. not (same j)) i (λ j h. ap not (other i j (same j) (s j h) (λ e. d j h (sym e))))

  -- one more cell noted
  pub noted_more : (seen : List ℕ) (i h : ℕ) → h / 32 < length seen → h ≡ cell i → Noted cell seen i → Noted cell (noted seen h) (i + 1)
  unfolding stands
  noted_more seen i h l e m = record {
    stand = λ j u.
        ⊎_elim
        (λ q. ap (stands (noted seen h)) (ap cell q ∙ sym e) ∙ new)
        (λ q. keep (cell j) (ℕ_discrete (h / 32) (cell j / 32)) (m.stand j q))
        (eq-or-lt_of_le (let g : j ≤ i = omega arith in g));
  }
    where
      low : h % 32 < 32
      low = mod-lt h (zero-lt-suc 31)

      new : stands (noted seen h) h ≡ true
      new = rw (get_or-set_same seen (h / 32) (with_bit (slice_index seen (h / 32)) (h % 32)) 0 l) (bit_new (slice_index seen (h / 32)) (h % 32) low)

      keep : (c : ℕ) → Dec (h / 32 ≡ c / 32) → stands seen c ≡ true → stands (noted seen h) c ≡ true
      keep c (yes q) g =
          let o : bit (slice_index seen (h / 32)) (c % 32) ≡ true = rw q g in
          rw (← q, get_or-set_same seen (h / 32) (with_bit (slice_index seen (h / 32)) (h % 32)) 0 l) (bit_kept (slice_index seen (h / 32)) (h % 32) (c % 32) low o)
      keep c (no q) g = rw (get_or-set_other seen (h / 32) (c / 32) (with_bit (slice_index seen (h / 32)) (h % 32)) 0 (λ w. q (sym w))) g

  -- one more cell listed
  pub cells_more : (cells : List ℕ) (i h : ℕ) → i < length cells → h ≡ cell i → ((j : ℕ) → j < i → slice_index cells j ≡ cell j)
      → (j : ℕ) → j < i + 1 → slice_index (slice_set cells i h) j ≡ cell j
  cells_more cells i h l e m j u =
      ⊎_elim
      (λ q. ap (λ (x : ℕ). slice_index (slice_set cells i h) x) q ∙ get_or-set_same cells i h 0 l ∙ e ∙ ap cell (sym q))
      (λ q. get_or-set_other cells i j h 0 (λ w. omega arith) ∙ m j q)
      (eq-or-lt_of_le (let g : j ≤ i = omega arith in g))
