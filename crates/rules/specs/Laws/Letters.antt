-- An order's texts as they are decided: the letters and digits of its name counted, and the lengths of the others. Rests on format.
use Rattle.std.specs.Prelude.{◌≡◌, ℕ, zero, suc, ◌+◌, ◌<◌, ◌≤◌, ◌%◌, Bool, true, false, ◌&&◌, ◌==◌, nat_le, nat_lt, slice_index, refl}
use Rattle.std.proofs.Common.{sym, ap, ◌∙◌, arith, eqb-true, eq-eqb, le-ltb, lt-ltb, le-leb, ltb-true, leb-true}
use Rattle.std.proofs.lemmas.Bool.{and_parts, and_from}
use Rattle.std.specs.Cmp.{both_ways}
use Rattle.prelude.specs.Below.{all_below, count_below}
use Rattle.prelude.specs.Laws.Below.{all_elim, count_le, count_past}
use Rattle.prelude.specs.Cases.{if◌then◌otherwise◌}
use Rattle.prelude.specs.Texts.{filled_at, is_text}
use Rattle.prelude.specs.declared.Text.{Text}
use Rattle.std.specs.Int.Bits.{bit_or}
use Rattle.std.proofs.lemmas.Nat.{le_or_l, le_or_r, or_lt}
use Rattle.std.proofs.Math.Bool.{and-true, and_assoc}
use Rattle.format.specs.Codes.{is_alnum, alnum_at}
use Rattle.store.specs.declared.Names.{Names}
use Rattle.machine.specs.Ranges.{text_within}

-- a test that all numbers below n pass is passed by n of them
module _ (p : ℕ → Bool) where
  full_all : (n : ℕ) → count_below p n ≡ n → all_below p n ≡ true
  unfolding count_below all_below
  full_all zero e = refl
  full_all (suc n) e = go (full_all n) (p n) refl e
    where
      go : (count_below p n ≡ n → all_below p n ≡ true) → (v : Bool) → p n ≡ v → count_below p n + (if v then 1 otherwise 0) ≡ suc n → all_below p n && p n ≡ true
      go h true f g = unfold if◌then◌otherwise◌ in and_from _ _ (h (omega arith)) f
      go h false f g = unfold if◌then◌otherwise◌ in absurd (omega (arith, count_le p n))

  all_full : (n : ℕ) → all_below p n ≡ true → count_below p n ≡ n
  unfolding count_below all_below if◌then◌otherwise◌
  all_full zero e = refl
  all_full (suc n) e =
      let s = and_parts (all_below p n) (p n) e in
      rw s.1 (omega (arith, all_full n s.0))

  count_all : (n : ℕ) → (count_below p n == n) ≡ all_below p n
  count_all n = both_ways (count_below p n == n) (all_below p n) (λ e. full_all n (eqb-true _ _ e)) (λ e. eq-eqb _ _ (all_full n e))

module _ (t : Text) where
  -- a byte behind the text is no letter
  behind : is_text t ≡ true → (k : ℕ) → t.len ≤ k → k < 32 → alnum_at t k ≡ false
  unfolding is_text is_alnum
  behind e k a b =
      let z : slice_index t.bytes k ≡ 0 =
      eqb-true _ _ (rw (le-ltb k t.len a) at (all_elim (filled_at t) 32 (and_parts (nat_le t.len 32) (all_below (filled_at t) 32) e).1 k b)) in
      rw z

  -- THE LAW of a text whose letters and digits are counted, from its start to its end or to a place behind it
  pub letters_counted : (n m : ℕ) → is_text t ≡ true → t.len ≡ n → n ≤ m → m ≤ 32 → (count_below (alnum_at t) m == n) ≡ all_below (alnum_at t) n
  letters_counted n m e d l h =
      ap (λ (c : ℕ). c == n) (count_past (alnum_at t) n m l (λ k a b. behind e k (omega arith) (omega arith))) ∙ count_all (alnum_at t) n

-- ---- the other texts

-- three lengths are 1 to 16, a fourth at most 16
abbrev pub shorts : (a b c d : ℕ) → Bool
shorts a b c d = (nat_le 1 a && nat_le a 16) && (nat_le 1 b && nat_le b 16) && (nat_le 1 c && nat_le c 16) && nat_le d 16

-- a length less one, as a byte, is below 16
short_one : (a : ℕ) → a < 256 → nat_lt ((a + 255) % 256) 16 ≡ nat_le 1 a && nat_le a 16
short_one a h =
    both_ways (nat_lt ((a + 255) % 256) 16) (nat_le 1 a && nat_le a 16)
    (λ e. let u : (a + 255) % 256 < 16 = ltb-true _ _ e in and_from _ _ (le-leb 1 a (omega arith)) (le-leb a 16 (omega arith)))
    (λ e. let s = and_parts (nat_le 1 a) (nat_le a 16) e in let u : 1 ≤ a = leb-true _ _ s.0 in let v : a ≤ 16 = leb-true _ _ s.1 in lt-ltb _ _ (omega arith))

-- bytes below 16, gathered
or_short : (a b : ℕ) → nat_lt (bit_or a b) 16 ≡ nat_lt a 16 && nat_lt b 16
or_short a b =
    both_ways (nat_lt (bit_or a b) 16) (nat_lt a 16 && nat_lt b 16)
    (λ e. let u : bit_or a b < 16 = ltb-true _ _ e in and_from _ _ (lt-ltb a 16 (omega (arith, le_or_l a b))) (lt-ltb b 16 (omega (arith, le_or_r a b))))
    (λ e. let s = and_parts (nat_lt a 16) (nat_lt b 16) e in let u : bit_or a b < 16 = or_lt 4 a b (ltb-true _ _ s.0) (ltb-true _ _ s.1) in lt-ltb _ _ u)

pub shorts_gathered : (a b c d : ℕ) → a < 256 → b < 256 → c < 256
    → nat_lt (bit_or (bit_or ((a + 255) % 256) ((b + 255) % 256)) ((c + 255) % 256)) 16 && nat_le d 16 ≡ shorts a b c d
shorts_gathered a b c d ha hb hc = rw (or_short, or_short, short_one a ha, short_one b hb, short_one c hc)

unfoldable pub texts_range : Names → Bool
texts_range n = text_within 1 32 n.clordid && text_within 1 32 n.downstream && text_within 1 16 n.symbol && text_within 0 32 n.venueorderid

-- a text of a length in range is in range if it is a text
within_short : (t : Text) (low high : ℕ) → low ≤ t.len → t.len ≤ high → is_text t ≡ text_within low high t
unfolding text_within
within_short t low high l h = rw (le-leb low t.len l, le-leb t.len high h, and-true, and-true) refl

pub record Shorts (a b c d : ℕ) : Type 0 where
  pub first : (1 ≤ a) × (a ≤ 16)
  pub second : (1 ≤ b) × (b ≤ 16)
  pub third : (1 ≤ c) × (c ≤ 16)
  pub fourth : d ≤ 16

pub shorts_each : (a b c d : ℕ) → shorts a b c d ≡ true → Shorts a b c d
shorts_each a b c d e =
    let s = and_parts ((nat_le 1 a && nat_le a 16) && (nat_le 1 b && nat_le b 16) && (nat_le 1 c && nat_le c 16)) (nat_le d 16) e in
    let t = and_parts ((nat_le 1 a && nat_le a 16) && (nat_le 1 b && nat_le b 16)) (nat_le 1 c && nat_le c 16) s.0 in
    let u = and_parts (nat_le 1 a && nat_le a 16) (nat_le 1 b && nat_le b 16) t.0 in
    let x = and_parts (nat_le 1 a) (nat_le a 16) u.0 in
    let y = and_parts (nat_le 1 b) (nat_le b 16) u.1 in
    let z = and_parts (nat_le 1 c) (nat_le c 16) t.1 in
    record {
      first = (leb-true _ _ x.0, leb-true _ _ x.1);
      second = (leb-true _ _ y.0, leb-true _ _ y.1);
      third = (leb-true _ _ z.0, leb-true _ _ z.1);
      fourth = leb-true _ _ s.1;
    }

-- THE LAW of texts that are short: they are in range if they are texts
pub texts_short : (n : Names) → shorts n.clordid.len n.downstream.len n.symbol.len n.venueorderid.len ≡ true
    → (is_text n.clordid && is_text n.downstream) && (is_text n.symbol && is_text n.venueorderid) ≡ texts_range n
unfolding texts_range
texts_short n e =
    let s = shorts_each n.clordid.len n.downstream.len n.symbol.len n.venueorderid.len e in
    rw (
      within_short n.clordid 1 32 s.first.0 (omega (arith, s.first.1)),
      within_short n.downstream 1 32 s.second.0 (omega (arith, s.second.1)),
      within_short n.symbol 1 16 s.third.0 s.third.1,
      within_short n.venueorderid 0 32 (omega arith) (omega (arith, s.fourth)),
    ) (sym (and_assoc (text_within 1 32 n.clordid && text_within 1 32 n.downstream) (text_within 1 16 n.symbol) (text_within 0 32 n.venueorderid)))
