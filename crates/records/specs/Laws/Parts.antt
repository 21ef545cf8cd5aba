-- Laws by which what code finds of a message in place is what Parts says. Rests on Parts and Reading.
use Rattle.std.specs.Prelude.{ℕ, ◌≤◌, ◌<◌, ◌≡◌, List, true, false, length, refl}
use Rattle.std.proofs.Common.{sym, ◌∙◌, le-leb, eq-eqb, ne_eqb}
use Rattle.std.proofs.lemmas.Bool.{lt-leb}
use Rattle.prelude.specs.Cases.{if◌then◌otherwise◌}
use Rattle.format.specs.Places.{kind_at, end_of, shaped}
use Rattle.format.specs.Refusal.{message_shaped, ranged}
use Rattle.records.specs.declared.parts.Parts.{Parts}
use Rattle.records.specs.Parts.{whole_message, parts_refusal, PartsOf}

module _ (s : List ℕ) where
  pub refusal_3 : whole_message s ≡ false → parts_refusal s ≡ 3
  unfolding if◌then◌otherwise◌
  refusal_3 h = rw h refl

  pub refusal_4 : whole_message s ≡ true → ranged s 0 ≡ false → parts_refusal s ≡ 4
  unfolding if◌then◌otherwise◌
  refusal_4 h g = rw (h, g) refl

  pub refusal_0 : whole_message s ≡ true → ranged s 0 ≡ true → parts_refusal s ≡ 0
  unfolding if◌then◌otherwise◌
  refusal_0 h g = rw (h, g) refl

  -- a slice that is refused has no parts
  pub refused_no_parts : (n : ℕ) (r : Parts) → parts_refusal s ≡ n → (n ≡ 0 → ⊥) → PartsOf s r → ⊥
  refused_no_parts n r e z p = z (sym e ∙ p.taken)

  -- when it is no message
  pub no_shape : shaped s 0 ≡ false → whole_message s ≡ false
  unfolding whole_message message_shaped
  no_shape h = rw h refl

  pub no_kind : shaped s 0 ≡ true → kind_at s 0 < 16 → whole_message s ≡ false
  unfolding whole_message message_shaped
  no_kind h k = rw (h, lt-leb 16 (kind_at s 0) k) refl

  pub no_end : shaped s 0 ≡ true → 16 ≤ kind_at s 0 → (end_of s 0 ≡ length s → ⊥) → whole_message s ≡ false
  unfolding whole_message message_shaped
  no_end h k n = rw (h, le-leb 16 (kind_at s 0) k, ne_eqb (end_of s 0) (length s) n) refl

  pub is_whole_lem : shaped s 0 ≡ true → 16 ≤ kind_at s 0 → end_of s 0 ≡ length s → whole_message s ≡ true
  unfolding whole_message message_shaped
  is_whole_lem h k e = rw (h, le-leb 16 (kind_at s 0) k, eq-eqb (end_of s 0) (length s) e) refl

  -- the same by a message's shape
  pub no_message : message_shaped s 0 ≡ false → whole_message s ≡ false
  unfolding whole_message
  no_message h = rw h refl

  pub message_over : message_shaped s 0 ≡ true → (end_of s 0 ≡ length s → ⊥) → whole_message s ≡ false
  unfolding whole_message
  message_over h n = rw (h, ne_eqb (end_of s 0) (length s) n) refl

  pub message_whole : message_shaped s 0 ≡ true → end_of s 0 ≡ length s → whole_message s ≡ true
  unfolding whole_message
  message_whole h e = rw (h, eq-eqb (end_of s 0) (length s) e) refl
