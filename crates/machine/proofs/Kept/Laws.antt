-- Laws of tests and of texts that the proofs of the machine share. Rests on prelude and Ranges.
use Rattle.std.proofs.Common.{ℕ, ◌≤◌, ◌<◌, arith, ◌≡◌, refl, sym, subst, ◌∙◌, Bool, true, false, ◌&&◌, ◌||◌, eqb, leb, ltb, get_or, eqb-true, eq-eqb, leb-true, le-leb}
use Rattle.std.proofs.lemmas.Bool.{and_parts, and_from}
use Rattle.prelude.specs.Below.{all_below}
use Rattle.prelude.specs.Laws.Below.{all_elim, all_intro}
use Rattle.prelude.specs.Texts.{is_text, same_text, filled_at, agree_at}
use Rattle.prelude.specs.Laws.Texts.{same_length}
use Rattle.prelude.specs.declared.Text.{Text}
use Rattle.format.specs.Codes.{within, is_name}
use Rattle.machine.specs.Ranges.{text_within, name_range}

-- ---- tests

pub or_map : (a b : Bool) {c d : Bool} → (a ≡ true → c ≡ true) → (b ≡ true → d ≡ true) → a || b ≡ true → c || d ≡ true
or_map a b f g e = grind arith

-- the first is false, so the other holds
pub or_else : (a b : Bool) → a ≡ false → a || b ≡ true → b ≡ true
or_else a b p e = grind arith

-- the first holds, so the other is false
pub and_else : (a b : Bool) → a ≡ true → a && b ≡ false → b ≡ false
and_else a b p e = grind arith

pub and_tail : (a b c : Bool) → b && c ≡ false → a && b && c ≡ false
and_tail a b c p = grind arith

pub decide : {A : Type 0} (a : Bool) → (a ≡ true → A) → (a ≡ false → A) → A
decide true f g = f refl
decide false f g = g refl

-- ---- texts

-- the parts of a text's range
pub record TextKept (low high : ℕ) (t : Text) : Type 0 where
  pub stored : is_text t ≡ true
  pub above : low ≤ t.len
  pub below : t.len ≤ high

pub text_kept : (low high : ℕ) (t : Text) → text_within low high t ≡ true → TextKept low high t
unfolding text_within
text_kept low high t e =
    let (e, r3) = and_parts (is_text t && leb low t.len) (leb t.len high) e in let (r1, r2) = and_parts (is_text t) (leb low t.len) e in
    record { stored = r1; above = leb-true low t.len r2; below = leb-true t.len high r3 }

pub kept_text : (low high : ℕ) (t : Text) → TextKept low high t → text_within low high t ≡ true
unfolding text_within
kept_text low high t k = and_from _ _ (and_from _ _ k.stored (le-leb low t.len k.above)) (le-leb t.len high k.below)

-- and of a name's
name_kept : (t : Text) → name_range t ≡ true → TextKept 1 20 t
unfolding name_range is_name
name_kept t e =
    let (x, y) = and_parts (is_text t) _ e in
    let (w, z) = and_parts (within 1 20 t.len) _ y in
    let (low, high) = and_parts (leb 1 t.len) (leb t.len 20) w in
    record { stored = x; above = leb-true 1 t.len low; below = leb-true t.len 20 high }

pub name_short : (t : Text) → name_range t ≡ true → t.len ≤ 20
name_short t e = (name_kept t e).below

pub name_within : (t : Text) → name_range t ≡ true → text_within 1 32 t ≡ true
name_within t e =
    let k : TextKept 1 20 t = name_kept t e in kept_text 1 32 t (record { stored = k.stored; above = k.above; below = omega (arith, k.below) })

-- byte k of a stored text is within it or zero
pub filled_at_lem : (t : Text) → is_text t ≡ true → (k : ℕ) → k < 32 → filled_at t k ≡ true
unfolding is_text
filled_at_lem t e = all_elim (filled_at t) 32 (and_parts (leb t.len 32) (all_below (filled_at t) 32) e).1

-- a text that is the same as one within bounds is within them
pub same_within : (low high : ℕ) (a b : Text) → same_text a b ≡ true → text_within low high b ≡ true → text_within low high a ≡ true
unfolding same_text
same_within low high a b e w =
    let s = (and_parts (eqb a.len b.len) (all_below (agree_at a.bytes b.bytes) 32) e).1 in
    let n : a.len ≡ b.len = same_length a b e in
    let t : TextKept low high b = text_kept low high b w in
    kept_text low high a (record { stored = stored s n t.stored; above = omega (arith, t.above); below = omega (arith, t.below) })
  where
    stored : all_below (agree_at a.bytes b.bytes) 32 ≡ true → a.len ≡ b.len → is_text b ≡ true → is_text a ≡ true
    stored s n t = unfold is_text in
        and_from _ _ (subst (λ (m : ℕ). leb m 32 ≡ true) (sym n) (and_parts (leb b.len 32) (all_below (filled_at b) 32) t).0)
        (all_intro (filled_at a) 32 (λ k h.
        or_map (ltb k b.len) (eqb (get_or b.bytes k 0) 0) (λ p. subst (λ (m : ℕ). ltb k m ≡ true) (sym n) p)
        (λ p. eq-eqb (get_or a.bytes k 0) 0
        (eqb-true (get_or a.bytes k 0) (get_or b.bytes k 0) (all_elim (agree_at a.bytes b.bytes) 32 s k h) ∙ eqb-true (get_or b.bytes k 0) 0 p))
        (filled_at_lem b t k h)))
