-- The texts of a message, one by one: the writer's question asks whether FIX can carry every one of them. Rests on Claims.
use Rattle.std.specs.Prelude.{ℕ, zero, suc, ◌<◌, ◌≡◌, Bool, not, ◌&&◌, ◌||◌, eqb, leb, ltb, length, get_or, None, Some, refl, List, [], ◌∷◌, true, false}
use Rattle.std.proofs.Common.{ap, sym, ◌∙◌, inl, arith, eqb-true, leb-true, leb-false, ltb-true, inr, ⊎_elim}
use Rattle.std.proofs.lemmas.Bool.{not-true, and_parts, or_cases}
use Rattle.prelude.specs.Laws.Cases.{if_true, if_false, clash}
use Rattle.prelude.specs.Below.{all_below}
use Rattle.prelude.specs.Laws.Below.{all_elim}
use Rattle.bits.specs.Map.{bit}
use Rattle.format.specs.Codes.{listed}
use Rattle.format.specs.Format.{size, fields, is_text_bit}
use Rattle.format.specs.Places.{content, map_at}
use Rattle.fix_words.specs.Lists.{every, is_print}
use Rattle.fix_words.specs.Laws.Lists.{every_below}
use Rattle.fix_words.specs.Message.{is_text, text_at, texted}
use Rattle.fix_words.specs.Record.{field_at, Session, writing_of}
use Rattle.fix_words.specs.Carried.{texts, stands, held}
use Rattle.fix_claims.specs.Claims.{TextOf, Clean, Unclean}

-- ---- one text

low_byte : (c : List ℕ) → every is_print c ≡ false → (k : ℕ) × (k < length c) × (get_or c k 0 < 32)
low_byte [] e = clash true refl e
low_byte (x ∷ c) e = go (low_byte c) (leb 32 x) refl
  where
    go : (every is_print c ≡ false → (k : ℕ) × (k < length c) × (get_or c k 0 < 32)) → (y : Bool) → leb 32 x ≡ y → (k : ℕ) × (k < length (x ∷ c)) × (get_or (x ∷ c) k 0 < 32)
    go later true q = let h = later (rw q at e) in (suc h.0, omega (arith, h.1), h.2)
    go later false q = (0, omega arith, leb-false 32 x q)

pub text_clean : (t : List ℕ) → is_text t ≡ true → Clean t
text_clean [] e = clash false e refl
text_clean (x ∷ t) e = record { some = omega arith; high = λ k h. leb-true 32 (get_or (x ∷ t) k 0) (every_below is_print (x ∷ t) e k h) }

pub text_unclean : (t : List ℕ) → is_text t ≡ false → Unclean t
text_unclean [] e = inl refl
text_unclean (x ∷ t) e = inr (low_byte (x ∷ t) e)

pub not_both : (t : List ℕ) → Clean t → Unclean t → ⊥
not_both t c (inl e) = omega (arith, c.some, e)
not_both t c (inr (k, h, l)) = omega (arith, c.high k h, l)

-- ---- the bits of texts

abbrev is_one : ℕ → Bool
is_one b = ltb b 32 && is_text_bit b

all_one : every is_one texts ≡ true
unfolding size fields
all_one = refl

abbrev is_listed : ℕ → Bool
is_listed b = not (is_text_bit b) || listed b texts

all_listed : all_below is_listed 32 ≡ true
unfolding size fields all_below
all_listed = refl

in_list : (p : ℕ → Bool) (l : List ℕ) (b : ℕ) → every p l ≡ true → listed b l ≡ true → p b ≡ true
in_list p [] b e h = clash false h refl
in_list p (c ∷ l) b e h =
    let s = and_parts (p c) (every p l) e in
    ⊎_elim (λ q. ap p (eqb-true b c q) ∙ s.0) (λ q. in_list p l b s.1 q) (or_cases (eqb b c) (listed b l) h)

text_bit : (b : ℕ) → listed b texts ≡ true → (b < 32) × (is_text_bit b ≡ true)
text_bit b h = let s = and_parts (ltb b 32) (is_text_bit b) (in_list is_one texts b all_one h) in (ltb-true b 32 s.0, s.1)

bit_text : (b : ℕ) → b < 32 → is_text_bit b ≡ true → listed b texts ≡ true
bit_text b h e = ⊎_elim (λ q. clash (is_text_bit b) e (not-true _ q)) (λ q. q) (or_cases (not (is_text_bit b)) (listed b texts) (all_elim is_listed 32 all_listed b h))

-- ---- the first of n that fails

fails : (p : ℕ → Bool) (n : ℕ) → all_below p n ≡ false → (k : ℕ) × (k < n) × (p k ≡ false)
unfolding all_below
fails p zero e = clash true refl e
fails p (suc n) e = go (fails p n) (all_below p n) refl
  where
    go : (all_below p n ≡ false → (k : ℕ) × (k < n) × (p k ≡ false)) → (y : Bool) → all_below p n ≡ y → (k : ℕ) × (k < suc n) × (p k ≡ false)
    go before true q = (n, omega arith, rw q at e)
    go before false q = let h = before q in (h.0, omega (arith, h.1), h.2)

-- ---- all texts of a message

module _ (s : List ℕ) (n : Session) where
  abbrev asks : ℕ → Bool
  asks b = text_at b (field_at s b)

  abbrev each : Bool
  each = is_text n.sender && (is_text n.target && (is_text n.time && all_below asks 32))

  field_there : (b : ℕ) → stands s b ≡ true → asks b ≡ (not (is_text_bit b) || is_text (held s b))
  unfolding field_at
  field_there b e = ap (text_at b) (if_true (bit (map_at s 0) b) (Some (content s 0 (map_at s 0) b)) None e)

  field_absent : (b : ℕ) → stands s b ≡ false → asks b ≡ true
  unfolding field_at
  field_absent b e = ap (text_at b) (if_false (bit (map_at s 0) b) (Some (content s 0 (map_at s 0) b)) None e)

  pub all_clean : texted (writing_of s n) ≡ true → (t : List ℕ) → TextOf s n t → Clean t
  unfolding texted
  all_clean e t is =
      let a = and_parts (is_text n.sender) (is_text n.target && (is_text n.time && all_below asks 32)) e in
      let b = and_parts (is_text n.target) (is_text n.time && all_below asks 32) a.1 in
      let c = and_parts (is_text n.time) (all_below asks 32) b.1 in
      go a.0 b.0 c.0 c.1 is
    where
      go : is_text n.sender ≡ true → is_text n.target ≡ true → is_text n.time ≡ true → all_below asks 32 ≡ true → TextOf s n t → Clean t
      go a b c d (inl q) = text_clean t (ap is_text q ∙ a)
      go a b c d (inr (inl q)) = text_clean t (ap is_text q ∙ b)
      go a b c d (inr (inr (inl q))) = text_clean t (ap is_text q ∙ c)
      go a b c d (inr (inr (inr (k, l, e, q)))) =
          let w = text_bit k l in
          ⊎_elim (λ z. clash (is_text_bit k) w.1 (not-true _ z)) (λ z. text_clean t (ap is_text q ∙ z))
          (or_cases (not (is_text_bit k)) (is_text (held s k)) (sym (field_there k e) ∙ all_elim asks 32 d k w.0))

  pub one_unclean : texted (writing_of s n) ≡ false → (t : List ℕ) × TextOf s n t × Unclean t
  unfolding texted
  one_unclean e = first (is_text n.sender) refl
    where
      in_record : all_below asks 32 ≡ false → (t : List ℕ) × TextOf s n t × Unclean t
      in_record f = let h = fails asks 32 f in at h.0 h.1 h.2 (stands s h.0) refl (is_text_bit h.0) refl
        where
          at : (b : ℕ) → b < 32 → asks b ≡ false → (x : Bool) → stands s b ≡ x → (y : Bool) → is_text_bit b ≡ y → (t : List ℕ) × TextOf s n t × Unclean t
          at b h z false q y w = clash (asks b) (field_absent b q) z
          at b h z true q false w = clash (asks b) (field_there b q ∙ rw w refl) z
          at b h z true q true w =
              let f : is_text (held s b) ≡ false = rw w at (sym (field_there b q) ∙ z) in
              (held s b, inr (inr (inr (b, bit_text b h w, q, refl))), text_unclean (held s b) f)

      third : is_text n.sender ≡ true → is_text n.target ≡ true → (x : Bool) → is_text n.time ≡ x → (t : List ℕ) × TextOf s n t × Unclean t
      third a b true c = in_record (rw (a, b, c) at e)
      third a b false c = (n.time, inr (inr (inl refl)), text_unclean n.time c)

      second : is_text n.sender ≡ true → (x : Bool) → is_text n.target ≡ x → (t : List ℕ) × TextOf s n t × Unclean t
      second a true b = third a b (is_text n.time) refl
      second a false b = (n.target, inr (inl refl), text_unclean n.target b)

      first : (x : Bool) → is_text n.sender ≡ x → (t : List ℕ) × TextOf s n t × Unclean t
      first true a = second a (is_text n.target) refl
      first false a = (n.sender, inl refl, text_unclean n.sender a)
