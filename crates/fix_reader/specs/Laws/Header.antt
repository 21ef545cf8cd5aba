-- The header's questions in the order of the code. Rests on Checks, Classes,
-- Cut and Taking.
use Rattle.std.specs.Prelude.{◌≡◌, ℕ, ◌≤◌, Bool, true, false, not, ◌&&◌, leb, ltb, ◌⊎◌, List, [], ◌∷◌, length, ◌==◌, ◌≢◌, nat_le, nat_lt, slice_index, Option, None, Some, refl}
use Rattle.std.proofs.Common.{sym, ◌∙◌, inl, inr, ⊎_elim, arith, eqb-true, eq-eqb, ne_eqb, leb-true, le-leb, ap}
use Rattle.std.proofs.Math.Bool.{and-false}
use Rattle.std.proofs.Math.Decide.{ℕ_discrete}
use Rattle.std.proofs.lemmas.Bool.{and_parts}
use Rattle.std.proofs.lemmas.Bool.Decides.{nat_tests}
use Rattle.prelude.specs.Cases.{if◌then◌otherwise◌}
use Rattle.prelude.specs.Laws.Cases.{if_false, none_some, same_some}
use Rattle.format.specs.Codes.{within}
use Rattle.fix_words.specs.Lists.{same}
use Rattle.fix_words.specs.Spelling.{Field, fields_in}
use Rattle.fix_words.specs.Values.{types, type_of, kind_of}
use Rattle.fix_words.specs.Message.{version, is_text, value_at}
use Rattle.fix_words.specs.Laws.Lists.{same_self}
use Rattle.fix_words.specs.Laws.Held.{one_byte}
use Rattle.fix_claims.specs.declared.FixFields.{FixFields}
use Rattle.fix_claims.specs.Reading.{tag_of}
use Rattle.fix_table.specs.Table.{kind_for}
use Rattle.fix_reader.specs.declared.walk.MessageKind.{MessageKind}
use Rattle.fix_reader.specs.Laws.Numbers.{same_long}
use Rattle.fix_reader.specs.Laws.Classes.{text_some}
use Rattle.fix_reader.specs.Laws.Checks.{kind_in, head_tags, is_number, headed, ends, checks}
use Rattle.fix_reader.specs.Laws.Cut.{Cut, part_prints, value_long}
use Rattle.fix_reader.specs.Laws.Taking.{walk_all}

abbrev pub tags_in : List ℕ → Bool
tags_in t =
    (slice_index t 0 == 8)
    && (slice_index t 1 == 9 && (slice_index t 2 == 35 && (slice_index t 3 == 49 && (slice_index t 4 == 56 && (slice_index t 5 == 34 && slice_index t 6 == 52)))))

-- ---- MsgType

kind_cases : (c : ℕ) → (kind_of c ≡ 0) ⊎ ((within 16 20 (kind_of c) ≡ true) × (type_of (kind_of c) ≡ c))
unfolding kind_of type_of types if◌then◌otherwise◌
kind_cases c = go (ℕ_discrete c 56) (ℕ_discrete c 57) (ℕ_discrete c 68) (ℕ_discrete c 70) (ℕ_discrete c 71)
  where
    go : Dec (c ≡ 56) → Dec (c ≡ 57) → Dec (c ≡ 68) → Dec (c ≡ 70) → Dec (c ≡ 71) → (kind_of c ≡ 0) ⊎ ((within 16 20 (kind_of c) ≡ true) × (type_of (kind_of c) ≡ c))
    go (yes a) b d e f = inr (rw (eq-eqb c 56 a) (refl, sym a))
    go (no a) (yes b) d e f = inr (rw (ne_eqb c 56 a, eq-eqb c 57 b) (refl, sym b))
    go (no a) (no b) (yes d) e f = inr (rw (ne_eqb c 56 a, ne_eqb c 57 b, eq-eqb c 68 d) (refl, sym d))
    go (no a) (no b) (no d) (yes e) f = inr (rw (ne_eqb c 56 a, ne_eqb c 57 b, ne_eqb c 68 d, eq-eqb c 70 e) (refl, sym e))
    go (no a) (no b) (no d) (no e) (yes f) = inr (rw (ne_eqb c 56 a, ne_eqb c 57 b, ne_eqb c 68 d, ne_eqb c 70 e, eq-eqb c 71 f) (refl, sym f))
    go (no a) (no b) (no d) (no e) (no f) = inl (rw (ne_eqb c 56 a, ne_eqb c 57 b, ne_eqb c 68 d, ne_eqb c 70 e, ne_eqb c 71 f) refl)

abbrev pub is_type : List ℕ → Bool
is_type v = within 16 20 (kind_of (slice_index v 0)) && same v (type_of (kind_of (slice_index v 0)) ∷ [])

pub type_long : (v : List ℕ) → (length v ≢ 1) → is_type v ≡ false
type_long v h = ap (λ (b : Bool). within 16 20 (kind_of (slice_index v 0)) && b) (same_long v (type_of (kind_of (slice_index v 0)) ∷ []) h) ∙ and-false (within 16 20 (kind_of (slice_index v 0)))

pub type_one : (v : List ℕ) → length v ≡ 1 → is_type v ≡ nat_le 16 (kind_of (slice_index v 0))
type_one v h = ⊎_elim none some (kind_cases c)
  where
    c : ℕ
    c = slice_index v 0

    none : kind_of (slice_index v 0) ≡ 0 → is_type v ≡ nat_le 16 (kind_of (slice_index v 0))
    none e = (λ i. within 16 20 (e i) && same v (type_of (e i) ∷ [])) ∙ sym (ap (leb 16) e)

    some : (within 16 20 (kind_of (slice_index v 0)) ≡ true) × (type_of (kind_of (slice_index v 0)) ≡ slice_index v 0) → is_type v ≡ nat_le 16 (kind_of (slice_index v 0))
    some e =
        let q : same v (type_of (kind_of (slice_index v 0)) ∷ []) ≡ true = ap (λ (x : ℕ). same v (x ∷ [])) e.1 ∙ ap (same v) (sym (one_byte v h)) ∙ same_self v in
        (λ i. e.0 i && q i) ∙ sym (first (nat_le 16 (kind_of (slice_index v 0))) (nat_le (kind_of (slice_index v 0)) 20) e.0)
      where
        first : (x y : Bool) → (x && y) ≡ true → x ≡ true
        first true y p = refl
        first false y p = p

-- the kind that a value of 35 names
unfoldable pub type_kind : List ℕ → Option ℕ
type_kind v = if is_type v then Some (kind_of (slice_index v 0)) otherwise None

pub one_type : (c : ℕ) → kind_for c ≡ type_kind (c ∷ [])
unfolding type_kind kind_for if◌then◌otherwise◌
one_type c = ⊎_elim none some (kind_cases c)
  where
    none : kind_of c ≡ 0 → kind_for c ≡ type_kind (c ∷ [])
    none e = rw e refl

    some : (within 16 20 (kind_of c) ≡ true) × (type_of (kind_of c) ≡ c) → kind_for c ≡ type_kind (c ∷ [])
    some e =
        let h : 16 ≤ kind_of c = leb-true 16 (kind_of c) (and_parts (nat_le 16 (kind_of c)) (nat_le (kind_of c) 20) e.0).0 in
        rw (ne_eqb (kind_of c) 0 (λ z. absurd (omega arith)), type_one (c ∷ []) refl, le-leb 16 (kind_of c) h) refl

pub no_type : (v : List ℕ) → (length v ≢ 1) → type_kind v ≡ None
unfolding type_kind
no_type v h = if_false (is_type v) _ None (type_long v h)

pub type_within : (v : List ℕ) (k : ℕ) → type_kind v ≡ Some k → within 16 20 k ≡ true
unfolding type_kind if◌then◌otherwise◌
type_within v k = go (within 16 20 (kind_of (slice_index v 0))) refl (same v (type_of (kind_of (slice_index v 0)) ∷ []))
  where
    go : (w : Bool) → within 16 20 (kind_of (slice_index v 0)) ≡ w → (y : Bool) → (if w && y then Some (kind_of (slice_index v 0)) otherwise None) ≡ Some k → within 16 20 k ≡ true
    go true h true e = ap (within 16 20) (same_some e refl) ∙ h
    go true h false e = none_some refl e
    go false h y e = none_some refl e

-- ---- all of it

abbrev pub kind_number : Option MessageKind → Option ℕ
kind_number None = None
kind_number (Some kind) = Some kind.number

-- the kind of a message, if its header is one that the writer yields
unfoldable pub kind_headed : List Field → Option ℕ
kind_headed fs = if headed fs then Some (kind_in fs) otherwise None

-- the questions one by one
abbrev pub asked_in_turn : (a b : Bool) (k : Option ℕ) (r : Bool) → Option ℕ
asked_in_turn false b k r = None
asked_in_turn true false k r = None
asked_in_turn true true None r = None
asked_in_turn true true (Some k) r = if r then Some k otherwise None

in_turn : (a b w y t3 t4 n5 t6 : Bool) (k : ℕ) → (if a && (b && (w && (y && (t3 && (t4 && (n5 && t6)))))) then Some k otherwise None) ≡ asked_in_turn a b (if w && y then Some k otherwise None) (t3 && (t4 && (n5 && t6)))
unfolding if◌then◌otherwise◌
in_turn false b w y t3 t4 n5 t6 k = refl
in_turn true false w y t3 t4 n5 t6 k = refl
in_turn true true false y t3 t4 n5 t6 k = refl
in_turn true true true false t3 t4 n5 t6 k = refl
in_turn true true true true t3 t4 n5 t6 k = refl

arranged : (b w y t3 t4 n5 t6 : Bool) → (b && (w && (y && (t3 && (t4 && (n5 && t6)))))) ≡ (b && ((w && y) && (n5 && (t3 && (t4 && t6)))))
arranged false w y t3 t4 n5 t6 = refl
arranged true false y t3 t4 n5 t6 = refl
arranged true true false t3 t4 n5 t6 = refl
arranged true true true t3 t4 true t6 = refl
arranged true true true false t4 false t6 = refl
arranged true true true true false false t6 = refl
arranged true true true true true false t6 = refl

some_is : (n : ℕ) → nat_lt 0 n ≡ not (n == 0)
some_is n = grind (arith, nat_tests)

-- by the tables
module _ (s : List ℕ) (n : ℕ) (tag at len : List ℕ) (z : Cut s n tag at len) where
  abbrev fs : List Field
  fs = fields_in s

  tags_are : head_tags fs ≡ tags_in tag
  tags_are = sym (λ i. (z.tags 0 i == 8) && (z.tags 1 i == 9 && (z.tags 2 i == 35 && (z.tags 3 i == 49
      && (z.tags 4 i == 56 && (z.tags 5 i == 34 && z.tags 6 i == 52))))))

  text_some_at : (i : ℕ) → is_text (value_at fs i) ≡ nat_lt 0 (length (value_at fs i))
  text_some_at i = text_some (value_at fs i) (part_prints s at len z.placed i)

  text_at : (i : ℕ) → is_text (value_at fs i) ≡ nat_lt 0 (slice_index len i)
  text_at i = text_some_at i ∙ ap (ltb 0) (value_long s at len z.placed i)

  pub header_is : headed fs ≡ (tags_in tag && (same (value_at fs 0) version && (is_type (value_at fs 2) && (is_number (value_at fs 5) && (nat_lt 0 (slice_index len 3) && (nat_lt 0 (slice_index len 4) && nat_lt 0 (slice_index len 6)))))))
  unfolding headed
  header_is =
      (λ i. tags_are i && (same (value_at fs 0) version && (within 16 20 (kind_in fs) && (same (value_at fs 2) (type_of (kind_in fs) ∷ [])
      && (text_at 3 i && (text_at 4 i && (is_number (value_at fs 5) && text_at 6 i)))))))
      ∙ ap (λ (b : Bool). tags_in tag && b)
      (arranged (same (value_at fs 0) version) (within 16 20 (kind_in fs)) (same (value_at fs 2) (type_of (kind_in fs) ∷ [])) (nat_lt 0 (slice_index len 3)) (nat_lt 0 (slice_index len 4)) (is_number (value_at fs 5)) (nat_lt 0 (slice_index len 6)))

-- the texts behind the MsgType, and the number
abbrev pub texts_right : List Field → Bool
texts_right fs = not (length (value_at fs 3) == 0) && (not (length (value_at fs 4) == 0) && (is_number (value_at fs 5) && not (length (value_at fs 6) == 0)))

-- in the order of the code
module _ (s : List ℕ) (r : FixFields) (z : Cut s r.count r.tag r.at r.length) where
  abbrev gs : List Field
  gs = fields_in s

  some_at : (i : ℕ) → is_text (value_at gs i) ≡ not (length (value_at gs i) == 0)
  some_at i = text_some_at s r.count r.tag r.at r.length z i ∙ some_is (length (value_at gs i))

  kind_is : kind_headed gs ≡ asked_in_turn (tags_in r.tag) (same (value_at gs 0) version) (type_kind (value_at gs 2)) (texts_right gs)
  unfolding kind_headed headed type_kind
  kind_is =
      in_turn (head_tags gs) (same (value_at gs 0) version) (within 16 20 (kind_in gs)) (same (value_at gs 2) (type_of (kind_in gs) ∷ [])) (is_text (value_at gs 3)) (is_text (value_at gs 4)) (is_number (value_at gs 5)) (is_text (value_at gs 6)) (kind_in gs)
      ∙ (λ i. asked_in_turn (tags_are s r.count r.tag r.at r.length z i) (same (value_at gs 0) version) (type_kind (value_at gs 2)) (some_at 3 i && (some_at 4 i && (is_number (value_at gs 5) && some_at 6 i))))

  pub kind_untagged : tags_in r.tag ≡ false → None ≡ kind_headed gs
  kind_untagged a = sym (kind_is ∙ (λ i. asked_in_turn (a i) (same (value_at gs 0) version) (type_kind (value_at gs 2)) (texts_right gs)))

  module _ (a : tags_in r.tag ≡ true) where
    pub kind_other : same (value_at gs 0) version ≡ false → None ≡ kind_headed gs
    kind_other b = sym (kind_is ∙ (λ i. asked_in_turn (a i) (b i) (type_kind (value_at gs 2)) (texts_right gs)))

    module _ (b : same (value_at gs 0) version ≡ true) where
      pub kind_untyped : type_kind (value_at gs 2) ≡ None → None ≡ kind_headed gs
      kind_untyped k = sym (kind_is ∙ (λ i. asked_in_turn (a i) (b i) (k i) (texts_right gs)))

      pub kind_right : (k : ℕ) → type_kind (value_at gs 2) ≡ Some k → texts_right gs ≡ true → Some k ≡ kind_headed gs
      unfolding if◌then◌otherwise◌
      kind_right k e t = sym (kind_is ∙ (λ i. asked_in_turn (a i) (b i) (e i) (t i)))

      pub kind_wrong : (k : ℕ) → type_kind (value_at gs 2) ≡ Some k → texts_right gs ≡ false → None ≡ kind_headed gs
      unfolding if◌then◌otherwise◌
      kind_wrong k e t = sym (kind_is ∙ (λ i. asked_in_turn (a i) (b i) (e i) (t i)))

-- ---- what follows

module _ (fs : List Field) (e : headed fs ≡ true) where
  tags_rest : (head_tags fs ≡ true) × ((same (value_at fs 0) version && (within 16 20 (kind_in fs) && (same (value_at fs 2) (type_of (kind_in fs) ∷ [])
      && (is_text (value_at fs 3) && (is_text (value_at fs 4) && (is_number (value_at fs 5) && is_text (value_at fs 6))))))) ≡ true)
  unfolding headed
  tags_rest = and_parts (head_tags fs) _ e

  pub headed_kind : within 16 20 (kind_in fs) ≡ true
  headed_kind = (and_parts (within 16 20 (kind_in fs)) _ (and_parts (same (value_at fs 0) version) _ tags_rest.1).1).0

  pub headed_type : tag_of fs 2 ≡ 35
  headed_type =
      let a = and_parts (tag_of fs 0 == 8) _ tags_rest.0 in
      let b = and_parts (tag_of fs 1 == 9) _ a.1 in
      eqb-true (tag_of fs 2) 35 (and_parts (tag_of fs 2 == 35) _ b.1).0

  pub checks_walked : checks fs ≡ ends fs (walk_all fs (kind_in fs))
  unfolding checks
  checks_walked = ap (λ (b : Bool). b && ends fs (walk_all fs (kind_in fs))) e

pub checks_unheaded : (fs : List Field) → headed fs ≡ false → checks fs ≡ false
unfolding checks
checks_unheaded fs e = ap (λ (b : Bool). b && ends fs (walk_all fs (kind_in fs))) e

-- a kind was found exactly if the header is right
pub kind_none : (fs : List Field) → kind_headed fs ≡ None → headed fs ≡ false
unfolding kind_headed if◌then◌otherwise◌
kind_none fs = go (headed fs)
  where
    go : (b : Bool) → (if b then Some (kind_in fs) otherwise None) ≡ None → b ≡ false
    go true e = none_some e refl
    go false e = refl

pub kind_some : (fs : List Field) (k : ℕ) → kind_headed fs ≡ Some k → (headed fs ≡ true) × (k ≡ kind_in fs)
unfolding kind_headed if◌then◌otherwise◌
kind_some fs k = go (headed fs)
  where
    go : (b : Bool) → (if b then Some (kind_in fs) otherwise None) ≡ Some k → (b ≡ true) × (k ≡ kind_in fs)
    go true e = (refl, same_some e refl)
    go false e = none_some refl e
