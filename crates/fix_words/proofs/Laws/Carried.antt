-- What a message carries is the record's and the session's own: the rows are the bits of the kind, and each value holds what its field holds.
-- Rests on Carried, Trip and Taken.
use Rattle.std.proofs.Common.{ℕ, zero, suc, ◌<◌, ◌≡◌, Bool, ◌&&◌, ◌||◌, eqb, length, Option, None, Some, refl, sym, ap, subst, ◌∙◌, ⊎_elim, arith, eqb-true, eq-eqb, lit<, List, [], ◌∷◌, ◌++◌, append_assoc, true, false, not}
use Rattle.std.proofs.lemmas.Bool.{not-true, and_parts, or_cases}
use Rattle.std.specs.Option.{is_some}
use Rattle.prelude.specs.Cases.{if◌then◌otherwise◌}
use Rattle.prelude.specs.Laws.Cases.{if_true, if_false, clash}
use Rattle.prelude.specs.Below.{all_below}
use Rattle.prelude.specs.Laws.Below.{all_elim}
use Rattle.prelude.specs.Number.{number, Bytes}
use Rattle.format.specs.Codes.{within, listed}
use Rattle.format.specs.Format.{size, range, fields, required, allowed, required_bits, allowed_bits}
use Rattle.format.specs.Places.{kind_at, map_at}
use Rattle.format.specs.Laws.Places.{content_off}
use Rattle.decimal.specs.Decimal.{digits, decimal}
use Rattle.fix_words.specs.Number.{IsNumber}
use Rattle.fix_words.specs.Spelling.{Field, field, spellings}
use Rattle.fix_words.specs.Rows.{Row, Values, field_of, body}
use Rattle.fix_words.specs.Values.{tables, rows, type_of, fixed_text, is_plain, places, spelling, over, or_else, either, exec_id, fixed_text_in, value_of, none_text}
use Rattle.fix_words.specs.Message.{version, stamp, inner, front, trailer, framed, fields_of, bytes_for, shape_at, paired, is_writing}
use Rattle.fix_words.specs.Record.{field_at, Session, writing_of, write_of, write_refusal, session_typed}
use Rattle.fix_words.specs.Carried.{tag_for, left_out, is_told, must_stand, rows_from, stands, held, texts, codes, quantities, prices, numbers, Holds, Told, in_turn, stamps, Carried}
use Rattle.fix_words.specs.Laws.Number.{is_number_lem, digits_number}
use Rattle.fix_words.specs.Laws.Held.{shape_long, one_byte}
use Rattle.fix_words.proofs.Laws.Kinds.{by_kind_lem}
use Rattle.fix_words.proofs.Laws.Again.{by_bit, value_name, value_text, value_exec, value_words, value_plain, paired_reject}
use Rattle.fix_words.proofs.Laws.Trip.{kind, shapes}
use Rattle.fix_words.proofs.Laws.Taken.{is_writing_lem}

-- ---- THE ROWS OF A KIND ARE ITS BITS, in their order, each with its tag, but those that are left out

pub rows_carry : (k : ℕ) → within 16 20 k ≡ true → rows k ≡ rows_from k 0 32
unfolding rows tables tag_for left_out is_told must_stand required required_bits allowed allowed_bits if◌then◌otherwise◌
rows_carry = by_kind_lem (λ k. rows k ≡ rows_from k 0 32) refl refl refl refl refl

-- each bit that is told is one of those for which it is said what the value holds
abbrev formed : ℕ → Bool
formed b =
    listed b texts || (listed b codes || (listed b quantities || (listed b prices || (listed b numbers || (eqb b 25 || eqb b 27)))))

pub all_formed : (k : ℕ) → within 16 20 k ≡ true → (b : ℕ) → b < 32 → (not (is_told k b) || formed b) ≡ true
unfolding left_out is_told required required_bits allowed allowed_bits all_below
all_formed =
    by_kind_lem (λ k. (b : ℕ) → b < 32 → test k b ≡ true) (all_elim (test 16) 32 refl) (all_elim (test 17) 32 refl) (all_elim (test 18) 32 refl)
    (all_elim (test 19) 32 refl) (all_elim (test 20) 32 refl)
  where
    test : ℕ → ℕ → Bool
    test k b = not (is_told k b) || formed b

-- ---- the body, bit by bit

abbrev part_of : ℕ → Values → ℕ → List Field
part_of k vs b = if is_told k b then field_of (tag_for k b) (vs b) [] otherwise []

field_then : (t : ℕ) (o : Option (List ℕ)) (fs : List Field) → field_of t o fs ≡ field_of t o [] ++ fs
field_then t None fs = refl
field_then t (Some v) fs = refl

body_turn : (k : ℕ) (vs : Values) (fs : List Field) (b n : ℕ) → body (rows_from k b n) vs fs ≡ in_turn (part_of k vs) b n ++ fs
unfolding body if◌then◌otherwise◌
body_turn k vs fs b zero = refl
body_turn k vs fs b (suc n) = go (is_told k b) refl (body_turn k vs fs (suc b) n)
  where
    go : (x : Bool) → is_told k b ≡ x → body (rows_from k (suc b) n) vs fs ≡ in_turn (part_of k vs) (suc b) n ++ fs
        → body (rows_from k b (suc n)) vs fs ≡ in_turn (part_of k vs) b (suc n) ++ fs
    go true e i =
        rw e
        (ap (field_of (tag_for k b) (vs b)) i
        ∙ field_then (tag_for k b) (vs b) (in_turn (part_of k vs) (suc b) n ++ fs)
        ∙ sym (append_assoc (field_of (tag_for k b) (vs b) []) (in_turn (part_of k vs) (suc b) n) fs))
    go false e i = rw e i

-- ---- values by their form

implied : (p q : ℕ → Bool) → all_below (λ b. not (p b) || q b) 32 ≡ true → (b : ℕ) → b < 32 → p b ≡ true → q b ≡ true
implied p q a b h e = ⊎_elim (λ z. clash (p b) e (not-true _ z)) (λ z. z) (or_cases (not (p b)) (q b) (all_elim (λ b. not (p b) || q b) 32 a b h))

abbrev counts : ℕ → ℕ → Bool
counts p b = not (is_plain b) && eqb (places b) p

text_plain : (b : ℕ) → b < 32 → listed b texts ≡ true → is_plain b ≡ true
unfolding is_plain size range fields all_below
text_plain = implied (λ b. listed b texts) is_plain refl

code_plain : (b : ℕ) → b < 32 → listed b codes ≡ true → is_plain b ≡ true
unfolding is_plain size range fields all_below
code_plain = implied (λ b. listed b codes) is_plain refl

quantity_counts : (b : ℕ) → b < 32 → listed b quantities ≡ true → counts 4 b ≡ true
unfolding is_plain places size range fields all_below if◌then◌otherwise◌
quantity_counts = implied (λ b. listed b quantities) (counts 4) refl

price_counts : (b : ℕ) → b < 32 → listed b prices ≡ true → counts 8 b ≡ true
unfolding is_plain places size range fields all_below if◌then◌otherwise◌
price_counts = implied (λ b. listed b prices) (counts 8) refl

number_counts : (b : ℕ) → b < 32 → listed b numbers ≡ true → counts 0 b ≡ true
unfolding is_plain places size range fields all_below if◌then◌otherwise◌
number_counts = implied (λ b. listed b numbers) (counts 0) refl

spelled_plain : (b : ℕ) (c : List ℕ) → is_plain b ≡ true → spelling b c ≡ c
unfolding spelling
spelled_plain b c p = if_true (is_plain b) _ _ p

spelled_number : (p b : ℕ) (c : List ℕ) → counts p b ≡ true → IsNumber p (number c) (spelling b c)
unfolding spelling
spelled_number p b c e =
    let h = and_parts (not (is_plain b)) (eqb (places b) p) e in
    let z : spelling b c ≡ decimal p (number c) = if_false (is_plain b) _ _ (not-true _ h.0) ∙ ap (λ (p : ℕ). decimal p (number c)) (eqb-true (places b) p h.1) in
    subst (IsNumber p (number c)) (sym z) (is_number_lem p (number c))

named : (x : Bool) (o : Option (List ℕ)) (c : List ℕ) → o ≡ Some c → (if x then Some (or_else none_text o) otherwise o) ≡ Some c
unfolding if◌then◌otherwise◌
named true o c e = ap {B = Option (List ℕ)} (λ (o : Option (List ℕ)). Some (or_else none_text o)) e
named false o c e = e

texted : (x : Bool) (o f : Option (List ℕ)) (c : List ℕ) → o ≡ Some c → (if x then either o f otherwise o) ≡ Some c
unfolding if◌then◌otherwise◌
texted true o f c e = ap (λ (o : Option (List ℕ)). either o f) e
texted false o f c e = e

-- ---- what stands in the record

module _ (s : List ℕ) where
  at_some : (b : ℕ) → stands s b ≡ true → field_at s b ≡ Some (held s b)
  unfolding field_at
  at_some b e = if_true (stands s b) _ _ e

  at_none : (b : ℕ) → stands s b ≡ false → field_at s b ≡ None
  unfolding field_at
  at_none b e = if_false (stands s b) _ _ e

  name_held : or_else [] (field_at s 2) ≡ held s 2
  name_held = go (stands s 2) refl
    where
      go : (x : Bool) → stands s 2 ≡ x → or_else [] (field_at s 2) ≡ held s 2
      go true e = ap (or_else []) (at_some 2 e)
      go false e = ap (or_else []) (at_none 2 e) ∙ sym (content_off s 0 (map_at s 0) 2 e)

  -- ---- each value holds what its field holds

  holds_plain : (b : ℕ) → b < 32 → eqb b 25 ≡ false → eqb b 27 ≡ false → Holds s b (spelling b (held s b))
  holds_plain b h x y = record {
    text = λ l. spelled_plain b (held s b) (text_plain b h l);
    code = λ l. spelled_plain b (held s b) (code_plain b h l);
    quantity = λ l. spelled_number 4 b (held s b) (quantity_counts b h l);
    price = λ l. spelled_number 8 b (held s b) (price_counts b h l);
    whole = λ l. spelled_number 0 b (held s b) (number_counts b h l);
    exec = λ e. clash (eqb b 25) (eq-eqb b 25 e) x;
    words = λ e. clash (eqb b 27) (eq-eqb b 27 e) y;
  }

  holds_exec : Holds s 25 (exec_id (field_at s 2) (held s 25))
  holds_exec = record {
    text = λ l. clash false l refl;
    code = λ l. clash false l refl;
    quantity = λ l. clash false l refl;
    price = λ l. clash false l refl;
    whole = λ l. clash false l refl;
    exec = λ e. (
      digits (number (held s 25)),
      ap (λ (l : List ℕ). l ++ (46 ∷ digits (number (held s 25)))) name_held,
      digits_number (number (held s 25)),
    );
    words = λ e. absurd (omega arith);
  }

  holds_fixed : length (held s 27) ≡ 1 → fixed_text_in (held s 27) ≡ fixed_text (number (held s 27))
  holds_fixed l = ap fixed_text (sym (ap number (one_byte (held s 27) l) ∙ omega arith))

  words_hold : length (held s 27) ≡ 1 → Holds s 27 (fixed_text_in (held s 27))
  words_hold l = record {
    text = λ l. clash false l refl;
    code = λ l. clash false l refl;
    quantity = λ l. clash false l refl;
    price = λ l. clash false l refl;
    whole = λ l. clash false l refl;
    exec = λ e. absurd (omega arith);
    words = λ e. holds_fixed l;
  }

  -- ---- the value of a bit that stands, and of one that does not

  abbrev k : ℕ
  k = kind_at s 0

  abbrev vs : Values
  vs = value_of k (field_at s)

  plain_two : spelling 2 (held s 2) ≡ held s 2
  unfolding is_plain size range fields
  plain_two = spelled_plain 2 (held s 2) refl

  plain_twenty : spelling 20 (held s 20) ≡ held s 20
  unfolding is_plain size range fields
  plain_twenty = spelled_plain 20 (held s 20) refl

  module _ (one : stands s 27 ≡ true → length (held s 27) ≡ 1) where
    value_there : (b : ℕ) → b < 32 → stands s b ≡ true → (v : List ℕ) × (vs b ≡ Some v) × Holds s b v
    value_there b h =
        by_bit (λ b. b < 32 → stands s b ≡ true → (v : List ℕ) × (vs b ≡ Some v) × Holds s b v)
        (λ l e. (spelling 2 (held s 2), value_name k (field_at s) ∙ named (eqb k 17) (field_at s 2) (held s 2) (at_some 2 e) ∙ ap {B = Option (List ℕ)} Some (sym plain_two), holds_plain 2 l refl refl))
        (λ l e. (spelling 20 (held s 20), value_text k (field_at s) ∙ texted (eqb k 17) (field_at s 20) (over fixed_text_in (field_at s 27)) (held s 20) (at_some 20 e) ∙ ap {B = Option (List ℕ)} Some (sym plain_twenty), holds_plain 20 l refl refl))
        (λ l e. (exec_id (field_at s 2) (held s 25), value_exec k (field_at s) ∙ ap (over (exec_id (field_at s 2))) (at_some 25 e), holds_exec))
        (λ l e. (fixed_text_in (held s 27), value_words k (field_at s) ∙ ap (over fixed_text_in) (at_some 27 e), words_hold (one e)))
        b (λ x y z w l e. (spelling b (held s b), value_plain k (field_at s) b x y z w ∙ ap (over (spelling b)) (at_some b e), holds_plain b l z w))
        h

    value_absent : (b : ℕ) → stands s b ≡ false → (eqb k 17 && (eqb b 2 || eqb b 20)) ≡ false → vs b ≡ None
    value_absent b e r =
        by_bit (λ b. stands s b ≡ false → (eqb k 17 && (eqb b 2 || eqb b 20)) ≡ false → vs b ≡ None)
        (λ e r. value_name k (field_at s) ∙ if_false (eqb k 17) _ _ (no_reject r) ∙ at_none 2 e)
        (λ e r. value_text k (field_at s) ∙ if_false (eqb k 17) _ _ (no_reject r) ∙ at_none 20 e)
        (λ e r. value_exec k (field_at s) ∙ ap (over (exec_id (field_at s 2))) (at_none 25 e))
        (λ e r. value_words k (field_at s) ∙ ap (over fixed_text_in) (at_none 27 e))
        b (λ x y z w e r. value_plain k (field_at s) b x y z w ∙ ap (over (spelling b)) (at_none b e))
        e r
      where
        no_reject : (eqb k 17 && true) ≡ false → eqb k 17 ≡ false
        no_reject q = go (eqb k 17) refl q
          where
            go : (x : Bool) → eqb k 17 ≡ x → (x && true) ≡ false → eqb k 17 ≡ false
            go true p q = clash true refl q
            go false p q = p

    part_told : (b : ℕ) → b < 32 → Told s b (part_of k vs b)
    unfolding if◌then◌otherwise◌
    part_told b h = record {
      there = λ t e. let v = value_there b h e in (v.0, rw (t, v.1) refl, v.2);
      absent = λ e r. none_there (is_told k b) (value_absent b e r);
      untold = λ t. rw t refl;
    }
      where
        none_there : (x : Bool) → vs b ≡ None → (if x then field_of (tag_for k b) (vs b) [] otherwise []) ≡ []
        none_there true e = ap (λ (o : Option (List ℕ)). field_of (tag_for k b) o []) e
        none_there false e = refl

-- ---- the places of a reject that always stand

part_name : (j : ℕ) (vs : Values) (v : List ℕ) → j ≡ 17 → vs 2 ≡ Some v → part_of j vs 2 ≡ field 37 v ∷ []
unfolding tag_for left_out is_told required required_bits allowed allowed_bits if◌then◌otherwise◌
part_name j vs v e z = subst (λ (j : ℕ). part_of j vs 2 ≡ field 37 v ∷ []) (sym e) (ap (λ (o : Option (List ℕ)). field_of 37 o []) z)

part_text : (j : ℕ) (vs : Values) (v : List ℕ) → j ≡ 17 → vs 20 ≡ Some v → part_of j vs 20 ≡ field 58 v ∷ []
unfolding tag_for left_out is_told required required_bits allowed allowed_bits if◌then◌otherwise◌
part_text j vs v e z = subst (λ (j : ℕ). part_of j vs 20 ≡ field 58 v ∷ []) (sym e) (ap (λ (o : Option (List ℕ)). field_of 58 o []) z)

-- ---- a record that is written

module _ (s : List ℕ) (n : Session) (room : ℕ) (w : Bytes s) (t : session_typed n ≡ true) (e : write_refusal s n room ≡ 0) where
  it_is : is_writing (writing_of s n) ≡ true
  it_is = is_writing_lem s n room w t e

  fixed_long : stands s 27 ≡ true → length (held s 27) ≡ 1
  unfolding size fields
  fixed_long q =
      let h : shape_at (k s) 27 (field_at s 27) ≡ true = all_elim (λ b. shape_at (k s) b (field_at s b)) 32 (shapes (writing_of s n) it_is).1.0 27 (lit< tt) in
      shape_long (k s) 27 (held s 27) (ap (shape_at (k s) 27) (sym (at_some s 27 q)) ∙ h) refl

  reject_alone : k s ≡ 17 → stands s 2 ≡ false → part_of (k s) (vs s) 2 ≡ field 37 none_text ∷ []
  reject_alone q z =
      part_name (k s) (vs s) none_text q
      (value_name (k s) (field_at s) ∙ if_true (eqb (k s) 17) _ _ (eq-eqb (k s) 17 q) ∙ ap (λ (o : Option (List ℕ)). Some (or_else none_text o)) (at_none s 2 z))

  -- a reject that has no text has a fixed one
  fixed_stands : k s ≡ 17 → stands s 20 ≡ false → stands s 27 ≡ true
  unfolding if◌then◌otherwise◌
  fixed_stands q z = go (stands s 27) refl
    where
      pair : (if is_some (field_at s 20) then not (is_some (field_at s 27)) otherwise is_some (field_at s 27)) ≡ true
      pair = sym (paired_reject (field_at s)) ∙ subst (λ (j : ℕ). paired j (field_at s) ≡ true) q (shapes (writing_of s n) it_is).1.1

      go : (x : Bool) → stands s 27 ≡ x → stands s 27 ≡ true
      go true f = f
      go false f = clash false (rw (at_none s 20 z, at_none s 27 f) at pair) refl

  reject_fixed : k s ≡ 17 → stands s 20 ≡ false → part_of (k s) (vs s) 20 ≡ field 58 (fixed_text (number (held s 27))) ∷ []
  reject_fixed q z =
      let f = fixed_stands q z in
      part_text (k s) (vs s) (fixed_text (number (held s 27))) q
      (value_text (k s) (field_at s)
      ∙ if_true (eqb (k s) 17) _ _ (eq-eqb (k s) 17 q)
      ∙ (λ i. either (at_none s 20 z i) (over fixed_text_in (at_some s 27 f i)))
      ∙ ap {B = Option (List ℕ)} Some (holds_fixed s (fixed_long f)))

  abbrev last : Field
  last = trailer (spellings (front (inner (writing_of s n))))

  rest_is : body (rows (k s)) (vs s) (stamp (k s) n.time []) ++ (last ∷ []) ≡ in_turn (part_of (k s) (vs s)) 0 32 ++ (stamps (k s) n.time ++ (last ∷ []))
  rest_is =
      ap (λ (rows : List Row). body rows (vs s) (stamps (k s) n.time) ++ (last ∷ [])) (rows_carry (k s) (kind (writing_of s n) it_is))
      ∙ ap (λ (fs : List Field). fs ++ (last ∷ [])) (body_turn (k s) (vs s) (stamps (k s) n.time) 0 32)
      ∙ append_assoc (in_turn (part_of (k s) (vs s)) 0 32) (stamps (k s) n.time) (last ∷ [])

  -- ---- WHAT IS WRITTEN CARRIES THE RECORD'S AND THE SESSION'S OWN VALUES

  pub carried : Carried s n (write_of s n) (fields_of (writing_of s n))
  unfolding bytes_for fields_of framed front inner
  carried = record {
    length9 = digits (length (spellings (inner (writing_of s n))));
    sequence34 = digits n.sequence;
    sum10 = last.value;
    parts = part_of (k s) (vs s);
    spelled = refl;
    fields =
        ap
        (λ (fs : List Field). field 8 version ∷ field 9 (digits (length (spellings (inner (writing_of s n))))) ∷ field 35 (type_of (k s) ∷ []) ∷ field 49 n.sender
        ∷ field 56 n.target ∷ field 34 (digits n.sequence) ∷ field 52 n.time ∷ fs)
        rest_is;
    sequence = digits_number n.sequence;
    told = λ b h. part_told s fixed_long b h;
    no_order_lem = reject_alone;
    fixed = reject_fixed;
  }
