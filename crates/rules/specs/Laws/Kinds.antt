-- A request by its kind, as it is decided: its marks, then what a first request is asked, or what a later one is. Rests on Origin.
use Rattle.std.specs.Prelude.{◌≡◌, ℕ, zero, suc, ◌+◌, ◌-◌, ◌*◌, ◌%◌, ◌<◌, ◌≤◌, Bool, true, false, not, ◌&&◌, ◌||◌, List, ◌==◌, ◌≢◌, nat_le, nat_lt, slice_index, refl}
use Rattle.std.proofs.Common.{sym, ap, ◌∙◌, arith, eqb-true, eq-eqb, ne_eqb, ltb-true, leb-true, lt-ltb, le-leb}
use Rattle.std.proofs.Math.Bool.{and-true, and-false}
use Rattle.std.proofs.lemmas.Bool.{eqb-false, and_parts, and_from}
use Rattle.std.specs.Cmp.{both_ways}
use Rattle.std.specs.Bool.{beq}
use Rattle.prelude.specs.Below.{all_below}
use Rattle.prelude.specs.Cases.{if◌then◌otherwise◌}
use Rattle.prelude.specs.Texts.{text_at, is_text, same_text}
use Rattle.prelude.specs.declared.Text.{Text}
use Rattle.store.specs.Book.{order_at, request_at, origin_at}
use Rattle.text.specs.Numbered.{numbered_text}
use Rattle.machine.specs.Changes.{is_first, is_gateway, is_answered}
use Rattle.machine.specs.Orders.{is_empty}
use Rattle.machine.specs.Ranges.{text_within}
use Rattle.machine.specs.Rules.{outcome_rule, name_number, number_rule, in_flight_rule}
use Rattle.rules.specs.Laws.Places.{zero_at, filled_parts}
use Rattle.rules.specs.Laws.Beside.{link_at, beside_at}
use Rattle.rules.specs.Laws.Here.{request_here, optional_text}
use Rattle.rules.specs.Laws.Origin.{or_absent, fields_range, origin_here, origin_empty, origin_absent, request_parts}

-- ---- texts

module _ (s : List ℕ) (at : ℕ) where
  -- an empty text: its length and its bytes are zeros
  pub zero_text : (slice_index s (at + 32) == 0) && all_below (zero_at s at) 16 && all_below (zero_at s (at + 16)) 16 ≡ text_within 0 0 (text_at s at)
  unfolding if◌then◌otherwise◌
  zero_text = go (slice_index s (at + 32) == 0) refl ∙ optional_text (text_at s at) true
    where
      go : (v : Bool) → (slice_index s (at + 32) == 0) ≡ v → v && all_below (zero_at s at) 16 && all_below (zero_at s (at + 16)) 16 ≡ is_text (text_at s at) && beq v true
      go true e =
          let z : at + 0 ≡ at = omega arith in
          rw z at (filled_parts s at 0 (sym (eqb-true _ _ e)) (omega arith)) ∙ sym (and-true (is_text (text_at s at)))
      go false e = sym (and-false (is_text (text_at s at)))

-- a text that is not empty
pub some_text : (t : Text) → t.len ≢ 0 → is_text t ≡ text_within 1 32 t
unfolding if◌then◌otherwise◌
some_text t n = sym (and-true (is_text t)) ∙ ap (λ (v : Bool). is_text t && beq v false) (sym (ne_eqb t.len 0 n)) ∙ optional_text t false

pub no_text : (t : Text) → t.len ≡ 0 → text_within 1 32 t ≡ false
unfolding if◌then◌otherwise◌
no_text t e = sym (optional_text t false) ∙ ap (λ (v : Bool). is_text t && beq v false) (eq-eqb t.len 0 e) ∙ and-false (is_text t)

-- ---- the marks

-- the marks are in range, and the outcome goes with its mark
abbrev pub marks_right : (answered outcome : ℕ) → Bool
marks_right a n = nat_le a 1 && (if not (a == 0) then nat_lt 0 n && nat_le n 3 otherwise (n == 0))

-- as they are decided, by one difference
pub marks_less : (a n : ℕ) → a ≤ 1 → n < 256 → nat_le ((n + (256 - a)) % 256) (2 * a) ≡ (if not (a == 0) then nat_lt 0 n && nat_le n 3 otherwise (n == 0))
unfolding if◌then◌otherwise◌
marks_less zero n h l =
    both_ways (nat_le ((n + 256) % 256) 0) (n == 0)
    (λ e. let u : (n + 256) % 256 ≤ 0 = leb-true _ _ e in eq-eqb n 0 (omega arith))
    (λ e. let u : n ≡ 0 = eqb-true n 0 e in le-leb _ _ (omega arith))
marks_less (suc zero) n h l =
    both_ways (nat_le ((n + 255) % 256) 2) (nat_lt 0 n && nat_le n 3)
    (λ e. let u : (n + 255) % 256 ≤ 2 = leb-true _ _ e in and_from _ _ (lt-ltb 0 n (omega arith)) (le-leb n 3 (omega arith)))
    (λ e. let s = and_parts (nat_lt 0 n) (nat_le n 3) e in let u : 0 < n = ltb-true 0 n s.0 in let v : n ≤ 3 = leb-true n 3 s.1 in le-leb _ _ (omega arith))
marks_less (suc (suc a)) n h l = absurd (omega arith)

-- ---- a request but for its marks

unfoldable pub kind_here : List ℕ → ℕ → ℕ → ℕ → Bool
kind_here b j o k =
    nat_le (request_at b j).kind 3 && or_absent (is_gateway (request_at b j)) (request_at b j).clordid
    && number_rule (order_at b o).names.name k (request_at b j) && in_flight_rule (j + 1) (request_at b j) (order_at b o) && origin_here b j

-- what a later request is asked beside its name
unfoldable pub amend_here : List ℕ → ℕ → ℕ → Bool
amend_here b j o =
    or_absent (is_gateway (request_at b j)) (request_at b j).clordid && in_flight_rule (j + 1) (request_at b j) (order_at b o) && origin_here b j

shuffle : (a m t u n f g : Bool) → a && m && t && u && n && f && g ≡ (m && u) && (a && t && n && f && g)
shuffle a m t u n f g = grind arith

-- THE LAW of a request: its marks, and the rest
pub by_marks : (b : List ℕ) (j o k : ℕ)
    → marks_right (request_at b j).answered (request_at b j).outcome && kind_here b j o k ≡ request_here b j o k && beside_at b j
unfolding kind_here fields_range outcome_rule is_answered
by_marks b j o k =
    sym (request_parts b j o k
    ∙ shuffle (nat_le (request_at b j).kind 3) (nat_le (request_at b j).answered 1) (or_absent (is_gateway (request_at b j)) (request_at b j).clordid)
    (outcome_rule (request_at b j)) (number_rule (order_at b o).names.name k (request_at b j)) (in_flight_rule (j + 1) (request_at b j) (order_at b o)) (origin_here b j))

-- a text that is absent is empty
absent_only : (t : Text) (l : Bool) → or_absent true t && (is_empty t || l) ≡ text_within 0 0 t
unfolding if◌then◌otherwise◌
absent_only t l = go (t.len == 0) refl
  where
    go : (v : Bool) → (t.len == 0) ≡ v → or_absent true t && (is_empty t || l) ≡ text_within 0 0 t
    go true e = sym (origin_empty t true l (eqb-true _ _ e)) ∙ ap (λ (v : Bool). is_text t && beq v true) (sym e) ∙ optional_text t true
    go false e = origin_absent t l (eqb-false _ _ e) ∙ sym (sym (optional_text t true) ∙ ap (λ (v : Bool). is_text t && beq v true) e ∙ and-false (is_text t))

-- the name that a number gives
named_first : (d name : Text) (k : ℕ) → (k == 0) ≡ true → same_text d (name_number name k) ≡ same_text d name
unfolding name_number if◌then◌otherwise◌
named_first d name k h = rw h

named_later : (d name : Text) (k : ℕ) → nat_lt 0 k ≡ true → same_text d (name_number name k) ≡ same_text d (numbered_text name k)
unfolding name_number if◌then◌otherwise◌
named_later d name k h =
    let u : 0 < k = ltb-true 0 k h in
    let z : k ≢ 0 = (λ e. omega arith) in
    rw (ne_eqb k 0 z)

first_turn : (c s s' z d d' : Bool) → (z ≡ true → s ≡ s') → d ≡ d' → true && c && (s && z) && true && d ≡ z && (c && s' && d')
first_turn c s s' true d d' f g = rw (f refl, g) (grind arith)
first_turn c s s' false d d' f g = grind arith

later_turn : (r c s s' z f g : Bool) → (z ≡ true → s ≡ s') → r && c && (s && z) && f && g ≡ z && (r && (s' && (c && f && g)))
later_turn r c s s' true f g h = rw (h refl) (grind arith)
later_turn r c s s' false f g h = grind arith

swap : (a f d d' : Bool) → d ≡ d' → a && f && d ≡ a && d' && f
swap a f d d' e = rw e (grind arith)

module _ (b : List ℕ) (j o : ℕ) where
  -- a first request
  pub kind_first : (k : ℕ) → (request_at b j).kind ≡ 0
      → kind_here b j o k ≡ (k == 0) && (text_within 1 32 (request_at b j).clordid && same_text (request_at b j).downstream (order_at b o).names.name && text_within 0 0 (request_at b j).origclordid)
  unfolding kind_here number_rule is_first is_gateway in_flight_rule origin_here if◌then◌otherwise◌
  kind_first k e =
      rw e
      (first_turn _ _ _ _ _ _ (named_first (request_at b j).downstream (order_at b o).names.name k)
      (absent_only (request_at b j).origclordid (link_at b j (origin_at b j))))

  -- a later one
  pub kind_later : (k : ℕ) → (request_at b j).kind ≢ 0
      → kind_here b j o k ≡ nat_lt 0 k && (nat_le (request_at b j).kind 3 && (same_text (request_at b j).downstream (numbered_text (order_at b o).names.name k) && amend_here b j o))
  unfolding kind_here amend_here number_rule is_first if◌then◌otherwise◌
  kind_later k n = rw (ne_eqb _ _ n) (later_turn _ _ _ _ _ _ _ (named_later (request_at b j).downstream (order_at b o).names.name k))

  -- the gateway's
  pub amend_gateway : (request_at b j).kind ≡ 3
      → amend_here b j o ≡ text_within 0 0 (request_at b j).clordid && text_within 0 0 (request_at b j).origclordid && in_flight_rule (j + 1) (request_at b j) (order_at b o)
  unfolding amend_here origin_here is_first is_gateway if◌then◌otherwise◌
  amend_gateway e = rw e (swap _ _ _ _ (absent_only (request_at b j).origclordid (link_at b j (origin_at b j))))

  -- a client's
  pub amend_client : (request_at b j).kind ≢ 0 → (request_at b j).kind ≢ 3
      → amend_here b j o ≡ text_within 1 32 (request_at b j).clordid && (text_within 1 32 (request_at b j).origclordid && (is_empty (request_at b j).origclordid || link_at b j (origin_at b j)))
  unfolding amend_here origin_here is_first is_gateway in_flight_rule if◌then◌otherwise◌
  amend_client m n = rw (ne_eqb _ _ m, ne_eqb _ _ n) (grind arith)
