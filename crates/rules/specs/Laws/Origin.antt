-- A request's fields as they are decided in one pass: an OrigClOrdID needs no check of its range, since it equals a ClOrdID that is in
-- range. Rests on Beside and Here.
use Rattle.std.specs.Prelude.{◌≡◌, ℕ, ◌+◌, ◌-◌, ◌<◌, Bool, true, false, ◌&&◌, ◌||◌, List, length, ◌==◌, nat_le, nat_lt, refl}
use Rattle.std.proofs.Common.{sym, ◌∙◌, arith, ap, subst, eq-eqb, ne_eqb, ltb-true, leb-true}
use Rattle.std.proofs.Math.Bool.{and-false}
use Rattle.std.proofs.lemmas.Bool.{and_parts}
use Rattle.std.specs.Bool.{beq}
use Rattle.prelude.specs.Below.{count_below}
use Rattle.prelude.specs.Cases.{if◌then◌otherwise◌}
use Rattle.prelude.specs.Laws.Span.{length_span}
use Rattle.prelude.specs.Texts.{is_text, same_text}
use Rattle.prelude.specs.Laws.Texts.{same_text_lem}
use Rattle.prelude.specs.declared.Text.{Text}
use Rattle.store.specs.declared.Request.{Request}
use Rattle.store.specs.Layout.{book_size, most_requests, request_base, request·clordid, request·origclordid}
use Rattle.store.specs.Book.{order_at, request_at, origin_at}
use Rattle.store.specs.Laws.Fields.{request_clordid, request_origclordid}
use Rattle.machine.specs.Changes.{is_first, is_gateway}
use Rattle.machine.specs.Orders.{is_empty}
use Rattle.machine.specs.Ranges.{text_within}
use Rattle.machine.specs.Rules.{request_range, outcome_rule, number_rule, in_flight_rule}
use Rattle.rules.specs.Laws.Beside.{link_at, beside_at}
use Rattle.rules.specs.Laws.Here.{of_order_at, request_here, request_rule_at, pass_at, optional_text}

-- a text is empty exactly if it is to be absent
abbrev pub or_absent : (absent : Bool) → Text → Bool
or_absent absent t = if absent then text_within 0 0 t otherwise text_within 1 32 t

-- a request's ranges but for the OrigClOrdID's
unfoldable pub fields_range : Request → Bool
fields_range q = nat_le q.kind 3 && nat_le q.answered 1 && or_absent (is_gateway q) q.clordid

-- the OrigClOrdID: its range, and its link
unfoldable pub origin_here : List ℕ → ℕ → Bool
origin_here b k =
    or_absent (is_first (request_at b k) || is_gateway (request_at b k)) (request_at b k).origclordid
    && (is_empty (request_at b k).origclordid || link_at b k (origin_at b k))

regroup : (f r u n i l : Bool) → f && r && u && n && i && l ≡ f && u && n && i && (r && l)
regroup false r u n i l = refl
regroup true true u n i l = refl
regroup true false u n i l = sym (and-false (u && n && i))

-- THE LAW of a request: its rules and what stands beside it, as they are decided
pub request_parts : (b : List ℕ) (j o k : ℕ)
    → request_here b j o k && beside_at b j
    ≡ fields_range (request_at b j) && outcome_rule (request_at b j) && number_rule (order_at b o).names.name k (request_at b j)
    && in_flight_rule (j + 1) (request_at b j) (order_at b o) && origin_here b j
unfolding request_here beside_at request_range fields_range origin_here
request_parts b j o k =
    regroup (fields_range (request_at b j)) (or_absent (is_first (request_at b j) || is_gateway (request_at b j)) (request_at b j).origclordid)
    (outcome_rule (request_at b j)) (number_rule (order_at b o).names.name k (request_at b j)) (in_flight_rule (j + 1) (request_at b j) (order_at b o))
    (is_empty (request_at b j).origclordid || link_at b j (origin_at b j))

-- ---- an OrigClOrdID by its length; l is what its link says

module _ (t : Text) where
  pub origin_empty : (absent l : Bool) → t.len ≡ 0 → is_text t && absent ≡ or_absent absent t && (is_empty t || l)
  origin_empty absent l e = sym (ap (λ (v : Bool). v && (is_empty t || l)) (sym (optional_text t absent)) ∙ rw (eq-eqb t.len 0 e) (go (is_text t) absent))
    where
      go : (v a : Bool) → v && beq true a && true ≡ v && a
      go true true = refl
      go true false = refl
      go false a = refl

  module _ (l : Bool) (n : t.len ≡ 0 → ⊥) where
    pub origin_absent : or_absent true t && (is_empty t || l) ≡ false
    origin_absent = ap (λ (v : Bool). v && (is_empty t || l)) (sym (optional_text t true)) ∙ rw (ne_eqb t.len 0 n) (go (is_text t))
      where
        go : (v : Bool) → v && beq false true && l ≡ false
        go true = refl
        go false = refl

    pub origin_linked : (l ≡ true → is_text t ≡ true) → or_absent false t && (is_empty t || l) ≡ l
    origin_linked h = ap (λ (v : Bool). v && (is_empty t || l)) (sym (optional_text t false)) ∙ rw (ne_eqb t.len 0 n) (go (is_text t) l h)
      where
        go : (v m : Bool) → (m ≡ true → v ≡ true) → v && beq false false && m ≡ m
        go v true f = rw (f refl)
        go true false f = refl
        go false false f = refl

-- ---- an OrigClOrdID with a link is a text, since the ClOrdIDs before it are

pub pass_text : (b : List ℕ) (n i : ℕ) → pass_at b n i ≡ true → is_text (request_at b i).clordid ≡ true
unfolding request_rule_at request_here request_range
pass_text b n i e =
    let q : Request = request_at b i in
    let k : ℕ = count_below (of_order_at b q.order) i in
    let p = (and_parts (request_rule_at b n i) (beside_at b i) e).0 in
    let h = (and_parts (nat_lt q.order n) (request_here b i q.order k) p).1 in
    let x = (and_parts (request_range q && outcome_rule q && number_rule (order_at b q.order).names.name k q) (in_flight_rule (i + 1) q (order_at b q.order)) h).0 in
    let a = (and_parts (request_range q && outcome_rule q) (number_rule (order_at b q.order).names.name k q) x).0 in
    let r = (and_parts (request_range q) (outcome_rule q) a).0 in
    let y = (and_parts (nat_le q.kind 3 && nat_le q.answered 1 && or_absent (is_gateway q) q.clordid) (or_absent (is_first q || is_gateway q) q.origclordid) r).0 in
    let c = (and_parts (nat_le q.kind 3 && nat_le q.answered 1) (or_absent (is_gateway q) q.clordid) y).1 in
    (and_parts (is_text q.clordid) (beq (q.clordid.len == 0) (is_gateway q)) (optional_text q.clordid (is_gateway q) ∙ c)).0

module _ (b : List ℕ) (l : length b ≡ book_size) where
  pub linked_text : (k link : ℕ) → k < most_requests → ((i : ℕ) → i < k → is_text (request_at b i).clordid ≡ true) → link_at b k link ≡ true
      → is_text (request_at b k).origclordid ≡ true
  unfolding link_at
  linked_text k link h texts e =
      let s = and_parts (nat_lt 0 link && nat_le link k && (request_at b (link - 1)).order == (request_at b k).order) (same_text (request_at b (link - 1)).clordid (request_at b k).origclordid) e in
      let u = and_parts (nat_lt 0 link) (nat_le link k) (and_parts (nat_lt 0 link && nat_le link k) ((request_at b (link - 1)).order == (request_at b k).order) s.0).0 in
      let i : link - 1 < k = omega (arith, ltb-true 0 link u.0, leb-true link k u.1) in
      let x : length (request_at b (link - 1)).clordid.bytes ≡ 32 =
      ap (λ (t : Text). length t.bytes) (request_clordid b (link - 1)) ∙ length_span b (request_base (link - 1) + request·clordid) 32 (omega arith) in
      let y : length (request_at b k).origclordid.bytes ≡ 32 =
      ap (λ (t : Text). length t.bytes) (request_origclordid b k) ∙ length_span b (request_base k + request·origclordid) 32 (omega arith) in
      subst (λ (t : Text). is_text t ≡ true) (same_text_lem (request_at b (link - 1)).clordid (request_at b k).origclordid x y s.1) (texts (link - 1) i)
