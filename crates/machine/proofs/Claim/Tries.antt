-- The tries of a gateway cancel: words for the order at an index, lists of texts, and a request's record by its ClOrdID. Rests on machine's Claim.
use Rattle.std.proofs.Common.{ℕ, ◌+◌, arith, ◌≡◌, refl, ap, ◌∙◌, ◌⊎◌, inl, inr, Bool, true, false, not, ◌&&◌, ◌||◌, Option, None, Some, List, [], ◌∷◌, eqb, eqb-true}
use Rattle.std.proofs.lemmas.Bool.{or_cases, cases_Bool, or_left, or_right}
use Rattle.prelude.specs.Laws.Below.{first_ext}
use Rattle.prelude.specs.Cases.{if◌then◌otherwise◌, maybe}
use Rattle.prelude.specs.Laws.Cases.{clash, maybe_none, maybe_some}
use Rattle.prelude.specs.Texts.{same_text}
use Rattle.prelude.specs.Laws.Texts.{same_self, same_back, same_trans, same_right, same_left}
use Rattle.prelude.specs.Totals.{how_many}
use Rattle.prelude.specs.declared.Text.{Text}
use Rattle.store.specs.declared.Request.{Request}
use Rattle.store.specs.Book.{Book, request_in}
use Rattle.machine.specs.Changes.{is_first, is_replace, is_gateway, is_cancel, is_answered}
use Rattle.store.specs.Finds.{find_name, find_downstream}
use Rattle.machine.specs.History.{Decoded, unread, read_as, Entry}
use Rattle.machine.specs.Claim.{holds, of_kind, starts, answered_in, fails}

-- ---- the claim's words for the order at an index

abbrev pub asks_at : ℕ → Book → Decoded → Bool
asks_at j b (unread n) = false
asks_at j b (read_as e) = eqb e.kind 9 && maybe false (λ i. eqb i j && starts b i) (find_name b e.ids.name)

unfoldable pub begins_at : ℕ → Entry → Bool
begins_at j e = eqb e.refusal 0 && asks_at j e.before e.input

-- ---- lists of texts

unfoldable pub Distinct : List Text → Type 0
Distinct [] = Unit {0}
Distinct (d ∷ ds) = (holds d ds ≡ false) × Distinct ds

holds_cong : (d d' : Text) (l : List Text) → same_text d d' ≡ true → holds d l ≡ holds d' l
holds_cong d d' [] s = refl
holds_cong d d' (x ∷ l) s = rw (same_left d d' x s, holds_cong d d' l s)

pub holds_self : (d d' : Text) (l : List Text) → same_text d d' ≡ true → holds d (d' ∷ l) ≡ true
holds_self d d' l s = or_left _ (holds d l) s

pub holds_one : (d d' : Text) → holds d (d' ∷ []) ≡ true → same_text d d' ≡ true
holds_one d d' h = go (or_cases (same_text d d') false h)
  where
    go : (same_text d d' ≡ true) ⊎ (false ≡ true) → same_text d d' ≡ true
    go (inl e) = e
    go (inr e) = clash false e refl

-- two tests that agree on the list count the same
pub many_same : (f g : Text → Bool) (l : List Text) → ((x : Text) → holds x l ≡ true → f x ≡ g x) → how_many f l ≡ how_many g l
many_same f g [] h = refl
many_same f g (d ∷ ds) h =
    ap (λ (b : Bool). (if b then 1 otherwise 0) + how_many f ds) (h d (holds_self d d ds (same_self d)))
    ∙ ap (λ (c : ℕ). (if g d then 1 otherwise 0) + c) (many_same f g ds (λ x m. h x (or_right (same_text x d) _ m)))

-- a test that passes one text more counts one more
pub many_one : (f g : Text → Bool) (d : Text) (l : List Text) → Distinct l → holds d l ≡ true
    → ((x : Text) → same_text d x ≡ true → (f x ≡ false) × (g x ≡ true)) → ((x : Text) → same_text d x ≡ false → f x ≡ g x) → how_many g l ≡ how_many f l + 1
unfolding Distinct if◌then◌otherwise◌
many_one f g d [] u h p r = clash false h refl
many_one f g d (j ∷ js) u h p r = go (same_text d j) refl h (λ m. many_one f g d js u.1 m p r)
  where
    go : (b : Bool) → same_text d j ≡ b → b || holds d js ≡ true → (holds d js ≡ true → how_many g js ≡ how_many f js + 1)
        → (if g j then 1 otherwise 0) + how_many g js ≡ (if f j then 1 otherwise 0) + how_many f js + 1
    go true e m ih =
        let c : how_many f js ≡ how_many g js = many_same f g js (λ x w. r x (off x w (cases_Bool (same_text d x)))) in
        rw ((p j e).0, (p j e).1) (omega (arith, c))
      where
        off : (x : Text) → holds x js ≡ true → (same_text d x ≡ true) ⊎ (same_text d x ≡ false) → same_text d x ≡ false
        off x w (inl s) = clash (holds x js) w (holds_cong x j js (same_trans x d j (same_back d x s) e) ∙ u.0)
        off x w (inr s) = s
    go false e m ih = let c : how_many g js ≡ how_many f js + 1 = ih m in rw (r j e) (omega (arith, c))

-- ---- a request's record by its ClOrdID

pub find_cong : (b : Book) (d d' : Text) → same_text d d' ≡ true → find_downstream b d ≡ find_downstream b d'
unfolding find_downstream
find_cong b d d' s = first_ext _ _ _ (λ k l. same_right (request_in b k).downstream d d' s)

pub answered_at : (b : Book) (d : Text) (k : ℕ) → find_downstream b d ≡ Some k → answered_in b d ≡ is_answered (request_in b k)
answered_at b d k h = maybe_some _ k _ _ h

pub answered_none : (b : Book) (d : Text) → find_downstream b d ≡ None → answered_in b d ≡ false
answered_none b d h = maybe_none _ _ _ h

pub answered_some : (b : Book) (d : Text) → answered_in b d ≡ true → (k : ℕ) × (find_downstream b d ≡ Some k) × (is_answered (request_in b k) ≡ true)
unfolding maybe
answered_some b d e = go (find_downstream b d) refl e
  where
    go : (r : Option ℕ) → find_downstream b d ≡ r → maybe false (λ k. is_answered (request_in b k)) r ≡ true → (k : ℕ) × (find_downstream b d ≡ Some k) × (is_answered (request_in b k) ≡ true)
    go None h a = clash false a refl
    go (Some k) h a = (k, h, a)

pub fails_cong : (e : Entry) (d d' : Text) → same_text d d' ≡ true → fails e d ≡ fails e d'
fails_cong e d d' s =
    ap (λ (x : Option ℕ). of_kind 7 e.input && (not (maybe false (λ k. is_answered (request_in e.before k)) x) && answered_in e.left d)) (find_cong e.before d d' s)
    ∙ ap (λ (x : Option ℕ). of_kind 7 e.input && (not (answered_in e.before d') && maybe false (λ k. is_answered (request_in e.left k)) x)) (find_cong e.left d d' s)

pub gateway_cancels : (q : Request) → is_gateway q ≡ true → is_cancel q ≡ true
unfolding is_gateway is_cancel is_first is_replace
gateway_cancels q g = let z : q.kind ≡ 3 = eqb-true _ 3 g in rw z

-- the record is a gateway cancel's of the order
pub record Own (j : ℕ) (b : Book) (d : Text) : Type 0 where
  pub at : ℕ
  pub found : find_downstream b d ≡ Some at
  pub by_gateway : is_gateway (request_in b at) ≡ true
  pub of_order : (request_in b at).order ≡ j
