-- The orders that a retirement takes out, by their names: which they are, and where they are said to have gone. Rests on the statement alone.
use Rattle.std.proofs.Common.{ℕ, zero, suc, ◌<◌, le_of_suc-le-suc, not-suc-le-zero, arith, ◌≡◌, refl, ap, ◌∙◌, ◌⊎◌, inl, inr, Bool, true, false, ◌||◌, Some, List, [], ◌∷◌, ◌++◌, length, get_or}
use Rattle.std.proofs.lemmas.Bool.{or_cases, or_left, or_right}
use Rattle.prelude.specs.Cases.{if◌then◌otherwise◌}
use Rattle.prelude.specs.Laws.Cases.{clash, split_if, if_true, if_false, none_some, same_some}
use Rattle.prelude.specs.Texts.{same_text}
use Rattle.prelude.specs.Totals.{Every, every[], every∷}
use Rattle.prelude.specs.declared.Text.{Text}
use Rattle.store.specs.declared.Order.{Order}
use Rattle.store.specs.Orders.{no_order}
use Rattle.machine.specs.Orders.{is_done}
use Rattle.claims.specs.RetireSince.{Gone, is_gone, gone_of, went_to}

-- ---- two lists of them

pub gone_append : (x y : List Gone) (name : Text) → is_gone (x ++ y) name ≡ is_gone x name || is_gone y name
gone_append [] y name = refl
gone_append (g ∷ x) y name = ap (λ (b : Bool). same_text g.name name || b) (gone_append x y name) ∙ assoc (same_text g.name name) (is_gone x name) (is_gone y name)
  where
    assoc : (a b c : Bool) → a || (b || c) ≡ (a || b) || c
    assoc a b c = grind arith

-- of one that the first has not, the second says where
pub went_behind : (x y : List Gone) (name : Text) → is_gone x name ≡ false → went_to (x ++ y) name ≡ went_to y name
unfolding if◌then◌otherwise◌
went_behind [] y name h = refl
went_behind (g ∷ x) y name h = go (same_text g.name name) h (went_behind x y name)
  where
    go : (t : Bool) → t || is_gone x name ≡ false → (is_gone x name ≡ false → went_to (x ++ y) name ≡ went_to y name) → (if t then Some g.archive otherwise went_to (x ++ y) name) ≡ went_to y name
    go true w f = clash true refl w
    go false w f = f w

-- one that is said to have gone somewhere is among them
pub went_among : {P : Gone → Type 0} (gone : List Gone) (name : Text) (k : ℕ) → Every P gone → went_to gone name ≡ Some k → (g : Gone) × P g × (g.archive ≡ k)
unfolding if◌then◌otherwise◌
went_among [] name k e w = none_some refl w
went_among {P} (g ∷ gone) name k (every∷ p ps) w = go (same_text g.name name) w (went_among gone name k ps)
  where
    go : (t : Bool) → (if t then Some g.archive otherwise went_to gone name) ≡ Some k → (went_to gone name ≡ Some k → (g : Gone) × P g × (g.archive ≡ k)) → (g : Gone) × P g × (g.archive ≡ k)
    go true v f = (g, p, same_some refl v)
    go false v f = f v

-- ---- those of a list of orders that are done

module _ (k : ℕ) where
  abbrev as_gone : Order → Gone
  as_gone o = record { name = o.names.name; archive = k }

  pub every_gone : {P : Gone → Type 0} (os : List Order)
      → ((i : ℕ) → i < length os → is_done (get_or os i no_order).state.status ≡ true → P (as_gone (get_or os i no_order))) → Every P (gone_of k os)
  every_gone [] f = every[]
  every_gone {P} (o ∷ os) f =
      let first : 0 < length (o ∷ os) = omega arith in
      let rest : Every P (gone_of k os) = every_gone os (λ i l. f (suc i) (omega arith)) in
      split_if (Every P) (is_done o.state.status) (λ d. every∷ (f 0 first d) rest) (λ d. rest)

  pub gone_none : (os : List Order) → ((i : ℕ) → i < length os → is_done (get_or os i no_order).state.status ≡ false) → gone_of k os ≡ []
  gone_none [] f = refl
  gone_none (o ∷ os) f = if_false _ _ _ (f 0 (omega arith)) ∙ gone_none os (λ i l. f (suc i) (omega arith))

  -- a name among them is that of a done order
  pub record Among (os : List Order) (name : Text) : Type 0 where
    pub at : ℕ
    pub below : at < length os
    pub done : is_done (get_or os at no_order).state.status ≡ true
    pub same : same_text (get_or os at no_order).names.name name ≡ true

  later : (o : Order) (os : List Order) (name : Text) → Among os name → Among (o ∷ os) name
  later o os name x = let l = x.below in record { at = suc x.at; below = omega arith; done = x.done; same = x.same }

  pub among : (os : List Order) (name : Text) → is_gone (gone_of k os) name ≡ true → Among os name
  among [] name h = clash false h refl
  among (o ∷ os) name h = go (is_done o.state.status) refl h (among os name)
    where
      here : is_done o.state.status ≡ true → (same_text o.names.name name ≡ true) ⊎ (is_gone (gone_of k os) name ≡ true) → (is_gone (gone_of k os) name ≡ true → Among os name) → Among (o ∷ os) name
      here d (inl s) f = record { at = 0; below = omega arith; done = d; same = s }
      here d (inr g) f = later o os name (f g)

      go : (t : Bool) → is_done o.state.status ≡ t → is_gone (if t then as_gone o ∷ gone_of k os otherwise gone_of k os) name ≡ true
          → (is_gone (gone_of k os) name ≡ true → Among os name) → Among (o ∷ os) name
      go true d w f = here d (or_cases (same_text o.names.name name) (is_gone (gone_of k os) name) (unfold if◌then◌otherwise◌ in w)) f
      go false d w f = later o os name (f (unfold if◌then◌otherwise◌ in w))

  -- and that of each is
  pub is_among : (os : List Order) (name : Text) (i : ℕ) → i < length os → is_done (get_or os i no_order).state.status ≡ true → same_text (get_or os i no_order).names.name name ≡ true
      → is_gone (gone_of k os) name ≡ true
  is_among [] name i l d s = absurd (not-suc-le-zero l)
  is_among (o ∷ os) name zero l d s = ap (λ (x : List Gone). is_gone x name) (if_true _ _ _ d) ∙ or_left (same_text o.names.name name) (is_gone (gone_of k os) name) s
  is_among (o ∷ os) name (suc i) l d s =
      let r : is_gone (gone_of k os) name ≡ true = is_among os name i (le_of_suc-le-suc l) d s in
      split_if (λ (x : List Gone). is_gone x name ≡ true) (is_done o.state.status) (λ e. or_right (same_text o.names.name name) _ r) (λ e. r)

  -- they all went to that archive
  pub went_here : (os : List Order) (gone : List Gone) (name : Text) → is_gone (gone_of k os) name ≡ true → went_to (gone_of k os ++ gone) name ≡ Some k
  went_here [] gone name h = clash false h refl
  went_here (o ∷ os) gone name h = go (is_done o.state.status) h (went_here os gone name)
    where
      here : (t : Bool) → t || is_gone (gone_of k os) name ≡ true → (is_gone (gone_of k os) name ≡ true → went_to (gone_of k os ++ gone) name ≡ Some k)
          → (if t then Some k otherwise went_to (gone_of k os ++ gone) name) ≡ Some k
      here true w f = if_true _ _ _ refl
      here false w f = if_false _ _ _ refl ∙ f w

      go : (t : Bool) → is_gone (if t then as_gone o ∷ gone_of k os otherwise gone_of k os) name ≡ true → (is_gone (gone_of k os) name ≡ true → went_to (gone_of k os ++ gone) name ≡ Some k)
          → went_to ((if t then as_gone o ∷ gone_of k os otherwise gone_of k os) ++ gone) name ≡ Some k
      go true w f = unfold if◌then◌otherwise◌ in here (same_text o.names.name name) w f
      go false w f = unfold if◌then◌otherwise◌ in f w
