-- Words and laws of messages that the claim's proofs share. Rests on the definitions alone.
use Rattle.std.proofs.Common.{ℕ, suc, ◌≤◌, arith, ◌≡◌, refl, ap, ◌∙◌, Bool, true, false, ◌&&◌, List, [], ◌∷◌, ◌++◌, eqb, eq-eqb}
use Rattle.std.proofs.lemmas.Bool.{eqb-false}
use Rattle.prelude.specs.Cases.{if◌then◌otherwise◌}
use Rattle.prelude.specs.Laws.Cases.{split_if}
use Rattle.prelude.specs.Texts.{same_text}
use Rattle.prelude.specs.declared.Text.{Text}
use Rattle.store.specs.declared.Order.{Order}
use Rattle.machine.specs.Constants.{report_kind}
use Rattle.machine.specs.Changes.{Message, telling}
use Rattle.records.specs.Answer.{chosen}
use Rattle.machine.specs.declared.Change.{Change}

abbrev pub tells : Change → List Message
tells c = chosen c.output.count c.output.first c.output.second

-- what never changes of an order, and what a report of it says
pub record Whose : Type 0 where
  pub client : ℕ
  pub name : Text
  pub symbol : Text
  pub side : ℕ

abbrev pub whose : Order → Whose
whose o = record { client = o.client; name = o.names.name; symbol = o.names.symbol; side = o.terms.side }

abbrev pub said : Message → Whose
said m = record { client = m.client; name = m.ids.name; symbol = m.ids.symbol; side = m.terms.side }

-- of the orders that pass a test: the LastQty of a report, and what is filled
abbrev pub last_qty_by : (Whose → Bool) → Message → ℕ
last_qty_by p m = if eqb m.kind report_kind && p (said m) then m.exec.lastqty otherwise 0

abbrev pub filled_by : (Whose → Bool) → Order → ℕ
filled_by p o = if p (whose o) then o.state.cumqty otherwise 0

-- the test by client and name
abbrev pub bears : (client : ℕ) (name : Text) → Whose → Bool
bears client name w = eqb w.client client && same_text w.name name

pub filled_same : (p : Whose → Bool) (o q : Order) (n : ℕ) → whose q ≡ whose o → q.state.cumqty ≡ n → filled_by p q ≡ (if p (whose o) then n otherwise 0)
filled_same p o q n w c = ap (λ (x : Whose). if p x then q.state.cumqty otherwise 0) w ∙ ap (λ (x : ℕ). if p (whose o) then x otherwise 0) c

-- a message that is told stands behind the first one if there is one
pub tells_more : (m : Message) (c : Change) → c.output.count ≤ 1 → tells (telling m c) ≡ tells c ++ (m ∷ [])
unfolding telling if◌then◌otherwise◌
tells_more m c h = go (eqb c.output.count 0) refl
  where
    go : (t : Bool) → eqb c.output.count 0 ≡ t
        → chosen (if t then 1 otherwise 2) (if t then m otherwise c.output.first) (if t then c.output.second otherwise m)
        ≡ chosen c.output.count c.output.first c.output.second ++ (m ∷ [])
    go true e = rw e
    go false e =
        let n : (c.output.count ≡ 0 → ⊥) = eqb-false c.output.count 0 e in
        let z : c.output.count ≡ 1 = omega arith in
        rw (e, eq-eqb c.output.count 1 z)

pub count_more : (m : Message) (c : Change) (n : ℕ) → c.output.count ≤ n → (telling m c).output.count ≤ suc n
unfolding telling
count_more m c n h =
    split_if (λ (x : ℕ). x ≤ suc n) (eqb c.output.count 0) (λ e. omega arith)
    (λ e. let z : (c.output.count ≡ 0 → ⊥) = eqb-false c.output.count 0 e in omega arith)
