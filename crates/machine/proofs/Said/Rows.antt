-- A record by its fields, one row for each bit: if the rows are right and the map is theirs, the record is one that is written. Rests on Maps and records' Ranges.
use Rattle.std.proofs.Common.{ℕ, zero, suc, ◌+◌, ◌≤◌, ◌<◌, min, arith, ◌≡◌, refl, sym, subst, ◌∙◌, Bool, true, false, not, List, [], ◌∷◌, leb, lit<, length, get_or, eqb-true, leb-true, le-leb}
use Rattle.std.proofs.lemmas.Bool.{eqb-false, not-true, not-false, and_parts, and_from}
use Rattle.prelude.specs.Laws.Cases.{clash, split_if}
use Rattle.prelude.specs.Number.{bound}
use Rattle.prelude.specs.Texts.{is_text}
use Rattle.prelude.specs.declared.Text.{Text}
use Rattle.format.specs.Codes.{within, is_name}
use Rattle.format.specs.Format.{size, range, in_range}
use Rattle.records.specs.declared.Record.{Record}
use Rattle.records.specs.Fields.{numbers_of, high_of}
use Rattle.format.specs.Refusal.{name_in}
use Rattle.records.specs.Record.{is_message}
use Rattle.records.specs.Laws.Right.{RightText, RightLong}
use Rattle.records.specs.Laws.Ranges.{test}
use Rattle.machine.specs.Orders.{is_empty}
use Rattle.machine.specs.Ranges.{text_within}
use Rattle.machine.proofs.Kept.Laws.{TextKept, text_kept}
use Rattle.machine.proofs.Said.Reads.{bit}
use Rattle.machine.proofs.Said.Maps.{Mapped}

-- ---- one field

-- field b with the number v: in its range if its bit stands, else 0
pub record Has (t : Bool) (b v : ℕ) : Type 0 where
  pub on : t ≡ true → (in_range (range b) v ≡ true) × (v < bound (min (size b) 8))
  pub off : t ≡ false → v ≡ 0

pub gone : {b : ℕ} → Has false b 0
gone = record { on = λ e. clash false e refl; off = λ e. refl }

pub there : (b v : ℕ) → in_range (range b) v ≡ true → v < bound (min (size b) 8) → Has true b v
there b v r f = record { on = λ e. (r, f); off = λ e. clash true refl e }

pub maybe_there : (t : Bool) (b v : ℕ) → (t ≡ true → Has true b v) → (t ≡ false → v ≡ 0) → Has t b v
maybe_there true b v f g = f refl
maybe_there false b v f g = record { on = λ e. clash false e refl; off = g }

-- ---- texts

-- a text of low to high bytes as it is stored, in an array of 32
pub record Fine (low high : ℕ) (t : Text) : Type 0 where
  pub long : length t.bytes ≡ 32
  pub range : text_within low high t ≡ true

pub fine_text : (low high : ℕ) (t : Text) → Fine low high t → RightText t
unfolding is_text
fine_text low high t f =
    let k : TextKept low high t = text_kept low high t f.range in
    record { long = f.long; short = leb-true t.len 32 (and_parts (leb t.len 32) _ k.stored).0; stored = k.stored }

-- a text that must be there
pub text_there : (b low high : ℕ) (t : Text) → size b ≡ 255 → ((v : ℕ) → within low high v ≡ true → in_range (range b) v ≡ true) → Fine low high t → Has true b t.len
text_there b low high t z r f =
    let k : TextKept low high t = text_kept low high t f.range in
    there b t.len (r t.len (and_from _ _ (le-leb low t.len k.above) (le-leb t.len high k.below)))
    (rw z (let s : t.len ≤ 32 = (fine_text low high t f).short in omega arith))

-- a text that is there unless it is empty
pub text_if : (b : ℕ) (t : Text) → size b ≡ 255 → ((v : ℕ) → within 1 32 v ≡ true → in_range (range b) v ≡ true) → Fine 0 32 t → Has (not (is_empty t)) b t.len
text_if b t z r f =
    maybe_there (not (is_empty t)) b t.len
    (λ e. let k : TextKept 0 32 t = text_kept 0 32 t f.range in
    let n : (t.len ≡ 0 → ⊥) = eqb-false t.len 0 (not-true (is_empty t) e) in
    there b t.len (r t.len (and_from _ _ (le-leb 1 t.len (omega arith)) (le-leb t.len 32 k.below))) (rw z (omega (arith, k.below))))
    (λ e. eqb-true t.len 0 (not-false (is_empty t) e))

-- ---- all of them

infixr 20 ◌&◌
pub data Rows : ℕ → List Bool → List ℕ → Type 0 where
  end : {b : ℕ} → Rows b [] []
  ◌&◌ : {b : ℕ} {t : Bool} {v : ℕ} {ts : List Bool} {vs : List ℕ} → Has t b v → Rows (suc b) ts vs → Rows b (t ∷ ts) (v ∷ vs)

row_at_lem : {b : ℕ} {ts : List Bool} {vs : List ℕ} → Rows b ts vs → (k n : ℕ) → n ≡ b + k → Has (get_or ts k false) n (get_or vs k 0)
row_at_lem end k n e = gone
row_at_lem (◌&◌ {b = b} {t = t} {v = v} h r) zero n e = subst (λ (m : ℕ). Has t m v) (omega arith) h
row_at_lem (◌&◌ {b = b} h r) (suc k) n e = row_at_lem r k n (omega arith)

-- what a message's constructor shows of it
pub record Written (r : Record) (l : List Bool) : Type 0 where
  pub mapped : Mapped r.kind r.map l
  pub rows : Rows 0 l (numbers_of r)
  pub named : get_or l 2 false ≡ true → is_name r.ids.name ≡ true
  pub name : RightText r.ids.name
  pub clordid : RightText r.ids.clordid
  pub origclordid : RightText r.ids.origclordid
  pub downstream : RightText r.ids.downstream
  pub symbol : RightText r.ids.symbol
  pub venueorderid : RightText r.ids.venueorderid
  pub origdownstream : RightText r.ids.origdownstream
  pub text : RightLong r.text
  pub two : length r.told.fillprice ≡ 2
  pub high : get_or l 26 false ≡ true → high_of r < bound 8
  pub nothigh : get_or l 26 false ≡ false → high_of r ≡ 0

pub written_message : (r : Record) (l : List Bool) → 16 ≤ r.kind → Written r l → is_message r ≡ true
unfolding is_message name_in
written_message r l k w =
    let stands : (b : ℕ) → b < 32 → bit r.map b ≡ get_or l b false = w.mapped.stands in
    let row : (b : ℕ) → Has (get_or l b false) b (get_or (numbers_of r) b 0) = λ b. row_at_lem w.rows b b (omega arith) in
    and_from _ _
    (test r (record {
      bits = w.mapped.bits;
      map = w.mapped.small;
      range = λ b h e. ((row b).on (sym (stands b h) ∙ e)).0;
      fits = λ b h e. ((row b).on (sym (stands b h) ∙ e)).1;
      absent = λ b h e. (row b).off (sym (stands b h) ∙ e);
      named = split_if (λ (x : Bool). x ≡ true) _ (λ e. w.named (sym (stands 2 (lit< tt)) ∙ e)) (λ e. refl);
      name = w.name;
      clordid = w.clordid;
      origclordid = w.origclordid;
      downstream = w.downstream;
      symbol = w.symbol;
      venueorderid = w.venueorderid;
      origdownstream = w.origdownstream;
      text = w.text;
      two = w.two;
      high = λ e. w.high (sym (stands 26 (lit< tt)) ∙ e);
      nothigh = λ e. w.nothigh (sym (stands 26 (lit< tt)) ∙ e);
    }))
    (le-leb 16 r.kind k)
