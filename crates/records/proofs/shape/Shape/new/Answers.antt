-- `Shape::new`: a head of five bytes, the bits of the kind, and an end within the slice. Assumes nothing.
use Rattle.std.proofs.Common.{le-leb, lt-ltb, ◌≡◌, ◌≤◌, ◌+◌, ℕ, ltb, get_or, length, refl, sym, ◌∙◌, arith, lit≤}
use Rattle.std.proofs.lemmas.Bool.{lt-leb}
use Rattle.prelude.specs.Laws.Cases.{if_true}
use Rattle.words.specs.Laws.Windows.{window_32}
use Rattle.places.specs.Starts.{start_from}
use Rattle.format.specs.Format.{bits_right}
use Rattle.format.specs.Places.{kind_at, map_at, start, end_of, shaped}
use Rattle.records.proofs.shape.Shape.new.Goals as goal
use Rattle.records.proofs.shape.Shape.new.Goals.{After-bits_right, After-get32-map, After-starts-at}

the_map : (c : After-get32-map) → c.get32-map.result ≡ map_at c.args.bytes.now c.args.o
the_map c = c.get32-map.ensures ∙ window_32 c.args.bytes.now (c.args.o + 1)

right : (c : After-bits_right) → c.bits_right.result ≡ bits_right (kind_at c.args.bytes.now c.args.o) (map_at c.args.bytes.now c.args.o)
right c = rw (← the_map (goal.at.After-bits_right c).After-get32-map) c.bits_right.ensures

ends : (c : After-starts-at) → (k : ℕ) → k ≤ 32 → get_or c.starts-at.result k 0 ≡ start c.args.bytes.now c.args.o (map_at c.args.bytes.now c.args.o) k
unfolding start_from
ends c k h =
    rw (← the_map (goal.at.After-starts-at c).After-get32-map)
    (c.starts-at.ensures k h ∙ if_true (ltb c.args.o 65536) _ _ (lt-ltb c.args.o 65536 c.requires))

pub returns-then-left_at-lt5-clause-err : goal.returns-then-left_at-lt5-clause-err
unfolding shaped
returns-then-left_at-lt5-clause-err c = rw (lt-leb (c.args.o + 5) (length c.args.bytes.now) (omega arith)) (refl, refl)

pub returns-then-not-bits_right-clause-err : goal.returns-then-not-bits_right-clause-err
unfolding shaped
returns-then-not-bits_right-clause-err c =
    rw (
      le-leb (c.args.o + 5) (length c.args.bytes.now) (omega arith),
      sym (right (goal.at.returns-then-not-bits_right-clause-err c).After-bits_right) ∙ c.if-not-bits_right.true,
    ) (refl, refl)

pub returns-then-bytes-at-clause-err : goal.returns-then-bytes-at-clause-err
unfolding shaped end_of
returns-then-bytes-at-clause-err c =
    rw (
      le-leb (c.args.o + 5) (length c.args.bytes.now) (omega arith),
      sym (right (goal.at.returns-then-bytes-at-clause-err c).After-bits_right) ∙ c.if-not-bits_right.false,
      ← ends (goal.at.returns-then-bytes-at-clause-err c).After-starts-at 32 (lit≤ tt),
      lt-leb _ _ c.if-bytes-at.true,
    ) (refl, refl)

pub invariant_of-result : goal.invariant_of-result
unfolding shaped end_of
invariant_of-result c = record {
  small = λ k. (c.type_inv.bytes k).fits;
  stands = record {
    is =
        rw (
          le-leb (c.args.o + 5) (length c.args.bytes.now) (omega arith),
          sym (right (goal.at.invariant_of-result c).After-bits_right) ∙ c.if-not-bits_right.false,
          ← ends (goal.at.invariant_of-result c).After-starts-at 32 (lit≤ tt),
          le-leb _ _ c.if-bytes-at.false,
        ) refl;
    map = the_map (goal.at.invariant_of-result c).After-get32-map;
    places = ends (goal.at.invariant_of-result c).After-starts-at;
  };
}
