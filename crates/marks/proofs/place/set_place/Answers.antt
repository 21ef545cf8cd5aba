-- `set_place` meets its contract: it gives the first place of the name, else the first free one. Rests on Places.
use Rattle.std.proofs.Common.{ℕ, ◌≡◌, List, refl, sym, ap, ◌∙◌, rules, Option, None, Some}
use Rattle.std.proofs.lemmas.Option.{MatchOption-at_none, MatchOption-at_some}
use Rattle.prelude.specs.Below.{first_below}
use Rattle.marks.specs.Marks.{place_count, has_name, is_free, is_of, set_place}
use Rattle.marks.proofs.Laws.Places.{set_again, set_fresh}
use Rattle.marks.proofs.place.set_place.Goals as goal

pub returns : goal.returns
returns c = go c.find.result refl
  where
    named : c.find.result ≡ first_below (is_of c.args.places.now c.args.name.now.letters.now) (place_count c.args.places.now)
    named = c.find.ensures ∙ ap (λ (x : List ℕ). first_below (has_name c.args.places.now x) (place_count c.args.places.now)) c.bytes.ensures

    go : (o : Option ℕ) → c.find.result ≡ o → c.or_else.result ≡ set_place c.args.places.now c.args.name.now.letters.now
    go None e =
        let k = MatchOption-at_none _ _ e c.or_else.ensures in
        let w : c.or_else.result ≡ first_below (is_free c.args.places.now) (place_count c.args.places.now) = search rules in
        w ∙ sym (set_fresh c.args.places.now c.args.name.now.letters.now (sym named ∙ e))
    go (Some i) e = MatchOption-at_some _ _ i e c.or_else.ensures ∙ sym (set_again c.args.places.now c.args.name.now.letters.now i (sym named ∙ e))
