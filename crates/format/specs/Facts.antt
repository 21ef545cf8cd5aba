-- Small records as bytes, and what is said of each: the refusals, computed. Rests on Refusal.
use Rattle.std.specs.Prelude.{ℕ, ◌≡◌, refl, List, [], ◌∷◌, ◌++◌, length, replicate}
use Rattle.prelude.specs.Cases.{if◌then◌otherwise◌}
use Rattle.prelude.specs.Below.{all_below}
use Rattle.prelude.specs.Span.{span}
use Rattle.prelude.specs.Texts.{text_of}
use Rattle.format.specs.Codes.{is_alnum, is_none, is_name}
use Rattle.format.specs.Format.{fields, size, range, in_range, is_kind, required_bits, allowed_bits, required, allowed, joined, bits_right}
use Rattle.format.specs.Places.{extent, next, start, strip, part, content, value, end_of, shaped, right_at}
use Rattle.format.specs.Refusal.{name_in, ranged, event_refusal}

-- a gateway cancel, event 9, of this name
abbrev cancel : List ℕ → List ℕ
cancel name = 9 ∷ 4 ∷ 0 ∷ 0 ∷ 0 ∷ length name ∷ name

-- a send again, event 8, from venue 1 under this downstream ClOrdID
abbrev again : List ℕ → List ℕ
again downstream = 8 ∷ 34 ∷ 0 ∷ 0 ∷ 0 ∷ 1 ∷ 0 ∷ length downstream ∷ downstream

-- A1, and NONE
abbrev a1 : List ℕ
a1 = 65 ∷ 49 ∷ []

abbrev none : List ℕ
none = 78 ∷ 79 ∷ 78 ∷ 69 ∷ []

pub record Facts : Type 0 where
  pub whole : event_refusal (cancel a1) ≡ 0
  pub nothing : event_refusal [] ≡ 3
  -- the length
  pub over : event_refusal (cancel a1 ++ (0 ∷ [])) ≡ 3
  pub short : event_refusal (9 ∷ 4 ∷ 0 ∷ 0 ∷ 0 ∷ 2 ∷ 65 ∷ []) ≡ 3
  -- the kind, and its bits
  pub unkind : event_refusal (10 ∷ 4 ∷ 0 ∷ 0 ∷ 0 ∷ 2 ∷ a1) ≡ 3
  pub more : event_refusal (9 ∷ 5 ∷ 0 ∷ 0 ∷ 0 ∷ 1 ∷ 0 ∷ 2 ∷ a1) ≡ 3
  pub less : event_refusal (8 ∷ 2 ∷ 0 ∷ 0 ∷ 0 ∷ 1 ∷ 0 ∷ []) ≡ 3
  -- a name
  pub noname : event_refusal (cancel []) ≡ 4
  pub most : event_refusal (cancel (replicate 20 65)) ≡ 0
  pub above : event_refusal (cancel (replicate 21 65)) ≡ 4
  pub letters : event_refusal (cancel (45 ∷ 49 ∷ [])) ≡ 4
  pub placeholder : event_refusal (cancel none) ≡ 4
  pub longer : event_refusal (cancel (none ++ (49 ∷ []))) ≡ 0
  -- a text that is no name
  pub downstream : event_refusal (again none) ≡ 0
  pub longest : event_refusal (again (replicate 32 45)) ≡ 0
  pub toolong : event_refusal (again (replicate 33 45)) ≡ 4
  -- 3 before 4
  pub both : event_refusal (cancel none ++ (0 ∷ [])) ≡ 3

pub facts : Facts
unfolding event_refusal shaped ranged name_in bits_right is_kind required allowed required_bits allowed_bits joined end_of start next extent size range fields right_at content strip part span value in_range is_name is_alnum is_none text_of all_below if◌then◌otherwise◌
facts = record {
  whole = refl;
  nothing = refl;
  over = refl;
  short = refl;
  unkind = refl;
  more = refl;
  less = refl;
  noname = refl;
  most = refl;
  above = refl;
  letters = refl;
  placeholder = refl;
  longer = refl;
  downstream = refl;
  longest = refl;
  toolong = refl;
  both = refl;
}
