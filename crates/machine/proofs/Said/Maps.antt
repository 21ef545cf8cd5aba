-- The presence maps of the machine's messages: which bits stand, by the tests that set them, and that each map is right for its kind. Rests on Messages and format.
-- A map is a sum of powers of two, some of them behind tests. The tests are taken as variables, so that each of their combinations is a number to compute with.
use Rattle.std.proofs.Common.{ℕ, ◌+◌, ◌^◌, ◌<◌, ◌≡◌, refl, Bool, true, false, not, ◌&&◌, ◌||◌, List, [], ◌∷◌, ltb, get_or, ltb-true}
use Rattle.std.proofs.lemmas.Bool.{and_parts}
use Rattle.prelude.specs.Below.{all_below}
use Rattle.prelude.specs.Laws.Below.{all_elim}
use Rattle.prelude.specs.Cases.{if◌then◌otherwise◌}
use Rattle.prelude.specs.Laws.Cases.{clash}
use Rattle.prelude.specs.Number.{bound}
use Rattle.format.specs.Format.{is_kind, required_bits, allowed_bits, required, allowed, joined, bits_right}
use Rattle.machine.specs.Messages.{bit_if}
use Rattle.bits.specs.Map.{map_of}
use Rattle.machine.proofs.Kept.Laws.{or_else}
use Rattle.machine.proofs.Said.Reads.{bit}
use Rattle.bits.specs.Laws.Tests.{each}

-- the bits of the map, as a list of tests, and that the map is right
pub record Mapped (kind map : ℕ) (l : List Bool) : Type 0 where
  pub bits : bits_right kind map ≡ true
  pub small : map < bound 4
  pub stands : (k : ℕ) → k < 32 → bit map k ≡ get_or l k false

-- ---- computed

abbrev alike : Bool → Bool → Bool
alike true b = b
alike false b = not b

alike_true : (a b : Bool) → alike a b ≡ true → a ≡ b
alike_true true true e = refl
alike_true true false e = clash false e refl
alike_true false true e = clash false e refl
alike_true false false e = refl

abbrev fits : ℕ → ℕ → List Bool → Bool
fits kind map l = bits_right kind map && (ltb map (bound 4) && all_below (λ k. alike (bit map k) (get_or l k false)) 32)

mapped : (kind map : ℕ) (l : List Bool) → fits kind map l ≡ true → Mapped kind map l
mapped kind map l e =
    let (a, e) = and_parts (bits_right kind map) _ e in
    let (c, d) = and_parts (ltb map (bound 4)) _ e in
    record { bits = a; small = ltb-true map (bound 4) c; stands = λ k h. alike_true (bit map k) (get_or l k false) (all_elim (λ k. alike (bit map k) (get_or l k false)) 32 d k h) }

-- ---- a report: an OrigClOrdID, a price, a time in force, a text, a fixed text, a reason

abbrev pub report_bits : (a p t x f r : Bool) → List Bool
report_bits a p t x f r =
    true ∷ false ∷ true ∷ true ∷ a ∷ false ∷ true ∷ true
    ∷ true ∷ true ∷ p ∷ t ∷ true ∷ true ∷ true ∷ false
    ∷ true ∷ true ∷ false ∷ r ∷ x ∷ false ∷ false ∷ false
    ∷ true ∷ true ∷ true ∷ f ∷ r ∷ false ∷ false ∷ true ∷ []

abbrev report_map : (a p t x f r : Bool) → ℕ
report_map a p t x f r =
    required 16 + (bit_if a 4 + (bit_if p 10 + bit_if t 11 + (bit_if x 20 + bit_if f 27 + (bit_if r 19 + bit_if r 28))))

pub report_mapped : (a p t x f r : Bool) → x && f ≡ false → Mapped 16 (report_map a p t x f r) (report_bits a p t x f r)
unfolding bit_if if◌then◌otherwise◌ bits_right is_kind required allowed required_bits allowed_bits joined all_below
report_mapped a p t x f r one =
    mapped 16 (report_map a p t x f r) (report_bits a p t x f r)
    (or_else (x && f) _ one (each 6 (λ a p t x f r. (x && f) || fits 16 (report_map a p t x f r) (report_bits a p t x f r)) refl a p t x f r))

-- ---- a cancel reject: a name, and either a text or a fixed text; it has a reason

abbrev pub reject_bits : (n x f r : Bool) → List Bool
reject_bits n x f r =
    true ∷ false ∷ n ∷ true ∷ true ∷ false ∷ false ∷ false
    ∷ false ∷ false ∷ false ∷ false ∷ false ∷ true ∷ false ∷ false
    ∷ false ∷ false ∷ false ∷ r ∷ x ∷ false ∷ false ∷ false
    ∷ false ∷ false ∷ false ∷ f ∷ r ∷ true ∷ false ∷ false ∷ []

abbrev reject_map : (n x f r : Bool) → ℕ
reject_map n x f r = map_of (0 ∷ (3 ∷ (4 ∷ (13 ∷ (29 ∷ []))))) + (bit_if n 2 + (bit_if x 20 + bit_if f 27 + (bit_if r 19 + bit_if r 28)))

pub reject_mapped : (n x f r : Bool) → x ≡ not f → r ≡ true → Mapped 17 (reject_map n x f r) (reject_bits n x f r)
unfolding bit_if if◌then◌otherwise◌ bits_right is_kind required allowed required_bits allowed_bits joined all_below
reject_mapped n x f r one reason =
    mapped 17 (reject_map n x f r) (reject_bits n x f r)
    (or_else (alike x f || not r) _ (rw (one, reason) (apart f))
    (each 4 (λ n x f r. (alike x f || not r) || fits 17 (reject_map n x f r) (reject_bits n x f r)) refl n x f r))
  where
    apart : (f : Bool) → alike (not f) f || false ≡ false
    apart true = refl
    apart false = refl

-- ---- to the venue: the venue's OrderID, the original downstream ClOrdID, a price, a time in force

abbrev pub venue_bits : (v d p t : Bool) → List Bool
venue_bits v d p t =
    false ∷ true ∷ false ∷ false ∷ false ∷ true ∷ true ∷ true
    ∷ true ∷ true ∷ p ∷ t ∷ false ∷ false ∷ false ∷ false
    ∷ false ∷ false ∷ v ∷ false ∷ false ∷ false ∷ false ∷ false
    ∷ false ∷ false ∷ false ∷ false ∷ false ∷ false ∷ d ∷ false ∷ []

abbrev venue_map : (bits : ℕ) (p t : Bool) → ℕ
venue_map bits p t = map_of (1 ∷ (5 ∷ (6 ∷ (7 ∷ (8 ∷ (9 ∷ [])))))) + (bits + (bit_if p 10 + bit_if t 11))

pub new_mapped : (p t : Bool) → Mapped 18 (venue_map 0 p t) (venue_bits false false p t)
unfolding bit_if if◌then◌otherwise◌ bits_right is_kind required allowed required_bits allowed_bits joined all_below
new_mapped p t = mapped 18 (venue_map 0 p t) (venue_bits false false p t) (each 2 (λ p t. fits 18 (venue_map 0 p t) (venue_bits false false p t)) refl p t)

pub cancel_mapped : (v p t : Bool) → Mapped 19 (venue_map (2 ^ 30 + bit_if v 18) p t) (venue_bits v true p t)
unfolding bit_if if◌then◌otherwise◌ bits_right is_kind required allowed required_bits allowed_bits joined all_below
cancel_mapped v p t = mapped 19 (venue_map (2 ^ 30 + bit_if v 18) p t) (venue_bits v true p t)
    (each 3 (λ v p t. fits 19 (venue_map (2 ^ 30 + bit_if v 18) p t) (venue_bits v true p t)) refl v p t)

pub replace_mapped : (v p t : Bool) → Mapped 20 (venue_map (2 ^ 30 + bit_if v 18) p t) (venue_bits v true p t)
unfolding bit_if if◌then◌otherwise◌ bits_right is_kind required allowed required_bits allowed_bits joined all_below
replace_mapped v p t = mapped 20 (venue_map (2 ^ 30 + bit_if v 18) p t) (venue_bits v true p t)
    (each 3 (λ v p t. fits 20 (venue_map (2 ^ 30 + bit_if v 18) p t) (venue_bits v true p t)) refl v p t)
