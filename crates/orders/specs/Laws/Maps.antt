-- The maps of messages as code builds them, bit by bit from those that their kind must have, and that they are the machine's. Rests on
-- machine's Messages, format's table and bits.
use Rattle.std.specs.Prelude.{ℕ, ◌+◌, ◌-◌, ◌≡◌, refl, Bool, not, [], ◌∷◌, ◌⊎◌, eqb}
use Rattle.std.proofs.Common.{⊎_elim, eqb-true}
use Rattle.prelude.specs.Cases.{if◌then◌otherwise◌}
use Rattle.prelude.specs.declared.Terms.{Terms}
use Rattle.bits.specs.Map.{map_of, with_bit}
use Rattle.bits.specs.Laws.Tests.{each}
use Rattle.format.specs.Format.{required_bits, required}
use Rattle.format.specs.Codes.{limit}
use Rattle.machine.specs.Messages.{bit_if, terms_bits, note_bits}
use Rattle.machine.specs.declared.Note.{Note}
use Rattle.machine.specs.Constants.{report_kind, new_order_kind, cancel_request_kind, replace_request_kind}

-- ---- as code builds them

-- one more bit if the test holds
abbrev pub with_bit_if : ℕ → Bool → ℕ → ℕ
with_bit_if m t k = if t then with_bit m k otherwise m

unfoldable pub with_terms : ℕ → Terms → ℕ
with_terms m t = with_bit_if (with_bit_if m (eqb t.ordtype limit) 10) (not (eqb t.timeinforce 0)) 11

unfoldable pub with_note : ℕ → Note → ℕ
with_note m n =
    with_bit_if (with_bit_if (with_bit_if (with_bit_if m (not (eqb n.text.len 0)) 20) (not (eqb n.fixedtext 0)) 27) (not (eqb n.origin 0)) 19) (not (eqb n.origin 0)) 28

unfoldable pub report_map : (orig : Bool) → Terms → Note → ℕ
report_map orig t n = with_note (with_terms (with_bit_if (required report_kind) orig 4) t) n

unfoldable pub reject_map : (name : Bool) → Note → ℕ
reject_map name n = with_note (with_bit_if (with_bit (with_bit (with_bit (with_bit (with_bit 0 0) 3) 4) 13) 29) name 2) n

unfoldable pub venue_map : (kind : ℕ) (venueorderid : Bool) → Terms → ℕ
venue_map kind venueorderid t = with_terms (with_bit_if (required kind) venueorderid 18) t

-- the kinds that go to a venue, and the bits that one has beside those of a new order
abbrev pub ToVenue : ℕ → Type 0
ToVenue k = (k ≡ new_order_kind) ⊎ ((k ≡ cancel_request_kind) ⊎ (k ≡ replace_request_kind))

unfoldable pub extra_bits : ℕ → Bool → ℕ
extra_bits k v = (required k - required new_order_kind) + bit_if v 18

-- ---- they are the machine's

pub report_map_lem : (a : Bool) (t : Terms) (n : Note) → report_map a t n
    ≡ required report_kind + (bit_if a 4 + (terms_bits t + note_bits n))
unfolding report_map with_terms with_note with_bit required required_bits terms_bits note_bits bit_if if◌then◌otherwise◌
report_map_lem a t n =
    eqb-true _ _
    (each 6
    (λ a p i x f r. eqb
    (with_bit_if (with_bit_if (with_bit_if (with_bit_if (with_bit_if (with_bit_if (with_bit_if (required report_kind) a 4) p 10) i 11) x 20) f 27) r 19) r 28)
    (required report_kind + (bit_if a 4 + ((bit_if p 10 + bit_if i 11) + ((bit_if x 20 + bit_if f 27) + (bit_if r 19 + bit_if r 28))))))
    refl a (eqb t.ordtype limit) (not (eqb t.timeinforce 0)) (not (eqb n.text.len 0)) (not (eqb n.fixedtext 0)) (not (eqb n.origin 0)))

pub reject_map_lem : (a : Bool) (n : Note) → reject_map a n ≡ map_of (0 ∷ (3 ∷ (4 ∷ (13 ∷ (29 ∷ []))))) + (bit_if a 2 + note_bits n)
unfolding reject_map with_note with_bit note_bits bit_if if◌then◌otherwise◌
reject_map_lem a n =
    eqb-true _ _
    (each 4
    (λ a x f r. eqb
    (with_bit_if (with_bit_if (with_bit_if (with_bit_if (with_bit_if (with_bit (with_bit (with_bit (with_bit (with_bit 0 0) 3) 4) 13) 29) a 2) x 20) f 27) r 19) r 28)
    (map_of (0 ∷ (3 ∷ (4 ∷ (13 ∷ (29 ∷ []))))) + (bit_if a 2 + ((bit_if x 20 + bit_if f 27) + (bit_if r 19 + bit_if r 28)))))
    refl a (not (eqb n.text.len 0)) (not (eqb n.fixedtext 0)) (not (eqb n.origin 0)))

-- for one kind
abbrev Venue : ℕ → Terms → Bool → Type 0
Venue k t v = venue_map k v t ≡ map_of (1 ∷ (5 ∷ (6 ∷ (7 ∷ (8 ∷ (9 ∷ [])))))) + (extra_bits k v + terms_bits t)

abbrev same : (k : ℕ) (v p i : Bool) → Bool
same k v p i =
    eqb (with_bit_if (with_bit_if (with_bit_if (required k) v 18) p 10) i 11)
    (map_of (1 ∷ (5 ∷ (6 ∷ (7 ∷ (8 ∷ (9 ∷ [])))))) + (extra_bits k v + (bit_if p 10 + bit_if i 11)))

pub venue_map_lem : (k : ℕ) → ToVenue k → (v : Bool) (t : Terms) → Venue k t v
unfolding venue_map with_terms with_bit extra_bits required required_bits terms_bits bit_if if◌then◌otherwise◌
venue_map_lem k h v t =
    let p : Bool = eqb t.ordtype limit in
    let i : Bool = not (eqb t.timeinforce 0) in
    ⊎_elim
    (λ e. rw e (eqb-true _ _ (each 3 (same new_order_kind) refl v p i)))
    (⊎_elim
    (λ e. rw e (eqb-true _ _ (each 3 (same cancel_request_kind) refl v p i)))
    (λ e. rw e (eqb-true _ _ (each 3 (same replace_request_kind) refl v p i))))
    h
