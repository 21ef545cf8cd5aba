-- The net position over lists: the machine's law of bought and sold apart, tied to the lines of the call. Rests on Calls and net's laws.
use Rattle.std.proofs.Common.{ℕ, zero-add, ◌≡◌, refl, sym, ap, ◌∙◌, subst, true, false, List, [], ◌∷◌}
use Rattle.prelude.specs.declared.Text.{Text}
use Rattle.prelude.specs.declared.Counted.{Counted}
use Rattle.store.specs.Book.{Book, book_of, blank, empty_book}
use Rattle.store.specs.Laws.Adds.{blank_book}
use Rattle.store.specs.Laws.Kept.{bytes_blank}
use Rattle.machine.specs.Calls.{Step, call, back, SinceReturn, state_of, follow, just_returned}
use Rattle.machine.specs.Since.{Net}
use Rattle.step.specs.Entries.{start_of, start_refusal}
use Rattle.net.specs.declared.Amounts.{Amounts}
use Rattle.net.specs.Net.{netted, filled_in, net_for, read_lines, Written, net_call}
use Rattle.net.specs.Promise.{IsWritten}
use Rattle.net.proofs.Laws.Sound.{net_right}
use Rattle.net.proofs.Laws.Ends.{sound_call}
use Rattle.claims.specs.Claims.{Call, entries, Passes}
use Rattle.claims.specs.Net.{reported, plus, Says, only_calls, start_calls, NetSinceOnBytes, NetOnBytes}
use Rattle.kept.proofs.Header.{blank_keeps}
use Rattle.claims.proofs.Taken.{check_kept, kept_check}
use Rattle.claims.proofs.Calls.{start_is, passing, since_on_bytes}

-- ---- the book that is held passes

held_passes : (is : List (Step entries Passes)) (s : SinceReturn entries) → Passes s.held → Passes (follow entries s is).held
held_passes [] s p = p
held_passes (call c ∷ is) s p = held_passes is _ (passing.stays s.held c p)
held_passes (back h g ∷ is) s p = held_passes is _ g

-- ---- the call on a book that passes

pub says : (b : List ℕ) → Passes b → Says b (filled_in (book_of b))
says b p scratch lines g h =
    let w : Written = net_call b scratch lines in
    let r : IsWritten b lines w = (sound_call b scratch lines).enough (kept_check b p.passes) g h in (
      ap (λ (x : Counted). x.refusal) r.returned,
      λ client symbol.
          ap (λ (x : Counted). net_for client symbol (read_lines x.number w.lines)) r.returned
          ∙ ap (net_for client symbol) (r.read p.bytes)
          ∙ net_right (book_of b) client symbol,
    )

-- with amounts that are the same
says_same : (b : List ℕ) (x y : (client : ℕ) (symbol : Text) → Amounts) → ((client : ℕ) (symbol : Text) → x client symbol ≡ y client symbol) → Says b x → Says b y
says_same b x y e f scratch lines g h = let r = f scratch lines g h in (r.0, λ client symbol. r.1 client symbol ∙ ap netted (e client symbol))

-- ---- the machine's law

held_is : (image : Book) (s : SinceReturn entries) → Net image (state_of entries s) → (client : ℕ) (symbol : Text)
    → filled_in (book_of s.held) client symbol ≡ plus (filled_in image client symbol) (reported client symbol s.past)
unfolding filled_in
held_is image s n client symbol = λ i. record { bought = sym (n true client symbol) i; sold = sym (n false client symbol) i }

pub net_since_on_bytes : NetSinceOnBytes
net_since_on_bytes b p is =
    let s = follow entries (just_returned entries b) is in
    says_same s.held (filled_in (book_of s.held)) (λ client symbol. plus (filled_in (book_of s.image) client symbol) (reported client symbol s.past))
    (held_is (book_of s.image) s (since_on_bytes b p is).1) (says s.held (held_passes is (just_returned entries b) p))

-- ---- from the empty book

calls_image : (cs : List Call) (s : SinceReturn entries) → (follow entries s (only_calls cs)).image ≡ s.image
calls_image [] s = refl
calls_image (c ∷ cs) s = calls_image cs _

pub start_passes : (b : List ℕ) (setting : ℕ) → start_refusal b ≡ 0 → Passes (start_of b setting)
start_passes b setting z =
    subst Passes (sym (start_is b setting z)) (record { bytes = bytes_blank setting; passes = check_kept (blank setting) (blank_keeps setting) })

-- nothing is bought or sold in it
empty_filled : (setting client : ℕ) (symbol : Text) (x : Amounts) → plus (filled_in (empty_book setting) client symbol) x ≡ x
unfolding filled_in
empty_filled setting client symbol x = λ i. record { bought = zero-add x.bought i; sold = zero-add x.sold i }

pub net_on_bytes : NetOnBytes
net_on_bytes b setting small z cs =
    let s = start_calls b setting cs in
    let e : book_of s.image ≡ empty_book setting = ap book_of (calls_image cs (just_returned entries (start_of b setting)) ∙ start_is b setting z) ∙ blank_book setting small in
    says_same s.held (λ client symbol. plus (filled_in (book_of s.image) client symbol) (reported client symbol s.past)) (λ client symbol. reported client symbol s.past)
    (λ client symbol. ap (λ (x : Book). plus (filled_in x client symbol) (reported client symbol s.past)) e ∙ empty_filled setting client symbol (reported client symbol s.past))
    (net_since_on_bytes (start_of b setting) (start_passes b setting z) (only_calls cs))
