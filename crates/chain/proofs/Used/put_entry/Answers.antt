-- `Used::put_entry` meets its contract: its stores are the entry's parts, one behind the other. Rests on Entries.
use Rattle.std.proofs.Common.{ℕ, ◌≡◌, ◌+◌, ◌-◌, ◌≤◌, List, [], ◌∷◌, ◌++◌, length, get_or, take, drop, set, ap, ◌∙◌, arith, rules}
use Rattle.prelude.specs.Span.{splice}
use Rattle.prelude.specs.Laws.Span.{length_splice, set_splice, part_splice, part_span}
use Rattle.store.specs.Layout.{header·requests, most_requests, request_base, request·clordid, request·clordidLen, request·outcome}
use Rattle.store.specs.Laws.Stored.{count_most}
use Rattle.chain.specs.Laws.Walk.{kept_long}
use Rattle.chain.specs.Laws.Entries.{entry_written}
use Rattle.chain.proofs.Used.put_entry.Goals as goal

-- a byte, 32 bytes and a byte
three : (s w : List ℕ) (at x y : ℕ) → length w ≡ 32 → at + 34 ≤ length s
    → set (take (at + 1) (set s at x) ++ (w ++ drop ((at + 1 + 32) - (at + 1)) (drop (at + 1) (set s at x)))) (at + 1 + 32) y
    ≡ splice (splice (splice s at (x ∷ [])) (at + 1) w) (at + 1 + 32) (y ∷ [])
three s w at x y n h =
    let two : take (at + 1) (set s at x) ++ (w ++ drop ((at + 1 + 32) - (at + 1)) (drop (at + 1) (set s at x))) ≡ splice (splice s at (x ∷ [])) (at + 1) w =
    part_splice (set s at x) w (at + 1) 32 n ∙ ap (λ (l : List ℕ). splice l (at + 1) w) (set_splice s at x (omega arith)) in
    let one : length (splice s at (x ∷ [])) ≡ length s = length_splice s at (x ∷ []) (omega arith) in
    let long : length (splice (splice s at (x ∷ [])) (at + 1) w) ≡ length (splice s at (x ∷ [])) = length_splice (splice s at (x ∷ [])) (at + 1) w (omega arith) in
    ap (λ (l : List ℕ). set l (at + 1 + 32) y) two ∙ set_splice (splice (splice s at (x ∷ [])) (at + 1) w) (at + 1 + 32) y (omega arith)

pub returns : goal.returns
returns c =
    let u = c.args.self.now in
    let b = u.book.bytes.now in
    let at = c.args.at in
    let list = c.args.list.now in
    three list _ at _ _ (search rules) c.requires
    ∙ ap
    (λ (l : List ℕ). splice (splice (splice list at (get_or b (request_base u.k + request·clordidLen) 0 ∷ [])) (at + 1) l) (at + 1 + 32) (get_or b (request_base u.k + request·outcome) 0 ∷ []))
    (c.copy_from_slice.ensures.after ∙ part_span b (request_base u.k + request·clordid) 32)
    ∙ entry_written b u.k list at (kept_long b u.book.kept) (omega (arith, u.used, count_most header·requests most_requests b)) c.requires
