-- One line: its width, that a stored symbol's first 16 bytes are its field, and that it is read as the position that it was written of. Rests on Net.
use Rattle.std.specs.Prelude.{ℕ, zero, suc, ◌+◌, ◌-◌, ◌^◌, ◌≤◌, ◌<◌, ◌≡◌, refl, true, List, [], ◌∷◌, ◌++◌, eqb, length, get_or, take, replicate}
use Rattle.std.proofs.Common.{sym, ap, ◌∙◌, arith, eq-eqb, ne_eqb, lt-ltb, le-ltb, length-append, length-take, take-take, take_at, get_or-append-add}
use Rattle.std.proofs.Math.Decide.{dec_le}
use Rattle.std.proofs.Math.ListN.{get_or-append}
use Rattle.std.proofs.Math.Seq.{take-append-add}
use Rattle.std.proofs.lemmas.Bool.{eqb-false}
use Rattle.std.proofs.lemmas.List.{length-replicate, get_or-replicate}
use Rattle.std.specs.List.{concat}
use Rattle.prelude.specs.Laws.Cases.{split_if, if_true, if_false}
use Rattle.prelude.specs.Number.{number, bytes_of}
use Rattle.prelude.specs.Laws.Number.{length_bytes, number_bytes}
use Rattle.prelude.specs.Pieces.{Sized, writes}
use Rattle.prelude.specs.Laws.Pieces.{length_joined, writes_joined, piece_at}
use Rattle.prelude.specs.Span.{span}
use Rattle.prelude.specs.Laws.Span.{splice_whole, span_span}
use Rattle.prelude.specs.Texts.{contents, text_of, is_text}
use Rattle.prelude.specs.Laws.Texts.{text_contents}
use Rattle.prelude.specs.declared.Text.{Text}
use Rattle.net.specs.Net.{difference, Position, padded, twos, fields, line_bytes, signed_of, read_line}
use Rattle.net.specs.Promise.{LineZeros}

-- ---- the symbol

take_zeros : (n m : ℕ) → n ≤ m → take {A = ℕ} n (replicate m 0) ≡ replicate n 0
take_zeros zero m h = refl
take_zeros (suc n) zero h = absurd (omega arith)
take_zeros (suc n) (suc m) h = ap (λ (l : List ℕ). 0 ∷ l) (take_zeros n m (omega arith))

short : (t : Text) → length (contents t) ≤ t.len
unfolding contents
short t = simp length-take (omega arith)

pub length_padded : (t : Text) → t.len ≤ 16 → length (padded 16 (contents t)) ≡ 16
unfolding padded
length_padded t h = simp (length-append, length-replicate) (omega (arith, short t))

-- the first 16 bytes of a symbol as it is stored
pub front : (t : Text) → length t.bytes ≡ 32 → is_text t ≡ true → t.len ≤ 16 → take 16 t.bytes ≡ padded 16 (contents t)
unfolding text_of padded
front t long e h =
    let c : List ℕ = contents t in
    let n : length c ≤ 16 = omega (arith, short t) in
    let w : 16 ≡ length c + (16 - length c) = omega arith in
    ap (λ (u : Text). take 16 u.bytes) (sym (text_contents t long e))
    ∙ take-take 16 32 (c ++ replicate 32 0) (omega arith)
    ∙ ap (λ (m : ℕ). take m (c ++ replicate 32 0)) w
    ∙ take-append-add c (replicate 32 0) (16 - length c)
    ∙ ap (λ (l : List ℕ). c ++ l) (take_zeros (16 - length c) 32 (omega arith))

pub line_zeros : LineZeros
unfolding line_bytes padded
line_zeros p k h u =
    let c : List ℕ = contents p.symbol in
    let z : List ℕ = replicate (16 - length c) 0 in
    let d : ℕ = k - length c in
    let e : k ≡ length c + d = omega arith in
    get_or-append-add (bytes_of 2 p.client ++ (p.symbol.len ∷ [])) ((c ++ z) ++ (bytes_of 8 (twos p.net) ++ [])) k 0
    ∙ get_or-append (c ++ z) (bytes_of 8 (twos p.net) ++ []) 0 k (simp (length-append, length-replicate) (omega arith))
    ∙ ap (λ (n : ℕ). get_or (c ++ z) n 0) e
    ∙ get_or-append-add c z d 0
    ∙ get_or-replicate (16 - length c) d 0 0 (omega arith)

-- ---- the net

-- as the code computes it
pub twos_above : (a b : ℕ) → b ≤ a → a - b ≡ twos (difference a b)
unfolding twos
twos_above a b h = sym (if_true _ _ _ (eq-eqb (b - a) 0 (omega arith)))

pub twos_below : (a b : ℕ) → a < b → 2 ^ 64 - (b - a) ≡ twos (difference a b)
unfolding twos
twos_below a b h = sym (if_false _ _ _ (ne_eqb (b - a) 0 (λ z. omega arith)))

pub twos_bound : (a b : ℕ) → a < 2 ^ 64 → twos (difference a b) < 2 ^ 64
unfolding twos
twos_bound a b h = split_if (λ n. n < 2 ^ 64) (eqb (b - a) 0) (λ e. omega arith) (λ e. let z : b - a ≡ 0 → ⊥ = eqb-false _ _ e in omega arith)

-- THE LAW: 64 bits are read as the signed number that they were written of
pub twos_read : (a b : ℕ) → a < 2 ^ 63 → b < 2 ^ 63 → signed_of (twos (difference a b)) ≡ difference a b
unfolding signed_of
twos_read a b ha hb = go (dec_le b a)
  where
    go : Dec (b ≤ a) → signed_of (twos (difference a b)) ≡ difference a b
    go (yes h) =
        let e : twos (difference a b) ≡ a - b = sym (twos_above a b h) in
        let y : (a - b) - 0 ≡ a - b = omega arith in
        let z : 0 - (a - b) ≡ b - a = omega arith in
        ap signed_of e ∙ if_true _ _ _ (lt-ltb (a - b) (2 ^ 63) (omega arith)) ∙ (λ i. record { above = y i; below = z i })
    go (no h) =
        let e : twos (difference a b) ≡ 2 ^ 64 - (b - a) = sym (twos_below a b (omega arith)) in
        let y : 0 - (2 ^ 64 - (2 ^ 64 - (b - a))) ≡ a - b = omega arith in
        let z : (2 ^ 64 - (2 ^ 64 - (b - a))) - 0 ≡ b - a = omega arith in
        ap signed_of e ∙ if_false _ _ _ (le-ltb (2 ^ 64 - (b - a)) (2 ^ 63) (omega arith)) ∙ (λ i. record { above = y i; below = z i })

-- ---- the line

abbrev pub widths : List ℕ
widths = 2 ∷ 1 ∷ 16 ∷ 8 ∷ []

pub sized : (client : ℕ) (symbol : Text) (net : ℕ) → symbol.len ≤ 16 → Sized widths (fields client symbol net)
sized client symbol net h = (length_bytes 2 client, (refl, (length_padded symbol h, (length_bytes 8 net, tt))))

-- its fields written one behind the other over 27 bytes
pub line_written : (s : List ℕ) (client : ℕ) (symbol : Text) (net : ℕ) → length s ≡ 27 → symbol.len ≤ 16
    → writes s 0 widths (fields client symbol net) ≡ concat (fields client symbol net)
line_written s client symbol net e h =
    let z : Sized widths (fields client symbol net) = sized client symbol net h in
    writes_joined widths (fields client symbol net) s 0 z (omega arith)
    ∙ splice_whole s (concat (fields client symbol net)) (length_joined widths (fields client symbol net) z ∙ sym e)

pub length_line : (p : Position) → p.symbol.len ≤ 16 → length (line_bytes p) ≡ 27
unfolding line_bytes
length_line p h = length_joined widths (fields p.client p.symbol (twos p.net)) (sized p.client p.symbol (twos p.net) h)

-- a position that a line can hold
pub record Fits (p : Position) : Type 0 where
  pub client : p.client < 65536
  pub long : length p.symbol.bytes ≡ 32
  pub text : is_text p.symbol ≡ true
  pub len : p.symbol.len ≤ 16
  pub net : signed_of (twos p.net) ≡ p.net
  pub bits : twos p.net < 2 ^ 64

length_contents : (t : Text) → length t.bytes ≡ 32 → t.len ≤ 16 → length (contents t) ≡ t.len
unfolding contents
length_contents t e h = simp length-take (omega arith)

-- THE LAW: a line is read as the position that it was written of
pub line_read : (p : Position) → Fits p → read_line (line_bytes p) ≡ p
unfolding line_bytes read_line span contents padded
line_read p f =
    let ps : List (List ℕ) = fields p.client p.symbol (twos p.net) in
    let z : Sized widths ps = sized p.client p.symbol (twos p.net) f.len in
    let c : List ℕ = contents p.symbol in
    let n : length c ≡ p.symbol.len = length_contents p.symbol f.long f.len in
    let len : number (span (concat ps) 2 1) ≡ p.symbol.len = ap number (piece_at widths ps 1 z) ∙ omega arith in
    λ i. record {
      client = (ap number (piece_at widths ps 0 z) ∙ number_bytes 2 p.client f.client) i;
      symbol =
          (ap (λ (k : ℕ). text_of (span (concat ps) 3 k)) len
          ∙ ap text_of (sym (span_span (concat ps) 3 16 0 p.symbol.len (omega (arith, f.len)))
          ∙ ap (λ (l : List ℕ). span l 0 p.symbol.len) (piece_at widths ps 2 z)
          ∙ take_at c (replicate (16 - length c) 0) p.symbol.len n)
          ∙ text_contents p.symbol f.long f.text) i;
      net = (ap (λ (l : List ℕ). signed_of (number l)) (piece_at widths ps 3 z) ∙ ap signed_of (number_bytes 8 (twos p.net) (omega (arith, f.bits))) ∙ f.net) i;
    }
