-- Fields that were written are read. Rests on Spelling.
use Rattle.std.specs.Prelude.{ℕ, ◌≡◌, refl, List, [], ◌∷◌, ◌++◌, true}
use Rattle.std.proofs.Common.{sym, ap, ◌∙◌, append_assoc, arith, leb-true, ne_eqb, lit<}
use Rattle.std.proofs.lemmas.Bool.{and_parts, and_from}
use Rattle.decimal.specs.Decimal.{digits, number_in}
use Rattle.decimal.specs.Laws.Back.{digits_back}
use Rattle.fix_words.specs.Lists.{every, is_print, is_not, pieces}
use Rattle.fix_words.specs.Laws.Lists.{every_append, every_map, before_cut, after_cut, pieces_next}
use Rattle.fix_words.specs.Laws.Digits.{digits_not, digits_not_above}
use Rattle.fix_words.specs.Spelling.{Field, soh, equals, piece, spellings, field_in, fields_from, fields_in, printable}

pub spellings_append : (fs gs : List Field) → spellings (fs ++ gs) ≡ spellings fs ++ spellings gs
unfolding spellings
spellings_append [] gs = refl
spellings_append (f ∷ fs) gs =
    ap (λ (s : List ℕ). piece f ++ (soh ∷ s)) (spellings_append fs gs) ∙ sym (append_assoc (piece f) (soh ∷ spellings fs) (spellings gs))

pub printable_append : (fs gs : List Field) → printable fs ≡ true → printable gs ≡ true → printable (fs ++ gs) ≡ true
printable_append [] gs a b = b
printable_append (f ∷ fs) gs a b =
    let h = and_parts (every is_print f.value) (printable fs) a in
    and_from _ _ h.0 (printable_append fs gs h.1 b)

print_not : (v : List ℕ) → every is_print v ≡ true → every (is_not soh) v ≡ true
print_not v e = every_map is_print (is_not soh) (λ c h. rw (ne_eqb c soh (λ q. absurd (omega (arith, leb-true 32 c h))))) v e

piece_not : (f : Field) → every is_print f.value ≡ true → every (is_not soh) (piece f) ≡ true
unfolding piece
piece_not f e = every_append (is_not soh) (digits f.tag) (equals ∷ f.value) (digits_not soh f.tag (lit< tt)) (and_from _ _ refl (print_not f.value e))

piece_back : (f : Field) → field_in (piece f) ≡ f
unfolding field_in piece
piece_back f =
    let n = digits_not_above equals f.tag (lit< tt) in
    λ i. record {
      tag = (ap number_in (before_cut equals (digits f.tag) f.value n) ∙ digits_back f.tag) i;
      value = after_cut equals (digits f.tag) f.value n i;
    }

pub fields_back : (fs : List Field) → printable fs ≡ true → fields_in (spellings fs) ≡ fs
unfolding fields_in spellings pieces
fields_back [] e = refl
fields_back (f ∷ fs) e =
    let h = and_parts (every is_print f.value) (printable fs) e in
    ap fields_from (pieces_next soh (piece f) (spellings fs) (piece_not f h.0))
    ∙ (λ i. piece_back f i ∷ fields_back fs h.1 i)
