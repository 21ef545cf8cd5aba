-- The frame of a message: body length and checksum. Rests on Message and Number.
use Rattle.std.specs.Prelude.{ℕ, ◌%◌, ◌≡◌, List, [], ◌∷◌, ◌++◌, true, length}
use Rattle.decimal.specs.Decimal.{is_digit, number_in}
use Rattle.fix_words.specs.Lists.{every}
use Rattle.fix_words.specs.Number.{IsNumber}
use Rattle.fix_words.specs.Spelling.{field, spellings}
use Rattle.fix_words.specs.Message.{Writing, version, inner, sum, bytes_for}

-- a message is 8 and 9, the body, and 10: 9 counts the bytes from behind its own end to before 10, and 10 is the sum of all bytes before it modulo
-- 256. 9's value is that count in decimal, 10's three digits, and no other byte.
pub record Frame (w : Writing) (length9 sum10 : List ℕ) : Type 0 where
  pub whole : bytes_for w ≡ spellings (field 8 version ∷ field 9 length9 ∷ []) ++ (spellings (inner w) ++ spellings (field 10 sum10 ∷ []))
  pub nine : IsNumber 0 (length (spellings (inner w))) length9
  pub ten : number_in sum10 ≡ sum (spellings (field 8 version ∷ field 9 length9 ∷ []) ++ spellings (inner w)) % 256
  pub three : length sum10 ≡ 3
  pub digits : every is_digit sum10 ≡ true
