-- The call `fix_write`: what it returns, and what it leaves in the lent buffer. Rests on Record.
use Rattle.std.specs.Prelude.{ℕ, List, eqb, length}
use Rattle.prelude.specs.Cases.{if◌then◌otherwise◌}
use Rattle.prelude.specs.Span.{splice}
use Rattle.fix_claims.specs.declared.Written.{Written}
use Rattle.fix_words.specs.Record.{Session, write_refusal, write_of}

-- what the call returns, and what the lent buffer is then
pub record Wrote : Type 0 where
  pub returned : Written
  pub out : List ℕ

abbrev pub wrote : Written → List ℕ → Wrote
wrote r out = record { returned = r; out = out }

-- THE CALL: with a refusal nothing is written. Else the message stands at the front of the buffer, and its length is returned.
unfoldable pub write_call : List ℕ → Session → List ℕ → Wrote
write_call s n out =
    if eqb (write_refusal s n (length out)) 0
    then wrote (record { refusal = 0; length = length (write_of s n) }) (splice out 0 (write_of s n))
    otherwise wrote (record { refusal = write_refusal s n (length out); length = 0 }) out
