-- What the functions inside the crate promise each other: the words of their contracts. No promise to others rests on them.
-- Rests on Record and Answer.
use Rattle.std.specs.Prelude.{ℕ, ◌-◌, ◌<◌, ◌≤◌, Bool, true, List, ◌≡◌, get_or, drop}
use Rattle.prelude.specs.Below.{all_below}
use Rattle.prelude.specs.Cases.{if◌then◌otherwise◌}
use Rattle.prelude.specs.Number.{number}
use Rattle.bits.specs.Map.{bit}
use Rattle.format.specs.Format.{range, in_range}
use Rattle.format.specs.Laws.Seen.{between, held_at, right_in}
use Rattle.format.specs.Places.{start, strip, content, value, map_at, shaped}
use Rattle.format.specs.Refusal.{refusal_by, ranged}
use Rattle.records.specs.declared.Messages.{Messages}
use Rattle.records.specs.declared.Record.{Record}
use Rattle.records.specs.Answer.{head_size, messages_of, messages_from, shaped_from, ranged_from}
use Rattle.records.specs.Fields.{record_from, ids_of, long_of}

-- ---- the bytes of one field

-- the number in them, and whether it is in range
abbrev pub held_field : ℕ → ℕ → List ℕ → ℕ
held_field m b l = if bit m b then value b (strip b l) otherwise 0

abbrev pub right_field : ℕ → ℕ → List ℕ → Bool
right_field m b l = if bit m b then in_range (range b) (value b (strip b l)) otherwise true

-- ---- places and numbers

-- texts have room, and the fill price at most two words
pub record Short (at : List ℕ) : Type 0 where
  pub name : get_or at 3 0 - get_or at 2 0 ≤ 33
  pub clordid : get_or at 4 0 - get_or at 3 0 ≤ 33
  pub origclordid : get_or at 5 0 - get_or at 4 0 ≤ 33
  pub downstream : get_or at 6 0 - get_or at 5 0 ≤ 33
  pub symbol : get_or at 7 0 - get_or at 6 0 ≤ 33
  pub venueorderid : get_or at 19 0 - get_or at 18 0 ≤ 33
  pub text : get_or at 21 0 - get_or at 20 0 ≤ 65
  pub fillprice : get_or at 27 0 - get_or at 26 0 ≤ 16
  pub origdownstream : get_or at 31 0 - get_or at 30 0 ≤ 33

-- numbers fit the types of their fields
pub record Narrow (n : List ℕ) : Type 0 where
  pub client : get_or n 0 0 < 65536
  pub venue : get_or n 1 0 < 65536
  pub side : get_or n 7 0 < 256
  pub ordtype : get_or n 8 0 < 256
  pub timeinforce : get_or n 11 0 < 256
  pub exectype : get_or n 12 0 < 256
  pub status : get_or n 13 0 < 256
  pub reason : get_or n 19 0 < 4294967296
  pub verdict : get_or n 23 0 < 256
  pub fixedtext : get_or n 27 0 < 256
  pub origin : get_or n 28 0 < 256
  pub responseto : get_or n 29 0 < 256
  pub source : get_or n 31 0 < 256

-- what stands between two places behind a length byte
abbrev pub tail_at : List ℕ → List ℕ → ℕ → List ℕ
tail_at s at b = drop 1 (between s at b)

abbrev pub built_from : List ℕ → ℕ → ℕ → List ℕ → List ℕ → Record
built_from s k m at n = record_from k m n (number (drop 8 (between s at 26))) (ids_of (tail_at s at)) (long_of (tail_at s at 20))

-- ---- records

-- the map and the places of a record that has shape
pub record Shapes (s : List ℕ) (o m : ℕ) (at : List ℕ) : Type 0 where
  pub is : shaped s o ≡ true
  pub map : m ≡ map_at s o
  pub places : (k : ℕ) → k ≤ 32 → get_or at k 0 ≡ start s o (map_at s o) k

-- the numbers of its fields, each in its range
pub record Scanned (s : List ℕ) (m : ℕ) (at n : List ℕ) : Type 0 where
  pub right : all_below (right_in s m at) 32 ≡ true
  pub numbers : (b : ℕ) → b < 32 → get_or n b 0 ≡ held_at s m at b

-- and the name is one
pub record Numbered (s : List ℕ) (o : ℕ) (n : List ℕ) : Type 0 where
  pub right : ranged s o ≡ true
  pub numbers : (b : ℕ) → b < 32 → get_or n b 0 ≡ value b (content s o (map_at s o) b)

-- ---- messages: n of them that fill s behind the head

abbrev pub refusal_from : List ℕ → ℕ → ℕ
refusal_from s n = refusal_by (shaped_from s head_size n) (ranged_from s head_size n)

pub record MessagesIn (s : List ℕ) (n : ℕ) (ms : Messages) : Type 0 where
  pub shapes : shaped_from s head_size n ≡ true
  pub ranges : ranged_from s head_size n ≡ true
  pub messages : messages_of ms ≡ messages_from s head_size n
