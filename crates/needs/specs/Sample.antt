-- Two events' needs, by value: one that says nothing and adds a request, and one whose answer has two messages of different fields. Rests on Needs.
use Rattle.std.specs.Prelude.{ℕ, ◌+◌, ◌≡◌, refl, [], ◌∷◌}
use Rattle.prelude.specs.Below.{count_below}
use Rattle.prelude.specs.Cases.{if◌then◌otherwise◌}
use Rattle.prelude.specs.Texts.{contents, text_of}
use Rattle.bits.specs.Map.{map_of, standing}
use Rattle.format.specs.Format.{fields, size}
use Rattle.format.specs.Wire.{encode, field_bytes, body, bytes}
use Rattle.records.specs.declared.Record.{Record}
use Rattle.records.specs.Answer.{head_size}
use Rattle.records.specs.Fields.{text_by, short_bytes, long_bytes, spelled, words, held_by}
use Rattle.records.specs.Record.{record_bytes}
use Rattle.text.specs.Stored.{no_text}
use Rattle.machine.specs.Messages.{no_told, no_exec, no_long_text, cancel_reject, note_bits, bit_if}
use Rattle.needs.specs.declared.Needs.{Needs}
use Rattle.needs.specs.Needs.{answer_length, field_count, fields_of, added_count, needed}

-- a new order for venue 3: 100 of W at the market, under A. Fields 1 5 6 7 8 9: 5 + 2 + 2 + 2 + 1 + 1 + 8 bytes
abbrev new_order : Record
new_order = record {
  kind = 18;
  map = map_of (1 ∷ 5 ∷ 6 ∷ 7 ∷ 8 ∷ 9 ∷ []);
  client = 0;
  venue = 3;
  reason = 0;
  verdict = 0;
  ids = record {
    name = no_text;
    clordid = no_text;
    origclordid = no_text;
    downstream = text_of (65 ∷ []);
    symbol = text_of (87 ∷ []);
    venueorderid = no_text;
    origdownstream = no_text;
  };
  terms = record { side = 49; ordtype = 49; timeinforce = 0; qty = 1000000; price = 0 };
  exec = no_exec;
  told = no_told;
  text = no_long_text;
}

-- the reject of client 7's cancel C10 of C1, an unknown order. Fields 0 3 4 13 19 27 28 29: 5 + 2 + 4 + 3 + 1 + 4 + 1 + 1 + 1 bytes
abbrev reject : Record
reject = cancel_reject 7 no_text 56 (text_of (67 ∷ 49 ∷ 48 ∷ [])) (text_of (67 ∷ 49 ∷ [])) 1 (record { text = no_long_text; fixedtext = 6; reason = 1; origin = 1 })

abbrev needs : (length messages requests first second : ℕ) → Needs
needs length messages requests first second = record {
  refusal = 0;
  length = length;
  messages = messages;
  requests = requests;
  fields_first = first;
  fields_second = second;
}

silent : needed [] 1 ≡ needs head_size 0 1 0 0
unfolding needed answer_length fields_of added_count if◌then◌otherwise◌
silent = refl

both : needed (new_order ∷ reject ∷ []) 0 ≡ needs (head_size + 21 + 22) 2 0 6 8
unfolding needed answer_length fields_of added_count field_count standing count_below if◌then◌otherwise◌ record_bytes bytes body field_bytes encode size fields held_by spelled text_by short_bytes long_bytes words contents text_of cancel_reject note_bits bit_if
both = refl
