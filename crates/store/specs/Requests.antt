-- A request's record: what its bytes say, and the bytes that say it. Rests on Layout and Cells.
use Rattle.std.specs.Prelude.{◌≡◌, List, [], ◌∷◌, ℕ, ◌<◌, get_or, replicate}
use Rattle.std.specs.List.{concat}
use Rattle.prelude.specs.Number.{word16, bytes_of}
use Rattle.prelude.specs.Texts.{text_at, WholeText}
use Rattle.text.specs.Stored.{no_text}
use Rattle.store.specs.declared.Request.{Request}
use Rattle.store.specs.Layout.{request·order, request·kind, request·answered, request·clordid, request·origclordid, request·downstream, request·outcome}
use Rattle.store.specs.Cells.{text_bytes}

unfoldable pub decode_request : List ℕ → Request
decode_request s = record {
  order = word16 s request·order;
  kind = get_or s request·kind 0;
  answered = get_or s request·answered 0;
  clordid = text_at s request·clordid;
  origclordid = text_at s request·origclordid;
  downstream = text_at s request·downstream;
  outcome = get_or s request·outcome 0;
}

-- the same, field by field, as the code gives it
pub record IsRequest (s : List ℕ) (r : Request) : Type 0 where
  pub order : r.order ≡ word16 s request·order
  pub kind : r.kind ≡ get_or s request·kind 0
  pub answered : r.answered ≡ get_or s request·answered 0
  pub clordid : r.clordid ≡ text_at s request·clordid
  pub origclordid : r.origclordid ≡ text_at s request·origclordid
  pub downstream : r.downstream ≡ text_at s request·downstream
  pub outcome : r.outcome ≡ get_or s request·outcome 0

-- the widths of a record's pieces, 128 bytes in all, and the pieces: behind the fields 24 zeros
abbrev pub widths_request : List ℕ
widths_request = 2 ∷ 1 ∷ 1 ∷ 33 ∷ 33 ∷ 33 ∷ 1 ∷ 24 ∷ []

abbrev pub pieces_request : Request → List (List ℕ)
pieces_request r =
    bytes_of 2 r.order
    ∷ (r.kind ∷ [])
    ∷ (r.answered ∷ [])
    ∷ text_bytes r.clordid
    ∷ text_bytes r.origclordid
    ∷ text_bytes r.downstream
    ∷ (r.outcome ∷ [])
    ∷ replicate 24 0
    ∷ []

unfoldable pub encode_request : Request → List ℕ
encode_request r = concat (pieces_request r)

-- the record of zeros
abbrev pub no_request : Request
no_request = record { order = 0; kind = 0; answered = 0; clordid = no_text; origclordid = no_text; downstream = no_text; outcome = 0 }

-- numbers fit their widths and texts have 32 bytes, as in every value of the type: then the record that is written is read back
pub record WholeRequest (r : Request) : Type 0 where
  pub order : r.order < 65536
  pub kind : r.kind < 256
  pub answered : r.answered < 256
  pub clordid : WholeText r.clordid
  pub origclordid : WholeText r.origclordid
  pub downstream : WholeText r.downstream
  pub outcome : r.outcome < 256
