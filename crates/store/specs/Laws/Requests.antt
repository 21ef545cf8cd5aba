-- What is written of a request is read back, and what is read is in range. Rests on Requests.
use Rattle.std.specs.Prelude.{◌≡◌, refl, List, [], ℕ, length, get_or}
use Rattle.std.proofs.Common.{sym, ◌∙◌, arith}
use Rattle.std.specs.List.{concat}
use Rattle.prelude.specs.Span.{span}
use Rattle.prelude.specs.Number.{Bytes}
use Rattle.prelude.specs.Pieces.{offset, Sized, writes}
use Rattle.prelude.specs.Laws.Span.{span_byte, splice_whole}
use Rattle.prelude.specs.Laws.Pieces.{writes_joined, length_joined, piece_at}
use Rattle.store.specs.declared.Request.{Request}
use Rattle.store.specs.Layout.{request_size, request·order, request·kind, request·answered, request·clordid, request·origclordid, request·downstream, request·outcome}
use Rattle.store.specs.Laws.Cells.{length_text, read_16, read_text, fits_16, fits_text}
use Rattle.store.specs.Requests.{IsRequest, WholeRequest, decode_request, encode_request, pieces_request, widths_request}

pub is_request : (s : List ℕ) (r : Request) → IsRequest s r → r ≡ decode_request s
unfolding decode_request
is_request s r h = λ i. record {
  order = h.order i;
  kind = h.kind i;
  answered = h.answered i;
  clordid = h.clordid i;
  origclordid = h.origclordid i;
  downstream = h.downstream i;
  outcome = h.outcome i;
}

module _ (r : Request) (h : WholeRequest r) where
  sized : Sized widths_request (pieces_request r)
  sized = (
    refl,
    (refl, (refl, (length_text r.clordid h.clordid.long, (length_text r.origclordid h.origclordid.long, (length_text r.downstream h.downstream.long, (refl, (refl, tt))))))),
  )

  pub length_request : length (encode_request r) ≡ request_size
  unfolding encode_request
  length_request = length_joined widths_request (pieces_request r) sized

  -- what the code writes is the record
  pub write_request : (s : List ℕ) → length s ≡ request_size → writes s request·order widths_request (pieces_request r) ≡ encode_request r
  unfolding encode_request
  write_request s l =
      let e : length (concat (pieces_request r)) ≡ length s = length_joined widths_request (pieces_request r) sized ∙ sym l in
      writes_joined widths_request (pieces_request r) s 0 sized (omega arith) ∙ splice_whole s (concat (pieces_request r)) e

  pub decode_request_lem : decode_request (encode_request r) ≡ r
  unfolding encode_request decode_request
  decode_request_lem =
      let j : List ℕ = concat (pieces_request r) in
      let l : length j ≡ request_size = length_joined widths_request (pieces_request r) sized in
      let at : (k : ℕ) → span j (offset widths_request k) (get_or widths_request k 0) ≡ get_or (pieces_request r) k [] =
      λ k. piece_at widths_request (pieces_request r) k sized in
      λ i. record {
        order = read_16 j request·order r.order (omega arith) h.order (at 0) i;
        kind = span_byte j request·kind r.kind (at 1) i;
        answered = span_byte j request·answered r.answered (at 2) i;
        clordid = read_text j request·clordid r.clordid h.clordid.long (at 3) i;
        origclordid = read_text j request·origclordid r.origclordid h.origclordid.long (at 4) i;
        downstream = read_text j request·downstream r.downstream h.downstream.long (at 5) i;
        outcome = span_byte j request·outcome r.outcome (at 6) i;
      }

-- a request that was read from bytes is whole
pub whole_request : (s : List ℕ) → Bytes s → length s ≡ request_size → WholeRequest (decode_request s)
unfolding decode_request
whole_request s h l = record {
  order = fits_16 s h request·order;
  kind = h request·kind;
  answered = h request·answered;
  clordid = fits_text s h request·clordid (omega arith);
  origclordid = fits_text s h request·origclordid (omega arith);
  downstream = fits_text s h request·downstream (omega arith);
  outcome = h request·outcome;
}
