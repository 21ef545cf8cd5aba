-- What is written of an order is read back, and what is read is in range. Rests on Orders.
use Rattle.std.specs.Prelude.{◌≡◌, Bool, ◌&&◌, refl, true, false, List, [], ℕ, eqb, length, get_or}
use Rattle.std.proofs.Common.{sym, ap, ◌∙◌, arith, eqb-true, eq-eqb}
use Rattle.std.proofs.lemmas.Bool.{not-false}
use Rattle.std.specs.List.{concat}
use Rattle.prelude.specs.Cases.{if◌then◌otherwise◌}
use Rattle.prelude.specs.Laws.Cases.{clash}
use Rattle.prelude.specs.Span.{span}
use Rattle.prelude.specs.Laws.Span.{span_byte, splice_whole}
use Rattle.prelude.specs.Number.{Bytes, word16}
use Rattle.prelude.specs.Pieces.{offset, Sized, writes}
use Rattle.prelude.specs.Laws.Pieces.{writes_joined, length_joined, piece_at}
use Rattle.store.specs.declared.GatewayCancel.{GatewayCancel}
use Rattle.store.specs.declared.Order.{Order}
use Rattle.store.specs.Layout.{order_size, order·client, order·venue, names·name, names·clordid, names·downstream, names·symbol, names·venueorderid, terms·side, terms·ordtype, terms·timeinforce, terms·qty, terms·price, state·status, state·cumqty, state·avgpx, state·execseq, links·amendments, links·current, links·cancel, pending·request, pending·qty, pending·price, pending·ordtype, pending·timeinforce, gateway·stage, gateway·tries, gateway·origdownstream, gateway·refusedsends}
use Rattle.store.specs.Laws.Cells.{length_text, read_16, read_32, read_64, read_text, fits_16, fits_32, fits_64, fits_text}
use Rattle.store.specs.Orders.{malformed, unsent_of, stuck_of, stage_of, IsOrder, FitsOrder, OneStage, WholeOrder, decode_order, encode_order, widths_order, pieces_order}

-- the decoders' contract as one equation
pub is_order : (s : List ℕ) (r : Order) → IsOrder s r → r ≡ decode_order s
unfolding decode_order
is_order s r h = λ i. record {
  client = h.client i;
  venue = h.venue i;
  names = record { name = h.names.name i; clordid = h.names.clordid i; downstream = h.names.downstream i; symbol = h.names.symbol i; venueorderid = h.names.venueorderid i };
  terms = record { side = h.terms.side i; ordtype = h.terms.ordtype i; timeinforce = h.terms.timeinforce i; qty = h.terms.qty i; price = h.terms.price i };
  state = record { status = h.state.status i; cumqty = h.state.cumqty i; avgpx = h.state.avgpx i; execseq = h.state.execseq i };
  links = record { amendments = h.links.amendments i; current = h.links.current i; cancel = h.links.cancel i };
  pending = record { request = h.pending.request i; qty = h.pending.qty i; price = h.pending.price i; ordtype = h.pending.ordtype i; timeinforce = h.pending.timeinforce i };
  gateway = record { unsent = h.gateway.unsent i; stuck = h.gateway.stuck i; tries = h.gateway.tries i; origdownstream = h.gateway.origdownstream i; refusedsends = h.gateway.refusedsends i };
}

-- ---- the flags and the stage

module _ (g : GatewayCancel) (h : OneStage g) where
  pub unsent_stage : unsent_of (stage_of g) g.origdownstream ≡ g.unsent
  unfolding unsent_of malformed stage_of if◌then◌otherwise◌
  unsent_stage = go (eqb g.origdownstream 0) g.unsent g.stuck refl refl refl
    where
      go : (a u k : Bool) → eqb g.origdownstream 0 ≡ a → g.unsent ≡ u → g.stuck ≡ k → unsent_of (stage_of g) g.origdownstream ≡ g.unsent
      go true u k e p q = rw (e, (h.none (eqb-true g.origdownstream 0 e)).0)
      go false true k e p q = rw (e, p)
      go false false true e p q = rw (e, p, q)
      go false false false e p q = rw (e, p, q)

  pub stuck_stage : stuck_of (stage_of g) g.origdownstream ≡ g.stuck
  unfolding stuck_of malformed stage_of if◌then◌otherwise◌
  stuck_stage = go (eqb g.origdownstream 0) g.unsent g.stuck refl refl refl
    where
      go : (a u k : Bool) → eqb g.origdownstream 0 ≡ a → g.unsent ≡ u → g.stuck ≡ k → stuck_of (stage_of g) g.origdownstream ≡ g.stuck
      go true u k e p q = rw (e, (h.none (eqb-true g.origdownstream 0 e)).1)
      go false true true e p q = clash true refl (rw (p, q) at h.one)
      go false true false e p q = rw (e, p, q)
      go false false true e p q = rw (e, p, q)
      go false false false e p q = rw (e, p, q)

no_stage : (stage link : ℕ) → link ≡ 0 → malformed stage link ≡ false → stage ≡ 0
unfolding malformed if◌then◌otherwise◌
no_stage stage link z m = eqb-true stage 0 (not-false (eqb stage 0) (rw (eq-eqb link 0 z) at m))

-- flags that were read are those of one stage, unless both stand
pub read_stage : (stage link : ℕ) → unsent_of stage link && stuck_of stage link ≡ false → link ≡ 0 → (unsent_of stage link ≡ false) × (stuck_of stage link ≡ false)
unfolding unsent_of stuck_of
read_stage stage link n z = go (malformed stage link) refl
  where
    go : (b : Bool) → malformed stage link ≡ b → (unsent_of stage link ≡ false) × (stuck_of stage link ≡ false)
    go true m = clash true refl (rw m at n)
    go false m = (rw (m, no_stage stage link z m), rw (m, no_stage stage link z m))

-- ---- the record

module _ (o : Order) (h : FitsOrder o) where
  sized : Sized widths_order (pieces_order o)
  sized =
      (refl, (refl, (length_text o.names.name h.names.name.long, (length_text o.names.clordid h.names.clordid.long, (length_text o.names.downstream h.names.downstream.long, (length_text o.names.symbol h.names.symbol.long, (length_text o.names.venueorderid h.names.venueorderid.long, (refl, (refl, (refl, (refl, (refl, (refl, (refl, (refl, (refl, (refl, (refl, (refl, (refl, (refl, (refl, (refl, (refl, (refl, (refl, (refl, (refl, (refl, tt)))))))))))))))))))))))))))))

  pub length_order : length (encode_order o) ≡ order_size
  unfolding encode_order
  length_order = length_joined widths_order (pieces_order o) sized

  -- what the code writes is the record
  pub write_order : (s : List ℕ) → length s ≡ order_size → writes s order·client widths_order (pieces_order o) ≡ encode_order o
  unfolding encode_order
  write_order s l =
      let e : length (concat (pieces_order o)) ≡ length s = length_joined widths_order (pieces_order o) sized ∙ sym l in
      writes_joined widths_order (pieces_order o) s 0 sized (omega arith) ∙ splice_whole s (concat (pieces_order o)) e

  pub decode_order_lem : OneStage o.gateway → decode_order (encode_order o) ≡ o
  unfolding encode_order decode_order
  decode_order_lem one =
      let j : List ℕ = concat (pieces_order o) in
      let l : length j ≡ order_size = length_joined widths_order (pieces_order o) sized in
      let at : (k : ℕ) → span j (offset widths_order k) (get_or widths_order k 0) ≡ get_or (pieces_order o) k [] =
      λ k. piece_at widths_order (pieces_order o) k sized in
      let stage : get_or j gateway·stage 0 ≡ stage_of o.gateway = span_byte j gateway·stage (stage_of o.gateway) (at 24) in
      let link : word16 j gateway·origdownstream ≡ o.gateway.origdownstream = read_16 j gateway·origdownstream o.gateway.origdownstream (omega arith) h.gateway.origdownstream (at 26) in
      λ i. record {
        client = read_16 j order·client o.client (omega arith) h.client (at 0) i;
        venue = read_16 j order·venue o.venue (omega arith) h.venue (at 1) i;
        names = record {
          name = read_text j names·name o.names.name h.names.name.long (at 2) i;
          clordid = read_text j names·clordid o.names.clordid h.names.clordid.long (at 3) i;
          downstream = read_text j names·downstream o.names.downstream h.names.downstream.long (at 4) i;
          symbol = read_text j names·symbol o.names.symbol h.names.symbol.long (at 5) i;
          venueorderid = read_text j names·venueorderid o.names.venueorderid h.names.venueorderid.long (at 6) i;
        };
        terms = record {
          side = span_byte j terms·side o.terms.side (at 7) i;
          ordtype = span_byte j terms·ordtype o.terms.ordtype (at 8) i;
          timeinforce = span_byte j terms·timeinforce o.terms.timeinforce (at 9) i;
          qty = read_64 j terms·qty o.terms.qty (omega arith) h.terms.qty (at 10) i;
          price = read_64 j terms·price o.terms.price (omega arith) h.terms.price (at 11) i;
        };
        state = record {
          status = span_byte j state·status o.state.status (at 12) i;
          cumqty = read_64 j state·cumqty o.state.cumqty (omega arith) h.state.cumqty (at 13) i;
          avgpx = read_64 j state·avgpx o.state.avgpx (omega arith) h.state.avgpx (at 14) i;
          execseq = read_64 j state·execseq o.state.execseq (omega arith) h.state.execseq (at 15) i;
        };
        links = record {
          amendments = read_16 j links·amendments o.links.amendments (omega arith) h.links.amendments (at 16) i;
          current = read_16 j links·current o.links.current (omega arith) h.links.current (at 17) i;
          cancel = read_16 j links·cancel o.links.cancel (omega arith) h.links.cancel (at 18) i;
        };
        pending = record {
          request = read_16 j pending·request o.pending.request (omega arith) h.pending.request (at 19) i;
          qty = read_64 j pending·qty o.pending.qty (omega arith) h.pending.qty (at 20) i;
          price = read_64 j pending·price o.pending.price (omega arith) h.pending.price (at 21) i;
          ordtype = span_byte j pending·ordtype o.pending.ordtype (at 22) i;
          timeinforce = span_byte j pending·timeinforce o.pending.timeinforce (at 23) i;
        };
        gateway = record {
          unsent = (ap (λ (n : ℕ). unsent_of n (word16 j gateway·origdownstream)) stage ∙ ap (unsent_of (stage_of o.gateway)) link ∙ unsent_stage o.gateway one) i;
          stuck = (ap (λ (n : ℕ). stuck_of n (word16 j gateway·origdownstream)) stage ∙ ap (stuck_of (stage_of o.gateway)) link ∙ stuck_stage o.gateway one) i;
          tries = span_byte j gateway·tries o.gateway.tries (at 25) i;
          origdownstream = link i;
          refusedsends = read_32 j gateway·refusedsends o.gateway.refusedsends (omega arith) h.gateway.refusedsends (at 27) i;
        };
      }

-- an order that was read from bytes is in range, and whole unless both flags stand
module _ (s : List ℕ) (h : Bytes s) (l : length s ≡ order_size) where
  pub fits_order : FitsOrder (decode_order s)
  unfolding decode_order
  fits_order = record {
    client = fits_16 s h order·client;
    venue = fits_16 s h order·venue;
    names = record {
      name = fits_text s h names·name (omega arith);
      clordid = fits_text s h names·clordid (omega arith);
      downstream = fits_text s h names·downstream (omega arith);
      symbol = fits_text s h names·symbol (omega arith);
      venueorderid = fits_text s h names·venueorderid (omega arith);
    };
    terms = record {
      side = h terms·side;
      ordtype = h terms·ordtype;
      timeinforce = h terms·timeinforce;
      qty = fits_64 s h terms·qty;
      price = fits_64 s h terms·price;
    };
    state = record {
      status = h state·status;
      cumqty = fits_64 s h state·cumqty;
      avgpx = fits_64 s h state·avgpx;
      execseq = fits_64 s h state·execseq;
    };
    links = record {
      amendments = fits_16 s h links·amendments;
      current = fits_16 s h links·current;
      cancel = fits_16 s h links·cancel;
    };
    pending = record {
      request = fits_16 s h pending·request;
      qty = fits_64 s h pending·qty;
      price = fits_64 s h pending·price;
      ordtype = h pending·ordtype;
      timeinforce = h pending·timeinforce;
    };
    gateway = record {
      tries = h gateway·tries;
      origdownstream = fits_16 s h gateway·origdownstream;
      refusedsends = fits_32 s h gateway·refusedsends;
    };
  }

  pub whole_order : (decode_order s).gateway.unsent && (decode_order s).gateway.stuck ≡ false → WholeOrder (decode_order s)
  unfolding decode_order
  whole_order n = record { fits = fits_order; stage = record { one = n; none = λ z. read_stage (get_or s gateway·stage 0) (word16 s gateway·origdownstream) n z } }
