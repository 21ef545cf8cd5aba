-- Each field of a record in the book is a read of the bytes at the record's base and the field's offset: for rules that are decided on the bytes themselves.
-- Rests on Book and Cells.
use Rattle.std.specs.Prelude.{◌≡◌, List, ℕ, ◌+◌, get_or}
use Rattle.std.proofs.Common.{ap, ◌∙◌, arith}
use Rattle.prelude.specs.Number.{word16, word32, word64}
use Rattle.prelude.specs.Texts.{text_at}
use Rattle.prelude.specs.Span.{span}
use Rattle.words.specs.Laws.Windows.{within_8, within_16, within_32, within_64}
use Rattle.store.specs.Laws.Cells.{within_text}
use Rattle.store.specs.Layout.{order_size, request_size, order_base, request_base, order·client, order·venue, names·name, names·clordid, names·downstream, names·symbol, names·venueorderid, terms·side, terms·ordtype, terms·timeinforce, terms·qty, terms·price, state·status, state·cumqty, state·avgpx, state·execseq, links·amendments, links·current, links·cancel, pending·request, pending·qty, pending·price, pending·ordtype, pending·timeinforce, gateway·stage, gateway·tries, gateway·origdownstream, gateway·refusedsends, request·order, request·kind, request·answered, request·clordid, request·clordidLen, request·origclordid, request·downstream, request·outcome}
use Rattle.store.specs.Orders.{unsent_of, stuck_of, decode_order}
use Rattle.store.specs.Requests.{decode_request}
use Rattle.store.specs.Book.{order_at, request_at}

module _ (b : List ℕ) (i : ℕ) where
  pub order_client : (order_at b i).client ≡ word16 b (order_base i + order·client)
  unfolding order_at decode_order
  order_client = within_16 b (order_base i) order_size order·client (omega arith)

  pub order_venue : (order_at b i).venue ≡ word16 b (order_base i + order·venue)
  unfolding order_at decode_order
  order_venue = within_16 b (order_base i) order_size order·venue (omega arith)

  pub names_name : (order_at b i).names.name ≡ text_at b (order_base i + names·name)
  unfolding order_at decode_order
  names_name = within_text b (order_base i) order_size names·name (omega arith)

  pub names_clordid : (order_at b i).names.clordid ≡ text_at b (order_base i + names·clordid)
  unfolding order_at decode_order
  names_clordid = within_text b (order_base i) order_size names·clordid (omega arith)

  pub names_downstream : (order_at b i).names.downstream ≡ text_at b (order_base i + names·downstream)
  unfolding order_at decode_order
  names_downstream = within_text b (order_base i) order_size names·downstream (omega arith)

  pub names_symbol : (order_at b i).names.symbol ≡ text_at b (order_base i + names·symbol)
  unfolding order_at decode_order
  names_symbol = within_text b (order_base i) order_size names·symbol (omega arith)

  pub names_venueorderid : (order_at b i).names.venueorderid ≡ text_at b (order_base i + names·venueorderid)
  unfolding order_at decode_order
  names_venueorderid = within_text b (order_base i) order_size names·venueorderid (omega arith)

  pub terms_side : (order_at b i).terms.side ≡ get_or b (order_base i + terms·side) 0
  unfolding order_at decode_order
  terms_side = within_8 b (order_base i) order_size terms·side (omega arith)

  pub terms_ordtype : (order_at b i).terms.ordtype ≡ get_or b (order_base i + terms·ordtype) 0
  unfolding order_at decode_order
  terms_ordtype = within_8 b (order_base i) order_size terms·ordtype (omega arith)

  pub terms_timeinforce : (order_at b i).terms.timeinforce ≡ get_or b (order_base i + terms·timeinforce) 0
  unfolding order_at decode_order
  terms_timeinforce = within_8 b (order_base i) order_size terms·timeinforce (omega arith)

  pub terms_qty : (order_at b i).terms.qty ≡ word64 b (order_base i + terms·qty)
  unfolding order_at decode_order
  terms_qty = within_64 b (order_base i) order_size terms·qty (omega arith)

  pub terms_price : (order_at b i).terms.price ≡ word64 b (order_base i + terms·price)
  unfolding order_at decode_order
  terms_price = within_64 b (order_base i) order_size terms·price (omega arith)

  pub state_status : (order_at b i).state.status ≡ get_or b (order_base i + state·status) 0
  unfolding order_at decode_order
  state_status = within_8 b (order_base i) order_size state·status (omega arith)

  pub state_cumqty : (order_at b i).state.cumqty ≡ word64 b (order_base i + state·cumqty)
  unfolding order_at decode_order
  state_cumqty = within_64 b (order_base i) order_size state·cumqty (omega arith)

  pub state_avgpx : (order_at b i).state.avgpx ≡ word64 b (order_base i + state·avgpx)
  unfolding order_at decode_order
  state_avgpx = within_64 b (order_base i) order_size state·avgpx (omega arith)

  pub state_execseq : (order_at b i).state.execseq ≡ word64 b (order_base i + state·execseq)
  unfolding order_at decode_order
  state_execseq = within_64 b (order_base i) order_size state·execseq (omega arith)

  pub links_amendments : (order_at b i).links.amendments ≡ word16 b (order_base i + links·amendments)
  unfolding order_at decode_order
  links_amendments = within_16 b (order_base i) order_size links·amendments (omega arith)

  pub links_current : (order_at b i).links.current ≡ word16 b (order_base i + links·current)
  unfolding order_at decode_order
  links_current = within_16 b (order_base i) order_size links·current (omega arith)

  pub links_cancel : (order_at b i).links.cancel ≡ word16 b (order_base i + links·cancel)
  unfolding order_at decode_order
  links_cancel = within_16 b (order_base i) order_size links·cancel (omega arith)

  pub pending_request : (order_at b i).pending.request ≡ word16 b (order_base i + pending·request)
  unfolding order_at decode_order
  pending_request = within_16 b (order_base i) order_size pending·request (omega arith)

  pub pending_qty : (order_at b i).pending.qty ≡ word64 b (order_base i + pending·qty)
  unfolding order_at decode_order
  pending_qty = within_64 b (order_base i) order_size pending·qty (omega arith)

  pub pending_price : (order_at b i).pending.price ≡ word64 b (order_base i + pending·price)
  unfolding order_at decode_order
  pending_price = within_64 b (order_base i) order_size pending·price (omega arith)

  pub pending_ordtype : (order_at b i).pending.ordtype ≡ get_or b (order_base i + pending·ordtype) 0
  unfolding order_at decode_order
  pending_ordtype = within_8 b (order_base i) order_size pending·ordtype (omega arith)

  pub pending_timeinforce : (order_at b i).pending.timeinforce ≡ get_or b (order_base i + pending·timeinforce) 0
  unfolding order_at decode_order
  pending_timeinforce = within_8 b (order_base i) order_size pending·timeinforce (omega arith)

  pub gateway_unsent : (order_at b i).gateway.unsent ≡ unsent_of (get_or b (order_base i + gateway·stage) 0) (word16 b (order_base i + gateway·origdownstream))
  unfolding order_at decode_order
  gateway_unsent =
      ap (λ (n : ℕ). unsent_of n (word16 (span b (order_base i) order_size) gateway·origdownstream)) (within_8 b (order_base i) order_size gateway·stage (omega arith))
      ∙ ap (unsent_of (get_or b (order_base i + gateway·stage) 0)) (within_16 b (order_base i) order_size gateway·origdownstream (omega arith))

  pub gateway_stuck : (order_at b i).gateway.stuck ≡ stuck_of (get_or b (order_base i + gateway·stage) 0) (word16 b (order_base i + gateway·origdownstream))
  unfolding order_at decode_order
  gateway_stuck =
      ap (λ (n : ℕ). stuck_of n (word16 (span b (order_base i) order_size) gateway·origdownstream)) (within_8 b (order_base i) order_size gateway·stage (omega arith))
      ∙ ap (stuck_of (get_or b (order_base i + gateway·stage) 0)) (within_16 b (order_base i) order_size gateway·origdownstream (omega arith))

  pub gateway_tries : (order_at b i).gateway.tries ≡ get_or b (order_base i + gateway·tries) 0
  unfolding order_at decode_order
  gateway_tries = within_8 b (order_base i) order_size gateway·tries (omega arith)

  pub gateway_origdownstream : (order_at b i).gateway.origdownstream ≡ word16 b (order_base i + gateway·origdownstream)
  unfolding order_at decode_order
  gateway_origdownstream = within_16 b (order_base i) order_size gateway·origdownstream (omega arith)

  pub gateway_refusedsends : (order_at b i).gateway.refusedsends ≡ word32 b (order_base i + gateway·refusedsends)
  unfolding order_at decode_order
  gateway_refusedsends = within_32 b (order_base i) order_size gateway·refusedsends (omega arith)

  pub request_order : (request_at b i).order ≡ word16 b (request_base i + request·order)
  unfolding request_at decode_request
  request_order = within_16 b (request_base i) request_size request·order (omega arith)

  pub request_kind : (request_at b i).kind ≡ get_or b (request_base i + request·kind) 0
  unfolding request_at decode_request
  request_kind = within_8 b (request_base i) request_size request·kind (omega arith)

  pub request_answered : (request_at b i).answered ≡ get_or b (request_base i + request·answered) 0
  unfolding request_at decode_request
  request_answered = within_8 b (request_base i) request_size request·answered (omega arith)

  pub request_clordid : (request_at b i).clordid ≡ text_at b (request_base i + request·clordid)
  unfolding request_at decode_request
  request_clordid = within_text b (request_base i) request_size request·clordid (omega arith)

  pub request_origclordid : (request_at b i).origclordid ≡ text_at b (request_base i + request·origclordid)
  unfolding request_at decode_request
  request_origclordid = within_text b (request_base i) request_size request·origclordid (omega arith)

  pub request_downstream : (request_at b i).downstream ≡ text_at b (request_base i + request·downstream)
  unfolding request_at decode_request
  request_downstream = within_text b (request_base i) request_size request·downstream (omega arith)

  pub request_outcome : (request_at b i).outcome ≡ get_or b (request_base i + request·outcome) 0
  unfolding request_at decode_request
  request_outcome = within_8 b (request_base i) request_size request·outcome (omega arith)

  pub request_clordid_len : (request_at b i).clordid.len ≡ get_or b (request_base i + request·clordidLen) 0
  unfolding request_at decode_request
  request_clordid_len = within_8 b (request_base i) request_size request·clordidLen (omega arith)
