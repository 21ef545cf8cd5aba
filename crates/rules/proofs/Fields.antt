-- Each field of a record of the book, as it stands in the bytes: one list for an order's, and one for a request's. Rests on store's Fields.
use Rattle.store.specs.Laws.Fields.{order_client, names_name, names_clordid, names_downstream, names_symbol, names_venueorderid, terms_side, terms_ordtype, terms_timeinforce, terms_qty, terms_price, state_status, state_cumqty, state_avgpx, links_amendments, links_current, links_cancel, pending_request, pending_qty, pending_price, pending_ordtype, pending_timeinforce, gateway_unsent, gateway_stuck, gateway_tries, gateway_origdownstream, gateway_refusedsends, request_order, request_kind, request_answered, request_clordid, request_origclordid, request_downstream, request_outcome}

pub ruleset order_fields = (order_client, names_name, names_clordid, names_downstream, names_symbol, names_venueorderid, terms_side, terms_ordtype, terms_timeinforce, terms_qty, terms_price, state_status, state_cumqty, state_avgpx, links_amendments, links_current, links_cancel, pending_request, pending_qty, pending_price, pending_ordtype, pending_timeinforce, gateway_unsent, gateway_stuck, gateway_tries, gateway_origdownstream, gateway_refusedsends)

pub ruleset request_fields = (request_order, request_kind, request_answered, request_clordid, request_origclordid, request_downstream, request_outcome)
