-- `load_request` meets its contract: it gives the request of its record, or that of zeros. Rests on Loaded.
use Rattle.std.proofs.Common.{ap, ◌∙◌}
use Rattle.store.specs.Requests.{decode_request}
use Rattle.store.specs.Book.{load_request, request_at}
use Rattle.store.proofs.Loaded.{loaded}
use Rattle.store.proofs.load_request.Goals as goal

pub returns : goal.returns
unfolding load_request request_at
returns c = loaded _ _ _ _ _ c.request_record.ensures c.map_or.ensures (λ a p q. q ∙ ap decode_request p)
