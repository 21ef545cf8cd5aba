-- `requests::decode` meets its contract: it reads the record's fields one by one. Rests on the laws of the record.
use Rattle.std.proofs.Common.{rules}
use Rattle.store.specs.Laws.Requests.{is_request}
use Rattle.store.proofs.requests.decode.Goals as goal

pub returns : goal.returns
returns c = is_request _ _ (search rules)
