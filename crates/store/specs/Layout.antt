-- The layout of the book: every number of it, once. docs/LAYOUT.md is the same as a table. Rests on nothing.
use Rattle.std.specs.Prelude.{ℕ, ◌+◌, ◌*◌}

abbrev pub book_size : ℕ
book_size = 65536

-- the header: two counts and the setting
abbrev pub header·orders : ℕ
header·orders = 0

abbrev pub header·requests : ℕ
header·requests = 2

abbrev pub header·setting : ℕ
header·setting = 4

-- the tables: where each starts, the size of a record, and how many it has
abbrev pub orders_at : ℕ
orders_at = 256

abbrev pub order_size : ℕ
order_size = 256

abbrev pub most_orders : ℕ
most_orders = 64

abbrev pub requests_at : ℕ
requests_at = 16640

abbrev pub request_size : ℕ
request_size = 128

abbrev pub most_requests : ℕ
most_requests = 256

-- where record i starts
abbrev pub order_base : ℕ → ℕ
order_base i = orders_at + i * order_size

abbrev pub request_base : ℕ → ℕ
request_base i = requests_at + i * request_size

-- behind the tables, a word for each order that the table has room for: if the order is its client's first, the client's open quantity
abbrev pub opens_at : ℕ
opens_at = 49408

abbrev pub open_size : ℕ
open_size = 8

abbrev pub open_base : ℕ → ℕ
open_base i = opens_at + i * open_size

-- ---- an order's fields, from the start of its record

abbrev pub order·client : ℕ
order·client = 0

abbrev pub order·venue : ℕ
order·venue = 2

abbrev pub names·name : ℕ
names·name = 4

abbrev pub names·clordid : ℕ
names·clordid = 37

abbrev pub names·downstream : ℕ
names·downstream = 70

abbrev pub names·symbol : ℕ
names·symbol = 103

abbrev pub names·venueorderid : ℕ
names·venueorderid = 136

abbrev pub terms·side : ℕ
terms·side = 169

abbrev pub terms·ordtype : ℕ
terms·ordtype = 170

abbrev pub terms·timeinforce : ℕ
terms·timeinforce = 171

abbrev pub terms·qty : ℕ
terms·qty = 172

abbrev pub terms·price : ℕ
terms·price = 180

abbrev pub state·status : ℕ
state·status = 188

abbrev pub state·cumqty : ℕ
state·cumqty = 189

abbrev pub state·avgpx : ℕ
state·avgpx = 197

abbrev pub state·execseq : ℕ
state·execseq = 205

abbrev pub links·amendments : ℕ
links·amendments = 213

abbrev pub links·current : ℕ
links·current = 215

abbrev pub links·cancel : ℕ
links·cancel = 217

abbrev pub pending·request : ℕ
pending·request = 219

abbrev pub pending·qty : ℕ
pending·qty = 221

abbrev pub pending·price : ℕ
pending·price = 229

abbrev pub pending·ordtype : ℕ
pending·ordtype = 237

abbrev pub pending·timeinforce : ℕ
pending·timeinforce = 238

abbrev pub gateway·stage : ℕ
gateway·stage = 239

abbrev pub gateway·tries : ℕ
gateway·tries = 240

abbrev pub gateway·origdownstream : ℕ
gateway·origdownstream = 241

abbrev pub gateway·refusedsends : ℕ
gateway·refusedsends = 243

-- written as zeros, never read
abbrev pub order·spare : ℕ
order·spare = 247

-- ---- a request's fields

abbrev pub request·order : ℕ
request·order = 0

abbrev pub request·kind : ℕ
request·kind = 2

abbrev pub request·answered : ℕ
request·answered = 3

abbrev pub request·clordid : ℕ
request·clordid = 4

-- the length of a text stands behind its 32 bytes
abbrev pub request·clordidLen : ℕ
request·clordidLen = request·clordid + 32

abbrev pub request·origclordid : ℕ
request·origclordid = 37

abbrev pub request·downstream : ℕ
request·downstream = 70

abbrev pub request·outcome : ℕ
request·outcome = 103

-- beside the fields, and no part of the book that the bytes are: the link of the request that the OrigClOrdID names
abbrev pub request·origin : ℕ
request·origin = 104
