-- An order's record: what its bytes say, and the bytes that say it, group by group. Rests on Layout and Cells.
-- The two flags of the gateway cancel are one byte, its stage: 0 none, 1 unsent, 2 sent, 3 stuck.
use Rattle.std.specs.Prelude.{◌≡◌, Bool, false, not, ◌&&◌, ◌||◌, List, [], ◌∷◌, ◌++◌, ℕ, ◌<◌, eqb, ltb, get_or, replicate}
use Rattle.std.specs.List.{concat}
use Rattle.prelude.specs.Cases.{if◌then◌otherwise◌}
use Rattle.prelude.specs.Number.{word16, word32, word64, bytes_of, bound}
use Rattle.prelude.specs.Texts.{text_at, WholeText}
use Rattle.prelude.specs.declared.Terms.{Terms}
use Rattle.text.specs.Stored.{no_text}
use Rattle.store.specs.declared.Names.{Names}
use Rattle.store.specs.declared.State.{State}
use Rattle.store.specs.declared.Links.{Links}
use Rattle.store.specs.declared.Pending.{Pending}
use Rattle.store.specs.declared.GatewayCancel.{GatewayCancel}
use Rattle.store.specs.declared.Order.{Order}
use Rattle.store.specs.Layout.{order·client, order·venue, names·name, names·clordid, names·downstream, names·symbol, names·venueorderid, terms·side, terms·ordtype, terms·timeinforce, terms·qty, terms·price, state·status, state·cumqty, state·avgpx, state·execseq, links·amendments, links·current, links·cancel, pending·request, pending·qty, pending·price, pending·ordtype, pending·timeinforce, gateway·stage, gateway·tries, gateway·origdownstream, gateway·refusedsends}
use Rattle.store.specs.Cells.{text_bytes}

-- ---- the stage of a gateway cancel, with the link that says whether there is one

-- there is no stage without a link, and with one there is a stage from 1 to 3
unfoldable pub malformed : ℕ → ℕ → Bool
malformed stage link = if eqb link 0 then not (eqb stage 0) otherwise (eqb stage 0 || ltb 3 stage)

-- a malformed pair shows both flags, which no rule allows
unfoldable pub unsent_of : ℕ → ℕ → Bool
unsent_of stage link = malformed stage link || eqb stage 1

unfoldable pub stuck_of : ℕ → ℕ → Bool
stuck_of stage link = malformed stage link || eqb stage 3

unfoldable pub stage_of : GatewayCancel → ℕ
stage_of g = if eqb g.origdownstream 0 then 0 otherwise if g.unsent then 1 otherwise if g.stuck then 3 otherwise 2

-- ---- names: as the code reads it, its pieces, and what every value has

pub record IsNames (s : List ℕ) (r : Names) : Type 0 where
  pub name : r.name ≡ text_at s names·name
  pub clordid : r.clordid ≡ text_at s names·clordid
  pub downstream : r.downstream ≡ text_at s names·downstream
  pub symbol : r.symbol ≡ text_at s names·symbol
  pub venueorderid : r.venueorderid ≡ text_at s names·venueorderid

abbrev pub widths_names : List ℕ
widths_names = 33 ∷ 33 ∷ 33 ∷ 33 ∷ 33 ∷ []

abbrev pub pieces_names : Names → List (List ℕ)
pieces_names r = text_bytes r.name ∷ text_bytes r.clordid ∷ text_bytes r.downstream ∷ text_bytes r.symbol ∷ text_bytes r.venueorderid ∷ []

pub record FitsNames (r : Names) : Type 0 where
  pub name : WholeText r.name
  pub clordid : WholeText r.clordid
  pub downstream : WholeText r.downstream
  pub symbol : WholeText r.symbol
  pub venueorderid : WholeText r.venueorderid

-- ---- terms: as the code reads it, its pieces, and what every value has

pub record IsTerms (s : List ℕ) (r : Terms) : Type 0 where
  pub side : r.side ≡ get_or s terms·side 0
  pub ordtype : r.ordtype ≡ get_or s terms·ordtype 0
  pub timeinforce : r.timeinforce ≡ get_or s terms·timeinforce 0
  pub qty : r.qty ≡ word64 s terms·qty
  pub price : r.price ≡ word64 s terms·price

abbrev pub widths_terms : List ℕ
widths_terms = 1 ∷ 1 ∷ 1 ∷ 8 ∷ 8 ∷ []

abbrev pub pieces_terms : Terms → List (List ℕ)
pieces_terms r = (r.side ∷ []) ∷ (r.ordtype ∷ []) ∷ (r.timeinforce ∷ []) ∷ bytes_of 8 r.qty ∷ bytes_of 8 r.price ∷ []

pub record FitsTerms (r : Terms) : Type 0 where
  pub side : r.side < 256
  pub ordtype : r.ordtype < 256
  pub timeinforce : r.timeinforce < 256
  pub qty : r.qty < bound 8
  pub price : r.price < bound 8

-- ---- state: as the code reads it, its pieces, and what every value has

pub record IsState (s : List ℕ) (r : State) : Type 0 where
  pub status : r.status ≡ get_or s state·status 0
  pub cumqty : r.cumqty ≡ word64 s state·cumqty
  pub avgpx : r.avgpx ≡ word64 s state·avgpx
  pub execseq : r.execseq ≡ word64 s state·execseq

abbrev pub widths_state : List ℕ
widths_state = 1 ∷ 8 ∷ 8 ∷ 8 ∷ []

abbrev pub pieces_state : State → List (List ℕ)
pieces_state r = (r.status ∷ []) ∷ bytes_of 8 r.cumqty ∷ bytes_of 8 r.avgpx ∷ bytes_of 8 r.execseq ∷ []

pub record FitsState (r : State) : Type 0 where
  pub status : r.status < 256
  pub cumqty : r.cumqty < bound 8
  pub avgpx : r.avgpx < bound 8
  pub execseq : r.execseq < bound 8

-- ---- links: as the code reads it, its pieces, and what every value has

pub record IsLinks (s : List ℕ) (r : Links) : Type 0 where
  pub amendments : r.amendments ≡ word16 s links·amendments
  pub current : r.current ≡ word16 s links·current
  pub cancel : r.cancel ≡ word16 s links·cancel

abbrev pub widths_links : List ℕ
widths_links = 2 ∷ 2 ∷ 2 ∷ []

abbrev pub pieces_links : Links → List (List ℕ)
pieces_links r = bytes_of 2 r.amendments ∷ bytes_of 2 r.current ∷ bytes_of 2 r.cancel ∷ []

pub record FitsLinks (r : Links) : Type 0 where
  pub amendments : r.amendments < 65536
  pub current : r.current < 65536
  pub cancel : r.cancel < 65536

-- ---- pending: as the code reads it, its pieces, and what every value has

pub record IsPending (s : List ℕ) (r : Pending) : Type 0 where
  pub request : r.request ≡ word16 s pending·request
  pub qty : r.qty ≡ word64 s pending·qty
  pub price : r.price ≡ word64 s pending·price
  pub ordtype : r.ordtype ≡ get_or s pending·ordtype 0
  pub timeinforce : r.timeinforce ≡ get_or s pending·timeinforce 0

abbrev pub widths_pending : List ℕ
widths_pending = 2 ∷ 8 ∷ 8 ∷ 1 ∷ 1 ∷ []

abbrev pub pieces_pending : Pending → List (List ℕ)
pieces_pending r = bytes_of 2 r.request ∷ bytes_of 8 r.qty ∷ bytes_of 8 r.price ∷ (r.ordtype ∷ []) ∷ (r.timeinforce ∷ []) ∷ []

pub record FitsPending (r : Pending) : Type 0 where
  pub request : r.request < 65536
  pub qty : r.qty < bound 8
  pub price : r.price < bound 8
  pub ordtype : r.ordtype < 256
  pub timeinforce : r.timeinforce < 256

-- ---- gateway: as the code reads it, its pieces, and what every value has

pub record IsGateway (s : List ℕ) (r : GatewayCancel) : Type 0 where
  pub unsent : r.unsent ≡ unsent_of (get_or s gateway·stage 0) (word16 s gateway·origdownstream)
  pub stuck : r.stuck ≡ stuck_of (get_or s gateway·stage 0) (word16 s gateway·origdownstream)
  pub tries : r.tries ≡ get_or s gateway·tries 0
  pub origdownstream : r.origdownstream ≡ word16 s gateway·origdownstream
  pub refusedsends : r.refusedsends ≡ word32 s gateway·refusedsends

abbrev pub widths_gateway : List ℕ
widths_gateway = 1 ∷ 1 ∷ 2 ∷ 4 ∷ []

abbrev pub pieces_gateway : GatewayCancel → List (List ℕ)
pieces_gateway r = (stage_of r ∷ []) ∷ (r.tries ∷ []) ∷ bytes_of 2 r.origdownstream ∷ bytes_of 4 r.refusedsends ∷ []

pub record FitsGateway (r : GatewayCancel) : Type 0 where
  pub tries : r.tries < 256
  pub origdownstream : r.origdownstream < 65536
  pub refusedsends : r.refusedsends < bound 4

-- ---- the whole record

pub record IsOrder (s : List ℕ) (r : Order) : Type 0 where
  pub client : r.client ≡ word16 s order·client
  pub venue : r.venue ≡ word16 s order·venue
  pub names : IsNames s r.names
  pub terms : IsTerms s r.terms
  pub state : IsState s r.state
  pub links : IsLinks s r.links
  pub pending : IsPending s r.pending
  pub gateway : IsGateway s r.gateway

-- numbers fit their widths and texts have 32 bytes, as in every value of the type
pub record FitsOrder (r : Order) : Type 0 where
  pub client : r.client < 65536
  pub venue : r.venue < 65536
  pub names : FitsNames r.names
  pub terms : FitsTerms r.terms
  pub state : FitsState r.state
  pub links : FitsLinks r.links
  pub pending : FitsPending r.pending
  pub gateway : FitsGateway r.gateway

-- the flags are those of one stage: not both, and neither if there is no gateway cancel
pub record OneStage (g : GatewayCancel) : Type 0 where
  pub one : g.unsent && g.stuck ≡ false
  pub none : g.origdownstream ≡ 0 → (g.unsent ≡ false) × (g.stuck ≡ false)

-- an order that the layout can write: what is stored is loaded
pub record WholeOrder (o : Order) : Type 0 where
  pub fits : FitsOrder o
  pub stage : OneStage o.gateway

unfoldable pub decode_order : List ℕ → Order
decode_order s = record {
  client = word16 s order·client;
  venue = word16 s order·venue;
  names = record {
    name = text_at s names·name;
    clordid = text_at s names·clordid;
    downstream = text_at s names·downstream;
    symbol = text_at s names·symbol;
    venueorderid = text_at s names·venueorderid;
  };
  terms = record {
    side = get_or s terms·side 0;
    ordtype = get_or s terms·ordtype 0;
    timeinforce = get_or s terms·timeinforce 0;
    qty = word64 s terms·qty;
    price = word64 s terms·price;
  };
  state = record {
    status = get_or s state·status 0;
    cumqty = word64 s state·cumqty;
    avgpx = word64 s state·avgpx;
    execseq = word64 s state·execseq;
  };
  links = record {
    amendments = word16 s links·amendments;
    current = word16 s links·current;
    cancel = word16 s links·cancel;
  };
  pending = record {
    request = word16 s pending·request;
    qty = word64 s pending·qty;
    price = word64 s pending·price;
    ordtype = get_or s pending·ordtype 0;
    timeinforce = get_or s pending·timeinforce 0;
  };
  gateway = record {
    unsent = unsent_of (get_or s gateway·stage 0) (word16 s gateway·origdownstream);
    stuck = stuck_of (get_or s gateway·stage 0) (word16 s gateway·origdownstream);
    tries = get_or s gateway·tries 0;
    origdownstream = word16 s gateway·origdownstream;
    refusedsends = word32 s gateway·refusedsends;
  };
}

-- 256 bytes in all
abbrev pub widths_order : List ℕ
widths_order = 2 ∷ 2 ∷ widths_names ++ widths_terms ++ widths_state ++ widths_links ++ widths_pending ++ widths_gateway ++ 9 ∷ []

abbrev pub pieces_order : Order → List (List ℕ)
pieces_order o =
    bytes_of 2 o.client
    ∷ bytes_of 2 o.venue
    ∷ pieces_names o.names
    ++ pieces_terms o.terms
    ++ pieces_state o.state
    ++ pieces_links o.links
    ++ pieces_pending o.pending
    ++ pieces_gateway o.gateway
    ++ replicate 9 0
    ∷ []

unfoldable pub encode_order : Order → List ℕ
encode_order o = concat (pieces_order o)

-- no replace waits, and no gateway cancel stands
abbrev pub no_pending : Pending
no_pending = record { request = 0; qty = 0; price = 0; ordtype = 0; timeinforce = 0 }

abbrev pub no_gateway : GatewayCancel
no_gateway = record { tries = 0; unsent = false; stuck = false; origdownstream = 0; refusedsends = 0 }

abbrev pub no_names : Names
no_names = record { name = no_text; clordid = no_text; downstream = no_text; symbol = no_text; venueorderid = no_text }

-- the record of zeros
abbrev pub no_order : Order
no_order = record {
  client = 0;
  venue = 0;
  names = no_names;
  terms = record { side = 0; ordtype = 0; timeinforce = 0; qty = 0; price = 0 };
  state = record { status = 0; cumqty = 0; avgpx = 0; execseq = 0 };
  links = record { amendments = 0; current = 0; cancel = 0 };
  pending = no_pending;
  gateway = no_gateway;
}
