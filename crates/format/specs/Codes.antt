-- FIX 4.4's codes by name and their lists, the ranges of quantities and prices, and the rule of an order name. Each code is an ASCII character.
-- Rests on prelude.
use Rattle.std.specs.Prelude.{ℕ, ◌-◌, List, [], ◌∷◌, Bool, false, not, ◌&&◌, ◌||◌, get_or, eqb, leb}
use Rattle.prelude.specs.Below.{all_below}
use Rattle.prelude.specs.declared.Text.{Text}
use Rattle.bits.specs.Map.{bit}

abbrev pub within : ℕ → ℕ → ℕ → Bool
within a b v = leb a v && leb v b

abbrev pub listed : ℕ → List ℕ → Bool
listed v [] = false
listed v (c ∷ cs) = eqb v c || listed v cs

-- ---- the codes, in the order of the Rust's enums

-- Side(54)
abbrev pub buy : ℕ
buy = 49

abbrev pub sell : ℕ
sell = 50

abbrev pub sell_short : ℕ
sell_short = 53

unfoldable pub sides : List ℕ
sides = buy ∷ sell ∷ sell_short ∷ []

-- OrdType(40)
abbrev pub market : ℕ
market = 49

abbrev pub limit : ℕ
limit = 50

unfoldable pub ordtypes : List ℕ
ordtypes = market ∷ limit ∷ []

-- TimeInForce(59): 0 day, 1 until canceled, 3 immediate or cancel, 4 fill or kill
unfoldable pub timesinforce : List ℕ
timesinforce = 48 ∷ 49 ∷ 51 ∷ 52 ∷ []

-- OrdStatus(39)
abbrev pub pending_new : ℕ
pending_new = 65

abbrev pub new : ℕ
new = 48

abbrev pub partially_filled : ℕ
partially_filled = 49

abbrev pub filled : ℕ
filled = 50

abbrev pub pending_cancel : ℕ
pending_cancel = 54

abbrev pub pending_replace : ℕ
pending_replace = 69

abbrev pub canceled : ℕ
canceled = 52

abbrev pub expired : ℕ
expired = 67

abbrev pub rejected : ℕ
rejected = 56

-- not among the Rust's
abbrev pub done_for_day : ℕ
done_for_day = 51

unfoldable pub statuses : List ℕ
statuses = pending_new ∷ new ∷ partially_filled ∷ filled ∷ pending_cancel ∷ pending_replace ∷ canceled ∷ expired ∷ rejected ∷ done_for_day ∷ []

-- ExecType(150)
abbrev pub exec_pending_new : ℕ
exec_pending_new = 65

abbrev pub exec_new : ℕ
exec_new = 48

abbrev pub exec_trade : ℕ
exec_trade = 70

abbrev pub exec_pending_cancel : ℕ
exec_pending_cancel = 54

abbrev pub exec_canceled : ℕ
exec_canceled = 52

abbrev pub exec_pending_replace : ℕ
exec_pending_replace = 69

abbrev pub exec_replaced : ℕ
exec_replaced = 53

abbrev pub exec_rejected : ℕ
exec_rejected = 56

abbrev pub exec_expired : ℕ
exec_expired = 67

abbrev pub exec_restated : ℕ
exec_restated = 68

abbrev pub exec_done_for_day : ℕ
exec_done_for_day = 51

abbrev pub exec_status : ℕ
exec_status = 73

unfoldable pub exectypes : List ℕ
exectypes =
    exec_pending_new ∷ exec_new ∷ exec_trade ∷ exec_pending_cancel ∷ exec_canceled ∷ exec_pending_replace ∷ exec_replaced ∷ exec_rejected ∷ exec_expired ∷ exec_restated
    ∷ exec_done_for_day ∷ exec_status ∷ []

unfoldable pub is_side : ℕ → Bool
is_side v = listed v sides

unfoldable pub is_ordtype : ℕ → Bool
is_ordtype v = listed v ordtypes

unfoldable pub is_timeinforce : ℕ → Bool
is_timeinforce v = listed v timesinforce

unfoldable pub is_status : ℕ → Bool
is_status v = listed v statuses

unfoldable pub is_exectype : ℕ → Bool
is_exectype v = listed v exectypes

-- a quantity is a count of 1/10,000, a price of 10^-8
abbrev pub is_qty : ℕ → Bool
is_qty v = leb v 1000000000000

abbrev pub is_price : ℕ → Bool
is_price v = leb v 100000000000000

-- digits, capitals, small letters
unfoldable pub is_alnum : ℕ → Bool
is_alnum c = within 48 57 c || (within 65 90 c || within 97 122 c)

-- exactly NONE
unfoldable pub is_none : Text → Bool
is_none t =
    eqb t.len 4
    && (eqb (get_or t.bytes 0 0) 78 && (eqb (get_or t.bytes 1 0) 79 && (eqb (get_or t.bytes 2 0) 78 && eqb (get_or t.bytes 3 0) 69)))

abbrev pub alnum_at : Text → ℕ → Bool
alnum_at t k = is_alnum (get_or t.bytes k 0)

-- 1 to 20 letters and digits, not NONE
unfoldable pub is_name : Text → Bool
is_name t = within 1 20 t.len && (all_below (alnum_at t) t.len && not (is_none t))

-- ---- a list of codes as a map of the bits above the character 0

abbrev pub in_map : ℕ → ℕ → Bool
in_map m v = leb 48 v && bit m (v - 48)
