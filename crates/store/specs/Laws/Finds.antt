-- Lookups as loops over the bytes, and that they are the book's. Rests on Finds.
use Rattle.std.specs.Prelude.{◌≡◌, refl, Bool, true, false, not, ◌&&◌, List, ℕ, ◌+◌, eqb, ltb, get_or}
use Rattle.std.proofs.Common.{sym, ap, ◌∙◌, add-one, ltb-true, eqb-true, eq-eqb, ne_eqb}
use Rattle.std.proofs.lemmas.Bool.{and_parts}
use Rattle.prelude.specs.Below.{all_below, first_below, count_below}
use Rattle.prelude.specs.Laws.Below.{first_ext, count_ext}
use Rattle.prelude.specs.Cases.{if◌then◌otherwise◌}
use Rattle.prelude.specs.Lists.{list_below}
use Rattle.prelude.specs.Laws.Lists.{first_list, count_list, length_list, get_list}
use Rattle.prelude.specs.Texts.{agree_at, same_text}
use Rattle.prelude.specs.declared.Text.{Text}
use Rattle.store.specs.declared.Order.{Order}
use Rattle.store.specs.declared.Request.{Request}
use Rattle.store.specs.Orders.{no_order}
use Rattle.store.specs.Requests.{no_request}
use Rattle.store.specs.Book.{book_of, order_at, request_at, order_count, request_count}
use Rattle.store.specs.Finds.{bears_clordid, bears_downstream, bears_name, count_clordids, find_client, find_clordid, find_downstream, find_name, has_clordid, is_clients, of_client, used_by}

-- ---- the same on the bytes

abbrev pub named_at : List ℕ → Text → ℕ → Bool
named_at b t k = bears_name t (order_at b k)

abbrev pub clients_at : List ℕ → ℕ → ℕ → Bool
clients_at b c k = is_clients c (order_at b k)

abbrev pub bears_at : List ℕ → Text → ℕ → Bool
bears_at b t k = bears_downstream t (request_at b k)

unfoldable pub of_client_at : List ℕ → ℕ → ℕ → ℕ → Bool
of_client_at b n c k = ltb (request_at b k).order n && eqb (order_at b (request_at b k).order).client c

abbrev pub used_at : List ℕ → ℕ → ℕ → ℕ → Bool
used_at b n c k = has_clordid (request_at b k) && of_client_at b n c k

abbrev pub used_as_at : List ℕ → ℕ → ℕ → Text → ℕ → Bool
used_as_at b n c t k = has_clordid (request_at b k) && (same_text (request_at b k).clordid t && of_client_at b n c k)

pub find_name_bytes : (b : List ℕ) (t : Text) → find_name (book_of b) t ≡ first_below (named_at b t) (order_count b)
unfolding find_name book_of
find_name_bytes b t = first_list no_order (bears_name t) (order_at b) (order_count b)

pub find_client_bytes : (b : List ℕ) (c : ℕ) → find_client (book_of b) c ≡ first_below (clients_at b c) (order_count b)
unfolding find_client book_of
find_client_bytes b c = first_list no_order (is_clients c) (order_at b) (order_count b)

pub find_downstream_bytes : (b : List ℕ) (t : Text) → find_downstream (book_of b) t ≡ first_below (bears_at b t) (request_count b)
unfolding find_downstream book_of
find_downstream_bytes b t = first_list no_request (bears_downstream t) (request_at b) (request_count b)

-- the client of an order in use
of_client_lem : (f : ℕ → Order) (n c : ℕ) (r : Request) → of_client (list_below f n) c r ≡ ltb r.order n && eqb (f r.order).client c
unfolding of_client
of_client_lem f n c r = rw (length_list f n) (go (ltb r.order n) refl)
  where
    go : (v : Bool) → ltb r.order n ≡ v → ltb r.order n && eqb (get_or (list_below f n) r.order no_order).client c ≡ ltb r.order n && eqb (f r.order).client c
    go true e = rw (e, get_list f no_order n r.order (ltb-true r.order n e))
    go false e = rw e

pub find_clordid_bytes : (b : List ℕ) (c : ℕ) (t : Text) → find_clordid (book_of b) c t ≡ first_below (used_as_at b (order_count b) c t) (request_count b)
unfolding find_clordid book_of of_client_at
find_clordid_bytes b c t =
    first_list no_request (bears_clordid (list_below (order_at b) (order_count b)) c t) (request_at b) (request_count b)
    ∙ first_ext (λ k. bears_clordid (list_below (order_at b) (order_count b)) c t (request_at b k)) (used_as_at b (order_count b) c t) (request_count b)
    (λ k h. ap (λ (v : Bool). has_clordid (request_at b k) && (same_text (request_at b k).clordid t && v)) (of_client_lem (order_at b) (order_count b) c (request_at b k)))

pub count_clordids_bytes : (b : List ℕ) (c : ℕ) → count_clordids (book_of b) c ≡ count_below (used_at b (order_count b) c) (request_count b)
unfolding count_clordids book_of of_client_at
count_clordids_bytes b c =
    count_list no_request (used_by (list_below (order_at b) (order_count b)) c) (request_at b) (request_count b)
    ∙ count_ext (λ k. used_by (list_below (order_at b) (order_count b)) c (request_at b k)) (used_at b (order_count b) c) (request_count b)
    (λ k h. ap (λ (v : Bool). has_clordid (request_at b k) && v) (of_client_lem (order_at b) (order_count b) c (request_at b k)))

-- one request more
pub count_step : (p : ℕ → Bool) (i : ℕ) → count_below p (i + 1) ≡ count_below p i + (if p i then 1 otherwise 0)
unfolding count_below
count_step p i = rw add-one

-- a request that bears t as its ClOrdID has one if t is not empty
module _ (r : Request) (t : Text) (e : same_text r.clordid t ≡ true) where
  same_len : r.clordid.len ≡ t.len
  unfolding same_text
  same_len = eqb-true r.clordid.len t.len (and_parts (eqb r.clordid.len t.len) (all_below (agree_at r.clordid.bytes t.bytes) 32) e).0

  pub has_clordid_lem : (t.len ≡ 0 → ⊥) → has_clordid r ≡ true
  has_clordid_lem n = ap not (ne_eqb r.clordid.len 0 (λ z. n (sym same_len ∙ z)))

  pub no_clordid : t.len ≡ 0 → has_clordid r ≡ false
  no_clordid z = ap not (eq-eqb r.clordid.len 0 (same_len ∙ z))
