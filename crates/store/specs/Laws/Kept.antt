-- What every function keeps, on any buffer: its length, and that its elements are bytes. Rests on Laws.
use Rattle.std.specs.Prelude.{◌≡◌, refl, List, [], ◌∷◌, ℕ, ◌+◌, ◌≤◌, ◌<◌, eqb, length}
use Rattle.std.proofs.Common.{sym, subst, ◌∙◌, arith}
use Rattle.prelude.specs.Cases.{if◌then◌otherwise◌}
use Rattle.prelude.specs.Laws.Cases.{split_if}
use Rattle.prelude.specs.Number.{Bytes, bytes_of}
use Rattle.prelude.specs.Span.{splice}
use Rattle.prelude.specs.Laws.Span.{length_splice}
use Rattle.prelude.specs.Texts.{WholeText}
use Rattle.prelude.specs.Bytes.{zeros}
use Rattle.prelude.specs.Laws.Bytes.{bytes_zeros, bytes_one, bytes_of_lem, bytes_append, bytes_splice, bytes_joined}
use Rattle.prelude.specs.declared.Text.{Text}
use Rattle.store.specs.declared.GatewayCancel.{GatewayCancel}
use Rattle.store.specs.declared.Order.{Order}
use Rattle.store.specs.declared.Request.{Request}
use Rattle.store.specs.Layout.{book_size, header·orders, header·requests, header·setting, orders_at, most_orders, most_requests, request_base, request·answered, request·outcome, open_base}
use Rattle.store.specs.Cells.{text_bytes}
use Rattle.store.specs.Orders.{FitsOrder, stage_of, encode_order, pieces_order}
use Rattle.store.specs.Requests.{WholeRequest, encode_request, pieces_request}
use Rattle.store.specs.Book.{request_at, put_order, put_request, order_count, request_count, store_order, set_count, add_order, add_request, settled_as, settle, mark_answered, store_open, blank}
use Rattle.store.specs.Laws.Tables.{length_put_order, length_put_request}
use Rattle.store.specs.Laws.Stored.{in_table}
use Rattle.store.specs.Laws.Fields.{request_outcome}

bytes_text : (t : Text) → WholeText t → Bytes (text_bytes t)
unfolding text_bytes
bytes_text t h = bytes_append t.bytes (t.len ∷ []) h.bytes (bytes_one t.len h.len)

-- ---- records

stage_small : (g : GatewayCancel) → stage_of g < 256
unfolding stage_of
stage_small g =
    split_if (λ n. n < 256) (eqb g.origdownstream 0) (λ e. omega arith)
    (λ e. split_if (λ n. n < 256) g.unsent (λ e. omega arith) (λ e. split_if (λ n. n < 256) g.stuck (λ e. omega arith) (λ e. omega arith)))

pub bytes_order : (o : Order) → FitsOrder o → Bytes (encode_order o)
unfolding encode_order
bytes_order o h =
    bytes_joined (pieces_order o)
    (bytes_of_lem 2 o.client, (bytes_of_lem 2 o.venue, (bytes_text o.names.name h.names.name, (bytes_text o.names.clordid h.names.clordid, (bytes_text o.names.downstream h.names.downstream, (bytes_text o.names.symbol h.names.symbol, (bytes_text o.names.venueorderid h.names.venueorderid, (bytes_one o.terms.side h.terms.side, (bytes_one o.terms.ordtype h.terms.ordtype, (bytes_one o.terms.timeinforce h.terms.timeinforce, (bytes_of_lem 8 o.terms.qty, (bytes_of_lem 8 o.terms.price, (bytes_one o.state.status h.state.status, (bytes_of_lem 8 o.state.cumqty, (bytes_of_lem 8 o.state.avgpx, (bytes_of_lem 8 o.state.execseq, (bytes_of_lem 2 o.links.amendments, (bytes_of_lem 2 o.links.current, (bytes_of_lem 2 o.links.cancel, (bytes_of_lem 2 o.pending.request, (bytes_of_lem 8 o.pending.qty, (bytes_of_lem 8 o.pending.price, (bytes_one o.pending.ordtype h.pending.ordtype, (bytes_one o.pending.timeinforce h.pending.timeinforce, (bytes_one (stage_of o.gateway) (stage_small o.gateway), (bytes_one o.gateway.tries h.gateway.tries, (bytes_of_lem 2 o.gateway.origdownstream, (bytes_of_lem 4 o.gateway.refusedsends, (bytes_zeros 9, tt)))))))))))))))))))))))))))))

pub bytes_request : (r : Request) → WholeRequest r → Bytes (encode_request r)
unfolding encode_request
bytes_request r h =
    bytes_joined (pieces_request r)
    (bytes_of_lem 2 r.order, (bytes_one r.kind h.kind, (bytes_one r.answered h.answered, (bytes_text r.clordid h.clordid, (bytes_text r.origclordid h.origclordid, (bytes_text r.downstream h.downstream, (bytes_one r.outcome h.outcome, (bytes_zeros 24, tt))))))))

-- ---- the functions

-- the length is the same, and bytes stay bytes
pub record Keeps (b d : List ℕ) : Type 0 where
  pub same : length d ≡ length b
  pub bytes : Bytes b → Bytes d

keeps_self : (b : List ℕ) → Keeps b b
keeps_self b = record { same = refl; bytes = λ h. h }

keeps_splice : (b : List ℕ) (at : ℕ) (w : List ℕ) → at + length w ≤ length b → Bytes w → Keeps b (splice b at w)
keeps_splice b at w l h = record { same = length_splice b at w l; bytes = λ g. bytes_splice b at w g h }

keeps_more : (b d f : List ℕ) → Keeps b d → Keeps d f → Keeps b f
keeps_more b d f h g = record { same = g.same ∙ h.same; bytes = λ k. g.bytes (h.bytes k) }

module _ (b : List ℕ) (l : length b ≡ book_size) where
  keeps_count : (at n : ℕ) → at + 2 ≤ orders_at → Keeps b (set_count b at n)
  unfolding set_count
  keeps_count at n h = keeps_splice b at (bytes_of 2 n) (omega arith) (bytes_of_lem 2 n)

  keeps_put_order : (i : ℕ) (o : Order) → i < most_orders → FitsOrder o → Keeps b (put_order b i o)
  unfolding put_order
  keeps_put_order i o h w = record { same = length_put_order b l i h o w ∙ sym l; bytes = λ g. bytes_splice b _ (encode_order o) g (bytes_order o w) }

  keeps_put_request : (i : ℕ) (r : Request) → i < most_requests → WholeRequest r → Keeps b (put_request b i r)
  unfolding put_request
  keeps_put_request i r h w = record { same = length_put_request b l i h r w ∙ sym l; bytes = λ g. bytes_splice b _ (encode_request r) g (bytes_request r w) }

pub store_order_keeps : (b : List ℕ) (i : ℕ) (o : Order) → FitsOrder o → Keeps b (store_order b i o)
unfolding store_order if◌then◌otherwise◌
store_order_keeps b i o w = in_table (λ t. Keeps b (if t then put_order b i o otherwise b)) b most_orders i (λ l h. keeps_put_order b l i o h w) (λ d. keeps_self b)

pub add_order_keeps : (b : List ℕ) (o : Order) → FitsOrder o → Keeps b (add_order b o)
unfolding add_order if◌then◌otherwise◌
add_order_keeps b o w =
    in_table (λ t. Keeps b (if t then set_count (put_order b (order_count b) o) header·orders (order_count b + 1) otherwise b)) b most_orders (order_count b)
    (λ l h. keeps_more b (put_order b (order_count b) o) (set_count (put_order b (order_count b) o) header·orders (order_count b + 1)) (keeps_put_order b l (order_count b) o h w)
    (keeps_count (put_order b (order_count b) o) (length_put_order b l (order_count b) h o w) header·orders (order_count b + 1) (omega arith)))
    (λ d. keeps_self b)

pub add_request_keeps : (b : List ℕ) (r : Request) → WholeRequest r → Keeps b (add_request b r)
unfolding add_request if◌then◌otherwise◌
add_request_keeps b r w =
    let n : ℕ = request_count b in
    let d : List ℕ = put_request b n r in
    in_table (λ t. Keeps b (if t then set_count d header·requests (n + 1) otherwise b)) b most_requests n
    (λ l h. keeps_more b d (set_count d header·requests (n + 1)) (keeps_put_request b l n r h w)
    (keeps_count d (length_put_request b l n h r w) header·requests (n + 1) (omega arith)))
    (λ d. keeps_self b)

-- the outcome that is there, or one that is a byte
settled_small : (b : List ℕ) (i outcome : ℕ) → outcome < 256 → Bytes b → settled_as outcome (request_at b i) < 256
settled_small b i outcome h bytes =
    split_if (λ n. n < 256) (eqb (request_at b i).answered 0) (λ e. h) (λ e. subst (λ n. n < 256) (sym (request_outcome b i)) (bytes (request_base i + request·outcome)))

pub mark_keeps : (b : List ℕ) (i outcome : ℕ) → outcome < 256 → Keeps b (mark_answered b i outcome)
unfolding mark_answered if◌then◌otherwise◌
mark_keeps b i outcome small =
    let d : List ℕ = splice b (request_base i + request·answered) (1 ∷ []) in
    let v : ℕ = settled_as outcome (request_at b i) in
    in_table (λ t. Keeps b (if t then settle b i outcome otherwise b)) b most_requests i
    (λ l h.
    let m : length d ≡ length b = length_splice b (request_base i + request·answered) (1 ∷ []) (omega arith) in
    record {
      same = length_splice d (request_base i + request·outcome) (v ∷ []) (omega arith) ∙ m;
      bytes = λ g.
          bytes_splice d (request_base i + request·outcome) (v ∷ []) (bytes_splice b (request_base i + request·answered) (1 ∷ []) g (bytes_one 1 (omega arith)))
          (bytes_one v (settled_small b i outcome small g));
    })
    (λ d. keeps_self b)

pub store_open_keeps : (b : List ℕ) (i n : ℕ) → Keeps b (store_open b i n)
unfolding store_open if◌then◌otherwise◌
store_open_keeps b i n =
    in_table (λ t. Keeps b (if t then splice b (open_base i) (bytes_of 8 n) otherwise b)) b most_orders i
    (λ l h. keeps_splice b (open_base i) (bytes_of 8 n) (omega arith) (bytes_of_lem 8 n))
    (λ d. keeps_self b)

pub bytes_blank : (setting : ℕ) → Bytes (blank setting)
unfolding blank
bytes_blank setting = bytes_splice (zeros book_size) header·setting (bytes_of 4 setting) (bytes_zeros book_size) (bytes_of_lem 4 setting)
