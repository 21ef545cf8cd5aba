-- Names found: a ClOrdID of a client names one request, and an empty one none. Rests on store's Finds and machine's rules.
use Rattle.std.specs.Prelude.{ℕ, ◌<◌, ◌≡◌, refl, Bool, eqb, ltb, length, Option, None, Some, true, false}
use Rattle.std.proofs.Common.{arith, ap, ◌∙◌, sym, eqb-true, eq-eqb, ltb-true, lt-ltb}
use Rattle.std.proofs.Math.Decide.{dec_lt}
use Rattle.std.proofs.lemmas.Bool.{and_parts}
use Rattle.prelude.specs.Laws.Below.{First, first_some, first_elim}
use Rattle.prelude.specs.Laws.Cases.{clash}
use Rattle.prelude.specs.Texts.{same_text}
use Rattle.prelude.specs.Laws.Texts.{same_back, same_trans}
use Rattle.prelude.specs.declared.Text.{Text}
use Rattle.store.specs.Book.{Book, request_in}
use Rattle.store.specs.Finds.{has_clordid, of_client, bears_clordid, find_clordid}
use Rattle.store.specs.Laws.Finds.{no_clordid}
use Rattle.machine.specs.Orders.{is_empty}
use Rattle.machine.specs.Rules.{client_of, same_key}

-- request k bears that ClOrdID and is that client's
pub record Bears (x : Book) (client : ℕ) (t : Text) (k : ℕ) : Type 0 where
  pub used : k < length x.requests
  pub named : has_clordid (request_in x k) ≡ true
  pub same : same_text (request_in x k).clordid t ≡ true
  pub booked : (request_in x k).order < length x.orders
  pub whose : client_of x k ≡ client

module _ (x : Book) (client : ℕ) (t : Text) where
  abbrev bears : ℕ → Bool
  bears k = bears_clordid x.orders client t (request_in x k)

  bears_parts : (k : ℕ) → k < length x.requests → bears k ≡ true → Bears x client t k
  unfolding of_client
  bears_parts k h e =
      let p = and_parts (has_clordid (request_in x k)) _ e in
      let q = and_parts (same_text (request_in x k).clordid t) _ p.1 in
      let r = and_parts (ltb (request_in x k).order (length x.orders)) (eqb (client_of x k) client) q.1 in
      record { used = h; named = p.0; same = q.0; booked = ltb-true _ _ r.0; whose = eqb-true _ _ r.1 }

  bears_whole : (k : ℕ) → Bears x client t k → bears k ≡ true
  unfolding of_client
  bears_whole k h = rw (h.named, h.same, lt-ltb _ _ h.booked, eq-eqb _ _ h.whose)

  pub found_bears : (k : ℕ) → find_clordid x client t ≡ Some k → Bears x client t k
  unfolding find_clordid
  found_bears k e =
      let f : First bears (length x.requests) k = first_some bears (length x.requests) k e in
      bears_parts k f.below f.passes

  -- an empty name finds nothing, though a gateway cancel has an empty ClOrdID
  pub empty_none : is_empty t ≡ true → find_clordid x client t ≡ None
  empty_none e = go (find_clordid x client t) refl
    where
      go : (v : Option ℕ) → find_clordid x client t ≡ v → find_clordid x client t ≡ None
      go None f = f
      go (Some k) f =
          let h : Bears x client t k = found_bears k f in
          clash (has_clordid (request_in x k)) h.named (no_clordid (request_in x k) t h.same (eqb-true _ _ e))

  -- ClOrdIDs within a client are distinct
  module _ (keys : (i j : ℕ) → i < length x.requests → j < i → same_key x i j ≡ false) where
    never : (i j : ℕ) → j < i → Bears x client t i → Bears x client t j → ⊥
    unfolding same_key
    never i j l p q = clash (same_key x i j) here (keys i j p.used l)
      where
        here : same_key x i j ≡ true
        here =
            rw (
              p.named,
              eq-eqb (client_of x i) (client_of x j) (p.whose ∙ sym q.whose),
            )
            (same_trans (request_in x i).clordid t (request_in x j).clordid p.same (same_back (request_in x j).clordid t q.same))

    pub bears_one : (i j : ℕ) → Bears x client t i → Bears x client t j → i ≡ j
    bears_one i j p q = go (dec_lt i j) (dec_lt j i)
      where
        go : Dec (i < j) → Dec (j < i) → i ≡ j
        go (yes l) d = absurd (never j i l q p)
        go (no l) (yes m) = absurd (never i j m p q)
        go (no l) (no m) = omega arith

    pub bears_found : (j : ℕ) → Bears x client t j → find_clordid x client t ≡ Some j
    bears_found j q = go (find_clordid x client t) refl
      where
        go : (v : Option ℕ) → find_clordid x client t ≡ v → find_clordid x client t ≡ Some j
        go (Some i) e = e ∙ ap Some (bears_one i j (found_bears i e) q)
        go None e = clash (bears j) (bears_whole j q) (first_elim bears (length x.requests) (unfold find_clordid in e) j q.used)
