-- Small days beside the chains that they leave: of a replace of a replace, past a refused request, to the first from a later one. Rests on chain and Play. What
-- they shut out: a chain without the first request, one that goes from entry to entry by number, another client's name, and an empty name that finds a gateway cancel.
use Rattle.std.specs.Prelude.{ℕ, ◌≡◌, refl, List, [], ◌∷◌, ◌++◌, replicate, None}
use Rattle.std.specs.List.{concat}
use Rattle.text.specs.Stored.{no_text}
use Rattle.store.specs.Finds.{find_clordid}
use Rattle.chain.specs.Chain.{chain_from, called_by, chain_of, entry_fields}
use Rattle.facts.specs.Play.{number, spelled, bytes, shares, money, X_, C, D, E, W, books, acknowledges, turns, rejects, gateway_cancels, called, empty, playing}

abbrev F : List ℕ
F = 70 ∷ []

-- a replace and a cancel under a ClOrdID, of the one that is named
abbrev replaces_of : (clordid origclordid : List ℕ) → List ℕ
replaces_of clordid origclordid =
    bytes 3 (number 0 2 7 ∷ spelled 3 clordid ∷ spelled 4 origclordid ∷ spelled 6 W ∷ number 7 1 49 ∷ number 9 8 (shares 150) ∷ number 10 8 (money 10) ∷ number 23 1 0 ∷ [])

abbrev cancels_of : (clordid origclordid : List ℕ) → List ℕ
cancels_of clordid origclordid = bytes 2 (number 0 2 7 ∷ spelled 3 clordid ∷ spelled 4 origclordid ∷ spelled 6 W ∷ number 7 1 49 ∷ [])

-- the chain of client 7's name, after the calls
abbrev chains : List (List ℕ) → (name : List ℕ) → List ℕ
chains calls name = chain_of (playing (empty 10000) (books ∷ acknowledges ∷ calls)) 7 name

record Table : Type 0 where
  -- the first request is its own chain
  first : chains [] C ≡ 0 ∷ []
  -- a replace of a replace, and the chain of the one in between
  twice : (chains (replaces_of D C ∷ turns (X_ 1) 53 48 ∷ replaces_of E D ∷ []) E ≡ 2 ∷ 1 ∷ 0 ∷ []) × (chains (replaces_of D C ∷ turns (X_ 1) 53 48 ∷ replaces_of E D ∷ []) D ≡ 1 ∷ 0 ∷ [])
  -- past a refused request; and to the first though others stand between
  refused : chains (replaces_of D C ∷ rejects (X_ 1) 99 ∷ cancels_of E D ∷ []) E ≡ 2 ∷ 1 ∷ 0 ∷ []
  straight : chains (replaces_of D C ∷ rejects (X_ 1) 99 ∷ cancels_of E C ∷ []) E ≡ 2 ∷ 0 ∷ []
  -- a name that was never used, one of another client, none at all though the gateway's cancel has an empty ClOrdID, and 33 bytes
  unused : chains [] D ≡ []
  another : chain_of (playing (empty 10000) (books ∷ [])) 8 C ≡ []
  nameless : (chains (gateway_cancels ∷ []) [] ≡ []) × (find_clordid (playing (empty 10000) (books ∷ gateway_cancels ∷ [])) 7 no_text ≡ None)
  long : chains [] (C ++ replicate 32 0) ≡ []

days : Table
unfolding called chain_of chain_from called_by
days = record {
  first = refl;
  twice = (refl, refl);
  refused = refl;
  straight = refl;
  unused = refl;
  another = refl;
  nameless = (refl, refl);
  long = refl;
}

-- an entry: C, accepted
entry : concat (entry_fields C 1) ≡ 1 ∷ 67 ∷ (replicate 31 0 ++ (1 ∷ []))
entry = refl

-- one of 32 bytes, refused: no byte of it is lost
whole : concat (entry_fields (replicate 31 67 ++ D) 2) ≡ 32 ∷ (replicate 31 67 ++ (68 ∷ 2 ∷ []))
whole = refl
