-- What a caller has of bytes whose book keeps its rules, and the rules as they are decided, one after the other. Rests on Beside, Here and Things.
use Rattle.std.specs.Prelude.{◌≡◌, ℕ, ◌<◌, ◌≤◌, min, Bool, true, false, not, ◌&&◌, List, length, nat_le, refl}
use Rattle.std.proofs.Common.{sym, ap, ap₂, ◌∙◌, arith, eqb-true, leb-true, eq-eqb, le-leb}
use Rattle.std.proofs.Math.Bool.{and-true, and-false}
use Rattle.std.proofs.lemmas.Bool.{not-true, and_parts}
use Rattle.prelude.specs.Below.{all_below}
use Rattle.prelude.specs.Laws.Below.{all_elim, all_ext, all_both}
use Rattle.prelude.specs.Laws.Cases.{if_true}
use Rattle.prelude.specs.Number.{word16}
use Rattle.store.specs.Layout.{book_size, header·orders, header·requests, most_orders, most_requests}
use Rattle.store.specs.Book.{is_book, book_of, request_in, count_at, order_count, request_count}
use Rattle.store.specs.Laws.Stored.{length_orders, length_requests, request_in_lem, count_most}
use Rattle.machine.specs.Rules.{order_rule, request_rule, origin_rule, name_rule, same_key, keys_apart, key_rule, rules}
use Rattle.index.specs.Index.{link_right, links_right}
use Rattle.index.specs.Laws.Links.{linked_here}
use Rattle.rules.specs.Laws.Beside.{beside_at, beside_here}
use Rattle.rules.specs.Laws.Here.{range_at, links_of, request_rule_at, pass_at, order_here, request_here_lem, name_here, key_here, booked}
use Rattle.rules.specs.Laws.Things.{clear_at, same_keyed, same_named}
use Rattle.rules.specs.Keeps.{ruled_of}

-- what is known of a book that keeps its rules
pub record Held (b : List ℕ) : Type 0 where
  pub long : length b ≡ book_size
  pub orders : word16 b header·orders ≡ order_count b
  pub few_orders : order_count b ≤ most_orders
  pub requests : word16 b header·requests ≡ request_count b
  pub few_requests : request_count b ≤ most_requests
  pub rules : rules (book_of b) ≡ true

-- a count that is within its table is the header's
pub count_raw : (b : List ℕ) (at most : ℕ) → length b ≡ book_size → word16 b at ≤ most → word16 b at ≡ count_at at most b
unfolding count_at
count_raw b at most l h = sym (if_true (is_book b) (min most (word16 b at)) 0 (eq-eqb _ _ l) ∙ omega arith)

-- THE LAW for callers
pub ruled_held : (b : List ℕ) → ruled_of b ≡ true → Held b
unfolding ruled_of
ruled_held b e =
    let r = and_parts (is_book b && nat_le (word16 b header·orders) most_orders && nat_le (word16 b header·requests) most_requests) (rules (book_of b)) e in
    let m = and_parts (is_book b && nat_le (word16 b header·orders) most_orders) (nat_le (word16 b header·requests) most_requests) r.0 in
    let n = and_parts (is_book b) (nat_le (word16 b header·orders) most_orders) m.0 in
    let l : length b ≡ book_size = eqb-true (length b) book_size n.0 in
    record {
      long = l;
      orders = count_raw b header·orders most_orders l (leb-true _ _ n.1);
      few_orders = count_most header·orders most_orders b;
      requests = count_raw b header·requests most_requests l (leb-true _ _ m.1);
      few_requests = count_most header·requests most_requests b;
      rules = r.1;
    }

-- and its converse
pub held_ruled : (b : List ℕ) → length b ≡ book_size → word16 b header·orders ≤ most_orders → word16 b header·requests ≤ most_requests → rules (book_of b) ≡ true → ruled_of b ≡ true
unfolding ruled_of
held_ruled b l n m r = rw (eq-eqb _ _ l, le-leb _ _ n, le-leb _ _ m) r

-- ---- the rules as they are decided, one after the other

unfoldable pub decided : List ℕ → ℕ → ℕ → Bool
decided b n m =
    all_below (range_at b m) n && (all_below (pass_at b n) m && (all_below (links_of b m) n && (all_below (clear_at b false) n && all_below (clear_at b true) m)))

-- the requests' rules in two parts, and the links with the second of them
turn : (a l r g n k k' t t' : Bool) → (r ≡ true → k ≡ k') → (r ≡ true → k ≡ true → g && t ≡ t') → a && l && (r && g) && n && k && t ≡ a && (r && t' && (l && (n && k')))
turn true true true g n k k' t t' f h = on g n k (h refl) ∙ ap (λ (v : Bool). t' && (n && v)) (f refl)
  where
    on : (g n k : Bool) → (k ≡ true → g && t ≡ t') → g && n && k && t ≡ t' && (n && k)
    on true true true h = h refl ∙ sym (and-true t')
    on true true false h = sym (and-false t')
    on true false k h = sym (and-false t')
    on false true true h = h refl ∙ sym (and-true t')
    on false true false h = sym (and-false t')
    on false false k h = sym (and-false t')
turn true true false g n k k' t t' f h = refl
turn true false true g n k k' t t' f h = sym (and-false t')
turn true false false g n k k' t t' f h = refl
turn false l r g n k k' t t' f h = refl

module _ (b : List ℕ) where
  -- if the requests keep their other rules, and their ClOrdIDs are distinct
  links_decided : all_below (request_rule_at b (order_count b)) (request_count b) ≡ true → all_below (key_rule (book_of b)) (request_count b) ≡ true
      → all_below (origin_rule (book_of b).requests) (request_count b) && all_below (link_right b) (request_count b) ≡ all_below (beside_at b) (request_count b)
  links_decided e k =
      sym (all_both (origin_rule (book_of b).requests) (link_right b) (request_count b))
      ∙ all_ext (λ j. origin_rule (book_of b).requests j && link_right b j) (beside_at b) (request_count b)
      (λ j h. linked_here b own apart j (omega (arith, h, length_requests b)) ∙ beside_here b j h)
    where
      own : (j : ℕ) → j < length (book_of b).requests → (request_in (book_of b) j).order < length (book_of b).orders
      own j h =
          let u : j < request_count b = omega (arith, h, length_requests b) in
          rw (request_in_lem b j u, length_orders b) (booked b (order_count b) (request_count b) e j u)

      apart : (i j : ℕ) → i < length (book_of b).requests → j < i → same_key (book_of b) i j ≡ false
      apart i j h l =
          let u : i < request_count b = omega (arith, h, length_requests b) in
          not-true (same_key (book_of b) i j) (all_elim (keys_apart (book_of b) i) i (all_elim (key_rule (book_of b)) (request_count b) k i u) j l)

  pub rules_decided : rules (book_of b) && links_right b ≡ decided b (order_count b) (request_count b)
  unfolding rules decided clear_at links_right
  rules_decided =
      let n = order_count b in
      let m = request_count b in
      let o : all_below (order_rule (book_of b)) n ≡ all_below (range_at b m) n && all_below (links_of b m) n =
      all_ext _ _ n (order_here b) ∙ all_both (range_at b m) (links_of b m) n in
      let q : all_below (request_rule (book_of b)) m ≡ all_below (request_rule_at b n) m && all_below (origin_rule (book_of b).requests) m =
      all_ext _ _ m (request_here_lem b) ∙ all_both (request_rule_at b n) (origin_rule (book_of b).requests) m in
      rw (
        length_orders b,
        length_requests b,
        le-leb n most_orders (count_most header·orders most_orders b),
        le-leb m most_requests (count_most header·requests most_requests b),
        o,
        q,
        all_both (request_rule_at b n) (beside_at b) m,
        all_ext (name_rule (book_of b)) (clear_at b false) n (λ i h. name_here b i h ∙ all_ext _ _ i (λ j k. ap not (same_named b i j))),
      )
      (turn (all_below (range_at b m) n) (all_below (links_of b m) n) (all_below (request_rule_at b n) m) (all_below (origin_rule (book_of b).requests) m) _ _ _ _
      (all_below (beside_at b) m)
      (λ e. all_ext (key_rule (book_of b)) (clear_at b true) m (λ i h. key_here b e i h ∙ all_ext _ _ i (λ j k. ap not (same_keyed b i j))))
      links_decided)

-- if its counts are in range, the decision is right: it keeps its rules, and its OrigClOrdIDs' links are right
pub kept : (b : List ℕ) (n m : ℕ) → length b ≡ book_size → n ≡ word16 b header·orders → n ≤ most_orders → m ≡ word16 b header·requests → m ≤ most_requests
    → ruled_of b && links_right b ≡ decided b n m
unfolding ruled_of
kept b n m l e h f k =
    let x : word16 b header·orders ≤ most_orders = omega arith in
    let y : word16 b header·requests ≤ most_requests = omega arith in
    let u : order_count b ≡ n = sym (count_raw b header·orders most_orders l x) ∙ sym e in
    let v : request_count b ≡ m = sym (count_raw b header·requests most_requests l y) ∙ sym f in
    rw (eq-eqb _ _ l, le-leb _ _ x, le-leb _ _ y) (rules_decided b ∙ ap₂ (decided b) u v)
