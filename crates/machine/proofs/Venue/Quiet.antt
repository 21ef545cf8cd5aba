-- An event that is no venue's report and no refusal raises no alarm 6, and its reports have source 0 and no price. Rests on Frame.
use Rattle.std.proofs.Common.{ℕ, ◌≡◌, refl, sym, ap, ◌∙◌, Bool, true, false, ◌&&◌, ◌||◌, eqb, ltb, arith}
use Rattle.std.proofs.lemmas.Bool.{eqb-false, and_parts}
use Rattle.prelude.specs.Laws.Cases.{split_if, split_maybe, clash}
use Rattle.prelude.specs.declared.Text.{Text}
use Rattle.format.specs.Codes.{filled}
use Rattle.store.specs.declared.Order.{Order}
use Rattle.store.specs.declared.Request.{Request}
use Rattle.store.specs.Book.{Book}
use Rattle.machine.specs.Constants.{report_kind, filled_short}
use Rattle.machine.specs.Orders.{is_done, is_short, short_alarm}
use Rattle.machine.specs.Messages.{no_price, report, cancel_reject, new_order, cancel_request, replace_request, to_venue}
use Rattle.machine.specs.Changes.{Event, Message, unchanged, refusing}
use Rattle.machine.specs.GatewayCancel.{cancel_order}
use Rattle.machine.specs.Amend.{refuse, redelivered_report, cancel_goes, cancel, replace_goes, replace, refused_alarm, first_failed, send_failed, unsent}
use Rattle.machine.specs.Report.{unknown_at_venue}
use Rattle.machine.specs.Machine.{book_order, amending, on_request, nothing, unknown_report, on_name, change_of}
use Rattle.machine.specs.Sources.{Sourced}
use Rattle.machine.specs.declared.Findings.{Findings}
use Rattle.machine.specs.declared.Note.{Note}
use Rattle.machine.specs.declared.Refused.{Refused}
use Rattle.machine.specs.declared.Change.{Change}
use Rattle.machine.proofs.Venue.Frame.{Fits, Ways, unchanged_fits, answering_fits, adding_fits, telling_fits, alarming_fits, send_fits, refuse_fits}

abbrev pub Said : Book → Event → Message → Type 0
Said b e m = m.kind ≡ report_kind → Sourced b e m

abbrev NotSix : ℕ → Type 0
NotSix a = eqb a filled_short ≡ false

abbrev Any : Order → Type 0
Any x = x ≡ x

pub others_said : (b : Book) (e : Event) (m : Message) → eqb m.kind report_kind ≡ false → Said b e m
others_said b e m z k = absurd (eqb-false _ _ z k)

quiet_ways : (b : Book) (e : Event) → Ways (Said b e) NotSix Any
quiet_ways b e = record {
  others = others_said b e;
  behind = λ a h. split_if NotSix _ (λ z. refl) (λ z. h);
  sent = λ f x h. refl;
  given = λ x h. refl;
}

-- a refusal that brings the order's own status: a live order is not Filled
own_alarm : (r : Refused) (o : Order) → r.status ≡ o.state.status → NotSix (refused_alarm r o)
unfolding refused_alarm short_alarm is_short is_done
own_alarm r o z =
    split_if NotSix _ (λ d. refl)
    (λ d. split_if NotSix _ (λ s. clash _ (live s) (first_false _ _ _ _ d)) (λ s. refl))
  where
    first_false : (a b c d : Bool) → a || b || c || d ≡ false → a ≡ false
    first_false a b c d h = grind arith

    live : eqb r.status filled && ltb o.state.cumqty o.terms.qty ≡ true → eqb o.state.status filled ≡ true
    live s = ap (λ (x : ℕ). eqb x filled) (sym z) ∙ (and_parts _ _ s).0

module _ (b : Book) (e : Event) (no : eqb e.kind 4 ≡ false) where
  abbrev F : Change → Type 0
  F = Fits (Said b e) NotSix Any

  abbrev w : Ways (Said b e) NotSix Any
  w = quiet_ways b e

  unpriced : (o : Order) (clordid origclordid : Text) (exectype lastqty : ℕ) (n : Note) → Said b e (report o clordid origclordid exectype lastqty no_price n)
  unfolding report
  unpriced o clordid origclordid exectype lastqty n z = record { source = rw no refl; unpriced = λ y. refl; priced = λ y. clash _ y no }

  still : (place : ℕ) (o : Order) → F (unchanged place o)
  still place o = unchanged_fits place o refl refl

  refusing_quiet : (n : ℕ) → F (refusing n)
  unfolding refusing
  refusing_quiet n = record { first = λ z. clash true refl z; second = λ z. clash true refl z; alarm = refl; order = refl }

  module _ (f : Findings) (o : Order) where
    cancel_order_quiet : F (cancel_order f o)
    unfolding cancel_order
    cancel_order_quiet =
        split_if F _ (λ t. still _ o) (λ t. split_if F _ (λ t. still _ o) (λ t. split_if F _ (λ t. still _ _) (λ t. send_fits w f _ (still _ _))))

    module _ (order : ℕ) (full : Bool) where
      cancel_quiet : F (cancel f order full o e)
      unfolding cancel redelivered_report refuse cancel_goes cancel_reject cancel_request to_venue
      cancel_quiet =
          split_if F _ (λ t. telling_fits _ (still _ _) _ (unpriced _ _ _ _ _ _))
          (λ t. split_if F _ (λ t. telling_fits _ (still _ o) _ (others_said b e _ refl)) (λ t. telling_fits _ (adding_fits _ (still _ _) _) _ (others_said b e _ refl)))

      replace_quiet : F (replace f order full o e)
      unfolding replace redelivered_report refuse replace_goes cancel_reject replace_request to_venue
      replace_quiet =
          split_if F _ (λ t. telling_fits _ (still _ _) _ (unpriced _ _ _ _ _ _))
          (λ t. split_if F _ (λ t. telling_fits _ (still _ o) _ (others_said b e _ refl))
          (λ t. split_if F _ (λ t. refusing_quiet 6) (λ t. telling_fits _ (adding_fits _ (still _ _) _) _ (others_said b e _ refl))))

    module _ (k : ℕ) where
      unknown_quiet : F (unknown_at_venue f k o e)
      unfolding unknown_at_venue
      unknown_quiet =
          split_if F _ (λ h. still _ o)
          (λ h. split_if F _ (λ h. still _ o) (λ h. split_if F _ (λ h. still _ o) (λ h. alarming_fits _ _ (unchanged_fits _ o refl refl) refl)))

      module _ (q : Request) (venue : ℕ) where
        failed_quiet : (v : ℕ) (n : Note) → F (send_failed f k q venue v n o)
        unfolding send_failed first_failed
        failed_quiet v n =
            split_if F _ (λ t. still _ o)
            (λ t. split_if F _ (λ t. still _ o)
            (λ t. split_if F _ (λ t. answering_fits _ (still _ o) k v)
            (λ t. split_if F _ (λ t. answering_fits _ (still _ _) k v)
            (λ t. split_if F _ (λ t. refuse_fits w f k q venue _ o (λ z. (refl, refl)) (λ z. (refl, refl)) (λ z. (refl, refl)) (λ x y z. (own_alarm _ o refl, refl)))
            (λ t. split_if F _ (λ t. still _ o) (λ t. telling_fits _ (answering_fits _ (still _ _) k v) _ (unpriced _ _ _ _ _ _)))))))

        unsent_quiet : F (unsent f k q venue o)
        unfolding unsent new_order cancel_request replace_request to_venue
        unsent_quiet =
            split_if F _ (λ t. telling_fits _ (still _ o) _ (others_said b e _ refl))
            (λ t. split_if F _ (λ t. telling_fits _ (still _ o) _ (others_said b e _ refl))
            (λ t. split_if F _ (λ t. telling_fits _ (still _ o) _ (others_said b e _ refl)) (λ t. failed_quiet _ _)))

  none_found : F unknown_report
  none_found = alarming_fits _ _ (unchanged_fits _ _ refl refl) refl

  on_request_lem : (unknown : Change) (handle : Findings → ℕ → Request → Order → Change) → F unknown → ((f : Findings) (k : ℕ) (q : Request) (o : Order) → F (handle f k q o))
      → F (on_request unknown handle b e)
  unfolding on_request
  on_request_lem unknown handle u h = split_maybe F _ (λ z. u) (λ k z. h _ _ _ _)

  -- events 1, 2, 3, 5, 7, 8 and 9
  pub change_quiet : eqb e.kind 6 ≡ false → F (change_of b e)
  unfolding change_of book_order amending on_name
  change_quiet never =
      let nil : F nothing = still _ _ in
      split_if F _ (λ t. split_if F _ (λ t. refusing_quiet 5) (λ t. split_if F _ (λ t. refusing_quiet 6) (λ t. adding_fits _ (still _ _) _)))
      (λ t. split_if F _ (λ t. cancel_quiet _ _ _ _)
      (λ t. split_if F _ (λ t. replace_quiet _ _ _ _)
      (λ t. split_if F _ (λ t. clash _ t no)
      (λ t. split_if F _ (λ t. on_request_lem _ _ none_found (λ f k q o. unknown_quiet f o k))
      (λ t. split_if F _ (λ t. clash _ t never)
      (λ t. split_if F _ (λ t. on_request_lem _ _ nil (λ f k q o. failed_quiet f o k q _ _ _))
      (λ t. split_if F _ (λ t. on_request_lem _ _ nil (λ f k q o. unsent_quiet f o k q _))
      (λ t. split_maybe F _ (λ z. nil) (λ i z. cancel_order_quiet _ _)))))))))
