-- What the handling makes of an event that is not refused is a change that is taken. Rests on Steps and machine's Machine.
use Rattle.std.specs.Prelude.{ℕ, ◌≡◌, refl, Bool, eqb, false}
use Rattle.prelude.specs.Cases.{if◌then◌otherwise◌}
use Rattle.prelude.specs.Laws.Cases.{split_if, split_maybe}
use Rattle.prelude.specs.declared.Refusal.{Refusal}
use Rattle.prelude.specs.declared.Refusal.TheVariants.{BadBook, ShortAnswer, BadRecord, OutOfRange, InUse, WrongPrice, FullBook, ShortPage, BadText, NoRoom, ShortNet, ShortList, BadName, NoMark, NoPlace, BadArchive, InArchive, FullArchive}
use Rattle.prelude.specs.Refusal.{number_of}
use Rattle.store.specs.declared.Order.{Order}
use Rattle.store.specs.declared.Request.{Request}
use Rattle.store.specs.Book.{Book}
use Rattle.machine.specs.declared.Change.{Change}
use Rattle.machine.specs.declared.Findings.{Findings}
use Rattle.machine.specs.declared.Note.{Note}
use Rattle.machine.specs.declared.Refused.{Refused}
use Rattle.machine.specs.Changes.{Event, unchanged, answering, superseding, adding, telling, alarming}
use Rattle.machine.specs.GatewayCancel.{send_gateway_cancel, cancel_order, resume_gateway_cancel, stuck, retry_gateway_cancel, gateway_cancel_refused}
use Rattle.machine.specs.Amend.{cancel, cancel_goes, refuse, redelivered_report, refuse_request, venue_cancel_reject, first_failed, send_failed, unsent}
use Rattle.machine.specs.Report.{unknown_at_venue, dropped_stale, dropped_repeat, settles, apply_report, venue_report}
use Rattle.machine.specs.Machine.{on_request, on_name, on_report}
use Rattle.step.specs.Steps.{handled, unknown_of}

-- a refusal has a number
pub numbered : (r : Refusal) → eqb (number_of r) 0 ≡ false
numbered BadBook = refl
numbered ShortAnswer = refl
numbered BadRecord = refl
numbered OutOfRange = refl
numbered InUse = refl
numbered WrongPrice = refl
numbered FullBook = refl
numbered ShortPage = refl
numbered BadText = refl
numbered NoRoom = refl
numbered ShortNet = refl
numbered ShortList = refl
numbered BadName = refl
numbered NoMark = refl
numbered NoPlace = refl
numbered BadArchive = refl
numbered InArchive = refl
numbered FullArchive = refl

abbrev Taken : Change → Type 0
Taken c = c.refusal ≡ 0

either : (b : Bool) (x y : Change) → Taken x → Taken y → Taken (if b then x otherwise y)
either b x y p q = split_if Taken b (λ t. p) (λ t. q)

-- ---- the gateway's own cancel

module _ (f : Findings) (c : Change) (h : Taken c) where
  sent : Taken (send_gateway_cancel f c)
  unfolding send_gateway_cancel telling adding
  sent = h

  resumed : Taken (resume_gateway_cancel f c)
  unfolding resume_gateway_cancel
  resumed = either _ _ _ sent h

  left_stuck : Taken (stuck c)
  unfolding stuck alarming
  left_stuck = h

  refused : (n : Note) → Taken (gateway_cancel_refused f n c)
  unfolding gateway_cancel_refused retry_gateway_cancel
  refused n = either _ _ _ h (either _ _ _ left_stuck (either _ _ _ left_stuck sent))

pub cancel_order_taken : (f : Findings) (o : Order) → Taken (cancel_order f o)
unfolding cancel_order unchanged
cancel_order_taken f o = either _ _ _ refl (either _ _ _ refl (either _ _ _ refl (sent f _ refl)))

-- ---- cancels, refusals and failed sends

pub cancel_taken : (f : Findings) (order : ℕ) (full : Bool) (o : Order) (e : Event) → Taken (cancel f order full o e)
unfolding cancel cancel_goes refuse redelivered_report telling adding unchanged
cancel_taken f order full o e = either _ _ _ refl (either _ _ _ refl refl)

module _ (f : Findings) (k : ℕ) (q : Request) (venue : ℕ) (o : Order) where
  request_refused : (r : Refused) → Taken (refuse_request f k q venue r o)
  unfolding refuse_request telling alarming answering unchanged
  request_refused r = either _ _ _ refl (either _ _ _ refl (either _ _ _ refl (either _ _ _ refl (either _ _ _ (refused f _ refl r.note) refl))))

  failed : (outcome : ℕ) (n : Note) → Taken (send_failed f k q venue outcome n o)
  unfolding send_failed first_failed telling answering unchanged
  failed outcome n = either _ _ _ refl (either _ _ _ refl (either _ _ _ refl (either _ _ _ refl (either _ _ _ (request_refused _) (either _ _ _ refl refl)))))

  resent : Taken (unsent f k q venue o)
  unfolding unsent telling unchanged
  resent = either _ _ _ refl (either _ _ _ refl (either _ _ _ refl (failed _ _)))

-- ---- reports

module _ (f : Findings) (k : ℕ) (q : Request) (o : Order) (e : Event) where
  unknown_there : Taken (unknown_at_venue f k o e)
  unfolding unknown_at_venue alarming unchanged
  unknown_there = either _ _ _ refl (either _ _ _ refl (either _ _ _ refl refl))

  settled : (accepted : Bool) (s : ℕ) (c : Change) → Taken c → Taken (settles accepted s k q o c)
  unfolding settles superseding answering
  settled accepted s c h = either _ _ _ h (either _ _ _ h h)

  applied : Taken (apply_report f k q o e)
  unfolding apply_report telling unchanged
  applied = either _ _ _ (settled _ _ _ refl) (settled _ _ _ refl)

  reported : Taken (venue_report f k q o e)
  unfolding venue_report dropped_stale dropped_repeat alarming unchanged
  reported =
      either _ _ _ (resumed f _ (request_refused f k q e.venue o _))
      (either _ _ _ refl (either _ _ _ (either _ _ _ refl refl) (either _ _ _ refl (either _ _ _ refl applied))))

  handled_taken : Taken (handled e f k q o)
  unfolding handled on_report venue_cancel_reject
  handled_taken =
      either _ _ _ (either _ _ _ unknown_there reported)
      (either _ _ _ unknown_there (either _ _ _ (resumed f _ (request_refused f k q e.venue o _)) (either _ _ _ (failed f k q e.venue o _ _) (resent f k q e.venue o))))

-- ---- events by what they name

module _ (b : Book) (e : Event) where
  unknown_taken : Taken (unknown_of e)
  unfolding unknown_of alarming unchanged
  unknown_taken = either _ _ _ refl refl

  pub request_taken : Taken (on_request (unknown_of e) (handled e) b e)
  unfolding on_request
  request_taken = split_maybe Taken _ (λ n. unknown_taken) (λ k i. handled_taken _ _ _ _ e)

  pub name_taken : Taken (on_name b e)
  unfolding on_name unchanged
  name_taken = split_maybe Taken _ (λ n. refl) (λ i j. cancel_order_taken _ _)
