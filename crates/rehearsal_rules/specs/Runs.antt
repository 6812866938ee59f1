-- Runs of a world by a list of events: what the calls read and draw is filled in, and the run stops at the first event that can't happen or is
-- refused.
use Rattle.std.specs.Prelude.{◌≡◌, ℕ, ◌<◌, ◌≤◌, ◌⊎◌, List, length, take, Some, Err, slice_get}
use Rattle.record_rules.specs.Records.{SealedRecord, Caller}
use Rattle.record_rules.specs.Journal.{PassedLimit}
use Rattle.record_rules.specs.Growth.{PageFull, grow}
use Rattle.step_rules.specs.Calls.{Call}
use Rattle.step_rules.specs.Answers.{Refusal, full, Answer, refused}
use Rattle.step_rules.specs.Store.{KeyedStore}
use Rattle.world_rules.specs.World.{World, host_at, WorldEvent, Append, Send, Deliver, Crash, Cut, Sends, Delivers}
use Rattle.world_rules.specs.Stores.{StoreAsked}
use Rattle.rehearsal_rules.specs.Transfers.{Each}
use Rattle.rehearsal_rules.specs.Moments.{Moment, first_moment, CallsAt}

-- ---- an event that happens

-- the generators of a run begin with the nodes' numbers
abbrev pub run_seed : ℕ
run_seed = 0

-- a call at a node that is no server, with this answer
pub record AnswersAt (store : KeyedStore) (hosts : List ℕ) (r : Moment) (node : ℕ) (call : Call) (answer : Answer) (after : Moment) : Type 0 where
  pub host : ℕ
  pub at_host : host_at hosts node ≡ Some host
  pub at_no_server : 0 < node
  pub calls : CallsAt store run_seed r node host call answer after

-- the call is answered what it asks for
pub record IsAnswered (store : KeyedStore) (hosts : List ℕ) (r : Moment) (node : ℕ) (call : Call) (after : Moment) : Type 0 where
  pub answer : Answer
  pub answers : AnswersAt store hosts r node call answer after
  pub granted : (refusal : Refusal) → answer ≡ refused refusal → ⊥

-- a page that was sent comes to a node that has no room for it
pub record HasNoRoom (hosts : List ℕ) (w : World) (number node : ℕ) (caller : Caller) (passed : PassedLimit) : Type 0 where
  pub of_host : ℕ
  pub records : List SealedRecord
  pub at_node : host_at hosts node ≡ Some of_host
  pub was_sent : slice_get w.sent number ≡ Some records
  pub refuses : grow (w.journal node) caller 0 records ≡ Err (PageFull passed)

-- neither the clock is read nor is anything drawn
abbrev pub UsesNothing : (World → World → Type 0) → Moment → Moment → Type 0
UsesNothing becomes r after = (w : World) × becomes r.world w × (after ≡ record r { world = w })

-- The event happens. A page that a node refuses for a gap leaves it as it was, and the run goes on; of a run no event is cut.
abbrev pub TakesPlace : KeyedStore → List ℕ → WorldEvent Call → Moment → Moment → Type 0
TakesPlace store hosts (Append node call) r after = IsAnswered store hosts r node call after
TakesPlace store hosts (Send node host tag start count) r after = UsesNothing (λ w. Sends hosts w node host tag start count) r after
TakesPlace store hosts (Deliver number node caller) r after = ((passed : PassedLimit) → HasNoRoom hosts r.world number node caller passed → ⊥) × UsesNothing (λ w. Delivers hosts w number node caller) r after
TakesPlace store hosts (Crash node) r after = (host : ℕ) × (host_at hosts node ≡ Some host) × (after ≡ r)
TakesPlace store hosts (Cut event) r after = ⊥

-- ---- an event at which the run stops

-- The event names a node that isn't there or a page that wasn't sent yet, or calls the server.
abbrev pub IsBadEvent : List ℕ → World → WorldEvent Call → Type 0
IsBadEvent hosts w (Append node call) = (node ≡ 0) ⊎ (length hosts < node)
IsBadEvent hosts w (Send node host tag start count) = length hosts < node
IsBadEvent hosts w (Deliver number node caller) = (length w.sent ≤ number) ⊎ (length hosts < node)
IsBadEvent hosts w (Crash node) = length hosts < node
IsBadEvent hosts w (Cut event) = IsBadEvent hosts w event

-- the call is refused for this by its step, or the node is full
abbrev pub IsRefused : KeyedStore → List ℕ → Moment → WorldEvent Call → Refusal → Type 0
IsRefused store hosts r (Append node call) refusal = (after : Moment) × AnswersAt store hosts r node call (refused refusal) after
IsRefused store hosts r (Send node host tag start count) refusal = ⊥
IsRefused store hosts r (Deliver number node caller) refusal = (passed : PassedLimit) × HasNoRoom hosts r.world number node caller passed × (refusal ≡ full passed)
IsRefused store hosts r (Crash node) refusal = ⊥
IsRefused store hosts r (Cut event) refusal = ⊥

-- ---- runs

-- all events happen, one after the other, from the first moment to this one
abbrev pub RunsTo : KeyedStore → List ℕ → List (WorldEvent Call) → Moment → Type 0
RunsTo store hosts events r = Each (TakesPlace store hosts) events first_moment r

-- those before the event of this number, counted from 0, happen, and of that one this holds then
pub record StopsAt (store : KeyedStore) (hosts : List ℕ) (events : List (WorldEvent Call)) (number : ℕ) (stops : Moment → WorldEvent Call → Type 0) : Type 0 where
  pub event : WorldEvent Call
  pub moment : Moment
  pub at : slice_get events number ≡ Some event
  pub before : RunsTo store hosts (take number events) moment
  pub here : stops moment event

-- ---- what a run is as events of a world

-- the event, without what its call uses and whose it is
abbrev pub told_event : WorldEvent StoreAsked → WorldEvent Call
told_event (Append node asked) = Append node asked.call
told_event (Send node host tag start count) = Send node host tag start count
told_event (Deliver number node caller) = Deliver number node caller
told_event (Crash node) = Crash node
told_event (Cut event) = Cut (told_event event)
