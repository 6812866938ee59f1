-- What a call, and a page that comes in, make of a store: one turn, and what a crash may leave on the way.
use Rattle.std.specs.Prelude.{◌≡◌, ◌⊎◌, ℕ, List, ◌++◌, Some}
use Rattle.definitions.specs.Uses.{Used, used_nothing}
use Rattle.record_rules.specs.Records.{SealedRecord, Caller, Entry}
use Rattle.log_rules.specs.Log.{current_form, StandsFor}
use Rattle.disk_rules.specs.History.{Images}
use Rattle.step_rules.specs.Calls.{Call}
use Rattle.step_rules.specs.Answers.{Reply}
use Rattle.step_rules.specs.Sealing.{keyed_store}
use Rattle.step_rules.specs.Turn.{settled, Turn}
use Rattle.step_rules.specs.PageTurns.{PageAnswer, PageTurn}
use Rattle.at_edge.specs.Storing.{Arrives}
use Rattle.record_seal.proofs.StoreSealing.{record_sealing}
use Rattle.call_supplies.specs.Supplies.{Supplies, Uses}
use Rattle.record_log.specs.Journals.{LogSeen}
use Rattle.store_core.specs.Store.{StoreSeen, IsStoreOf}

-- the bytes stand for the journal, for it with what was in doubt settled, or for what the turn leaves
abbrev pub IsOfTurn : (host : ℕ) → (journal doubt after doubt_after : List Entry) → List ℕ → Type 0
IsOfTurn host journal doubt after doubt_after left =
    StandsFor current_form left host journal ⊎ (StandsFor current_form left host (settled journal doubt) ⊎ StandsFor current_form left host (after ++ doubt_after))

-- and so does whatever a crash may leave at each further moment
abbrev pub LeavesByTurn : LogSeen → LogSeen → (journal doubt after doubt_after : List Entry) → Type 0
LeavesByTurn old new journal doubt after doubt_after = Arrives (Images (IsOfTurn old.host journal doubt after doubt_after)) (λ _. Unit {0}) old.disk.history new.disk.history

-- The call was one turn: of whatever journal and entries in doubt the store was, it is of those that the turn leaves.
abbrev pub Asks : StoreSeen → StoreSeen → Caller → Call → Used → Reply → Type 0
Asks old new caller call used reply = (key : List ℕ) (journal doubt : List Entry) → old.key ≡ Some key → IsStoreOf old journal doubt
    → (after : List Entry) × (doubt_after : List Entry) × IsStoreOf new after doubt_after × Turn (keyed_store record_sealing old.log.host key) journal doubt caller call used after doubt_after reply
    × LeavesByTurn old.log new.log journal doubt after doubt_after

-- So it was, and used so much of the random source and of the clock.
abbrev pub AsksUsing : StoreSeen → StoreSeen → Supplies → Supplies → Caller → Call → Reply → Type 0
AsksUsing old new before after caller call reply = (used : Used) × Uses before after used × Asks old new caller call used reply

-- The call, whoever makes it, is a turn that uses nothing and leaves everything.
abbrev pub OnlyAsks : StoreSeen → Call → Reply → Type 0
OnlyAsks store call reply = (key : List ℕ) (journal doubt : List Entry) (caller : Caller) → store.key ≡ Some key → IsStoreOf store journal doubt
    → Turn (keyed_store record_sealing store.log.host key) journal doubt caller call used_nothing journal doubt reply

-- So was the page of this owner.
abbrev pub TakesPage : StoreSeen → StoreSeen → Caller → (owner : ℕ) → List SealedRecord → PageAnswer → Type 0
TakesPage old new caller owner records answer = (journal doubt : List Entry) → IsStoreOf old journal doubt
    → (after : List Entry) × (doubt_after : List Entry) × IsStoreOf new after doubt_after × PageTurn journal doubt caller owner records after doubt_after answer
    × LeavesByTurn old.log new.log journal doubt after doubt_after
