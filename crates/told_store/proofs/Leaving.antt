-- What a crash leaves of a store of which a note tells, between two turns and within one.
use Rattle.std.proofs.Common.{◌≡◌, ◌⊎◌, inl, inr, ℕ, List, ◌++◌, Option, Some, None, sym, subst}
use Rattle.std.specs.Prelude.{IfSome}
use Rattle.record_rules.specs.Records.{Entry}
use Rattle.log_rules.specs.Log.{current_form}
use Rattle.disk_rules.specs.Disk.{Disk}
use Rattle.disk_rules.specs.History.{History, Images}
use Rattle.crash_rules.specs.Laws.{IsBeforeOrAfter}
use Rattle.crash_rules.proofs.Calls.{log_leaves_images}
use Rattle.step_rules.specs.Turn.{settled}
use Rattle.session_rules.specs.Stores.{StoreState}
use Rattle.at_edge.specs.Storing.{Arrives, Tells}
use Rattle.at_edge.proofs.DiskRuns.{arrives_weaker, arrives_with}
use Rattle.record_log.specs.Journals.{LogSeen, HoldsAt, DoubtsAt}
use Rattle.session_crashes.specs.Crashes.{IsOfState, LeavesState, TurnLeaves}
use Rattle.session_crashes.proofs.Growth.{settled_alike, stands_alike}
use Rattle.store_tables.specs.declared.tables.Batch.{Batch}
use Rattle.store_core.specs.Store.{StoreSeen, entries_of, doubted, LogMeans, IsStoreOf}
use Rattle.store_core.specs.Calls.{IsOfTurn, LeavesByTurn}
use Rattle.store_core.proofs.Standing.{tells_map}

-- ---- between two turns

log_leaves : (log : LogSeen) (entries doubt : List Entry) (batch : Option Batch) → doubt ≡ doubted batch → LogMeans log entries batch → Tells log.disk (Images (IsBeforeOrAfter current_form log.host entries doubt))
log_leaves log entries doubt None is means =
    tells_map log.disk (HoldsAt current_form log.gate log.host entries) (Images (IsBeforeOrAfter current_form log.host entries doubt)) (λ disk held left leaves. inl (log_leaves_images current_form held.prefix log.host entries None disk left held.log leaves)) means.holds
log_leaves log entries doubt (Some batch) is means =
    subst (λ (more : List Entry). Tells log.disk (Images (IsBeforeOrAfter current_form log.host entries more))) (sym is)
    (tells_map log.disk (DoubtsAt current_form log.gate log.host entries (entries_of batch)) (Images (IsBeforeOrAfter current_form log.host entries (entries_of batch)))
    (λ disk held left leaves. log_leaves_images current_form held.prefix log.host entries (Some (entries_of batch)) disk left held.log leaves) means.holds)

-- a crash now leaves what the store is of
pub state_leaves : (store : StoreSeen) (state : StoreState) → IsStoreOf store state.entries state.doubt → LeavesState store.log.host state store.log.disk.history
state_leaves store state is = log_leaves store.log state.entries state.doubt store.doubt is.doubt_is is.log

-- ---- within a turn

of_found_or_left : (host : ℕ) (found left : StoreState) (bytes : List ℕ) → IsOfTurn host found.entries found.doubt left.entries left.doubt bytes → IsOfState host found bytes ⊎ IsOfState host left bytes
of_found_or_left host found left bytes (inl stands) = inl (inl stands)
of_found_or_left host found left bytes (inr (inl stands)) = inl (inr (stands_alike bytes host (settled found.entries found.doubt) (found.entries ++ found.doubt) (settled_alike found.entries found.doubt) stands))
of_found_or_left host found left bytes (inr (inr stands)) = inr (inr stands)

-- a turn that ends with a store of which this state tells
pub turn_leaves : (was : LogSeen) (store : StoreSeen) (found left : StoreState) → LeavesByTurn was store.log found.entries found.doubt left.entries left.doubt → IsStoreOf store left.entries left.doubt → store.log.host ≡ was.host
    → TurnLeaves was.host found left was.disk.history store.log.disk.history
turn_leaves was store found left leaves is host =
    let through : Disk → Type 0 = Images (λ bytes. IsOfState was.host found bytes ⊎ IsOfState was.host left bytes) in
    let at_end : Disk → Type 0 = Images (IsOfState was.host left) in
    let ends : IfSome store.log.disk.history (λ (history : History). at_end history.now) = subst (λ (h : ℕ). LeavesState h left store.log.disk.history) host (state_leaves store left is) in
    let run : Arrives through (λ _. Unit {0}) was.disk.history store.log.disk.history =
    arrives_weaker through (Images (IsOfTurn was.host found.entries found.doubt left.entries left.doubt)) (λ _. Unit {0}) (λ _. Unit {0}) was.disk.history store.log.disk.history (λ disk images bytes left_there. of_found_or_left was.host found left bytes (images bytes left_there)) (λ disk end. end) leaves in
    arrives_weaker through through at_end (λ disk. Unit {0} × at_end disk) was.disk.history store.log.disk.history (λ disk images. images) (λ disk both. both.1) (arrives_with through (λ _. Unit {0}) at_end was.disk.history store.log.disk.history run ends)
