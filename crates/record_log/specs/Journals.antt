-- A log as the journal that it stands for, and the two calls that add to it.
use Rattle.std.specs.Prelude.{◌≡◌, ℕ, ◌+◌, ◌⊎◌, List, ◌++◌, length, take, Option, Some, None, Result, Ok, Err}
use Rattle.record_rules.specs.Records.{Entry}
use Rattle.record_rules.specs.Journal.{events_of, Sound}
use Rattle.log_rules.specs.Body.{body_bytes, IsBatch}
use Rattle.log_rules.specs.Log.{Form, current_form, StandsFor}
use Rattle.disk_rules.specs.Disk.{Disk}
use Rattle.disk_rules.specs.History.{History, Images}
use Rattle.crash_rules.specs.Laws.{HoldsLog, MaySettle, IsBeforeOrAfter}
use Rattle.at_edge.specs.Storing.{DiskSeen, Tells, Arrives}
use Rattle.record_log.specs.Gates.{IsAtRest, IsDoubtful}
use Rattle.record_log.specs.Ready.{ReadyBatch}
use Rattle.record_log.specs.Reading.{BatchBefore}
use Rattle.record_log.specs.declared.spots.Spot.{Spot}

-- what is seen of a log: its disk, its host, the offset of its closed gate, and the length of the body that is in doubt behind that
pub record LogSeen : Type 0 where
  pub disk : DiskSeen
  pub host : ℕ
  pub gate : ℕ
  pub doubt : Option ℕ

-- what is true of every log; a body has its length before it and its digest behind it
abbrev pub IsGated : DiskSeen → ℕ → Option ℕ → Type 0
IsGated seen gate None = Tells seen (IsAtRest gate)
IsGated seen gate (Some count) = Tells seen (IsDoubtful gate (20 + count))

-- ---- the journal

-- the disk holds a log of the journal, whose closed gate stands at this offset
pub record HoldsAt (form : Form) (gate host : ℕ) (journal : List Entry) (disk : Disk) : Type 0 where
  pub prefix : List ℕ
  pub place : length prefix ≡ gate
  pub log : HoldsLog form prefix host journal disk

-- a batch of more entries is in doubt behind that gate
pub record DoubtsAt (form : Form) (gate host : ℕ) (journal more : List Entry) (disk : Disk) : Type 0 where
  pub prefix : List ℕ
  pub place : length prefix ≡ gate
  pub log : MaySettle form prefix host journal more disk

-- the log isn't in doubt, and where its disk tells it holds the journal
pub record HasJournal (log : LogSeen) (journal : List Entry) : Type 0 where
  pub settled : log.doubt ≡ None
  pub holds : Tells log.disk (HoldsAt current_form log.gate log.host journal)

-- the log is in doubt about these entries
pub record HasDoubt (log : LogSeen) (journal more : List Entry) : Type 0 where
  pub doubt : log.doubt ≡ Some (length (body_bytes (events_of more)))
  pub holds : Tells log.disk (DoubtsAt current_form log.gate log.host journal more)

-- at the spot, before the closed gate, stands the batch of these entries
abbrev pub HasSpot : LogSeen → Spot → List Entry → Type 0
HasSpot log spot more = Tells log.disk (λ disk. BatchBefore log.gate disk.shows spot (events_of more))

-- the bytes before the gate are shown as before
abbrev pub KeepsBelow : (gate : ℕ) → Option History → Option History → Type 0
KeepsBelow gate old new = (was now : History) → old ≡ Some was → new ≡ Some now → take gate now.now.shows ≡ take gate was.now.shows

-- ---- the calls

-- the entries may be appended to the log, and this is their batch
pub record MayTake (log : LogSeen) (journal more : List Entry) (batch : ReadyBatch) : Type 0 where
  pub journal_is : HasJournal log journal
  pub entries : IsBatch (events_of more)
  pub sound : Sound (journal ++ more) log.host
  pub body_is : batch.body ≡ body_bytes (events_of more)

-- whatever a crash may leave at each further moment stands for one of the two journals
abbrev pub LeavesOneOfTwo : List Entry → List Entry → LogSeen → LogSeen → Type 0
LeavesOneOfTwo journal more old new = Arrives (Images (IsBeforeOrAfter current_form old.host journal more)) (λ _. Unit {0}) old.disk.history new.disk.history

-- or for the one
abbrev pub LeavesJournal : List Entry → LogSeen → LogSeen → Type 0
LeavesJournal journal old new = Arrives (Images (λ left. StandsFor current_form left old.host journal)) (λ _. Unit {0}) old.disk.history new.disk.history

-- the batch was in doubt; now it is part of the journal, or still in doubt
abbrev pub Settles : {E : Type 0} → LogSeen → LogSeen → Result Spot E → Type 0
Settles old new (Ok spot) = (journal more : List Entry) → HasDoubt old journal more → HasJournal new (journal ++ more) × HasSpot new spot more × LeavesOneOfTwo journal more old new
Settles old new (Err _) = (journal more : List Entry) → HasDoubt old journal more → HasDoubt new journal more × LeavesOneOfTwo journal more old new

-- the batch is part of the journal; or the log is as before, or the batch is in doubt
abbrev pub Appends : {E : Type 0} → LogSeen → LogSeen → Result Spot E → ReadyBatch → Type 0
Appends old new (Ok spot) batch = (journal more : List Entry) → MayTake old journal more batch → HasJournal new (journal ++ more) × HasSpot new spot more × LeavesOneOfTwo journal more old new
Appends old new (Err _) batch = (journal more : List Entry) → MayTake old journal more batch
    → (HasJournal new journal × LeavesJournal journal old new) ⊎ (HasDoubt new journal more × LeavesOneOfTwo journal more old new)
