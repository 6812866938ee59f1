-- A log in the old form that is copied to a new one, batch by batch.
use Rattle.std.specs.Prelude.{◌≡◌, ℕ, ◌<◌, ◌≤◌, ◌⊎◌, ◌^◌, List, [], ◌++◌, length, Option, Some, None, IfSome, Result, Ok, Err, ⊤}
use Rattle.definitions.specs.Counts.{Rose}
use Rattle.record_rules.specs.Records.{Event}
use Rattle.record_rules.specs.Journal.{Sound}
use Rattle.log_rules.specs.Opened.{opened_journal}
use Rattle.log_rules.specs.Log.{current_form, old_form, StandsFor}
use Rattle.disk_rules.specs.History.{History, Images}
use Rattle.at_edge.specs.Storing.{DiskSeen, Arrives}
use Rattle.record_log.specs.Journals.{LogSeen, HasJournal, HasDoubt, LeavesOneOfTwo, LeavesJournal}
use Rattle.record_log.specs.OldLogs.{OldSeen}
use Rattle.record_log.specs.Walking.{StandsBetween, GoesOn}
use Rattle.record_log.specs.declared.copying.CopyFail.{CopyFail}
use Rattle.record_log.specs.declared.copying.CopyFail.TheVariants as fails

-- ---- answers

-- a disk failed only where its count rose
abbrev pub CopyCause : {T : Type 0} → Result T CopyFail → (old was : DiskSeen) → (into left : DiskSeen) → Type 0
CopyCause (Ok _) old was into left = ⊤
CopyCause (Err fails.OldFault) old was into left = Rose old.faults was.faults
CopyCause (Err fails.NewFault) old was into left = Rose into.faults left.faults
CopyCause (Err fails.NoMemory) old was into left = ⊤

-- the new log is in doubt only where its own disk failed
abbrev pub SettledBut : {T : Type 0} → Result T CopyFail → LogSeen → Type 0
SettledBut (Ok _) new = new.doubt ≡ None
SettledBut (Err fails.OldFault) new = new.doubt ≡ None
SettledBut (Err fails.NewFault) new = ⊤
SettledBut (Err fails.NoMemory) new = new.doubt ≡ None

-- ---- one batch

-- the new log has the journal of what was before, or is in doubt about the batch that comes next
abbrev pub StopsBefore : (before more : List Event) → LogSeen → LogSeen → Type 0
StopsBefore before more old new =
    (HasJournal new (opened_journal before) × LeavesJournal (opened_journal before) old new)
    ⊎ (HasDoubt new (opened_journal before) (opened_journal more) × LeavesOneOfTwo (opened_journal before) (opened_journal more) old new)

-- the answer of adding a batch of these events to a new log; behind the journal of others, with which they are sound, they join it
abbrev pub TakesBatch : {T : Type 0} → LogSeen → LogSeen → Result T CopyFail → List Event → Type 0
TakesBatch old new (Ok _) more = (before rest : List Event) → Sound (opened_journal (before ++ (more ++ rest))) old.host → HasJournal old (opened_journal before) → HasJournal new (opened_journal (before ++ more)) × LeavesOneOfTwo (opened_journal before) (opened_journal more) old new
TakesBatch old new (Err fails.OldFault) more = ⊥
TakesBatch old new (Err fails.NewFault) more = ((before rest : List Event) → Sound (opened_journal (before ++ (more ++ rest))) old.host → HasJournal old (opened_journal before) → StopsBefore before more old new) × Rose old.disk.faults new.disk.faults
TakesBatch old new (Err fails.NoMemory) more = new ≡ old

-- Between these events of the old log, whose disk shows these bytes: the batch that comes next was added to the journal of those before; or none comes; or the
-- new log was left alone, or stopped there.
abbrev pub Moves : (shows : List ℕ) (gate : ℕ) (before after : List Event) → LogSeen → LogSeen → Result (Option (ℕ × ℕ)) CopyFail → Type 0
Moves shows gate before after old new (Ok None) = (after ≡ []) × (new ≡ old)
Moves shows gate before after old new (Ok (Some moved)) =
    (more : List Event) × (moved.0 ≡ length more) × GoesOn old_form shows gate moved.1 before after more × HasJournal new (opened_journal (before ++ more)) × LeavesOneOfTwo (opened_journal before) (opened_journal more) old new
Moves shows gate before after old new (Err fails.OldFault) = new ≡ old
Moves shows gate before after old new (Err fails.NewFault) = (more : List Event) × (next : ℕ) × GoesOn old_form shows gate next before after more × StopsBefore before more old new
Moves shows gate before after old new (Err fails.NoMemory) = new ≡ old

-- so it is at this offset of the old log, where its disk tells and the new log has the journal of what was before
abbrev pub MovesSo : OldSeen → LogSeen → LogSeen → (offset : ℕ) → Result (Option (ℕ × ℕ)) CopyFail → Type 0
MovesSo from old new offset result = (was : History) (before after : List Event) → from.disk.history ≡ Some was → StandsBetween old_form was.now.shows from.gate offset before after → Sound (opened_journal (before ++ after)) old.host → HasJournal old (opened_journal before)
    → Moves was.now.shows from.gate before after old new result

-- the next gate stands behind this one, at most where the closed one is, at an offset of 64 bits
abbrev pub MovesOn : (gate offset : ℕ) → Option (ℕ × ℕ) → Type 0
MovesOn gate offset moved = IfSome moved (λ m. (offset < m.1) × (m.1 ≤ gate) × (gate < 2 ^ 64))

-- ---- all of them

-- of the events of the old log, whose disk shows these bytes, those of its first batches
pub record IsFirstPart (shows : List ℕ) (gate : ℕ) (events before : List Event) : Type 0 where
  pub offset : ℕ
  pub after : List Event
  pub stands : StandsBetween old_form shows gate offset before after
  pub all : before ++ after ≡ events

-- the bytes stand for the journal of such a part
pub record StandsForPart (shows : List ℕ) (gate : ℕ) (events : List Event) (host : ℕ) (left : List ℕ) : Type 0 where
  pub before : List Event
  pub part : IsFirstPart shows gate events before
  pub stands : StandsFor current_form left host (opened_journal before)

-- whatever a crash may leave of the new log at each further moment stands for such a part
abbrev pub LeavesParts : (shows : List ℕ) (gate : ℕ) (events : List Event) → LogSeen → LogSeen → Type 0
LeavesParts shows gate events old new = Arrives (Images (StandsForPart shows gate events old.host)) (λ _. Unit {0}) old.disk.history new.disk.history

-- the new log has the journal of such a part
pub record HasPart (shows : List ℕ) (gate : ℕ) (events : List Event) (new : LogSeen) : Type 0 where
  pub before : List Event
  pub part : IsFirstPart shows gate events before
  pub journal_is : HasJournal new (opened_journal before)

-- and it is in doubt about the batch that comes next
pub record DoubtsPart (shows : List ℕ) (gate : ℕ) (events : List Event) (new : LogSeen) : Type 0 where
  pub before : List Event
  pub more : List Event
  pub part : IsFirstPart shows gate events before
  pub next : IsFirstPart shows gate events (before ++ more)
  pub doubt : HasDoubt new (opened_journal before) (opened_journal more)

-- all was copied, and so many entries; or only a first part
abbrev pub Copies : (shows : List ℕ) (gate : ℕ) (events : List Event) → LogSeen → Result ℕ CopyFail → Type 0
Copies shows gate events new (Ok count) = (count ≡ length events) × HasJournal new (opened_journal events)
Copies shows gate events new (Err fails.OldFault) = HasPart shows gate events new
Copies shows gate events new (Err fails.NewFault) = HasPart shows gate events new ⊎ DoubtsPart shows gate events new
Copies shows gate events new (Err fails.NoMemory) = HasPart shows gate events new

-- so far: these batches were copied, up to the gate at this offset
pub record CopiedTo (shows : List ℕ) (gate : ℕ) (events : List Event) (offset entries : ℕ) (new : LogSeen) : Type 0 where
  pub before : List Event
  pub after : List Event
  pub stands : StandsBetween old_form shows gate offset before after
  pub all : before ++ after ≡ events
  pub count_is : entries ≡ length before
  pub journal_is : HasJournal new (opened_journal before)
