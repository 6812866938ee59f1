-- What a log stands for after a crash, as statements. Each is the contract of the function of its name.
use Rattle.std.specs.Prelude.{◌≡◌, ℕ, ◌<◌, ◌⊎◌, ◌^◌, List, [], ◌∷◌, ◌++◌, length, Option, Some, None}
use Rattle.std.specs.List.{AllByRecursion}
use Rattle.definitions.specs.Spelling.{IsBytes}
use Rattle.record_rules.specs.Records.{Entry}
use Rattle.record_rules.specs.Journal.{events_of, Sound}
use Rattle.log_rules.specs.Body.{IsBatch}
use Rattle.log_rules.specs.Contents.{store_journal, callers_of}
use Rattle.log_rules.specs.Log.{Form, header_bytes, payload_bytes, IsLogPrefix, StandsFor}
use Rattle.disk_rules.specs.Disk.{Disk, Leaves, IsDisk, Since}
use Rattle.disk_rules.specs.Calls.{DiskCall, Write, Sync, Done, Reaches, AllDone}
use Rattle.disk_rules.specs.Append.{append_calls, settle_calls, stage_calls, FailsAtGate, IsSettled, IsInDoubt}

-- whatever a crash now may leave begins with the prefix of a log of the journal and the closed gate behind it
pub record HoldsLog (form : Form) (prefix : List ℕ) (host : ℕ) (journal : List Entry) (disk : Disk) : Type 0 where
  pub settled : IsSettled prefix disk
  pub opened : IsLogPrefix form prefix host (events_of journal)
  pub sound : Sound journal host

-- each image stands for the journal alone
abbrev pub HeldLogStands : Type 0
HeldLogStands = (form : Form) (prefix : List ℕ) (host : ℕ) (journal : List Entry) (disk : Disk) (left : List ℕ) → HoldsLog form prefix host journal disk → Leaves disk left → StandsFor form left host journal

-- so does each that was left since a moment at which the disk held that log, whatever it held before, where it held it ever since
abbrev pub SinceHeldLogStands : Type 0
SinceHeldLogStands = (form : Form) (prefix : List ℕ) (host : ℕ) (journal : List Entry) (old : Disk) (moments before : List Disk) (left : List ℕ) → HoldsLog form prefix host journal old → AllByRecursion (HoldsLog form prefix host journal) moments
    → Since (length before) (moments ++ old ∷ before) left → StandsFor form left host journal

-- a disk at rest that shows a log of the journal holds it
abbrev pub RestHoldsLog : Type 0
RestHoldsLog = (form : Form) (host : ℕ) (journal : List Entry) (disk : Disk) → IsDisk disk → disk.written ≡ [] → (stands : StandsFor form disk.shows host journal) → HoldsLog form stands.prefix host journal disk

-- ---- an append

-- the disk holds a log of the journal, and a batch of these entries keeps the journal sound
pub record MayAppend (form : Form) (prefix : List ℕ) (host : ℕ) (journal more : List Entry) (disk : Disk) : Type 0 where
  pub log : HoldsLog form prefix host journal disk
  pub batch : IsBatch (events_of more)
  pub sound : Sound (journal ++ more) host

-- the bytes stand for the journal, with the entries or without them
abbrev pub IsBeforeOrAfter : Form → ℕ → List Entry → List Entry → List ℕ → Type 0
IsBeforeOrAfter form host journal more bytes = StandsFor form bytes host journal ⊎ StandsFor form bytes host (journal ++ more)

-- at each moment of the append, whatever fails, each image stands for one of the two
abbrev pub CrashLeavesOneOfTwo : Type 0
CrashLeavesOneOfTwo = (form : Form) (prefix : List ℕ) (host : ℕ) (journal more : List Entry) (old now : Disk) (left : List ℕ) → MayAppend form prefix host journal more old
    → Reaches (append_calls (length prefix) (payload_bytes form (length prefix) (events_of more))) old now → Leaves now left → IsBeforeOrAfter form host journal more left

-- so does each image since the moment at which it began, whatever the disk held before
abbrev pub SinceLeavesOneOfTwo : Type 0
SinceLeavesOneOfTwo = (form : Form) (prefix : List ℕ) (host : ℕ) (journal more : List Entry) (old : Disk) (moments before : List Disk) (left : List ℕ) → MayAppend form prefix host journal more old
    → AllByRecursion (Reaches (append_calls (length prefix) (payload_bytes form (length prefix) (events_of more))) old) moments → Since (length before) (moments ++ old ∷ before) left → IsBeforeOrAfter form host journal more left

-- also where appends that failed before their gate was written came first, since the first of them
abbrev pub SinceFailuresLeavesOneOfTwo : Type 0
SinceFailuresLeavesOneOfTwo = (form : Form) (prefix : List ℕ) (host : ℕ) (journal more : List Entry) (first old : Disk) (moments failures before : List Disk) (left : List ℕ) → HoldsLog form prefix host journal first → AllByRecursion (HoldsLog form prefix host journal) failures
    → MayAppend form prefix host journal more old → AllByRecursion (Reaches (append_calls (length prefix) (payload_bytes form (length prefix) (events_of more))) old) moments
    → Since (length before) (moments ++ (failures ++ first ∷ before)) left → IsBeforeOrAfter form host journal more left

-- until its gate is written the disk holds the log as before, whatever fails; so each image stands for the journal alone, and the next append may begin there
abbrev pub StagingHoldsLog : Type 0
StagingHoldsLog = (form : Form) (prefix : List ℕ) (host : ℕ) (journal : List Entry) (payload : List ℕ) (old now : Disk) → HoldsLog form prefix host journal old → Reaches (stage_calls (length prefix) payload) old now → HoldsLog form prefix host journal now

-- after an append that succeeded each image stands for the journal with the entries
abbrev pub AppendStands : Type 0
AppendStands = (form : Form) (prefix : List ℕ) (host : ℕ) (journal more : List Entry) (old new : Disk) (left : List ℕ) → MayAppend form prefix host journal more old
    → AllDone (append_calls (length prefix) (payload_bytes form (length prefix) (events_of more))) old new → Leaves new left → StandsFor form left host (journal ++ more)

-- the disk is at rest then, and holds a log of the journal with the entries
abbrev pub AppendHoldsLog : Type 0
AppendHoldsLog = (form : Form) (prefix : List ℕ) (host : ℕ) (journal more : List Entry) (old new : Disk) → MayAppend form prefix host journal more old
    → AllDone (append_calls (length prefix) (payload_bytes form (length prefix) (events_of more))) old new → (new.written ≡ []) × HoldsLog form (prefix ++ 1 ∷ payload_bytes form (length prefix) (events_of more)) host (journal ++ more) new

-- ---- a batch in doubt

-- a batch of these entries is in doubt behind the prefix of a log of the journal, and keeps the journal sound
pub record MaySettle (form : Form) (prefix : List ℕ) (host : ℕ) (journal more : List Entry) (disk : Disk) : Type 0 where
  pub doubt : IsInDoubt prefix (payload_bytes form (length prefix) (events_of more)) disk
  pub opened : IsLogPrefix form prefix host (events_of journal)
  pub batch : IsBatch (events_of more)
  pub sound : Sound (journal ++ more) host

-- so it is where the write of an append's gate failed, or the sync behind it
abbrev pub StoppedMaySettle : Type 0
StoppedMaySettle = (form : Form) (prefix : List ℕ) (host : ℕ) (journal more : List Entry) (old staged now : Disk) → MayAppend form prefix host journal more old
    → AllDone (stage_calls (length prefix) (payload_bytes form (length prefix) (events_of more))) old staged → FailsAtGate (length prefix) staged now → MaySettle form prefix host journal more now

-- and again where settling it failed
abbrev pub MaySettleAgain : Type 0
MaySettleAgain = (form : Form) (prefix : List ℕ) (host : ℕ) (journal more : List Entry) (old now : Disk) → MaySettle form prefix host journal more old → FailsAtGate (length prefix) old now → MaySettle form prefix host journal more now

-- at each moment of settling it, whatever fails, each image stands for one of the two
abbrev pub SettlingLeavesOneOfTwo : Type 0
SettlingLeavesOneOfTwo = (form : Form) (prefix : List ℕ) (host : ℕ) (journal more : List Entry) (old now : Disk) (left : List ℕ) → MaySettle form prefix host journal more old
    → Reaches (settle_calls (length prefix)) old now → Leaves now left → IsBeforeOrAfter form host journal more left

-- so does each image since the moment at which settling began, whatever the disk held before
abbrev pub SinceSettlingLeavesOneOfTwo : Type 0
SinceSettlingLeavesOneOfTwo = (form : Form) (prefix : List ℕ) (host : ℕ) (journal more : List Entry) (old : Disk) (moments before : List Disk) (left : List ℕ) → MaySettle form prefix host journal more old
    → AllByRecursion (Reaches (settle_calls (length prefix)) old) moments → Since (length before) (moments ++ old ∷ before) left → IsBeforeOrAfter form host journal more left

-- and after it was settled each image stands for the journal with the entries
abbrev pub SettledStands : Type 0
SettledStands = (form : Form) (prefix : List ℕ) (host : ℕ) (journal more : List Entry) (old new : Disk) (left : List ℕ) → MaySettle form prefix host journal more old
    → AllDone (settle_calls (length prefix)) old new → Leaves new left → StandsFor form left host (journal ++ more)

-- the disk is at rest then, and holds a log of the journal with the entries
abbrev pub SettledHoldsLog : Type 0
SettledHoldsLog = (form : Form) (prefix : List ℕ) (host : ℕ) (journal more : List Entry) (old new : Disk) → MaySettle form prefix host journal more old
    → AllDone (settle_calls (length prefix)) old new → (new.written ≡ []) × HoldsLog form (prefix ++ 1 ∷ payload_bytes form (length prefix) (events_of more)) host (journal ++ more) new

-- ---- a log between two calls

-- the log holds the journal, or a batch behind it is in doubt
abbrev pub IsLog : Form → List ℕ → ℕ → List Entry → Option (List Entry) → Disk → Type 0
IsLog form prefix host journal None disk = HoldsLog form prefix host journal disk
IsLog form prefix host journal (Some more) disk = MaySettle form prefix host journal more disk

-- each image stands for the journal, or for the journal with the batch in doubt
abbrev pub IsImageOf : Form → ℕ → List Entry → Option (List Entry) → List ℕ → Type 0
IsImageOf form host journal None bytes = StandsFor form bytes host journal
IsImageOf form host journal (Some more) bytes = IsBeforeOrAfter form host journal more bytes

abbrev pub LogLeavesImages : Type 0
LogLeavesImages = (form : Form) (prefix : List ℕ) (host : ℕ) (journal : List Entry) (doubt : Option (List Entry)) (disk : Disk) (left : List ℕ) → IsLog form prefix host journal doubt disk → Leaves disk left → IsImageOf form host journal doubt left

-- ---- by call

-- the header and a closed gate; a sync
abbrev pub create_calls : Form → ℕ → List DiskCall
create_calls form host = Write 0 (header_bytes form host ++ 0 ∷ []) ∷ Sync ∷ []

-- creating: an empty disk holds the log of the empty journal then
abbrev pub CreateHoldsLog : Type 0
CreateHoldsLog = (form : Form) (host : ℕ) (old new : Disk) → host < 2 ^ 128 → IsDisk old → old.shows ≡ [] → AllDone (create_calls form host) old new → (new.written ≡ []) × HoldsLog form (header_bytes form host) host [] new

-- opening begins with a sync: whichever image of a log the disk shows, it holds that log then
abbrev pub OpenHoldsLog : Type 0
OpenHoldsLog = (form : Form) (host : ℕ) (journal : List Entry) (doubt : Option (List Entry)) (old new : Disk) → IsDisk old → ((left : List ℕ) → Leaves old left → IsImageOf form host journal doubt left) → Done Sync old new
    → (stood : List Entry) × (prefix : List ℕ) × HoldsLog form prefix host stood new × IsImageOf form host journal doubt new.shows × StandsFor form new.shows host stood

-- an append: it succeeded, or the log is as before, or the batch is in doubt
abbrev pub AppendEnds : Type 0
AppendEnds = (form : Form) (prefix : List ℕ) (host : ℕ) (journal more : List Entry) (old now : Disk) → MayAppend form prefix host journal more old → Reaches (append_calls (length prefix) (payload_bytes form (length prefix) (events_of more))) old now
    → IsLog form prefix host journal None now ⊎ (IsLog form prefix host journal (Some more) now ⊎ IsLog form (prefix ++ 1 ∷ payload_bytes form (length prefix) (events_of more)) host (journal ++ more) None now)

-- settling: it succeeded, or the batch is still in doubt
abbrev pub SettleEnds : Type 0
SettleEnds = (form : Form) (prefix : List ℕ) (host : ℕ) (journal more : List Entry) (old new : Disk) → IsLog form prefix host journal (Some more) old → AllDone (settle_calls (length prefix)) old new ⊎ FailsAtGate (length prefix) old new
    → IsLog form prefix host journal (Some more) new ⊎ IsLog form (prefix ++ 1 ∷ payload_bytes form (length prefix) (events_of more)) host (journal ++ more) None new

-- settling, and then an append behind it: each image stands for the journal with the settled batch, with or without the new one
abbrev pub SettledMayAppend : Type 0
SettledMayAppend = (form : Form) (prefix : List ℕ) (host : ℕ) (journal more next : List Entry) (old mid : Disk) → IsLog form prefix host journal (Some more) old → AllDone (settle_calls (length prefix)) old mid
    → IsBatch (events_of next) → Sound ((journal ++ more) ++ next) host → MayAppend form (prefix ++ 1 ∷ payload_bytes form (length prefix) (events_of more)) host (journal ++ more) next mid

-- ---- what a store means

-- A log, and a store over it, mean a function of what the disk shows: the callers that the store keeps, each with the event that stands there. Where a batch is
-- in doubt its callers aren't kept yet.
abbrev pub ShownIsTheJournal : Type 0
ShownIsTheJournal = (form : Form) (prefix : List ℕ) (host : ℕ) (journal : List Entry) (doubt : Option (List Entry)) (disk : Disk) → IsLog form prefix host journal doubt disk → IsBytes disk.shows → store_journal form (callers_of journal) disk.shows ≡ journal
