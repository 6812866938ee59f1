-- Batches and events that are read back.
use Rattle.std.specs.Prelude.{◌≡◌, ◌≢◌, ℕ, ◌+◌, ◌-◌, ◌<◌, ◌≤◌, ◌⊎◌, ◌^◌, min, List, Vec, length, take, drop, Option, Some, None, IfSome, Result, Ok, Err, ⊤}
use Rattle.std.specs.Global.{Global}
use Rattle.record_model.specs.declared.entries.Event as model
use Rattle.record_model.specs.Seen.{events_seen}
use Rattle.definitions.specs.Counts.{Rose}
use Rattle.record_rules.specs.Records.{Event}
use Rattle.log_rules.specs.Body.{body_bytes, IsBatch}
use Rattle.log_rules.specs.Log.{Form, current_form}
use Rattle.log_rules.specs.Spots as log
use Rattle.log_rules.specs.Spots.{BatchAt, EventAt}
use Rattle.disk_rules.specs.Append.{Begins}
use Rattle.at_edge.specs.Storing.{DiskSeen, Tells}
use Rattle.log_check.specs.Forms.{form_of, digest_bytes}
use Rattle.log_check.specs.declared.forms.LogForm.{LogForm}
use Rattle.log_check.specs.declared.forms.LogForm.TheVariants.{Current, Old}
use Rattle.record_log.specs.declared.spots.Spot.{Spot}
use Rattle.record_log.specs.declared.reading.ReadFail.{ReadFail}
use Rattle.record_log.specs.declared.reading.ReadFail.TheVariants.{DiskFault, NoMemory}

abbrev pub spot_seen : Spot → log.Spot
spot_seen spot = record { offset = spot.offset; count = spot.count }

-- ---- in either form

-- before the closed gate these bytes have, at the spot, a batch of these events
abbrev pub BatchIn : Form → (gate : ℕ) → List ℕ → Spot → List Event → Type 0
BatchIn form gate shows spot events = BatchAt form (take gate shows) (spot_seen spot) events

-- some batch
abbrev pub SomeBatchIn : Form → (gate : ℕ) → List ℕ → Spot → Type 0
SomeBatchIn form gate shows spot = (events : List Event) × BatchIn form gate shows spot events

-- some batch whose gate stands at this offset, of a log whose closed gate is shown too
pub record OpensHere (form : Form) (gate offset : ℕ) (shows : List ℕ) : Type 0 where
  pub inside : gate ≤ length shows
  pub count : ℕ
  pub batch : SomeBatchIn form gate shows (record { offset = offset; count = count })

-- the offset is that of the closed gate, or of a batch's gate before it
abbrev pub IsGateIn : Form → (gate offset : ℕ) → List ℕ → Type 0
IsGateIn form gate offset shows = (offset ≡ gate) ⊎ ((spot : Spot) × (spot.offset ≡ offset) × SomeBatchIn form gate shows spot)

-- the offset of the gate behind a batch whose body has so many bytes, where 64 bits can tell it
abbrev pub gate_behind : LogForm → (offset count : ℕ) → ℕ
gate_behind form offset count = min (min (offset + (5 + digest_bytes form)) (2 ^ 64 - 1) + count) (2 ^ 64 - 1)

-- what stands at the gate: nothing where it is the closed one, else the batch, its spot, and the next gate's offset
abbrev pub FindsIn : LogForm → (gate offset : ℕ) → DiskSeen → Option (Vec model.Event Global × Spot × ℕ) → Type 0
FindsIn form gate offset seen None = offset ≡ gate
FindsIn form gate offset seen (Some found) = (offset ≢ gate) × (found.1.offset ≡ offset) × (found.2 ≡ gate_behind form offset found.1.count) × Tells seen (λ d. BatchIn (form_of form) gate d.shows found.1 (events_seen found.0.items))

-- whatever the disk gave, it is a batch whose body has so many bytes, and the next gate stands behind this one, at most where the closed one is, at an offset of
-- 64 bits
pub record IsWholeBatch (gate offset count next : ℕ) (events : List Event) : Type 0 where
  pub batch : IsBatch events
  pub count_is : count ≡ length (body_bytes events)
  pub onward : offset < next
  pub within : next ≤ gate
  pub fits : gate < 2 ^ 64

abbrev pub GivesWhole : (gate offset : ℕ) → Option (Vec model.Event Global × Spot × ℕ) → Type 0
GivesWhole gate offset found = IfSome found (λ f. IsWholeBatch gate offset f.1.count f.2 (events_seen f.0.items))

-- ---- in the form that is written

abbrev pub BatchBefore : (gate : ℕ) → List ℕ → Spot → List Event → Type 0
BatchBefore gate shows spot events = BatchIn current_form gate shows spot events

abbrev pub SomeBatch : (gate : ℕ) → List ℕ → Spot → Type 0
SomeBatch gate shows spot = (events : List Event) × BatchBefore gate shows spot events

-- a batch with an event at that place in it
abbrev pub SomeEvent : (gate : ℕ) → List ℕ → Spot → (at : ℕ) → Type 0
SomeEvent gate shows spot at = (events : List Event) × BatchBefore gate shows spot events × (at < length events)

abbrev pub EventBefore : (gate : ℕ) → List ℕ → Spot → (at : ℕ) → Event → Type 0
EventBefore gate shows spot at event = EventAt current_form (take gate shows) (spot_seen spot) at event

abbrev pub IsGate : (gate offset : ℕ) → List ℕ → Type 0
IsGate gate offset shows = IsGateIn current_form gate offset shows

abbrev pub FindsBatch : (gate offset : ℕ) → DiskSeen → Option (Vec model.Event Global × Spot × ℕ) → Type 0
FindsBatch gate offset seen found = FindsIn Current gate offset seen found

-- ---- in the old form

abbrev pub FindsOldBatch : (gate offset : ℕ) → DiskSeen → Option (Vec model.Event Global × Spot × ℕ) → Type 0
FindsOldBatch gate offset seen found = FindsIn Old gate offset seen found

-- ---- parts

-- the bytes are the body of some batch
pub record IsBody (bytes : List ℕ) : Type 0 where
  pub events : List Event
  pub batch : IsBatch events
  pub bytes_are : bytes ≡ body_bytes events

-- behind the gate at this offset, and a length, stands the body of some batch, which has so many bytes
pub record BodyThere (offset count : ℕ) (shows : List ℕ) : Type 0 where
  pub inside : offset + 5 + count ≤ length shows
  pub fits : offset + 5 < 2 ^ 64
  pub body : IsBody (take count (drop (offset + 5) shows))

-- the events of the body there
abbrev pub HasBody : (offset count : ℕ) → List ℕ → List Event → Type 0
HasBody offset count shows events = take count (drop (offset + 5) shows) ≡ body_bytes events

-- these events are a batch whose body has so many bytes
abbrev pub IsBatchOf : (count : ℕ) → List Event → Type 0
IsBatchOf count events = IsBatch events × (count ≡ length (body_bytes events))

-- the first bytes behind the gate at this offset, at least the length
abbrev pub StartsBehind : (offset : ℕ) → List ℕ → List ℕ → Type 0
StartsBehind offset first shows = Begins first (drop (offset + 1) shows) × (4 ≤ length first)

-- how many those are, where so many at most are wanted
abbrev pub first_count : (gate offset most : ℕ) → ℕ
first_count gate offset most = min (gate - min (offset + 1) (2 ^ 64 - 1)) most

-- why nothing was read
abbrev pub ReadCause : {T : Type 0} → Result T ReadFail → DiskSeen → DiskSeen → Type 0
ReadCause (Ok _) old new = ⊤
ReadCause (Err DiskFault) old new = Rose old.faults new.faults
ReadCause (Err NoMemory) old new = ⊤
