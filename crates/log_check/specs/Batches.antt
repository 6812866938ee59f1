-- A batch behind an open gate, as it is checked.
use Rattle.std.specs.Prelude.{◌≡◌, ◌≢◌, ℕ, ◌+◌, ◌<◌, Bool, true, false, List, ◌∷◌, ◌++◌, length, take, drop, Result, Ok, Err, ⊤}
use Rattle.definitions.specs.Counts.{Rose}
use Rattle.record_rules.specs.Records.{Event}
use Rattle.log_rules.specs.Body.{IsBatch}
use Rattle.log_rules.specs.Log.{Form, payload_bytes, HoldsGoodBatch}
use Rattle.journal_check.specs.Tallies.{Tallies}
use Rattle.at_edge.specs.Storing.{DiskSeen, Tells}
use Rattle.log_check.specs.Checking.{IsChecked}
use Rattle.log_check.specs.declared.checking.BatchFail.{BatchFail}
use Rattle.log_check.specs.declared.checking.BatchFail.TheVariants.{Bad, DiskFault, NoMemory}

-- ---- parts of it

-- so many bytes of what the disk shows there, of which this was made; or the disk failed
abbrev pub ShownAt : {A E : Type 0} → (A → List ℕ) → Result A E → DiskSeen → DiskSeen → (at count : ℕ) → Type 0
ShownAt spell (Ok value) old new at count = Tells old (λ d. spell value ≡ take count (drop at d.shows))
ShownAt spell (Err _) old new at count = Rose old.faults new.faults

-- whether so many bytes there are these
abbrev pub ComparedAt : {E : Type 0} → Result Bool E → DiskSeen → DiskSeen → (at : ℕ) → List ℕ → Type 0
ComparedAt (Ok true) old new at bytes = Tells old (λ d. take (length bytes) (drop at d.shows) ≡ bytes)
ComparedAt (Ok false) old new at bytes = Tells old (λ d. take (length bytes) (drop at d.shows) ≢ bytes)
ComparedAt (Err _) old new at bytes = Rose old.faults new.faults

-- whether the gate there is open
abbrev pub GateAt : {E : Type 0} → Result Bool E → DiskSeen → DiskSeen → (at : ℕ) → Type 0
GateAt (Ok true) old new at = Tells old (λ d. (gate : ℕ) × (gate ≢ 0) × (drop at d.shows ≡ gate ∷ drop (at + 1) d.shows))
GateAt (Ok false) old new at = Tells old (λ d. drop at d.shows ≡ 0 ∷ drop (at + 1) d.shows)
GateAt (Err _) old new at = Rose old.faults new.faults

-- ---- all of it

-- behind a gate stands a batch of these events and its digest, up to the next gate
pub record BatchShown (form : Form) (gate next : ℕ) (events : List Event) (shows : List ℕ) : Type 0 where
  pub payload_is : drop (gate + 1) shows ≡ payload_bytes form gate events ++ drop next shows
  pub next_is : next ≡ gate + 1 + length (payload_bytes form gate events)
  pub inside : next < length shows

-- which is sound behind the events before it
pub record BatchFound (form : Form) (seen : DiskSeen) (gate next : ℕ) (before : List Event) (new : Tallies) : Type 0 where
  pub events : List Event
  pub batch : IsBatch events
  pub shown : Tells seen (λ d. BatchShown form gate next events d.shows)
  pub checked : IsChecked new (before ++ events)

-- the answer of checking the batch behind a gate
abbrev pub ReadsBatch : Form → Result ℕ BatchFail → DiskSeen → (gate : ℕ) → Tallies → Tallies → Type 0
ReadsBatch form (Ok next) seen gate old new = (before : List Event) → IsChecked old before → BatchFound form seen gate next before new
ReadsBatch form (Err Bad) seen gate old new = (before : List Event) → IsChecked old before → Tells seen (λ d. HoldsGoodBatch form gate (drop (gate + 1) d.shows) old.host before → ⊥)
ReadsBatch form (Err DiskFault) seen gate old new = ⊤
ReadsBatch form (Err NoMemory) seen gate old new = ⊤
