-- Batches that are read and checked one by one, each event once its bytes are there.
use Rattle.std.specs.Prelude.{◌≡◌, ℕ, ◌+◌, List, ◌++◌, length, take, drop, Result, Ok, Err, ⊤}
use Rattle.definitions.specs.Counts.{Rose}
use Rattle.record_rules.specs.Records.{Event}
use Rattle.record_rules.specs.Journal.{Sound}
use Rattle.log_rules.specs.Body.{body_bytes, IsBatch}
use Rattle.log_rules.specs.Opened.{opened_journal}
use Rattle.log_rules.specs.Pieces.{Pieces, HasGiven}
use Rattle.log_rules.specs.Log.{batch_digest}
use Rattle.journal_check.specs.Tallies.{Tallies, Keeps}
use Rattle.at_edge.specs.Storing.{DiskSeen, Tells}
use Rattle.log_check.specs.declared.checking.BatchFail.{BatchFail}
use Rattle.log_check.specs.declared.checking.BatchFail.TheVariants.{Bad, DiskFault, NoMemory}

-- what is kept is of these events, which are sound
pub record IsChecked (check : Tallies) (events : List Event) : Type 0 where
  pub keeps : Keeps check (opened_journal events)
  pub sound : Sound (opened_journal events) check.host

-- of a body of so many bytes these came, and the events that were given so far are sound behind those before
pub record HasChecked (limit : ℕ) (before : List Event) (bytes : List ℕ) (pieces : Pieces) (check : Tallies) : Type 0 where
  pub given : List Event
  pub given_are : HasGiven limit pieces bytes given
  pub checked : IsChecked check (before ++ given)

-- no body that begins with these bytes is that of a batch that is sound behind the events
abbrev pub BadBody : (limit host : ℕ) → List Event → List ℕ → Type 0
BadBody limit host before bytes = (events : List Event) (rest : List ℕ) → IsBatch events → body_bytes events ≡ bytes ++ rest → length (bytes ++ rest) ≡ limit → Sound (opened_journal (before ++ events)) host → ⊥

-- the answer of taking the events whose bytes are there
abbrev pub TakesEvents : {T : Type 0} → Result T BatchFail → (limit host : ℕ) → List Event → List ℕ → Pieces → Tallies → Type 0
TakesEvents (Ok _) limit host before bytes pieces check = HasChecked limit before bytes pieces check
TakesEvents (Err Bad) limit host before bytes pieces check = BadBody limit host before bytes
TakesEvents (Err DiskFault) limit host before bytes pieces check = ⊤
TakesEvents (Err NoMemory) limit host before bytes pieces check = ⊤

-- ---- what was read of the disk

-- a piece is what the disk shows there, unless the disk failed
abbrev pub ReadsPiece : {T : Type 0} → Result T BatchFail → DiskSeen → ℕ → List ℕ → Type 0
ReadsPiece (Ok _) seen at piece = Tells seen (λ d. piece ≡ take (length piece) (drop at d.shows))
ReadsPiece (Err Bad) seen at piece = Tells seen (λ d. piece ≡ take (length piece) (drop at d.shows))
ReadsPiece (Err DiskFault) seen at piece = ⊤
ReadsPiece (Err NoMemory) seen at piece = ⊤

-- the disk failed only where its count rose
abbrev pub FaultCause : {T : Type 0} → Result T BatchFail → DiskSeen → DiskSeen → Type 0
FaultCause (Ok _) old new = ⊤
FaultCause (Err Bad) old new = ⊤
FaultCause (Err DiskFault) old new = Rose old.faults new.faults
FaultCause (Err NoMemory) old new = ⊤

-- a body of so many bytes behind a gate, which is that of a batch that is sound behind these events
pub record BodyFound (seen : DiskSeen) (gate limit : ℕ) (digest : List ℕ) (before : List Event) (new : Tallies) : Type 0 where
  pub body : List ℕ
  pub long : length body ≡ limit
  pub shown : Tells seen (λ d. body ≡ take limit (drop (gate + 5) d.shows))
  pub digest_is : digest ≡ batch_digest gate body
  pub events : List Event
  pub batch : IsBatch events
  pub body_is : body ≡ body_bytes events
  pub checked : IsChecked new (before ++ events)

-- no batch has the body there
abbrev pub NoBody : (host gate limit : ℕ) → List Event → List ℕ → Type 0
NoBody host gate limit before shows = (events : List Event) → IsBatch events → body_bytes events ≡ take limit (drop (gate + 5) shows) → Sound (opened_journal (before ++ events)) host → ⊥

abbrev pub ReadsBody : Result (List ℕ) BatchFail → DiskSeen → (gate limit : ℕ) → Tallies → Tallies → Type 0
ReadsBody (Ok digest) seen gate limit old new = (before : List Event) → IsChecked old before → BodyFound seen gate limit digest before new
ReadsBody (Err Bad) seen gate limit old new = (before : List Event) → IsChecked old before → Tells seen (λ d. NoBody old.host gate limit before d.shows)
ReadsBody (Err DiskFault) seen gate limit old new = ⊤
ReadsBody (Err NoMemory) seen gate limit old new = ⊤
