-- The way from a log's header to its closed gate, and what is found on it.
use Rattle.std.specs.Prelude.{◌≡◌, ℕ, ◌+◌, List, ◌∷◌, ◌++◌, length, take, drop, Result, Ok, Err, ⊤}
use Rattle.definitions.specs.Counts.{Rose}
use Rattle.record_rules.specs.Records.{Event}
use Rattle.record_rules.specs.Journal.{Sound}
use Rattle.log_rules.specs.Opened.{opened_journal}
use Rattle.log_rules.specs.Log.{Form, IsLogPrefix, DamagedAt}
use Rattle.at_edge.specs.Storing.{DiskSeen, Tells}
use Rattle.log_check.specs.declared.walk.WalkFail.{WalkFail}
use Rattle.log_check.specs.declared.walk.WalkFail.TheVariants.{Damaged, DiskFault, NoMemory}

-- these bytes are a log of these events of the host, whose closed gate stands at that offset
pub record IsLogTo (form : Form) (host gate : ℕ) (events : List Event) (shows : List ℕ) : Type 0 where
  pub opened : IsLogPrefix form (take gate shows) host events
  pub bytes_are : shows ≡ take gate shows ++ 0 ∷ drop (gate + 1) shows
  pub place : length (take gate shows) ≡ gate

-- the disk shows a sound one
pub record Walked (form : Form) (seen : DiskSeen) (host gate : ℕ) : Type 0 where
  pub events : List Event
  pub sound : Sound (opened_journal events) host
  pub shown : Tells seen (λ d. IsLogTo form host gate events d.shows)

-- the closed gate, or why it wasn't reached
abbrev pub Walks : Form → Result ℕ WalkFail → DiskSeen → DiskSeen → (host : ℕ) → Type 0
Walks form (Ok gate) old new host = Walked form old host gate
Walks form (Err (Damaged offset)) old new host = Tells old (λ d. DamagedAt form d.shows offset)
Walks form (Err DiskFault) old new host = Rose old.faults new.faults
Walks form (Err NoMemory) old new host = ⊤
