-- What a disk holds and shows, as a command leaves and finds it.
use Rattle.std.specs.Prelude.{ℕ, List, [], ◌≢◌}
use Rattle.record_rules.specs.Records.{Entry, Event}
use Rattle.log_rules.specs.Opened.{opened_journal}
use Rattle.log_rules.specs.Log.{current_form, old_form, StandsFor}
use Rattle.disk_rules.specs.Disk.{Disk}
use Rattle.at_edge.specs.Storing.{DiskSeen, Tells}
use Rattle.record_log.specs.Journals.{HoldsAt, DoubtsAt}

-- the disk holds the log of this journal and no other: whatever a crash now may leave of it stands for the journal
pub record HoldsJournal (host : ℕ) (journal : List Entry) (disk : Disk) : Type 0 where
  pub gate : ℕ
  pub log : HoldsAt current_form gate host journal disk

-- it holds the log of the journal, behind which a batch of more entries may or may not be left by a crash
pub record DoubtsJournal (host : ℕ) (journal more : List Entry) (disk : Disk) : Type 0 where
  pub gate : ℕ
  pub log : DoubtsAt current_form gate host journal more disk

-- these bytes are an old log of these events
abbrev pub IsOldLogOf : (host : ℕ) → List Event → List ℕ → Type 0
IsOldLogOf host events shows = StandsFor old_form shows host (opened_journal events)

-- the disk shows a good old log
abbrev pub ShowsOldLog : DiskSeen → Type 0
ShowsOldLog seen = Tells seen (λ d. (host : ℕ) × ((events : List Event) × IsOldLogOf host events d.shows))

-- there is a byte on the disk
abbrev pub ShowsSome : DiskSeen → Type 0
ShowsSome seen = Tells seen (λ d. d.shows ≢ [])
