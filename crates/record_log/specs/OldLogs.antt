-- A log in the old form, which is only read, and why none is opened.
use Rattle.std.specs.Prelude.{◌≡◌, ℕ, List, Some, Result, Ok, Err, ⊤}
use Rattle.definitions.specs.Counts.{Rose}
use Rattle.record_rules.specs.Records.{Event}
use Rattle.record_rules.specs.Journal.{Sound}
use Rattle.log_rules.specs.Opened.{opened_journal}
use Rattle.log_rules.specs.Log.{old_form, NotOld, DamagedAt, StandsFor}
use Rattle.disk_rules.specs.History.{History}
use Rattle.at_edge.specs.Storing.{DiskSeen, Tells, Rests}
use Rattle.log_check.specs.Walks.{IsLogTo, Walked}
use Rattle.record_log.specs.declared.old_log.OldFail.{OldFail}
use Rattle.record_log.specs.declared.old_log.OldFail.TheVariants as fails

-- what is seen of an old log: its disk, its host, and the offset of its closed gate
pub record OldSeen : Type 0 where
  pub disk : DiskSeen
  pub host : ℕ
  pub gate : ℕ

-- what is true of every old log, where its disk tells: it shows a sound one of this host, with that closed gate
pub record IsOldLogTo (host gate : ℕ) (shows : List ℕ) : Type 0 where
  pub events : List Event
  pub log : IsLogTo old_form host gate events shows
  pub sound : Sound (opened_journal events) host

-- the disk tells, and shows an old log of these events
pub record ShowsOld (old : OldSeen) (events : List Event) : Type 0 where
  pub history : History
  pub told : old.disk.history ≡ Some history
  pub log : IsLogTo old_form old.host old.gate events history.now.shows
  pub sound : Sound (opened_journal events) old.host

-- why the disk shows no sound old log
abbrev pub OldCause : OldFail → DiskSeen → DiskSeen → Type 0
OldCause fails.NotOld old new = Tells old (λ d. NotOld d.shows)
OldCause (fails.Damaged offset) old new = Tells old (λ d. DamagedAt old_form d.shows offset)
OldCause fails.DiskFault old new = Rose old.faults new.faults
OldCause fails.NoMemory old new = ⊤

-- its host and the offset of its closed gate, or why there is none
abbrev pub FindsOld : Result (ℕ × ℕ) OldFail → DiskSeen → DiskSeen → Type 0
FindsOld (Ok found) old new = Walked old_form old found.0 found.1
FindsOld (Err fail) old new = OldCause fail old new

-- the disk shows a sound old log of these events, up to the closed gate, and is as it was
pub record OldOpened (old : DiskSeen) (log : OldSeen) : Type 0 where
  pub events : List Event
  pub sound : Sound (opened_journal events) log.host
  pub holds : Tells log.disk (λ d. IsLogTo old_form log.host log.gate events d.shows)
  pub shown : Tells old (λ d. StandsFor old_form d.shows log.host (opened_journal events))
  pub rests : Rests old log.disk
