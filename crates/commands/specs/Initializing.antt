-- A new log of a host that is drawn.
use Rattle.std.specs.Prelude.{◌≡◌, ℕ, ◌≤◌, List, [], ◌∷◌, length}
use Rattle.definitions.specs.Counts.{Rose}
use Rattle.definitions.specs.Ids.{made_id}
use Rattle.at_edge.specs.Drawing.{EntropySeen, Drew}
use Rattle.at_edge.specs.Telling.{ClockSeen, Told}
use Rattle.at_edge.specs.Storing.{DiskSeen, Tells, Rests}
use Rattle.record_log.specs.Creating.{WasEmpty}
use Rattle.record_log.specs.declared.create.CreateFail.{CreateFail}
use Rattle.record_log.specs.declared.create.CreateFail.TheVariants as creating
use Rattle.commands.specs.Logs.{HoldsJournal, ShowsSome}
use Rattle.statuses.specs.declared.Status.{Status}
use Rattle.statuses.specs.declared.Status.TheVariants.{Done, DiskFault, WrongDisk, NoMemory, RandFault}

-- the clock was read once and ten bytes were drawn, and this is the id that they make
pub record DrawsHost (rand_old rand_new : EntropySeen) (clock_old clock_new : ClockSeen) (host : ℕ) : Type 0 where
  pub now : ℕ
  pub random : List ℕ
  pub told : Told clock_old clock_new (now ∷ [])
  pub drew : Drew rand_old rand_new random
  pub ten : length random ≡ 10
  pub host_is : host ≡ made_id now random

-- the clock was read once, and the draw failed
pub record DrawsNone (rand_old rand_new : EntropySeen) (clock_old clock_new : ClockSeen) : Type 0 where
  pub now : ℕ
  pub told : Told clock_old clock_new (now ∷ [])
  pub drew : Drew rand_old rand_new []
  pub rose : Rose rand_old.faults rand_new.faults

abbrev pub status_of_making : CreateFail → Status
status_of_making (creating.NotEmpty count) = WrongDisk
status_of_making creating.DiskFault = DiskFault
status_of_making creating.NoMemory = NoMemory

-- what came of it on the disk, once the host was drawn
abbrev pub Makes : Status → (host : ℕ) → DiskSeen → DiskSeen → Type 0
Makes Done host old new = WasEmpty old × Tells new (HoldsJournal host []) × (old.faults ≤ new.faults)
Makes WrongDisk host old new = ShowsSome old × Rests old new
Makes DiskFault host old new = Rose old.faults new.faults
Makes _ host old new = ⊥

-- the disk was empty, and then holds the log of the empty journal of the host that was drawn; or why it doesn't
abbrev pub Inits : Status → DiskSeen → DiskSeen → EntropySeen → EntropySeen → ClockSeen → ClockSeen → Type 0
Inits RandFault old new rand_old rand_new clock_old clock_new = DrawsNone rand_old rand_new clock_old clock_new × (new ≡ old)
Inits status old new rand_old rand_new clock_old clock_new = (host : ℕ) × DrawsHost rand_old rand_new clock_old clock_new host × Makes status host old new
