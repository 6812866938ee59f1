-- A new log, and when none is made.
use Rattle.std.specs.Prelude.{◌≡◌, ◌≢◌, [], length}
use Rattle.definitions.specs.Counts.{Rose}
use Rattle.at_edge.specs.Storing.{DiskSeen, Tells, Rests}
use Rattle.record_log.specs.declared.create.CreateFail.{CreateFail}
use Rattle.record_log.specs.declared.create.CreateFail.TheVariants.{NotEmpty, DiskFault, NoMemory}

-- why no log was made, and what stands afterwards; making one takes no memory
abbrev pub HasCause : CreateFail → DiskSeen → DiskSeen → Type 0
HasCause (NotEmpty count) old new = Rests old new × (count ≢ 0) × Tells old (λ disk. count ≡ length disk.shows)
HasCause DiskFault old new = Rose old.faults new.faults
HasCause NoMemory old new = ⊥

-- the disk was empty, where it tells
abbrev pub WasEmpty : DiskSeen → Type 0
WasEmpty old = Tells old (λ disk. disk.shows ≡ [])
