-- The number by which the system is told how the program ended.
use Rattle.std.specs.Prelude.{ℕ}
use Rattle.statuses.specs.declared.Status.{Status}
use Rattle.statuses.specs.declared.Status.TheVariants as status

abbrev pub number_of : Status → ℕ
number_of status.Done = 0
number_of status.FaultyWords = 2
number_of status.FaultyKeyText = 3
number_of status.SourceFault = 4
number_of status.SinkFault = 5
number_of status.DiskFault = 6
number_of status.DamagedLog = 8
number_of status.WrongDisk = 9
number_of status.NoMemory = 11
number_of status.RandFault = 12
number_of status.FaultyFrame = 13
number_of status.SessionLimit = 14
number_of status.OldLog = 19
