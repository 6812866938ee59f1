-- What is seen of a disk over a file.
use Rattle.at_edge.specs.Storing.{DiskSeen}
use Rattle.at_edge.specs.Silent.{silent}
use Rattle.at_edge.specs.declared.file_disk.FileDisk.{FileDisk}

-- it doesn't tell its content
abbrev pub file_seen : {R : Type 0} → FileDisk R → DiskSeen
file_seen d = silent d.faults
