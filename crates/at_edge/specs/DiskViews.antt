-- What is seen of the disks in memory, and which calls of one are to fail.
use Rattle.std.specs.Prelude.{Option, map}
use Rattle.disk_rules.specs.History.{History, history_of}
use Rattle.at_edge.specs.Planned.{Planned}
use Rattle.at_edge.specs.Storing.{DiskSeen}
use Rattle.at_edge.specs.Changing.{call_of, told}
use Rattle.at_edge.specs.declared.medium.Medium.{Medium}
use Rattle.at_edge.specs.declared.memory_disk.MemDisk.{MemDisk}
use Rattle.at_edge.specs.declared.memory_disk.SureDisk.{SureDisk}

abbrev pub kept_history : Medium → History
kept_history m = history_of m.first.items (map call_of m.changes.items)

abbrev pub told_history : Medium → Option History
told_history m = told m.tells (kept_history m)

abbrev pub disk_seen : MemDisk → DiskSeen
disk_seen d = record { history = told_history d.medium; faults = d.failing.faults }

abbrev pub disk_plan : MemDisk → Planned
disk_plan d = d.failing

abbrev pub sure_disk_seen : SureDisk → DiskSeen
sure_disk_seen d = record { history = told_history d.medium; faults = d.faults }
