use Rattle.std.proofs.Common.{◌≡◌, ◌≤◌, ◌-◌, None}
use Rattle.at_edge.specs.Storing.{Rests}
use Rattle.record_log.proofs.Copies.{Part, Crash}
use Rattle.record_log.proofs.copying.copy_log.Given as goal

abbrev pub invariant-batches : goal.invariant-batches
invariant-batches g l = record {
  rests : Rests l.fn.old.disk l.old.disk;
  old_host : l.old.host ≡ l.fn.old.host;
  old_gate : l.old.gate ≡ l.fn.old.gate;
  host : l.into.host ≡ l.fn.into.host;
  settled : l.into.doubt ≡ None;
  kept : l.fn.into.disk.faults ≤ l.into.disk.faults;
  silent : l.fn.into.disk.history ≡ None → l.into.disk.history ≡ None;
  part : Part l.fn.old l.offset l.entries l.into;
  crash : Crash l.fn.old l.fn.into l.into;
}

abbrev pub decreases-batches : goal.decreases-batches
decreases-batches g l = l.old.gate - l.offset
