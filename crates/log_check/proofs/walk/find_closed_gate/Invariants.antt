use Rattle.std.proofs.Common.{◌≡◌, ◌≤◌, ◌<◌, ◌-◌, List, length, take}
use Rattle.record_rules.specs.Records.{Event}
use Rattle.log_rules.specs.Log.{IsLogPrefix}
use Rattle.at_edge.specs.Storing.{Tells, Rests}
use Rattle.log_check.specs.Checking.{IsChecked}
use Rattle.log_check.specs.Forms.{form_of}
use Rattle.log_check.proofs.walk.find_closed_gate.Given as goal

abbrev pub invariant-loop-check : goal.invariant-loop-check
invariant-loop-check g l = record {
  events : List Event;
  checked : IsChecked l.check events;
  opened : Tells (g.D.Disk.disk l.fn.disk) (λ d. IsLogPrefix (form_of l.form) (take l.gate d.shows) l.host events);
  host : l.check.host ≡ l.host;
  rests : Rests (g.D.Disk.disk l.fn.disk) (g.D.Disk.disk l.disk);
  first : 32 ≤ l.gate;
  inside : l.gate < l.end;
  room : length l.buffer ≡ length l.fn.buffer;
}

abbrev pub decreases-loop-check : goal.decreases-loop-check
decreases-loop-check g l = l.end - l.gate
