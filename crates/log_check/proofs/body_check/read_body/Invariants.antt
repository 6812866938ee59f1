use Rattle.std.proofs.Common.{◌≡◌, ◌≤◌, ◌⊎◌, ◌+◌, ◌-◌, ℕ, List, length, take, drop}
use Rattle.definitions.specs.Spelling.{IsBytes}
use Rattle.record_rules.specs.Records.{Event}
use Rattle.log_rules.specs.Pieces.{Awaits, Over, next_in}
use Rattle.log_format.specs.Digests.{Digests}
use Rattle.at_edge.specs.Storing.{Tells, Rests}
use Rattle.log_check.specs.Checking.{IsChecked, HasChecked}
use Rattle.log_check.proofs.body_check.read_body.Given as goal

abbrev pub invariant-loop-done : goal.invariant-loop-done
invariant-loop-done g l = record {
  bytes : List ℕ;
  long : length bytes ≡ l.done;
  within : l.done ≤ l.limit;
  are : IsBytes bytes;
  shown : Tells (g.D.Disk.disk l.fn.disk) (λ d. bytes ≡ take l.done (drop (l.gate + 5) d.shows));
  digests : Digests l.digest l.gate l.limit bytes;
  checked : (before : List Event) → IsChecked l.fn.check before → HasChecked l.limit before bytes l.reader l.check;
  awaits : (next_in l.reader ≡ Awaits) ⊎ (next_in l.reader ≡ Over);
  place : l.reader.reading.at + length l.reader.reading.rest ≡ l.done;
  limit_is : l.reader.reading.limit ≡ l.limit;
  rests : Rests (g.D.Disk.disk l.fn.disk) (g.D.Disk.disk l.disk);
  host : l.check.host ≡ l.fn.check.host;
  room : length l.buffer ≡ length l.fn.buffer;
}

abbrev pub decreases-loop-done : goal.decreases-loop-done
decreases-loop-done g l = l.limit - l.done
