use Rattle.std.proofs.Common.{◌≡◌, []}
use Rattle.serde_json.specs.View.{members_view}
use Rattle.record_json.specs.Statuses.{hosts_in}
use Rattle.record_json.specs.StatusReading.{hosts_seen}
use Rattle.record_json.proofs.status_reading.hosts_of.Given as goal

abbrev pub invariant-members : goal.invariant-members
invariant-members l = hosts_in (members_view l.name-iterator) (hosts_seen l.hosts.entries) ≡ hosts_in (members_view l.members.entries) []
