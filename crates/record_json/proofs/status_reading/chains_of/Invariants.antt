use Rattle.std.proofs.Common.{◌≡◌}
use Rattle.record_model.specs.Seen.{chains_seen}
use Rattle.record_json.specs.Statuses.{chains_of_all}
use Rattle.record_json.specs.StatusOrder.{AllRise}
use Rattle.record_json.specs.StatusReading.{hosts_seen}
use Rattle.record_json.proofs.StatusesRead.{with_more}
use Rattle.record_json.proofs.status_reading.chains_of.Given as goal

abbrev pub invariant-hosts : goal.invariant-hosts
invariant-hosts l = (with_more (chains_seen l.chains.items) (chains_of_all (hosts_seen l.host-iterator)) ≡ chains_of_all (hosts_seen l.hosts.entries)) × (AllRise (hosts_seen l.host-iterator) → AllRise (hosts_seen l.hosts.entries))
