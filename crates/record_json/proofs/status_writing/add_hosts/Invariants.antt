use Rattle.std.proofs.Common.{None, drop}
use Rattle.record_model.specs.Seen.{chains_seen}
use Rattle.record_json.proofs.Hosts.{Owes}
use Rattle.record_json.specs.Statuses.{hosts_tokens}
use Rattle.record_json.proofs.status_writing.add_hosts.Given as goal

abbrev pub invariant-chains : goal.invariant-chains
invariant-chains l = Owes l.fn.writer l.writer (hosts_tokens l.opened (chains_seen (drop l.chain-index l.chains))) (hosts_tokens None (chains_seen l.chains))
