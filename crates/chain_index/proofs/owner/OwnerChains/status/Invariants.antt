use Rattle.std.proofs.Common.{◌≡◌, ◌++◌}
use Rattle.record_model.specs.Seen.{chains_seen}
use Rattle.chain_index.specs.Chains.{counts_of_hosts}
use Rattle.chain_index.proofs.Listing.{AllRise}
use Rattle.chain_index.proofs.owner.OwnerChains.status.Given as goal

abbrev pub invariant-loop-host : goal.invariant-loop-host
invariant-loop-host l =
    (chains_seen l.status.items ++ counts_of_hosts l.host-iterator ≡ counts_of_hosts l.self.hosts) ×
    (AllRise l.host-iterator → AllRise l.self.hosts)
