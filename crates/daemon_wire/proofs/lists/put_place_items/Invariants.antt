use Rattle.std.proofs.Common.{◌≡◌, ◌≤◌, ◌++◌, take}
use Rattle.std.specs.List.{flat_map}
use Rattle.session_rules.specs.Bytes.{place_item}
use Rattle.record_model.specs.Seen.{chains_seen}
use Rattle.daemon_wire.proofs.lists.put_place_items.Given as goal

abbrev pub invariant-loop-chain : goal.invariant-loop-chain
invariant-loop-chain l = (l.writer.items ≡ l.initial.writer.items ++ flat_map place_item (chains_seen (take l.chain-index l.chains))) × (l.initial.writer.reserved ≤ l.writer.reserved)
