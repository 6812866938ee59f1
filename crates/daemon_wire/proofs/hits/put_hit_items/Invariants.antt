use Rattle.std.proofs.Common.{◌≡◌, ◌≤◌, ◌++◌, take}
use Rattle.std.specs.List.{flat_map}
use Rattle.definitions.specs.Replies.{hit_item}
use Rattle.record_model.specs.Seen.{histories_seen}
use Rattle.daemon_wire.proofs.hits.put_hit_items.Given as goal

abbrev pub invariant-loop-hit : goal.invariant-loop-hit
invariant-loop-hit l = (l.writer.items ≡ l.initial.writer.items ++ flat_map hit_item (histories_seen (take l.hit-index l.hits))) × (l.initial.writer.reserved ≤ l.writer.reserved)
