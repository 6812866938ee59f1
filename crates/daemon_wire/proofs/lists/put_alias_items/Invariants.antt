use Rattle.std.proofs.Common.{◌≡◌, ◌≤◌, ◌++◌, take}
use Rattle.std.specs.List.{flat_map}
use Rattle.session_rules.specs.Bytes.{alias_item}
use Rattle.model_words.specs.Seen.{nameds_seen}
use Rattle.daemon_wire.proofs.lists.put_alias_items.Given as goal

abbrev pub invariant-loop-alias : goal.invariant-loop-alias
invariant-loop-alias l = (l.writer.items ≡ l.initial.writer.items ++ flat_map alias_item (nameds_seen (take l.alias-index l.aliases))) × (l.initial.writer.reserved ≤ l.writer.reserved)
