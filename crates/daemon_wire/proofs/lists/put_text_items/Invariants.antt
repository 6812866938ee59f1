use Rattle.std.proofs.Common.{◌≡◌, ◌≤◌, ◌++◌, take}
use Rattle.std.specs.List.{flat_map}
use Rattle.definitions.specs.Spelling.{written_text}
use Rattle.daemon_wire.proofs.lists.put_text_items.Given as goal

abbrev pub invariant-loop-text : goal.invariant-loop-text
invariant-loop-text l = (l.writer.items ≡ l.initial.writer.items ++ flat_map written_text (take l.text-index l.texts)) × (l.initial.writer.reserved ≤ l.writer.reserved)
