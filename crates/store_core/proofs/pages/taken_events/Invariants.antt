use Rattle.std.proofs.Common.{◌≡◌, ◌≤◌, length, map, take}
use Rattle.record_rules.specs.Records.{Taken}
use Rattle.record_model.specs.Seen.{events_seen, records_seen}
use Rattle.page_growth.specs.Checking.{chosen}
use Rattle.store_core.proofs.pages.taken_events.Given as goal

abbrev pub invariant-loop-at : goal.invariant-loop-at
invariant-loop-at l = (events_seen l.events.items ≡ map (Taken l.owner) (chosen (take l.at l.marks) (records_seen (take l.at l.page)))) × (length l.events.items ≤ l.at)
