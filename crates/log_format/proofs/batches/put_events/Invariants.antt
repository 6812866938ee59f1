use Rattle.std.proofs.Common.{◌≡◌, ◌++◌, take}
use Rattle.std.specs.List.{flat_map, AllByRecursion}
use Rattle.log_rules.specs.Body.{HasEventBytes, event_bytes}
use Rattle.record_model.specs.Seen.{events_seen}
use Rattle.log_format.proofs.batches.put_events.Given as goal

abbrev pub invariant-loop-event : goal.invariant-loop-event
invariant-loop-event l = record { bytes : l.into.items ≡ l.initial.into.items ++ flat_map event_bytes (events_seen (take l.event-index l.batch)); has : AllByRecursion HasEventBytes (events_seen (take l.event-index l.batch)) }
