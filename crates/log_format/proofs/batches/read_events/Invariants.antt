use Rattle.std.proofs.Common.{◌≡◌, ◌≤◌, Ok}
use Rattle.log_rules.specs.Reading.{events_at}
use Rattle.record_model.specs.Seen.{events_seen}
use Rattle.log_format.proofs.batches.read_events.Given as goal

abbrev pub invariant-loop : goal.invariant-loop
invariant-loop l = record { read : events_at l.counter l.fn.reader ≡ Ok (events_seen l.events.items, l.reader); within : l.counter ≤ l.count }
