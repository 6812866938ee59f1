use Rattle.std.proofs.Common.{ℕ, List, Option}
use Rattle.std.specs.Vec.Iter.{into_iter_items}
use Rattle.record_model.specs.Seen.{caller_seen, events_seen}
use Rattle.chain_index.specs.Meaning.{Filed}
use Rattle.store_tables.specs.Tables.{MayAddBatch}
use Rattle.store_tables.proofs.Batches.{AddsOn}
use Rattle.store_tables.proofs.tables.Tables.add.Given as goal

abbrev pub invariant-loop-event : goal.invariant-loop-event
invariant-loop-event l = (host : ℕ) (key : Option (List ℕ)) (filed : List Filed) → MayAddBatch host key l.initial.self filed l.fn.batch
    → AddsOn host key filed (caller_seen l.fn.batch.caller) l.spot (events_seen l.fn.batch.events.items) l.self l.at (events_seen (into_iter_items l.event-iterator)) (into_iter_items l.rooms)
