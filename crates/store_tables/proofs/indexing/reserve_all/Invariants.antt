use Rattle.std.proofs.Common.{List, take}
use Rattle.std.specs.Prelude.{All}
use Rattle.record_model.specs.Seen.{event_seen}
use Rattle.chain_index.specs.Meaning.{Filed, IsIndexOf, KeepsRooms}
use Rattle.store_tables.specs.Entries.{IsReadyFor}
use Rattle.store_tables.proofs.indexing.reserve_all.Given as goal

abbrev pub invariant-loop-event : goal.invariant-loop-event
invariant-loop-event l = record {
  ready : All (λ e. IsReadyFor l.index (event_seen e)) (take l.event-index l.events);
  same : (filed : List Filed) → IsIndexOf l.initial.index filed → IsIndexOf l.index filed;
  rooms : KeepsRooms l.initial.index l.index;
}
