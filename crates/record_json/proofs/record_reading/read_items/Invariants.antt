use Rattle.std.proofs.Common.{take, map}
use Rattle.serde_json.specs.View.{view}
use Rattle.record_model.specs.Seen.{records_seen}
use Rattle.record_json.specs.Reading.{AreRecords}
use Rattle.record_json.proofs.record_reading.read_items.Given as goal

abbrev pub invariant-items : goal.invariant-items
invariant-items l = AreRecords (take l.position (map view l.items)) (records_seen l.records.items)
