-- The record that parts of a value stand for.
use Rattle.record_rules.specs.Records.{SealedRecord}
use Rattle.record_json.specs.declared.record_reading.Parts.{Parts}

abbrev pub parts_seen : Parts → SealedRecord
parts_seen p =
    record { id = p.id; idx = p.idx; host = p.host; host_name = p.host_name.now; timestamp = p.timestamp; version = p.version.now; tag = p.tag.now; sealed = p.sealed.now; wrapped = p.wrapped.now }
