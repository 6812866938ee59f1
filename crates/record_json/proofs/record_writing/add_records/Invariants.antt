use Rattle.std.proofs.Common.{take, flat_map}
use Rattle.record_model.specs.Seen.{records_seen}
use Rattle.record_json.specs.Records.{record_tokens}
use Rattle.record_json.specs.Writing.{Adds}
use Rattle.record_json.proofs.record_writing.add_records.Given as goal

abbrev pub invariant-page : goal.invariant-page
invariant-page l = Adds l.fn.writer l.writer (flat_map record_tokens (records_seen (take l.r-index l.page)))
