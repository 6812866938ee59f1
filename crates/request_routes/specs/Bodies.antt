-- The records that a body holds, if it is JSON of an array of records.
use Rattle.std.specs.Prelude.{ℕ, List, [], ◌∷◌, Option, Some}
use Rattle.definitions.specs.Reading.{◌>>=◌}
use Rattle.record_rules.specs.Records.{SealedRecord}
use Rattle.serde_json.specs.Data.{Items, no_items, item}
use Rattle.serde_json.specs.Find.{as_array}
use Rattle.record_json.specs.Json.{json_of}
use Rattle.record_json.specs.Records.{record_in}

abbrev pub records_of : Items → Option (List SealedRecord)
records_of no_items = Some []
records_of (item value later) = do
  first ← record_in value
  more ← records_of later
  Some (first ∷ more)

abbrev pub records_in : List ℕ → Option (List SealedRecord)
records_in bytes = do
  value ← json_of bytes
  items ← as_array value
  records_of items
