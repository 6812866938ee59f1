-- Records in JSON: which value stands for which record, and how records are written.
use Rattle.std.specs.Prelude.{ℕ, List, [], ◌∷◌, ◌++◌, flat_map, codes, decimal, Option, Some, None}
use Rattle.json.specs.Token.{Token, begin_object, end_object, begin_array, end_array, key, string, number}
use Rattle.json.specs.Print.{print}
use Rattle.definitions.specs.Ids.{hyphenated}
use Rattle.definitions.specs.Reading.{◌>>=◌}
use Rattle.record_rules.specs.Records.{SealedRecord}
use Rattle.serde_json.specs.Data.{Data}
use Rattle.serde_json.specs.Find.{get, as_str}
use Rattle.record_json.specs.Json.{text_under, number_under, id_under}

-- ---- read

-- a host's name, which is empty where it is missing
abbrev pub name_of : Option Data → Option (List ℕ)
name_of None = Some []
name_of (Some value) = as_str value

-- the record that a value stands for, if it stands for one: other members are ignored
abbrev pub record_in : Data → Option SealedRecord
record_in value = do
  inner ← get (codes "data") value
  host ← get (codes "host") value
  id ← id_under (codes "id") value
  idx ← number_under (codes "idx") value
  host_id ← id_under (codes "id") host
  host_name ← name_of (get (codes "name") host)
  timestamp ← number_under (codes "timestamp") value
  version ← text_under (codes "version") value
  tag ← text_under (codes "tag") value
  sealed ← text_under (codes "data") inner
  wrapped ← text_under (codes "content_encryption_key") inner
  Some (record { id = id; idx = idx; host = host_id; host_name = host_name; timestamp = timestamp; version = version; tag = tag; sealed = sealed; wrapped = wrapped })

-- ---- written

-- {"content_encryption_key":"..","data":".."}
abbrev pub data_tokens : (wrapped sealed : List ℕ) → List Token
data_tokens wrapped sealed =
    begin_object ∷ key (codes "content_encryption_key") ∷ string wrapped ∷ key (codes "data") ∷ string sealed ∷ end_object ∷ []

-- {"id":"..","name":".."}
abbrev pub host_tokens : (host : ℕ) (name : List ℕ) → List Token
host_tokens host name = begin_object ∷ key (codes "id") ∷ string (hyphenated host) ∷ key (codes "name") ∷ string name ∷ end_object ∷ []

-- {"data":{..},"host":{..},"id":"..","idx":..,"tag":"..","timestamp":..,"version":".."}
abbrev pub record_tokens : SealedRecord → List Token
record_tokens r =
    begin_object
    ∷ key (codes "data") ∷ data_tokens r.wrapped r.sealed
    ++ key (codes "host") ∷ host_tokens r.host r.host_name
    ++ key (codes "id") ∷ string (hyphenated r.id)
    ∷ key (codes "idx") ∷ number (decimal r.idx)
    ∷ key (codes "tag") ∷ string r.tag
    ∷ key (codes "timestamp") ∷ number (decimal r.timestamp)
    ∷ key (codes "version") ∷ string r.version
    ∷ end_object ∷ []

-- an array of them, without spaces, with the shortest escapes
abbrev pub records_text : List SealedRecord → List ℕ
records_text records = print (begin_array ∷ flat_map record_tokens records ++ end_array ∷ [])
