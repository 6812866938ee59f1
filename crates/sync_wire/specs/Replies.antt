-- What the replies to the requests of a sync say, and when a body is of none of these forms.
use Rattle.std.specs.Prelude.{◌≡◌, ◌⊎◌, ℕ, ◌&&◌, Bool, true, false, nat_le, List, length, codes, Option, Some, None, option_and_then}
use Rattle.std.specs.List.{list_all}
use Rattle.record_json.specs.Json.{json_of, number_under}
use Rattle.record_json.specs.Reading.{SpellsRecords, RefusesBytes}
use Rattle.record_json.specs.StatusOrder.{IsInOrder}
use Rattle.record_json.specs.StatusReading.{SpellsStatus, RefusesStatus}
use Rattle.record_json.specs.declared.fail.JsonFail.TheVariants.{NotJson, NotRecords}
use Rattle.record_model.specs.Seen.{chains_seen, records_seen}
use Rattle.record_model.specs.declared.places.Chain.{Chain}
use Rattle.record_model.specs.declared.sealed.Record.{Record}
use Rattle.record_rules.specs.Journal.{in_place}
use Rattle.record_rules.specs.Records.{SealedRecord}

-- ---- a status

pub record SaysStatus (body : List ℕ) (chains : List Chain) : Type 0 where
  pub spelled : SpellsStatus body (chains_seen chains)
  pub in_order : IsInOrder (chains_seen chains)

-- no JSON, or JSON of no status
abbrev pub NoStatus : List ℕ → Type 0
NoStatus body = RefusesStatus body NotJson ⊎ RefusesStatus body (NotRecords 0)

-- ---- a page

-- at most so many records, all of this host and tag
abbrev pub is_page : (host : ℕ) (tag : List ℕ) (count : ℕ) → List SealedRecord → Bool
is_page host tag count records = nat_le (length records) count && list_all (in_place host tag) records

pub record SaysPage (host : ℕ) (tag : List ℕ) (count : ℕ) (body : List ℕ) (records : List Record) : Type 0 where
  pub spelled : SpellsRecords body (records_seen records)
  pub asked : is_page host tag count (records_seen records) ≡ true

-- no JSON, JSON of no records, or records that weren't asked for
pub data NoPage (host : ℕ) (tag : List ℕ) (count : ℕ) (body : List ℕ) : Type 0 where
  no_json : RefusesBytes body NotJson → NoPage host tag count body
  no_records : (position : ℕ) → RefusesBytes body (NotRecords position) → NoPage host tag count body
  others : (records : List SealedRecord) → SpellsRecords body records → is_page host tag count records ≡ false → NoPage host tag count body

-- ---- how many records were added

-- {"added":N}, N from 0 to 2^64-1; other members are ignored
abbrev pub added_in : List ℕ → Option ℕ
added_in body = option_and_then (number_under (codes "added")) (json_of body)

abbrev pub SaysAdded : (body : List ℕ) → ℕ → Type 0
SaysAdded body added = added_in body ≡ Some added

abbrev pub NoAdded : List ℕ → Type 0
NoAdded body = added_in body ≡ None
