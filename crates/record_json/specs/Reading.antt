-- What reading records answers, and why it refuses: no two answers fit the same bytes, want of memory aside.
use Rattle.std.specs.Prelude.{◌≡◌, ◌⊎◌, ℕ, List, ◌∷◌, ◌++◌, length, map, Some, None}
use Rattle.record_rules.specs.Records.{SealedRecord}
use Rattle.serde_json.specs.Data.{Data}
use Rattle.serde_json.specs.Find.{as_array}
use Rattle.serde_json.specs.View.{items_of}
use Rattle.record_json.specs.Json.{json_of}
use Rattle.record_json.specs.Records.{record_in}
use Rattle.record_json.specs.declared.fail.JsonFail.{JsonFail}
use Rattle.record_json.specs.declared.fail.JsonFail.TheVariants.{NotJson, NotRecords, NoMemory}

-- each item stands for a record
abbrev pub AreRecords : List Data → List SealedRecord → Type 0
AreRecords items records = map record_in items ≡ map Some records

-- the item at this place, from 0, is the first that stands for none
pub record FirstWrong (items : List Data) (position : ℕ) : Type 0 where
  pub before : List Data
  pub wrong : Data
  pub later : List Data
  pub found : List SealedRecord
  pub items_are : items ≡ before ++ wrong ∷ later
  pub place : length before ≡ position
  pub are_records : AreRecords before found
  pub is_none : record_in wrong ≡ None

-- the value is an array of these items
abbrev pub IsArrayOf : Data → List Data → Type 0
IsArrayOf value items = as_array value ≡ Some (items_of items)

-- the value is no array, or an item is the first wrong one
abbrev pub WrongRecords : Data → ℕ → Type 0
WrongRecords value position = ((as_array value ≡ None) × (position ≡ 0)) ⊎ ((items : List Data) × IsArrayOf value items × FirstWrong items position)

-- why the items of an array, a value, or bytes were refused
abbrev pub RefusesItems : List Data → JsonFail → Type 0
RefusesItems items NotJson = ⊥
RefusesItems items (NotRecords position) = FirstWrong items position
RefusesItems items NoMemory = Unit {0}

abbrev pub RefusesValue : Data → JsonFail → Type 0
RefusesValue value NotJson = ⊥
RefusesValue value (NotRecords position) = WrongRecords value position
RefusesValue value NoMemory = Unit {0}

abbrev pub RefusesBytes : List ℕ → JsonFail → Type 0
RefusesBytes bytes NotJson = json_of bytes ≡ None
RefusesBytes bytes (NotRecords position) = (value : Data) × (json_of bytes ≡ Some value) × WrongRecords value position
RefusesBytes bytes NoMemory = Unit {0}

-- the value is an array each of whose items stands for one of the records
abbrev pub HoldsRecords : Data → List SealedRecord → Type 0
HoldsRecords value records = (items : List Data) × IsArrayOf value items × AreRecords items records

-- and the bytes are JSON of such a value
abbrev pub SpellsRecords : List ℕ → List SealedRecord → Type 0
SpellsRecords bytes records = (value : Data) × (json_of bytes ≡ Some value) × HoldsRecords value records
