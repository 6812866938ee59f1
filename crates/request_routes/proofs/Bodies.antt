-- The records that a body holds, as they are read from its items.
use Rattle.std.proofs.Common.{◌≡◌, ℕ, List, [], ◌∷◌, ◌++◌, map, Option, Some, None, Err, refl, ap, ◌∙◌, inl, inr}
use Rattle.definitions.specs.Reading.{◌>>=◌}
use Rattle.record_rules.specs.Records.{SealedRecord}
use Rattle.serde_json.specs.Data.{Data, Items}
use Rattle.serde_json.specs.Find.{as_array}
use Rattle.serde_json.specs.View.{items_of}
use Rattle.record_json.specs.Records.{record_in}
use Rattle.record_json.specs.Reading.{AreRecords, FirstWrong, RefusesBytes, WrongRecords, SpellsRecords}
use Rattle.record_json.specs.declared.fail.JsonFail.{JsonFail}
use Rattle.record_json.specs.declared.fail.JsonFail.TheVariants.{NotJson, NotRecords, NoMemory}
use Rattle.request_routes.specs.Bodies.{records_of, records_in}
use Rattle.request_routes.specs.Failing.{json_failed}
use Rattle.request_routes.specs.Reading.{IsTakeRoute}

-- one more record before those of the later items
abbrev with_more : SealedRecord → Option (List SealedRecord) → Option (List SealedRecord)
with_more first found = found >>= λ more. Some (first ∷ more)

items_are_records : (items : List Data) (records : List SealedRecord) → AreRecords items records → records_of (items_of items) ≡ Some records
items_are_records [] [] are = refl
items_are_records [] (r ∷ records) are = cc
items_are_records (value ∷ items) [] are = cc
items_are_records (value ∷ items) (r ∷ records) are =
    let first : record_in value ≡ Some r = cc in
    let more : map record_in items ≡ map Some records = cc in
    ap (λ (o : Option SealedRecord). o >>= λ first. with_more first (records_of (items_of items))) first
    ∙ ap (with_more r) (items_are_records items records more)

no_records_behind : (before : List Data) (found : List SealedRecord) (wrong : Data) (later : List Data) → AreRecords before found → record_in wrong ≡ None
    → records_of (items_of (before ++ wrong ∷ later)) ≡ None
no_records_behind [] found wrong later are none = ap (λ (o : Option SealedRecord). o >>= λ first. with_more first (records_of (items_of later))) none
no_records_behind (value ∷ before) [] wrong later are none = cc
no_records_behind (value ∷ before) (r ∷ found) wrong later are none =
    let first : record_in value ≡ Some r = cc in
    let more : map record_in before ≡ map Some found = cc in
    ap (λ (o : Option SealedRecord). o >>= λ first. with_more first (records_of (items_of (before ++ wrong ∷ later)))) first
    ∙ ap (with_more r) (no_records_behind before found wrong later more none)

first_wrong_is_none : (items : List Data) (position : ℕ) → FirstWrong items position → records_of (items_of items) ≡ None
first_wrong_is_none items position w =
    ap (λ (l : List Data). records_of (items_of l)) w.items_are ∙ no_records_behind w.before w.found w.wrong w.later w.are_records w.is_none

abbrev in_items : Option Items → Option (List SealedRecord)
in_items found = found >>= records_of

abbrev in_value : Option Data → Option (List SealedRecord)
in_value found = found >>= λ value. in_items (as_array value)

-- the records that a body spells
pub spelled : (bytes : List ℕ) (records : List SealedRecord) → SpellsRecords bytes records → records_in bytes ≡ Some records
spelled bytes records s =
    let holds = s.2 in
    ap in_value s.1 ∙ ap in_items holds.1 ∙ items_are_records holds.0 records holds.2

wrong_value : (value : Data) (position : ℕ) → WrongRecords value position → in_items (as_array value) ≡ None
wrong_value value position w =
    elim w [
      | inl no_array ↦ ap in_items no_array.0
      | inr array ↦ ap in_items array.1 ∙ first_wrong_is_none array.0 position array.2
    ]

-- the route of a body that was refused
pub refused : (owner : ℕ) (bytes : List ℕ) (fail : JsonFail) → RefusesBytes bytes fail → IsTakeRoute owner bytes (Err (json_failed fail))
refused owner bytes NotJson none = ap in_value none
refused owner bytes (NotRecords position) wrong = ap in_value wrong.1 ∙ wrong_value wrong.0 position wrong.2
refused owner bytes NoMemory wanted = tt
