-- A page of records, one by one: read from the items of an array, and written.
use Rattle.std.proofs.Common.{◌≡◌, ℕ, suc, ◌+◌, ◌<◌, List, [], ◌∷◌, ◌++◌, length, map, take, drop, flat_map, get_or, slice_index_or, Option, Some, None, sym, ap, ap₂, ◌∙◌, arith, append_assoc, append-nil}
use Rattle.std.proofs.lemmas.List.{take_more, map-append, length-map, take-append-drop, length-take-le}
use Rattle.std.proofs.Math.ListN.{get_or-map}
use Rattle.std.proofs.lemmas.List.Concat.{flat_map-append}
use Rattle.std.proofs.Math.Seq.{drop-cons}
use Rattle.json.specs.Token.{Token}
use Rattle.json.specs.Written.{Written}
use Rattle.record_rules.specs.Records.{SealedRecord}
use Rattle.record_model.specs.Seen.{record_seen, records_seen}
use Rattle.record_model.specs.declared.sealed.Record.{Record}
use Rattle.serde_json.specs.Data.{Data}
use Rattle.serde_json.specs.View.{view}
use Rattle.serde_json.specs.declared.value.Value.{Value}
use Rattle.record_json.specs.Records.{record_in, record_tokens}
use Rattle.record_json.specs.Reading.{AreRecords, FirstWrong}
use Rattle.record_json.specs.Writing.{Adds}

-- ---- read

item_at : (items : List Value) (k : ℕ) (item : Value) → item ≡ slice_index_or items k item → get_or (map view items) k (view item) ≡ view item
item_at items k item is = get_or-map view items k item ∙ ap view (sym is)

within : (items : List Value) (k : ℕ) → k < length items → k < length (map view items)
within items k below = let same = length-map items view in omega (arith, below, same)

-- one more item stands for one more record
pub are_more : (items : List Value) (records : List Record) (k : ℕ) (item : Value) (found : Record) → k < length items → item ≡ slice_index_or items k item
    → AreRecords (take k (map view items)) (records_seen records) → Some (record_seen found) ≡ record_in (view item)
    → AreRecords (take (k + 1) (map view items)) (records_seen (records ++ found ∷ []))
are_more items records k item found below is before one =
    let xs = map view items in
    ap (map record_in) (take_more xs k (view item) (within items k below))
    ∙ map-append record_in (take k xs) (get_or xs k (view item) ∷ [])
    ∙ ap₂ (λ (l : List (Option SealedRecord)) (o : Option SealedRecord). l ++ o ∷ []) before (ap record_in (item_at items k item is) ∙ sym one)
    ∙ sym (ap (map Some) (map-append record_seen records (found ∷ [])) ∙ map-append Some (records_seen records) (record_seen found ∷ []))

-- an item that stands for none is the first wrong one
pub first_wrong : (items : List Value) (records : List Record) (k : ℕ) (item : Value) → k < length items → item ≡ slice_index_or items k item
    → AreRecords (take k (map view items)) (records_seen records) → record_in (view item) ≡ None → FirstWrong (map view items) k
first_wrong items records k item below is before none =
    let xs = map view items in
    let more = within items k below in
    record {
      before = take k xs;
      wrong = view item;
      later = drop (suc k) xs;
      found = records_seen records;
      items_are = sym (take-append-drop k xs) ∙ ap (λ (l : List Data). take k xs ++ l) (drop-cons xs k (view item) more ∙ ap (λ (d : Data). d ∷ drop (suc k) xs) (item_at items k item is));
      place = length-take-le k xs (omega (arith, more));
      are_records = before;
      is_none = none;
    }

-- ---- written

pub adds_then : {old mid new : Written} {a b : List Token} → Adds old mid a → Adds mid new b → Adds old new (a ++ b)
adds_then {old} {mid} {new} {a} {b} first second = record {
  tokens = second.tokens ∙ ap (λ (l : List Token). l ++ b) first.tokens ∙ append_assoc old.tokens a b;
  before = second.before ∙ first.before;
}

pub adds_more : (page : List Record) (k : ℕ) (r : Record) → k < length page → r ≡ slice_index_or page k r
    → flat_map record_tokens (records_seen (take k page)) ++ record_tokens (record_seen r) ≡ flat_map record_tokens (records_seen (take (k + 1) page))
adds_more page k r below is =
    ap (λ (x : Record). flat_map record_tokens (records_seen (take k page)) ++ record_tokens (record_seen x)) is
    ∙ sym (ap (λ (l : List Record). flat_map record_tokens (records_seen l)) (take_more page k r below)
    ∙ ap (flat_map record_tokens) (map-append record_seen (take k page) (slice_index_or page k r ∷ []))
    ∙ flat_map-append record_tokens (records_seen (take k page)) (record_seen (slice_index_or page k r) ∷ [])
    ∙ ap (λ (l : List Token). flat_map record_tokens (records_seen (take k page)) ++ l) (append-nil (record_tokens (record_seen (slice_index_or page k r)))))
