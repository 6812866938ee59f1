-- What a page of records adds to what an owner holds, or why it is refused.
use Rattle.std.specs.Prelude.{◌≡◌, ℕ, ◌+◌, ◌&&◌, ◌||◌, Bool, not, List, [], ◌∷◌, ◌++◌, length, map, filter, find, Option, Some, None, Result, Ok, Err, option_map, ⊤, if◌then◌else◌, ◌==◌, nat_lt, nat_le}
use Rattle.std.specs.List.{list_any}
use Rattle.std.specs.Option.{option_or}
use Rattle.definitions.specs.Limits.{most_name_bytes, most_tag_bytes, most_page_weight, most_page_records}
use Rattle.record_rules.specs.Records.{SealedRecord, Caller, Entry, Event, Taken, record_weight, page_weight}
use Rattle.record_rules.specs.Journal.{PassedLimit, own_events, records_of, in_place, limit_passed}

-- why a page is refused. A position counts from 0
pub data PageRefusal : Type 0 where
  -- the page is longer or heavier than a page may be up to here, or a text of this record is too long; the weight up to here
  PageTooLong : (position length : ℕ) → PageRefusal
  -- the id that is held at this record's host, tag and idx is another one
  PageForked : (position held : ℕ) → PageRefusal
  -- records are missing before this one; the idx that would come next
  PageGap : (position wanted : ℕ) → PageRefusal
  -- the owner has no room for this record
  PageFull : PassedLimit → PageRefusal

-- whether the other record has this record's host, tag and idx
abbrev pub same_place : SealedRecord → SealedRecord → Bool
same_place r other = in_place r.host r.tag other && other.idx == r.idx

-- the first of the records at this record's host, tag and idx
abbrev pub holder : List SealedRecord → SealedRecord → Option SealedRecord
holder records r = find (same_place r) records

-- a record is fresh where none of those has its host, tag and idx
abbrev pub is_fresh : List SealedRecord → SealedRecord → Bool
is_fresh records r = not (list_any (same_place r) records)

-- a record stands among those where its host, tag and idx are held with its id
abbrev pub IsHeld : List SealedRecord → SealedRecord → Type 0
IsHeld records r = option_map (λ other. other.id) (holder records r) ≡ Some r.id

-- the records of the page that are fresh beside those and beside the earlier ones of the page, in order
abbrev pub fresh_of : List SealedRecord → List SealedRecord → List SealedRecord
fresh_of records [] = []
fresh_of records (r ∷ page) = if is_fresh records r then r ∷ fresh_of (records ++ r ∷ []) page else fresh_of (records ++ r ∷ []) page

-- In what follows `owned` are the owner's events in the journal, and `earlier` are the records of the page before this one.

-- the 101st record, or one with which the page is too heavy
abbrev pub passes_page : List SealedRecord → SealedRecord → Bool
passes_page earlier r = nat_le most_page_records (length earlier) || nat_lt most_page_weight (page_weight (earlier ++ r ∷ []))

-- a tag, a version or a host name that is too long
abbrev pub has_long_text : SealedRecord → Bool
has_long_text r = nat_lt most_tag_bytes (length r.tag) || nat_lt most_tag_bytes (length r.version) || nat_lt most_name_bytes (length r.host_name)

-- one of these, with the weight of the page up to here
abbrev pub too_long_at : List SealedRecord → SealedRecord → Option PageRefusal
too_long_at earlier r = if passes_page earlier r || has_long_text r then Some (PageTooLong (length earlier) (page_weight (earlier ++ r ∷ []))) else None

-- the refusal where that other record is found at this one's host, tag and idx
abbrev pub forked_by : ℕ → SealedRecord → Option SealedRecord → Option PageRefusal
forked_by position r None = None
forked_by position r (Some other) = if other.id == r.id then None else Some (PageForked position other.id)

-- another id is held in the journal or at an earlier position
abbrev pub forked_at : List Event → List SealedRecord → SealedRecord → Option PageRefusal
forked_at owned earlier r = forked_by (length earlier) r (holder (records_of owned ++ earlier) r)

-- the idx that would come next in the record's chain: its length in the journal and the earlier fresh records of it
abbrev pub wanted_idx : List Event → List SealedRecord → SealedRecord → ℕ
wanted_idx owned earlier r = length (filter (in_place r.host r.tag) (records_of owned)) + length (filter (in_place r.host r.tag) (fresh_of (records_of owned) earlier))

-- a fresh record with another idx than the wanted one
abbrev pub gap_at : List Event → List SealedRecord → SealedRecord → Option PageRefusal
gap_at owned earlier r =
    if is_fresh (records_of owned ++ earlier) r && not (r.idx == wanted_idx owned earlier r) then Some (PageGap (length earlier) (wanted_idx owned earlier r)) else None

-- what the owner would hold with the earlier fresh records of the page
abbrev pub owned_with : ℕ → List Event → List SealedRecord → List Event
owned_with owner owned earlier = owned ++ map (Taken owner) (fresh_of (records_of owned) earlier)

-- a fresh record that would pass a limit of the owner beside those
abbrev pub full_at : ℕ → List Event → List SealedRecord → SealedRecord → Option PageRefusal
full_at owner owned earlier r =
    if is_fresh (records_of owned ++ earlier) r then option_map PageFull (limit_passed (owned_with owner owned earlier) (record_weight r) (Some (record { host = r.host; tag = r.tag }))) else None

-- the refusal of one position: the first in this order
abbrev pub refusal_at : ℕ → List Event → List SealedRecord → SealedRecord → Option PageRefusal
refusal_at owner owned earlier r = option_or (too_long_at earlier r) (option_or (forked_at owned earlier r) (option_or (gap_at owned earlier r) (full_at owner owned earlier r)))

-- the first refusal of the page by its own length, weight and texts alone
abbrev pub first_too_long : List SealedRecord → List SealedRecord → Option PageRefusal
first_too_long earlier [] = None
first_too_long earlier (r ∷ page) = option_or (too_long_at earlier r) (first_too_long (earlier ++ r ∷ []) page)

-- the refusal of the least position from here on that has one
abbrev pub first_refusal : ℕ → List Event → List SealedRecord → List SealedRecord → Option PageRefusal
first_refusal owner owned earlier [] = None
first_refusal owner owned earlier (r ∷ page) = option_or (refusal_at owner owned earlier r) (first_refusal owner owned (earlier ++ r ∷ []) page)

-- the record as an entry that was taken in for the owner in this call
abbrev pub taken_entry : Caller → ℕ → SealedRecord → Entry
taken_entry caller owner r = record { caller = caller; event = Taken owner r }

-- the batch, or the refusal where there is one
abbrev pub batch_or : List Entry → Option PageRefusal → Result (List Entry) PageRefusal
batch_or batch None = Ok batch
batch_or batch (Some refusal) = Err refusal

-- the batch of the fresh records that the page adds, or the refusal of the whole page
abbrev pub growth_of : Caller → ℕ → List Event → List SealedRecord → Result (List Entry) PageRefusal
growth_of caller owner owned page = batch_or (map (taken_entry caller owner) (fresh_of (records_of owned) page)) (first_refusal owner owned [] page)

-- the records go on in the chain of one host and tag, from this idx
abbrev pub GoOn : ℕ → List ℕ → ℕ → List SealedRecord → Type 0
GoOn host tag idx [] = ⊤
GoOn host tag idx (r ∷ records) = (r.host ≡ host) × (r.tag ≡ tag) × (r.idx ≡ idx) × GoOn host tag (idx + 1) records

-- what the page does for the owner at this journal
abbrev pub grow : List Entry → Caller → ℕ → List SealedRecord → Result (List Entry) PageRefusal
grow journal caller owner page = growth_of caller owner (own_events journal owner) page

-- the journal with the batch, and as it was after a refusal
abbrev pub grown : List Entry → Result (List Entry) PageRefusal → List Entry
grown journal (Ok batch) = journal ++ batch
grown journal (Err refusal) = journal
