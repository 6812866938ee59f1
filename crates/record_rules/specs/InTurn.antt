-- A page taken record by record, as code takes it. It is the same as the growth that is told of the page as a whole.
use Rattle.std.specs.Prelude.{ℕ, ◌+◌, ◌||◌, Bool, List, [], ◌∷◌, ◌++◌, length, map, filter, Option, Some, None, Result, Ok, Err, if◌then◌else◌, ◌==◌, nat_lt, nat_le}
use Rattle.definitions.specs.Limits.{most_page_weight, most_page_records}
use Rattle.record_rules.specs.Records.{SealedRecord, Caller, Entry, Event, Taken, record_weight}
use Rattle.record_rules.specs.Journal.{PassedLimit, records_of, in_place, limit_passed}
use Rattle.record_rules.specs.Growth.{PageRefusal, PageTooLong, PageForked, PageGap, PageFull, holder, has_long_text, taken_entry}

-- how far a page was taken: the number of its records and what they weigh together, and the fresh ones among them, in order
pub record PageTaken : Type 0 where
  pub position : ℕ
  pub weight : ℕ
  pub taken : List SealedRecord

abbrev pub nothing_taken : PageTaken
nothing_taken = record { position = 0; weight = 0; taken = [] }

-- a record is passed over, or taken
abbrev pub passed_over : PageTaken → SealedRecord → PageTaken
passed_over so_far r = record { position = so_far.position + 1; weight = so_far.weight + record_weight r; taken = so_far.taken }

abbrev pub taken_too : PageTaken → SealedRecord → PageTaken
taken_too so_far r = record { position = so_far.position + 1; weight = so_far.weight + record_weight r; taken = so_far.taken ++ r ∷ [] }

-- what the owner holds then
abbrev pub owned_then : ℕ → List Event → PageTaken → List Event
owned_then owner owned so_far = owned ++ map (Taken owner) so_far.taken

-- the page is longer or heavier than a page may be, or a text of this record is too long
abbrev pub is_too_long : PageTaken → SealedRecord → Bool
is_too_long so_far r = (nat_le most_page_records so_far.position || nat_lt most_page_weight (so_far.weight + record_weight r)) || has_long_text r

-- a record for which there is room is taken
abbrev pub take_or_full : PageTaken → SealedRecord → Option PassedLimit → Result PageTaken PageRefusal
take_or_full so_far r None = Ok (taken_too so_far r)
take_or_full so_far r (Some passed) = Err (PageFull passed)

-- a record whose host, tag and idx nobody holds has to be the next of its chain
abbrev pub take_next : List Event → PageTaken → SealedRecord → Result PageTaken PageRefusal
take_next held so_far r =
    if r.idx == length (filter (in_place r.host r.tag) (records_of held)) then take_or_full so_far r (limit_passed held (record_weight r) (Some (record { host = r.host; tag = r.tag })))
    else Err (PageGap so_far.position (length (filter (in_place r.host r.tag) (records_of held))))

-- where another record is at its host, tag and idx, the same id is passed over and another one refused
abbrev pub take_beside : List Event → PageTaken → SealedRecord → Option SealedRecord → Result PageTaken PageRefusal
take_beside held so_far r None = take_next held so_far r
take_beside held so_far r (Some other) = if other.id == r.id then Ok (passed_over so_far r) else Err (PageForked so_far.position other.id)

-- one record, for an owner that held these before the page
abbrev pub take_record : ℕ → List Event → PageTaken → SealedRecord → Result PageTaken PageRefusal
take_record owner owned so_far r =
    if is_too_long so_far r then Err (PageTooLong so_far.position (so_far.weight + record_weight r)) else take_beside (owned_then owner owned so_far) so_far r (holder (records_of (owned_then owner owned so_far)) r)

abbrev pub go_on : Result PageTaken PageRefusal → (PageTaken → Result PageTaken PageRefusal) → Result PageTaken PageRefusal
go_on (Ok so_far) next = next so_far
go_on (Err refusal) next = Err refusal

-- the records one after another, up to the first refusal
abbrev pub take_records : ℕ → List Event → PageTaken → List SealedRecord → Result PageTaken PageRefusal
take_records owner owned so_far [] = Ok so_far
take_records owner owned so_far (r ∷ page) = go_on (take_record owner owned so_far r) (λ next. take_records owner owned next page)

-- what is appended for a page that was taken to its end
abbrev pub batch_of : Caller → ℕ → Result PageTaken PageRefusal → Result (List Entry) PageRefusal
batch_of caller owner (Ok so_far) = Ok (map (taken_entry caller owner) so_far.taken)
batch_of caller owner (Err refusal) = Err refusal
