-- A journal is a list of entries, oldest first. This module says what an owner holds in it, what runs, and when it is sound.
-- All of this is told by what the entries say, and by nothing of whose calls they came by.
use Rattle.std.specs.Prelude.{◌≡◌, ◌≢◌, ℕ, ◌+◌, ◌<◌, ◌≤◌, ◌&&◌, Bool, false, List, [], ◌∷◌, length, map, filter, filter_map, take, sum_by, slice_get, All, Option, Some, None, IfSome, IsTrue, if◌then◌else◌, ◌==◌, nat_lt, bytes_eq, ⊤}
use Rattle.std.specs.List.{list_any, AllByRecursion}
use Rattle.std.specs.Option.{option_or}
use Rattle.std.specs.declared.cmp.Ordering.{Ordering}
use Rattle.std.specs.declared.cmp.Ordering.TheVariants.{Less}
use Rattle.std.specs.Ordering.{is_lt, nat_cmp, ordering_then}
use Rattle.std.specs.Cmp.Lexicographic.{slice_cmp}
use Rattle.definitions.specs.Journal.{StartedRecord}
use Rattle.definitions.specs.Limits.{most_value_bytes, most_name_bytes, most_tag_bytes, most_page_weight, most_entries, most_held_weight, most_places}
use Rattle.record_rules.specs.Records.{SealedRecord, Entry, Event, Started, Local, Taken, record_weight, event_weight}

-- ---- what an owner holds

-- what was started or recorded here is owner 0's; what was taken in names its owner
abbrev pub event_owner : Event → ℕ
event_owner (Started s) = 0
event_owner (Local closes r) = 0
event_owner (Taken owner r) = owner

-- the record of an event; a command that was started has none yet
abbrev pub event_record : Event → Option SealedRecord
event_record (Started s) = None
event_record (Local closes r) = Some r
event_record (Taken owner r) = Some r

-- whether the owner owns the event, and the entry that says it
abbrev pub is_owned_by : ℕ → Event → Bool
is_owned_by owner event = event_owner event == owner

abbrev pub owned_by : ℕ → Entry → Bool
owned_by owner entry = is_owned_by owner entry.event

-- the entries that the owner owns, in order
abbrev pub own : List Entry → ℕ → List Entry
own journal owner = filter (owned_by owner) journal

-- what the entries say, without whose calls they came by
abbrev pub events_of : List Entry → List Event
events_of entries = map (λ entry. entry.event) entries

-- those of these events that the owner owns, in order
abbrev pub own_of : List Event → ℕ → List Event
own_of events owner = filter (is_owned_by owner) events

-- what the owner's entries say
abbrev pub own_events : List Entry → ℕ → List Event
own_events journal owner = own_of (events_of journal) owner

-- the records of the events, in order
abbrev pub records_of : List Event → List SealedRecord
records_of events = filter_map event_record events

-- ---- chains and places

-- whether the record is of that host and tag
abbrev pub in_place : ℕ → List ℕ → SealedRecord → Bool
in_place host tag r = r.host == host && bytes_eq r.tag tag

-- the owner's records of one host and tag, in order
abbrev pub chain_of : List Event → ℕ → ℕ → List ℕ → List SealedRecord
chain_of events owner host tag = filter (in_place host tag) (records_of (own_of events owner))

abbrev pub chain : List Entry → ℕ → ℕ → List ℕ → List SealedRecord
chain journal owner host tag = chain_of (events_of journal) owner host tag

-- a place of an owner, which holds one chain
pub record ChainPlace : Type 0 where
  pub host : ℕ
  pub tag : List ℕ

-- the order of two places: by host, then by the bytes of the tag
abbrev pub place_cmp : ChainPlace → ChainPlace → Ordering
place_cmp place other = ordering_then (nat_cmp place.host other.host) (slice_cmp nat_cmp place.tag other.tag)

-- each place comes before all later ones
abbrev pub Ascends : List ChainPlace → Type 0
Ascends [] = ⊤
Ascends (place ∷ places) = AllByRecursion (λ later. place_cmp place later ≡ Less) places × Ascends places

-- the places with one more, before the first that comes after it
abbrev pub put_in_order : ChainPlace → List ChainPlace → List ChainPlace
put_in_order place [] = place ∷ []
put_in_order place (other ∷ places) = if is_lt (place_cmp place other) then place ∷ other ∷ places else other ∷ put_in_order place places

-- the place of each record once, in order of host, then tag
abbrev pub places_of : List SealedRecord → List ChainPlace
places_of [] = []
places_of (r ∷ later) = if list_any (in_place r.host r.tag) later then places_of later else put_in_order (record { host = r.host; tag = r.tag }) (places_of later)

-- a place with the length of its chain
pub record ChainCount : Type 0 where
  pub host : ℕ
  pub tag : List ℕ
  pub count : ℕ

-- host, tag and length of each chain of these events that isn't empty, in order of host, then tag
abbrev pub counts_of : List Event → List ChainCount
counts_of events = map (λ place. record { host = place.host; tag = place.tag; count = length (filter (in_place place.host place.tag) (records_of events)) }) (places_of (records_of events))

-- the owner's status
abbrev pub status : List Entry → ℕ → List ChainCount
status journal owner = counts_of (own_events journal owner)

-- whether the count is of that host and tag
abbrev pub is_count_of : ℕ → List ℕ → ChainCount → Bool
is_count_of host tag listed = listed.host == host && bytes_eq listed.tag tag

-- the count that a status tells of a place, 0 where it isn't listed
abbrev pub count_at : List ChainCount → ℕ → List ℕ → ℕ
count_at [] host tag = 0
count_at (listed ∷ counts) host tag = if is_count_of host tag listed then listed.count else count_at counts host tag

-- ---- totals

-- what counts against an owner's limits
pub record Totals : Type 0 where
  pub entries : ℕ
  pub weight : ℕ
  pub places : ℕ

-- the number, the weight and the places of these events
abbrev pub held_of : List Event → Totals
held_of events = record { entries = length events; weight = sum_by event_weight events; places = length (places_of (records_of events)) }

-- what the owner holds
abbrev pub held : List Entry → ℕ → Totals
held journal owner = held_of (own_events journal owner)

-- a limit that one more entry would pass, 1 of entries, 2 of weight, 3 of places, and the number held
pub record PassedLimit : Type 0 where
  pub what : ℕ
  pub held : ℕ

-- how many places one more entry at this place adds
abbrev pub places_added : List Event → Option ChainPlace → ℕ
places_added events None = 0
places_added events (Some place) = if list_any (in_place place.host place.tag) (records_of events) then 0 else 1

-- whether one more entry of this weight and place beside these would pass each limit
abbrev pub entries_passed : List Event → Option PassedLimit
entries_passed events = if nat_lt most_entries (length events + 1) then Some (record { what = 1; held = length events }) else None

abbrev pub weight_passed : List Event → ℕ → Option PassedLimit
weight_passed events weight = if nat_lt most_held_weight (sum_by event_weight events + weight) then Some (record { what = 2; held = sum_by event_weight events }) else None

abbrev pub places_passed : List Event → Option ChainPlace → Option PassedLimit
places_passed events place = if nat_lt most_places (length (places_of (records_of events)) + places_added events place) then Some (record { what = 3; held = length (places_of (records_of events)) }) else None

-- the first of them
abbrev pub limit_passed : List Event → ℕ → Option ChainPlace → Option PassedLimit
limit_passed events weight place = option_or (entries_passed events) (option_or (weight_passed events weight) (places_passed events place))

-- the first limit of the owner that one more entry of this weight and place would pass, or none
abbrev pub first_limit_passed : List Entry → ℕ → ℕ → Option ChainPlace → Option PassedLimit
first_limit_passed journal owner weight place = limit_passed (own_events journal owner) weight place

-- ---- what runs

-- whether the event closes the started command with that id
abbrev pub closes_id : ℕ → Event → Bool
closes_id id (Started s) = false
closes_id id (Local None r) = false
closes_id id (Local (Some closed) r) = closed == id
closes_id id (Taken owner r) = false

-- the started commands that no later event closes, in order
abbrev pub still_running : List Event → List StartedRecord
still_running [] = []
still_running (Started s ∷ later) = if list_any (closes_id s.id) later then still_running later else s ∷ still_running later
still_running (Local closes r ∷ later) = still_running later
still_running (Taken owner r ∷ later) = still_running later

-- the commands that are running
abbrev pub running : List Entry → List StartedRecord
running journal = still_running (events_of journal)

-- whether a command with that id is running
abbrev pub is_running : ℕ → List Event → Bool
is_running id events = list_any (λ s. s.id == id) (still_running events)

-- ---- soundness

-- the k-th record has idx k
abbrev pub IsNumbered : List SealedRecord → Type 0
IsNumbered records = (k : ℕ) (r : SealedRecord) → slice_get records k ≡ Some r → r.idx ≡ k

-- the record's texts and its weight are within their limits
pub record RecordFits (r : SealedRecord) : Type 0 where
  pub host_name : length r.host_name ≤ most_name_bytes
  pub version : length r.version ≤ most_tag_bytes
  pub tag : length r.tag ≤ most_tag_bytes
  pub weight : record_weight r ≤ most_page_weight

-- the started command's texts are within their limits
pub record StartedFits (s : StartedRecord) : Type 0 where
  pub command : length s.command ≤ most_value_bytes
  pub cwd : length s.cwd ≤ most_name_bytes
  pub session : length s.session ≤ most_name_bytes
  pub hostname : length s.hostname ≤ most_name_bytes

-- what an event holds is within the limits
abbrev pub EventFits : Event → Type 0
EventFits (Started s) = StartedFits s
EventFits (Local closes r) = RecordFits r
EventFits (Taken owner r) = RecordFits r

-- a record that was made here has this host
abbrev pub IsOfHost : ℕ → Event → Type 0
IsOfHost host (Started s) = ⊤
IsOfHost host (Local closes r) = r.host ≡ host
IsOfHost host (Taken owner r) = ⊤

-- what is held is within the limits
pub record TotalsFit (held : Totals) : Type 0 where
  pub entries : held.entries ≤ most_entries
  pub weight : held.weight ≤ most_held_weight
  pub places : held.places ≤ most_places

-- the events are sound for the store of this host
pub record SoundEvents (events : List Event) (host : ℕ) : Type 0 where
  -- the k-th record of each chain has idx k
  pub numbered : (owner origin : ℕ) (tag : List ℕ) → IsNumbered (chain_of events owner origin tag)
  -- the records that were made here have this host
  pub made_here : All (IsOfHost host) events
  -- an event closes only an id that is running among the events before it
  pub closes_running : (k closed : ℕ) (r : SealedRecord) → slice_get events k ≡ Some (Local (Some closed) r) → IsTrue (is_running closed (take k events))
  -- the ids of two started commands differ
  pub started_apart : (i k : ℕ) (s t : StartedRecord) → i < k → slice_get events i ≡ Some (Started s) → slice_get events k ≡ Some (Started t) → s.id ≢ t.id
  -- texts and weights are within their limits
  pub events_fit : All EventFits events
  -- what each owner holds is within the limits
  pub held_fits : (owner : ℕ) → TotalsFit (held_of (own_of events owner))

-- a journal is sound where what its entries say is
abbrev pub Sound : List Entry → ℕ → Type 0
Sound journal host = SoundEvents (events_of journal) host

-- ---- one more entry

-- the place of an event's record
abbrev pub event_place : Event → Option ChainPlace
event_place (Started s) = None
event_place (Local closes r) = Some (record { host = r.host; tag = r.tag })
event_place (Taken owner r) = Some (record { host = r.host; tag = r.tag })

-- the event may be the next one behind sound events
pub record MayComeNext (events : List Event) (host : ℕ) (event : Event) : Type 0 where
  pub numbered : IfSome (event_record event) (λ r. r.idx ≡ length (chain_of events (event_owner event) r.host r.tag))
  pub made_here : IsOfHost host event
  pub closes_running : (closed : ℕ) → IsTrue (closes_id closed event) → IsTrue (is_running closed events)
  pub started_apart : (k : ℕ) (s t : StartedRecord) → slice_get events k ≡ Some (Started s) → event ≡ Started t → s.id ≢ t.id
  pub event_fits : EventFits event
  pub held_fits : limit_passed (own_of events (event_owner event)) (event_weight event) (event_place event) ≡ None

-- an entry that says it may be the next one of a sound journal
abbrev pub MayFollow : List Entry → ℕ → Event → Type 0
MayFollow journal host event = MayComeNext (events_of journal) host event
