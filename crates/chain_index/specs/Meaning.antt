-- Of which entries an index is.
use Rattle.std.specs.Prelude.{◌≡◌, ℕ, ◌+◌, ◌<◌, ◌^◌, ◌&&◌, ◌==◌, Bool, true, false, List, length, map, filter, Option, Some, None}
use Rattle.std.specs.List.{list_any}
use Rattle.std.specs.Option.{option_map}
use Rattle.record_rules.specs.Records.{SealedRecord, Entry, record_weight}
use Rattle.record_rules.specs.Journal.{Totals, event_record, event_owner, is_owned_by, in_place, events_of, own_events, records_of, chain, held}
use Rattle.record_rules.specs.Growth.{holder}
use Rattle.record_log.specs.declared.spots.Spot.{Spot}
use Rattle.chain_index.specs.declared.links.Link.{Link}
use Rattle.chain_index.specs.declared.owner.Held.{Held}
use Rattle.chain_index.specs.Chains.{IndexSeen, links_in, held_in, has_id, reserved_in, has_room_for}

-- an entry of a log, the spot of its batch, and its number there
pub record Filed : Type 0 where
  pub entry : Entry
  pub spot : Spot
  pub at : ℕ

-- the entries alone: the journal
abbrev pub journal_of : List Filed → List Entry
journal_of filed = map (λ f. f.entry) filed

abbrev pub place_has : ℕ → List ℕ → Option SealedRecord → Bool
place_has host tag None = false
place_has host tag (Some r) = in_place host tag r

-- whether the entry says a record of that owner, host and tag
abbrev pub is_of : (owner host : ℕ) → List ℕ → Filed → Bool
is_of owner host tag f = is_owned_by owner f.entry.event && place_has host tag (event_record f.entry.event)

-- the entries of a chain, in order
abbrev pub filed_at : List Filed → (owner host : ℕ) → List ℕ → List Filed
filed_at filed owner host tag = filter (is_of owner host tag) filed

abbrev pub id_of : Option SealedRecord → ℕ
id_of None = 0
id_of (Some r) = r.id

abbrev pub link_of : Filed → Link
link_of f = record { id = id_of (event_record f.entry.event); spot = f.spot; at = f.at }

abbrev pub has_that_id : ℕ → SealedRecord → Bool
has_that_id id r = r.id == id

-- whether a record of the journal has the id
abbrev pub is_taken : List Entry → ℕ → Bool
is_taken journal id = list_any (has_that_id id) (records_of (events_of journal))

abbrev pub totals_seen : Held → Totals
totals_seen held = record { entries = held.entries; weight = held.bytes; places = held.places }

-- the id that the owner holds at the record's host, tag and idx, if it holds one
abbrev pub held_at : List Entry → ℕ → SealedRecord → Option ℕ
held_at journal owner r = option_map (λ other. other.id) (holder (records_of (own_events journal owner)) r)

-- where a record stands, and in what order
pub record StandsAt (r : SealedRecord) (host : ℕ) (tag : List ℕ) (idx : ℕ) : Type 0 where
  pub host_is : r.host ≡ host
  pub tag_is : r.tag ≡ tag
  pub idx_is : r.idx ≡ idx

-- the index is of these entries, in this order
pub record IsIndexOf (index : IndexSeen) (filed : List Filed) : Type 0 where
  pub links : (owner host : ℕ) (tag : List ℕ) → links_in index owner host tag ≡ map link_of (filed_at filed owner host tag)
  pub held : (owner : ℕ) → totals_seen (held_in index owner) ≡ held (journal_of filed) owner
  pub ids : (id : ℕ) → has_id index.ids id ≡ is_taken (journal_of filed) id

-- there is room for the record among those of the owner
pub record IsReady (index : IndexSeen) (owner : ℕ) (r : SealedRecord) : Type 0 where
  pub chain : r.idx < reserved_in index owner r.host r.tag
  pub id : has_room_for index.ids r.id ≡ true

-- each room that is ready stays so
abbrev pub KeepsRooms : IndexSeen → IndexSeen → Type 0
KeepsRooms old new = (owner : ℕ) (r : SealedRecord) → IsReady old owner r → IsReady new owner r

-- the entry says this record of that owner
pub record SaysRecord (entry : Entry) (owner : ℕ) (r : SealedRecord) : Type 0 where
  pub owned : event_owner entry.event ≡ owner
  pub is : event_record entry.event ≡ Some r

-- the record may be the owner's next: there is room, it is the next of its chain, and what the owner then holds can be counted
pub record MayAdd (index : IndexSeen) (owner : ℕ) (r : SealedRecord) : Type 0 where
  pub filed : List Filed
  pub is : IsIndexOf index filed
  pub ready : IsReady index owner r
  pub next : r.idx ≡ length (chain (journal_of filed) owner r.host r.tag)
  pub entries : (held (journal_of filed) owner).entries + 1 < 2 ^ 64
  pub bytes : (held (journal_of filed) owner).weight + record_weight r < 2 ^ 64

-- a started command of this weight can be counted
pub record MayStart (index : IndexSeen) (weight : ℕ) : Type 0 where
  pub filed : List Filed
  pub is : IsIndexOf index filed
  pub entries : (held (journal_of filed) 0).entries + 1 < 2 ^ 64
  pub bytes : (held (journal_of filed) 0).weight + weight < 2 ^ 64

-- where an entry stands
abbrev pub spot_seen : Filed → Spot × ℕ
spot_seen f = (f.spot, f.at)
