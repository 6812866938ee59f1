-- The changes that the records of a journal hold: what the views are of. A record that doesn't open under the key, or whose
-- opened bytes can't be read, holds none.
use Rattle.std.specs.Prelude.{◌≡◌, ℕ, List, [], ◌∷◌, Option, Some, ◌⊎◌, ◌↔◌}
use Rattle.std.specs.Option.{option_map}
use Rattle.std.specs.List.{Contains, filter_map}
use Rattle.std.specs.declared.cmp.Ordering.{Ordering}
use Rattle.std.specs.Ordering.{nat_cmp, ordering_then}
use Rattle.record_rules.specs.Records.{SealedRecord, Entry}
use Rattle.record_rules.specs.Journal.{own_events, records_of}
use Rattle.payload_rules.specs.Payloads.{Payload, tag_of}

-- where a record stands, when it was made, and what it holds
pub record Change : Type 0 where
  pub host : ℕ
  pub idx : ℕ
  pub timestamp : ℕ
  pub payload : Payload

-- ---- orders of changes

-- by host, then idx
abbrev pub origin_cmp : Change → Change → Ordering
origin_cmp c d = ordering_then (nat_cmp c.host d.host) (nat_cmp c.idx d.idx)

-- by timestamp, then host, then idx
abbrev pub time_cmp : Change → Change → Ordering
time_cmp c d = ordering_then (nat_cmp c.timestamp d.timestamp) (origin_cmp c d)

-- ---- lists of changes

-- the two lists have the same changes, in whatever order and however often
abbrev pub SameChanges : (changes others : List Change) → Type 0
SameChanges changes others = (c : Change) → Contains changes c ↔ Contains others c

-- no two of the changes stand at one host, tag and idx
abbrev pub HaveDistinctPlaces : List Change → Type 0
HaveDistinctPlaces changes = (c d : Change) → Contains changes c → Contains changes d → c.host ≡ d.host → tag_of c.payload ≡ tag_of d.payload → c.idx ≡ d.idx → c ≡ d

-- ---- from records

-- the records that the views are of: those of owner 0
abbrev pub viewed : List Entry → List SealedRecord
viewed journal = records_of (own_events journal 0)

abbrev pub change_of : SealedRecord → Payload → Change
change_of r payload = record { host = r.host; idx = r.idx; timestamp = r.timestamp; payload = payload }

-- that a record opens to a payload. It is handed in, since it depends on a key
abbrev pub Opens : Type 1
Opens = SealedRecord → Payload → Type 0

-- a record opens to at most one payload
abbrev pub OpensOnce : Opens → Type 0
OpensOnce opens = (r : SealedRecord) (p q : Payload) → opens r p → opens r q → p ≡ q

-- of each record it is known whether it opens
abbrev pub OpensOrNot : Opens → Type 0
OpensOrNot opens = (r : SealedRecord) → ((payload : Payload) × opens r payload) ⊎ ((payload : Payload) → opens r payload → ⊥)

-- the changes are those of the records that open, in their order
abbrev pub ChangesOf : Opens → List SealedRecord → List Change → Type 0
ChangesOf opens [] changes = changes ≡ []
ChangesOf opens (r ∷ records) changes =
    ((payload : Payload) × (rest : List Change) × opens r payload × ChangesOf opens records rest × (changes ≡ change_of r payload ∷ rest))
    ⊎ (((payload : Payload) → opens r payload → ⊥) × ChangesOf opens records changes)

-- ---- openings that are computed

-- what opening a record gives, and reading what it gives: a payload, or nothing
abbrev pub Opening : Type 0
Opening = SealedRecord → Option Payload

abbrev pub gives : Opening → Opens
gives opening r payload = opening r ≡ Some payload

-- a record opens only as a payload of its tag
abbrev pub OpensByTag : Opening → Type 0
OpensByTag opening = (r : SealedRecord) (payload : Payload) → opening r ≡ Some payload → r.tag ≡ tag_of payload

-- the changes of the records that open
abbrev pub changes_of : Opening → List SealedRecord → List Change
changes_of opening records = filter_map (λ r. option_map (change_of r) (opening r)) records
