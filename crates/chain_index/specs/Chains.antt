-- What an index keeps: chains by tag, host and owner, and ids.
use Rattle.std.specs.Prelude.{◌≡◌, ℕ, ◌+◌, ◌≤◌, ◌<◌, ◌^◌, zero, suc, Bool, true, false, List, [], ◌∷◌, ◌++◌, length, map, All, Option, Vec, nat_eq, bytes_eq, cond, ◌&&◌}
use Rattle.std.specs.Global.{Global}
use Rattle.std.specs.Str.{IsUtf8}
use Rattle.std.specs.Option.{unwrap_or, is_some}
use Rattle.std.specs.Map.{lookup, keys_of}
use Rattle.std.specs.List.Sorted.{IsStrictlySortedBy}
use Rattle.std.specs.BTreeMap.{is_at}
use Rattle.std.specs.Cmp.Lexicographic.{slice_cmp}
use Rattle.std.specs.Ordering.{nat_cmp}
use Rattle.record_rules.specs.Journal.{ChainCount, Ascends, count_at}
use Rattle.chain_index.specs.declared.links.Link.{Link}
use Rattle.chain_index.specs.declared.owner.Held.{Held}

-- a chain: where its records stand, and for how many there is memory
pub record ChainSeen : Type 0 where
  pub links : List Link
  pub reserved : ℕ

abbrev pub no_chain : ChainSeen
no_chain = record { links = []; reserved = 0 }

-- ---- tags

abbrev pub TagsSeen : Type 0
TagsSeen = List (Vec ℕ Global × ChainSeen)

-- a tag is a text
abbrev pub IsTag : Vec ℕ Global → Type 0
IsTag tag = IsUtf8 tag.items × (length tag.items < 2 ^ 32)

abbrev pub find_tag : TagsSeen → List ℕ → Option ChainSeen
find_tag tags tag = lookup (is_at (λ k. slice_cmp nat_cmp tag k.items)) tags

abbrev pub chain_in : TagsSeen → List ℕ → ChainSeen
chain_in tags tag = unwrap_or (find_tag tags tag) no_chain

-- no record comes or goes, and no memory goes
abbrev pub Grows : ChainSeen → ChainSeen → Type 0
Grows old new = (new.links ≡ old.links) × (old.reserved ≤ new.reserved)

abbrev pub TagsGrow : TagsSeen → TagsSeen → Type 0
TagsGrow old new = (tag : List ℕ) → Grows (chain_in old tag) (chain_in new tag)

-- one record comes, and no memory goes
abbrev pub AddsIf : Bool → Link → ChainSeen → ChainSeen → Type 0
AddsIf here link old new = (new.links ≡ cond here (old.links ++ link ∷ []) old.links) × (old.reserved ≤ new.reserved)

abbrev pub PutsTag : List ℕ → Link → TagsSeen → TagsSeen → Type 0
PutsTag tag link old new = (q : List ℕ) → AddsIf (bytes_eq tag q) link (chain_in old q) (chain_in new q)

-- ---- hosts

abbrev pub HostsSeen : Type 0
HostsSeen = List (ℕ × TagsSeen)

abbrev pub find_host : HostsSeen → ℕ → Option TagsSeen
find_host hosts host = lookup (is_at (nat_cmp host)) hosts

abbrev pub tags_in : HostsSeen → ℕ → TagsSeen
tags_in hosts host = unwrap_or (find_host hosts host) []

abbrev pub chain_of_host : HostsSeen → ℕ → List ℕ → ChainSeen
chain_of_host hosts host tag = chain_in (tags_in hosts host) tag

abbrev pub HostsGrow : HostsSeen → HostsSeen → Type 0
HostsGrow old new = (host : ℕ) (tag : List ℕ) → Grows (chain_of_host old host tag) (chain_of_host new host tag)

abbrev pub PutsHost : ℕ → List ℕ → Link → HostsSeen → HostsSeen → Type 0
PutsHost host tag link old new = (h : ℕ) (q : List ℕ) → AddsIf (nat_eq host h && bytes_eq tag q) link (chain_of_host old h q) (chain_of_host new h q)

-- ---- owners

pub record OwnerSeen : Type 0 where
  pub held : Held
  pub hosts : HostsSeen

abbrev pub holds_nothing : Held
holds_nothing = record { entries = 0; bytes = 0; places = 0 }

abbrev pub no_owner : OwnerSeen
no_owner = record { held = holds_nothing; hosts = [] }

abbrev pub chain_of_owner : OwnerSeen → ℕ → List ℕ → ChainSeen
chain_of_owner owner host tag = chain_of_host owner.hosts host tag

pub record OwnerGrows (old new : OwnerSeen) : Type 0 where
  pub held : new.held ≡ old.held
  pub hosts : HostsGrow old.hosts new.hosts

-- one entry more of this weight, and so many places more
abbrev pub held_with_entry : Held → (weight places : ℕ) → Held
held_with_entry held weight places = record { entries = held.entries + 1; bytes = held.bytes + weight; places = held.places + places }

-- the first record of a chain adds a place
abbrev pub places_by : ℕ → ℕ
places_by count = cond (nat_eq count 0) 1 0

-- where it is that owner, its record comes
pub record OwnerAddsIf (here : Bool) (host : ℕ) (tag : List ℕ) (weight : ℕ) (link : Link) (old new : OwnerSeen) : Type 0 where
  pub held : new.held ≡ cond here (held_with_entry old.held weight (places_by (length (chain_of_owner old host tag).links))) old.held
  pub chains : (h : ℕ) (q : List ℕ) → AddsIf (here && (nat_eq host h && bytes_eq tag q)) link (chain_of_owner old h q) (chain_of_owner new h q)

-- ---- ids

abbrev pub IdsSeen : Type 0
IdsSeen = List (ℕ × Bool)

abbrev pub has_room_for : IdsSeen → ℕ → Bool
has_room_for ids id = is_some (lookup (nat_eq id) ids)

abbrev pub has_id : IdsSeen → ℕ → Bool
has_id ids id = unwrap_or (lookup (nat_eq id) ids) false

-- a place that was made stays made
abbrev pub IdsGrow : IdsSeen → IdsSeen → Type 0
IdsGrow old new = (id : ℕ) → has_room_for old id ≡ true → has_room_for new id ≡ true

-- ---- the index

-- owner 0 is this store's own
pub record IndexSeen : Type 0 where
  pub here : OwnerSeen
  pub others : List (ℕ × OwnerSeen)
  pub ids : IdsSeen

abbrev pub find_other : List (ℕ × OwnerSeen) → ℕ → Option OwnerSeen
find_other others owner = lookup (is_at (nat_cmp owner)) others

abbrev pub other_in : List (ℕ × OwnerSeen) → ℕ → OwnerSeen
other_in others owner = unwrap_or (find_other others owner) no_owner

abbrev pub owner_in : IndexSeen → ℕ → OwnerSeen
owner_in index owner = cond (nat_eq owner 0) index.here (other_in index.others owner)

abbrev pub held_in : IndexSeen → ℕ → Held
held_in index owner = (owner_in index owner).held

abbrev pub links_in : IndexSeen → (owner host : ℕ) → List ℕ → List Link
links_in index owner host tag = (chain_of_owner (owner_in index owner) host tag).links

abbrev pub reserved_in : IndexSeen → (owner host : ℕ) → List ℕ → ℕ
reserved_in index owner host tag = (chain_of_owner (owner_in index owner) host tag).reserved

-- no record comes or goes, and no memory goes
pub record IndexGrows (old new : IndexSeen) : Type 0 where
  pub owners : (owner : ℕ) → OwnerGrows (owner_in old owner) (owner_in new owner)
  pub has : (id : ℕ) → has_id new.ids id ≡ has_id old.ids id
  pub ids : IdsGrow old.ids new.ids

-- a record comes to one owner
abbrev pub OwnersAdd : (owner host : ℕ) → List ℕ → (weight : ℕ) → Link → IndexSeen → IndexSeen → Type 0
OwnersAdd owner host tag weight link old new = (o : ℕ) → OwnerAddsIf (nat_eq owner o) host tag weight link (owner_in old o) (owner_in new o)

-- ---- a status

-- the tags stand in rising order
abbrev pub AreRising : TagsSeen → Type 0
AreRising tags = IsStrictlySortedBy (λ a b. slice_cmp nat_cmp a.items b.items) (keys_of tags)

-- what a status tells of a chain of this length: nothing where it is empty
abbrev pub count_of : ℕ → List ℕ → ℕ → List ChainCount
count_of host tag zero = []
count_of host tag (suc n) = record { host = host; tag = tag; count = suc n } ∷ []

abbrev pub counts_in : ℕ → TagsSeen → List ChainCount
counts_in host [] = []
counts_in host (e ∷ tags) = count_of host e.0.items (length e.1.links) ++ counts_in host tags

abbrev pub counts_of_hosts : HostsSeen → List ChainCount
counts_of_hosts [] = []
counts_of_hosts (e ∷ hosts) = counts_in e.0 e.1 ++ counts_of_hosts hosts

-- a list in order of host, then tag, that lists no empty chain and tells the length of each
pub record IsStatusOf (owner : OwnerSeen) (counts : List ChainCount) : Type 0 where
  pub ascends : Ascends (map (λ listed. record { host = listed.host; tag = listed.tag }) counts)
  pub positive : All (λ listed. 0 < listed.count) counts
  pub tells : (host : ℕ) (tag : List ℕ) → count_at counts host tag ≡ length (chain_of_owner owner host tag).links
