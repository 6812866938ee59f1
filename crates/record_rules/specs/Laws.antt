-- The laws of the journal, of growth and of answers, as statements. Each is the contract of the function of its name.
use Rattle.std.specs.Prelude.{◌≡◌, ◌≢◌, ℕ, ◌+◌, ◌<◌, ◌≤◌, ◌⊎◌, ◌↔◌, ◌&&◌, not, true, List, [], ◌∷◌, ◌++◌, length, map, filter, take, drop, min, All, None, Ok, Err, if◌then◌else◌}
use Rattle.definitions.specs.Limits.{most_page_records, most_page_weight}
use Rattle.definitions.specs.Pages.{IsLongestWithin}
use Rattle.record_rules.specs.Records.{SealedRecord, Caller, Entry, Event, Taken, record_weight, page_weight}
use Rattle.record_rules.specs.Journal.{own, own_events, records_of, in_place, chain, IsNumbered, ChainCount, TotalsFit, held_of, held, running, Ascends, status, count_at, SoundEvents, Sound, MayComeNext, MayFollow}
use Rattle.record_rules.specs.OneMore.{own_with, chain_with, running_with, held_with}
use Rattle.definitions.specs.Prefixes.{IsPrefix}
use Rattle.record_rules.specs.Deciding.{may_come, may_all_come}
use Rattle.record_rules.specs.Growth.{PageRefusal, PageTooLong, PageForked, same_place, is_fresh, IsHeld, GoOn, taken_entry, fresh_of, wanted_idx, first_too_long, batch_or, grow, grown}
use Rattle.record_rules.specs.InTurn.{nothing_taken, take_records, batch_of}
use Rattle.record_rules.specs.Answers.{page, OwnerRequest, reply_to, OwnerAsked, replies, asked_by, told_to}

-- a journal without entries is sound
abbrev pub EmptyIsSound : Type 0
EmptyIsSound = (host : ℕ) → Sound [] host

-- an entry that may follow a sound journal leaves it sound
abbrev pub EntryKeepsSound : Type 0
EntryKeepsSound = (journal : List Entry) (host : ℕ) (entry : Entry) → Sound journal host → MayFollow journal host entry.event → Sound (journal ++ entry ∷ []) host

-- and only such an entry does: a sound journal is sound without its last entry, which may follow
abbrev pub SoundEntryFollows : Type 0
SoundEntryFollows = (journal : List Entry) (host : ℕ) (entry : Entry) → Sound (journal ++ entry ∷ []) host → Sound journal host × MayFollow journal host entry.event

-- the prefix of a sound journal is sound
abbrev pub PrefixIsSound : Type 0
PrefixIsSound = (journal more : List Entry) (host : ℕ) → Sound (journal ++ more) host → Sound journal host

-- a status tells the length of each chain, and lists no empty one
abbrev pub StatusTellsLengths : Type 0
StatusTellsLengths = (journal : List Entry) (owner host : ℕ) (tag : List ℕ) → count_at (status journal owner) host tag ≡ length (chain journal owner host tag)

abbrev pub StatusListsNoEmpty : Type 0
StatusListsNoEmpty = (journal : List Entry) (owner : ℕ) → All (λ listed. 0 < listed.count) (status journal owner)

-- a status is in order of host, then tag, and no place comes twice
abbrev pub StatusAscends : Type 0
StatusAscends = (journal : List Entry) (owner : ℕ) → Ascends (map (λ listed. record { host = listed.host; tag = listed.tag }) (status journal owner))

-- owners whose chains are as long have one status
abbrev pub LengthsMakeStatus : Type 0
LengthsMakeStatus = (journal other : List Entry) (owner whose : ℕ) → ((host : ℕ) (tag : List ℕ) → length (chain journal owner host tag) ≡ length (chain other whose host tag)) → status journal owner ≡ status other whose

-- and those lengths alone make it: a list in that order, without an empty chain, that tells each length is the status
abbrev pub StatusIsDetermined : Type 0
StatusIsDetermined = (journal : List Entry) (owner : ℕ) (counts : List ChainCount) → Ascends (map (λ listed. record { host = listed.host; tag = listed.tag }) counts) → All (λ listed. 0 < listed.count) counts
    → ((host : ℕ) (tag : List ℕ) → count_at counts host tag ≡ length (chain journal owner host tag)) → counts ≡ status journal owner

-- ---- one more entry, and one more record of a page

-- what an owner holds behind one more entry
abbrev pub OwnWithOne : Type 0
OwnWithOne = (journal : List Entry) (entry : Entry) (owner : ℕ) → own_events (journal ++ entry ∷ []) owner ≡ own_with owner (own_events journal owner) entry.event

-- each chain
abbrev pub ChainWithOne : Type 0
ChainWithOne = (journal : List Entry) (entry : Entry) (owner host : ℕ) (tag : List ℕ) → chain (journal ++ entry ∷ []) owner host tag ≡ chain_with owner host tag (chain journal owner host tag) entry.event

-- what runs
abbrev pub RunningWithOne : Type 0
RunningWithOne = (journal : List Entry) (entry : Entry) → running (journal ++ entry ∷ []) ≡ running_with (running journal) entry.event

-- what counts against an owner's limits
abbrev pub HeldWithOne : Type 0
HeldWithOne = (journal : List Entry) (entry : Entry) (owner : ℕ) → held (journal ++ entry ∷ []) owner ≡ held_with owner (own_events journal owner) entry.event

-- what a status tells of each place
abbrev pub CountWithOne : Type 0
CountWithOne = (journal : List Entry) (entry : Entry) (owner host : ℕ) (tag : List ℕ) → count_at (status (journal ++ entry ∷ []) owner) host tag ≡ length (chain_with owner host tag (chain journal owner host tag) entry.event)

-- which records are fresh beside one more
abbrev pub FreshWithOne : Type 0
FreshWithOne = (records : List SealedRecord) (r other : SealedRecord) → is_fresh (records ++ r ∷ []) other ≡ (is_fresh records other && not (same_place other r))

-- the fresh records of a page with one more
abbrev pub FreshOfWithOne : Type 0
FreshOfWithOne = (records page : List SealedRecord) (r : SealedRecord) → fresh_of records (page ++ r ∷ []) ≡ (if is_fresh (records ++ page) r then fresh_of records page ++ r ∷ [] else fresh_of records page)

-- and the idx that is wanted next, which each fresh record of the chain raises
abbrev pub WantedWithOne : Type 0
WantedWithOne = (owned : List Event) (page : List SealedRecord) (r next : SealedRecord)
    → wanted_idx owned (page ++ r ∷ []) next ≡ (if is_fresh (records_of owned ++ page) r && in_place next.host next.tag r then wanted_idx owned page next + 1 else wanted_idx owned page next)

-- a page taken record by record is the growth that is told of it as a whole
abbrev pub GrowthIsInTurn : Type 0
GrowthIsInTurn = (journal : List Entry) (caller : Caller) (owner : ℕ) (records : List SealedRecord) → batch_of caller owner (take_records owner (own_events journal owner) nothing_taken records) ≡ grow journal caller owner records

-- ---- what computing tells

-- an event may be the next one exactly where computing says so
abbrev pub MayComeIsTold : Type 0
MayComeIsTold = (events : List Event) (host : ℕ) (event : Event) → (may_come events host event ≡ true) ↔ MayComeNext events host event

-- and events may come next, one behind the other, exactly where all are sound then
abbrev pub SoundIsTold : Type 0
SoundIsTold = (before : List Event) (host : ℕ) (events : List Event) → SoundEvents before host → (may_all_come before host events ≡ true) ↔ SoundEvents (before ++ events) host

-- ---- pages

-- a page is the longest prefix within its weight of the next records, at most `count` and at most 100 of them
abbrev pub PageIsLongest : Type 0
PageIsLongest = (journal : List Entry) (owner host : ℕ) (tag : List ℕ) (start count : ℕ) → IsLongestWithin record_weight most_page_weight (take (min count most_page_records) (drop start (chain journal owner host tag))) (page journal owner host tag start count)

-- a page leaves a sound journal sound, whether it is taken or refused
abbrev pub GrowthKeepsSound : Type 0
GrowthKeepsSound = (journal : List Entry) (host : ℕ) (caller : Caller) (owner : ℕ) (records : List SealedRecord) → Sound journal host → Sound (grown journal (grow journal caller owner records)) host

-- a refused page leaves the journal as it was
abbrev pub RefusalLeavesAll : Type 0
RefusalLeavesAll = (journal : List Entry) (caller : Caller) (owner : ℕ) (records : List SealedRecord) (refusal : PageRefusal) → grow journal caller owner records ≡ Err refusal → grown journal (grow journal caller owner records) ≡ journal

-- a page that is taken has at most 100 records and at most the weight of a page
abbrev pub TakenPageFits : Type 0
TakenPageFits = (journal : List Entry) (caller : Caller) (owner : ℕ) (records : List SealedRecord) (batch : List Entry) → grow journal caller owner records ≡ Ok batch → (length records ≤ most_page_records) × (page_weight records ≤ most_page_weight)

-- the next records of a chain are taken whole where a page may be so long and heavy and the owner has room for them
abbrev pub NextPageIsTaken : Type 0
NextPageIsTaken = (journal : List Entry) (caller : Caller) (owner host : ℕ) (tag : List ℕ) (records : List SealedRecord) → IsNumbered (chain journal owner host tag) → GoOn host tag (length (chain journal owner host tag)) records → first_too_long [] records ≡ None → TotalsFit (held_of (own_events journal owner ++ map (Taken owner) records)) → grow journal caller owner records ≡ Ok (map (taken_entry caller owner) records)

-- a page that goes on behind 100 records that would be taken is too long at position 100
abbrev pub RecordsPastHundred : Type 0
RecordsPastHundred = (journal : List Entry) (caller : Caller) (owner : ℕ) (records more : List SealedRecord) (r : SealedRecord) (batch : List Entry) → grow journal caller owner records ≡ Ok batch → length records ≡ most_page_records → grow journal caller owner (records ++ r ∷ more) ≡ Err (PageTooLong most_page_records (page_weight (records ++ r ∷ [])))

-- a page that is taken puts its fresh records behind the owner's chains, in order
abbrev pub GrowthExtendsChains : Type 0
GrowthExtendsChains = (journal : List Entry) (caller : Caller) (owner host : ℕ) (tag : List ℕ) (records : List SealedRecord) (batch : List Entry) → grow journal caller owner records ≡ Ok batch → chain (journal ++ batch) owner host tag ≡ chain journal owner host tag ++ filter (in_place host tag) (fresh_of (records_of (own_events journal owner)) records)

-- and leaves what everyone else holds
abbrev pub GrowthLeavesOthers : Type 0
GrowthLeavesOthers = (journal : List Entry) (caller : Caller) (owner other : ℕ) (records : List SealedRecord) → owner ≢ other → own_events (grown journal (grow journal caller owner records)) other ≡ own_events journal other

-- after a page was taken each of its records stands
abbrev pub GrowthHoldsPage : Type 0
GrowthHoldsPage = (journal : List Entry) (caller : Caller) (owner : ℕ) (records : List SealedRecord) (batch : List Entry) → grow journal caller owner records ≡ Ok batch → All (IsHeld (records_of (own_events (journal ++ batch) owner))) records

-- a page that was taken is taken again and adds nothing, in whoever's call
abbrev pub RepeatAddsNothing : Type 0
RepeatAddsNothing = (journal : List Entry) (first again : Caller) (owner : ℕ) (records : List SealedRecord) (batch : List Entry) → grow journal first owner records ≡ Ok batch → grow (journal ++ batch) again owner records ≡ Ok []

-- a page whose records all stand adds nothing, and only its own length, weight and texts can refuse it
abbrev pub StandingAddsNothing : Type 0
StandingAddsNothing = (journal : List Entry) (caller : Caller) (owner : ℕ) (records : List SealedRecord) → All (IsHeld (records_of (own_events journal owner))) records → grow journal caller owner records ≡ batch_or [] (first_too_long [] records)

-- an owner is told the same at two journals in which it holds the same
abbrev pub RepliesAlike : Type 0
RepliesAlike = (owner : ℕ) (request : OwnerRequest) (journal like : List Entry) → own_events journal owner ≡ own_events like owner → reply_to journal owner request ≡ reply_to like owner request

-- among the requests of all owners each owner is told what its requests alone are told, at any journal in which it holds the same
abbrev pub RepliesAlone : Type 0
RepliesAlone = (owner : ℕ) (requests : List OwnerAsked) (journal like : List Entry) → own_events journal owner ≡ own_events like owner → told_to owner (replies journal requests) ≡ replies like (asked_by owner requests)

-- and what they alone would be told in a journal in which no one else has an entry
abbrev pub RepliesAsAlone : Type 0
RepliesAsAlone = (owner : ℕ) (requests : List OwnerAsked) (journal : List Entry) → told_to owner (replies journal requests) ≡ replies (own journal owner) (asked_by owner requests)

-- In what follows `origin` is a whole chain of one host and tag, of which the owner's chain is a prefix, and the page is any slice of it.

-- such a page is never refused as a fork
abbrev pub SliceNeverForks : Type 0
SliceNeverForks = (journal : List Entry) (caller : Caller) (owner host : ℕ) (tag : List ℕ) (origin : List SealedRecord) (start count position id : ℕ) → GoOn host tag 0 origin → IsPrefix (chain journal owner host tag) origin → grow journal caller owner (take count (drop start origin)) ≡ Err (PageForked position id) → ⊥

-- and where it is taken, the owner's chain is still a prefix of the origin
abbrev pub SliceKeepsPrefix : Type 0
SliceKeepsPrefix = (journal : List Entry) (of_host : ℕ) (caller : Caller) (owner host : ℕ) (tag : List ℕ) (origin : List SealedRecord) (start count : ℕ) (batch : List Entry) → Sound journal of_host → GoOn host tag 0 origin → IsPrefix (chain journal owner host tag) origin → grow journal caller owner (take count (drop start origin)) ≡ Ok batch → IsPrefix (chain (journal ++ batch) owner host tag) origin

-- and the owner's other chains stay as they were
abbrev pub SliceLeavesOtherChains : Type 0
SliceLeavesOtherChains = (journal : List Entry) (caller : Caller) (owner host : ℕ) (tag : List ℕ) (origin : List SealedRecord) (start count other_host : ℕ) (other_tag : List ℕ) (batch : List Entry) → GoOn host tag 0 origin → (host ≢ other_host) ⊎ (tag ≢ other_tag) → grow journal caller owner (take count (drop start origin)) ≡ Ok batch → chain (journal ++ batch) owner other_host other_tag ≡ chain journal owner other_host other_tag
