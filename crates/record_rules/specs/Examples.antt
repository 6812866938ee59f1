-- Worked examples: what the definitions give at small journals, with the numbers written out.
use Rattle.std.specs.Prelude.{true, false, ◌≡◌, ◌≢◌, ◌++◌, ℕ, zero, suc, ◌+◌, List, [], ◌∷◌, length, map, replicate, sum_by, codes, Option, Some, None, Ok, Err}
use Rattle.definitions.specs.Journal.{StartedRecord}
use Rattle.definitions.specs.Examples.{ls}
use Rattle.definitions.specs.Pages.{IsLongestWithin}
use Rattle.record_rules.specs.Records.{SealedRecord, Caller, Entry, Event, Started, Local, Taken, record_weight, page_weight, event_weight}
use Rattle.record_rules.specs.Journal.{chain, ChainPlace, Ascends, own_events, records_of, places_of, places_added, status, held, first_limit_passed, running, StartedFits, RecordFits, EventFits, Sound}
use Rattle.definitions.specs.Prefixes.{IsPrefix}
use Rattle.record_rules.specs.Growth.{holder, is_fresh, too_long_at, owned_with, PageTooLong, PageForked, PageGap, PageFull, taken_entry, GoOn, grow}
use Rattle.record_rules.specs.Answers.{page, AskStatus, AskPage, SendPage, StatusIs, PageIs, PageAdded, PageRefused, replies}

-- ---- the records and entries of the examples

abbrev pub caller : Caller
caller = record { number = 1; call = 1; settled_for = 0 }

-- a record of host 2 with the tag `kv` and no sealed text: it weighs 132
abbrev pub kv_record : (idx id : ℕ) → SealedRecord
kv_record idx id = record { id = id; idx = idx; host = 2; host_name = []; timestamp = 0; version = codes "v0"; tag = codes "kv"; sealed = []; wrapped = [] }

-- a record of this host with this tag
abbrev pub placed_record : (host : ℕ) (tag : List ℕ) (idx id : ℕ) → SealedRecord
placed_record host tag idx id = record { id = id; idx = idx; host = host; host_name = []; timestamp = 0; version = codes "v0"; tag = tag; sealed = []; wrapped = [] }

-- so many records of one chain from this idx on, whose ids are their idx and 1000 more
abbrev pub kv_page : (count idx : ℕ) → List SealedRecord
kv_page zero idx = []
kv_page (suc count) idx = kv_record idx (idx + 1000) ∷ kv_page count (idx + 1)

-- a command that was started with this id
abbrev pub started_ls : ℕ → StartedRecord
started_ls id = record ls { id = id; timestamp = 0 }

abbrev pub entry_of : Event → Entry
entry_of event = record { caller = caller; event = event }

-- `ls`, begun at 1,700,000,000 s by the first call of pass 1
abbrev pub ls_entry : Entry
ls_entry = entry_of (Started ls)

-- a record of host 1 that this store made
abbrev pub local_entry : (closes : Option ℕ) (idx id : ℕ) → Entry
local_entry closes idx id = entry_of (Local closes (placed_record 1 (codes "history") idx id))

-- ---- weights and totals

pub record WorkedTotals : Type 0 where
  -- a record with no host name, a version of 2, a tag of 7, a sealed text of 231 and a wrapped one of 216 bytes
  pub sealed_command : record_weight (record { id = 1; idx = 0; host = 1; host_name = []; timestamp = 0; version = codes "v0"; tag = codes "history"; sealed = replicate 231 0; wrapped = replicate 216 0 }) ≡ 584
  -- the same with a host name of 5 bytes
  pub with_host_name : record_weight (record { id = 1; idx = 0; host = 1; host_name = codes "name1"; timestamp = 0; version = codes "v0"; tag = codes "history"; sealed = replicate 231 0; wrapped = replicate 216 0 }) ≡ 589
  -- started commands count, and a place once
  pub of_owner_0 : held (entry_of (Started (started_ls 7)) ∷ local_entry (Some 7) 0 11 ∷ local_entry None 1 12 ∷ []) 0 ≡ record { entries = 3; weight = 410; places = 1 }
  pub of_owner_5 : held (entry_of (Started (started_ls 7)) ∷ map (taken_entry caller 5) (kv_page 2 0)) 5 ≡ record { entries = 2; weight = 264; places = 1 }
  -- at 4,000,000 entries, at a weight of 4,294,967,296, and at 4,096 places no more of each is let in
  pub entries_full : (journal : List Entry) (owner weight : ℕ) (place : Option ChainPlace) → length (own_events journal owner) ≡ 4000000 → first_limit_passed journal owner weight place ≡ Some (record { what = 1; held = 4000000 })
  pub weight_full : (journal : List Entry) (owner : ℕ) (place : Option ChainPlace) → length (own_events journal owner) ≡ 3999999 → sum_by event_weight (own_events journal owner) ≡ 4294967296 → first_limit_passed journal owner 1 place ≡ Some (record { what = 2; held = 4294967296 })
  pub places_full : (journal : List Entry) (owner : ℕ) (place : ChainPlace) → length (own_events journal owner) ≡ 3999999 → sum_by event_weight (own_events journal owner) ≡ 4294967168 → length (places_of (records_of (own_events journal owner))) ≡ 4096 → places_added (own_events journal owner) (Some place) ≡ 1 → first_limit_passed journal owner 128 (Some place) ≡ Some (record { what = 3; held = 4096 })
  pub just_fits : (journal : List Entry) (owner : ℕ) (place : ChainPlace) → length (own_events journal owner) ≡ 3999999 → sum_by event_weight (own_events journal owner) ≡ 4294967168 → length (places_of (records_of (own_events journal owner))) ≡ 4095 → places_added (own_events journal owner) (Some place) ≡ 1 → first_limit_passed journal owner 128 (Some place) ≡ None

-- texts and weights at their limits, and one byte above
pub record WorkedLimits : Type 0 where
  pub started_at_most : (s : StartedRecord) → length s.command ≡ 262144 → length s.cwd ≡ 4096 → length s.session ≡ 4096 → length s.hostname ≡ 4096 → StartedFits s
  pub command_above : (s : StartedRecord) → length s.command ≡ 262145 → EventFits (Started s) → ⊥
  pub cwd_above : (s : StartedRecord) → length s.cwd ≡ 4097 → EventFits (Started s) → ⊥
  pub session_above : (s : StartedRecord) → length s.session ≡ 4097 → EventFits (Started s) → ⊥
  pub hostname_above : (s : StartedRecord) → length s.hostname ≡ 4097 → EventFits (Started s) → ⊥
  pub record_at_most : (r : SealedRecord) → length r.host_name ≡ 4096 → length r.version ≡ 256 → length r.tag ≡ 256 → record_weight r ≡ 4194304 → RecordFits r
  pub host_name_above : (r : SealedRecord) → length r.host_name ≡ 4097 → EventFits (Local None r) → ⊥
  pub version_above : (r : SealedRecord) → length r.version ≡ 257 → EventFits (Taken 5 r) → ⊥
  pub tag_above : (r : SealedRecord) → length r.tag ≡ 257 → EventFits (Taken 5 r) → ⊥
  pub weight_above : (r : SealedRecord) → record_weight r ≡ 4194305 → EventFits (Local None r) → ⊥
  -- the 100th record of a page, with which it weighs as much as it may
  pub page_at_most : (earlier : List SealedRecord) (r : SealedRecord) → length earlier ≡ 99 → page_weight (earlier ++ r ∷ []) ≡ 4194304 → length r.host_name ≡ 4096 → length r.version ≡ 256 → length r.tag ≡ 256 → too_long_at earlier r ≡ None
  pub page_above : (earlier : List SealedRecord) (r : SealedRecord) → length earlier ≡ 99 → page_weight (earlier ++ r ∷ []) ≡ 4194305 → too_long_at earlier r ≡ Some (PageTooLong 99 4194305)

-- ---- status and pages

pub record WorkedStatus : Type 0 where
  -- by host, then tag, whatever the order of arrival
  pub in_order : status (map (taken_entry caller 5) (placed_record 3 (codes "history") 0 1 ∷ placed_record 2 (codes "kv") 0 2 ∷ placed_record 2 (codes "history") 0 3 ∷ placed_record 2 (codes "kv") 1 4 ∷ [])) 5 ≡ record { host = 2; tag = codes "history"; count = 1 } ∷ record { host = 2; tag = codes "kv"; count = 2 } ∷ record { host = 3; tag = codes "history"; count = 1 } ∷ []
  -- a new owner has none
  pub of_none : status (map (taken_entry caller 5) (kv_page 2 0)) 6 ≡ []
  -- from idx 1, at most 2 records
  pub two_from_one : page (map (taken_entry caller 5) (kv_page 4 0)) 5 2 (codes "kv") 1 2 ≡ kv_page 2 1
  pub past_the_end : page (map (taken_entry caller 5) (kv_page 4 0)) 5 2 (codes "kv") 4 2 ≡ []
  -- places that rise by host, then tag; one twice and two that fall don't
  pub rises : Ascends (record { host = 2; tag = codes "history" } ∷ record { host = 2; tag = codes "kv" } ∷ record { host = 3; tag = codes "history" } ∷ [])
  pub twice : Ascends (record { host = 2; tag = codes "kv" } ∷ record { host = 2; tag = codes "kv" } ∷ []) → ⊥
  pub falls : Ascends (record { host = 2; tag = codes "kv" } ∷ record { host = 2; tag = codes "history" } ∷ []) → ⊥

-- ---- what runs

pub record WorkedRunning : Type 0 where
  pub begun : running (entry_of (Started (started_ls 7)) ∷ []) ≡ started_ls 7 ∷ []
  pub ended : running (entry_of (Started (started_ls 7)) ∷ local_entry (Some 7) 0 11 ∷ []) ≡ []
  -- an end that came before closes nothing, and neither does a record of another kind or owner
  pub ended_before : running (local_entry (Some 7) 0 11 ∷ entry_of (Started (started_ls 7)) ∷ local_entry None 1 12 ∷ entry_of (Taken 0 (kv_record 0 7)) ∷ []) ≡ started_ls 7 ∷ []

-- ---- pages that are taken and refused

pub record WorkedPages : Type 0 where
  -- a page of idx 0 to 9 for owner 5 adds 10 records, and none when it comes again
  pub first_time : grow [] caller 5 (kv_page 10 0) ≡ Ok (map (taken_entry caller 5) (kv_page 10 0))
  pub second_time : grow (map (taken_entry caller 5) (kv_page 10 0)) caller 5 (kv_page 10 0) ≡ Ok []
  -- a page that goes on adds what is new
  pub overlapping : grow (map (taken_entry caller 5) (kv_page 3 0)) caller 5 (kv_page 4 1) ≡ Ok (map (taken_entry caller 5) (kv_page 2 3))
  -- a page that begins with idx 11, where 10 would come next
  pub gap : grow (map (taken_entry caller 5) (kv_page 10 0)) caller 5 (kv_page 2 11) ≡ Err (PageGap 0 10)
  pub gap_within : grow [] caller 5 (kv_record 0 1000 ∷ kv_record 2 1002 ∷ []) ≡ Err (PageGap 1 1)
  -- idx 9 with another id
  pub fork : grow (map (taken_entry caller 5) (kv_page 10 0)) caller 5 (kv_record 9 4 ∷ []) ≡ Err (PageForked 0 1009)
  pub fork_within : grow [] caller 5 (kv_record 0 1000 ∷ kv_record 0 1001 ∷ []) ≡ Err (PageForked 1 1000)
  -- one record twice in a page is added once
  pub twice_within : grow [] caller 5 (kv_record 0 1000 ∷ kv_record 0 1000 ∷ []) ≡ Ok (taken_entry caller 5 (kv_record 0 1000) ∷ [])
  -- a tag of 257 bytes, at the weight of the page up to there
  pub long_tag : grow [] caller 5 (kv_record 0 1000 ∷ placed_record 2 (replicate 257 0) 0 1 ∷ []) ≡ Err (PageTooLong 1 519)
  -- a version of 257 bytes, a host name of 4,097, and a tag of 256, which is taken
  pub long_version : grow [] caller 5 (record (kv_record 0 1) { version = replicate 257 0 } ∷ []) ≡ Err (PageTooLong 0 387)
  pub long_host_name : grow [] caller 5 (record (kv_record 0 1) { host_name = replicate 4097 0 } ∷ []) ≡ Err (PageTooLong 0 4229)
  pub full_tag : grow [] caller 5 (placed_record 2 (replicate 256 0) 0 1 ∷ []) ≡ Ok (taken_entry caller 5 (placed_record 2 (replicate 256 0) 0 1) ∷ [])
  -- the first position that has a cause decides: a gap before a tag too long
  pub least_position : grow [] caller 5 (kv_record 1 1001 ∷ placed_record 2 (replicate 257 0) 0 1 ∷ []) ≡ Err (PageGap 0 0)
  -- the records of another owner at the same host, tag and idx are no fork
  pub other_owner : grow (map (taken_entry caller 5) (kv_page 2 0)) caller 6 (kv_record 0 4 ∷ []) ≡ Ok (taken_entry caller 6 (kv_record 0 4) ∷ [])
  -- of two records at one place the first counts, and one of the next idx is at another
  pub first_held : holder (kv_record 0 1000 ∷ kv_record 0 1001 ∷ []) (kv_record 0 4) ≡ Some (kv_record 0 1000)
  pub none_held : holder (kv_record 0 1000 ∷ []) (kv_record 1 1000) ≡ None
  -- where a record is held at its place it isn't fresh, whatever its id, and behind that one it is
  pub place_taken : is_fresh (kv_record 0 1000 ∷ []) (kv_record 0 4) ≡ false
  pub place_free : is_fresh (kv_record 0 1000 ∷ []) (kv_record 1 1000) ≡ true
  -- of a page that goes on, only what is new weighs on its owner
  pub held_with : owned_with 5 (Taken 5 (kv_record 0 1000) ∷ []) (kv_page 2 0) ≡ Taken 5 (kv_record 0 1000) ∷ Taken 5 (kv_record 1 1001) ∷ []

-- ---- prefixes

-- three records that go on in one chain, and prefixes of them
pub record WorkedPrefixes : Type 0 where
  pub goes_on : GoOn 2 (codes "kv") 3 (kv_page 3 3)
  pub from_another : GoOn 2 (codes "kv") 2 (kv_page 3 3) → ⊥
  pub other_host : GoOn 1 (codes "kv") 3 (kv_page 3 3) → ⊥
  pub other_tag : GoOn 2 (codes "history") 3 (kv_page 3 3) → ⊥
  pub leaves_one : GoOn 2 (codes "kv") 3 (kv_record 3 1003 ∷ kv_record 5 1005 ∷ []) → ⊥
  -- two of three are a prefix, three of two aren't, and neither is what begins later
  pub prefix : IsPrefix (kv_page 2 0) (kv_page 3 0)
  pub whole : IsPrefix (kv_page 3 0) (kv_page 3 0)
  pub longer : IsPrefix (kv_page 3 0) (kv_page 2 0) → ⊥
  pub later : IsPrefix (kv_page 1 1) (kv_page 3 0) → ⊥
  -- each weighs 132: within 264 are two, and within a byte less one; all where there is room for more
  pub two : IsLongestWithin record_weight 264 (kv_page 3 0) (kv_page 2 0)
  pub one : IsLongestWithin record_weight 263 (kv_page 3 0) (kv_page 1 0)
  pub all : IsLongestWithin record_weight 1000 (kv_page 3 0) (kv_page 3 0)
  pub not_longest : IsLongestWithin record_weight 264 (kv_page 3 0) (kv_page 1 0) → ⊥
  pub too_heavy : IsLongestWithin record_weight 263 (kv_page 3 0) (kv_page 2 0) → ⊥
  pub no_prefix : IsLongestWithin record_weight 264 (kv_page 3 0) (kv_page 2 1) → ⊥

-- a page of idx 0 to 99 for owner 5, and what comes behind it
pub record WorkedHundred : Type 0 where
  -- it adds 100 records, and none when it comes again
  pub first_time : grow [] caller 5 (kv_page 100 0) ≡ Ok (map (taken_entry caller 5) (kv_page 100 0))
  pub second_time : grow (map (taken_entry caller 5) (kv_page 100 0)) caller 5 (kv_page 100 0) ≡ Ok []
  -- then a page that begins with idx 101 is a gap where 100 is wanted, and idx 99 with another id is a fork from the one held
  pub gap : grow (map (taken_entry caller 5) (kv_page 100 0)) caller 5 (kv_page 2 101) ≡ Err (PageGap 0 100)
  pub fork : grow (map (taken_entry caller 5) (kv_page 100 0)) caller 5 (kv_record 99 4 ∷ []) ≡ Err (PageForked 0 1099)
  -- 101 records are too long at position 100, with the weight of all
  pub too_long : grow [] caller 5 (kv_page 100 0 ++ kv_record 100 1100 ∷ []) ≡ Err (PageTooLong 100 13332)

-- an owner with 4,000,000 entries: the next record of a chain finds it full, and any other fresh record is a gap
pub record WorkedFull : Type 0 where
  pub full : (journal : List Entry) (owner : ℕ) (r : SealedRecord) → length (own_events journal owner) ≡ 4000000 → too_long_at [] r ≡ None → is_fresh (records_of (own_events journal owner)) r ≡ true → r.idx ≡ length (chain journal owner r.host r.tag) → grow journal caller owner (r ∷ []) ≡ Err (PageFull (record { what = 1; held = 4000000 }))
  pub gap : (journal : List Entry) (owner : ℕ) (r : SealedRecord) → length (own_events journal owner) ≡ 4000000 → too_long_at [] r ≡ None → is_fresh (records_of (own_events journal owner)) r ≡ true → r.idx ≢ length (chain journal owner r.host r.tag) → grow journal caller owner (r ∷ []) ≡ Err (PageGap 0 (length (chain journal owner r.host r.tag)))

-- ---- what is not sound

pub record WorkedUnsound : Type 0 where
  -- a chain that begins with idx 1, and one with idx 0 twice
  pub begins_late : Sound (map (taken_entry caller 5) (kv_page 1 1)) 1 → ⊥
  pub idx_twice : Sound (map (taken_entry caller 5) (kv_record 0 1000 ∷ kv_record 0 1001 ∷ [])) 1 → ⊥
  -- a record made here with another host
  pub other_host : Sound (local_entry None 0 11 ∷ []) 2 → ⊥
  -- an end without a start, one while another command runs, a second end, and an end before its start
  pub never_begun : Sound (local_entry (Some 7) 0 11 ∷ []) 1 → ⊥
  pub other_begun : Sound (entry_of (Started (started_ls 7)) ∷ local_entry (Some 8) 0 11 ∷ []) 1 → ⊥
  pub ended_twice : Sound (entry_of (Started (started_ls 7)) ∷ local_entry (Some 7) 0 11 ∷ local_entry (Some 7) 1 12 ∷ []) 1 → ⊥
  pub ended_before : Sound (local_entry (Some 7) 0 11 ∷ entry_of (Started (started_ls 7)) ∷ []) 1 → ⊥
  -- two starts with one id, at once or after an end
  pub begun_at_once : Sound (entry_of (Started (started_ls 7)) ∷ entry_of (Started (started_ls 7)) ∷ []) 1 → ⊥
  pub begun_twice : Sound (entry_of (Started (started_ls 7)) ∷ local_entry (Some 7) 0 11 ∷ entry_of (Started (started_ls 7)) ∷ []) 1 → ⊥
  -- a tag of 257 bytes
  pub long_tag : Sound (entry_of (Taken 5 (placed_record 2 (replicate 257 0) 0 1)) ∷ []) 1 → ⊥
  -- an owner with an entry more than its limit
  pub too_many : (journal : List Entry) → length (own_events journal 5) ≡ 4000001 → Sound journal 1 → ⊥

-- ---- what is sound

pub record WorkedSound : Type 0 where
  -- a command that was started and ended, and the chains of two owners at one host and tag
  pub of_three_owners : Sound (entry_of (Started (started_ls 7)) ∷ local_entry (Some 7) 0 11 ∷ entry_of (Taken 5 (kv_record 0 1000)) ∷ entry_of (Taken 6 (kv_record 0 1001)) ∷ entry_of (Taken 5 (kv_record 1 1002)) ∷ []) 1

-- ---- two owners

pub record WorkedOwners : Type 0 where
  -- at one host and tag each sees its own chain alone, a page that comes again adds nothing, and one of idx 2 is a gap where 1 is wanted
  pub each_alone : replies [] (record { owner = 5; request = SendPage caller (kv_page 2 0) } ∷ record { owner = 6; request = SendPage caller (kv_record 0 4 ∷ []) } ∷ record { owner = 6; request = AskPage 2 (codes "kv") 0 100 } ∷ record { owner = 5; request = AskStatus } ∷ record { owner = 5; request = SendPage caller (kv_page 2 0) } ∷ record { owner = 6; request = SendPage caller (kv_record 2 9 ∷ []) } ∷ [])
      ≡ record { owner = 5; reply = PageAdded 2 } ∷ record { owner = 6; reply = PageAdded 1 } ∷ record { owner = 6; reply = PageIs (kv_record 0 4 ∷ []) } ∷ record { owner = 5; reply = StatusIs (record { host = 2; tag = codes "kv"; count = 2 } ∷ []) } ∷ record { owner = 5; reply = PageAdded 0 } ∷ record { owner = 6; reply = PageRefused (PageGap 0 1) } ∷ []
