-- A rehearsal: a large run of a world that a seed tells whole, but for whose calls its pages come in.
use Rattle.std.specs.Prelude.{◌≡◌, ℕ, ◌+◌, ◌-◌, ◌*◌, ◌/◌, ◌%◌, ◌^◌, ◌<◌, ◌≤◌, pos, List, [], ◌∷◌, ◌++◌, codes, decimal, false, ◌⊎◌, None}
use Rattle.std.specs.List.{range_with_len}
use Rattle.std.specs.Int.{w64, to_be_bytes}
use Rattle.definitions.specs.Calls.{by_prefix}
use Rattle.definitions.specs.Journal.{HistoryRecord}
use Rattle.record_rules.specs.Journal.{PassedLimit}
use Rattle.view_rules.specs.Answers.{of_all, ScopedQuery, SearchAnswer}
use Rattle.step_rules.specs.Calls.{Call, start_call, end_call, delete_call, kv_set_call, alias_set_call, alias_delete_call}
use Rattle.step_rules.specs.Answers.{Refusal, full, Answer, began, stored, refused}
use Rattle.step_rules.specs.Store.{KeyedStore, shown_changes, HasAlias}
use Rattle.world_rules.specs.World.{World}
use Rattle.rehearsal_rules.specs.Words.{nth_word}
use Rattle.rehearsal_rules.specs.Transfers.{Each, Uploads, Downloads, Syncs, EachUntil, UploadsStop, DownloadsStop, SyncStops}
use Rattle.rehearsal_rules.specs.Moments.{Moment, first_moment, CallsAt}

-- ---- what the seed tells

-- the key of all stores: the seed's eight bytes, the high one first, four times
abbrev pub key_of : ℕ → List ℕ
key_of seed = to_be_bytes w64 seed ++ (to_be_bytes w64 seed ++ (to_be_bytes w64 seed ++ to_be_bytes w64 seed))

-- Hosts are counted from 0. A host's node and its id are one number more, so these are all of them.
abbrev pub hosts_of : ℕ → List ℕ
hosts_of count = range_with_len 1 count

-- ---- what a host does

-- a call at a host, with this answer
abbrev pub HostCalls : KeyedStore → (seed : ℕ) → Moment → (host : ℕ) → Call → Answer → Moment → Type 0
HostCalls store seed r host call answer after = CallsAt store seed r (host + 1) (host + 1) call answer after

-- a letter with a number behind it
abbrev pub numbered : List ℕ → ℕ → List ℕ
numbered letter number = letter ++ decimal number

abbrev pub start_of : (host a : ℕ) → Call
start_of host a = start_call (numbered (codes "c") a) (codes "/") (numbered (codes "s") host) (numbered (codes "h") host ++ codes ":u")

-- the first hit of a search for all
abbrev pub first_hit : ScopedQuery
first_hit = record { scope = of_all; unique = false; query = record { mode = by_prefix; text = []; offset = 0; limit = 1 } }

-- what the host's search answers, and whether the host has the alias
abbrev pub FindsFirst : KeyedStore → Moment → (host : ℕ) → List HistoryRecord → Type 0
FindsFirst store r host hits = SearchAnswer (shown_changes store (r.world.journal (host + 1))) first_hit hits

abbrev pub HasName : KeyedStore → Moment → (host : ℕ) → List ℕ → Type 0
HasName store r host name = HasAlias store (r.world.journal (host + 1)) name

-- What a host does in the event of this number, by the event's row, from 0 to 9, and a number a below 16. No call is refused.
pub data RunsEvent (store : KeyedStore) (seed : ℕ) (r : Moment) (number host row a : ℕ) (after : Moment) : Type 0 where
  -- a command starts and ends
  runs : (id idx : ℕ) (between : Moment) → row < 3 → HostCalls store seed r host (start_of host a) (began id) between → HostCalls store seed between host (end_call id (pos (1000 * a)) (pos 0) None) (stored idx) after → RunsEvent store seed r number host row a after
  -- the first hit is deleted, where there is one
  deletes : (hit : HistoryRecord) (idx : ℕ) → row ≡ 3 → FindsFirst store r host (hit ∷ []) → HostCalls store seed r host (delete_call hit.id) (stored idx) after → RunsEvent store seed r number host row a after
  finds_nothing : row ≡ 3 → FindsFirst store r host [] → after ≡ r → RunsEvent store seed r number host row a after
  sets_value : (idx : ℕ) → row ≡ 4 → HostCalls store seed r host (kv_set_call (codes "n") (numbered (codes "k") a) (numbered (codes "v") number)) (stored idx) after → RunsEvent store seed r number host row a after
  sets_alias : (idx : ℕ) → row ≡ 5 → HostCalls store seed r host (alias_set_call (numbered (codes "a") a) (numbered (codes "v") number)) (stored idx) after → RunsEvent store seed r number host row a after
  -- the alias is deleted, where there is one
  ends_alias : (idx : ℕ) → row ≡ 6 → HostCalls store seed r host (alias_delete_call (numbered (codes "a") a)) (stored idx) after → RunsEvent store seed r number host row a after
  lacks_alias : row ≡ 6 → (HasName store r host (numbered (codes "a") a) → ⊥) → after ≡ r → RunsEvent store seed r number host row a after
  syncs : (new : World) → (row ≡ 7) ⊎ (row ≡ 8) → Syncs (host + 1) r.world new → after ≡ record r { world = new } → RunsEvent store seed r number host row a after
  -- a crash leaves the journal, which is opened again
  crashes : row ≡ 9 → after ≡ r → RunsEvent store seed r number host row a after

-- A call of such an event is refused for this, or a page finds no room.
pub data StopsEvent (store : KeyedStore) (seed : ℕ) (r : Moment) (number host row a : ℕ) (refusal : Refusal) : Type 0 where
  start_stops : (after : Moment) → row < 3 → HostCalls store seed r host (start_of host a) (refused refusal) after → StopsEvent store seed r number host row a refusal
  end_stops : (id : ℕ) (between after : Moment) → row < 3 → HostCalls store seed r host (start_of host a) (began id) between → HostCalls store seed between host (end_call id (pos (1000 * a)) (pos 0) None) (refused refusal) after
      → StopsEvent store seed r number host row a refusal
  delete_stops : (hit : HistoryRecord) (after : Moment) → row ≡ 3 → FindsFirst store r host (hit ∷ []) → HostCalls store seed r host (delete_call hit.id) (refused refusal) after → StopsEvent store seed r number host row a refusal
  value_stops : (after : Moment) → row ≡ 4 → HostCalls store seed r host (kv_set_call (codes "n") (numbered (codes "k") a) (numbered (codes "v") number)) (refused refusal) after → StopsEvent store seed r number host row a refusal
  alias_stops : (after : Moment) → row ≡ 5 → HostCalls store seed r host (alias_set_call (numbered (codes "a") a) (numbered (codes "v") number)) (refused refusal) after → StopsEvent store seed r number host row a refusal
  alias_end_stops : (after : Moment) → row ≡ 6 → HasName store r host (numbered (codes "a") a) → HostCalls store seed r host (alias_delete_call (numbered (codes "a") a)) (refused refusal) after → StopsEvent store seed r number host row a refusal
  sync_stops : (passed : PassedLimit) → (row ≡ 7) ⊎ (row ≡ 8) → SyncStops (host + 1) passed r.world → refusal ≡ full passed → StopsEvent store seed r number host row a refusal

-- ---- the whole of it

-- whose turn the event of this number is, from 1, its row, and its number a, by the word of the seed's generator that is its own
abbrev pub host_of : (seed hosts number : ℕ) → ℕ
host_of seed hosts number = nth_word seed (number - 1) % hosts

abbrev pub row_of : (seed number : ℕ) → ℕ
row_of seed number = nth_word seed (number - 1) / 2 ^ 32 % 10

abbrev pub part_of : (seed number : ℕ) → ℕ
part_of seed number = nth_word seed (number - 1) / 2 ^ 40 % 16

-- the event of this number
abbrev pub RunsNumber : KeyedStore → (seed hosts number : ℕ) → Moment → Moment → Type 0
RunsNumber store seed hosts number r after = RunsEvent store seed r number (host_of seed hosts number) (row_of seed number) (part_of seed number) after

-- The world that so many events at so many hosts lead to, and then the last transfers: each host uploads in turn, then each downloads. What
-- the stores of a key seal and open is handed in.
pub record Rehearsed (keyed : List ℕ → KeyedStore) (seed hosts events : ℕ) (w : World) : Type 0 where
  pub played : Moment
  pub uploaded : World
  pub ran : Each (RunsNumber (keyed (key_of seed)) seed hosts) (range_with_len 1 events) first_moment played
  pub uploads : Each Uploads (hosts_of hosts) played.world uploaded
  pub downloads : Each Downloads (hosts_of hosts) uploaded w

-- ---- a rehearsal that stops

-- A call is refused for this in the event of this number, or a page finds no room in it. The last transfers have the number of one event more.
pub data RehearsalStops (keyed : List ℕ → KeyedStore) (seed hosts events number : ℕ) (refusal : Refusal) : Type 0 where
  event_stops : (before : Moment) → 1 ≤ number → number ≤ events → Each (RunsNumber (keyed (key_of seed)) seed hosts) (range_with_len 1 (number - 1)) first_moment before
      → StopsEvent (keyed (key_of seed)) seed before number (host_of seed hosts number) (row_of seed number) (part_of seed number) refusal → RehearsalStops keyed seed hosts events number refusal
  uploads_stop : (ran : Moment) (passed : PassedLimit) → number ≡ events + 1 → Each (RunsNumber (keyed (key_of seed)) seed hosts) (range_with_len 1 events) first_moment ran
      → EachUntil Uploads (λ node w. UploadsStop node passed w) (hosts_of hosts) ran.world → refusal ≡ full passed → RehearsalStops keyed seed hosts events number refusal
  downloads_stop : (ran : Moment) (uploaded : World) (passed : PassedLimit) → number ≡ events + 1 → Each (RunsNumber (keyed (key_of seed)) seed hosts) (range_with_len 1 events) first_moment ran
      → Each Uploads (hosts_of hosts) ran.world uploaded → EachUntil Downloads (λ node w. DownloadsStop node passed w) (hosts_of hosts) uploaded → refusal ≡ full passed → RehearsalStops keyed seed hosts events number refusal
