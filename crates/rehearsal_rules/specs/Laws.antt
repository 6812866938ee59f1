-- The laws of rehearsals, as statements. Each is the contract of the function that tells it.
use Rattle.std.specs.Prelude.{◌≡◌, ℕ, ◌+◌, ◌%◌, ◌^◌, ◌<◌, ◌≤◌, List, map, true}
use Rattle.std.specs.List.{range_with_len}
use Rattle.record_rules.specs.Journal.{chain, status}
use Rattle.view_rules.specs.Changes.{Opening, viewed, changes_of}
use Rattle.view_rules.specs.Laws.{SameViews}
use Rattle.step_rules.specs.Calls.{Call}
use Rattle.step_rules.specs.Store.{KeyedStore, SealsWell}
use Rattle.world_rules.specs.World.{World, WorldEvent, HostsDiffer, Reach}
use Rattle.world_rules.specs.Stores.{StoreAsked, store_step}
use Rattle.rehearsal_rules.specs.Words.{nth_word}
use Rattle.rehearsal_rules.specs.Transfers.{Each}
use Rattle.rehearsal_rules.specs.Moments.{Moment, first_moment}
use Rattle.rehearsal_rules.specs.Runs.{TakesPlace, IsBadEvent, RunsTo, told_event}
use Rattle.rehearsal_rules.specs.Rehearsal.{key_of, hosts_of, RunsNumber, Rehearsed}
use Rattle.rehearsal_rules.specs.Summary.{Summary, Summarizes, all_made}

-- A word is the first one of the next state, so the words are those of the recurrence.
abbrev pub WordsFollow : Type 0
WordsFollow = (state n : ℕ) → nth_word state (n + 1) ≡ nth_word ((state + 0x9e3779b97f4a7c15) % 2 ^ 64) n

-- ---- runs by a list of events

-- calls of stores, pages and crashes lead to where a run comes, event by event: so all that holds of such worlds holds of it
pub record RunLeads (store : KeyedStore) (hosts : List ℕ) (events : List (WorldEvent Call)) (w : World) : Type 0 where
  pub happened : List (WorldEvent StoreAsked)
  pub told : map told_event happened ≡ events
  pub reached : Reach (store_step store) hosts happened w

abbrev pub RunsAreReached : Type 0
RunsAreReached = (store : KeyedStore) (hosts : List ℕ) (events : List (WorldEvent Call)) (r : Moment) → RunsTo store hosts events r → RunLeads store hosts events r.world

-- no event that happens is bad
abbrev pub NoneIsBad : Type 0
NoneIsBad = (store : KeyedStore) (hosts : List ℕ) (r after : Moment) (event : WorldEvent Call) → TakesPlace store hosts event r after → IsBadEvent hosts r.world event → ⊥

-- ---- rehearsals

-- what holds of the world of each rehearsal with one host at least, whose stores seal well
abbrev pub InEachRehearsal : ((keyed : List ℕ → KeyedStore) → (seed hosts events : ℕ) → World → Type 0) → Type 0
InEachRehearsal P = (keyed : List ℕ → KeyedStore) (seed hosts events : ℕ) (w : World) → SealsWell (keyed (key_of seed)) → 0 < hosts → Rehearsed keyed seed hosts events w → P keyed seed hosts events w

-- no two nodes of a rehearsal have one host
abbrev pub HostsOfDiffer : Type 0
HostsOfDiffer = (hosts : ℕ) → HostsDiffer (hosts_of hosts)

-- calls of stores, pages and crashes lead to it; so all that holds of such worlds holds of it
abbrev pub IsReached : (keyed : List ℕ → KeyedStore) → (seed hosts events : ℕ) → World → Type 0
IsReached keyed seed hosts events w = (happened : List (WorldEvent StoreAsked)) × Reach (store_step (keyed (key_of seed))) (hosts_of hosts) happened w

-- At the end all nodes, the server among them, hold the same chains, of equal status, and show the same, whatever opening a record gives.
pub record NodesAgree (w : World) (node other : ℕ) : Type 0 where
  pub chains : (host : ℕ) (tag : List ℕ) → chain (w.journal node) 0 host tag ≡ chain (w.journal other) 0 host tag
  pub statuses : status (w.journal node) 0 ≡ status (w.journal other) 0
  pub views : (opening : Opening) → SameViews (changes_of opening (viewed (w.journal node))) (changes_of opening (viewed (w.journal other)))

abbrev pub EndAlike : (keyed : List ℕ → KeyedStore) → (seed hosts events : ℕ) → World → Type 0
EndAlike keyed seed hosts events w = (node other : ℕ) → node ≤ hosts → other ≤ hosts → NodesAgree w node other

-- What they hold is all that the hosts made: when all events had happened, before the last transfers, the chains of each host at its own
-- node were those that each node has now.
pub record HasAll (keyed : List ℕ → KeyedStore) (seed hosts events : ℕ) (w : World) : Type 0 where
  pub played : Moment
  pub ran : Each (RunsNumber (keyed (key_of seed)) seed hosts) (range_with_len 1 events) first_moment played
  pub chains : (node host : ℕ) (tag : List ℕ) → node ≤ hosts → 1 ≤ host → host ≤ hosts → chain (w.journal node) 0 host tag ≡ chain (played.world.journal host) 0 host tag

-- And what they show is what all records show that the hosts made until then, in whatever order these came.
pub record ShowAll (keyed : List ℕ → KeyedStore) (seed hosts events : ℕ) (w : World) : Type 0 where
  pub played : Moment
  pub ran : Each (RunsNumber (keyed (key_of seed)) seed hosts) (range_with_len 1 events) first_moment played
  pub views : (opening : Opening) (node : ℕ) → node ≤ hosts → SameViews (changes_of opening (viewed (w.journal node))) (changes_of opening (all_made played.world hosts))

-- So its summary says that all hosts show the same.
abbrev pub SaysEqual : (keyed : List ℕ → KeyedStore) → (seed hosts events : ℕ) → World → Type 0
SaysEqual keyed seed hosts events w = (s : Summary) → Summarizes (keyed (key_of seed)) hosts events w s → s.equal ≡ true
