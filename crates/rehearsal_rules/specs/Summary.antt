-- What is told of a rehearsal at its end.
use Rattle.std.specs.Prelude.{◌≡◌, ℕ, ◌≤◌, List, [], length, flat_map, codes, Bool, true, ◌↔◌}
use Rattle.definitions.specs.Limits.{most_listed}
use Rattle.definitions.specs.Journal.{HistoryRecord}
use Rattle.record_rules.specs.Records.{SealedRecord}
use Rattle.view_rules.specs.Changes.{Change, viewed}
use Rattle.view_rules.specs.Views.{ShowsHistory, ShowsKv, ShowsAlias}
use Rattle.view_rules.specs.Answers.{Named, ListsHistory, KvListAnswer, AliasListAnswer}
use Rattle.step_rules.specs.Store.{KeyedStore, shown_changes}
use Rattle.world_rules.specs.World.{World, made_at}
use Rattle.rehearsal_rules.specs.Rehearsal.{hosts_of}

-- how many hosts and events there were; how many records, commands, pairs and aliases the first host has; and whether all hosts show the same
pub record Summary : Type 0 where
  pub hosts : ℕ
  pub events : ℕ
  pub records : ℕ
  pub history : ℕ
  pub kv : ℕ
  pub aliases : ℕ
  pub equal : Bool

-- the namespace of all pairs that a rehearsal sets
abbrev pub rehearsed_namespace : List ℕ
rehearsed_namespace = codes "n"

-- So many commands, pairs and aliases are shown: all commands, and of pairs and aliases those of one list. A rehearsal sets at most 16 keys and
-- 16 names, far fewer than a list may have.
pub record ShowsSoMany (changes : List Change) (history kv aliases : ℕ) : Type 0 where
  pub commands : List HistoryRecord
  pub keys : List Named
  pub names : List Named
  pub commands_are : ListsHistory changes commands
  pub keys_are : KvListAnswer changes rehearsed_namespace [] most_listed keys
  pub names_are : AliasListAnswer changes [] most_listed names
  pub history_is : history ≡ length commands
  pub kv_is : kv ≡ length keys
  pub aliases_is : aliases ≡ length names

-- the same commands are shown, the same pairs, and the same aliases
pub record ShowTheSame (changes others : List Change) : Type 0 where
  pub history : (h : HistoryRecord) → ShowsHistory changes h ↔ ShowsHistory others h
  pub kv : (key value : List ℕ) → ShowsKv changes rehearsed_namespace key value ↔ ShowsKv others rehearsed_namespace key value
  pub aliases : (name value : List ℕ) → ShowsAlias changes name value ↔ ShowsAlias others name value

-- what a node shows
abbrev pub shown_at : KeyedStore → World → (node : ℕ) → List Change
shown_at store w node = shown_changes store (w.journal node)

-- The summary of a rehearsal that ended with this world. Its sizes are those of host 0, which is node 1, and not of the server.
pub record Summarizes (store : KeyedStore) (hosts events : ℕ) (w : World) (s : Summary) : Type 0 where
  pub hosts_is : s.hosts ≡ hosts
  pub events_is : s.events ≡ events
  pub records_is : s.records ≡ length (viewed (w.journal 1))
  pub shows : ShowsSoMany (shown_at store w 1) s.history s.kv s.aliases
  pub equal_is : s.equal ≡ true ↔ ((node : ℕ) → 1 ≤ node → node ≤ hosts → ShowTheSame (shown_at store w 1) (shown_at store w node))

-- the records that the hosts made, host by host
abbrev pub all_made : World → (hosts : ℕ) → List SealedRecord
all_made w hosts = flat_map (λ node. made_at (w.journal node)) (hosts_of hosts)
