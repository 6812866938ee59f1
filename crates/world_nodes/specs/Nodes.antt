-- What is seen of a node, and what it is between two events.
use Rattle.std.specs.Prelude.{◌≡◌, ℕ, ◌<◌, ◌^◌, List, [], Option, Some}
use Rattle.record_rules.specs.Records.{Entry}
use Rattle.record_rules.specs.Journal.{events_of}
use Rattle.log_rules.specs.Log.{current_form, StandsFor}
use Rattle.log_rules.specs.Opened.{opened_journal}
use Rattle.disk_rules.specs.History.{History, Images}
use Rattle.step_rules.specs.Store.{KeyedStore}
use Rattle.step_rules.specs.Sealing.{keyed_store}
use Rattle.record_seal.proofs.StoreSealing.{record_sealing}
use Rattle.told_store.specs.Told.{ToldSeen}

-- its host and its key, its journal and what is in doubt behind that, what its disk went through, and its generator's state
pub record NodeSeen : Type 0 where
  pub host : ℕ
  pub key : List ℕ
  pub journal : List Entry
  pub doubt : List Entry
  pub history : Option History
  pub random : ℕ

abbrev pub node_of : ToldSeen → (key : List ℕ) → (random : ℕ) → NodeSeen
node_of told key random = record {
  host = told.store.log.host;
  key = key;
  journal = told.note.state.entries;
  doubt = told.note.state.doubt;
  history = told.store.log.disk.history;
  random = random;
}

-- the disk tells, and whatever a crash now leaves of it is a log of this journal
pub record LeavesJournal (host : ℕ) (journal : List Entry) (history : Option History) : Type 0 where
  pub told : History
  pub is : history ≡ Some told
  pub images : Images (λ bytes. StandsFor current_form bytes host journal) told.now

-- Between two events: nothing is in doubt, a crash leaves the journal, and each entry is by nobody.
pub record IsReady (node : NodeSeen) : Type 0 where
  pub settled : node.doubt ≡ []
  pub nobodys : opened_journal (events_of node.journal) ≡ node.journal
  pub leaves : LeavesJournal node.host node.journal node.history
  pub random_fits : node.random < 2 ^ 64

-- what the node's host and key seal and open
abbrev pub store_at : NodeSeen → KeyedStore
store_at node = keyed_store record_sealing node.host node.key
