-- Worlds of stores: their steps are those of calls.
use Rattle.std.specs.Prelude.{ℕ, List}
use Rattle.definitions.specs.Uses.{Used}
use Rattle.record_rules.specs.Records.{Caller, Entry}
use Rattle.step_rules.specs.Calls.{Call, CallFits}
use Rattle.step_rules.specs.Answers.{Answer}
use Rattle.step_rules.specs.Store.{KeyedStore, SealsWell}
use Rattle.step_rules.specs.Step.{Step}
use Rattle.world_rules.specs.World.{World, WorldEvent, HostsDiffer, Reach}

-- what a step at a node is asked, with what it reads of the clock and draws
pub record StoreAsked : Type 0 where
  pub caller : Caller
  pub call : Call
  pub used : Used

-- the store with this host: all nodes seal and open with one key
abbrev pub at_host : KeyedStore → ℕ → KeyedStore
at_host store host = record { host = host; seal = store.seal; weight_of = store.weight_of; opens = store.opens }

-- a step of the store with this host, at a call that may be asked of it, with some answer
abbrev pub store_step : KeyedStore → ℕ → List Entry → StoreAsked → List Entry → Type 0
store_step store host journal asked after = (answer : Answer) × CallFits asked.call × Step (at_host store host) journal asked.caller asked.call asked.used after answer

-- what holds of each world that calls of stores, pages, crashes and cuts can lead to, where no two nodes have one host
abbrev pub InEachStoreWorld : (List ℕ → World → Type 0) → Type 0
InEachStoreWorld P = (store : KeyedStore) (hosts : List ℕ) (events : List (WorldEvent StoreAsked)) (w : World) → SealsWell store → HostsDiffer hosts → Reach (store_step store) hosts events w → P hosts w
