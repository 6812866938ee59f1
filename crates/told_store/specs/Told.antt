-- What is noted of a store, and what a call makes of it.
use Rattle.std.specs.Prelude.{◌≡◌, ℕ, List, [], ◌∷◌, ◌++◌, length}
use Rattle.std.specs.Option.{unwrap_or}
use Rattle.definitions.specs.Counts.{has_risen}
use Rattle.definitions.specs.Uses.{Used}
use Rattle.record_rules.specs.Records.{Caller, Entry}
use Rattle.log_rules.specs.Log.{current_form}
use Rattle.disk_rules.specs.Disk.{Disk}
use Rattle.record_log.specs.Journals.{HoldsAt, DoubtsAt}
use Rattle.step_rules.specs.Calls.{Call}
use Rattle.step_rules.specs.Answers.{Reply}
use Rattle.step_rules.specs.Store.{KeyedStore}
use Rattle.step_rules.specs.Sealing.{keyed_store}
use Rattle.session_rules.specs.Sessions.{a_call, to_call}
use Rattle.session_rules.specs.Passes.{TurnItem}
use Rattle.session_rules.specs.Stores.{StoreState, StoreTurn}
use Rattle.session_rules.specs.Within.{ShowsWithin}
use Rattle.session_crashes.specs.Crashes.{TurnLeaves}
use Rattle.record_seal.proofs.StoreSealing.{record_sealing}
use Rattle.call_supplies.specs.Supplies.{Supplies, Uses}
use Rattle.state_notes.specs.Notes.{StoreNote}
use Rattle.store_core.specs.Store.{StoreSeen, IsStoreOf}

-- the store, and what is noted of it
pub record ToldSeen : Type 0 where
  pub store : StoreSeen
  pub note : StoreNote

-- the store is of the journal that is noted, with these entries in doubt
pub record IsTold (store : StoreSeen) (note : StoreNote) : Type 0 where
  pub is : IsStoreOf store note.state.entries note.state.doubt
  pub counted : note.state.faults ≡ store.log.disk.faults

-- nothing happened yet
pub record IsFirst (store : StoreSeen) (note : StoreNote) : Type 0 where
  pub told : IsTold store note
  pub none : note.turns ≡ []

-- what the store's host and key seal and open
abbrev pub keyed_by : StoreSeen → KeyedStore
keyed_by store = keyed_store record_sealing store.log.host (unwrap_or store.key [])

-- the turn from the one state to the other
abbrev pub turn_between : StoreState → StoreState → TurnItem
turn_between found left = record { found = length found.entries; left = length left.entries; failed = has_risen found.faults left.faults }

abbrev pub AddsTurn : StoreNote → StoreNote → Type 0
AddsTurn before after = after.turns ≡ before.turns ++ turn_between before.state after.state ∷ []

-- a turn came in which nothing was asked
pub record HasRested (before after : StoreNote) : Type 0 where
  pub stays : after.state ≡ before.state
  pub turn : AddsTurn before after

-- The call was one turn, from the state that was noted to the one that is. It used so much, its answer shows as little as a reply may, and a
-- crash on the way leaves the one or the other, and at its end that one.
pub record CallTold (was : StoreSeen) (before : StoreNote) (store : StoreSeen) (after : StoreNote) (supplied supplies : Supplies) (caller : Caller) (call : Call) (reply : Reply) : Type 0 where
  pub told : IsTold store after
  pub used : Used
  pub uses : Uses supplied supplies used
  pub turn : StoreTurn (keyed_by was) before.state caller (a_call call) used after.state (to_call reply.answer)
  pub front : reply.front ≡ length after.state.entries
  pub within : ShowsWithin reply.answer
  pub added : AddsTurn before after
  pub leaves : TurnLeaves was.log.host before.state after.state was.log.disk.history store.log.disk.history

-- the disk holds the log of these entries
abbrev pub HoldsEntries : (host : ℕ) → List Entry → Disk → Type 0
HoldsEntries host entries disk = (gate : ℕ) × HoldsAt current_form gate host entries disk

-- and more behind it, which a crash may or may not leave
abbrev pub DoubtsEntries : (host : ℕ) → (entries more : List Entry) → Disk → Type 0
DoubtsEntries host entries more disk = (gate : ℕ) × DoubtsAt current_form gate host entries more disk
