-- A store as the book that passes share, and what its fixed part says.
use Rattle.std.specs.Prelude.{◌≡◌, ℕ, List, [], ◌∷◌, length, Bool, true, false, Option, Some, None, All, ⊤}
use Rattle.std.specs.Option.{unwrap_or}
use Rattle.atomic_table.specs.Seated.{TableId}
use Rattle.record_rules.specs.Records.{Entry}
use Rattle.step_rules.specs.Store.{KeyedStore}
use Rattle.session_rules.specs.Books.{Book}
use Rattle.session_rules.specs.Stores.{StoreState, store_of, store_book}
use Rattle.record_seal.proofs.StoreSealing.{record_sealing}
use Rattle.book_lock.specs.LockPasses.{LockPass, opened}
use Rattle.store_core.specs.Store.{StoreSeen, IsStoreOf}
use Rattle.told_store.specs.Told.{ToldSeen}

-- ---- the fixed part

-- the store's host, and behind it the bytes of its key, if it has one
abbrev pub fixed_of : StoreSeen → List ℕ
fixed_of store = store.log.host ∷ unwrap_or store.key []

abbrev pub host_of : List ℕ → ℕ
host_of [] = 0
host_of (host ∷ key) = host

-- whether a key stands in it
abbrev pub has_key : List ℕ → Bool
has_key [] = false
has_key (host ∷ []) = false
has_key (host ∷ byte ∷ key) = true

-- what the host and key of the fixed part seal and open
abbrev pub keyed_by : List ℕ → KeyedStore
keyed_by fixed = store_of record_sealing fixed

-- a key has 32 bytes
abbrev pub IsKey : Option (List ℕ) → Type 0
IsKey None = ⊤
IsKey (Some key) = length key ≡ 32

-- The fixed part tells host and key: stores in which they differ have different ones.
abbrev pub TellsHostAndKey : Type 0
TellsHostAndKey = (one other : StoreSeen) → IsKey one.key → IsKey other.key → fixed_of one ≡ fixed_of other → (one.log.host ≡ other.log.host) × (one.key ≡ other.key)

-- ---- the book

-- the book that a store is of which this is noted
abbrev pub book_of : ToldSeen → Book
book_of told = store_book (fixed_of told.store) told.note.state

-- The store is of a journal each of whose entries came by nobody's call. So is one that was just made or opened.
pub record IsOfNobody (store : StoreSeen) : Type 0 where
  pub journal : List Entry
  pub doubt : List Entry
  pub is : IsStoreOf store journal doubt
  pub nobody : All (λ (entry : Entry). entry.caller.number ≡ 0) journal

-- The first pass of a store: number 1, and it has seen the whole journal that the store is of.
pub record IsFirstPass (store : StoreSeen) (lock : TableId) (p : LockPass) : Type 0 where
  pub state : StoreState
  pub is : IsStoreOf store state.entries state.doubt
  pub counted : state.faults ≡ store.log.disk.faults
  pub pass_is : p ≡ opened lock (store_book (fixed_of store) state)
