-- A store between two turns, and turns of it one after the other.
use Rattle.std.specs.Prelude.{◌≡◌, ℕ, ◌≤◌, List, [], ◌∷◌, length, map, true, ⊤}
use Rattle.definitions.specs.Counts.{Rose}
use Rattle.definitions.specs.Uses.{Used, used_nothing, then_used}
use Rattle.record_rules.specs.Records.{Caller, Entry}
use Rattle.step_rules.specs.Store.{KeyedStore}
use Rattle.step_rules.specs.Sealing.{Sealing, keyed_store}
use Rattle.session_rules.specs.Sessions.{Asked, SessionAnswer, SessionRequest, SessionReply, caller_of}
use Rattle.session_rules.specs.Turns.{TurnAnswers}
use Rattle.session_rules.specs.Passes.{tells_disk_fault}
use Rattle.session_rules.specs.Books.{Book}

-- its entries, the commit in doubt, and how many faults its disk counted
pub record StoreState : Type 0 where
  pub entries : List Entry
  pub doubt : List Entry
  pub faults : ℕ

-- The store of a fixed part: its host, and behind it the bytes of its key, if it has one.
abbrev pub store_of : Sealing → List ℕ → KeyedStore
store_of sealing [] = keyed_store sealing 0 []
store_of sealing (host ∷ key) = keyed_store sealing host key

-- the book that a store with this fixed part is
abbrev pub store_book : List ℕ → StoreState → Book
store_book fixed state = record { entries = state.entries; faults = state.faults; fixed = fixed }

-- A turn of the store. Its count of faults doesn't fall, and a fault of the disk is told only where it rose.
pub record StoreTurn (store : KeyedStore) (old : StoreState) (caller : Caller) (asked : Asked) (used : Used) (new : StoreState) (answer : SessionAnswer) : Type 0 where
  pub answers : TurnAnswers store old.entries old.doubt caller asked used new.entries new.doubt answer
  pub counted : old.faults ≤ new.faults
  pub told : tells_disk_fault answer ≡ true → Rose old.faults new.faults

-- a turn of a run: what was asked, used and replied, and the store that it left
pub record RunTurn : Type 0 where
  pub request : SessionRequest
  pub used : Used
  pub reply : SessionReply
  pub left : StoreState

-- a turn of the pass of this number, from this store
pub record IsRunTurn (store : KeyedStore) (number : ℕ) (old : StoreState) (one : RunTurn) : Type 0 where
  pub turn : StoreTurn store old (caller_of number one.request.call) one.request.asked one.used one.left one.reply.answer
  pub front : one.reply.front ≡ length one.left.entries

-- turns one after the other, each from the store that the one before left
abbrev pub IsRun : KeyedStore → ℕ → StoreState → List RunTurn → Type 0
IsRun store number old [] = ⊤
IsRun store number old (one ∷ more) = IsRunTurn store number old one × IsRun store number one.left more

-- the store at the end of a run
abbrev pub last_left : StoreState → List RunTurn → StoreState
last_left old [] = old
last_left old (one ∷ more) = last_left one.left more

-- what was asked, used and replied in all
abbrev pub run_requests : List RunTurn → List SessionRequest
run_requests turns = map (λ (one : RunTurn). one.request) turns

abbrev pub run_replies : List RunTurn → List SessionReply
run_replies turns = map (λ (one : RunTurn). one.reply) turns

abbrev pub run_used : List RunTurn → Used
run_used [] = used_nothing
run_used (one ∷ more) = then_used one.used (run_used more)

-- Two runs are alike in what was asked, used and replied, turn by turn, and in what stayed in doubt where a fault was told: a commit that failed is lost
-- or in doubt, and nothing that is told says which.
abbrev pub AreAlike : List RunTurn → List RunTurn → Type 0
AreAlike [] [] = ⊤
AreAlike (one ∷ more) (two ∷ others) = (one.request ≡ two.request) × (one.used ≡ two.used) × (one.reply ≡ two.reply) × (tells_disk_fault one.reply.answer ≡ true → one.left.doubt ≡ two.left.doubt) × AreAlike more others
AreAlike [] (two ∷ others) = ⊥
AreAlike (one ∷ more) [] = ⊥
