-- What one turn of a pass at a shared store is.
use Rattle.std.specs.Prelude.{◌≡◌, ℕ, List, length, true}
use Rattle.definitions.specs.Uses.{Used, used_nothing}
use Rattle.record_rules.specs.Records.{SealedRecord}
use Rattle.step_rules.specs.Calls.{Call}
use Rattle.step_rules.specs.Answers.{Reply}
use Rattle.step_rules.specs.PageTurns.{PageAnswer}
use Rattle.step_rules.specs.ReadTurns.{StoreRead, ReadAnswer, read_faulted, ReadTurn}
use Rattle.session_rules.specs.Sessions.{Asked, a_call, a_page, to_page, SessionReply, call_reply, caller_of}
use Rattle.session_rules.specs.Passes.{Pass, tells_disk_fault}
use Rattle.session_rules.specs.Books.{Book, PassTurn, turn_between}
use Rattle.session_rules.specs.Stores.{StoreState, store_book, StoreTurn}
use Rattle.call_supplies.specs.Supplies.{Supplies, Uses}
use Rattle.shared_store.specs.Books.{keyed_by}

-- the book of this state, with the pass's fixed part
abbrev pub book_at : Pass → StoreState → Book
book_at pass state = store_book pass.fixed state

-- What is asked in the pass's call of this number is answered in one turn of the pass: it found the store so, with a journal that begins with all
-- that it had seen, and left it so. The reply is given at the front that it left, and a fault of the disk is told only where the turn failed.
pub record TurnOf (old new : Pass) (call : ℕ) (asked : Asked) (used : Used) (reply : SessionReply) : Type 0 where
  pub found : StoreState
  pub left : StoreState
  pub pass : PassTurn old (book_at old found) (book_at old left) new
  pub answers : StoreTurn (keyed_by old.fixed) found (caller_of old.number call) asked used left reply.answer
  pub front : reply.front ≡ length left.entries
  pub failed : tells_disk_fault reply.answer ≡ true → (turn_between (book_at old found) (book_at old left)).failed ≡ true

-- So is a call, which uses so much of the random source and of the clock.
abbrev pub CallOf : Pass → Pass → Supplies → Supplies → ℕ → Call → Reply → Type 0
CallOf old new before after number call reply = (used : Used) × TurnOf old new number (a_call call) used (call_reply reply) × Uses before after used

-- So is a page of this owner that comes in, in the pass's call of this number. It uses neither of them.
abbrev pub PageOf : Pass → Pass → ℕ → ℕ → List SealedRecord → PageAnswer → Type 0
PageOf old new call owner records answer = (front : ℕ) × TurnOf old new call (a_page owner records) used_nothing (record { front = front; answer = to_page answer })

-- A turn in which something is read leaves the store as it was found but for the count of faults. A fault of the disk is told only where it failed.
pub record ReadsIn (old new : Pass) (answer : ReadAnswer) : Type 0 where
  pub found : StoreState
  pub left : StoreState
  pub pass : PassTurn old (book_at old found) (book_at old left) new
  pub entries : left.entries ≡ found.entries
  pub doubt : left.doubt ≡ found.doubt
  pub failed : answer ≡ read_faulted → (turn_between (book_at old found) (book_at old left)).failed ≡ true

-- And the read is answered from the journal that was found.
pub record ReadOf (old new : Pass) (read : StoreRead) (answer : ReadAnswer) : Type 0 where
  pub turn : ReadsIn old new answer
  pub answers : ReadTurn turn.found.entries turn.found.doubt read turn.left.entries turn.left.doubt answer

-- A turn in which nothing is asked but the front: the store is left as it was found.
pub record FrontOf (old new : Pass) (front : ℕ) : Type 0 where
  pub found : StoreState
  pub pass : PassTurn old (book_at old found) (book_at old found) new
  pub front_is : front ≡ length found.entries
