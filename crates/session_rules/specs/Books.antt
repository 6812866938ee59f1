-- The book that passes share by turns, and what one turn leaves of a pass.
use Rattle.std.specs.Prelude.{◌≡◌, ◌⊎◌, ℕ, ◌<◌, ◌≤◌, ◌^◌, List, [], ◌∷◌, ◌++◌, length, All, false}
use Rattle.definitions.specs.Counts.{has_risen}
use Rattle.record_rules.specs.Records.{Entry}
use Rattle.session_rules.specs.Sessions.{is_of}
use Rattle.session_rules.specs.Passes.{TurnItem, Pass}

-- The entries of the journal, the faults that were counted, and the fixed part. The book of a shared store counts its disk's faults.
pub record Book : Type 0 where
  pub entries : List Entry
  pub faults : ℕ
  pub fixed : List ℕ

-- What the pass of this number may leave of the book that it found: behind the entries that stood there entries of its own, or settled ones, which
-- are of no pass; fewer than 2^64 in all. The count doesn't fall, and the fixed part stays.
pub record MayGive (number : ℕ) (found left : Book) : Type 0 where
  pub added : List Entry
  pub entries : left.entries ≡ found.entries ++ added
  pub own : All (λ entry. (entry.caller.number ≡ number) ⊎ (entry.caller.number ≡ 0)) added
  pub faults : found.faults ≤ left.faults
  pub fixed : left.fixed ≡ found.fixed
  pub room : length left.entries < 2 ^ 64

-- What a pass finds when it takes the book, and gets where it closes: what it had seen, and behind it entries of others; at least as many faults as
-- it had found; and its own fixed part.
pub record Finds (pass : Pass) (book : Book) : Type 0 where
  pub since : List Entry
  pub entries : book.entries ≡ pass.seen ++ since
  pub of_others : All (λ entry. is_of pass.number entry ≡ false) since
  pub faults : pass.faults ≤ book.faults
  pub fixed : book.fixed ≡ pass.fixed

-- the pass with which a book begins to be shared: it has seen all, and no other number was given
abbrev pub first_pass : Book → Pass
first_pass book = record { number = 1; seen = book.entries; known = 1; turns = []; faults = book.faults; fixed = book.fixed }

-- the turn in which this book was found and that one was left
abbrev pub turn_between : Book → Book → TurnItem
turn_between found left = record { found = length found.entries; left = length left.entries; failed = has_risen found.faults left.faults }

-- the pass when it has seen this book, and has counted what was counted then
abbrev pub has_seen : Pass → Book → Pass
has_seen pass book = record pass { seen = book.entries; faults = book.faults }

-- the pass after such a turn
abbrev pub after_turn : Pass → Book → Book → Pass
after_turn pass found left = record (has_seen pass left) { turns = pass.turns ++ turn_between found left ∷ [] }

-- A pass takes the turn: it finds this book, and has then seen it.
pub record PassTakes (pass : Pass) (found : Book) (taken : Pass) : Type 0 where
  pub finds : Finds pass found
  pub room : length found.entries < 2 ^ 64
  pub taken_is : taken ≡ has_seen pass found

-- A pass gives the turn in which it found one book, and leaves the other.
pub record PassGives (taken : Pass) (found left : Book) (after : Pass) : Type 0 where
  pub may : MayGive taken.number found left
  pub after_is : after ≡ after_turn taken found left

-- In a turn a pass finds one book and leaves another one.
pub record PassTurn (pass : Pass) (found left : Book) (after : Pass) : Type 0 where
  pub finds : Finds pass found
  pub may : MayGive pass.number found left
  pub after_is : after ≡ after_turn pass found left
