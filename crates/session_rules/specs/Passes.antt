-- A pass: what one of several callers has seen of a journal that they share by turns.
use Rattle.std.specs.Prelude.{◌≡◌, ℕ, ◌<◌, ◌≤◌, max, List, [], ◌∷◌, ◌++◌, length, filter, Bool, true, false, nat_lt, if◌then◌else◌, All}
use Rattle.definitions.specs.Counts.{RoseBy}
use Rattle.definitions.specs.Prefixes.{IsPrefix}
use Rattle.record_rules.specs.Records.{Entry}
use Rattle.step_rules.specs.Answers.{refused, disk_fault}
use Rattle.step_rules.specs.PageTurns.{page_faulted}
use Rattle.step_rules.specs.ReadTurns.{read_faulted}
use Rattle.session_rules.specs.Sessions.{SessionAnswer, to_call, to_page, to_read, SessionReply, is_of}

-- a turn that a pass gave back: how long the journal was when it was taken and when it was given, and whether a fault was counted between
pub record TurnItem : Type 0 where
  pub found : ℕ
  pub left : ℕ
  pub failed : Bool

-- The number is the pass's own. It has seen the journal as it was at its last turn, knows that so many numbers were given, and
-- found so many faults counted. The turns stand in their order. The fixed part is what never changes: the store's host, and its key if it has one.
pub record Pass : Type 0 where
  pub number : ℕ
  pub seen : List Entry
  pub known : ℕ
  pub turns : List TurnItem
  pub faults : ℕ
  pub fixed : List ℕ

-- the entries that it has seen with its own number
abbrev pub mine : Pass → List Entry
mine pass = filter (is_of pass.number) pass.seen

-- the pass when it has seen these entries too
abbrev pub seen_more : Pass → List Entry → Pass
seen_more pass added = record pass { seen = pass.seen ++ added }

-- a pass knows at least of its own number
abbrev pub KnowsItself : Pass → Type 0
KnowsItself pass = pass.number ≤ pass.known

-- how many of the turns failed
abbrev pub failures : List TurnItem → ℕ
failures turns = length (filter (λ turn. turn.failed) turns)

-- What any call with a pass leaves of it: its number and the fixed part. It has seen no less, knows of no fewer numbers, and its turns go on.
-- For each turn since then that failed a fault was counted.
pub record PassMoves (old new : Pass) : Type 0 where
  pub number : new.number ≡ old.number
  pub fixed : new.fixed ≡ old.fixed
  pub seen : IsPrefix old.seen new.seen
  pub known : old.known ≤ new.known
  pub turns_since : List TurnItem
  pub turns : new.turns ≡ old.turns ++ turns_since
  pub faults : old.faults ≤ new.faults
  pub failed : RoseBy (failures turns_since) old.faults new.faults

-- the numbers of the passes of one book go from 1 to this
abbrev pub most_passes : ℕ
most_passes = 65535

-- the pass when it knows that so many numbers were given
abbrev pub knowing : Pass → ℕ → Pass
knowing pass given = record pass { known = given }

-- The pass that is split off and given this number, the last that was given: it has seen and counted as much, and has had no turn.
abbrev pub split_off : Pass → ℕ → Pass
split_off pass number = record pass { number = number; known = number; turns = [] }

-- A pass is split in two: the new pass has a number above all that the old one knew of, which no entry has that was seen, and the old one then
-- knows of it. So what is split off a pass has numbers that rise, and has committed nothing.
pub record SplitsOff (old new part : Pass) : Type 0 where
  pub above : old.known < part.number
  pub at_most : part.number ≤ most_passes
  pub unused : All (λ entry. is_of part.number entry ≡ false) old.seen
  pub new_is : new ≡ knowing old part.number
  pub part_is : part ≡ split_off old part.number

-- No number is left: all were given, as many as the answer says, and the pass then knows it.
pub record IsSpent (old new : Pass) (given : ℕ) : Type 0 where
  pub known : old.known ≤ given
  pub all : given ≡ most_passes
  pub new_is : new ≡ knowing old given

-- of two lists the longer one, or the first
abbrev pub longer : List Entry → List Entry → List Entry
longer one other = if nat_lt (length one) (length other) then other else one

-- The pass when another one is joined to it: it has seen the longer of what both had seen, keeps the greater counts, and keeps its turns.
abbrev pub joined : Pass → Pass → Pass
joined pass other = record pass { seen = longer pass.seen other.seen; known = max pass.known other.known; faults = max pass.faults other.faults }

-- Another pass is joined to one, which then knows how many numbers were given. What each of both had seen begins what it then has seen.
pub record Joins (pass other new : Pass) : Type 0 where
  pub known : ℕ
  pub new_is : new ≡ knowing (joined pass other) known
  pub grown : max pass.known other.known ≤ known
  pub at_most : known ≤ most_passes
  pub seen : IsPrefix pass.seen new.seen
  pub other_seen : IsPrefix other.seen new.seen

-- a fault of the disk, told to a call, to a page or to a read, and how many replies tell of one
abbrev pub tells_disk_fault : SessionAnswer → Bool
tells_disk_fault (to_call (refused disk_fault)) = true
tells_disk_fault (to_page page_faulted) = true
tells_disk_fault (to_read read_faulted) = true
tells_disk_fault _ = false

abbrev pub disk_faults : List SessionReply → ℕ
disk_faults replies = length (filter (λ reply. tells_disk_fault reply.answer) replies)

-- One turn for each reply, in order: the front is what the turn left, and a fault of the disk is told only after a turn that failed.
abbrev pub TurnsFor : List TurnItem → List SessionReply → Type 0
TurnsFor [] [] = Unit {0}
TurnsFor (turn ∷ turns) (reply ∷ replies) = (reply.front ≡ turn.left) × (tells_disk_fault reply.answer ≡ true → turn.failed ≡ true) × TurnsFor turns replies
TurnsFor [] (reply ∷ replies) = ⊥
TurnsFor (turn ∷ turns) [] = ⊥

-- the turns of a pass after these replies, given those before
abbrev pub TurnsOf : List TurnItem → List SessionReply → List TurnItem → Type 0
TurnsOf turns replies after = (added : List TurnItem) × (after ≡ turns ++ added) × TurnsFor added replies
