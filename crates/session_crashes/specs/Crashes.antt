-- What a crash may leave of a store while it answers one request after the other.
use Rattle.std.specs.Prelude.{◌≡◌, ◌⊎◌, ℕ, List, [], ◌∷◌, ◌++◌, Option, Some, None, IfSome}
use Rattle.definitions.specs.Prefixes.{IsPrefix}
use Rattle.record_rules.specs.Records.{Entry}
use Rattle.record_rules.specs.Journal.{events_of}
use Rattle.log_rules.specs.Log.{current_form, StandsFor}
use Rattle.disk_rules.specs.Disk.{Leaves}
use Rattle.disk_rules.specs.History.{History, Images, EachSince}
use Rattle.crash_rules.specs.Laws.{IsBeforeOrAfter}
use Rattle.session_rules.specs.Stores.{StoreState, RunTurn, last_left}
use Rattle.at_edge.specs.Storing.{Arrives}

-- ---- a turn

-- the bytes stand for the store's journal, or for it with what is in doubt behind it
abbrev pub IsOfState : (host : ℕ) → StoreState → List ℕ → Type 0
IsOfState host state bytes = IsBeforeOrAfter current_form host state.entries state.doubt bytes

-- so does whatever a crash now may leave, where the disk tells
abbrev pub LeavesState : (host : ℕ) → StoreState → Option History → Type 0
LeavesState host state now = IfSome now (λ (history : History). Images (IsOfState host state) history.now)

-- Whatever a crash may leave at each further moment of a turn is of the store that the turn found, or of the one that it leaves; at the end it is of that one.
abbrev pub TurnLeaves : (host : ℕ) → (found left : StoreState) → (old new : Option History) → Type 0
TurnLeaves host found left old new = Arrives (Images (λ bytes. IsOfState host found bytes ⊎ IsOfState host left bytes)) (Images (IsOfState host left)) old new

-- ---- turns one after the other

-- each turn from the history that the one before left
abbrev pub RunLeaves : (host : ℕ) → (first : StoreState) → List RunTurn → (old new : Option History) → Type 0
RunLeaves host first [] old new = new ≡ old
RunLeaves host first (one ∷ more) old new = (mid : Option History) × TurnLeaves host first one.left old mid × RunLeaves host one.left more mid new

-- the bytes are of the store as it was first, or as one of the turns left it
abbrev pub IsOfRun : (host : ℕ) → (first : StoreState) → List RunTurn → List ℕ → Type 0
IsOfRun host first [] bytes = IsOfState host first bytes
IsOfRun host first (one ∷ more) bytes = IsOfState host first bytes ⊎ IsOfRun host one.left more bytes

-- ---- since a moment

-- whatever a crash since the old moment may have left is so; a disk that doesn't tell never does
abbrev pub LeftSince : (List ℕ → Type 0) → (old new : Option History) → Type 0
LeftSince is_so None new = new ≡ None
LeftSince is_so (Some old) new = (history : History) × (new ≡ Some history) × EachSince is_so old history

-- or it might have been left at that moment
abbrev pub LeftSinceOrThen : (List ℕ → Type 0) → (old new : Option History) → Type 0
LeftSinceOrThen is_so None new = new ≡ None
LeftSinceOrThen is_so (Some old) new = LeftSince (λ bytes. Leaves old.now bytes ⊎ is_so bytes) (Some old) new

-- the journal, and what is in doubt behind it
abbrev pub with_doubt : StoreState → List Entry
with_doubt state = state.entries ++ state.doubt

-- The bytes stand for a journal that begins with the events of these entries and goes no further than those. Whose calls its entries came by isn't told.
pub record IsBetween (host : ℕ) (least most : List Entry) (bytes : List ℕ) : Type 0 where
  pub stood : List Entry
  pub stands : StandsFor current_form bytes host stood
  pub begins : IsPrefix (events_of least) (events_of stood)
  pub within : IsPrefix (events_of stood) (events_of most)

-- ---- what was answered stays

-- These turns were answered, and then those, from this history to that. Whatever a crash may have left since the first ones were is of the store as they left it, or as a later turn
-- left it: so it has each entry that they left, and at most what is in the store at the end.
pub record AnswersStay (host : ℕ) (first : StoreState) (answered more : List RunTurn) (old new : Option History) : Type 0 where
  pub mid : Option History
  pub before : RunLeaves host first answered old mid
  pub behind : RunLeaves host (last_left first answered) more mid new
  pub cut : LeftSince (IsOfRun host (last_left first answered) more) mid new
  pub between : LeftSince (IsBetween host (last_left first answered).entries (with_doubt (last_left (last_left first answered) more))) mid new
