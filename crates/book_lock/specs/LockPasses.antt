-- What contracts see of a pass, and what its seat at the table then is.
use Rattle.std.specs.Prelude.{◌≡◌, ℕ, ◌-◌, ◌<◌, ◌^◌, [], ◌∷◌, length, Option, Some, None, option_map, ◌⊎◌}
use Rattle.atomic_table.specs.Table.{Me}
use Rattle.atomic_table.specs.Seated.{TableId}
use Rattle.session_rules.specs.Passes.{Pass, most_passes}
use Rattle.session_rules.specs.Books.{Book, MayGive, Finds, first_pass, has_seen}
use Rattle.book_lock.specs.Views.{HeldBook, PassView, named, holding, committed, freed}

-- the lock of which it is, the pass itself, and the book that it found where its turn is out
pub record LockPass : Type 0 where
  pub lock : TableId
  pub pass : Pass
  pub out : Option Book

-- it is a pass of this lock and has no turn out
pub record IsIdleAt (lock : TableId) (p : LockPass) : Type 0 where
  pub at : p.lock ≡ lock
  pub out : p.out ≡ None

-- the pass of a lock that was just made
abbrev pub opened : TableId → Book → LockPass
opened lock book = record { lock = lock; pass = first_pass book; out = None }

-- the pass once its turn is out, with this book
abbrev pub with_turn : LockPass → Book → LockPass
with_turn p book = record p { pass = has_seen p.pass book; out = Some book }

-- a turn at the lock of this name, which found so many entries, is this pass's
pub record IsTurnOf (lock : TableId) (count : ℕ) (p : LockPass) : Type 0 where
  pub same : lock ≡ p.lock
  pub found : Book
  pub out : p.out ≡ Some found
  pub counted : count ≡ length found.entries

-- ---- seats

abbrev pub found_of : PassView → Option Book
found_of v = option_map (λ (h : HeldBook). h.found) v.held

-- what the holder keeps when it has changed nothing yet
abbrev pub out_with : Book → Option HeldBook
out_with book = Some (record { found = book; now = book })

module _ {B : Type 0} where
  -- no turn is out: the seat holds no slot
  abbrev pub IsIn : Me (Option B) PassView → Type 0
  IsIn m = (m.0.held ≡ None) × (m.1 ≡ [])

  -- a turn is out: the seat holds the empty slot
  abbrev pub IsOutWith : Me (Option B) PassView → Book → Type 0
  IsOutWith m book = (m.0.held ≡ out_with book) × (m.1 ≡ (0, None) ∷ []) × (m.0.pass ≡ has_seen m.0.pass book) × (length book.entries < 2 ^ 64)

  -- the seat of a pass between two calls
  abbrev pub IsPassSeat : Me (Option B) PassView → Type 0
  IsPassSeat m = (m.0.stage ≡ named) × (IsIn m ⊎ ((book : Book) × IsOutWith m book))

-- The seat won the turn and picked up this book: its slot is empty. It hasn't seen the book's list yet.
pub record PickedUp {B : Type 0} (book_of : B → Book) (v : PassView) (book : B) (m : Me (Option B) PassView) : Type 0 where
  pub seat : m ≡ (holding (book_of book) v, (0, None) ∷ [])
  pub finds : Finds v.pass (book_of book)
  pub room : length (book_of book).entries < 2 ^ 64

-- the seat's turn is out, and the book may be left so: it had so many entries when it was found
pub record GivesBack {B : Type 0} (book_of : B → Book) (m : Me (Option B) PassView) (book : B) (count : ℕ) : Type 0 where
  pub is_named : m.0.stage ≡ named
  pub found : Book
  pub held : m.0.held ≡ out_with found
  pub slot : m.1 ≡ (0, None) ∷ []
  pub may : MayGive m.0.pass.number found (book_of book)
  pub counted : count ≡ length found.entries

-- the view after the turn
abbrev pub left_by : Book → Book → PassView → PassView
left_by found left v = freed (record { found = found; now = left }) (committed (record { found = found; now = found }) left v)

-- how many numbers were given before this one, or where none was left
abbrev pub given_before : Option ℕ → ℕ
given_before (Some number) = number - 1
given_before None = most_passes
