-- The rule of the lock: what holds of its words, its slot and all views between any two steps.
use Rattle.std.specs.Prelude.{◌≡◌, ◌≢◌, ℕ, ◌<◌, ◌≤◌, ◌^◌, List, [], ◌∷◌, ◌++◌, length, All, Option, Some, None, false, ◌⊎◌}
use mathlib.Core.Option.{some, none}
use lib.ListN.{get_elem?}
use Rattle.atomic_table.specs.Table.{State}
use Rattle.record_rules.specs.Records.{Entry}
use Rattle.session_rules.specs.Sessions.{is_of}
use Rattle.definitions.specs.Prefixes.{IsPrefix}
use Rattle.session_rules.specs.Books.{Book}
use Rattle.book_lock.specs.Views.{unnamed, named, spent, HeldBook, PassView}

-- A view that isn't spent has seen a prefix of the world's entries. Behind that stand no entries of its number.
pub record ViewFits (world : Book) (next : ℕ) (v : PassView) : Type 0 where
  pub since : List Entry
  pub entries : world.entries ≡ v.pass.seen ++ since
  pub of_others : v.stage ≡ named → (1 ≤ v.pass.number) × All (λ e. is_of v.pass.number e ≡ false) since
  pub faults : v.pass.faults ≤ world.faults
  pub fixed : world.fixed ≡ v.pass.fixed
  pub known : v.pass.number ≤ v.pass.known
  pub below : v.pass.known < next
  pub olds : All (λ old. IsPrefix old v.pass.seen) v.olds
  pub unnumbered : v.stage ≡ unnamed → v.pass.number ≡ 0

-- no two named views have one number
abbrev pub NumbersApart : List PassView → Type 0
NumbersApart views = (i j : ℕ) (v w : PassView) → get_elem? views i ≡ some v → get_elem? views j ≡ some w → v.stage ≡ named → w.stage ≡ named → v.pass.number ≡ w.pass.number → i ≡ j

abbrev pub AllFit : Book → ℕ → List PassView → Type 0
AllFit world next views = (i : ℕ) (v : PassView) → get_elem? views i ≡ some v → v.stage ≢ spent → ViewFits world next v

abbrev pub NoneHolds : List PassView → Type 0
NoneHolds views = (i : ℕ) (v : PassView) → get_elem? views i ≡ some v → v.held ≡ None

-- the book is out with the holder of the turn, whose view keeps what all are to find
pub record IsOut (world : Book) (views : List PassView) : Type 0 where
  pub holder : ℕ
  pub view : PassView
  pub held : HeldBook
  pub there : get_elem? views holder ≡ some view
  pub holds : view.held ≡ Some held
  pub is_world : held.now ≡ world
  pub others : (i : ℕ) (v : PassView) → get_elem? views i ≡ some v → i ≢ holder → v.held ≡ None

module _ {B : Type 0} where
  -- the book is at home
  pub record IsHome (book_of : B → Book) (world : Book) (homes : List (mathlib.Core.Option.Option (Option B))) : Type 0 where
    pub book : B
    pub home : homes ≡ some (Some book) ∷ []
    pub is_world : book_of book ≡ world

  abbrev pub BookPlace : (B → Book) → Book → ℕ → List (mathlib.Core.Option.Option (Option B)) → List PassView → Type 0
  BookPlace book_of world turn homes views = ((turn ≡ 0) × IsHome book_of world homes × NoneHolds views) ⊎ ((turn ≡ 1) × (homes ≡ none ∷ []) × IsOut world views)

  -- the world is the book as all are to find it next
  pub record LockKept (book_of : B → Book) (s : State (Option B) PassView) : Type 0 where
    pub world : Book
    pub turn : ℕ
    pub next : ℕ
    pub words : s.words ≡ turn ∷ length world.entries ∷ next ∷ []
    pub place : BookPlace book_of world turn s.homes s.views
    pub room : length world.entries < 2 ^ 64
    pub numbers : (2 ≤ next) × (next ≤ 65536)
    pub entries_below : All (λ e. e.caller.number < next) world.entries
    pub fits : AllFit world next s.views
    pub apart : NumbersApart s.views
