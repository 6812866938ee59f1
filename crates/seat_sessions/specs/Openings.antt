-- The lock and the pass of a session's opening, those that stand where none were picked, and what holds of a pass that moves on.
use Rattle.std.specs.Prelude.{◌≡◌, ◌≢◌, []}
use Rattle.atomic_table.specs.Seated.{TableId}
use Rattle.session_rules.specs.Passes.{Pass, PassMoves}
use Rattle.book_lock.specs.LockPasses.{LockPass, IsIdleAt}

abbrev pub no_lock : TableId
no_lock = record { words = 0; slots = 0; views_name = 0; atom = 0; block = 0; offset = 0; slot_names = [] }

abbrev pub no_pass : Pass
no_pass = record { number = 0; seen = []; known = 0; turns = []; faults = 0; fixed = [] }

-- A session began at this lock with this pass, which has a number. The store is that of the lock, and the pass has moved on and has no turn out.
pub record IsCaller (lock : TableId) (first : Pass) (store : TableId) (p : LockPass) : Type 0 where
  pub at : store ≡ lock
  pub idle : IsIdleAt lock p
  pub named : first.number ≢ 0
  pub moves : PassMoves first p.pass
