-- The pass that a worker keeps.
use Rattle.std.specs.Prelude.{Option, Some, None}
use Rattle.book_lock.specs.LockPasses.{LockPass}
use Rattle.seat_sessions.specs.Openings.{no_lock, no_pass}

-- the pass, or one of no lock where there is none
abbrev pub pass_in : Option LockPass → LockPass
pass_in (Some pass) = pass
pass_in None = record { lock = no_lock; pass = no_pass; out = None }
