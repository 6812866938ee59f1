-- How a count of faults moves. Counts stop at their last value, so that no code has to handle a sum that is too large.
use Rattle.std.specs.Prelude.{ℕ, ◌+◌, ◌-◌, ◌^◌, ◌≤◌, min, Bool, nat_le}

-- where a count of faults stops
abbrev pub last_count : ℕ
last_count = 2 ^ 64 - 1

-- at least n faults came between the two, or the count stands at its last value
abbrev pub RoseBy : ℕ → ℕ → ℕ → Type 0
RoseBy n before now = min (before + n) last_count ≤ now

-- a fault came between the two
abbrev pub Rose : ℕ → ℕ → Type 0
Rose before now = RoseBy 1 before now

-- whether one did
abbrev pub has_risen : ℕ → ℕ → Bool
has_risen before now = nat_le (min (before + 1) last_count) now
