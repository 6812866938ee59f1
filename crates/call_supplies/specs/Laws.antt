-- The laws of supplies, as statements. Each is the contract of the function of its name.
use Rattle.std.specs.Prelude.{ℕ, ◌<◌, ◌^◌, List, []}
use Rattle.definitions.specs.Spelling.{IsBytes}
use Rattle.definitions.specs.Counts.{Rose}
use Rattle.definitions.specs.Uses.{Used, used_nothing, read_clock, read_and_drew, read_and_failed}
use Rattle.at_edge.specs.Drawing.{EntropySeen, Drew}
use Rattle.at_edge.specs.Telling.{ClockSeen, Told}
use Rattle.call_supplies.specs.Supplies.{Supplies, supplies, UsesRandom, Uses}

-- supplies that stay use nothing
abbrev pub NothingIsUsed : Type 0
NothingIsUsed = (seen : Supplies) → Uses seen seen used_nothing

-- where the clock alone is read, no bytes are drawn
abbrev pub ReadingDrawsNothing : Type 0
ReadingDrawsNothing = (rand : EntropySeen) (now : ℕ) → now < 2 ^ 64 → UsesRandom rand rand (read_clock now)

-- a draw behind the reading
abbrev pub DrawIsUsed : Type 0
DrawIsUsed = (old new : EntropySeen) (now : ℕ) (drawn : List ℕ) → now < 2 ^ 64 → IsBytes drawn → Drew old new drawn → UsesRandom old new (read_and_drew now drawn)

-- one that failed, and for which a fault was counted
abbrev pub FailedDrawIsCounted : Type 0
FailedDrawIsCounted = (old new : EntropySeen) (now : ℕ) → now < 2 ^ 64 → Drew old new [] → Rose old.faults new.faults → UsesRandom old new (read_and_failed now)

-- what was used of the random source, with the readings of the clock
abbrev pub ReadingsJoinDraws : Type 0
ReadingsJoinDraws = (old new : EntropySeen) (before after : ClockSeen) (used : Used) → UsesRandom old new used → Told before after used.readings → Uses (supplies old before) (supplies new after) used
