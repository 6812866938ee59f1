-- What one call uses of the outside, and several one after another.
use Rattle.std.specs.Prelude.{ℕ, ◌+◌, ◌<◌, ◌^◌, List, [], ◌∷◌, ◌++◌}
use Rattle.std.specs.List.{All}
use Rattle.definitions.specs.Spelling.{IsBytes}

-- what a call took of the outside: the clock's readings, the random bytes, and how many draws failed
pub record Used : Type 0 where
  pub readings : List ℕ
  pub drawn : List ℕ
  pub faults : ℕ

abbrev pub used_nothing : Used
used_nothing = record { readings = []; drawn = []; faults = 0 }

abbrev pub then_used : Used → Used → Used
then_used a b = record { readings = a.readings ++ b.readings; drawn = a.drawn ++ b.drawn; faults = a.faults + b.faults }

-- readings of 64 bits, and bytes
abbrev pub UsedFits : Used → Type 0
UsedFits used = All (λ (now : ℕ). now < 2 ^ 64) used.readings × IsBytes used.drawn

-- a Start reads the clock once and then draws ten bytes; an End reads the clock once
abbrev pub read_and_drew : ℕ → List ℕ → Used
read_and_drew now drawn = record { readings = now ∷ []; drawn = drawn; faults = 0 }

abbrev pub read_and_failed : ℕ → Used
read_and_failed now = record { readings = now ∷ []; drawn = []; faults = 1 }

abbrev pub read_clock : ℕ → Used
read_clock now = record { readings = now ∷ []; drawn = []; faults = 0 }
