-- What calls use of the random source and of the clock.
use Rattle.definitions.specs.Counts.{RoseBy}
use Rattle.definitions.specs.Uses.{Used, UsedFits}
use Rattle.at_edge.specs.Drawing.{EntropySeen, Drew}
use Rattle.at_edge.specs.Telling.{ClockSeen, Told}

pub record Supplies : Type 0 where
  pub rand : EntropySeen
  pub clock : ClockSeen

abbrev pub supplies : EntropySeen → ClockSeen → Supplies
supplies rand clock = record { rand = rand; clock = clock }

-- So much was drawn, in order, and no other bytes; for each draw that failed a fault was counted.
pub record UsesRandom (old new : EntropySeen) (used : Used) : Type 0 where
  pub fits : UsedFits used
  pub drew : Drew old new used.drawn
  pub failed : RoseBy used.faults old.faults new.faults

-- So much was drawn and read, in order, and nothing else; for each draw that failed a fault was counted.
pub record Uses (old new : Supplies) (used : Used) : Type 0 where
  pub fits : UsedFits used
  pub drew : Drew old.rand new.rand used.drawn
  pub failed : RoseBy used.faults old.rand.faults new.rand.faults
  pub told : Told old.clock new.clock used.readings
