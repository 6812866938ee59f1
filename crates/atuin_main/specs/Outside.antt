-- What is seen of the outside on which a command works.
use Rattle.at_edge.specs.Taking.{SourceSeen}
use Rattle.at_edge.specs.Writing.{SinkSeen}
use Rattle.at_edge.specs.Storing.{DiskSeen}
use Rattle.at_edge.specs.Drawing.{EntropySeen}
use Rattle.at_edge.specs.Telling.{ClockSeen}

pub record Outside : Type 0 where
  pub source : SourceSeen
  pub sink : SinkSeen
  pub disk : DiskSeen
  pub second : DiskSeen
  pub rand : EntropySeen
  pub clock : ClockSeen

abbrev pub outside : SourceSeen → SinkSeen → (disk second : DiskSeen) → EntropySeen → ClockSeen → Outside
outside source sink disk second rand clock = record { source = source; sink = sink; disk = disk; second = second; rand = rand; clock = clock }
