use Rattle.std.proofs.Common.{arith}
use Rattle.at_edge.proofs.ExchangeLaws.{gave_none, none_left}
use Rattle.at_edge.proofs.memory_link.SureLinkSource.read.Goals as goal

pub returns-in-0 : goal.returns-in-0
returns-in-0 c =
    (gave_none _ _ c.give.new.into c.give.result c.in-0.is (c.give.ensures.gave _ _ (omega arith)), none_left _ (c.give.ensures.end c.in-0.is c.requires))
