use Rattle.at_edge.proofs.ExchangeLaws.{gave_none, none_left}
use Rattle.at_edge.proofs.memory_link.MemLinkSource.read.Goals as goal

pub returns-in-0-clause-reads : goal.returns-in-0-clause-reads
returns-in-0-clause-reads c =
    (gave_none _ _ c.give.new.into c.give.result c.in-0.is (c.give.ensures.gave _ _ c.next_fails.ensures.kept), none_left _ (c.give.ensures.end c.in-0.is c.requires))
