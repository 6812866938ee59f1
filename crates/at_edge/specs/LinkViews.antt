-- What is seen of the links in memory, and which calls of one are to fail.
use Rattle.std.specs.Prelude.{ℕ, List}
use Rattle.at_edge.specs.Planned.{Planned}
use Rattle.at_edge.specs.Linking.{LinkSeen}
use Rattle.at_edge.specs.Exchanging.{link_kept, still_coming}
use Rattle.at_edge.specs.declared.memory_link.MemLink.{MemLink}
use Rattle.at_edge.specs.declared.memory_link.SureLink.{SureLink}

abbrev pub link_seen : MemLink → LinkSeen
link_seen l = link_kept l.exchanges l.failing.faults

abbrev pub link_coming : MemLink → List (List ℕ)
link_coming l = still_coming l.exchanges

abbrev pub link_plan : MemLink → Planned
link_plan l = l.failing

abbrev pub sure_link_seen : SureLink → LinkSeen
sure_link_seen l = link_kept l.exchanges l.faults

abbrev pub sure_link_coming : SureLink → List (List ℕ)
sure_link_coming l = still_coming l.exchanges
