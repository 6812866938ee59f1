use Rattle.std.proofs.Common.{take}
use Rattle.record_model.specs.Seen.{records_seen}
use Rattle.page_growth.specs.Checking.{Measured, AreTaken, OfJournal}
use Rattle.page_growth.proofs.pages.check_page.Given as goal

abbrev pub invariant-loop-at : goal.invariant-loop-at
invariant-loop-at l = Measured (records_seen (take l.at l.page)) l.so_far × OfJournal l.index l.owner (λ journal. AreTaken journal l.owner (records_seen (take l.at l.page)) l.so_far)
