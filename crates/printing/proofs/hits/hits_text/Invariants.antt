use Rattle.std.proofs.Common.{take}
use Rattle.record_model.specs.Seen.{histories_seen}
use Rattle.printing.specs.Lines.{PrintsHits}
use Rattle.printing.proofs.hits.hits_text.Given as goal

abbrev pub invariant-loop-hit : goal.invariant-loop-hit
invariant-loop-hit l = PrintsHits (histories_seen (take l.hit-index l.hits)) l.out.items
