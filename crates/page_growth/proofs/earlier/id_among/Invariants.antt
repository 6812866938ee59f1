use Rattle.std.proofs.Common.{◌≡◌, drop}
use Rattle.record_rules.specs.Growth.{holder}
use Rattle.record_model.specs.Seen.{record_seen, records_seen}
use Rattle.page_growth.specs.Checking.{chosen}
use Rattle.page_growth.proofs.earlier.id_among.Given as goal

abbrev pub invariant-loop-at : goal.invariant-loop-at
invariant-loop-at l = holder (chosen (drop l.at l.marks) (records_seen (drop l.at l.before))) (record_seen l.r) ≡ holder (chosen l.marks (records_seen l.before)) (record_seen l.r)
