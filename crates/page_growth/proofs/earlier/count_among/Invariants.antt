use Rattle.std.proofs.Common.{◌≡◌, ◌+◌, ◌≤◌, length, drop, filter}
use Rattle.record_rules.specs.Journal.{in_place}
use Rattle.record_model.specs.Seen.{records_seen}
use Rattle.page_growth.specs.Checking.{chosen}
use Rattle.page_growth.proofs.earlier.count_among.Given as goal

abbrev pub invariant-loop-at : goal.invariant-loop-at
invariant-loop-at l =
    (l.count ≤ l.at) × (l.count + length (filter (in_place l.r.host l.r.tag) (chosen (drop l.at l.marks) (records_seen (drop l.at l.before)))) ≡ length (filter (in_place l.r.host l.r.tag) (chosen l.marks (records_seen l.before))))
