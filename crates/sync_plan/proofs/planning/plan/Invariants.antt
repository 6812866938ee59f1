use Rattle.std.proofs.Common.{◌+◌, length}
use Rattle.plan_rules.specs.Plans.{plan as plan_of}
use Rattle.record_model.specs.Seen.{chains_seen}
use Rattle.sync_plan.specs.Seen.{steps_seen}
use Rattle.sync_plan.proofs.Turns.{Owes}
use Rattle.sync_plan.proofs.planning.plan.Given as goal

abbrev pub invariant-loop-first : goal.invariant-loop-first
invariant-loop-first l = Owes (steps_seen l.steps.items) (chains_seen l.ours) (chains_seen l.theirs) (plan_of (chains_seen l.fn.local) (chains_seen l.fn.remote))

abbrev pub decreases-loop-first : goal.decreases-loop-first
decreases-loop-first l = length (chains_seen l.ours) + length (chains_seen l.theirs)
