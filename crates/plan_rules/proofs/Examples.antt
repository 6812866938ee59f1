-- The examples, computed.
use Rattle.std.proofs.Common.{refl}
use Rattle.plan_rules.specs.Examples.{WorkedPlans}

pub plans : WorkedPlans
plans = record { both_ways = refl; new_there = refl; equal = refl; in_order = refl; partly_there = refl; listed_again = refl }
