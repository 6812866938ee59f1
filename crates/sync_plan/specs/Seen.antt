-- Which step of the rules a step stands for.
use Rattle.std.specs.Prelude.{List, map, if◌then◌else◌}
use Rattle.record_model.specs.declared.places.Chain.{Chain}
use Rattle.record_model.specs.Seen.{chains_seen}
use Rattle.record_rules.specs.Journal.{Ascends}
use Rattle.plan_rules.specs.Plans.{PlanStep, Upload, Download}
use Rattle.sync_plan.specs.FirstPlaces.{place_of}
use Rattle.sync_plan.specs.declared.steps.Step.{Step}

abbrev pub step_seen : Step → PlanStep
step_seen s = if s.upload then Upload (record { host = s.host; tag = s.tag }) s.from s.to else Download (record { host = s.host; tag = s.tag }) s.from s.to

abbrev pub steps_seen : List Step → List PlanStep
steps_seen steps = map step_seen steps

-- the chains are in order of host, then tag, and no two are of one place
abbrev pub AreInOrder : List Chain → Type 0
AreInOrder chains = Ascends (map place_of (chains_seen chains))
