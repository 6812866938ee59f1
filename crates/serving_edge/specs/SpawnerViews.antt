-- Which calls of a spawner in memory are refused.
use Rattle.at_edge.specs.Planned.{Planned}
use Rattle.serving_edge.specs.declared.spawner_forms.LineSpawner.{LineSpawner}

abbrev pub spawner_plan : LineSpawner → Planned
spawner_plan s = s.failing
