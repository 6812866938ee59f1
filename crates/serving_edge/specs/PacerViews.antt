-- What is seen of the forms of pacers.
use Rattle.std.specs.Prelude.{Some, None}
use Rattle.serving_edge.specs.Pacing.{PacerSeen}
use Rattle.serving_edge.specs.declared.pacer.CountPacer.{CountPacer}
use Rattle.serving_edge.specs.declared.sleep_pacer.SleepPacer.{SleepPacer}

abbrev pub count_pacer_seen : CountPacer → PacerSeen
count_pacer_seen p = record { granted = p.granted; left = Some p.left }

-- it doesn't tell how many rounds are left
abbrev pub sleep_pacer_seen : {R : Type 0} → SleepPacer R → PacerSeen
sleep_pacer_seen p = record { granted = p.granted; left = None }
