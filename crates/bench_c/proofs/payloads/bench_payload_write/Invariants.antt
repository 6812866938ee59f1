use Rattle.payload_forms.specs.Seen.{payload_seen}
use Rattle.bench_c.specs.Payloads.{TellsLength}
use Rattle.bench_c.proofs.payloads.bench_payload_write.Given as goal

-- what was written last, or nothing yet
abbrev pub invariant-loop-turn : goal.invariant-loop-turn
invariant-loop-turn l = TellsLength (payload_seen l.payload) l.len
