use Rattle.std.specs.Prelude.{◌≡◌, None}
use Rattle.bench_log.proofs.append_all.Given as goal

abbrev pub invariant-loop-idx : goal.invariant-loop-idx
invariant-loop-idx g l = l.log.doubt ≡ None
