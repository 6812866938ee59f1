use Rattle.std.proofs.Common.{ℕ, ◌+◌, ◌*◌, ◌^◌, List, ◌++◌, length, drop, ap, ap₂, ◌∙◌}
use Rattle.record_seal.specs.Seen.{seal_seen}
use Rattle.bench_c.specs.Sealing.{sealed}
use Rattle.bench_c.proofs.sealing.bench_seal.Goals as goal

pub returns : goal.returns
returns c =
    let first = c.as_bytes-first.ensures.value in
    let second = c.as_bytes-second.ensures.value in
    sealed (seal_seen c.in-Ok.made) c.in-Ok.ensures
    (ap₂ (λ (m n : ℕ). m * 2 ^ 32 + n) (ap length first) (ap length second))
    (c.write_pair.ensures
    ∙ ap₂ (λ (xs ys : List ℕ). xs ++ (ys ++ drop (length xs + length ys) c.args.out.now)) first second)
