use Rattle.std.proofs.Common.{ℕ, List, ◌++◌, drop, ap₂, subst, ◌∙◌}
use Rattle.record_seal.specs.Seals.{OpensToBytes}
use Rattle.bench_c.specs.Sealing.{bench_record, opened}
use Rattle.bench_c.proofs.sealing.bench_unseal.Goals as goal

pub returns : goal.returns
returns c =
    let payload = c.in-Ok.payload.items in
    opened payload
    (subst (λ key. OpensToBytes key (bench_record c.args.idx c.args.sealed.now c.args.wrapped.now) payload) c.whole_key.ensures c.in-Ok.ensures)
    c.len-3.ensures
    (ap₂ (λ (xs : List ℕ) (n : ℕ). xs ++ drop n c.args.out.now) (c.copy_from_slice.ensures.after ∙ c.as_slice.ensures.items) c.len-2.ensures)
