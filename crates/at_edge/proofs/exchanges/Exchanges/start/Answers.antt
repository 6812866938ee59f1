use Rattle.std.proofs.Common.{List, refl, ap, Some}
use Rattle.at_edge.specs.Exchanging.{begun_of}
use Rattle.at_edge.specs.declared.exchanges.KeptExchange.{KeptExchange}
use Rattle.at_edge.proofs.exchanges.Exchanges.start.Goals as goal

pub returns-then-is_err-clause-undone : goal.returns-then-is_err-clause-undone
returns-then-is_err-clause-undone c = λ before after kept.
    let now = c.args.self.now in
    record { left = refl; exchanges = ap (λ (l : List KeptExchange). Some (begun_of now.is_under_way now.current l)) c.reserve.ensures.items; faults = kept }
