use Rattle.std.proofs.Common.{◌≤◌, length, arith}
use Rattle.at_edge.proofs.ExchangeLaws.{took_all}
use Rattle.at_edge.proofs.memory_link.SureLinkSink.write.Goals as goal

pub returns-in-Ok : goal.returns-in-Ok
returns-in-Ok c =
    let within : length c.args.from.now ≤ length c.args.from.now = omega arith in
    (c.requires, within, took_all _ _ c.args.from.now (c.in-Ok.ensures.took _ _ (omega arith)))
