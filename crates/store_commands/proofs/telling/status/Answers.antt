use Rattle.std.proofs.Common.{sym, subst}
use Rattle.log_rules.specs.Opened.{opened_journal}
use Rattle.at_edge.specs.Storing.{DiskSeen}
use Rattle.store_commands.specs.Telling.{TellsStatus}
use Rattle.store_commands.proofs.Kept.{told}
use Rattle.store_commands.proofs.telling.status.Goals as goal

pub returns-clause-tells : goal.returns-clause-tells
returns-clause-tells g c =
    let old = g.D.Disk.disk c.args.disk in
    let sink_old = g.K.Sink.sink c.args.sink.now in
    let sink_new = g.K.Sink.sink c.print_chains.new.sink in
    let opens = c.in-Ok.ensures.opens in
    subst (λ (d : DiskSeen). TellsStatus c.print_chains.result old d sink_old sink_new) (sym c.into_disk.ensures)
    (told old c.in-Ok.store opens c.in-Ok.ensures.settled sink_old sink_new c.print_chains.result (c.print_chains.ensures (opened_journal opens.events) opens.is))
