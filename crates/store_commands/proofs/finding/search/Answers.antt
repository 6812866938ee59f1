use Rattle.std.proofs.Common.{sym, subst}
use Rattle.log_rules.specs.Opened.{opened_journal}
use Rattle.model_words.specs.Seen.{query_seen}
use Rattle.at_edge.specs.Storing.{DiskSeen}
use Rattle.store_commands.specs.Finding.{FindsHits}
use Rattle.store_commands.proofs.Kept.{found}
use Rattle.store_commands.proofs.finding.search.Goals as goal

pub returns-clause-finds : goal.returns-clause-finds
returns-clause-finds g c =
    let old = g.D.Disk.disk c.args.disk in
    let sink_old = g.K.Sink.sink c.args.sink.now in
    let sink_new = g.K.Sink.sink c.print_hits.new.sink in
    let opens = c.in-Ok.ensures.opens in
    subst (λ (d : DiskSeen). FindsHits c.print_hits.result c.args.key_text.now (query_seen c.args.query) old d sink_old sink_new) (sym c.into_disk.ensures)
    (found old c.in-Ok.store opens c.in-Ok.ensures.settled sink_old sink_new c.print_hits.result c.args.key_text.now c.in-Some.key (query_seen c.args.query) (sym c.in-Some.ensures)
    (c.print_hits.ensures c.in-Some.key (opened_journal opens.events) c.in-Ok.ensures.key opens.is))
