use Rattle.std.proofs.Common.{sym, subst, Err}
use Rattle.at_edge.specs.Storing.{DiskSeen}
use Rattle.log_check.proofs.Telling.{rests_then}
use Rattle.commands.specs.Migrating.{Migrates}
use Rattle.commands.proofs.Copies.{copied_ends, stopped_ends}
use Rattle.commands.proofs.migrating.migrate.Goals as goal

pub returns-in-Ok-copy_to : goal.returns-in-Ok-copy_to
returns-in-Ok-copy_to g c =
    let first = g.D.Disk.disk c.args.disk in
    let last = c.copy_to.new.old.disk in
    let old = g.E.Disk.disk c.args.second in
    let new = g.E.Disk.disk c.in-Ok-copy_to.second in
    let sink_old = g.K.Sink.sink c.args.sink.now in
    let sink_new = g.K.Sink.sink c.print_count.new.sink in
    let opened = c.in-Ok.ensures.opens in
    subst (λ (d : DiskSeen). Migrates c.print_count.result first d old new sink_old sink_new) (sym c.into_disk.ensures)
    (record {
      rests = rests_then first c.in-Ok.old.disk last opened.rests c.in-Ok-copy_to.ensures.rests;
      ends = copied_ends first last c.in-Ok.old old new opened c.print_count.result c.in-Ok-copy_to.count sink_old sink_new c.in-Ok-copy_to.ensures.copies c.print_count.ensures;
    })

pub returns-in-Err-copy_to : goal.returns-in-Err-copy_to
returns-in-Err-copy_to g c =
    let first = g.D.Disk.disk c.args.disk in
    let last = c.copy_to.new.old.disk in
    let old = g.E.Disk.disk c.args.second in
    let new = g.E.Disk.disk c.in-Err-copy_to.second in
    let sink = g.K.Sink.sink c.args.sink.now in
    let opened = c.in-Ok.ensures.opens in
    subst (λ (d : DiskSeen). Migrates (Err c.in-Err-copy_to.fail) first d old new sink sink) (sym c.into_disk-in-Err-copy_to.ensures)
    (record {
      rests = rests_then first c.in-Ok.old.disk last opened.rests c.in-Err-copy_to.ensures.rests;
      ends = stopped_ends first last c.in-Ok.old old new opened c.in-Err-copy_to.fail sink c.in-Err-copy_to.ensures.copies;
    })
