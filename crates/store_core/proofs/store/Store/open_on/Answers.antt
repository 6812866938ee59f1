use Rattle.std.proofs.Common.{Err, sym, subst, ◌∙◌}
use Rattle.at_edge.specs.Storing.{DiskSeen}
use Rattle.record_log.specs.declared.reading.ReadFail.{ReadFail}
use Rattle.record_log.specs.declared.opening.OpenFail.TheVariants as fails
use Rattle.record_log.specs.Reading.{ReadCause}
use Rattle.record_log.specs.Opening.{LeavesNoMore, OpenCause}
use Rattle.store_tables.specs.declared.tables.Tables.{Tables}
use Rattle.store_core.proofs.Opened.{synced_then, leaves_then, store_opened, walk_failed}
use Rattle.store_core.proofs.store.Store.open_on.Goals as goal

pub keep_log-requires : goal.keep_log-requires
keep_log-requires g c = (c.in-Ok.ensures.opens.events, c.in-Ok.ensures.opens.journal_is)

pub returns-in-Ok-keep_log-clause-opens : goal.returns-in-Ok-keep_log-clause-opens
returns-in-Ok-keep_log-clause-opens g c =
    let opened = c.in-Ok.ensures.opens in
    store_opened (g.D.Disk.disk c.args.disk) c.in-Ok.log c.keep_log.new.log c.args.key c.in-Ok-keep_log.tables opened c.in-Ok-keep_log.ensures.rests c.in-Ok-keep_log.ensures.host (c.in-Ok-keep_log.ensures.keeps opened.events opened.journal_is)

pub returns-in-Ok-keep_log-clause-crash : goal.returns-in-Ok-keep_log-clause-crash
returns-in-Ok-keep_log-clause-crash g c = leaves_then (g.D.Disk.disk c.args.disk).history c.in-Ok.log.disk c.keep_log.new.log.disk c.in-Ok-keep_log.ensures.rests c.in-Ok.ensures.crash

pub returns-in-Ok-keep_log-clause-silent : goal.returns-in-Ok-keep_log-clause-silent
returns-in-Ok-keep_log-clause-silent g c = λ none. c.in-Ok-keep_log.ensures.rests.history ∙ c.in-Ok.ensures.silent none

pub returns-in-Err-DiskFault-clause-opens : goal.returns-in-Err-DiskFault-clause-opens
returns-in-Err-DiskFault-clause-opens g c =
    let rose = subst (λ (f : ReadFail). ReadCause {T = Tables} (Err f) c.in-Ok.log.disk c.keep_log.new.log.disk) c.in-Err-DiskFault.field-0-is c.in-Err-DiskFault.ensures.cause in
    subst (λ (seen : DiskSeen). OpenCause fails.DiskFault (g.D.Disk.disk c.args.disk) seen) (sym c.into_disk.ensures) (walk_failed (g.D.Disk.disk c.args.disk) c.in-Ok.log.disk c.keep_log.new.log.disk c.in-Ok.ensures.opens.synced c.in-Err-DiskFault.ensures.rests rose)

pub returns-in-Err-DiskFault-clause-crash : goal.returns-in-Err-DiskFault-clause-crash
returns-in-Err-DiskFault-clause-crash g c =
    subst (λ (seen : DiskSeen). LeavesNoMore (g.D.Disk.disk c.args.disk).history seen.history) (sym c.into_disk.ensures) (leaves_then (g.D.Disk.disk c.args.disk).history c.in-Ok.log.disk c.keep_log.new.log.disk c.in-Err-DiskFault.ensures.rests c.in-Ok.ensures.crash)

pub returns-in-Err-NoMemory-clause-opens : goal.returns-in-Err-NoMemory-clause-opens
returns-in-Err-NoMemory-clause-opens g c =
    subst (λ (seen : DiskSeen). OpenCause fails.NoMemory (g.D.Disk.disk c.args.disk) seen) (sym c.into_disk-in-Err-NoMemory.ensures) (synced_then (g.D.Disk.disk c.args.disk) c.in-Ok.log.disk c.keep_log.new.log.disk c.in-Ok.ensures.opens.synced c.in-Err-NoMemory.ensures.rests)

pub returns-in-Err-NoMemory-clause-crash : goal.returns-in-Err-NoMemory-clause-crash
returns-in-Err-NoMemory-clause-crash g c =
    subst (λ (seen : DiskSeen). LeavesNoMore (g.D.Disk.disk c.args.disk).history seen.history) (sym c.into_disk-in-Err-NoMemory.ensures) (leaves_then (g.D.Disk.disk c.args.disk).history c.in-Ok.log.disk c.keep_log.new.log.disk c.in-Err-NoMemory.ensures.rests c.in-Ok.ensures.crash)
