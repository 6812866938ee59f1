use Rattle.std.proofs.Common.{sym, ◌∙◌, subst}
use Rattle.commands.specs.declared.migrating.MigrateFail.{MigrateFail}
use Rattle.commands.specs.Migrating.{StopsCopy}
use Rattle.commands.proofs.Copies.{all_copied, not_all_copied}
use Rattle.commands.proofs.migrating.copy_to.Goals as goal

pub returns-in-Ok-copy_log-clause-copies : goal.returns-in-Ok-copy_log-clause-copies
returns-in-Ok-copy_log-clause-copies g c =
    all_copied c.args.old.now (g.E.Disk.disk c.args.second) c.in-Ok.new.disk (g.E.Disk.disk c.into_disk.result) c.copy_log.new.into c.in-Ok.ensures.empty c.in-Ok.ensures.kept c.in-Ok-copy_log.ensures.kept
    (c.in-Ok-copy_log.ensures.host ∙ (c.in-Ok.ensures.made.1 ∙ c.host.ensures)) c.into_disk.ensures c.in-Ok-copy_log.count c.in-Ok-copy_log.ensures.copies

pub returns-in-Err-copy_log-clause-copies : goal.returns-in-Err-copy_log-clause-copies
returns-in-Err-copy_log-clause-copies g c =
    let left = g.E.Disk.disk c.into_disk-in-Err-copy_log.result in
    subst (λ (fail : MigrateFail). StopsCopy fail c.args.old.now c.copy_log.new.old.disk (g.E.Disk.disk c.args.second) left) (sym c.not_copied.ensures)
    (not_all_copied c.args.old.now (g.E.Disk.disk c.args.second) c.in-Ok.new.disk left c.copy_log.new.into c.in-Ok.ensures.empty c.in-Ok.ensures.kept c.in-Err-copy_log.ensures.kept
    (c.in-Err-copy_log.ensures.host ∙ (c.in-Ok.ensures.made.1 ∙ c.host.ensures)) c.into_disk-in-Err-copy_log.ensures c.in-Err-copy_log.fail c.copy_log.new.old.disk c.in-Err-copy_log.ensures.copies c.in-Err-copy_log.ensures.cause)
