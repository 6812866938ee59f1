use Rattle.record_log.proofs.Opened.{failed_sync_leaves, leaves_no_more, open_fails, opened_rests, opened}
use Rattle.record_log.proofs.record_log.RecordLog.open_on.Goals as goal

pub returns-in-Err-clause-crash : goal.returns-in-Err-clause-crash
returns-in-Err-clause-crash g c = failed_sync_leaves (g.D.Disk.disk c.args.disk).history (g.D.Disk.disk c.sync.new.self).history c.in-Err.ensures.0

pub invariant_of-result : goal.invariant_of-result
invariant_of-result g c =
    let found = c.in-Ok-find_log.ensures in
    opened_rests (g.D.Disk.disk c.args.disk) (g.D.Disk.disk c.sync.new.self) (g.D.Disk.disk c.find_log.new.disk) c.in-Ok-find_log.host c.in-Ok-find_log.gate c.in-Ok.ensures.0 found.rests (g.met.D.Disk.whole c.find_log.new.disk) found.finds found.fits

pub returns-in-Ok-find_log-clause-opens : goal.returns-in-Ok-find_log-clause-opens
returns-in-Ok-find_log-clause-opens g c =
    let found = c.in-Ok-find_log.ensures in
    opened (g.D.Disk.disk c.args.disk) (g.D.Disk.disk c.sync.new.self) (g.D.Disk.disk c.find_log.new.disk) c.in-Ok-find_log.host c.in-Ok-find_log.gate c.in-Ok.ensures.0 found.rests (g.met.D.Disk.whole c.find_log.new.disk) found.finds c.in-Ok.ensures.1

pub returns-in-Ok-find_log-clause-crash : goal.returns-in-Ok-find_log-clause-crash
returns-in-Ok-find_log-clause-crash g c = leaves_no_more (g.D.Disk.disk c.args.disk) (g.D.Disk.disk c.sync.new.self) (g.D.Disk.disk c.find_log.new.disk) (g.met.D.Disk.whole c.args.disk) c.in-Ok.ensures.0 c.in-Ok-find_log.ensures.rests

pub returns-in-Err-find_log-clause-opens : goal.returns-in-Err-find_log-clause-opens
returns-in-Err-find_log-clause-opens g c =
    open_fails c.in-Err-find_log.fail (g.D.Disk.disk c.args.disk) (g.D.Disk.disk c.sync.new.self) (g.D.Disk.disk c.find_log.new.disk) c.in-Ok.ensures.0 c.in-Ok.ensures.1 c.in-Err-find_log.ensures.rests c.in-Err-find_log.ensures.finds

pub returns-in-Err-find_log-clause-crash : goal.returns-in-Err-find_log-clause-crash
returns-in-Err-find_log-clause-crash g c = leaves_no_more (g.D.Disk.disk c.args.disk) (g.D.Disk.disk c.sync.new.self) (g.D.Disk.disk c.find_log.new.disk) (g.met.D.Disk.whole c.args.disk) c.in-Ok.ensures.0 c.in-Err-find_log.ensures.rests
