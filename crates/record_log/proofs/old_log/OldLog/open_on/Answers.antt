use Rattle.record_log.proofs.Opened.{old_opened, old_is_sound}
use Rattle.record_log.proofs.old_log.OldLog.open_on.Goals as goal

pub invariant_of-result : goal.invariant_of-result
invariant_of-result g c = old_is_sound (g.D.Disk.disk c.args.disk) (g.D.Disk.disk c.find_old.new.disk) c.in-Ok.host c.in-Ok.gate c.in-Ok.ensures.rests c.in-Ok.ensures.finds

pub returns-in-Ok : goal.returns-in-Ok
returns-in-Ok g c = record { opens = old_opened (g.D.Disk.disk c.args.disk) (g.D.Disk.disk c.find_old.new.disk) c.in-Ok.host c.in-Ok.gate c.in-Ok.ensures.rests c.in-Ok.ensures.finds }
