use Rattle.std.proofs.Common.{refl}
use Rattle.log_rules.specs.Log.{current_form}
use Rattle.record_log.proofs.Created.{created_rests, created_holds}
use Rattle.record_log.proofs.record_log.RecordLog.create.Goals as goal

pub invariant_of-result : goal.invariant_of-result
invariant_of-result g c = created_rests current_form c.args.host c.write_header.result (g.D.Disk.disk c.write_first.new.disk).history c.write_header.ensures (g.met.D.Disk.whole c.write_first.new.disk) c.in-Ok-write_first.ensures.wrote

pub returns-clause-made : goal.returns-clause-made
returns-clause-made g c = (record { settled = refl; holds = created_holds current_form c.args.host c.write_header.result (g.D.Disk.disk c.write_first.new.disk).history c.ranges.host.fits c.write_header.ensures (g.met.D.Disk.whole c.write_first.new.disk) c.in-Ok-write_first.ensures.wrote }, refl)
