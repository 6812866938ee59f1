use Rattle.std.proofs.Common.{sym, subst}
use Rattle.log_rules.specs.Log.{old_form}
use Rattle.log_check.specs.declared.forms.LogForm.TheVariants.{Old}
use Rattle.record_log.specs.Reading.{IsGateIn}
use Rattle.at_edge.specs.Storing.{Tells}
use Rattle.record_log.proofs.ReadBack.{gate_opens, old_inside}
use Rattle.record_log.proofs.old_log.OldLog.batch_at.Goals as goal

pub read_batch_at-requires : goal.read_batch_at-requires
read_batch_at-requires g c =
    let is = subst (λ v. Tells v.disk (λ d. IsGateIn old_form v.gate c.args.offset d.shows)) (sym c.self.view_is) c.requires in
    gate_opens Old c.self.inside.gate c.args.offset (g.D.Disk.disk c.self.inside.disk).history c.if-offset-self.false (old_inside c.self.inside.host c.self.inside.gate (g.D.Disk.disk c.self.inside.disk).history c.self.invariant) is
