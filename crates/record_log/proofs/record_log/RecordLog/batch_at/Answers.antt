use Rattle.std.proofs.Common.{◌≡◌, ℕ, sym, subst, Option, None}
use Rattle.log_check.specs.declared.forms.LogForm.TheVariants.{Current}
use Rattle.record_log.specs.Journals.{IsGated}
use Rattle.record_log.specs.Reading.{IsGate}
use Rattle.at_edge.specs.Storing.{Tells}
use Rattle.record_log.proofs.ReadBack.{gate_opens, rest_inside}
use Rattle.record_log.proofs.record_log.RecordLog.batch_at.Goals as goal

pub read_batch_at-requires : goal.read_batch_at-requires
read_batch_at-requires g c =
    let none : c.self.inside.doubt ≡ None = subst (λ v. v.doubt ≡ None) (sym c.self.view_is) c.requires.settled in
    let rests = subst (λ (d : Option ℕ). IsGated (g.D.Disk.disk c.self.inside.disk) c.self.inside.gate d) none c.self.invariant in
    let is = subst (λ v. Tells v.disk (λ d. IsGate v.gate c.args.offset d.shows)) (sym c.self.view_is) c.requires.gate in
    gate_opens Current c.self.inside.gate c.args.offset (g.D.Disk.disk c.self.inside.disk).history c.if-offset-self.false (rest_inside c.self.inside.gate (g.D.Disk.disk c.self.inside.disk).history rests) is
