use Rattle.std.proofs.Common.{◌≡◌, ℕ, ◌+◌, length, sym, ◌∙◌, ap, inl, subst, Option, None}
use Rattle.log_rules.specs.Log.{current_form}
use Rattle.record_log.specs.Gates.{payload_in}
use Rattle.record_log.specs.Journals.{IsGated}
use Rattle.record_log.proofs.Outcomes.{stage_fails, rest_stays, doubt_begins, batch_closes, batch_counted, no_end, stage_then_settle, stage_failed_below, staged_below}
use Rattle.at_edge.proofs.DiskRuns.{arrived}
use Rattle.record_log.proofs.record_log.RecordLog.append.Goals as goal

pub stage-requires-clause-closing : goal.stage-requires-clause-closing
stage-requires-clause-closing g c = batch_closes c.args.batch c.bytes.result.now c.bytes.ensures

pub invariant_of-self : goal.invariant_of-self
invariant_of-self g c =
    let none : c.self.inside.doubt ≡ None = subst (λ v. v.doubt ≡ None) (sym c.self.view_is) c.requires.settled in
    let rests = subst (λ (d : Option ℕ). IsGated (g.D.Disk.disk c.self.inside.disk) c.self.inside.gate d) none c.self.invariant in
    subst (λ (d : Option ℕ). IsGated (g.D.Disk.disk c.stage.new.disk) c.self.inside.gate d) (sym none) (rest_stays c.self.inside.gate _ _ rests c.in-Err.ensures.stages)

pub returns-in-Err-clause-appends : goal.returns-in-Err-clause-appends
returns-in-Err-clause-appends g c = rw (← c.self.view_is) (λ journal more may.
    let run = stage_fails current_form c.self.inside.gate c.self.inside.host journal _ _ may.journal_is.holds c.in-Err.ensures.stages in
    inl (record { settled = may.journal_is.settled; holds = arrived _ _ _ _ run }, no_end _ _ _ _ run))

pub invariant_of-self-2 : goal.invariant_of-self-2
invariant_of-self-2 g c =
    let none : c.self.inside.doubt ≡ None = subst (λ v. v.doubt ≡ None) (sym c.self.view_is) c.requires.settled in
    let rests = subst (λ (d : Option ℕ). IsGated (g.D.Disk.disk c.self.inside.disk) c.self.inside.gate d) none c.self.invariant in
    let count_is : 20 + c.count.result ≡ length (payload_in c.bytes.result.now) = ap (λ (n : ℕ). 20 + n) c.count.ensures ∙ batch_counted c.args.batch c.bytes.result.now c.bytes.ensures in
    doubt_begins c.self.inside.gate _ (payload_in c.bytes.result.now) _ _ rests count_is c.in-Ok.ensures.stages

pub returns-clause-appends : goal.returns-clause-appends
returns-clause-appends g c =
    let placed : c.args.batch.offset ≡ c.self.inside.gate = subst (λ v. c.args.batch.offset ≡ v.gate) (sym c.self.view_is) c.requires.placed in
    rw (← c.self.view_is) (
    stage_then_settle c.self.inside.host c.self.inside.gate c.count.result c.self.inside.doubt (g.D.Disk.disk c.self.inside.disk) (g.D.Disk.disk c.stage.new.disk) c.settle.new.self c.settle.result c.args.batch c.bytes.result.now c.bytes.ensures placed c.count.ensures c.in-Ok.ensures.stages c.settle.ensures.settles)

pub returns-in-Err-clause-below : goal.returns-in-Err-clause-below
returns-in-Err-clause-below g c =
    let none : c.self.inside.doubt ≡ None = subst (λ v. v.doubt ≡ None) (sym c.self.view_is) c.requires.settled in
    let rests = subst (λ (d : Option ℕ). IsGated (g.D.Disk.disk c.self.inside.disk) c.self.inside.gate d) none c.self.invariant in
    rw (← c.self.view_is) (stage_failed_below c.self.inside.gate _ _ rests c.in-Err.ensures.stages)

pub returns-clause-below : goal.returns-clause-below
returns-clause-below g c =
    let none : c.self.inside.doubt ≡ None = subst (λ v. v.doubt ≡ None) (sym c.self.view_is) c.requires.settled in
    let rests = subst (λ (d : Option ℕ). IsGated (g.D.Disk.disk c.self.inside.disk) c.self.inside.gate d) none c.self.invariant in
    rw (← c.self.view_is) (staged_below c.self.inside.gate (payload_in c.bytes.result.now) _ _ _ rests c.in-Ok.ensures.stages c.settle.ensures.below)
