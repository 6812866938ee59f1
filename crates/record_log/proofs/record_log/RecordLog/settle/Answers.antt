use Rattle.std.proofs.Common.{◌≡◌, ℕ, ◌+◌, ◌-◌, ◌^◌, refl, sym, ◌∙◌, ap, subst, Option, Some, None}
use Rattle.std.specs.Prelude.{min}
use Rattle.log_rules.specs.Log.{current_form}
use Rattle.record_log.specs.Journals.{IsGated}
use Rattle.record_log.proofs.Outcomes.{settle_done, settle_fails, settled_rests, doubt_rests, no_end, entries_counted, settle_spot, open_failed_below, opened_below}
use Rattle.at_edge.proofs.DiskRuns.{arrived}
use Rattle.record_log.proofs.record_log.RecordLog.settle.Goals as goal

pub invariant_of-self : goal.invariant_of-self
invariant_of-self g c =
    let doubtful = subst (λ (d : Option ℕ). IsGated (g.D.Disk.disk c.self.inside.disk) c.self.inside.gate d) c.in-Some.is c.self.invariant in
    subst (λ (d : Option ℕ). IsGated (g.D.Disk.disk c.open_gate.new.disk) c.self.inside.gate d) (sym c.in-Some.is) (doubt_rests c.self.inside.gate (20 + c.in-Some.count) _ _ doubtful c.in-Err.ensures.opens)

pub returns-in-Err-clause-settles : goal.returns-in-Err-clause-settles
returns-in-Err-clause-settles g c = rw (← c.self.view_is) (λ journal more has.
    let run = settle_fails current_form c.self.inside.gate c.self.inside.host journal more _ _ has.holds c.in-Err.ensures.opens in
    (record { doubt = has.doubt; holds = arrived _ _ _ _ run }, no_end _ _ _ _ run))

pub invariant_of-self-2 : goal.invariant_of-self-2
invariant_of-self-2 g c =
    let doubtful = subst (λ (d : Option ℕ). IsGated (g.D.Disk.disk c.self.inside.disk) c.self.inside.gate d) c.in-Some.is c.self.invariant in
    let next_is = c.saturating_add-next.ensures ∙ (λ i. min (c.saturating_add-behind.ensures i + c.from.ensures i) (2 ^ 64 - 1)) in
    settled_rests c.self.inside.gate c.in-Some.count _ _ _ doubtful next_is c.in-Ok.ensures.opens

pub returns-clause-settles : goal.returns-clause-settles
returns-clause-settles g c = rw (← c.self.view_is) (λ journal more has.
    let doubtful = subst (λ (d : Option ℕ). IsGated (g.D.Disk.disk c.self.inside.disk) c.self.inside.gate d) c.in-Some.is c.self.invariant in
    let next_is = c.saturating_add-next.ensures ∙ (λ i. min (c.saturating_add-behind.ensures i + c.from.ensures i) (2 ^ 64 - 1)) in
    let same : Some c.in-Some.count ≡ Some _ = sym c.in-Some.is ∙ has.doubt in
    let count_is : c.in-Some.count ≡ _ = ap (λ (o : Option ℕ). elim o [ Some n ↦ n | None ↦ 0 ]) same in
    let run = settle_done current_form c.self.inside.gate c.in-Some.count c.saturating_add-next.result c.self.inside.host journal more _ _ doubtful (ap (λ (n : ℕ). 20 + n) count_is ∙ entries_counted c.self.inside.gate more) next_is has.holds c.in-Ok.ensures.opens in
    let spot = settle_spot c.self.inside.gate c.in-Some.count c.saturating_add-next.result c.self.inside.host journal more _ _ doubtful (ap (λ (n : ℕ). 20 + n) count_is ∙ entries_counted c.self.inside.gate more) next_is has.holds c.in-Ok.ensures.opens in
    (record { settled = refl; holds = arrived _ _ _ _ run }, spot, no_end _ _ _ _ run))

pub returns-in-Err-clause-below : goal.returns-in-Err-clause-below
returns-in-Err-clause-below g c = rw (← c.self.view_is) (
    let doubtful = subst (λ (d : Option ℕ). IsGated (g.D.Disk.disk c.self.inside.disk) c.self.inside.gate d) c.in-Some.is c.self.invariant in
    open_failed_below c.self.inside.gate (20 + c.in-Some.count) _ _ doubtful c.in-Err.ensures.opens)

pub returns-clause-below : goal.returns-clause-below
returns-clause-below g c = rw (← c.self.view_is) (
    let doubtful = subst (λ (d : Option ℕ). IsGated (g.D.Disk.disk c.self.inside.disk) c.self.inside.gate d) c.in-Some.is c.self.invariant in
    opened_below c.self.inside.gate (20 + c.in-Some.count) _ _ doubtful c.in-Ok.ensures.opens)
