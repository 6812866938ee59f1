use Rattle.std.proofs.Common.{ℕ, ◌++◌, List, take, refl, sym, subst, ◌∙◌}
use Rattle.std.proofs.lemmas.List.{take_all}
use Rattle.record_rules.specs.Journal.{Sound}
use Rattle.log_rules.specs.Opened.{opened_journal}
use Rattle.record_model.specs.declared.entries.Event as model
use Rattle.record_model.specs.Seen.{events_seen}
use Rattle.log_check.specs.Checking.{IsChecked}
use Rattle.store_core.proofs.Opened.{none_checked, next_checked, next_refused}
use Rattle.store_core.proofs.opening.check_all.Goals as goal

pub loop-event-init : goal.loop-event-init
loop-event-init c = record { checked = λ before is. none_checked c.args.check.now before is; host = refl }

pub returns-in-Ok-false-clause-checks : goal.returns-in-Ok-false-clause-checks
returns-in-Ok-false-clause-checks c = λ before is sound.
    let so_far = before ++ events_seen (take c.loop-event.event-index c.args.events.now) in
    let refused = rw c.in-Ok-false.field-0-test at (c.in-Ok-false.ensures.takes (opened_journal so_far) (c.loop-event.invariant.checked before is).keeps) in
    next_refused before c.args.events.now c.loop-event.event-index c.event-item.result c.loop-event-test.true c.event-item.is c.loop-event.check.host refused
    (subst (λ (h : ℕ). Sound (opened_journal (before ++ events_seen c.args.events.now)) h) (sym c.loop-event.invariant.host) sound)

pub loop-event-preserved : goal.loop-event-preserved
loop-event-preserved c = record {
  checked = λ before is.
      let so_far = before ++ events_seen (take c.loop-event.event-index c.args.events.now) in
      let took = rw c.in-Ok-true.field-0-test at (c.in-Ok-true.ensures.takes (opened_journal so_far) (c.loop-event.invariant.checked before is).keeps) in
      next_checked before c.args.events.now c.loop-event.event-index c.event-item.result c.loop-event-test.true c.event-item.is c.loop-event.check c.take.new.self (c.loop-event.invariant.checked before is) c.in-Ok-true.ensures.host took;
  host = c.in-Ok-true.ensures.host ∙ c.loop-event.invariant.host;
}

pub returns-clause-checks : goal.returns-clause-checks
returns-clause-checks c = λ before is.
    subst (λ (es : List model.Event). IsChecked c.loop-event.check (before ++ events_seen es)) (take_all c.loop-event.event-index c.args.events.now c.loop-event-test.false) (c.loop-event.invariant.checked before is)
