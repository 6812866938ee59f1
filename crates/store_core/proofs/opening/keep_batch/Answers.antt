use Rattle.std.proofs.Common.{◌++◌, List, ap, subst}
use Rattle.record_rules.specs.Journal.{Sound}
use Rattle.log_rules.specs.Opened.{opened_journal}
use Rattle.record_model.specs.declared.entries.Event as model
use Rattle.record_model.specs.Seen.{caller_seen, events_seen}
use Rattle.log_check.specs.Checking.{IsChecked}
use Rattle.store_core.proofs.Opened.{may_add, batch_kept}
use Rattle.store_core.proofs.opening.keep_batch.Goals as goal

pub returns-in-Ok-false-clause-keeps : goal.returns-in-Ok-false-clause-keeps
returns-in-Ok-false-clause-keeps c = λ before filed kept.
    subst (λ (es : List model.Event). Sound (opened_journal (before ++ events_seen es)) c.args.check.now.host → ⊥) c.as_slice.ensures.value (rw c.in-Ok-false.field-0-test at (c.in-Ok-false.ensures.checks before kept.checked))

pub add-requires : goal.add-requires
add-requires c =
    let before = c.requires.kept.0 in
    let filed = c.requires.kept.1 in
    let kept = c.requires.kept.2 in
    let checked = subst (λ (es : List model.Event). IsChecked c.check_all.new.check (before ++ events_seen es)) c.as_slice.ensures.value (rw c.in-Ok-true.field-0-test at (c.in-Ok-true.ensures.checks before kept.checked)) in (
      c.args.check.now.host,
      c.args.key.now,
      filed,
      may_add c.args.key.now c.args.tables.now c.args.check.now c.check_all.new.check before (events_seen c.args.events.items) filed kept c.in-Ok-true.ensures.host checked c.ready.new.self c.in-Ok.batch (ap events_seen c.in-Ok.ensures.events)
          (c.in-Ok.ensures.same c.args.check.now.host c.args.key.now filed kept.are_of) c.in-Ok.ensures.ready,
    )

pub returns-in-Ok-clause-keeps : goal.returns-in-Ok-clause-keeps
returns-in-Ok-clause-keeps c = λ before filed kept.
    let checked = subst (λ (es : List model.Event). IsChecked c.check_all.new.check (before ++ events_seen es)) c.as_slice.ensures.value (rw c.in-Ok-true.field-0-test at (c.in-Ok-true.ensures.checks before kept.checked)) in
    let say = ap events_seen c.in-Ok.ensures.events in
    let may = may_add c.args.key.now c.args.tables.now c.args.check.now c.check_all.new.check before (events_seen c.args.events.items) filed kept c.in-Ok-true.ensures.host checked c.ready.new.self c.in-Ok.batch say (c.in-Ok.ensures.same c.args.check.now.host c.args.key.now filed kept.are_of) c.in-Ok.ensures.ready in
    batch_kept c.args.key.now c.args.tables.now c.args.check.now c.check_all.new.check before (events_seen c.args.events.items) filed kept c.in-Ok-true.ensures.host checked c.add.new.self c.in-Ok.batch c.args.spot say (ap caller_seen c.in-Ok.ensures.caller)
    (c.add.ensures c.args.check.now.host c.args.key.now filed may)
