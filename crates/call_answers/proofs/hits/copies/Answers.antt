use Rattle.std.proofs.Common.{ap, ◌∙◌}
use Rattle.record_model.specs.Seen.{histories_seen}
use Rattle.call_answers.proofs.Shown.{copied_more, copied_all}
use Rattle.call_answers.proofs.hits.copies.Goals as goal

pub loop-command-preserved : goal.loop-command-preserved
loop-command-preserved c =
    ap histories_seen c.in_ok-push.ensures.items
    ∙ copied_more c.loop-command.hits.items c.in_ok-copy.field-0 c.args.shown.now c.loop-command.command-index _ c.loop-command-test.true c.loop-command.invariant c.in_ok-copy.ensures

pub returns : goal.returns
returns c = c.loop-command.invariant ∙ copied_all c.args.shown.now c.loop-command.command-index c.loop-command-test.false
