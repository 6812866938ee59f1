use Rattle.std.proofs.Common.{sym, ◌∙◌}
use Rattle.accounts.proofs.NextLine.{is_added, is_refused}
use Rattle.accounts.proofs.accounts.Accounts.read.Goals as goal

pub returns-in-Err : goal.returns-in-Err
returns-in-Err c =
    is_refused c.args.bytes.now c.loop-rest.rest.now c.split_at_first.result.0.now c.split_at_first.result.1.now c.loop-rest.accounts
    (sym c.is_empty.ensures ∙ c.loop-rest-test.true) c.split_at_first.ensures.before c.split_at_first.ensures.behind c.loop-rest.invariant
    c.add.new.self c.in-Err.fail c.in-Err.ensures

pub loop-rest-preserved : goal.loop-rest-preserved
loop-rest-preserved c =
    is_added c.args.bytes.now c.loop-rest.rest.now c.split_at_first.result.0.now c.split_at_first.result.1.now c.loop-rest.accounts
    (sym c.is_empty.ensures ∙ c.loop-rest-test.true) c.split_at_first.ensures.before c.split_at_first.ensures.behind c.loop-rest.invariant
    c.add.new.self c.in-Ok.ensures
