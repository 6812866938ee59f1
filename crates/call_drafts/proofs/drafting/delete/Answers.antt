use Rattle.std.proofs.Common.{refl}
use Rattle.step_rules.specs.Step.{delete_drafts, delete_unknown}
use Rattle.call_drafts.proofs.There.{command_there, command_gone}
use Rattle.call_drafts.proofs.drafting.delete.Goals as goal

pub returns-in-Some : goal.returns-in-Some
returns-in-Some c = λ store journal keeps. delete_drafts c.args.id refl (command_there c.args.history.now store journal keeps c.args.id _ c.in-Some.ensures) refl

pub returns-in-None : goal.returns-in-None
returns-in-None c = λ store journal keeps. delete_unknown c.args.id refl (command_gone c.args.history.now store journal keeps c.args.id c.in-None.ensures) refl
