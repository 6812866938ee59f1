use Rattle.std.proofs.Common.{ap, ◌∙◌}
use Rattle.view_rules.specs.Standing.{value_of}
use Rattle.kv_view.specs.Pairs.{Pairs, said_in}
use Rattle.kv_view.proofs.Held.{shows}
use Rattle.kv_view.proofs.view.KvView.get.Goals as goal

pub returns-clause-shown : goal.returns-clause-shown
returns-clause-shown c = λ changes value. shows c.args.self.now changes c.args.namespace.now c.args.key.now value _ (c.get.ensures ∙ ap (λ (s : Pairs). value_of (said_in s c.args.namespace.now c.args.key.now)) c.self.view_is)
