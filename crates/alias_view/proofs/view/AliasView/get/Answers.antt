use Rattle.std.proofs.Common.{ap, ◌∙◌}
use Rattle.view_rules.specs.Standing.{value_of}
use Rattle.latest_values.specs.Settings.{Places, said_of}
use Rattle.alias_view.proofs.Growing.{shows}
use Rattle.alias_view.proofs.view.AliasView.get.Goals as goal

pub returns-clause-shown : goal.returns-clause-shown
returns-clause-shown c = λ changes value. shows c.args.self.now changes c.args.name.now value _ (c.get.ensures ∙ ap (λ (s : Places). value_of (said_of s c.args.name.now)) c.self.view_is)
