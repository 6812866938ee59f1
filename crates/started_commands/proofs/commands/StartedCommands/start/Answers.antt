use Rattle.std.proofs.Common.{sym, ap, subst, ◌∙◌}
use Rattle.started_commands.specs.Kept.{Kept, IsOf, is_known}
use Rattle.started_commands.proofs.Entries.{start_entry}
use Rattle.started_commands.proofs.commands.StartedCommands.start.Goals as goal

pub returns-clause-starts : goal.returns-clause-starts
returns-clause-starts c = λ journal entry is says.
    start_entry c.self.inside.commands.entries c.put.new.commands.entries journal entry c.args.started (subst (λ (k : Kept). IsOf k journal) (sym c.self.view_is) is) says
    (ap (λ (k : Kept). is_known k c.args.started.id) c.self.view_is ∙ c.requires.new) c.put.ensures.stands
