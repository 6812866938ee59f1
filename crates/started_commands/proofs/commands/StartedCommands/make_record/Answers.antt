use Rattle.std.proofs.Common.{Option, None, ℕ, refl, ap, ◌∙◌}
use Rattle.record_rules.specs.Records.{Local}
use Rattle.started_commands.proofs.Entries.{same_entry, end_entry}
use Rattle.started_commands.proofs.commands.StartedCommands.make_record.Goals as goal

pub returns-in-Some-clause-ends : goal.returns-in-Some-clause-ends
returns-in-Some-clause-ends c = λ journal entry r is says.
    end_entry c.args.self.now c.end.new.self journal entry c.in-Some.id r is (says ∙ ap (λ (o : Option ℕ). Local o r) c.in-Some.is) c.end.ensures.known c.end.ensures.running

pub returns-in_default-clause-ends : goal.returns-in_default-clause-ends
returns-in_default-clause-ends c = λ journal entry r is says. same_entry c.args.self.now journal entry (Local None r) (says ∙ ap (λ (o : Option ℕ). Local o r) c.in_default.is) (λ q. refl) refl is
