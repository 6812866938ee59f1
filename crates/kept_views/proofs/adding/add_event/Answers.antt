use Rattle.std.proofs.Common.{refl, sym, ap, subst, ◌∙◌}
use Rattle.record_rules.specs.Records.{Local, Taken}
use Rattle.record_model.specs.Seen.{started_seen, record_seen, event_seen}
use Rattle.started_commands.specs.Kept.{Kept, IsOf}
use Rattle.started_commands.proofs.Entries.{taken_changes_nothing}
use Rattle.kept_views.proofs.Ready.{rooms_of_commands}
use Rattle.kept_views.proofs.Growing.{started_keeps, record_keeps}
use Rattle.kept_views.proofs.adding.add_event.Goals as goal

pub returns-in-Started-clause-grows : goal.returns-in-Started-clause-grows
returns-in-Started-clause-grows c = λ host key journal entry says may.
    let is_start = says ∙ ap event_seen c.in-Started.is in
    started_keeps host key c.args.kept.now (record c.args.kept.now { commands = c.start.new.commands }) journal entry c.args.room may (started_seen c.in-Started.started) is_start
    (record { history = λ changes means. means; pairs = λ changes means. means; aliases = λ changes means. means }) (λ is. c.start.ensures.starts host journal entry is is_start may.sound)

pub returns-in-Local-clause-grows : goal.returns-in-Local-clause-grows
returns-in-Local-clause-grows c = λ host key journal entry says may.
    let made = says ∙ ap event_seen c.in-Local.is in
    record_keeps host key c.args.kept.now (record c.show.new.kept { commands = c.make_record.new.self }) journal entry c.args.room may (record_seen c.in-Local.rec) (Local c.in-Local.closes (record_seen c.in-Local.rec)) made refl
    (λ shown holds. let grown = c.show.ensures.grows shown holds in record { history = grown.history; pairs = grown.pairs; aliases = grown.aliases })
    (λ is. c.make_record.ensures.ends journal entry (record_seen c.in-Local.rec) (subst (λ (k : Kept). IsOf k journal) (sym c.show.ensures.commands) is) made)

pub returns-in-Local-clause-rooms : goal.returns-in-Local-clause-rooms
returns-in-Local-clause-rooms c = λ event shown room ready. rooms_of_commands c.show.new.kept c.make_record.new.self c.make_record.ensures.kept event shown room (c.show.ensures.rooms event shown room ready)

pub returns-in-Taken-clause-grows : goal.returns-in-Taken-clause-grows
returns-in-Taken-clause-grows c = λ host key journal entry says may.
    let taken = says ∙ ap event_seen c.in-Taken.is in
    record_keeps host key c.args.kept.now c.show-in-Taken.new.kept journal entry c.args.room may (record_seen c.in-Taken.rec) (Taken c.in-Taken.owner (record_seen c.in-Taken.rec)) taken refl c.show-in-Taken.ensures.grows
    (λ is. taken_changes_nothing c.show-in-Taken.new.kept.commands journal entry c.in-Taken.owner (record_seen c.in-Taken.rec) (subst (λ (k : Kept). IsOf k journal) (sym c.show-in-Taken.ensures.commands) is) taken)
