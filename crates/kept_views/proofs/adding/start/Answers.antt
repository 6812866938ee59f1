use Rattle.std.proofs.Common.{◌∙◌}
use Rattle.std.proofs.lemmas.Bool.{true≢false}
use Rattle.record_model.specs.Seen.{started_seen}
use Rattle.kept_views.proofs.Starting.{start_is_new}
use Rattle.kept_views.proofs.adding.start.Goals as goal

pub returns-else-not-is_known-clause-starts : goal.returns-else-not-is_known-clause-starts
returns-else-not-is_known-clause-starts c = λ host journal entry is says sound.
    absurd (true≢false (c.if-not-is_known.ensures.known ∙ start_is_new c.args.commands.now host journal entry (started_seen c.args.started) is says sound))
