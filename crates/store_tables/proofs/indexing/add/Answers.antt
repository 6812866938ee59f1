use Rattle.std.proofs.Common.{sym, ap, ◌∙◌}
use Rattle.record_model.specs.Seen.{started_seen, event_seen}
use Rattle.store_tables.proofs.indexing.add.Goals as goal

pub returns-in-Started-clause-files : goal.returns-in-Started-clause-files
returns-in-Started-clause-files c = λ filed entry is says.
    c.add_started.ensures.files filed (record { entry = entry; spot = c.args.spot; at = c.args.at }) (started_seen c.in-Started.started) is (says ∙ ap event_seen c.in-Started.is) (sym c.weight.ensures.value)
