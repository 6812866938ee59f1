use Rattle.std.proofs.Common.{sym, ◌∙◌}
use Rattle.std.proofs.lemmas.List.Folds.{list_all-map}
use Rattle.record_model.specs.Seen.{record_seen}
use Rattle.record_rules.specs.Journal.{in_place}
use Rattle.sync_wire.proofs.asking.are_in_place.Goals as goal

pub returns : goal.returns
returns c = c.all_in_place.ensures ∙ sym (list_all-map (in_place c.args.host c.args.tag.now) record_seen c.args.records.now)
