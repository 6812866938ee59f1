use Rattle.std.proofs.Common.{◌+◌, sym, ap, subst, ◌∙◌, List, take, map}
use Rattle.std.specs.Option.{option_map}
use Rattle.serde_json.specs.View.{view}
use Rattle.record_model.specs.Seen.{record_seen, records_seen}
use Rattle.record_model.specs.declared.sealed.Record.{Record}
use Rattle.record_json.specs.Reading.{AreRecords}
use Rattle.record_json.proofs.Pages.{are_more, first_wrong}
use Rattle.record_json.proofs.record_reading.read_items.Goals as goal

pub returns-in-None : goal.returns-in-None
returns-in-None c =
    c.wrong_at.ensures (map view c.args.items.now) (first_wrong c.args.items.now c.items.records.items c.items.position c.index-items-position.result
    c.items-test.true c.index-items-position.is c.items.invariant (sym c.in_ok-found.ensures ∙ ap (option_map record_seen) c.in-None.is))

pub items-preserved : goal.items-preserved
items-preserved c =
    subst (λ (l : List Record). AreRecords (take (c.items.position + 1) (map view c.args.items.now)) (records_seen l)) (sym c.in_ok-keep-in-Some.ensures)
    (are_more c.args.items.now c.items.records.items c.items.position c.index-items-position.result c.in-Some.found
    c.items-test.true c.index-items-position.is c.items.invariant (ap (option_map record_seen) (sym c.in-Some.is) ∙ c.in_ok-found.ensures))
