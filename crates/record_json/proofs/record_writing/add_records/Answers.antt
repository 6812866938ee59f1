use Rattle.std.proofs.Common.{List, subst}
use Rattle.json.specs.Token.{Token}
use Rattle.record_json.specs.Writing.{Adds}
use Rattle.record_json.proofs.Pages.{adds_then, adds_more}
use Rattle.record_json.proofs.record_writing.add_records.Goals as goal

pub page-preserved : goal.page-preserved
page-preserved c =
    subst (λ (ts : List Token). Adds c.args.writer.now c.add_record.new.writer ts) (adds_more c.args.page.now c.page.r-index c.r-item.result c.page-test.true c.r-item.is)
    (adds_then c.page.invariant c.in_ok-add_record.ensures)
