use Rattle.std.proofs.Common.{◌≡◌, false, List, Vec, Global, Result, Err, sym, ap, subst, ◌∙◌}
use Rattle.std.proofs.lemmas.Result.{err_from_is_err_and}
use Rattle.record_model.specs.Seen.{records_seen}
use Rattle.record_model.specs.declared.sealed.Record.{Record}
use Rattle.sync_wire.specs.Exchanging.{ReadsBody}
use Rattle.sync_wire.specs.Replies.{is_page, SaysPage, NoPage, others}
use Rattle.sync_wire.specs.declared.fail.AskFail.{AskFail}
use Rattle.sync_wire.proofs.Pages.{page_refused}
use Rattle.sync_wire.proofs.asking.read_page.Goals as goal

pub returns-in_err-records : goal.returns-in_err-records
returns-in_err-records c =
    let p = err_from_is_err_and c.from_residual.result c.from_residual.ensures.1 in
    let host = c.args.host in
    let tag = c.args.tag.now in
    let count = c.args.count in
    subst (λ (o : Result (Vec Record Global) AskFail). ReadsBody (λ body records. SaysPage host tag count body records.items) (NoPage host tag count) c.args.body.now o) (sym (p.1 ∙ ap Err p.2))
    (page_refused host tag count c.args.body.now c.in_err-records.field-0.0 c.in_err-records.ensures)

pub returns-then-not-is_page : goal.returns-then-not-is_page
returns-then-not-is_page c =
    let records = c.in_ok-records.records.items in
    let not = sym c.is_page.ensures ∙ c.if-not-is_page.true in
    others (records_seen records) c.in_ok-records.ensures (subst (λ (found : List Record). is_page c.args.host c.args.tag.now c.args.count (records_seen found) ≡ false) c.as_slice.ensures.value not)
