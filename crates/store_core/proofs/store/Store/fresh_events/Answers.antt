use Rattle.std.proofs.Common.{List, [], Bool, Vec, Global, Result, Ok, Err, map, sym, ap, subst, ◌∙◌}
use Rattle.std.proofs.lemmas.Result.{err_from_is_err_and}
use Rattle.record_rules.specs.Records.{Taken}
use Rattle.record_model.specs.declared.entries.Event as model
use Rattle.record_model.specs.Seen.{records_seen}
use Rattle.chain_index.specs.Chains.{IndexSeen}
use Rattle.page_growth.specs.declared.pages.PageFail.{PageFail}
use Rattle.page_growth.specs.Checking.{chosen, OfJournal, Checks}
use Rattle.store_core.specs.Store.{StoreSeen, IsStoreOf}
use Rattle.store_core.specs.Pages.{Grows}
use Rattle.store_core.proofs.PageTurns.{page_checked, marked_grow, check_fails}
use Rattle.store_core.proofs.store.Store.fresh_events.Goals as goal

pub returns-in_err-marks-clause-grows : goal.returns-in_err-marks-clause-grows
returns-in_err-marks-clause-grows g c = λ journal is.
    let store : StoreSeen = record { log = c.self.inside.log; key = c.self.inside.key; tables = c.self.inside.tables; doubt = c.self.inside.doubt } in
    let records = records_seen c.args.page.now in
    let fail = c.in_err-marks.field-0.0 in
    let now = subst (λ (s : StoreSeen). IsStoreOf s journal []) (sym c.self.view_is) is in
    let checks = page_checked store c.args.owner records journal now (Err fail) (subst (λ (index : IndexSeen). OfJournal index c.args.owner (λ j. Checks (Err c.in_err-marks.field-0.0) j c.args.owner (records_seen c.args.page.now))) c.index.ensures c.in_err-marks.ensures.checks) in
    let left = err_from_is_err_and c.from_residual.result c.from_residual.ensures.1 in
    subst (λ (answer : Result (Vec model.Event Global) PageFail). Grows answer journal c.args.owner (records_seen c.args.page.now)) (sym (left.1 ∙ ap (λ (e : PageFail). Err e) left.2)) (check_fails fail journal c.args.owner records checks)

pub returns-clause-grows : goal.returns-clause-grows
returns-clause-grows g c = λ journal is caller.
    let store : StoreSeen = record { log = c.self.inside.log; key = c.self.inside.key; tables = c.self.inside.tables; doubt = c.self.inside.doubt } in
    let records = records_seen c.args.page.now in
    let now = subst (λ (s : StoreSeen). IsStoreOf s journal []) (sym c.self.view_is) is in
    let marks = c.in_ok-marks.marks in
    let checks = page_checked store c.args.owner records journal now (Ok c.in_ok-marks.marks) (subst (λ (index : IndexSeen). OfJournal index c.args.owner (λ j. Checks (Ok c.in_ok-marks.marks) j c.args.owner (records_seen c.args.page.now))) c.index.ensures c.in_ok-marks.ensures.checks) in
    marked_grow journal caller c.args.owner records marks c.in_ok-taken_events.field-0.items checks
    (c.in_ok-taken_events.ensures.events ∙ ap (λ (ms : List Bool). map (Taken c.args.owner) (chosen ms (records_seen c.args.page.now))) c.as_slice.ensures.value)
