use Rattle.std.proofs.Common.{ℕ, Result, Err, sym, ap, subst, ◌∙◌}
use Rattle.std.specs.Vec.{vec_len}
use Rattle.std.proofs.lemmas.Bool.{eqb-true}
use Rattle.std.proofs.lemmas.List.{nil_from_length}
use Rattle.std.proofs.lemmas.Result.{err_from_is_err_and}
use Rattle.record_model.specs.Seen.{caller_seen, records_seen}
use Rattle.store_core.specs.declared.pages.TakeFail.{TakeFail}
use Rattle.store_core.specs.Calls.{TakesPage}
use Rattle.store_core.specs.Pages.{page_answer_seen}
use Rattle.store_core.proofs.PageTurns.{grown_fit, check_ends, adds_nothing, may_take_in, commits_page, loses_page}
use Rattle.store_core.proofs.store.Store.take_settled.Goals as goal

pub returns-in_err-events-clause-takes : goal.returns-in_err-events-clause-takes
returns-in_err-events-clause-takes g c =
    let fail = c.in_err-events.field-0.0 in
    let left = err_from_is_err_and c.from_residual.result c.from_residual.ensures.1 in
    subst (λ (answer : Result ℕ TakeFail). TakesPage c.args.self.now c.args.self.now (caller_seen c.args.caller) c.args.owner (records_seen c.args.page.now) (page_answer_seen answer)) (sym (left.1 ∙ ap (λ (e : TakeFail). Err e) left.2))
    (check_ends (caller_seen c.args.caller) c.args.owner (records_seen c.args.page.now) c.args.self.now fail c.requires.settled c.in_err-events.ensures.grows)

pub returns-then-is_empty-clause-takes : goal.returns-then-is_empty-clause-takes
returns-then-is_empty-clause-takes g c =
    let events = c.in_ok-events.events in
    let nothing = nil_from_length c.in_ok-events.events.items (sym events.ok.0 ∙ eqb-true (vec_len c.in_ok-events.events) 0 (sym c.is_empty.ensures ∙ c.if-is_empty.true)) in
    adds_nothing (caller_seen c.args.caller) c.args.owner (records_seen c.args.page.now) c.args.self.now c.in_ok-events.events.items c.requires.settled nothing
    (λ journal is. c.in_ok-events.ensures.grows journal is (caller_seen c.args.caller))

pub ready-requires-clause-fit : goal.ready-requires-clause-fit
ready-requires-clause-fit g c =
    grown_fit c.args.self.now c.args.owner (records_seen c.args.page.now) c.requires.means.0 c.requires.means.1 (caller_seen c.args.caller) c.in_ok-events.events.items
    (c.in_ok-events.ensures.grows c.requires.means.0 c.requires.means.1 (caller_seen c.args.caller))

pub commit-requires : goal.commit-requires
commit-requires g c = (
  c.requires.means.0,
  may_take_in c.args.self.now c.ready.new.self c.args.caller c.args.owner (records_seen c.args.page.now) c.in_ok-events.events.items c.in_ok-batch.batch c.in_ok-batch.bytes c.requires.settled c.ready.ensures.log
      (λ journal is. c.in_ok-events.ensures.grows journal is (caller_seen c.args.caller)) c.in_ok-batch.ensures.ready c.in_ok-batch.ensures.caller c.in_ok-batch.ensures.events c.requires.means.0 c.requires.means.1,
)

pub returns-in-Ok-clause-takes : goal.returns-in-Ok-clause-takes
returns-in-Ok-clause-takes g c =
    let events = c.in_ok-events.events in
    commits_page c.args.self.now c.ready.new.self c.args.caller c.args.owner (records_seen c.args.page.now) c.in_ok-events.events.items c.in_ok-batch.batch c.in_ok-batch.bytes c.requires.settled c.ready.ensures.log
    (λ journal is. c.in_ok-events.ensures.grows journal is (caller_seen c.args.caller)) c.in_ok-batch.ensures.ready c.in_ok-batch.ensures.caller c.in_ok-batch.ensures.events c.commit.new.self c.len-added.result (c.len-added.ensures ∙ events.ok.0) c.in-Ok.ensures.commits

pub returns-in-Err-clause-takes : goal.returns-in-Err-clause-takes
returns-in-Err-clause-takes g c =
    loses_page c.args.self.now c.ready.new.self c.args.caller c.args.owner (records_seen c.args.page.now) c.in_ok-events.events.items c.in_ok-batch.batch c.in_ok-batch.bytes c.requires.settled c.ready.ensures.log
    (λ journal is. c.in_ok-events.ensures.grows journal is (caller_seen c.args.caller)) c.in_ok-batch.ensures.ready c.in_ok-batch.ensures.caller c.in_ok-batch.ensures.events c.commit.new.self c.in-Err.ensures.commits
