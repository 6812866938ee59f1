use Rattle.std.proofs.Common.{sym, ap, subst, option_map, Err}
use Rattle.session_rules.specs.Sessions.{a_page}
use Rattle.record_model.specs.Seen.{records_seen}
use Rattle.request_routes.specs.Reading.{IsTakeRoute}
use Rattle.request_routes.specs.declared.fail.RouteFail.{RouteFail}
use Rattle.request_routes.proofs.Bodies.{refused, spelled}
use Rattle.request_routes.proofs.routing.page_sent.Goals as goal

pub returns-in-Ok : goal.returns-in-Ok
returns-in-Ok c = ap (option_map (a_page c.args.owner)) (spelled c.args.body.now (records_seen c.in-Ok.page.items) c.in-Ok.ensures)

pub returns-in-Err : goal.returns-in-Err
returns-in-Err c = subst (λ (fail : RouteFail). IsTakeRoute c.args.owner c.args.body.now (Err fail)) (sym c.from.ensures) (refused c.args.owner c.args.body.now c.in-Err.fail c.in-Err.ensures)
