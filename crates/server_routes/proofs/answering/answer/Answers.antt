use Rattle.std.proofs.Common.{refl, ap, ◌∙◌}
use Rattle.http_wire.specs.Seen.{request_seen, response_seen}
use Rattle.request_routes.specs.Reading.{asked_seen}
use Rattle.response_texts.specs.Responses.{coded_response}
use Rattle.server_routes.specs.Serving.{request_asked}
use Rattle.server_routes.proofs.Told.{told_refused}
use Rattle.server_routes.proofs.answering.answer.Goals as goal

pub returns-in-Ok : goal.returns-in-Ok
returns-in-Ok g c = request_asked (asked_seen c.in-Ok.asked) c.in-Ok.ensures c.serve.ensures

pub returns-in-Err : goal.returns-in-Err
returns-in-Err g c =
    told_refused c.args.accounts.now _ _ c.args.number (request_seen c.args.request.now) (response_seen c.coded.result) c.in-Err.fail c.in-Err.ensures refl
    (c.coded.ensures ∙ ap (coded_response c.args.request.now.close) c.code_of.ensures)
