use Rattle.std.proofs.Common.{ap, ◌∙◌, Err}
use Rattle.std.proofs.lemmas.Result.{err_from_is_err_and}
use Rattle.http_wire.specs.Seen.{request_seen}
use Rattle.sync_wire.specs.Requests.{request_of, Post}
use Rattle.sync_wire.specs.Replies.{SaysAdded, NoAdded}
use Rattle.sync_wire.proofs.Exchanges.{ask_failed, ask_read}
use Rattle.record_model.specs.Seen.{records_seen}
use Rattle.sync_wire.proofs.asking.post_page.Goals as goal

pub returns-in_err-body : goal.returns-in_err-body
returns-in_err-body g c =
    let left = c.from_residual-in_err-body in
    let p = err_from_is_err_and left.result left.ensures.1 in
    ask_failed SaysAdded NoAdded (request_seen c.in_ok-request.request) (request_of c.args.peer.now.token (Post (records_seen c.args.page.now))) c.args.peer.now.host (g.L.Link.link c.args.link.now) (g.L.Link.link c.ask.new.link) c.in_ok-request.ensures
    c.in_err-body.field-0.0 left.result c.in_err-body.ensures (p.1 ∙ ap Err p.2)

pub returns : goal.returns
returns g c =
    ask_read SaysAdded NoAdded (request_seen c.in_ok-request.request) (request_of c.args.peer.now.token (Post (records_seen c.args.page.now))) c.args.peer.now.host (g.L.Link.link c.args.link.now) (g.L.Link.link c.ask.new.link) c.in_ok-request.ensures
    c.in_ok-body.body c.as_slice.result.now c.read_added.result c.in_ok-body.ensures c.as_slice.ensures c.read_added.ensures
