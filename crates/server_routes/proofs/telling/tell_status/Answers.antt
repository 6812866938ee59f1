use Rattle.std.proofs.Common.{List, refl, subst}
use Rattle.step_rules.specs.ReadTurns.{status_read, told_status, read_no_memory}
use Rattle.session_rules.specs.Sessions.{a_read, to_read}
use Rattle.record_model.specs.declared.places.Chain.{Chain}
use Rattle.record_model.specs.Seen.{chains_seen}
use Rattle.http_wire.specs.Seen.{response_seen}
use Rattle.response_texts.specs.Responses.{TellsRead}
use Rattle.server_routes.proofs.Told.{told_read, told_by_code}
use Rattle.server_routes.proofs.telling.tell_status.Goals as goal

pub returns-in-Ok : goal.returns-in-Ok
returns-in-Ok g c =
    told_read _ _ c.args.number (status_read c.args.owner) (told_status (chains_seen c.in-Ok.chains)) c.args.close (response_seen c.status_told.result) (λ front. absurd cc) (c.in-Ok.ensures c.args.number)
    (subst (λ (l : List Chain). TellsRead c.args.close (told_status (chains_seen l)) (response_seen c.status_told.result)) c.as_slice.ensures c.status_told.ensures)

pub returns-in-Err : goal.returns-in-Err
returns-in-Err g c = told_by_code _ _ c.args.number (a_read (status_read c.args.owner)) (to_read read_no_memory) c.args.close (response_seen c.coded.result) 503 (c.in-Err.ensures c.args.number) refl c.coded.ensures
