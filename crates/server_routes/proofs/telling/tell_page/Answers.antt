use Rattle.std.proofs.Common.{List, Err, subst}
use Rattle.step_rules.specs.ReadTurns.{page_read, told_page}
use Rattle.session_rules.specs.Sessions.{to_read}
use Rattle.record_model.specs.declared.sealed.Record.{Record}
use Rattle.record_model.specs.Seen.{records_seen}
use Rattle.told_store.specs.Asked.{read_answer_seen}
use Rattle.http_wire.specs.Seen.{response_seen}
use Rattle.response_texts.specs.Responses.{TellsRead}
use Rattle.server_routes.proofs.Told.{told_read}
use Rattle.server_routes.proofs.telling.tell_page.Goals as goal

pub returns-in-Ok : goal.returns-in-Ok
returns-in-Ok g c =
    told_read _ _ c.args.number (page_read c.args.owner c.args.host c.args.tag.now c.args.start c.args.count) (told_page (records_seen c.in-Ok.records.items)) c.args.close (response_seen c.page_told.result) (λ front. absurd cc) (c.in-Ok.ensures c.args.number)
    (subst (λ (l : List Record). TellsRead c.args.close (told_page (records_seen l)) (response_seen c.page_told.result)) c.as_slice.ensures.value c.page_told.ensures)

pub returns-in-Err : goal.returns-in-Err
returns-in-Err g c = (to_read (read_answer_seen (Err c.in-Err.fail)), c.in-Err.ensures c.args.number, c.tell_unread.ensures)
