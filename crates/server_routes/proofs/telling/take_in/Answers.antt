use Rattle.std.proofs.Common.{Err}
use Rattle.step_rules.specs.PageTurns.{took}
use Rattle.session_rules.specs.Sessions.{to_page}
use Rattle.store_core.specs.Pages.{page_answer_seen}
use Rattle.server_routes.proofs.telling.take_in.Goals as goal

pub returns-in-Ok : goal.returns-in-Ok
returns-in-Ok g c = (to_page (took c.in-Ok.count), c.in-Ok.ensures, c.added.ensures)

pub returns-in-Err : goal.returns-in-Err
returns-in-Err g c = (to_page (page_answer_seen (Err c.in-Err.fail)), c.in-Err.ensures, c.tell_untaken.ensures)
