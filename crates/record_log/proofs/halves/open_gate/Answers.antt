use Rattle.record_log.proofs.Staging.{open_fails, open_unsynced, open_done}
use Rattle.record_log.proofs.halves.open_gate.Goals as goal

pub returns-in-Err-clause-opens : goal.returns-in-Err-clause-opens
returns-in-Err-clause-opens g c = λ prefix payload doubt. open_fails prefix payload c.args.gate _ _ doubt.0 doubt.1 c.in-Err.ensures.writes.0

pub returns-in-Err-sync-clause-opens : goal.returns-in-Err-sync-clause-opens
returns-in-Err-sync-clause-opens g c = λ prefix payload doubt. open_unsynced prefix payload c.args.gate _ _ _ doubt.0 doubt.1 c.in-Ok.ensures.writes.0 c.in-Err-sync.ensures.0

pub returns-in-Ok-sync-clause-opens : goal.returns-in-Ok-sync-clause-opens
returns-in-Ok-sync-clause-opens g c = λ prefix payload doubt. open_done prefix payload c.args.gate _ _ _ doubt.0 doubt.1 c.in-Ok.ensures.writes.0 c.in-Ok-sync.ensures.0
