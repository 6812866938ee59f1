use Rattle.record_log.proofs.Staging.{may_stage, stage_fails, stage_unsynced, stage_done}
use Rattle.record_log.proofs.halves.stage.Goals as goal

pub write_at-requires : goal.write_at-requires
write_at-requires g c = may_stage (g.D.Disk.disk c.args.disk.now).history c.args.gate c.saturating_add-behind.result c.args.bytes.now c.requires.rests c.saturating_add-behind.ensures

pub returns-in-Err-clause-stages : goal.returns-in-Err-clause-stages
returns-in-Err-clause-stages g c = λ prefix settled.
    stage_fails c.args.gate c.saturating_add-behind.result c.args.bytes.now prefix _ _ c.requires.rests c.saturating_add-behind.ensures c.requires.closing settled.0 settled.1 c.in-Err.ensures.writes.0

pub returns-in-Err-sync-clause-stages : goal.returns-in-Err-sync-clause-stages
returns-in-Err-sync-clause-stages g c = λ prefix settled.
    stage_unsynced c.args.gate c.saturating_add-behind.result c.args.bytes.now prefix _ _ _ c.requires.rests c.saturating_add-behind.ensures c.requires.closing settled.0 settled.1 c.in-Ok.ensures.writes.0 c.in-Err-sync.ensures.0

pub returns-in-Ok-sync-clause-stages : goal.returns-in-Ok-sync-clause-stages
returns-in-Ok-sync-clause-stages g c = λ prefix settled.
    stage_done c.args.gate c.saturating_add-behind.result c.args.bytes.now prefix _ _ _ c.requires.rests c.saturating_add-behind.ensures c.requires.closing settled.0 settled.1 c.in-Ok.ensures.writes.0 c.in-Ok.ensures.measured c.in-Ok-sync.ensures.0
