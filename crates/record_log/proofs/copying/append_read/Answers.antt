use Rattle.std.proofs.Common.{refl}
use Rattle.record_model.specs.Seen.{events_seen}
use Rattle.record_log.proofs.Copies.{batch_taken, batch_not_taken}
use Rattle.record_log.proofs.copying.append_read.Goals as goal

pub returns-in-Ok-append-clause-takes : goal.returns-in-Ok-append-clause-takes
returns-in-Ok-append-clause-takes g c =
    batch_taken c.args.into.now c.append.new.self c.in-Ok.ready (events_seen c.args.batch.now) c.requires.batch c.in-Ok.ensures.body c.in-Ok-append.field-0 c.in-Ok-append.ensures.appends

pub returns-in-Err-append-clause-takes : goal.returns-in-Err-append-clause-takes
returns-in-Err-append-clause-takes g c =
    batch_not_taken c.args.into.now c.append.new.self c.in-Ok.ready (events_seen c.args.batch.now) c.requires.batch c.in-Ok.ensures.body c.in-Err-append.ensures.appends (c.in-Err-append.ensures.counted refl)
