use Rattle.record_model.specs.Seen.{events_seen}
use Rattle.record_log.proofs.ReadBack.{body_there, batch_back}
use Rattle.record_log.proofs.reading.read_spot.Goals as goal

pub read_events-requires : goal.read_events-requires
read_events-requires g c = body_there c.args.gate c.args.spot (g.D.Disk.disk c.args.disk.now).history c.ranges.gate.fits c.requires

pub returns-in-Ok-clause-events : goal.returns-in-Ok-clause-events
returns-in-Ok-clause-events g c = batch_back c.args.gate c.args.spot (events_seen c.in-Ok.events.items) (g.D.Disk.disk c.args.disk.now).history c.requires c.in-Ok.ensures.batch.0 c.in-Ok.ensures.events
