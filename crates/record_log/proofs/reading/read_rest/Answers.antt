use Rattle.std.proofs.Common.{take, refl}
use Rattle.record_model.specs.Seen.{events_seen}
use Rattle.record_log.proofs.ReadBack.{ahead_given, ahead_had}
use Rattle.record_log.proofs.reading.read_rest.Goals as goal

pub events_of-requires-clause-whole : goal.events_of-requires-clause-whole
events_of-requires-clause-whole g c =
    ahead_given c.args.spot c.args.ahead.now (take c.args.spot.count c.args.ahead.now) (g.D.Disk.disk c.args.disk.now).history c.requires.there c.requires.ahead c.if-ahead-count.false refl

pub returns-in-Ok-events_of-clause-events : goal.returns-in-Ok-events_of-clause-events
returns-in-Ok-events_of-clause-events g c =
    ahead_had c.args.spot c.args.ahead.now (take c.args.spot.count c.args.ahead.now) (events_seen c.in-Ok-events_of.events.items) (g.D.Disk.disk c.args.disk.now).history c.requires.ahead c.if-ahead-count.false refl c.in-Ok-events_of.ensures.events
