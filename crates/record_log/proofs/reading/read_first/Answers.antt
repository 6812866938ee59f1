use Rattle.record_log.proofs.ReadBack.{first_inside, first_given}
use Rattle.record_log.proofs.reading.read_first.Goals as goal

pub read_bytes-requires : goal.read_bytes-requires
read_bytes-requires g c = first_inside c.args.gate c.args.offset c.saturating_add-behind.result c.count_first-count.result (g.D.Disk.disk c.args.disk.now).history c.saturating_add-behind.ensures c.count_first-count.ensures c.requires

pub returns-in-Ok-clause-first : goal.returns-in-Ok-clause-first
returns-in-Ok-clause-first g c =
    first_given c.args.gate c.args.offset c.saturating_add-behind.result c.count_first-count.result c.in-Ok.bytes.items (g.D.Disk.disk c.args.disk.now).history c.ranges.gate.fits c.saturating_add-behind.ensures c.count_first-count.ensures c.requires
    c.in-Ok.ensures.long c.in-Ok.ensures.shown
