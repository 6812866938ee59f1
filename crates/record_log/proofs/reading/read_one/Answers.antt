use Rattle.std.proofs.Common.{length, arith}
use Rattle.std.proofs.lemmas.List.{length-map}
use Rattle.record_model.specs.Seen.{event_seen, events_seen}
use Rattle.record_log.proofs.ReadBack.{event_inside, never_outside}
use Rattle.record_log.proofs.reading.read_one.Goals as goal

pub disown-requires : goal.disown-requires
disown-requires g c =
    let inside = event_inside c.args.gate c.args.at c.args.spot (events_seen c.in-Ok.events.items) (g.D.Disk.disk c.args.disk.now).history c.requires c.in-Ok.ensures.events in
    let counted = length-map c.in-Ok.events.items event_seen in
    let past = c.if-at-len.false in
    let long = c.len.ensures in
    never_outside c.args.at (length (events_seen c.in-Ok.events.items)) _ _ (λ less. absurd (omega (arith, less, counted, past, long))) inside c.in-Ok.ensures.rests.history
