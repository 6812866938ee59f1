use Rattle.std.proofs.Common.{Ok, Err, sym, ap}
use Rattle.at_edge.specs.Storing.{DiskSeen}
use Rattle.call_supplies.specs.Supplies.{supplies}
use Rattle.session_seats.specs.Sessions.{pipe}
use Rattle.store_commands.proofs.PipedSession.{pipes_session}
use Rattle.store_commands.proofs.piping.pipe.Goals as goal

pub returns-in-Ok-serve_alone : goal.returns-in-Ok-serve_alone
returns-in-Ok-serve_alone g c =
    let new = c.serve_alone.new in
    let served = c.in-Ok-serve_alone.field-0 in
    let before = supplies (g.E.Entropy.entropy c.args.rand.now) (g.C.Clock.clock c.args.clock.now) in
    let after = supplies (g.E.Entropy.entropy new.rand) (g.C.Clock.clock new.clock) in
    let from = pipe (g.S.Source.source c.args.source.now) (g.K.Sink.sink c.args.sink.now) in
    let to = pipe (g.S.Source.source new.source) (g.K.Sink.sink new.sink) in
    let left = c.into_disk.ensures in (
      c.in-Some.key,
      (
        sym c.in-Some.ensures,
        (
          served,
          pipes_session (Ok served) c.in-Some.key (g.D.Disk.disk c.args.disk) (g.D.Disk.disk c.into_disk.result) c.in-Ok.store new.store.store before after from to
              c.in-Ok.ensures.opens c.in-Ok.ensures.settled c.in-Ok.ensures.key c.in-Ok.ensures.crash c.in-Ok-serve_alone.ensures.serves c.in-Ok-serve_alone.ensures.ends (record { holds = left.holds; doubts = left.doubts; counted = left.counted; history = ap (λ (d : DiskSeen). d.history) (sym left.disk) }),
        ),
      ),
    )

pub returns-in-Err-serve_alone : goal.returns-in-Err-serve_alone
returns-in-Err-serve_alone g c =
    let new = c.serve_alone.new in
    let fail = c.in-Err-serve_alone.fail in
    let before = supplies (g.E.Entropy.entropy c.args.rand.now) (g.C.Clock.clock c.args.clock.now) in
    let after = supplies (g.E.Entropy.entropy new.rand) (g.C.Clock.clock new.clock) in
    let from = pipe (g.S.Source.source c.args.source.now) (g.K.Sink.sink c.args.sink.now) in
    let to = pipe (g.S.Source.source new.source) (g.K.Sink.sink new.sink) in
    let left = c.into_disk-in-Err-serve_alone.ensures in (
      c.in-Some.key,
      (
        sym c.in-Some.ensures,
        pipes_session (Err fail) c.in-Some.key (g.D.Disk.disk c.args.disk) (g.D.Disk.disk c.into_disk-in-Err-serve_alone.result) c.in-Ok.store new.store.store before after from to
            c.in-Ok.ensures.opens c.in-Ok.ensures.settled c.in-Ok.ensures.key c.in-Ok.ensures.crash c.in-Err-serve_alone.ensures.serves c.in-Err-serve_alone.ensures.ends (record { holds = left.holds; doubts = left.doubts; counted = left.counted; history = ap (λ (d : DiskSeen). d.history) (sym left.disk) }),
      ),
    )
