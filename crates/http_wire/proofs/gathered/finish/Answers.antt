use Rattle.http_wire.proofs.Handing.{hands_all}
use Rattle.http_wire.proofs.gathered.finish.Goals as goal

pub returns : goal.returns
returns g c =
    hands_all (g.K.Sink.sink c.args.sink.now) (g.K.Sink.sink c.put.new.sink) (g.K.Sink.sink c.write_all.new.sink) c.write_all.result c.args.held.now.items c.put.new.held.items c.args.piece.now c.as_slice.result.now
    c.as_slice.ensures.value c.in_ok-put.ensures c.write_all.ensures
