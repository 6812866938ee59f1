use Rattle.http_wire.proofs.Handing.{ends}
use Rattle.http_wire.proofs.pieces.end.Goals as goal

pub returns : goal.returns
returns g c = λ first text at.
    ends first (g.K.Sink.sink c.args.sink.now) (g.K.Sink.sink c.write_all.new.sink) c.args.pieces.now c.write_all.result text c.as_slice.result.now
    c.if-pieces.false at c.as_slice.ensures.value c.write_all.ensures
