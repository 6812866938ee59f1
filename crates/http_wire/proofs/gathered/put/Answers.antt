use Rattle.std.proofs.Common.{◌≡◌}
use Rattle.http_wire.proofs.Handing.{hands_behind}
use Rattle.http_wire.proofs.gathered.put.Goals as goal

pub returns-in_ok-write_all-in-Err : goal.returns-in_ok-write_all-in-Err
returns-in_ok-write_all-in-Err g c =
    let same : c.as_slice.result.now ≡ c.args.held.now.items = cc (c.as_slice.ensures.value, c.in-Err.ensures.err) in
    hands_behind (g.K.Sink.sink c.args.sink.now) (g.K.Sink.sink c.write_all.new.sink) (g.K.Sink.sink c.write_all-in-Err.new.sink) c.write_all-in-Err.result c.args.held.now.items c.clear.new.self.items c.args.piece.now c.as_slice.result.now
    same c.in_ok-write_all-in-Err.ensures c.write_all-in-Err.ensures c.clear.ensures
