use Rattle.http_wire.proofs.Handing.{piece_taken, piece_stopped}
use Rattle.http_wire.proofs.pieces.put_piece.Goals as goal

pub returns-in-Ok : goal.returns-in-Ok
returns-in-Ok g c = λ first text at.
    piece_taken first (g.K.Sink.sink c.args.sink.now) (g.K.Sink.sink c.put.new.sink) c.args.pieces.now c.put.result c.in-Ok.field-0 c.put.new.held.items text c.args.piece.now
    c.if-pieces.false at c.in-Ok.is c.put.ensures

pub returns-in-Err : goal.returns-in-Err
returns-in-Err g c = λ first text at.
    piece_stopped first (g.K.Sink.sink c.args.sink.now) (g.K.Sink.sink c.put.new.sink) c.args.pieces.now c.put.result c.in-Err.field-0 c.put.new.held.items text c.args.piece.now
    c.if-pieces.false at c.in-Err.is c.put.ensures
