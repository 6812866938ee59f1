use Rattle.std.proofs.Common.{List, ℕ, ◌++◌, subst}
use Rattle.http_wire.specs.Pieces.{IsAt}
use Rattle.http_wire.proofs.Requests.{authorization_more}
use Rattle.http_wire.proofs.request_writing.put_authorization.Goals as goal

pub returns-in-Some : goal.returns-in-Some
returns-in-Some g c = λ first text at.
    subst (λ (t : List ℕ). IsAt first (g.K.Sink.sink c.put_piece-in-Some.new.sink) c.put_piece-in-Some.new.pieces t)
    (authorization_more text c.as_bytes.result.now c.as_bytes-in-Some.result.now c.in-Some.value c.args.value.now c.in-Some.is c.as_bytes.ensures.value c.as_bytes-in-Some.ensures.value)
    (c.put_piece-in-Some.ensures first (text ++ c.as_bytes.result.now) (c.put_piece.ensures first text at))
