-- A session of a pass over a connection.
use Rattle.std.specs.Prelude.{Result}
use Rattle.session_rules.specs.Passes.{Pass, PassMoves}
use Rattle.at_edge.specs.declared.ending.Served.{Served}
use Rattle.at_edge.specs.declared.ending.SessionFail.{SessionFail}
use Rattle.call_supplies.specs.Supplies.{Supplies}
use Rattle.session_seats.specs.Sessions.{Pipe, SeatServes}
use Rattle.shared_store.specs.Callers.{shared_seen}
use Rattle.serving_edge.specs.Connections.{ConnSeen}

-- a connection's two directions
abbrev pub pipe_of : ConnSeen → Pipe
pipe_of conn = record { source = conn.source; sink = conn.sink }

-- The requests that came by the connection were asked by the pass, each in one turn, and the replies went out by it: the session of the pass's
-- number at the store of its fixed part, from what it had seen to what it has seen.
pub record SessionServes (outcome : Result Served SessionFail) (old new : Pass) (before after : Supplies) (conn conn_after : ConnSeen) : Type 0 where
  pub moves : PassMoves old new
  pub serves : SeatServes outcome (shared_seen old) (shared_seen new) before after (pipe_of conn) (pipe_of conn_after)
