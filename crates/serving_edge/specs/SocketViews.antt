-- What is seen of a listener over a socket.
use Rattle.std.specs.Prelude.{[], Bool, true, false, Option, Some, None}
use Rattle.serving_edge.specs.Connections.{ConnSeen}
use Rattle.serving_edge.specs.Listening.{ListenerSeen}
use Rattle.serving_edge.specs.declared.socket_listener.SocketListener.{SocketListener}

-- a connection that tells no bytes, and hasn't failed yet
abbrev pub silent_conn : ConnSeen
silent_conn = record {
  source = record { left = None; gave = None; beside = ([], 0); faults = 0 };
  sink = record { held = None; beside = ([], 0); faults = 0 };
}

abbrev pub out_if : Bool → Option ConnSeen
out_if true = Some silent_conn
out_if false = None

-- it tells no connection but the one that is out
abbrev pub socket_seen : SocketListener → ListenerSeen
socket_seen s = record { coming = None; out = out_if s.is_out; done = None; faults = s.faults }

-- no connection is out, and no accept has failed yet
abbrev pub unused_socket : ListenerSeen
unused_socket = record { coming = None; out = None; done = None; faults = 0 }
