-- What is seen of a listener, and what its calls do.
use Rattle.std.specs.Prelude.{◌≡◌, ℕ, ◌≤◌, List, [], ◌∷◌, ◌++◌, ⊤, Option, Some, None}
use Rattle.definitions.specs.Counts.{Rose}
use Rattle.at_edge.specs.Taking.{SourceSeen}
use Rattle.at_edge.specs.Writing.{SinkSeen}
use Rattle.serving_edge.specs.Connections.{ConnSeen, conn_seen}
use Rattle.serving_edge.specs.declared.duplex.Duplex.{Duplex}
use Rattle.serving_edge.specs.declared.listener.Accepted.{Accepted}
use Rattle.serving_edge.specs.declared.listener.Accepted.TheVariants.{Conn, Closed, Failed}

-- a connection as it was accepted, and as it was handed back
pub record Handled : Type 0 where
  pub accepted : ConnSeen
  pub back : ConnSeen

-- `coming`: the connections still to come, in order, None where the listener doesn't tell.
-- `out`: the connection that is out, as it was accepted.
-- `done`: those that were handed back, in order, None where the listener doesn't tell.
-- `faults`: how often an accept has failed.
pub record ListenerSeen : Type 0 where
  pub coming : Option (List ConnSeen)
  pub out : Option ConnSeen
  pub done : Option (List Handled)
  pub faults : ℕ

-- the connection was the first of those to come, and is none of them any more; None claims nothing
abbrev pub TakesFirst : Option (List ConnSeen) → Option (List ConnSeen) → ConnSeen → Type 0
TakesFirst None new conn = ⊤
TakesFirst (Some old) new conn = (rest : List ConnSeen) × (old ≡ conn ∷ rest) × (new ≡ Some rest)

-- none is to come; None claims nothing
abbrev pub NoneComes : Option (List ConnSeen) → Type 0
NoneComes None = ⊤
NoneComes (Some coming) = coming ≡ []

-- one more was handed back; None claims nothing
abbrev pub AddsHandled : Option (List Handled) → Option (List Handled) → Handled → Type 0
AddsHandled None new one = ⊤
AddsHandled (Some old) new one = new ≡ Some (old ++ one ∷ [])

-- this connection was accepted
pub record HandsOut (old new : ListenerSeen) (conn : ConnSeen) : Type 0 where
  pub first : TakesFirst old.coming new.coming conn
  pub out : new.out ≡ Some conn
  pub done : new.done ≡ old.done
  pub faults : old.faults ≤ new.faults

-- nothing changed but the count, which doesn't fall, and no connection is out
pub record HandsOutNone (old new : ListenerSeen) : Type 0 where
  pub coming : new.coming ≡ old.coming
  pub out : new.out ≡ None
  pub done : new.done ≡ old.done
  pub faults : old.faults ≤ new.faults

-- the answer of one accept
abbrev pub Accepts : {S K : Type 0} → (S → SourceSeen) → (K → SinkSeen) → ListenerSeen → ListenerSeen → Accepted (Duplex S K) → Type 0
Accepts source sink old new (Conn conn) = HandsOut old new (conn_seen source sink conn)
Accepts source sink old new Closed = HandsOutNone old new × NoneComes old.coming
Accepts source sink old new Failed = HandsOutNone old new × Rose old.faults new.faults

-- the connection that was out was handed back so
pub record TakesBack (old new : ListenerSeen) (back : ConnSeen) : Type 0 where
  pub accepted : ConnSeen
  pub was_out : old.out ≡ Some accepted
  pub out : new.out ≡ None
  pub done : AddsHandled old.done new.done (record { accepted = accepted; back = back })
  pub coming : new.coming ≡ old.coming
  pub faults : new.faults ≡ old.faults
