-- What is seen of the listeners in memory, and which calls of one are to fail.
use Rattle.at_edge.specs.Taking.{SourceSeen}
use Rattle.at_edge.specs.Writing.{SinkSeen}
use Rattle.at_edge.specs.Planned.{Planned}
use Rattle.serving_edge.specs.Listening.{ListenerSeen}
use Rattle.serving_edge.specs.KeptViews.{kept_of, listener_of}
use Rattle.serving_edge.specs.declared.memory_listener.MemListener.{MemListener}
use Rattle.serving_edge.specs.declared.memory_listener.SureListener.{SureListener}

abbrev pub listener_seen : {S K : Type 0} → (S → SourceSeen) → (K → SinkSeen) → MemListener S K → ListenerSeen
listener_seen source sink l = listener_of source sink (kept_of l.kept) l.failing.faults

abbrev pub listener_plan : {S K : Type 0} → MemListener S K → Planned
listener_plan l = l.failing

abbrev pub sure_listener_seen : {S K : Type 0} → (S → SourceSeen) → (K → SinkSeen) → SureListener S K → ListenerSeen
sure_listener_seen source sink l = listener_of source sink (kept_of l.kept) l.faults
