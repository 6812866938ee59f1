-- What is seen of a connection: a source of what the peer sends, and a sink of what it is sent.
use Rattle.at_edge.specs.Taking.{SourceSeen}
use Rattle.at_edge.specs.Writing.{SinkSeen}
use Rattle.serving_edge.specs.declared.duplex.Duplex.{Duplex}

pub record ConnSeen : Type 0 where
  pub source : SourceSeen
  pub sink : SinkSeen

abbrev pub conn_seen : {S K : Type 0} → (S → SourceSeen) → (K → SinkSeen) → Duplex S K → ConnSeen
conn_seen source sink conn = record { source = source conn.source; sink = sink conn.sink }
