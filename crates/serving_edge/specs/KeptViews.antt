-- What a listener in memory keeps of its connections.
use Rattle.std.specs.Prelude.{◌≡◌, List, [], ◌∷◌, ◌++◌, Option, Some, None, map, option_map, ℕ}
use Rattle.at_edge.specs.Taking.{SourceSeen}
use Rattle.at_edge.specs.Writing.{SinkSeen}
use Rattle.serving_edge.specs.Connections.{conn_seen}
use Rattle.serving_edge.specs.Listening.{Handled, ListenerSeen}
use Rattle.serving_edge.specs.declared.duplex.Duplex.{Duplex}
use Rattle.serving_edge.specs.declared.kept.Finished.{Finished}
use Rattle.serving_edge.specs.declared.kept.KeptConnections.{KeptConnections}

-- a connection that was handed back, beside what it was when it was accepted
pub record Ended (C : Type 0) : Type 0 where
  pub accepted : C
  pub back : C

-- the connections to come, the one that is out, and those that were handed back
pub record Kept (C : Type 0) : Type 0 where
  pub coming : List C
  pub out : Option C
  pub done : List (Ended C)

abbrev pub ended_of : {S K : Type 0} → Finished S K → Ended (Duplex S K)
ended_of f = record { accepted = f.accepted.value; back = f.back }

abbrev pub kept_of : {S K : Type 0} → KeptConnections S K → Kept (Duplex S K)
kept_of k = record { coming = k.coming.items; out = option_map (λ s. s.value) k.out; done = map ended_of k.done.items }

abbrev pub unserved : {C : Type 0} → List C → Kept C
unserved coming = record { coming = coming; out = None; done = [] }

-- the first of those to come was given, and is out
pub record GivesFirst {C : Type 0} (old new : Kept C) (conn : C) : Type 0 where
  pub coming : old.coming ≡ conn ∷ new.coming
  pub out : new.out ≡ Some conn
  pub done : new.done ≡ old.done

-- the answer of an accept: the first, or none where none is to come
abbrev pub Gives : {C : Type 0} → Kept C → Kept C → Option C → Type 0
Gives old new (Some conn) = GivesFirst old new conn
Gives old new None = (old.coming ≡ []) × (new ≡ old)

-- the one that was out was handed back so
pub record PutsBack {C : Type 0} (old new : Kept C) (back : C) : Type 0 where
  pub accepted : C
  pub was_out : old.out ≡ Some accepted
  pub out : new.out ≡ None
  pub done : new.done ≡ old.done ++ record { accepted = accepted; back = back } ∷ []
  pub coming : new.coming ≡ old.coming

-- what is seen of such a listener that has failed so often
abbrev pub handled : {S K : Type 0} → (S → SourceSeen) → (K → SinkSeen) → Ended (Duplex S K) → Handled
handled source sink e = record { accepted = conn_seen source sink e.accepted; back = conn_seen source sink e.back }

abbrev pub listener_of : {S K : Type 0} → (S → SourceSeen) → (K → SinkSeen) → Kept (Duplex S K) → ℕ → ListenerSeen
listener_of source sink kept faults = record {
  coming = Some (map (conn_seen source sink) kept.coming);
  out = option_map (conn_seen source sink) kept.out;
  done = Some (map (handled source sink) kept.done);
  faults = faults;
}
