-- What is seen of a seat's worker, and what its work does.
use Rattle.std.specs.Prelude.{◌≡◌, ◌≢◌, true, ℕ, ◌≤◌, List, [], ◌∷◌, ◌++◌, length, map, Option, Some, None, Result, ⊤}
use Rattle.std.specs.List.{All, flat_map}
use Rattle.definitions.specs.Limits.{most_payload_bytes}
use Rattle.definitions.specs.Counts.{Rose}
use Rattle.definitions.specs.Uses.{Used, used_nothing, then_used}
use Rattle.step_rules.specs.Answers.{Reply}
use Rattle.session_rules.specs.Sessions.{Asked, SessionRequest, SessionReply, numbered_from, call_reply, Session}
use Rattle.session_rules.specs.Passes.{Pass, PassMoves, TurnsOf}
use Rattle.session_rules.specs.Reading.{ReadsEach}
use Rattle.atomic_table.specs.Seated.{TableId}
use Rattle.at_edge.specs.declared.ending.Served.{Served}
use Rattle.at_edge.specs.declared.ending.SessionFail.{SessionFail}
use Rattle.call_supplies.specs.Supplies.{Supplies, Uses}
use Rattle.session_seats.specs.Sessions.{Ends}
use Rattle.book_lock.specs.LockPasses.{LockPass, IsIdleAt}
use Rattle.shared_store.specs.Books.{keyed_by, has_key}
use Rattle.serving_edge.specs.Connections.{ConnSeen}
use Rattle.serving_edge.specs.Listening.{Handled, ListenerSeen, NoneComes, TakesFirst, AddsHandled, HandsOutNone}
use Rattle.serving_edge.specs.declared.seat.SeatEnd.{SeatEnd}
use Rattle.serving_edge.specs.declared.seat.SeatEnd.TheVariants.{Closed, AcceptFault}
use Rattle.seat_sessions.specs.Serving.{pipe_of}
use Rattle.seat_sessions.specs.PassViews.{pass_in}

-- the lock of its store, its pass, its listener, and its random source and clock
pub record SeatSeen : Type 0 where
  pub lock : TableId
  pub pass : Pass
  pub listener : ListenerSeen
  pub supplies : Supplies

abbrev pub seat_seen : TableId → Option LockPass → ListenerSeen → Supplies → SeatSeen
seat_seen lock held listener supplies = record { lock = lock; pass = (pass_in held).pass; listener = listener; supplies = supplies }

-- A worker may serve: it has a pass of its store's lock, which has no turn out, and a number; the store has a key, and the listener has no
-- connection out.
pub record MayServe (lock : TableId) (held : Option LockPass) (listener : ListenerSeen) : Type 0 where
  pub pass : LockPass
  pub held_is : held ≡ Some pass
  pub idle : IsIdleAt lock pass
  pub named : pass.pass.number ≢ 0
  pub key : has_key pass.pass.fixed ≡ true
  pub free : listener.out ≡ None

-- A connection that was served: as it was accepted and as it was handed back, what came by it, and how its session ended.
pub record ConnServed : Type 0 where
  pub handled : Handled
  pub outcome : Result Served SessionFail
  pub payloads : List (List ℕ)
  pub asked : List Asked
  pub used : Used
  pub replies : List Reply

-- The frames of the payloads came by the connection, each asks one request, and the frames of the replies went out by it, up to the end and by its cause.
pub record ConnServes (conn : ConnServed) : Type 0 where
  pub short : All (λ (payload : List ℕ). length payload ≤ most_payload_bytes) conn.payloads
  pub reads : ReadsEach conn.payloads conn.asked
  pub ends : Ends conn.outcome conn.payloads conn.replies (pipe_of conn.handled.accepted) (pipe_of conn.handled.back)

-- what came by several connections, one after the other, was used and was replied; in each the calls are numbered from 1
abbrev pub requests_by : List ConnServed → List SessionRequest
requests_by conns = flat_map (λ (conn : ConnServed). numbered_from 1 conn.asked) conns

abbrev pub replies_by : List ConnServed → List SessionReply
replies_by conns = flat_map (λ (conn : ConnServed). map call_reply conn.replies) conns

abbrev pub used_by : List ConnServed → Used
used_by [] = used_nothing
used_by (conn ∷ more) = then_used conn.used (used_by more)

abbrev pub handled_of : List ConnServed → List Handled
handled_of conns = map (λ (conn : ConnServed). conn.handled) conns

-- These connections were accepted, in order, and handed back. None claims nothing.
abbrev pub Came : Option (List ConnSeen) → Option (List ConnSeen) → List Handled → Type 0
Came None new handled = ⊤
Came (Some old) new handled = (rest : List ConnSeen) × (old ≡ map (λ (one : Handled). one.accepted) handled ++ rest) × (new ≡ Some rest)

abbrev pub WentBack : Option (List Handled) → Option (List Handled) → List Handled → Type 0
WentBack None new handled = ⊤
WentBack (Some old) new handled = new ≡ Some (old ++ handled)

-- so a listener gave these connections, and has none out
pub record ListenerServed (old new : ListenerSeen) (handled : List Handled) : Type 0 where
  pub came : Came old.coming new.coming handled
  pub back : WentBack old.done new.done handled
  pub out : new.out ≡ None
  pub faults : old.faults ≤ new.faults

-- how the work ended
abbrev pub EndsBy : SeatEnd → ListenerSeen → ListenerSeen → Type 0
EndsBy Closed old new = NoneComes new.coming
EndsBy AcceptFault old new = Rose old.faults new.faults

-- The worker served these connections, one after the other: their sessions are one session of its pass, with one turn for each reply.
pub record SeatServed (old new : SeatSeen) (conns : List ConnServed) : Type 0 where
  pub lock : new.lock ≡ old.lock
  pub each : All ConnServes conns
  pub moves : PassMoves old.pass new.pass
  pub session : Session (keyed_by old.pass.fixed) old.pass.seen old.pass.number (requests_by conns) (used_by conns) (replies_by conns) new.pass.seen
  pub turns : TurnsOf old.pass.turns (replies_by conns) new.pass.turns
  pub uses : Uses old.supplies new.supplies (used_by conns)
  pub listener : ListenerServed old.listener new.listener (handled_of conns)

-- It worked until no connection came any more, or an accept failed, and tells which.
pub record SeatWorked (old new : SeatSeen) (ended : Option SeatEnd) : Type 0 where
  pub conns : List ConnServed
  pub served : SeatServed old new conns
  pub end : SeatEnd
  pub ended_is : ended ≡ Some end
  pub ends : EndsBy end old.listener new.listener

-- the connection was the first of those to come, and was handed back; none is out
pub record ListenerGave (old new : ListenerSeen) (handled : Handled) : Type 0 where
  pub first : TakesFirst old.coming new.coming handled.accepted
  pub back : AddsHandled old.done new.done handled
  pub out : new.out ≡ None
  pub faults : old.faults ≤ new.faults

-- One more connection was served: a session of the pass.
pub record ServesConn (old new : SeatSeen) (conn : ConnServed) : Type 0 where
  pub lock : new.lock ≡ old.lock
  pub serves : ConnServes conn
  pub moves : PassMoves old.pass new.pass
  pub session : Session (keyed_by old.pass.fixed) old.pass.seen old.pass.number (numbered_from 1 conn.asked) conn.used (map call_reply conn.replies) new.pass.seen
  pub turns : TurnsOf old.pass.turns (map call_reply conn.replies) new.pass.turns
  pub uses : Uses old.supplies new.supplies conn.used
  pub listener : ListenerGave old.listener new.listener conn.handled

-- No connection was to be had, and nothing else changed.
pub record ServesNone (old new : SeatSeen) (ended : SeatEnd) : Type 0 where
  pub lock : new.lock ≡ old.lock
  pub pass : new.pass ≡ old.pass
  pub supplies : new.supplies ≡ old.supplies
  pub listener : HandsOutNone old.listener new.listener
  pub ends : EndsBy ended old.listener new.listener

-- what one step of the work does
abbrev pub ServesNext : SeatSeen → SeatSeen → Option SeatEnd → Type 0
ServesNext old new None = (conn : ConnServed) × ServesConn old new conn
ServesNext old new (Some ended) = ServesNone old new ended
