-- A session over a source and a sink: what it takes, what it gives, and how it ends.
use Rattle.std.specs.Prelude.{◌≡◌, ℕ, ◌<◌, ◌≤◌, List, [], ◌∷◌, ◌++◌, length, map, take, true, Result, Ok, Err}
use Rattle.std.specs.List.{All}
use Rattle.std.specs.Io.KnownBytes.{IsAtEnd}
use Rattle.definitions.specs.Limits.{most_payload_bytes}
use Rattle.definitions.specs.Frames.{frame, frames, named_length, CutFrame, LongFrame}
use Rattle.definitions.specs.Counts.{Rose}
use Rattle.definitions.specs.Uses.{Used}
use Rattle.step_rules.specs.Answers.{Reply}
use Rattle.session_rules.specs.Sessions.{Asked, numbered_from, call_reply, Session}
use Rattle.session_rules.specs.Reading.{ReadsEach}
use Rattle.session_rules.specs.Bytes.{reply_bytes}
use Rattle.at_edge.specs.Taking.{SourceSeen, Gave}
use Rattle.at_edge.specs.Writing.{SinkSeen, Holds}
use Rattle.at_edge.specs.declared.ending.Served.{Served}
use Rattle.at_edge.specs.declared.ending.SessionFail.{SessionFail}
use Rattle.at_edge.specs.declared.ending.SessionFail.TheVariants as fails
use Rattle.session_seats.specs.Stores.{StoreSeen, TurnsTold, RunsAlone}
use Rattle.call_supplies.specs.Supplies.{Supplies, Uses}
use Rattle.session_seats.specs.Frames.{FramePrefix}

-- a session ends with the reply to this request
abbrev pub most_requests : ℕ
most_requests = 1000000

-- the bytes of a reply's frame, and of those of several, one after the other
abbrev pub reply_frame : Reply → List ℕ
reply_frame reply = frame (reply_bytes reply)

abbrev pub reply_frames : List Reply → List ℕ
reply_frames replies = frames (map reply_bytes replies)

-- the source and the sink
pub record Pipe : Type 0 where
  pub source : SourceSeen
  pub sink : SinkSeen

abbrev pub pipe : SourceSeen → SinkSeen → Pipe
pipe source sink = record { source = source; sink = sink }

-- the payloads' frames and then this part were taken, and the replies' frames were written
pub record Stands (payloads : List (List ℕ)) (replies : List Reply) (old new : Pipe) (part : List ℕ) : Type 0 where
  pub taken : Gave old.source new.source (frames payloads ++ part)
  pub written : Holds old.sink new.sink (reply_frames replies)

-- the sink failed within the last reply
pub record SinkStops (payloads : List (List ℕ)) (replies : List Reply) (old new : Pipe) : Type 0 where
  pub earlier : List Reply
  pub last : Reply
  pub replies_are : replies ≡ earlier ++ last ∷ []
  pub count : ℕ
  pub short : count < length (reply_frame last)
  pub taken : Gave old.source new.source (frames payloads)
  pub written : Holds old.sink new.sink (reply_frames earlier ++ take count (reply_frame last))
  pub faults : Rose old.sink.faults new.sink.faults

-- how each outcome comes
abbrev pub Ends : Result Served SessionFail → List (List ℕ) → List Reply → Pipe → Pipe → Type 0
-- the source ended between two frames
Ends (Ok served) payloads replies old new = Stands payloads replies old new [] × IsAtEnd new.source.left × (length payloads < most_requests) × (served.requests ≡ length payloads)
-- a read failed before a frame or within it
Ends (Err fails.SourceFault) payloads replies old new = (part : List ℕ) × FramePrefix part × Stands payloads replies old new part × (length payloads < most_requests) × Rose old.source.faults new.source.faults
Ends (Err fails.SinkFault) payloads replies old new = SinkStops payloads replies old new × (length payloads ≤ most_requests)
-- the source ended within the frame that begins at this byte
Ends (Err (fails.CutFrame at)) payloads replies old new = (part : List ℕ) × CutFrame part × Stands payloads replies old new part × IsAtEnd new.source.left × (length payloads < most_requests) × (at ≡ length (frames payloads))
-- of a frame that is too long its length was taken
Ends (Err (fails.FrameTooLong named)) payloads replies old new = (head : List ℕ) × LongFrame head × (length head ≡ 4) × (named_length head ≡ named) × Stands payloads replies old new head × (length payloads < most_requests)
Ends (Err fails.SessionLimit) payloads replies old new = Stands payloads replies old new [] × (length payloads ≡ most_requests)
Ends (Err fails.NoMemory) payloads replies old new = Stands payloads replies old new [] × (payloads ≡ [])

-- The payloads that were read are one request each, in order, numbered from 1, and each got one reply. They are the session of the store's number, with
-- a turn for each reply, and a run of turns where the store is lent alone.
pub record SeatServes (outcome : Result Served SessionFail) (store_old store_new : StoreSeen) (before after : Supplies) (old new : Pipe) : Type 0 where
  pub payloads : List (List ℕ)
  pub asked : List Asked
  pub used : Used
  pub replies : List Reply
  pub short : All (λ (payload : List ℕ). length payload ≤ most_payload_bytes) payloads
  pub reads : ReadsEach payloads asked
  pub session : Session store_old.fixed.keyed store_old.state.entries store_old.fixed.number (numbered_from 1 asked) used (map call_reply replies) store_new.state.entries
  pub alone : store_old.fixed.alone ≡ true → RunsAlone store_old store_new (numbered_from 1 asked) used (map call_reply replies)
  pub turns : TurnsTold store_old.turns (map call_reply replies) store_new.turns
  pub fixed : store_new.fixed ≡ store_old.fixed
  pub uses : Uses before after used
  pub ends : Ends outcome payloads replies old new

-- a session over a store that is lent alone: a run of the store's turns too
pub record ServesAlone (outcome : Result Served SessionFail) (store_old store_new : StoreSeen) (before after : Supplies) (old new : Pipe) : Type 0 where
  pub serves : SeatServes outcome store_old store_new before after old new
  pub runs : RunsAlone store_old store_new (numbered_from 1 serves.asked) serves.used (map call_reply serves.replies)
