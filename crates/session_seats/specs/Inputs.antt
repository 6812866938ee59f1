-- What a whole input comes to.
use Rattle.std.specs.Prelude.{◌≡◌, ℕ, ◌<◌, List, [], length, Result, Ok, Err, ⊤}
use Rattle.definitions.specs.Frames.{frames, named_length, CutFrame, LongFrame}
use Rattle.at_edge.specs.declared.ending.Served.{Served}
use Rattle.at_edge.specs.declared.ending.SessionFail.{SessionFail}
use Rattle.at_edge.specs.declared.ending.SessionFail.TheVariants as fails
use Rattle.session_seats.specs.Sessions.{most_requests}

-- A session over these payloads' frames and this rest may end so: the input ends between two frames, or within one, or with one that is too long, or
-- the last request was answered. A fault, and want of memory, may come at any input.
abbrev pub IsEndOf : Result Served SessionFail → List (List ℕ) → List ℕ → Type 0
IsEndOf (Ok served) payloads rest = (length payloads < most_requests) × (rest ≡ []) × (served.requests ≡ length payloads)
IsEndOf (Err (fails.CutFrame at)) payloads rest = (length payloads < most_requests) × CutFrame rest × (at ≡ length (frames payloads))
IsEndOf (Err (fails.FrameTooLong named)) payloads rest = (length payloads < most_requests) × LongFrame rest × (named_length rest ≡ named)
IsEndOf (Err fails.SessionLimit) payloads rest = length payloads ≡ most_requests
IsEndOf (Err fails.SourceFault) payloads rest = ⊤
IsEndOf (Err fails.SinkFault) payloads rest = ⊤
IsEndOf (Err fails.NoMemory) payloads rest = ⊤
