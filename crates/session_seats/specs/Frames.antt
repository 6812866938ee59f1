-- What reading one frame finds.
use Rattle.std.specs.Prelude.{◌≡◌, ◌⊎◌, ℕ, ◌<◌, ◌≤◌, ◌^◌, List, [], length, take}
use Rattle.std.specs.Int.{w32, to_be_bytes}
use Rattle.std.specs.Io.KnownBytes.{IsAtEnd}
use Rattle.definitions.specs.Limits.{most_payload_bytes}
use Rattle.definitions.specs.Frames.{frame, CutFrame}
use Rattle.definitions.specs.Counts.{Rose}
use Rattle.at_edge.specs.Taking.{SourceSeen, Gave}
use Rattle.session_seats.specs.declared.frames.LengthRead.{LengthRead}
use Rattle.session_seats.specs.declared.frames.LengthRead.TheVariants as lengths
use Rattle.session_seats.specs.declared.frames.FrameRead.{FrameRead}
use Rattle.session_seats.specs.declared.frames.FrameRead.TheVariants as reads

-- nothing of a frame, or a part of one that ends within it
abbrev pub FramePrefix : List ℕ → Type 0
FramePrefix part = (part ≡ []) ⊎ CutFrame part

-- the length of a frame
abbrev pub ReadsLength : LengthRead → SourceSeen → SourceSeen → Type 0
ReadsLength (lengths.Length n) old new = Gave old new (to_be_bytes w32 n) × (n < 2 ^ 32)
ReadsLength lengths.End old new = Gave old new [] × IsAtEnd new.left
ReadsLength lengths.Cut old new = (part : List ℕ) × CutFrame part × Gave old new part × IsAtEnd new.left
ReadsLength lengths.Failed old new = (part : List ℕ) × FramePrefix part × Gave old new part × Rose old.faults new.faults

-- a part of a payload of this length was read into the buffer
abbrev pub PartRead : ℕ → SourceSeen → SourceSeen → List ℕ → Type 0
PartRead named old new buffer = (n : ℕ) × (n < named) × (named ≤ most_payload_bytes) × (n ≤ length buffer) × Gave old new (take n buffer)

-- a payload of this length, read into a buffer behind the length
abbrev pub ReadsPayload : ℕ → FrameRead → SourceSeen → SourceSeen → List ℕ → Type 0
ReadsPayload named (reads.Payload n) old new buffer = Gave old new (take n buffer) × (n ≡ named) × (n ≤ length buffer) × (n ≤ most_payload_bytes)
ReadsPayload named reads.End old new buffer = ⊥
ReadsPayload named reads.Cut old new buffer = PartRead named old new buffer × IsAtEnd new.left
ReadsPayload named (reads.TooLong n) old new buffer = (n ≡ named) × (new ≡ old) × (most_payload_bytes < n)
ReadsPayload named reads.Failed old new buffer = PartRead named old new buffer × Rose old.faults new.faults

-- one frame, read into a buffer
abbrev pub ReadsFrame : FrameRead → SourceSeen → SourceSeen → List ℕ → Type 0
ReadsFrame (reads.Payload n) old new buffer = Gave old new (frame (take n buffer)) × (n ≤ length buffer) × (n ≤ most_payload_bytes)
ReadsFrame reads.End old new buffer = Gave old new [] × IsAtEnd new.left
ReadsFrame reads.Cut old new buffer = (part : List ℕ) × CutFrame part × Gave old new part × IsAtEnd new.left
ReadsFrame (reads.TooLong n) old new buffer = Gave old new (to_be_bytes w32 n) × (most_payload_bytes < n) × (n < 2 ^ 32)
ReadsFrame reads.Failed old new buffer = (part : List ℕ) × FramePrefix part × Gave old new part × Rose old.faults new.faults
