-- What one turn of a session does: a frame is read, answered, and the reply written.
use Rattle.std.specs.Prelude.{◌≡◌, ℕ, ◌<◌, ◌≤◌, ◌^◌, List, [], length}
use Rattle.std.specs.Int.{w32, to_be_bytes}
use Rattle.std.specs.Io.KnownBytes.{IsAtEnd}
use Rattle.definitions.specs.Limits.{most_payload_bytes}
use Rattle.definitions.specs.Frames.{frame, CutFrame}
use Rattle.definitions.specs.Counts.{Rose}
use Rattle.step_rules.specs.Answers.{Reply}
use Rattle.at_edge.specs.Taking.{Gave}
use Rattle.at_edge.specs.Writing.{Holds, Stopped}
use Rattle.session_seats.specs.Stores.{StoreSeen}
use Rattle.call_supplies.specs.Supplies.{Supplies}
use Rattle.session_seats.specs.Answering.{AnswersPayload}
use Rattle.session_seats.specs.Frames.{FramePrefix}
use Rattle.session_seats.specs.Sessions.{Pipe, reply_frame}
use Rattle.session_seats.specs.declared.session.Turn.{Turn}
use Rattle.session_seats.specs.declared.session.Turn.TheVariants as turns

-- a payload was read and answered
pub record Answered (number : ℕ) (payload : List ℕ) (reply : Reply) (store_old store_new : StoreSeen) (before after : Supplies) (old new : Pipe) : Type 0 where
  pub short : length payload ≤ most_payload_bytes
  pub taken : Gave old.source new.source (frame payload)
  pub answer : AnswersPayload store_old store_new before after number payload reply

-- nothing but the source was touched, which gave this part of a frame
pub record Unanswered (part : List ℕ) (store_old store_new : StoreSeen) (before after : Supplies) (old new : Pipe) : Type 0 where
  pub taken : Gave old.source new.source part
  pub sink : new.sink ≡ old.sink
  pub supplies : after ≡ before
  pub store : store_new ≡ store_old

-- what one turn did
abbrev pub TakesTurn : ℕ → Turn → StoreSeen → StoreSeen → Supplies → Supplies → Pipe → Pipe → Type 0
TakesTurn number (turns.Answered n) store_old store_new before after old new =
    (payload : List ℕ) × (reply : Reply) × Answered number payload reply store_old store_new before after old new × (length payload ≡ n) × Holds old.sink new.sink (reply_frame reply)
TakesTurn number turns.SinkFailed store_old store_new before after old new =
    (payload : List ℕ) × (reply : Reply) × (count : ℕ) × Answered number payload reply store_old store_new before after old new × Stopped old.sink new.sink (reply_frame reply) count
TakesTurn number turns.End store_old store_new before after old new = Unanswered [] store_old store_new before after old new × IsAtEnd new.source.left
TakesTurn number turns.Cut store_old store_new before after old new = (part : List ℕ) × CutFrame part × Unanswered part store_old store_new before after old new × IsAtEnd new.source.left
TakesTurn number (turns.TooLong n) store_old store_new before after old new = Unanswered (to_be_bytes w32 n) store_old store_new before after old new × (most_payload_bytes < n) × (n < 2 ^ 32)
TakesTurn number turns.SourceFailed store_old store_new before after old new =
    (part : List ℕ) × FramePrefix part × Unanswered part store_old store_new before after old new × Rose old.source.faults new.source.faults
