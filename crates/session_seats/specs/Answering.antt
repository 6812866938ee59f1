-- What a payload asks, and what it is answered.
use Rattle.std.specs.Prelude.{◌≡◌, ◌⊎◌, ℕ, List, ◌++◌}
use Rattle.definitions.specs.Frames.{frame}
use Rattle.definitions.specs.Uses.{Used}
use Rattle.step_rules.specs.Answers.{refused, no_memory, bad_request, Reply}
use Rattle.step_rules.specs.Calls.{Call}
use Rattle.session_rules.specs.Sessions.{Asked, a_call}
use Rattle.session_rules.specs.Reading.{Reads}
use Rattle.session_rules.specs.Bytes.{reply_bytes}
use Rattle.daemon_wire.specs.Writing.{IsShort}
use Rattle.daemon_wire.specs.declared.fail.CallFail.{CallFail}
use Rattle.daemon_wire.specs.declared.fail.CallFail.TheVariants as fails
use Rattle.session_seats.specs.Stores.{StoreSeen, AnswersIn}
use Rattle.call_supplies.specs.Supplies.{Supplies, Uses}

-- the call of this number was answered in one turn, and used so much
abbrev pub AnswersCall : StoreSeen → StoreSeen → Supplies → Supplies → ℕ → Call → Reply → Type 0
AnswersCall old new before after number call reply = (used : Used) × AnswersIn old new number (a_call call) used reply × Uses before after used

-- what the payload asks was answered in one turn, by this reply
pub record AnswersPayload (old new : StoreSeen) (before after : Supplies) (number : ℕ) (payload : List ℕ) (reply : Reply) : Type 0 where
  pub asked : Asked
  pub used : Used
  pub reads : Reads payload asked
  pub turn : AnswersIn old new number asked used reply
  pub uses : Uses before after used

-- and its bytes stand behind those that stood before
abbrev pub AnswerStands : StoreSeen → StoreSeen → Supplies → Supplies → ℕ → List ℕ → List ℕ → List ℕ → Type 0
AnswerStands old new before after number payload stood stands = (reply : Reply) × AnswersPayload old new before after number payload reply × (stands ≡ stood ++ reply_bytes reply)

-- or these are the bytes of its frame
abbrev pub AnswerFramed : StoreSeen → StoreSeen → Supplies → Supplies → ℕ → List ℕ → List ℕ → Type 0
AnswerFramed old new before after number payload framed = (reply : Reply) × AnswersPayload old new before after number payload reply × (framed ≡ frame (reply_bytes reply))

-- the reply that tells of want of memory at this front
abbrev pub wanting : ℕ → Reply
wanting front = record { front = front; answer = refused no_memory }

-- The bytes of the reply stand behind those that stood before. Where the reply may be too long for the room that is kept, want of memory may
-- be told in its place, at its front.
abbrev pub ReplyTold : Reply → List ℕ → List ℕ → Type 0
ReplyTold reply stood stands = (stands ≡ stood ++ reply_bytes reply) ⊎ ((IsShort reply.answer → ⊥) × (stands ≡ stood ++ reply_bytes (wanting reply.front)))

-- the reply that tells at this front where a payload goes wrong
abbrev pub bad_at : ℕ → ℕ → Reply
bad_at front place = record { front = front; answer = refused (bad_request place) }

-- The bytes of the reply to a payload of which no call was read stand behind those that stood before.
abbrev pub FailTold : CallFail → ℕ → List ℕ → List ℕ → Type 0
FailTold (fails.BadRequest place) front stood stands = stands ≡ stood ++ reply_bytes (bad_at front place)
FailTold fails.NoMemory front stood stands = stands ≡ stood ++ reply_bytes (wanting front)
