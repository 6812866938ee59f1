-- The response to a request: the code of its answer, the body that tells it, and whether the connection ends.
use Rattle.std.specs.Prelude.{◌≡◌, ◌⊎◌, ℕ, Bool, ◌||◌, ◌==◌, Option, Some, option_map}
use Rattle.step_rules.specs.ReadTurns.{ReadAnswer, read_no_memory}
use Rattle.session_rules.specs.Sessions.{SessionAnswer, to_read, no_memory_code}
use Rattle.session_rules.specs.Http.{response_code}
use Rattle.http_wire.specs.Written.{ResponseSeen}
use Rattle.response_texts.specs.Bodies.{body_of, coded_body}

-- the connection ends where the request asks for its end, and where memory was wanting
abbrev pub closes : (asked : Bool) (code : ℕ) → Bool
closes asked code = asked || code == no_memory_code

abbrev pub response_with : (asked : Bool) → SessionAnswer → (code : ℕ) → ResponseSeen
response_with asked answer code = record { code = code; close = closes asked code; body = body_of answer }

-- the response to a request that asks for the connection's end or doesn't; what a call is answered has none
abbrev pub response_to : (asked : Bool) → SessionAnswer → Option ResponseSeen
response_to asked answer = option_map (response_with asked answer) (response_code answer)

-- the response tells this answer
abbrev pub Tells : (asked : Bool) → SessionAnswer → ResponseSeen → Type 0
Tells asked answer response = response_to asked answer ≡ Some response

-- it tells what was read, or that memory was wanting for it
abbrev pub TellsRead : (asked : Bool) → ReadAnswer → ResponseSeen → Type 0
TellsRead asked answer response = Tells asked (to_read answer) response ⊎ Tells asked (to_read read_no_memory) response

-- a code alone, and the reason that it stands for
abbrev pub coded_response : (asked : Bool) (code : ℕ) → ResponseSeen
coded_response asked code = record { code = code; close = closes asked code; body = coded_body code }
