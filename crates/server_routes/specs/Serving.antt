-- How a request is answered over a store.
use Rattle.std.specs.Prelude.{◌≡◌, ℕ, Bool, List, Ok, Err}
use Rattle.session_rules.specs.Sessions.{Asked, SessionAnswer, no_memory_code}
use Rattle.session_seats.specs.Stores.{StoreSeen}
use Rattle.accounts.specs.Accounts.{AccountSeen}
use Rattle.http_wire.specs.Written.{RequestSeen, ResponseSeen}
use Rattle.request_routes.specs.Routing.{route_of, code_of}
use Rattle.request_routes.specs.declared.fail.RouteFail.{RouteFail}
use Rattle.response_texts.specs.Responses.{Tells, coded_response}
use Rattle.server_routes.specs.Asking.{AnswersAsked}

-- what is asked is answered in one turn, and the response tells the answer
abbrev pub ServesAsked : (old new : StoreSeen) (call : ℕ) → Asked → (close : Bool) → ResponseSeen → Type 0
ServesAsked old new call asked close response = (answer : SessionAnswer) × AnswersAsked old new call asked answer × Tells close answer response

-- The request is answered in the call of this number.
pub data AnswersRequest (accounts : List AccountSeen) (old new : StoreSeen) (call : ℕ) (request : RequestSeen) (response : ResponseSeen) : Type 0 where
  -- it is refused, and the store is asked nothing
  request_refused : (fail : RouteFail) → route_of accounts request ≡ Err fail → new ≡ old → response ≡ coded_response request.close (code_of fail) → AnswersRequest accounts old new call request response
  -- memory was wanting before the store was asked
  request_unasked : new ≡ old → response ≡ coded_response request.close no_memory_code → AnswersRequest accounts old new call request response
  -- it asks this, which is answered in one turn
  request_asked : (asked : Asked) → route_of accounts request ≡ Ok asked → ServesAsked old new call asked request.close response → AnswersRequest accounts old new call request response
