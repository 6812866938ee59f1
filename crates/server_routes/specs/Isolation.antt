-- Owners are alone: what one asks is answered by what it holds, and leaves what others hold.
use Rattle.std.specs.Prelude.{◌≡◌, ◌≢◌, ◌⊎◌, ℕ, List, [], true, Option, Some, None, Ok, Err}
use Rattle.definitions.specs.Counts.{Rose}
use Rattle.definitions.specs.Uses.{used_nothing}
use Rattle.record_rules.specs.Records.{Caller}
use Rattle.record_rules.specs.Journal.{own_events}
use Rattle.step_rules.specs.Store.{KeyedStore}
use Rattle.step_rules.specs.ReadTurns.{status_read, page_read}
use Rattle.step_rules.specs.Turn.{settled}
use Rattle.session_rules.specs.Sessions.{Asked, a_page, a_read, SessionAnswer, caller_of, no_memory_code}
use Rattle.session_rules.specs.Stores.{StoreState, StoreTurn}
use Rattle.session_seats.specs.Stores.{StoreSeen}
use Rattle.accounts.specs.Accounts.{AccountSeen}
use Rattle.http_wire.specs.Written.{RequestSeen, ResponseSeen}
use Rattle.request_routes.specs.Routing.{route_of, asked_of, code_of}
use Rattle.request_routes.specs.declared.fail.RouteFail.{RouteFail}
use Rattle.response_texts.specs.Responses.{Tells, coded_response}
use Rattle.server_routes.specs.Serving.{AnswersRequest}

-- whose data is asked for
abbrev pub owner_in : Asked → Option ℕ
owner_in (a_page owner records) = Some owner
owner_in (a_read (status_read owner)) = Some owner
owner_in (a_read (page_read owner host tag start count)) = Some owner
owner_in _ = None

-- the owner of the request, if it asks the store anything
abbrev pub owner_of_request : List AccountSeen → RequestSeen → Option ℕ
owner_of_request accounts request = owner_in (asked_of accounts request)

-- From this state the request, in this caller's call, may leave that one and get this response.
pub data Serves (accounts : List AccountSeen) (store : KeyedStore) (found : StoreState) (caller : Caller) (request : RequestSeen) (left : StoreState) (response : ResponseSeen) : Type 0 where
  serves_refused : (fail : RouteFail) → route_of accounts request ≡ Err fail → left ≡ found → response ≡ coded_response request.close (code_of fail) → Serves accounts store found caller request left response
  serves_unasked : left ≡ found → response ≡ coded_response request.close no_memory_code → Serves accounts store found caller request left response
  serves_asked : (asked : Asked) (answer : SessionAnswer) → route_of accounts request ≡ Ok asked → StoreTurn store found caller asked used_nothing left answer → Tells request.close answer response → Serves accounts store found caller request left response

-- ---- the laws

-- a store that one caller has and that tells what its disk holds
abbrev pub ServesAlone : Type 0
ServesAlone = (accounts : List AccountSeen) (old new : StoreSeen) (call : ℕ) (request : RequestSeen) (response : ResponseSeen) → old.fixed.alone ≡ true → old.history ≢ None → AnswersRequest accounts old new call request response
    → Serves accounts old.fixed.keyed old.state (caller_of old.fixed.number call) request new.state response

-- memory was wanting, or the disk failed
abbrev pub HasFailed : (found left : StoreState) → ResponseSeen → Type 0
HasFailed found left response = (response.code ≡ no_memory_code) ⊎ Rose found.faults left.faults

-- Two stores, with nothing in doubt, in which the owner of the request holds the same.
abbrev pub ServesAlike : Type 0
ServesAlike = (accounts : List AccountSeen) (store other : KeyedStore) (found there : StoreState) (caller caller_there : Caller) (request : RequestSeen) (left left_there : StoreState) (response response_there : ResponseSeen)
    → found.doubt ≡ [] → there.doubt ≡ [] → ((owner : ℕ) → owner_of_request accounts request ≡ Some owner → own_events found.entries owner ≡ own_events there.entries owner)
    → Serves accounts store found caller request left response → Serves accounts other there caller_there request left_there response_there
    → HasFailed found left response ⊎ (HasFailed there left_there response_there ⊎ (response ≡ response_there))

-- An owner that isn't the request's holds what it held, or what it holds with the commit in doubt.
abbrev pub KeepsOthers : Type 0
KeepsOthers = (accounts : List AccountSeen) (store : KeyedStore) (found : StoreState) (caller : Caller) (request : RequestSeen) (left : StoreState) (response : ResponseSeen) (other : ℕ) → Serves accounts store found caller request left response
    → owner_of_request accounts request ≢ Some other
    → (own_events left.entries other ≡ own_events found.entries other) ⊎ (own_events left.entries other ≡ own_events (settled found.entries found.doubt) other)
