-- What routing a request answers.
use Rattle.std.specs.Prelude.{◌≡◌, ℕ, List, Some, None, option_map, Result, Ok, Err, ⊤}
use Rattle.record_model.specs.Seen.{records_seen}
use Rattle.step_rules.specs.ReadTurns.{status_read, page_read}
use Rattle.session_rules.specs.Sessions.{Asked, a_page, a_read}
use Rattle.accounts.specs.Accounts.{AccountSeen}
use Rattle.http_wire.specs.Written.{RequestSeen}
use Rattle.request_routes.specs.Bodies.{records_in}
use Rattle.request_routes.specs.Routing.{page_in, route_of}
use Rattle.request_routes.specs.declared.fail.RouteFail.{RouteFail}
use Rattle.request_routes.specs.declared.fail.RouteFail.TheVariants.{BadRequest, NoMemory}
use Rattle.request_routes.specs.declared.routing.Asked.{Asked as Routed}
use Rattle.request_routes.specs.declared.routing.Asked.TheVariants.{Status, Next, Take}

abbrev pub asked_seen : Routed → Asked
asked_seen (Status owner) = a_read (status_read owner)
asked_seen (Next owner host tag start count) = a_read (page_read owner host tag start count)
asked_seen (Take owner page) = a_page owner (records_seen page.items)

-- what the request asks, or why it is refused; or memory was wanting
abbrev pub IsRoute : List AccountSeen → RequestSeen → Result Routed RouteFail → Type 0
IsRoute accounts request (Ok asked) = route_of accounts request ≡ Ok (asked_seen asked)
IsRoute accounts request (Err NoMemory) = ⊤
IsRoute accounts request (Err fail) = route_of accounts request ≡ Err fail

-- the page of the owner that the query asks for, or why it is refused
abbrev pub IsPageRoute : (owner : ℕ) (query : List ℕ) → Result Routed RouteFail → Type 0
IsPageRoute owner query (Ok asked) = option_map a_read (page_in owner query) ≡ Some (asked_seen asked)
IsPageRoute owner query (Err BadRequest) = page_in owner query ≡ None
IsPageRoute owner query (Err NoMemory) = ⊤
IsPageRoute owner query (Err _) = ⊥

-- the page that the body holds, for the owner, or why it is refused
abbrev pub IsTakeRoute : (owner : ℕ) (body : List ℕ) → Result Routed RouteFail → Type 0
IsTakeRoute owner body (Ok asked) = option_map (a_page owner) (records_in body) ≡ Some (asked_seen asked)
IsTakeRoute owner body (Err BadRequest) = records_in body ≡ None
IsTakeRoute owner body (Err NoMemory) = ⊤
IsTakeRoute owner body (Err _) = ⊥
