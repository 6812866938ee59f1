-- Which request of HTTP asks the store for what, and the code of one that is refused before (RFC 9110, section 15).
use Rattle.std.specs.Prelude.{ℕ, min, List, drop, codes, Option, Some, None, option_map, Result, Ok, Err, if◌then◌else◌, eqb}
use Rattle.std.specs.List.{starts_with}
use Rattle.std.specs.Option.{ok_or}
use Rattle.std.specs.Str.{bytes_eq}
use Rattle.definitions.specs.Limits.{most_page_records}
use Rattle.definitions.specs.Reading.{◌>>=◌}
use Rattle.form_urlencoded.specs.Form.{split_once}
use Rattle.step_rules.specs.ReadTurns.{StoreRead, status_read, page_read}
use Rattle.session_rules.specs.Sessions.{Asked, a_page, a_read, unrouted, no_memory_code}
use Rattle.accounts.specs.Accounts.{AccountSeen, owner_of}
use Rattle.record_json.specs.Json.{id_of}
use Rattle.http_wire.specs.Written.{RequestSeen}
use Rattle.request_routes.specs.Queries.{value_under, number_in}
use Rattle.request_routes.specs.Bodies.{records_in}
use Rattle.request_routes.specs.declared.actions.Action.{Action}
use Rattle.request_routes.specs.declared.actions.Action.TheVariants.{GiveStatus, GivePage, TakePage}
use Rattle.request_routes.specs.declared.fail.RouteFail.{RouteFail}
use Rattle.request_routes.specs.declared.fail.RouteFail.TheVariants.{NoPath, NoMethod, UnknownToken, BadRequest, NoMemory}

-- ---- method and path

abbrev pub record_path : List ℕ
record_path = codes "/api/v0/record"

abbrev pub next_path : List ℕ
next_path = codes "/api/v0/record/next"

abbrev pub question_mark : ℕ
question_mark = 63

-- the two sides of the first question mark
abbrev pub path_of : (target : List ℕ) → List ℕ
path_of target = (split_once question_mark target).0

abbrev pub query_of : (target : List ℕ) → List ℕ
query_of target = (split_once question_mark target).1

abbrev pub action_on_records : (method : List ℕ) → Result Action RouteFail
action_on_records method = if bytes_eq method (codes "GET") then Ok GiveStatus else (if bytes_eq method (codes "POST") then Ok TakePage else Err NoMethod)

abbrev pub action_on_next : (method : List ℕ) → Result Action RouteFail
action_on_next method = if bytes_eq method (codes "GET") then Ok GivePage else Err NoMethod

abbrev pub action_on : (path method : List ℕ) → Result Action RouteFail
action_on path method = if bytes_eq path record_path then action_on_records method else (if bytes_eq path next_path then action_on_next method else Err NoPath)

-- ---- authorization

abbrev pub token_mark : List ℕ
token_mark = codes "Token "

-- the token behind the mark
abbrev pub token_in : List ℕ → Option (List ℕ)
token_in value = if starts_with eqb value token_mark then Some (drop 6 value) else None

-- the owner whose token the one field tells
abbrev pub owner_asking : List AccountSeen → (authorization : Option (List ℕ)) → Option ℕ
owner_asking accounts authorization = do
  value ← authorization
  token ← token_in value
  owner_of accounts token

-- ---- query and body

abbrev pub id_under : (name query : List ℕ) → Option ℕ
id_under name query = value_under name query >>= id_of

abbrev pub number_under : (name query : List ℕ) → Option ℕ
number_under name query = value_under name query >>= number_in

-- the page that a query asks for: a count above 100 is 100
abbrev pub page_in : (owner : ℕ) (query : List ℕ) → Option StoreRead
page_in owner query = do
  host ← id_under (codes "host") query
  tag ← value_under (codes "tag") query
  start ← number_under (codes "start") query
  count ← number_under (codes "count") query
  Some (page_read owner host tag start (min count most_page_records))

abbrev pub asked_by : Action → (owner : ℕ) → RequestSeen → Option Asked
asked_by GiveStatus owner request = Some (a_read (status_read owner))
asked_by GivePage owner request = option_map a_read (page_in owner (query_of request.target))
asked_by TakePage owner request = option_map (a_page owner) (records_in request.body)

-- ---- the request

-- the path is judged first, then the method, then the token, then the query or the body
abbrev pub asked_of_owner : Action → Option ℕ → RequestSeen → Result Asked RouteFail
asked_of_owner action None request = Err UnknownToken
asked_of_owner action (Some owner) request = ok_or (asked_by action owner request) BadRequest

abbrev pub asked_for : List AccountSeen → RequestSeen → Result Action RouteFail → Result Asked RouteFail
asked_for accounts request (Ok action) = asked_of_owner action (owner_asking accounts request.authorization) request
asked_for accounts request (Err fail) = Err fail

abbrev pub route_of : List AccountSeen → RequestSeen → Result Asked RouteFail
route_of accounts request = asked_for accounts request (action_on (path_of request.target) request.method)

-- ---- as a session is asked

abbrev pub code_of : RouteFail → ℕ
code_of NoPath = 404
code_of NoMethod = 405
code_of UnknownToken = 401
code_of BadRequest = 400
code_of NoMemory = no_memory_code

abbrev pub asked_or_code : Result Asked RouteFail → Asked
asked_or_code (Ok asked) = asked
asked_or_code (Err fail) = unrouted (code_of fail)

-- what the request asks, or the code of its refusal
abbrev pub asked_of : List AccountSeen → RequestSeen → Asked
asked_of accounts request = asked_or_code (route_of accounts request)
