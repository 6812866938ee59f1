-- What a request asks is of HTTP, case by case.
use Rattle.std.proofs.Common.{ℕ, Bool, true, false, cond, List, Option, Some, None, option_map, Result, Ok, Err, refl, codes, min, lit<}
use Rattle.std.specs.Str.{bytes_eq}
use Rattle.std.specs.Option.{ok_or}
use Rattle.definitions.specs.Limits.{most_page_records}
use Rattle.definitions.specs.Reading.{◌>>=◌}
use Rattle.record_rules.specs.Records.{SealedRecord}
use Rattle.step_rules.specs.ReadTurns.{page_read}
use Rattle.session_rules.specs.Sessions.{Asked, a_page, a_read}
use Rattle.session_rules.specs.Http.{IsHttp}
use Rattle.accounts.specs.Accounts.{AccountSeen}
use Rattle.http_wire.specs.Written.{RequestSeen}
use Rattle.request_routes.specs.Bodies.{records_in}
use Rattle.request_routes.specs.Routing.{asked_for, asked_of, asked_of_owner, asked_or_code, id_under, next_path, number_under, owner_asking, path_of, query_of, record_path}
use Rattle.request_routes.specs.Queries.{value_under}
use Rattle.request_routes.specs.declared.actions.Action.{Action}
use Rattle.request_routes.specs.declared.actions.Action.TheVariants.{GiveStatus, GivePage, TakePage}
use Rattle.request_routes.specs.declared.fail.RouteFail.{RouteFail}
use Rattle.request_routes.specs.declared.fail.RouteFail.TheVariants.{NoPath, NoMethod, UnknownToken, BadRequest}

abbrev IsAsked : Result Asked RouteFail → Type 0
IsAsked asked = IsHttp (asked_or_code asked)

no_request : IsAsked (Err BadRequest)
no_request = (0, lit< tt, refl)

no_token : IsAsked (Err UnknownToken)
no_token = (1, lit< tt, refl)

no_path : IsAsked (Err NoPath)
no_path = (2, lit< tt, refl)

no_method : IsAsked (Err NoMethod)
no_method = (3, lit< tt, refl)

page_read_or_not : (owner : ℕ) (host : Option ℕ) (tag : Option (List ℕ)) (start count : Option ℕ)
    → IsAsked (ok_or (option_map a_read (host >>= λ h. tag >>= λ t. start >>= λ s. count >>= λ n. Some (page_read owner h t s (min n most_page_records)))) BadRequest)
page_read_or_not owner None tag start count = no_request
page_read_or_not owner (Some h) None start count = no_request
page_read_or_not owner (Some h) (Some t) None count = no_request
page_read_or_not owner (Some h) (Some t) (Some s) None = no_request
page_read_or_not owner (Some h) (Some t) (Some s) (Some n) = tt

page_sent_or_not : (owner : ℕ) (records : Option (List SealedRecord)) → IsAsked (ok_or (option_map (a_page owner) records) BadRequest)
page_sent_or_not owner None = no_request
page_sent_or_not owner (Some records) = tt

of_owner : (action : Action) (owner : Option ℕ) (request : RequestSeen) → IsAsked (asked_of_owner action owner request)
of_owner action None request = no_token
of_owner GiveStatus (Some owner) request = tt
of_owner GivePage (Some owner) request =
    let query = query_of request.target in
    page_read_or_not owner (id_under (codes "host") query) (value_under (codes "tag") query) (number_under (codes "start") query) (number_under (codes "count") query)
of_owner TakePage (Some owner) request = page_sent_or_not owner (records_in request.body)

of_action : (accounts : List AccountSeen) (request : RequestSeen) (on_records on_next get post : Bool)
    → IsAsked (asked_for accounts request (cond on_records (cond get (Ok GiveStatus) (cond post (Ok TakePage) (Err NoMethod))) (cond on_next (cond get (Ok GivePage) (Err NoMethod)) (Err NoPath))))
of_action accounts request true on_next true post = of_owner GiveStatus (owner_asking accounts request.authorization) request
of_action accounts request true on_next false true = of_owner TakePage (owner_asking accounts request.authorization) request
of_action accounts request true on_next false false = no_method
of_action accounts request false true true post = of_owner GivePage (owner_asking accounts request.authorization) request
of_action accounts request false true false post = no_method
of_action accounts request false false get post = no_path

pub asks_http : (accounts : List AccountSeen) (request : RequestSeen) → IsHttp (asked_of accounts request)
asks_http accounts request =
    let path = path_of request.target in
    of_action accounts request (bytes_eq path record_path) (bytes_eq path next_path) (bytes_eq request.method (codes "GET")) (bytes_eq request.method (codes "POST"))
