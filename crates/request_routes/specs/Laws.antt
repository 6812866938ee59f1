-- What is asked over HTTP, whatever the request.
use Rattle.std.specs.Prelude.{List}
use Rattle.session_rules.specs.Http.{IsHttp}
use Rattle.accounts.specs.Accounts.{AccountSeen}
use Rattle.http_wire.specs.Written.{RequestSeen}
use Rattle.request_routes.specs.Routing.{asked_of}

-- a page that is posted, a status or a page that is read, or nothing with one of four codes
abbrev pub AsksHttp : Type 0
AsksHttp = (accounts : List AccountSeen) (request : RequestSeen) → IsHttp (asked_of accounts request)
