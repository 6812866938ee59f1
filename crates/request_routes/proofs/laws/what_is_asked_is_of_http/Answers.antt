use Rattle.request_routes.proofs.Asking.{asks_http}
use Rattle.request_routes.proofs.laws.what_is_asked_is_of_http.Goals as goal

pub returns : goal.returns
returns c = asks_http
