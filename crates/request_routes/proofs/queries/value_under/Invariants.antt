use Rattle.std.proofs.Common.{◌≡◌, ◌++◌, length, string_bytes, option_map}
use Rattle.form_urlencoded.specs.Parse.{owned_pairs_left}
use Rattle.request_routes.specs.Queries.{pairs_in, pairs_of, values_of}
use Rattle.request_routes.proofs.Values.{held}
use Rattle.request_routes.proofs.queries.value_under.Given as goal

abbrev pub invariant-loop-pair : goal.invariant-loop-pair
invariant-loop-pair l = values_of l.name (pairs_in l.query) ≡ held (option_map string_bytes l.found) ++ values_of l.name (pairs_of (owned_pairs_left l.pairs))

abbrev pub decreases-loop-pair : goal.decreases-loop-pair
decreases-loop-pair l = length (owned_pairs_left l.pairs)
