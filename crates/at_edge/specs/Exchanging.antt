-- What a link in memory keeps: its exchanges, and the responses that are still to come.
use Rattle.std.specs.Prelude.{ℕ, Bool, true, false, List, [], ◌∷◌, take, drop, map, reverse, Some}
use Rattle.at_edge.specs.Linking.{Exchange, LinkSeen}
use Rattle.at_edge.specs.declared.exchanges.KeptExchange.{KeptExchange}
use Rattle.at_edge.specs.declared.exchanges.Exchanges.{Exchanges}

-- what was taken, and what was given of the response
abbrev pub exchange_of : KeptExchange → Exchange
exchange_of kept = record { request = kept.request.items; response = take kept.response.at kept.response.bytes.items }

-- the bytes of the response that are still to be given
abbrev pub left_of : Bool → KeptExchange → List ℕ
left_of true current = drop current.response.at current.response.bytes.items
left_of false current = []

-- the one under way, and the earlier ones, kept in the order in which they were begun
abbrev pub begun_of : Bool → KeptExchange → List KeptExchange → List Exchange
begun_of true current earlier = exchange_of current ∷ reverse (map exchange_of earlier)
begun_of false current earlier = []

abbrev pub link_kept : Exchanges → ℕ → LinkSeen
link_kept e faults = record { left = Some (left_of e.is_under_way e.current); exchanges = Some (begun_of e.is_under_way e.current e.earlier.items); faults = faults }

-- the responses of the exchanges that aren't begun yet
abbrev pub still_coming : Exchanges → List (List ℕ)
still_coming e = map (λ v. v.items) e.coming.items
