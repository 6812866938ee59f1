-- What a read and a write of one side of a link do to its exchanges, and what was begun since a moment.
use Rattle.std.proofs.Common.{◌≡◌, ℕ, List, [], ◌∷◌, ◌++◌, Option, Some, None, refl, sym, ◌∙◌, ap, subst}
use Rattle.at_edge.specs.Taking.{SourceSeen, Gave}
use Rattle.at_edge.specs.Writing.{SinkSeen, Holds}
use Rattle.at_edge.specs.Linking.{Exchange, LinkSeen, both_ways, response_now, beside_response, request_now, beside_request, response_side, request_side, HasSides, BeginsOne, Sends, Receives, BegunSince}
use Rattle.std.specs.Io.KnownBytes.{Appends}

abbrev head_of : List (List ℕ) → List ℕ
head_of [] = []
head_of (x ∷ xs) = x

abbrev tail_of : List (List ℕ) → List (List ℕ)
tail_of [] = []
tail_of (x ∷ xs) = xs

made : (e : Exchange) (request response : List ℕ) → e.request ≡ request → e.response ≡ response → e ≡ record { request = request; response = response }
made e request response first second = ap (λ (r : List ℕ). record { request = r; response = e.response }) first ∙ ap (λ (r : List ℕ). record { request = request; response = r }) second

-- requests and responses in turn are read in one way
both_ways_same : (xs ys : List Exchange) → both_ways xs ≡ both_ways ys → xs ≡ ys
both_ways_same [] [] e = refl
both_ways_same [] (y ∷ ys) e = cc
both_ways_same (x ∷ xs) [] e = cc
both_ways_same (x ∷ xs) (y ∷ ys) e =
    let first : x.request ≡ y.request = ap head_of e in
    let second : x.response ≡ y.response = ap (λ (l : List (List ℕ)). head_of (tail_of l)) e in
    let rest : both_ways xs ≡ both_ways ys = ap (λ (l : List (List ℕ)). tail_of (tail_of l)) e in
    ap (λ (x : Exchange). x ∷ xs) (made x y.request y.response first second) ∙ ap (λ (l : List Exchange). y ∷ l) (both_ways_same xs ys rest)

-- what was received from the one side, and what was sent to the other
receives_by : (old new : Option (List Exchange)) (bytes : List ℕ) → Appends (response_now old) (response_now new) bytes → beside_response new ≡ beside_response old → Receives old new bytes
receives_by None new bytes gave beside = tt
receives_by (Some []) None bytes gave beside = absurd gave
receives_by (Some []) (Some []) bytes gave beside = (sym gave, refl)
receives_by (Some []) (Some (new ∷ later)) bytes gave beside = cc
receives_by (Some (old ∷ earlier)) None bytes gave beside = absurd gave
receives_by (Some (old ∷ earlier)) (Some []) bytes gave beside = cc
receives_by (Some (old ∷ earlier)) (Some (new ∷ later)) bytes gave beside =
    let request : new.request ≡ old.request = ap head_of beside in
    let rest : later ≡ earlier = both_ways_same later earlier (ap tail_of beside) in
    ap (λ (e : Exchange). Some (e ∷ later)) (made new old.request (old.response ++ bytes) request gave) ∙ ap (λ (l : List Exchange). Some (record { request = old.request; response = old.response ++ bytes } ∷ l)) rest

sends_by : (old new : Option (List Exchange)) (bytes : List ℕ) → Appends (request_now old) (request_now new) bytes → beside_request new ≡ beside_request old → Sends old new bytes
sends_by None new bytes held beside = tt
sends_by (Some []) None bytes held beside = absurd held
sends_by (Some []) (Some []) bytes held beside = (sym held, refl)
sends_by (Some []) (Some (new ∷ later)) bytes held beside = cc
sends_by (Some (old ∷ earlier)) None bytes held beside = absurd held
sends_by (Some (old ∷ earlier)) (Some []) bytes held beside = cc
sends_by (Some (old ∷ earlier)) (Some (new ∷ later)) bytes held beside =
    let response : new.response ≡ old.response = ap head_of beside in
    let rest : later ≡ earlier = both_ways_same later earlier (ap tail_of beside) in
    ap (λ (e : Exchange). Some (e ∷ later)) (made new (old.request ++ bytes) old.response held response) ∙ ap (λ (l : List Exchange). Some (record { request = old.request ++ bytes; response = old.response } ∷ l)) rest

pub received : (old new : LinkSeen) (source source_new : SourceSeen) (sink sink_new : SinkSeen) (bytes : List ℕ) → HasSides old source sink → HasSides new source_new sink_new → Gave source source_new bytes → Receives old.exchanges new.exchanges bytes
received old new source source_new sink sink_new bytes sides sides_new gave =
    let at_old : Gave (response_side old) source_new bytes = subst (λ (s : SourceSeen). Gave s source_new bytes) sides.source_is gave in
    let now : Gave (response_side old) (response_side new) bytes = subst (λ (s : SourceSeen). Gave (response_side old) s bytes) sides_new.source_is at_old in
    receives_by old.exchanges new.exchanges bytes now.gave (ap (λ (b : List (List ℕ) × ℕ). b.0) now.beside)

pub sent : (old new : LinkSeen) (source source_new : SourceSeen) (sink sink_new : SinkSeen) (bytes : List ℕ) → HasSides old source sink → HasSides new source_new sink_new → Holds sink sink_new bytes → Sends old.exchanges new.exchanges bytes
sent old new source source_new sink sink_new bytes sides sides_new holds =
    let at_old : Holds (request_side old) sink_new bytes = subst (λ (s : SinkSeen). Holds s sink_new bytes) sides.sink_is holds in
    let now : Holds (request_side old) (request_side new) bytes = subst (λ (s : SinkSeen). Holds (request_side old) s bytes) sides_new.sink_is at_old in
    sends_by old.exchanges new.exchanges bytes now.held (ap (λ (b : List (List ℕ) × ℕ). b.0) now.beside)

-- ---- since a moment

pub begun_nothing : (seen : Option (List Exchange)) → BegunSince seen seen []
begun_nothing None = tt
begun_nothing (Some old) = refl

-- a start begins one more
pub begun_one : (old mid new : Option (List Exchange)) (begun : List Exchange) → BegunSince old mid begun → BeginsOne mid new → BegunSince old new (record { request = []; response = [] } ∷ begun)
begun_one None mid new begun since begins = tt
begun_one (Some old) mid new begun since begins = subst (λ (seen : Option (List Exchange)). BeginsOne seen new) since begins

-- and what is sent and received then is in it
pub begun_sent : (old mid new : Option (List Exchange)) (exchange : Exchange) (begun : List Exchange) (bytes : List ℕ) → BegunSince old mid (exchange ∷ begun) → Sends mid new bytes
    → BegunSince old new (record { request = exchange.request ++ bytes; response = exchange.response } ∷ begun)
begun_sent None mid new exchange begun bytes since sends = tt
begun_sent (Some old) mid new exchange begun bytes since sends = subst (λ (seen : Option (List Exchange)). Sends seen new bytes) since sends

pub begun_received : (old mid new : Option (List Exchange)) (exchange : Exchange) (begun : List Exchange) (bytes : List ℕ) → BegunSince old mid (exchange ∷ begun) → Receives mid new bytes
    → BegunSince old new (record { request = exchange.request; response = exchange.response ++ bytes } ∷ begun)
begun_received None mid new exchange begun bytes since receives = tt
begun_received (Some old) mid new exchange begun bytes since receives = subst (λ (seen : Option (List Exchange)). Receives seen new bytes) since receives
