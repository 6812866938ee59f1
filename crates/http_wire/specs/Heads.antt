-- Heads of requests and of responses at the front of bytes, and what they tell. A head is one of the grammar of the kit's
-- `httparse`, which says of RFC 9112, sections 2 to 5, what a careful receiver takes.
use Rattle.std.specs.Prelude.{◌≡◌, ℕ, ◌≤◌, Bool, ◌||◌, ◌==◌, List, length, map, codes, Option, Some, None, if◌then◌else◌}
use Rattle.std.specs.Str.{bytes_eq}
use Rattle.httparse.specs.Grammar.{RequestHead, print_request, ReadsRequest, HasNoRequest, NeverHasRequest, ResponseHead, print_response, ReadsResponse, HasNoResponse, NeverHasResponse}
use Rattle.httparse.specs.Spans.{name_and_value}
use Rattle.http_wire.specs.Fronts.{front_of}
use Rattle.http_wire.specs.Fields.{FieldSeen, says_close, length_told}
use Rattle.http_wire.specs.declared.finding.HeadKind.{HeadKind}
use Rattle.http_wire.specs.declared.finding.HeadKind.TheVariants.{OfRequest, OfResponse}

-- ---- what a head tells

abbrev pub request_fields : RequestHead → List FieldSeen
request_fields head = map name_and_value head.fields

abbrev pub response_fields : ResponseHead → List FieldSeen
response_fields head = map name_and_value head.fields

-- the connection ends with a message of version 1.0, and with one that says so
abbrev pub ends_connection : (minor : ℕ) → List FieldSeen → Bool
ends_connection minor fields = minor == 0 || says_close fields

-- a request that doesn't post has no body where it tells no length of one
abbrev pub length_without : (method : List ℕ) → Option ℕ
length_without method = if bytes_eq method (codes "POST") then None else Some 0

abbrev pub request_length : RequestHead → Option ℕ
request_length head = length_told (length_without head.method) (request_fields head)

abbrev pub response_length : ResponseHead → Option ℕ
response_length head = length_told None (response_fields head)

-- ---- where a head stands

-- the bytes begin with this head, which lies in their front, and these follow
pub record BeginsRequest (bytes : List ℕ) (head : RequestHead) (behind : List ℕ) : Type 0 where
  pub reads : ReadsRequest bytes head behind
  pub in_front : length (print_request head) ≤ length (front_of bytes)

pub record BeginsResponse (bytes : List ℕ) (head : ResponseHead) (behind : List ℕ) : Type 0 where
  pub reads : ReadsResponse bytes head behind
  pub in_front : length (print_response head) ≤ length (front_of bytes)

-- a head of this kind stands at the front and tells this length, or tells none
abbrev pub HasHead : HeadKind → (bytes : List ℕ) (told : Option ℕ) (behind : List ℕ) → Type 0
HasHead OfRequest bytes told behind = (head : RequestHead) × BeginsRequest bytes head behind × (request_length head ≡ told)
HasHead OfResponse bytes told behind = (head : ResponseHead) × BeginsResponse bytes head behind × (response_length head ≡ told)

-- no prefix of these bytes is a head of this kind
abbrev pub HasNoHead : HeadKind → List ℕ → Type 0
HasNoHead OfRequest bytes = HasNoRequest bytes
HasNoHead OfResponse bytes = HasNoResponse bytes

-- and none of these with any others behind them
abbrev pub NeverHasHead : HeadKind → List ℕ → Type 0
NeverHasHead OfRequest bytes = NeverHasRequest bytes
NeverHasHead OfResponse bytes = NeverHasResponse bytes
