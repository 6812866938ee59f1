-- Which bytes are a message (RFC 9112, sections 2 to 6).
use Rattle.std.specs.Prelude.{◌≡◌, ℕ, ◌≤◌, List, ◌++◌, length, Some}
use Rattle.httparse.specs.Grammar.{RequestHead, ResponseHead, status_code}
use Rattle.http_wire.specs.Fields.{authorization_in}
use Rattle.http_wire.specs.Heads.{request_fields, response_fields, ends_connection, request_length, response_length, BeginsRequest, BeginsResponse}
use Rattle.http_wire.specs.Written.{RequestSeen, ResponseSeen}

abbrev pub most_body_bytes : ℕ
most_body_bytes = 33554432

abbrev pub request_of : RequestHead → (body : List ℕ) → RequestSeen
request_of head body = record { method = head.method; target = head.target; authorization = authorization_in (request_fields head); close = ends_connection head.minor (request_fields head); body = body }

abbrev pub response_of : ResponseHead → (body : List ℕ) → ResponseSeen
response_of head body = record { code = status_code head; close = ends_connection head.minor (response_fields head); body = body }

-- the bytes are this request, and then these
pub record IsRequest (bytes : List ℕ) (request : RequestSeen) (behind : List ℕ) : Type 0 where
  pub head : RequestHead
  pub begins : BeginsRequest bytes head (request.body ++ behind)
  pub length_is : request_length head ≡ Some (length request.body)
  pub short : length request.body ≤ most_body_bytes
  pub request_is : request ≡ request_of head request.body

-- the bytes are this response, and then these
pub record IsResponse (bytes : List ℕ) (response : ResponseSeen) (behind : List ℕ) : Type 0 where
  pub head : ResponseHead
  pub begins : BeginsResponse bytes head (response.body ++ behind)
  pub length_is : response_length head ≡ Some (length response.body)
  pub short : length response.body ≤ most_body_bytes
  pub response_is : response ≡ response_of head response.body
