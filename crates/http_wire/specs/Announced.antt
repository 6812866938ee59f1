-- What a head announces: a message without its body, and the length that is told of the body.
use Rattle.std.specs.Prelude.{◌≡◌, ℕ, List, [], map}
use Rattle.httparse.specs.Grammar.{RequestHead, ResponseHead, status_code}
use Rattle.httparse.specs.declared.spans.HeaderSpan.{HeaderSpan}
use Rattle.httparse.specs.declared.spans.RequestSpans.{RequestSpans}
use Rattle.httparse.specs.declared.spans.ResponseSpans.{ResponseSpans}
use Rattle.httparse.specs.Spans.{span_bytes, header_bytes, name_and_value}
use Rattle.http_wire.specs.Heads.{request_length, response_length}
use Rattle.http_wire.specs.Messages.{request_of, response_of}
use Rattle.http_wire.specs.Seen.{request_seen, response_seen}
use Rattle.http_wire.specs.declared.announced.Announced.{Announced}
use Rattle.http_wire.specs.declared.messages.Request.{Request}
use Rattle.http_wire.specs.declared.messages.Response.{Response}

-- these places of a text are those of the parts of a head, and of its fields
pub record RequestParts (text : List ℕ) (found : RequestSpans) (places : List HeaderSpan) (head : RequestHead) : Type 0 where
  pub method : span_bytes text found.method ≡ head.method
  pub target : span_bytes text found.path ≡ head.target
  pub version : found.version ≡ head.minor
  pub fields : map (header_bytes text) places ≡ map name_and_value head.fields

pub record ResponseParts (text : List ℕ) (found : ResponseSpans) (places : List HeaderSpan) (head : ResponseHead) : Type 0 where
  pub code : found.code ≡ status_code head
  pub version : found.version ≡ head.minor
  pub fields : map (header_bytes text) places ≡ map name_and_value head.fields

-- what is told is what the head tells
pub record AnnouncesRequest (head : RequestHead) (told : Announced Request) : Type 0 where
  pub message : request_seen told.message ≡ request_of head []
  pub length : told.length ≡ request_length head

pub record AnnouncesResponse (head : ResponseHead) (told : Announced Response) : Type 0 where
  pub message : response_seen told.message ≡ response_of head []
  pub length : told.length ≡ response_length head
