-- What heads announce, from the places of their parts.
use Rattle.std.proofs.Common.{◌≡◌, ℕ, ◌<◌, ◌≤◌, List, [], length, map, take, Option, Some, None, IfSome, slice_range, Bor, IsTrue, IsUtf8, ap, ap₂, ◌∙◌, arith, All}
use Rattle.std.proofs.lemmas.Bool.Decides.{nat_tests}
use Rattle.std.proofs.lemmas.List.Elements.{All-weaker}
use Rattle.std.proofs.lemmas.Str.{IsUtf8-from_ascii}
use Rattle.std.proofs.lemmas.Str.Ascii.{IsAscii-from_all}
use Rattle.httparse.proofs.RunLemmas.{length-slice_range}
use Rattle.httparse.specs.Grammar.{is_token_byte, IsToken, RequestHead, ResponseHead}
use Rattle.httparse.specs.declared.spans.HeaderSpan.{HeaderSpan}
use Rattle.httparse.specs.declared.spans.RequestSpans.{RequestSpans}
use Rattle.httparse.specs.declared.spans.ResponseSpans.{ResponseSpans}
use Rattle.httparse.specs.Spans.{span_bytes, header_bytes, IsHeaderWithin, IsRequestAt, IsResponseAt}
use Rattle.http_wire.specs.Announced.{RequestParts, ResponseParts, AnnouncesRequest, AnnouncesResponse}
use Rattle.http_wire.specs.Fields.{FieldSeen, authorization_in, length_told}
use Rattle.http_wire.specs.Heads.{ends_connection, length_without}
use Rattle.http_wire.specs.declared.messages.Request.{Request}
use Rattle.http_wire.specs.declared.messages.Response.{Response}

token_byte : (b : ℕ) → IsTrue (is_token_byte b) → b < 128
unfolding is_token_byte
token_byte b is = grind (arith, nat_tests)

pub token_text : (bytes : List ℕ) → IsToken bytes → IsUtf8 bytes
token_text bytes token = IsUtf8-from_ascii bytes (IsAscii-from_all bytes (All-weaker (λ b. IsTrue (is_token_byte b)) (λ b. b < 128) token_byte bytes token.1))

-- places within the head are within what begins with it
pub within_more : (n m : ℕ) (fields : List HeaderSpan) → n ≤ m → All (IsHeaderWithin n) fields → All (IsHeaderWithin m) fields
within_more n m fields fits all =
    All-weaker (IsHeaderWithin n) (IsHeaderWithin m)
    (λ field within. let name = within.0.1 in let value = within.1.1 in ((within.0.0, omega (arith, name, fits)), (within.1.0, omega (arith, value, fits)))) fields all

pub part_short : (head : List ℕ) (start end : ℕ) → start ≤ end → end ≤ length head → length head ≤ 65536 → length (slice_range head start end) < 4294967296
part_short head start end ordered within small = let size = length-slice_range head start end ordered within in omega (arith, size, within, small)

pub text_short : (r : Option (Bor (List ℕ))) (n : ℕ) → n ≤ 65536 → IfSome r (λ v. IsUtf8 v.now × (length v.now ≤ n)) → IfSome r (λ v. IsUtf8 v.now × (length v.now < 4294967296))
text_short None n small is = tt
text_short (Some v) n small is = let fits = is.1 in (is.0, omega (arith, fits, small))

pub request_parts : (text : List ℕ) (spans : List HeaderSpan) (found : RequestSpans) (head : RequestHead) → IsRequestAt text spans found head → RequestParts text found (take found.headers spans) head
request_parts text spans found head at = record { method = at.method; target = at.path; version = at.version; fields = at.fields }

pub response_parts : (text : List ℕ) (spans : List HeaderSpan) (found : ResponseSpans) (head : ResponseHead) → IsResponseAt text spans found head → ResponseParts text found (take found.headers spans) head
response_parts text spans found head at = record { code = at.code; version = at.version; fields = at.fields }

module _ (text : List ℕ) (fields : List HeaderSpan) where
  abbrev seen : List FieldSeen
  seen = map (header_bytes text) fields

  pub announces_request : (found : RequestSpans) (head : RequestHead) (r : Request) (told : Option ℕ) → RequestParts text found fields head → r.method ≡ span_bytes text found.method → r.target ≡ span_bytes text found.path
      → r.authorization ≡ authorization_in seen → r.close ≡ ends_connection found.version seen → r.body.items ≡ [] → told ≡ length_told (length_without (span_bytes text found.method)) seen
      → AnnouncesRequest head (record { message = r; length = told })
  announces_request found head r told parts method target authorization close body length_is = record {
    message =
        let m = method ∙ parts.method in
        let t = target ∙ parts.target in
        let a = authorization ∙ ap authorization_in parts.fields in
        let c = close ∙ ap₂ ends_connection parts.version parts.fields in
        λ i. record { method = m i; target = t i; authorization = a i; close = c i; body = body i };
    length = length_is ∙ ap₂ (λ (m : List ℕ) (fs : List FieldSeen). length_told (length_without m) fs) parts.method parts.fields;
  }

  pub announces_response : (found : ResponseSpans) (head : ResponseHead) (r : Response) (told : Option ℕ) → ResponseParts text found fields head → r.code ≡ found.code → r.close ≡ ends_connection found.version seen
      → r.body ≡ [] → told ≡ length_told None seen → AnnouncesResponse head (record { message = r; length = told })
  announces_response found head r told parts code close body length_is = record {
    message =
        let n = code ∙ parts.code in
        let c = close ∙ ap₂ ends_connection parts.version parts.fields in
        λ i. record { code = n i; close = c i; body = body i };
    length = length_is ∙ ap (length_told None) parts.fields;
  }
