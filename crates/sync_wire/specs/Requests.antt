-- What a sync asks of its peer, and the exact bytes of each request.
use Rattle.std.specs.Prelude.{ℕ, true, List, [], ◌++◌, codes, decimal, Some}
use Rattle.definitions.specs.Ids.{hyphenated}
use Rattle.form_urlencoded.specs.Form.{byte_serialize}
use Rattle.http_wire.specs.Written.{RequestSeen, request_text}
use Rattle.record_json.specs.Records.{records_text}
use Rattle.record_rules.specs.Journal.{ChainPlace}
use Rattle.record_rules.specs.Records.{SealedRecord}
use Rattle.sync_wire.specs.declared.peer.Peer.{Peer}

pub data Asked : Type 0 where
  -- how many records the peer has of each chain
  Status : Asked
  -- so many records of a place's chain, from an idx on
  Next : (place : ChainPlace) (start count : ℕ) → Asked
  -- that it takes these records
  Post : (records : List SealedRecord) → Asked

-- ---- targets

abbrev pub record_target : List ℕ
record_target = codes "/api/v0/record"

-- /api/v0/record/next?host=H&tag=T&start=S&count=C: the host in groups with hyphens, the tag as a web form writes bytes
-- (URL Standard, section 5.2), the numbers in decimal digits
abbrev pub next_target : (host : ℕ) (tag : List ℕ) (start count : ℕ) → List ℕ
next_target host tag start count =
    codes "/api/v0/record/next?host=" ++ (hyphenated host ++ (codes "&tag=" ++ (byte_serialize tag ++ (codes "&start=" ++ (decimal start ++ (codes "&count=" ++ decimal count))))))

-- ---- requests

-- each tells the token, and that its connection ends with the response
abbrev pub sent_request : (token method target body : List ℕ) → RequestSeen
sent_request token method target body = record { method = method; target = target; authorization = Some (codes "Token " ++ token); close = true; body = body }

abbrev pub request_of : (token : List ℕ) → Asked → RequestSeen
request_of token Status = sent_request token (codes "GET") record_target []
request_of token (Next place start count) = sent_request token (codes "GET") (next_target place.host place.tag start count) []
request_of token (Post records) = sent_request token (codes "POST") record_target (records_text records)

-- the bytes that are sent to the peer
abbrev pub asked_text : Peer → Asked → List ℕ
asked_text peer asked = request_text (request_of peer.token asked) peer.host
