-- What reading a message from a source answers, and why (RFC 9112, sections 2 to 9).
use Rattle.std.specs.Prelude.{◌≡◌, ◌⊎◌, ℕ, ◌<◌, ◌≤◌, List, [], ◌++◌, length, Option, Some, None, Result, Ok, Err, ⊤}
use Rattle.std.specs.Io.KnownBytes.{IsAtEnd}
use Rattle.definitions.specs.Counts.{Rose}
use Rattle.at_edge.specs.Taking.{SourceSeen, Gave}
use Rattle.http_wire.specs.Fronts.{front_of, IsFull}
use Rattle.http_wire.specs.Heads.{HasHead, HasNoHead, NeverHasHead}
use Rattle.http_wire.specs.Messages.{most_body_bytes, IsRequest, IsResponse}
use Rattle.http_wire.specs.Seen.{request_seen, response_seen}
use Rattle.http_wire.specs.declared.finding.HeadKind.{HeadKind}
use Rattle.http_wire.specs.declared.finding.HeadKind.TheVariants.{OfRequest, OfResponse}
use Rattle.http_wire.specs.declared.fail.HttpFail.{HttpFail}
use Rattle.http_wire.specs.declared.fail.HttpFail.TheVariants.{HeadTooLong, NotHttp, NoLength, BodyTooLong, Ended, ReadFault, NoMemory}
use Rattle.http_wire.specs.declared.messages.Request.{Request}
use Rattle.http_wire.specs.declared.messages.Response.{Response}

-- ---- refusals

-- the bytes have a whole head, and fewer behind it than it tells of its body
abbrev pub LacksBody : HeadKind → List ℕ → Type 0
LacksBody kind bytes = (told : ℕ) × (behind : List ℕ) × HasHead kind bytes (Some told) behind × (told ≤ most_body_bytes) × (length behind < told)

-- the bytes, which may grow, have no whole head
abbrev pub LacksHead : HeadKind → List ℕ → Type 0
LacksHead kind bytes = HasNoHead kind (front_of bytes) × ¬ IsFull bytes

-- a connection may end before a request, but not before the response to one
abbrev pub MustGoOn : HeadKind → List ℕ → Type 0
MustGoOn OfRequest bytes = 0 < length bytes
MustGoOn OfResponse bytes = ⊤

-- why bytes are refused, all that were taken for a message, from a source that is left so
abbrev pub Refuses : HeadKind → (first now : SourceSeen) (bytes : List ℕ) → HttpFail → Type 0
Refuses kind first now bytes HeadTooLong = IsFull bytes × HasNoHead kind (front_of bytes)
Refuses kind first now bytes NotHttp = NeverHasHead kind (front_of bytes)
Refuses kind first now bytes NoLength = (behind : List ℕ) × HasHead kind bytes None behind
Refuses kind first now bytes (BodyTooLong told) = ((behind : List ℕ) × HasHead kind bytes (Some told) behind) × (most_body_bytes < told)
Refuses kind first now bytes Ended = MustGoOn kind bytes × IsAtEnd now.left × (LacksHead kind bytes ⊎ LacksBody kind bytes)
Refuses kind first now bytes ReadFault = Rose first.faults now.faults
Refuses kind first now bytes NoMemory = ⊤

-- whether a body whose length is told so may be awaited
abbrev pub AllowsBody : (told : Option ℕ) → Result ℕ HttpFail → Type 0
AllowsBody told (Ok len) = (told ≡ Some len) × (len ≤ most_body_bytes)
AllowsBody told (Err NoLength) = told ≡ None
AllowsBody told (Err (BodyTooLong len)) = (told ≡ Some len) × (most_body_bytes < len)
AllowsBody told (Err _) = ⊥

-- ---- answers

-- Bytes that were held before a call and bytes that it took are a message and what is held now, or are refused. The source
-- gave what was taken, in order, and nothing else.
abbrev pub TakesRequest : (first now : SourceSeen) (held kept : List ℕ) → Result Request HttpFail → Type 0
TakesRequest first now held kept (Ok request) = (taken : List ℕ) × Gave first now taken × IsRequest (held ++ taken) (request_seen request) kept
TakesRequest first now held kept (Err fail) = (taken : List ℕ) × Gave first now taken × Refuses OfRequest first now (held ++ taken) fail

-- the same, or the source had ended before a first byte of one
abbrev pub AnswersRequest : (first now : SourceSeen) (held kept : List ℕ) → Result (Option Request) HttpFail → Type 0
AnswersRequest first now held kept (Ok (Some request)) = TakesRequest first now held kept (Ok request)
AnswersRequest first now held kept (Ok None) = (held ≡ []) × (kept ≡ []) × Gave first now [] × IsAtEnd now.left
AnswersRequest first now held kept (Err fail) = TakesRequest first now held kept (Err fail)

abbrev pub TakesResponse : (first now : SourceSeen) (held kept : List ℕ) → Result Response HttpFail → Type 0
TakesResponse first now held kept (Ok response) = (taken : List ℕ) × Gave first now taken × IsResponse (held ++ taken) (response_seen response) kept
TakesResponse first now held kept (Err fail) = (taken : List ℕ) × Gave first now taken × Refuses OfResponse first now (held ++ taken) fail
