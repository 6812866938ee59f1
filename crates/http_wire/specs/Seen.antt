-- Which message of the definitions a message stands for.
use Rattle.http_wire.specs.Written.{RequestSeen, ResponseSeen}
use Rattle.http_wire.specs.declared.messages.Request.{Request}
use Rattle.http_wire.specs.declared.messages.Response.{Response}

abbrev pub request_seen : Request → RequestSeen
request_seen r = record { method = r.method; target = r.target; authorization = r.authorization; close = r.close; body = r.body.items }

abbrev pub response_seen : Response → ResponseSeen
response_seen r = record { code = r.code; close = r.close; body = r.body }
