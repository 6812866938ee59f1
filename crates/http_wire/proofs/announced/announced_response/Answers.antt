use Rattle.std.proofs.Common.{refl}
use Rattle.http_wire.proofs.Announcing.{announces_response}
use Rattle.http_wire.proofs.announced.announced_response.Goals as goal

pub returns : goal.returns
returns c = λ told parts.
    announces_response c.args.head.now c.args.fields.now c.args.found.now told (record { code = c.args.found.now.code; close = c.ends_connection.result; body = c.short.result })
    c.told_length.result parts refl c.ends_connection.ensures c.short.ensures c.told_length.ensures
