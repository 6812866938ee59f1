use Rattle.std.proofs.Common.{Err, sym, ap}
use Rattle.payload_rules.proofs.Reading.{payload_again}
use Rattle.payload_forms.specs.Seen.{payload_seen}
use Rattle.kept_views.proofs.HeldPayloads.{unread_none}
use Rattle.kept_views.proofs.opening.read.Goals as goal

pub returns-in-Ok : goal.returns-in-Ok
returns-in-Ok c = λ are. sym (payload_again c.args.tag.now c.args.version.now c.args.bytes.now (payload_seen c.in-Ok.payload) are c.in-Ok.ensures.read)

pub returns-in-Err-Unread : goal.returns-in-Err-Unread
returns-in-Err-Unread c = λ are. unread_none c.args.tag.now c.args.version.now c.args.bytes.now are (c.in-Err-Unread.ensures.unread (ap Err c.in-Err-Unread.field-0-is))
