use Rattle.std.proofs.Common.{◌≡◌, arith, subst, Err}
use Rattle.log_rules.specs.Reading.{body_at}
use Rattle.log_format.specs.Answers.{FailsAs}
use Rattle.log_format.specs.declared.fails.FormatFail.{FormatFail}
use Rattle.record_model.specs.Seen.{events_seen}
use Rattle.record_log.proofs.ReadBack.{body_misread, body_read}
use Rattle.record_log.proofs.reading.events_of.Goals as goal

pub returns-in-Ok-clause-events : goal.returns-in-Ok-clause-events
returns-in-Ok-clause-events g c = (body_read c.args.body.now c.args.count (events_seen c.in-Ok.events.items) (λ i. omega (arith, c.type_inv.body i)) c.ranges.count.fits c.requires.long c.in-Ok.ensures).1

pub returns-in-Ok-clause-batch : goal.returns-in-Ok-clause-batch
returns-in-Ok-clause-batch g c = (body_read c.args.body.now c.args.count (events_seen c.in-Ok.events.items) (λ i. omega (arith, c.type_inv.body i)) c.ranges.count.fits c.requires.long c.in-Ok.ensures).0

pub disown-requires : goal.disown-requires
disown-requires g c =
    let wrong : body_at c.args.body.now ≡ Err c.in-Err-Wrong.field-0-0 = subst (λ (f : FormatFail). FailsAs (body_at c.args.body.now) f) c.in-Err-Wrong.field-0-is c.in-Err-Wrong.ensures in
    body_misread c.args.body.now c.in-Err-Wrong.field-0-0 (g.D.Disk.disk c.args.disk.now).history c.requires.whole wrong
