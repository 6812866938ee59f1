use Rattle.std.proofs.Common.{◌+◌, ◌-◌, ap, sym, subst, ◌∙◌, arith}
use Rattle.log_check.specs.Forms.{form_of, digest_bytes}
use Rattle.log_check.specs.Batches.{BatchFound}
use Rattle.log_check.specs.declared.forms.LogForm.{LogForm}
use Rattle.log_check.specs.declared.forms.LogForm.TheVariants.{Current, Old}
use Rattle.log_check.proofs.Telling.{rests_then}
use Rattle.log_check.proofs.Batches.{NoneGood, body_before, short_file, short_body, body_fails, batch_there, digest_differs, digest_same, digest_other, no_digest}
use Rattle.log_check.proofs.batch_check.check_batch.Goals as goal

pub returns-then-left-beside-clause-batch : goal.returns-then-left-beside-clause-batch
returns-then-left-beside-clause-batch g c = λ before is.
    let beside = c.digest_length-beside.ensures in
    let short = c.if-left-beside.true in
    short_file c.args.form (g.D.Disk.disk c.args.disk.now) c.args.gate c.args.end c.requires.whole c.args.check.now.host before (omega (arith, beside, short))

pub returns-then-left-beside-2-clause-batch : goal.returns-then-left-beside-2-clause-batch
returns-then-left-beside-2-clause-batch g c = λ before is.
    let beside = c.digest_length-beside.ensures in
    let short = c.if-left-beside-2.true in
    let from = c.from.ensures in
    short_body c.args.form (g.D.Disk.disk c.args.disk.now) c.args.gate c.args.end c.requires.whole c.args.check.now.host c.in-Ok.limit before (omega arith) c.in-Ok.ensures.shown (omega (arith, beside, short, from))

pub returns-in-Err-read_body-clause-batch : goal.returns-in-Err-read_body-clause-batch
returns-in-Err-read_body-clause-batch g c =
    body_fails c.args.form (g.D.Disk.disk c.args.disk.now) c.args.gate c.args.end c.requires.whole c.in-Err-read_body.fail (g.D.Disk.disk c.read_number.new.disk) c.in-Ok.limit c.args.check.now c.read_body.new.check c.in-Ok.ensures.rests (omega arith) c.in-Ok.ensures.shown c.in-Err-read_body.ensures.body

pub returns-in-Old-clause-batch : goal.returns-in-Old-clause-batch
returns-in-Old-clause-batch g c = λ before is.
    let seen = g.D.Disk.disk c.args.disk.now in
    let next = c.args.gate + 5 + c.from-2.result in
    let beside = c.digest_length-beside.ensures ∙ ap digest_bytes c.in-Old.is in
    let within = c.if-left-beside.false in
    let inside = c.if-left-beside-2.false in
    let from = c.from.ensures in
    let from_too = c.from-2.ensures in
    let start = c.requires.inside in
    let found = body_before seen (g.D.Disk.disk c.read_number.new.disk) c.args.gate c.in-Ok.limit c.in-Ok-read_body.digest before c.read_body.new.check c.in-Ok.ensures.rests (c.in-Ok-read_body.ensures.body before is) in
    subst (λ (f : LogForm). BatchFound (form_of f) seen c.args.gate next before c.read_body.new.check) (sym c.in-Old.is)
    (batch_there Old seen c.args.gate c.args.end c.requires.whole c.in-Ok.limit next c.in-Ok-read_body.digest before c.read_body.new.check found c.in-Ok.ensures.shown (no_digest seen c.args.gate c.args.end c.in-Ok.limit found.body c.requires.whole)
    (omega (arith, beside, within, inside, from, start)) (omega (arith, from_too)))

pub returns-in-Ok-true-clause-batch : goal.returns-in-Ok-true-clause-batch
returns-in-Ok-true-clause-batch g c = λ before is.
    let seen = g.D.Disk.disk c.args.disk.now in
    let next = c.args.gate + 5 + c.from-2.result + 16 in
    let beside = c.digest_length-beside.ensures ∙ ap digest_bytes c.in-Current.is in
    let within = c.if-left-beside.false in
    let inside = c.if-left-beside-2.false in
    let from = c.from.ensures in
    let from_too = c.from-2.ensures in
    let start = c.requires.inside in
    let rests = rests_then seen (g.D.Disk.disk c.read_number.new.disk) (g.D.Disk.disk c.read_body.new.disk) c.in-Ok.ensures.rests c.in-Ok-read_body.ensures.rests in
    let found = body_before seen (g.D.Disk.disk c.read_number.new.disk) c.args.gate c.in-Ok.limit c.in-Ok-read_body.digest before c.read_body.new.check c.in-Ok.ensures.rests (c.in-Ok-read_body.ensures.body before is) in
    let same = rw c.in-Ok-true.field-0-test at c.in-Ok-true.ensures.compared in
    subst (λ (f : LogForm). BatchFound (form_of f) seen c.args.gate next before c.read_body.new.check) (sym c.in-Current.is)
    (batch_there Current seen c.args.gate c.args.end c.requires.whole c.in-Ok.limit next c.in-Ok-read_body.digest before c.read_body.new.check found c.in-Ok.ensures.shown
    (digest_same seen (g.D.Disk.disk c.read_body.new.disk) c.args.gate c.in-Ok.limit (c.args.gate + 5 + c.from-2.result) c.in-Ok-read_body.digest found.body rests found.digest_is (omega (arith, from_too)) same)
    (omega (arith, beside, within, inside, from, start)) (omega (arith, from_too)))

pub returns-in-Ok-false-clause-batch : goal.returns-in-Ok-false-clause-batch
returns-in-Ok-false-clause-batch g c = λ before is.
    let seen = g.D.Disk.disk c.args.disk.now in
    let from_too = c.from-2.ensures in
    let rests = rests_then seen (g.D.Disk.disk c.read_number.new.disk) (g.D.Disk.disk c.read_body.new.disk) c.in-Ok.ensures.rests c.in-Ok-read_body.ensures.rests in
    let found = body_before seen (g.D.Disk.disk c.read_number.new.disk) c.args.gate c.in-Ok.limit c.in-Ok-read_body.digest before c.read_body.new.check c.in-Ok.ensures.rests (c.in-Ok-read_body.ensures.body before is) in
    let other = rw c.in-Ok-false.field-0-test at c.in-Ok-false.ensures.compared in
    subst (λ (f : LogForm). NoneGood f seen c.args.gate c.args.check.now.host before) (sym c.in-Current.is)
    (digest_differs Current seen c.args.gate c.args.end c.requires.whole c.args.check.now.host c.in-Ok.limit c.in-Ok-read_body.digest before c.read_body.new.check found (omega arith) c.in-Ok.ensures.shown
    (digest_other seen (g.D.Disk.disk c.read_body.new.disk) c.args.gate c.in-Ok.limit (c.args.gate + 5 + c.from-2.result) c.in-Ok-read_body.digest found.body rests found.digest_is (omega (arith, from_too)) other))
