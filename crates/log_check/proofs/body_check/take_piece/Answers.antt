use Rattle.std.proofs.Common.{◌++◌}
use Rattle.log_check.proofs.Bodies.{pushed_checked}
use Rattle.log_check.proofs.body_check.take_piece.Goals as goal

pub returns-in-Ok-take_events-clause-takes : goal.returns-in-Ok-take_events-clause-takes
returns-in-Ok-take_events-clause-takes g c = λ limit before bytes has.
    c.in-Ok-take_events.ensures.takes limit before (bytes ++ c.read_at.new.into) (pushed_checked limit before bytes c.read_at.new.into c.args.reader.now c.push.new.self c.args.check.now has c.in-Ok-push.ensures.taken)

pub returns-in-Err-Bad-clause-takes : goal.returns-in-Err-Bad-clause-takes
returns-in-Err-Bad-clause-takes g c = λ limit before bytes has.
    rw c.in-Err-Bad.field-0-is at (c.in-Err-Bad.ensures.takes limit before (bytes ++ c.read_at.new.into) (pushed_checked limit before bytes c.read_at.new.into c.args.reader.now c.push.new.self c.args.check.now has c.in-Ok-push.ensures.taken))
