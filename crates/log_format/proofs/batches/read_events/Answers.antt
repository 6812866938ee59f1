use Rattle.std.proofs.Common.{◌+◌, refl, sym, subst, arith}
use Rattle.log_rules.specs.Reading.{events_at, whole_body}
use Rattle.log_format.specs.declared.fails.FormatFail.{FormatFail}
use Rattle.log_format.specs.Answers.{FailsAs}
use Rattle.log_format.proofs.Whole.{no_event, one_more, whole_stops}
use Rattle.log_format.proofs.batches.read_events.Goals as goal

pub loop-init : goal.loop-init
loop-init c = record { read = no_event c.args.reader.now c.new-events.result.items c.new-events.ensures.items; within = omega arith }

pub loop-preserved : goal.loop-preserved
loop-preserved c = record {
  read = one_more c.loop.counter (c.loop.counter + 1) c.args.reader.now c.loop.reader c.event.new.self c.loop.events.items c.push.new.self.items c.in-Ok.event c.loop.invariant.read c.in-Ok.ensures c.in-Ok-push.ensures.items refl;
  within = omega (arith, c.loop-test.true);
}

pub returns-in-Err-clause-stops : goal.returns-in-Err-clause-stops
returns-in-Err-clause-stops c =
    subst (λ (fail : FormatFail). FailsAs (whole_body (events_at c.args.count c.args.reader.now)) fail) (sym c.of_whole.ensures)
    (whole_stops c.in-Err.halt c.loop.counter c.args.count c.args.reader.now c.loop.reader c.loop.events.items c.loop.invariant.read c.loop-test.true c.in-Err.ensures)
