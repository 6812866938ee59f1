use Rattle.std.proofs.Common.{ℕ, ◌∙◌, List, Result, Err, sym, ap, subst, arith}
use Rattle.record_rules.specs.Records as kept
use Rattle.log_rules.specs.Reading.{Reading, count_at, body_at}
use Rattle.record_model.specs.Seen.{events_seen}
use Rattle.log_format.specs.Answers.{Stops, FailsAs}
use Rattle.log_format.proofs.Whole.{count_stops, counted_body, whole_with_rest, whole_without_rest}
use Rattle.log_format.proofs.batches.read_batch.Goals as goal

abbrev stopped : ℕ → Result (List kept.Event) ℕ
stopped n = Err n

pub returns-in-Err : goal.returns-in-Err
returns-in-Err c =
    subst (FailsAs (body_at c.args.bytes.now)) (sym c.of_whole.ensures)
    (count_stops c.in-Err.halt c.args.bytes.now (subst (λ (r : Reading). Stops (count_at r) c.in-Err.halt) c.new-reader.ensures c.in-Err.ensures.reads))

pub returns-in-Err-read_events : goal.returns-in-Err-read_events
returns-in-Err-read_events c =
    let counted = ap count_at (sym c.new-reader.ensures) ∙ c.in-Ok.ensures.reads in
    subst (λ (whole : Result (List kept.Event) ℕ). FailsAs whole c.in-Err-read_events.fail) (sym (counted_body c.args.bytes.now c.in-Ok.count c.count.new.self counted)) c.in-Err-read_events.ensures.stops

pub returns-then-left-gt0 : goal.returns-then-left-gt0
returns-then-left-gt0 c =
    let counted = ap count_at (sym c.new-reader.ensures) ∙ c.in-Ok.ensures.reads in
    counted_body c.args.bytes.now c.in-Ok.count c.count.new.self counted
    ∙ whole_with_rest c.in-Ok.count c.count.new.self c.read_events.new.reader (events_seen c.in-Ok-read_events.events.items) c.in-Ok-read_events.ensures.read (omega (arith, c.if-left-gt0.true, c.left.ensures))
    ∙ ap (λ (n : ℕ). stopped n) (sym c.at.ensures)

pub returns : goal.returns
returns c =
    let counted = ap count_at (sym c.new-reader.ensures) ∙ c.in-Ok.ensures.reads in
    counted_body c.args.bytes.now c.in-Ok.count c.count.new.self counted
    ∙ whole_without_rest c.in-Ok.count c.count.new.self c.read_events.new.reader (events_seen c.in-Ok-read_events.events.items) c.in-Ok-read_events.ensures.read (omega (arith, c.if-left-gt0.false, c.left.ensures))
