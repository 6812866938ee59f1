use Rattle.std.proofs.Common.{◌≡◌, ℕ, ◌++◌, ◌∙◌, subst, Err}
use Rattle.record_model.specs.Seen.{event_seen}
use Rattle.log_rules.specs.Opened.{opened_journal}
use Rattle.log_rules.specs.Pieces.{Given, next_in}
use Rattle.log_format.specs.Answers.{Nexts}
use Rattle.log_format.specs.declared.fails.FormatFail.{FormatFail}
use Rattle.log_check.specs.Checking.{BadBody}
use Rattle.log_check.proofs.Bodies.{fewer_left, given_place, checked_one, refused_bad, faulty_bad}
use Rattle.log_check.proofs.checking.take_events.Goals as goal

pub returns-in-Err-Wrong-clause-takes : goal.returns-in-Err-Wrong-clause-takes
returns-in-Err-Wrong-clause-takes c = λ limit before bytes has.
    let was = c.loop-event.invariant.checked limit before bytes has in
    let wrong = subst (λ (f : FormatFail). Nexts c.loop-event.reader (Err f) c.next.new.self) c.in-Err-Wrong.field-0-is c.in-Err-Wrong.ensures in
    subst (λ (h : ℕ). BadBody limit h before bytes) c.loop-event.invariant.host (faulty_bad limit c.in-Err-Wrong.field-0-0 before bytes c.loop-event.reader c.loop-event.check was wrong.1)

pub returns-in-Ok-false-clause-takes : goal.returns-in-Ok-false-clause-takes
returns-in-Ok-false-clause-takes c = λ limit before bytes has.
    let given : next_in c.loop-event.reader ≡ Given (event_seen c.in-Ok-Some.event) c.next.new.self = rw c.in-Ok-Some.field-0-is at c.in-Ok-Some.ensures in
    let was = c.loop-event.invariant.checked limit before bytes has in
    subst (λ (h : ℕ). BadBody limit h before bytes) c.loop-event.invariant.host
    (refused_bad limit before bytes c.loop-event.reader c.next.new.self c.loop-event.check (event_seen c.in-Ok-Some.event) was given (rw c.in-Ok-false.field-0-test at (c.in-Ok-false.ensures.takes (opened_journal (before ++ was.given)) was.checked.keeps)))

pub loop-event-smaller : goal.loop-event-smaller
loop-event-smaller c =
    let given : next_in c.loop-event.reader ≡ Given (event_seen c.in-Ok-Some.event) c.next.new.self = rw c.in-Ok-Some.field-0-is at c.in-Ok-Some.ensures in
    fewer_left c.loop-event.reader c.next.new.self (event_seen c.in-Ok-Some.event) given

pub loop-event-preserved : goal.loop-event-preserved
loop-event-preserved c =
    let given : next_in c.loop-event.reader ≡ Given (event_seen c.in-Ok-Some.event) c.next.new.self = rw c.in-Ok-Some.field-0-is at c.in-Ok-Some.ensures in
    let moved = given_place c.loop-event.reader c.next.new.self (event_seen c.in-Ok-Some.event) given in
    record {
      checked = λ limit before bytes has.
          let was = c.loop-event.invariant.checked limit before bytes has in
          checked_one limit before bytes c.loop-event.reader c.next.new.self c.loop-event.check c.admit.new.check (event_seen c.in-Ok-Some.event) was given c.admit.ensures.host (rw c.in-Ok-true.field-0-test at (c.in-Ok-true.ensures.takes (opened_journal (before ++ was.given)) was.checked.keeps));
      place = moved.0 ∙ c.loop-event.invariant.place;
      limit = moved.1 ∙ c.loop-event.invariant.limit;
      host = c.admit.ensures.host ∙ c.loop-event.invariant.host;
    }
