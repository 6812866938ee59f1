use Rattle.std.proofs.Common.{Option, Ok, subst, ap, ◌∙◌}
use Rattle.record_rules.specs.Journal.{own_events, held_of}
use Rattle.record_rules.specs.InTurn.{PageTaken, nothing_taken}
use Rattle.record_model.specs.Seen.{record_seen, records_seen}
use Rattle.chain_index.specs.Meaning.{journal_of, totals_seen}
use Rattle.chain_index.specs.declared.owner.Held.{Held}
use Rattle.page_growth.specs.Checking.{taken_so_far, TakesRecord}
use Rattle.page_growth.proofs.Taking.{take_last, marked_so_far, passed_so_far, held_with_it, held_without}
use Rattle.page_growth.proofs.pages.take_next.Goals as goal

pub returns-in_ok-with-in-Ok-Some-clause-takes : goal.returns-in_ok-with-in-Ok-Some-clause-takes
returns-in_ok-with-in-Ok-Some-clause-takes c = λ filed is numbered taken.
    let journal = journal_of filed in
    let before = records_seen c.args.before.now in
    let marks = c.args.so_far.marks.items in
    let r = record_seen c.args.r.now in
    let more = c.in_ok-with-in-Ok-Some.field-0.marks.items in
    let step = subst (λ (o : Option Held). TakesRecord (Ok o) journal c.args.owner before marks r) c.in-Ok-Some.field-0-is (c.in-Ok-Some.ensures.takes filed is numbered taken.totals) in
    record {
      taken =
          take_last c.args.owner (own_events journal c.args.owner) nothing_taken (taken_so_far before marks) before r taken.taken ∙ step.0
          ∙ ap (λ (s : PageTaken). Ok s) (marked_so_far journal c.args.owner before marks more r c.requires.each c.in_ok-with-in-Ok-Some.ensures.marks);
      totals = ap totals_seen c.in_ok-with-in-Ok-Some.ensures.totals ∙ step.1 ∙ ap held_of (held_with_it journal c.args.owner before marks more r c.requires.each c.in_ok-with-in-Ok-Some.ensures.marks);
    }

pub returns-in_ok-with-in-Ok-None-clause-takes : goal.returns-in_ok-with-in-Ok-None-clause-takes
returns-in_ok-with-in-Ok-None-clause-takes c = λ filed is numbered taken.
    let journal = journal_of filed in
    let before = records_seen c.args.before.now in
    let marks = c.args.so_far.marks.items in
    let r = record_seen c.args.r.now in
    let more = c.in_ok-with-in-Ok-None.field-0.marks.items in
    let step = subst (λ (o : Option Held). TakesRecord (Ok o) journal c.args.owner before marks r) c.in-Ok-None.field-0-is (c.in-Ok-None.ensures.takes filed is numbered taken.totals) in
    record {
      taken =
          take_last c.args.owner (own_events journal c.args.owner) nothing_taken (taken_so_far before marks) before r taken.taken ∙ step
          ∙ ap (λ (s : PageTaken). Ok s) (passed_so_far journal c.args.owner before marks more r c.requires.each c.in_ok-with-in-Ok-None.ensures.marks);
      totals = ap totals_seen c.in_ok-with-in-Ok-None.ensures.totals ∙ taken.totals ∙ ap held_of (held_without journal c.args.owner before marks more r c.requires.each c.in_ok-with-in-Ok-None.ensures.marks);
    }

pub returns-in-Err-clause-takes : goal.returns-in-Err-clause-takes
returns-in-Err-clause-takes c = λ filed is numbered taken.
    let journal = journal_of filed in
    let before = records_seen c.args.before.now in
    take_last c.args.owner (own_events journal c.args.owner) nothing_taken (taken_so_far before c.args.so_far.marks.items) before (record_seen c.args.r.now) taken.taken ∙ c.in-Err.ensures.takes filed is numbered taken.totals
