use Rattle.std.proofs.Common.{◌≡◌, ℕ, Option, Some, None, subst, ap, ◌∙◌}
use Rattle.std.specs.Prelude.{◌==◌}
use Rattle.record_rules.specs.Journal.{ChainPlace, limit_passed}
use Rattle.record_model.specs.Seen.{record_seen}
use Rattle.page_growth.specs.Limits.{limit_seen, AddsPlace, totals_with}
use Rattle.page_growth.proofs.Passing.{totals_with_record}
use Rattle.page_growth.proofs.Taking.{is_full, is_taken}
use Rattle.page_growth.proofs.pages.take_fresh.Goals as goal

pub returns-in-Ok : goal.returns-in-Ok
returns-in-Ok c = λ held owner so_far position totals wanted.
    let r = record_seen c.args.r.now in
    let place : Option ChainPlace = Some (record { host = c.args.r.now.host; tag = c.args.r.now.tag }) in
    let adds : AddsPlace held place (c.args.wanted == 0) = ap (λ (n : ℕ). n == 0) wanted in
    let added = c.in-Ok.ensures held place totals adds in (
      is_taken held so_far r c.args.wanted wanted c.if-r-wanted.false (subst (λ (w : ℕ). limit_passed held w place ≡ None) c.weight.ensures.value added.0),
      added.1 ∙ ap (λ (w : ℕ). totals_with held w place) c.weight.ensures.value ∙ totals_with_record held owner r,
    )

pub returns-in-Err : goal.returns-in-Err
returns-in-Err c = λ held owner so_far position totals wanted.
    let r = record_seen c.args.r.now in
    let place : Option ChainPlace = Some (record { host = c.args.r.now.host; tag = c.args.r.now.tag }) in
    let adds : AddsPlace held place (c.args.wanted == 0) = ap (λ (n : ℕ). n == 0) wanted in
    is_full held so_far r c.args.wanted (limit_seen c.in-Err.passed) wanted c.if-r-wanted.false (subst (λ (w : ℕ). limit_passed held w place ≡ Some (limit_seen c.in-Err.passed)) c.weight.ensures.value (c.in-Err.ensures held place totals adds))
