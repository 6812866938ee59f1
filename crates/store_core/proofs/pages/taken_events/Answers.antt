use Rattle.std.proofs.Common.{◌≤◌, length, map, get_or, false, refl, ◌∙◌, arith}
use Rattle.std.proofs.lemmas.List.{take_all}
use Rattle.record_rules.specs.Records.{Taken}
use Rattle.record_model.specs.Seen.{events_seen, records_seen}
use Rattle.page_growth.specs.Checking.{chosen}
use Rattle.store_core.proofs.PageTurns.{one_more_marked}
use Rattle.store_core.proofs.pages.taken_events.Goals as goal

pub loop-at-preserved : goal.loop-at-preserved
loop-at-preserved c =
    let at = c.loop-at.at in
    let few = c.loop-at.invariant.1 in
    let one = c.in_ok-push_marked.ensures.few in (
      one_more_marked c.args.owner c.args.marks.now c.args.page.now at (get_or c.args.marks.now at false) c.index-page-at.result (events_seen c.loop-at.events.items) (events_seen c.push_marked.new.events.items)
          c.requires c.loop-at-test.true refl c.index-page-at.is c.loop-at.invariant.0 c.in_ok-push_marked.ensures.pushed,
      omega (arith, few, one),
    )

pub returns-clause-events : goal.returns-clause-events
returns-clause-events c =
    let at = c.loop-at.at in
    let past : length c.args.page.now ≤ c.loop-at.at = c.loop-at-test.false in
    let marks = take_all at c.args.marks.now (omega (arith, past, c.requires)) in
    let page = take_all at c.args.page.now past in
    c.loop-at.invariant.0 ∙ (λ i. map (Taken c.args.owner) (chosen (marks i) (records_seen (page i))))
