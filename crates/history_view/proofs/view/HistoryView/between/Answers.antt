use Rattle.std.proofs.Common.{ap, ◌∙◌}
use Rattle.std.specs.Prelude.{not, ◌&&◌}
use Rattle.std.specs.List.{filter}
use Rattle.std.specs.Ordering.{is_le}
use Rattle.std.specs.BTreeMap.Range.{is_past_end}
use Rattle.history_view.specs.Places.{OrderKey, key_cmp}
use Rattle.history_view.specs.Spans.{began_within}
use Rattle.history_view.specs.ViewState.{ViewState}
use Rattle.history_view.specs.Walk.{walked_in}
use Rattle.history_view.proofs.Ranging.{within_ends, walked_between}
use Rattle.history_view.proofs.view.HistoryView.between.Goals as goal

pub range-requires : goal.range-requires
range-requires c = c.behind.ensures.forward c.args.span.now.latest c.requires

pub returns : goal.returns
returns c =
    let test = λ (key : OrderKey). is_le (key_cmp (record { 0 = c.args.span.now.latest }, 0) key) && not (is_past_end key_cmp c.behind.result key) in
    ap walked_in (c.range.ensures.between tt)
    ∙ walked_between test (began_within c.args.span.now) (λ key numbers. within_ends c.args.span.now key numbers (is_past_end key_cmp c.behind.result key) (c.behind.ensures.past key)) c.self.inside.order.entries
    ∙ ap (λ (t : ViewState). filter (began_within c.args.span.now) (walked_in t.order)) c.self.view_is
