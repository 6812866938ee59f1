use Rattle.std.proofs.Common.{List, sym, ap, subst, ◌∙◌}
use Rattle.std.specs.List.{filter, filter_map, AllByRecursion}
use Rattle.history_view.specs.declared.walk.Walked.{Walked}
use Rattle.history_view.specs.Buckets.{has_scope, scope_seen, Selects}
use Rattle.history_view.specs.ViewState.{ViewState}
use Rattle.history_view.specs.Walk.{IsRow, shown_command, walked_in}
use Rattle.history_view.proofs.Filtering.{rows_filtered, commands_filtered}
use Rattle.history_view.proofs.view.HistoryView.bucket.Goals as goal

pub returns-clause-rows : goal.returns-clause-rows
returns-clause-rows c =
    let s : ViewState = c.args.self.now in
    let selects = subst (λ (v : ViewState). Selects v.texts (scope_seen c.args.by.now) c.scope_number.result) c.self.view_is c.scope_number.ensures in
    subst (λ (ws : List Walked). AllByRecursion (IsRow s) (filter (λ (w : Walked). has_scope c.scope_number.result w.numbers) ws)) (sym c.newest.ensures.walked)
    (rows_filtered s (scope_seen c.args.by.now) c.scope_number.result selects (walked_in s.order) c.newest.ensures.rows)

pub returns-clause-filtered : goal.returns-clause-filtered
returns-clause-filtered c =
    let s : ViewState = c.args.self.now in
    let selects = subst (λ (v : ViewState). Selects v.texts (scope_seen c.args.by.now) c.scope_number.result) c.self.view_is c.scope_number.ensures in
    ap (λ (ws : List Walked). filter_map (λ (w : Walked). shown_command s w.id) (filter (λ (w : Walked). has_scope c.scope_number.result w.numbers) ws)) c.newest.ensures.walked
    ∙ commands_filtered s (scope_seen c.args.by.now) c.scope_number.result selects (walked_in s.order) c.newest.ensures.rows
