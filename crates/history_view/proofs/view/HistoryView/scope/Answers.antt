use Rattle.std.proofs.Common.{subst}
use Rattle.history_view.specs.Buckets.{scope_seen, Selects}
use Rattle.history_view.specs.ViewState.{ViewState}
use Rattle.history_view.proofs.view.HistoryView.scope.Goals as goal

pub returns : goal.returns
returns c = subst (λ (v : ViewState). Selects v.texts (scope_seen c.args.by.now) c.scope_number.result) c.self.view_is c.scope_number.ensures
