use Rattle.std.proofs.Common.{ℕ, sym, subst}
use Rattle.history_view.specs.declared.spans.Span.{Span}
use Rattle.history_view.specs.ViewState.{ViewState}
use Rattle.history_view.specs.Walk.{IsRow}
use Rattle.history_view.specs.Spans.{IsWithin, span_of}
use Rattle.history_view.proofs.Spanning.{row_within_span}
use Rattle.history_view.proofs.view.HistoryView.span.Goals as goal

pub returns : goal.returns
returns c = λ w row same.
    let s : ViewState = record { texts = c.self.inside.texts.texts; counts = c.self.inside.texts.counts; shown = c.self.inside.shown; ids = c.self.inside.ids.entries; order = c.self.inside.order.entries } in
    let here : IsRow s w = subst (λ (t : ViewState). IsRow t w) (sym c.self.view_is) row in
    let within : IsWithin (span_of c.self.inside.spans.items w.numbers.command) w.timestamp = row_within_span s c.self.inside.spans.items c.self.invariant.spanned w here in
    subst (λ (span : Span). IsWithin span w.timestamp) (sym c.spanned.ensures) (subst (λ (n : ℕ). IsWithin (span_of c.self.inside.spans.items n) w.timestamp) same within)
