use Rattle.std.proofs.Common.{refl}
use Rattle.history_view.specs.ViewState.{ViewState, Steady}
use Rattle.history_view.proofs.Counting.{every}
use Rattle.history_view.proofs.Spanning.{still_kept}
use Rattle.history_view.proofs.view.HistoryView.reserve_deletion.Goals as goal

pub invariant_of-self : goal.invariant_of-self
invariant_of-self c =
    let old : ViewState = record { texts = c.self.inside.texts.texts; counts = c.self.inside.texts.counts; shown = c.self.inside.shown; ids = c.self.inside.ids.entries; order = c.self.inside.order.entries } in
    let new : ViewState = record { texts = c.self.inside.texts.texts; counts = c.self.inside.texts.counts; shown = c.self.inside.shown; ids = c.make_id.new.ids.entries; order = c.self.inside.order.entries } in
    let steady : Steady old new = record { texts = λ n text at. at; has_ids = c.make_id.ensures.keeps; ids = c.make_id.ensures.same; has_keys = λ q has. has; order = λ q. refl; counts = every (λ part n. refl); shown = refl; sums = λ f none. refl } in
    still_kept old new c.self.inside.spans.items c.self.inside.spans.items steady c.self.invariant (λ n. refl) c.self.invariant.reach

pub invariant_of-self-2 : goal.invariant_of-self-2
invariant_of-self-2 c =
    let old : ViewState = record { texts = c.self.inside.texts.texts; counts = c.self.inside.texts.counts; shown = c.self.inside.shown; ids = c.self.inside.ids.entries; order = c.self.inside.order.entries } in
    let new : ViewState = record { texts = c.self.inside.texts.texts; counts = c.self.inside.texts.counts; shown = c.self.inside.shown; ids = c.make_id.new.ids.entries; order = c.self.inside.order.entries } in
    let steady : Steady old new = record { texts = λ n text at. at; has_ids = c.make_id.ensures.keeps; ids = c.make_id.ensures.same; has_keys = λ q has. has; order = λ q. refl; counts = every (λ part n. refl); shown = refl; sums = λ f none. refl } in
    still_kept old new c.self.inside.spans.items c.self.inside.spans.items steady c.self.invariant (λ n. refl) c.self.invariant.reach
