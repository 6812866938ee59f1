use Rattle.std.proofs.Common.{ap, refl, ◌∙◌}
use Rattle.history_view.specs.ViewState.{ViewState, standing_in, Steady}
use Rattle.history_view.proofs.Meaning.{standing_kept}
use Rattle.history_view.proofs.Spanning.{still_kept}
use Rattle.history_view.proofs.view.HistoryView.reserve_creation.Goals as goal

pub invariant_of-self : goal.invariant_of-self
invariant_of-self c =
    let old : ViewState = record { texts = c.self.inside.texts.texts; counts = c.self.inside.texts.counts; shown = c.self.inside.shown; ids = c.self.inside.ids.entries; order = c.self.inside.order.entries } in
    let new : ViewState = record { texts = c.number_texts.new.texts.texts; counts = c.number_texts.new.texts.counts; shown = c.self.inside.shown; ids = c.self.inside.ids.entries; order = c.self.inside.order.entries } in
    let steady : Steady old new = record { texts = c.number_texts.ensures.keeps; has_ids = λ q has. has; ids = λ q. refl; has_keys = λ q has. has; order = λ q. refl; counts = c.number_texts.ensures.counts; shown = refl; sums = λ f none. refl } in
    still_kept old new c.self.inside.spans.items c.number_texts.new.spans.items steady c.self.invariant c.number_texts.ensures.spans c.number_texts.ensures.reach

pub returns-in_err-creation-clause-same : goal.returns-in_err-creation-clause-same
returns-in_err-creation-clause-same c = λ id.
    let old : ViewState = record { texts = c.self.inside.texts.texts; counts = c.self.inside.texts.counts; shown = c.self.inside.shown; ids = c.self.inside.ids.entries; order = c.self.inside.order.entries } in
    let new : ViewState = record { texts = c.number_texts.new.texts.texts; counts = c.number_texts.new.texts.counts; shown = c.self.inside.shown; ids = c.self.inside.ids.entries; order = c.self.inside.order.entries } in
    let steady : Steady old new = record { texts = c.number_texts.ensures.keeps; has_ids = λ q has. has; ids = λ q. refl; has_keys = λ q has. has; order = λ q. refl; counts = c.number_texts.ensures.counts; shown = refl; sums = λ f none. refl } in
    standing_kept old new steady c.self.invariant.sound id ∙ ap (λ (s : ViewState). standing_in s id) c.self.view_is

pub invariant_of-self-in_err-make_id : goal.invariant_of-self-in_err-make_id
invariant_of-self-in_err-make_id c =
    let old : ViewState = record { texts = c.self.inside.texts.texts; counts = c.self.inside.texts.counts; shown = c.self.inside.shown; ids = c.self.inside.ids.entries; order = c.self.inside.order.entries } in
    let new : ViewState = record { texts = c.number_texts.new.texts.texts; counts = c.number_texts.new.texts.counts; shown = c.self.inside.shown; ids = c.make_id.new.ids.entries; order = c.self.inside.order.entries } in
    let steady : Steady old new = record { texts = c.number_texts.ensures.keeps; has_ids = c.make_id.ensures.keeps; ids = c.make_id.ensures.same; has_keys = λ q has. has; order = λ q. refl; counts = c.number_texts.ensures.counts; shown = refl; sums = λ f none. refl } in
    still_kept old new c.self.inside.spans.items c.number_texts.new.spans.items steady c.self.invariant c.number_texts.ensures.spans c.number_texts.ensures.reach

pub returns-in_err-make_id-clause-same : goal.returns-in_err-make_id-clause-same
returns-in_err-make_id-clause-same c = λ id.
    let old : ViewState = record { texts = c.self.inside.texts.texts; counts = c.self.inside.texts.counts; shown = c.self.inside.shown; ids = c.self.inside.ids.entries; order = c.self.inside.order.entries } in
    let new : ViewState = record { texts = c.number_texts.new.texts.texts; counts = c.number_texts.new.texts.counts; shown = c.self.inside.shown; ids = c.make_id.new.ids.entries; order = c.self.inside.order.entries } in
    let steady : Steady old new = record { texts = c.number_texts.ensures.keeps; has_ids = c.make_id.ensures.keeps; ids = c.make_id.ensures.same; has_keys = λ q has. has; order = λ q. refl; counts = c.number_texts.ensures.counts; shown = refl; sums = λ f none. refl } in
    standing_kept old new steady c.self.invariant.sound id ∙ ap (λ (s : ViewState). standing_in s id) c.self.view_is

pub invariant_of-self-in_err-make_key : goal.invariant_of-self-in_err-make_key
invariant_of-self-in_err-make_key c =
    let old : ViewState = record { texts = c.self.inside.texts.texts; counts = c.self.inside.texts.counts; shown = c.self.inside.shown; ids = c.self.inside.ids.entries; order = c.self.inside.order.entries } in
    let new : ViewState = record { texts = c.number_texts.new.texts.texts; counts = c.number_texts.new.texts.counts; shown = c.self.inside.shown; ids = c.make_id.new.ids.entries; order = c.make_key.new.order.entries } in
    let steady : Steady old new = record { texts = c.number_texts.ensures.keeps; has_ids = c.make_id.ensures.keeps; ids = c.make_id.ensures.same; has_keys = c.make_key.ensures.keeps; order = c.make_key.ensures.same; counts = c.number_texts.ensures.counts; shown = refl; sums = c.make_key.ensures.sums } in
    still_kept old new c.self.inside.spans.items c.number_texts.new.spans.items steady c.self.invariant c.number_texts.ensures.spans c.number_texts.ensures.reach

pub returns-in_err-make_key-clause-same : goal.returns-in_err-make_key-clause-same
returns-in_err-make_key-clause-same c = λ id.
    let old : ViewState = record { texts = c.self.inside.texts.texts; counts = c.self.inside.texts.counts; shown = c.self.inside.shown; ids = c.self.inside.ids.entries; order = c.self.inside.order.entries } in
    let new : ViewState = record { texts = c.number_texts.new.texts.texts; counts = c.number_texts.new.texts.counts; shown = c.self.inside.shown; ids = c.make_id.new.ids.entries; order = c.make_key.new.order.entries } in
    let steady : Steady old new = record { texts = c.number_texts.ensures.keeps; has_ids = c.make_id.ensures.keeps; ids = c.make_id.ensures.same; has_keys = c.make_key.ensures.keeps; order = c.make_key.ensures.same; counts = c.number_texts.ensures.counts; shown = refl; sums = c.make_key.ensures.sums } in
    standing_kept old new steady c.self.invariant.sound id ∙ ap (λ (s : ViewState). standing_in s id) c.self.view_is

pub invariant_of-self-2 : goal.invariant_of-self-2
invariant_of-self-2 c =
    let old : ViewState = record { texts = c.self.inside.texts.texts; counts = c.self.inside.texts.counts; shown = c.self.inside.shown; ids = c.self.inside.ids.entries; order = c.self.inside.order.entries } in
    let new : ViewState = record { texts = c.number_texts.new.texts.texts; counts = c.number_texts.new.texts.counts; shown = c.self.inside.shown; ids = c.make_id.new.ids.entries; order = c.make_key.new.order.entries } in
    let steady : Steady old new = record { texts = c.number_texts.ensures.keeps; has_ids = c.make_id.ensures.keeps; ids = c.make_id.ensures.same; has_keys = c.make_key.ensures.keeps; order = c.make_key.ensures.same; counts = c.number_texts.ensures.counts; shown = refl; sums = c.make_key.ensures.sums } in
    still_kept old new c.self.inside.spans.items c.number_texts.new.spans.items steady c.self.invariant c.number_texts.ensures.spans c.number_texts.ensures.reach

pub returns-clause-same : goal.returns-clause-same
returns-clause-same c = λ id.
    let old : ViewState = record { texts = c.self.inside.texts.texts; counts = c.self.inside.texts.counts; shown = c.self.inside.shown; ids = c.self.inside.ids.entries; order = c.self.inside.order.entries } in
    let new : ViewState = record { texts = c.number_texts.new.texts.texts; counts = c.number_texts.new.texts.counts; shown = c.self.inside.shown; ids = c.make_id.new.ids.entries; order = c.make_key.new.order.entries } in
    let steady : Steady old new = record { texts = c.number_texts.ensures.keeps; has_ids = c.make_id.ensures.keeps; ids = c.make_id.ensures.same; has_keys = c.make_key.ensures.keeps; order = c.make_key.ensures.same; counts = c.number_texts.ensures.counts; shown = refl; sums = c.make_key.ensures.sums } in
    standing_kept old new steady c.self.invariant.sound id ∙ ap (λ (s : ViewState). standing_in s id) c.self.view_is
