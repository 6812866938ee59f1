use Rattle.std.proofs.Common.{◌≡◌, ◌≤◌, ℕ, List, length, true, ap, sym, subst, ◌∙◌, arith}
use Rattle.history_view.specs.declared.rows.Creation.{Creation}
use Rattle.history_view.specs.declared.rows.Held.{Held}
use Rattle.history_view.specs.declared.room.Room.{Room}
use Rattle.history_view.specs.declared.room.Room.TheVariants.{Creates, Deletes}
use Rattle.history_view.specs.Rows.{HasTexts, held_after}
use Rattle.history_view.specs.Places.{held_in}
use Rattle.history_view.specs.Rooms.{IsReady}
use Rattle.history_view.specs.ViewState.{ViewState, Means, IsCreationRoom, IsDeletionRoom}
use Rattle.history_view.proofs.Counting.{some_within}
use Rattle.history_view.proofs.Spanning.{spanned_grown, created_within}
use Rattle.history_view.proofs.Meaning.{sound_grown, created_texts, means_created, means_deleted}
use Rattle.history_view.proofs.view.HistoryView.add.Goals as goal

pub invariant_of-self : goal.invariant_of-self
invariant_of-self c =
    let old : ViewState = record { texts = c.self.inside.texts.texts; counts = c.self.inside.texts.counts; shown = c.self.inside.shown; ids = c.self.inside.ids.entries; order = c.self.inside.order.entries } in
    let new : ViewState = record { texts = c.change.new.texts.texts; counts = c.change.new.texts.counts; shown = c.change.new.shown; ids = c.change.new.ids.entries; order = c.change.new.order.entries } in
    let placed : Creation = record c.in-Creates.creation { host = c.args.host; idx = c.args.idx } in
    let ready : IsReady c.args.self.now (Creates c.in-Creates.id c.in-Creates.creation) c.requires.0 = subst (λ (room : Room). IsReady c.args.self.now room c.requires.0) c.in-Creates.is c.requires.1 in
    let here : IsCreationRoom old c.in-Creates.id c.in-Creates.creation c.requires.0 = subst (λ (s : ViewState). IsCreationRoom s c.in-Creates.id c.in-Creates.creation c.requires.0) (sym c.self.view_is) ready in
    let has : HasTexts old.texts placed = record { command = here.texts.command; cwd = here.texts.cwd; session = here.texts.session; hostname = here.texts.hostname; author = here.texts.author } in
    let is : c.after_creation-new.result ≡ held_after placed c.held.result = c.after_creation-new.ensures ∙ ap (λ (p : Creation). held_after p c.held.result) c.placed-placed.ensures in
    let from : held_after placed (held_in old.ids c.in-Creates.id) ≡ c.after_creation-new.result = ap (held_after placed) (sym c.held.ensures) ∙ sym is in
    record {
      sound = sound_grown old c.self.invariant.sound c.in-Creates.id new c.after_creation-new.result c.change.ensures.texts
          (λ d e. created_texts old c.self.invariant.sound c.in-Creates.id placed has d (ap (λ (h : Held). h.first) from ∙ e))
          c.change.ensures.held c.change.ensures.sound c.change.ensures.counted c.change.ensures.shown;
      spanned = spanned_grown c.self.inside.spans.items c.widen.new.spans.items old.ids c.self.invariant.spanned c.widen.ensures.keeps c.in-Creates.id new.ids c.after_creation-new.result
          (λ d e. created_within c.self.inside.spans.items c.widen.new.spans.items old.ids c.self.invariant.spanned c.widen.ensures.keeps c.in-Creates.id placed c.widen.ensures.within d (ap (λ (h : Held). h.first) from ∙ e)) c.change.ensures.held;
      reach = subst (λ (n : ℕ). length new.texts ≤ n) (sym c.widen.ensures.long) (subst (λ (ts : List (List ℕ)). length ts ≤ length c.self.inside.spans.items) (sym c.change.ensures.texts) c.self.invariant.reach);
    }

pub invariant_of-self-in-Deletes : goal.invariant_of-self-in-Deletes
invariant_of-self-in-Deletes c =
    let old : ViewState = record { texts = c.self.inside.texts.texts; counts = c.self.inside.texts.counts; shown = c.self.inside.shown; ids = c.self.inside.ids.entries; order = c.self.inside.order.entries } in
    let new : ViewState = record { texts = c.change-in-Deletes.new.texts.texts; counts = c.change-in-Deletes.new.texts.counts; shown = c.change-in-Deletes.new.shown; ids = c.change-in-Deletes.new.ids.entries; order = c.change-in-Deletes.new.order.entries } in
    let from : (held_in old.ids c.in-Deletes.id).first ≡ c.after_deletion-new.result.first = ap (λ (h : Held). h.first) (sym c.held-in-Deletes.ensures) ∙ sym (ap (λ (h : Held). h.first) c.after_deletion-new.ensures) in
    record {
      sound = sound_grown old c.self.invariant.sound c.in-Deletes.id new c.after_deletion-new.result c.change-in-Deletes.ensures.texts (λ d e. c.self.invariant.sound.texts c.in-Deletes.id d (from ∙ e))
          c.change-in-Deletes.ensures.held c.change-in-Deletes.ensures.sound c.change-in-Deletes.ensures.counted c.change-in-Deletes.ensures.shown;
      spanned = spanned_grown c.self.inside.spans.items c.self.inside.spans.items old.ids c.self.invariant.spanned (λ n t w. w) c.in-Deletes.id new.ids c.after_deletion-new.result (λ d e. c.self.invariant.spanned c.in-Deletes.id d (from ∙ e)) c.change-in-Deletes.ensures.held;
      reach = subst (λ (ts : List (List ℕ)). length ts ≤ length c.self.inside.spans.items) (sym c.change-in-Deletes.ensures.texts) c.self.invariant.reach;
    }

pub returns-in-Creates-clause-grows : goal.returns-in-Creates-clause-grows
returns-in-Creates-clause-grows c = λ payload changes timestamp ready means.
    let old : ViewState = record { texts = c.self.inside.texts.texts; counts = c.self.inside.texts.counts; shown = c.self.inside.shown; ids = c.self.inside.ids.entries; order = c.self.inside.order.entries } in
    let placed : Creation = record c.in-Creates.creation { host = c.args.host; idx = c.args.idx } in
    let here : IsReady c.args.self.now (Creates c.in-Creates.id c.in-Creates.creation) payload = subst (λ (room : Room). IsReady c.args.self.now room payload) c.in-Creates.is ready in
    let room : IsCreationRoom old c.in-Creates.id c.in-Creates.creation payload = subst (λ (s : ViewState). IsCreationRoom s c.in-Creates.id c.in-Creates.creation payload) (sym c.self.view_is) here in
    let meant : Means old changes = subst (λ (s : ViewState). Means s changes) (sym c.self.view_is) means in
    means_created old c.change.new.texts.texts c.change.ensures.texts c.in-Creates.id placed c.after_creation-new.result c.change.new.ids.entries payload changes
    (c.after_creation-new.ensures ∙ ap (λ (p : Creation). held_after p c.held.result) c.placed-placed.ensures ∙ ap (held_after placed) c.held.ensures) c.change.ensures.held room.holds meant

pub returns-in-Deletes-clause-grows : goal.returns-in-Deletes-clause-grows
returns-in-Deletes-clause-grows c = λ payload changes timestamp ready means.
    let old : ViewState = record { texts = c.self.inside.texts.texts; counts = c.self.inside.texts.counts; shown = c.self.inside.shown; ids = c.self.inside.ids.entries; order = c.self.inside.order.entries } in
    let here : IsReady c.args.self.now (Deletes c.in-Deletes.id) payload = subst (λ (room : Room). IsReady c.args.self.now room payload) c.in-Deletes.is ready in
    let room : IsDeletionRoom old c.in-Deletes.id payload = subst (λ (s : ViewState). IsDeletionRoom s c.in-Deletes.id payload) (sym c.self.view_is) here in
    let meant : Means old changes = subst (λ (s : ViewState). Means s changes) (sym c.self.view_is) means in
    means_deleted old c.change-in-Deletes.new.texts.texts c.change-in-Deletes.ensures.texts c.args.host c.args.idx c.in-Deletes.id c.after_deletion-new.result c.change-in-Deletes.new.ids.entries payload changes
    (c.after_deletion-new.ensures ∙ ap (λ (h : Held). record { dead = true; first = h.first }) c.held-in-Deletes.ensures) c.change-in-Deletes.ensures.held room.holds meant

pub widen-requires : goal.widen-requires
widen-requires c =
    let old : ViewState = record { texts = c.self.inside.texts.texts; counts = c.self.inside.texts.counts; shown = c.self.inside.shown; ids = c.self.inside.ids.entries; order = c.self.inside.order.entries } in
    let ready : IsReady c.args.self.now (Creates c.in-Creates.id c.in-Creates.creation) c.requires.0 = subst (λ (room : Room). IsReady c.args.self.now room c.requires.0) c.in-Creates.is c.requires.1 in
    let here : IsCreationRoom old c.in-Creates.id c.in-Creates.creation c.requires.0 = subst (λ (s : ViewState). IsCreationRoom s c.in-Creates.id c.in-Creates.creation c.requires.0) (sym c.self.view_is) ready in
    let below = some_within old.texts c.in-Creates.creation.command here.texts.command in
    let reach = c.self.invariant.reach in
    omega (arith, below, reach)
