use Rattle.std.proofs.Common.{◌≡◌, List, Option, Some, ap, subst, ◌∙◌}
use Rattle.std.specs.Map.{lookup}
use Rattle.std.specs.List.{All, AllByRecursion}
use Rattle.std.specs.BTreeMap.{is_at}
use Rattle.std.specs.BTreeMap.Range.{IsInRange}
use Rattle.std.specs.declared.ops.Bound.TheVariants.{Unbounded}
use Rattle.std.proofs.lemmas.List.Elements.{recursion_from_All}
use Rattle.history_view.specs.declared.rows.TextNumbers.{TextNumbers}
use Rattle.history_view.specs.Places.{OrderKey, key_cmp}
use Rattle.history_view.specs.ViewState.{ViewState}
use Rattle.history_view.specs.Walk.{walked_in, newest_of, IsRow, StandInOrder, AreShown}
use Rattle.history_view.proofs.Ranging.{all_between, all_found}
use Rattle.history_view.proofs.Walks.{rows_in}
use Rattle.history_view.proofs.Ordering.{stand_in_order, are_shown}
use Rattle.history_view.proofs.Listing.{sorted_from, own_ids}
use Rattle.history_view.proofs.view.HistoryView.newest.Goals as goal

found_in : (s : ViewState) (es : List (OrderKey × Option TextNumbers)) → es ≡ s.order → All (λ (e : OrderKey × Option TextNumbers). IsInRange key_cmp Unbounded Unbounded e.0 × (lookup (is_at (key_cmp e.0)) s.order ≡ Some e.1)) es
    → AllByRecursion (λ (e : OrderKey × Option TextNumbers). lookup (is_at (key_cmp e.0)) s.order ≡ Some e.1) s.order
found_in s es same all = recursion_from_All (λ (e : OrderKey × Option TextNumbers). lookup (is_at (key_cmp e.0)) s.order ≡ Some e.1) s.order (all_found (λ (key : OrderKey). IsInRange key_cmp Unbounded Unbounded key) s.order es same all)

pub returns-clause-walked : goal.returns-clause-walked
returns-clause-walked c =
    let s : ViewState = record { texts = c.self.inside.texts.texts; counts = c.self.inside.texts.counts; shown = c.self.inside.shown; ids = c.self.inside.ids.entries; order = c.self.inside.order.entries } in
    ap walked_in (c.range.ensures.between tt ∙ all_between s.order) ∙ ap (λ (t : ViewState). walked_in t.order) c.self.view_is

pub returns-clause-rows : goal.returns-clause-rows
returns-clause-rows c =
    let s : ViewState = record { texts = c.self.inside.texts.texts; counts = c.self.inside.texts.counts; shown = c.self.inside.shown; ids = c.self.inside.ids.entries; order = c.self.inside.order.entries } in
    let found = found_in s c.range.result (c.range.ensures.between tt ∙ all_between s.order) (c.range.ensures.in_range tt).0 in
    subst (λ (t : ViewState). AllByRecursion (IsRow t) (walked_in t.order)) c.self.view_is (rows_in s c.self.invariant.sound s.order found)

pub returns-clause-in_order : goal.returns-clause-in_order
returns-clause-in_order c =
    let s : ViewState = record { texts = c.self.inside.texts.texts; counts = c.self.inside.texts.counts; shown = c.self.inside.shown; ids = c.self.inside.ids.entries; order = c.self.inside.order.entries } in
    let found = found_in s c.range.result (c.range.ensures.between tt ∙ all_between s.order) (c.range.ensures.in_range tt).0 in
    subst (λ (t : ViewState). StandInOrder (newest_of t)) c.self.view_is (stand_in_order s c.range.ensures.ordered (rows_in s c.self.invariant.sound s.order found))

pub returns-clause-shown : goal.returns-clause-shown
returns-clause-shown c =
    let s : ViewState = record { texts = c.self.inside.texts.texts; counts = c.self.inside.texts.counts; shown = c.self.inside.shown; ids = c.self.inside.ids.entries; order = c.self.inside.order.entries } in
    let found = found_in s c.range.result (c.range.ensures.between tt ∙ all_between s.order) (c.range.ensures.in_range tt).0 in
    subst (λ (t : ViewState). AreShown t (newest_of t)) c.self.view_is (are_shown s c.self.invariant.sound (rows_in s c.self.invariant.sound s.order found))

pub returns-clause-sorted : goal.returns-clause-sorted
returns-clause-sorted c = sorted_from (newest_of c.args.self.now) (returns-clause-in_order c)

pub returns-clause-own : goal.returns-clause-own
returns-clause-own c = own_ids c.args.self.now (newest_of c.args.self.now) (returns-clause-shown c) (returns-clause-in_order c)
