use Rattle.std.proofs.Common.{◌≡◌, ◌≤◌, ◌-◌, ℕ, length}
use Rattle.history_view.specs.Spans.{span_of}
use Rattle.history_view.proofs.spans.make.Given as goal

abbrev pub invariant-loop-spans : goal.invariant-loop-spans
invariant-loop-spans l =
    (length l.initial.spans.items ≤ length l.spans.items)
    × ((n : ℕ) → span_of l.spans.items n ≡ span_of l.initial.spans.items n)

abbrev pub decreases-loop-spans : goal.decreases-loop-spans
decreases-loop-spans l = l.count - length l.spans.items
