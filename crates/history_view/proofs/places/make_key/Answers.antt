use Rattle.std.proofs.Common.{None}
use Rattle.std.specs.Map.{lookup}
use Rattle.std.specs.BTreeMap.{is_at}
use Rattle.history_view.specs.Places.{key_cmp}
use Rattle.history_view.proofs.OrderKeys.{kept_put, same_made, none_there, made_sums}
use Rattle.history_view.proofs.places.make_key.Goals as goal

pub returns-in_ok-insert-clause-keeps : goal.returns-in_ok-insert-clause-keeps
returns-in_ok-insert-clause-keeps c = λ q has. kept_put _ _ _ _ (c.in_ok-insert.ensures.updates.0 q) has

pub returns-in_ok-insert-clause-same : goal.returns-in_ok-insert-clause-same
returns-in_ok-insert-clause-same c = λ q. same_made None c.args.key q (λ s. lookup (is_at (key_cmp s)) c.args.order.now.entries) (λ s. lookup (is_at (key_cmp s)) c.insert.new.self.entries) (none_there _ c.contains_key.result c.contains_key.ensures c.if-not-contains_key.true) (c.in_ok-insert.ensures.updates.0 q)

pub returns-in_ok-insert-clause-sums : goal.returns-in_ok-insert-clause-sums
returns-in_ok-insert-clause-sums c = λ f nothing. made_sums f c.args.order.now.entries c.insert.new.self.entries c.args.key None c.insert.ensures.was_ordered (none_there _ c.contains_key.result c.contains_key.ensures c.if-not-contains_key.true) c.in_ok-insert.ensures.entries nothing
