use Rattle.history_view.proofs.OrderKeys.{kept_put, put_sums}
use Rattle.std.proofs.Common.{None}
use Rattle.history_view.proofs.places.fill.Goals as goal

pub returns-clause-keeps : goal.returns-clause-keeps
returns-clause-keeps c = λ q has. kept_put _ _ _ _ (c.in-Ok.ensures.updates.0 q) has

pub returns-clause-sums : goal.returns-clause-sums
returns-clause-sums c = λ f. put_sums f None c.args.order.now.entries c.insert.new.self.entries c.args.key c.args.numbers c.insert.ensures.was_ordered c.requires c.in-Ok.ensures.entries
