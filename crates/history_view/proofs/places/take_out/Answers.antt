use Rattle.std.proofs.Common.{ap, ◌∙◌}
use Rattle.history_view.specs.Places.{numbers_in, numbers_for}
use Rattle.history_view.proofs.Counting.{out_some, out_none, stands_at}
use Rattle.history_view.proofs.places.take_out.Goals as goal

pub returns-in-Some-clause-filled : goal.returns-in-Some-clause-filled
returns-in-Some-clause-filled c = λ q.
    out_some c.args.id c.in-Some.old q (numbers_in c.args.order.now.entries q) (numbers_in c.hide.new.order.entries q) (c.hide.ensures.filled q)
    (λ same. stands_at c.args.order.now.entries c.args.id c.args.old c.requires.stands q same ∙ ap (numbers_for q.0.0) c.in-Some.is)

pub returns-in_default-clause-filled : goal.returns-in_default-clause-filled
returns-in_default-clause-filled c = λ q. out_none c.args.id q (numbers_in c.args.order.now.entries q) (λ same. stands_at c.args.order.now.entries c.args.id c.args.old c.requires.stands q same ∙ ap (numbers_for q.0.0) c.in_default.is)
