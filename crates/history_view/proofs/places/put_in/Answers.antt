use Rattle.std.proofs.Common.{Option, cond, eqb, sym, ap, ◌∙◌, None}
use Rattle.history_view.specs.declared.rows.Creation.{Creation}
use Rattle.history_view.specs.Places.{numbers_in, numbers_for}
use Rattle.history_view.proofs.Counting.{in_some, out_none, stands_at}
use Rattle.history_view.proofs.places.put_in.Goals as goal

pub returns-in-Some-clause-filled : goal.returns-in-Some-clause-filled
returns-in-Some-clause-filled c = λ q.
    in_some c.args.id c.in-Some.new q (numbers_in c.args.order.now.entries q) (numbers_in c.show.new.order.entries q) (c.show.ensures.filled q) (λ same. stands_at c.args.order.now.entries c.args.id None c.requires.empty q same)
    ∙ ap (λ (o : Option Creation). cond (eqb c.args.id q.1) (numbers_for q.0.0 o) (numbers_in c.args.order.now.entries q)) (sym c.in-Some.is)

pub returns-in_default-clause-filled : goal.returns-in_default-clause-filled
returns-in_default-clause-filled c = λ q.
    out_none c.args.id q (numbers_in c.args.order.now.entries q) (λ same. stands_at c.args.order.now.entries c.args.id None c.requires.empty q same)
    ∙ ap (λ (o : Option Creation). cond (eqb c.args.id q.1) (numbers_for q.0.0 o) (numbers_in c.args.order.now.entries q)) (sym c.in_default.is)
