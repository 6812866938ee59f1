use Rattle.std.proofs.Common.{◌∙◌, sym, ap, subst, Err}
use Rattle.std.proofs.lemmas.Result.{err_from_is_err_and}
use Rattle.http_wire.specs.Taken.{TakesBody}
use Rattle.http_wire.specs.declared.fail.HttpFail.TheVariants.{NoMemory}
use Rattle.http_wire.proofs.Taken.{body_taken, body_refused}
use Rattle.http_wire.proofs.taking.take_body.Goals as goal

pub returns-in_err-take_until : goal.returns-in_err-take_until
returns-in_err-take_until g c =
    let first = g.S.Source.source c.args.source.now in
    let now = g.S.Source.source c.take_until.new.source in
    let p = err_from_is_err_and c.from_residual.result c.from_residual.ensures.1 in
    let stops = c.in_err-take_until.ensures in
    subst (λ o. TakesBody first now c.args.held.now.items c.take_until.new.held.items c.args.start c.args.len o) (sym (p.1 ∙ ap Err p.2))
    (body_refused first now c.args.held.now.items c.take_until.new.held.items c.take_until.new.held.items c.args.start c.args.len c.in_err-take_until.field-0.0 stops.0 stops.1)

pub cut_body-requires-clause-within : goal.cut_body-requires-clause-within
cut_body-requires-clause-within g c = let taken = c.in_ok-take_until.ensures in taken.1

pub returns-in_err-cut_body : goal.returns-in_err-cut_body
returns-in_err-cut_body g c =
    let first = g.S.Source.source c.args.source.now in
    let now = g.S.Source.source c.take_until.new.source in
    let left = c.from_residual-in_err-cut_body in
    let p = err_from_is_err_and left.result left.ensures.1 in
    let taken = c.in_ok-take_until.ensures in
    subst (λ o. TakesBody first now c.args.held.now.items c.cut_body.new.held.items c.args.start c.args.len o) (sym (p.1 ∙ ap Err p.2))
    (body_refused first now c.args.held.now.items c.take_until.new.held.items c.cut_body.new.held.items c.args.start c.args.len NoMemory taken.0 tt)

pub returns : goal.returns
returns g c =
    let first = g.S.Source.source c.args.source.now in
    let now = g.S.Source.source c.take_until.new.source in
    let taken = c.in_ok-take_until.ensures in
    let cuts = c.in_ok-cut_body.ensures in
    body_taken first now c.args.held.now.items c.take_until.new.held.items c.cut_body.new.held.items c.in_ok-cut_body.field-0 c.args.start c.args.len c.requires.within taken.0 taken.1 cuts.0 cuts.1
