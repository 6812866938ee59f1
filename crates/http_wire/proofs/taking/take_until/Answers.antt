use Rattle.std.proofs.Common.{◌∙◌, sym, ap, subst, Ok, Err, arith}
use Rattle.std.proofs.lemmas.Result.{err_from_is_err_and}
use Rattle.http_wire.specs.Taken.{TakesSome, TakesUntil}
use Rattle.http_wire.specs.declared.taking.Came.{Came}
use Rattle.http_wire.proofs.Taken.{holds_then, body_ended, body_stopped}
use Rattle.http_wire.proofs.taking.take_until.Goals as goal

pub returns-in_err-take_some : goal.returns-in_err-take_some
returns-in_err-take_some g c =
    let first = g.S.Source.source c.args.source.now in
    let now = g.S.Source.source c.take_some.new.source in
    let p = err_from_is_err_and c.from_residual.result c.from_residual.ensures.1 in
    subst (λ o. TakesUntil first now c.args.held.now.items c.take_some.new.held.items c.args.enough o) (sym (p.1 ∙ ap Err p.2))
    (body_stopped (Unit {0}) first (g.S.Source.source c.reads.source) now c.args.held.now.items c.reads.held.items c.take_some.new.held.items c.args.enough c.in_err-take_some.field-0.0 c.reads.invariant c.in_err-take_some.ensures)

pub reads-smaller : goal.reads-smaller
reads-smaller g c =
    let came = subst (λ (o : Came). TakesSome (g.S.Source.source c.reads.source) (g.S.Source.source c.take_some.new.source) c.reads.held.items c.take_some.new.held.items (Ok o)) c.in-Bytes.is c.in_ok-take_some.ensures in
    let more = came.1 in
    let short = c.reads-test.true in
    let size = c.len.ensures in omega (arith, more, short, size)

pub reads-preserved : goal.reads-preserved
reads-preserved g c =
    let first = g.S.Source.source c.args.source.now in
    let mid = g.S.Source.source c.reads.source in
    let now = g.S.Source.source c.take_some.new.source in
    let came = subst (λ (o : Came). TakesSome mid now c.reads.held.items c.take_some.new.held.items (Ok o)) c.in-Bytes.is c.in_ok-take_some.ensures in
    holds_then first mid now c.args.held.now.items c.reads.held.items c.take_some.new.held.items c.reads.invariant came.0

pub returns-in-End : goal.returns-in-End
returns-in-End g c =
    let first = g.S.Source.source c.args.source.now in
    let mid = g.S.Source.source c.reads.source in
    let now = g.S.Source.source c.take_some.new.source in
    let ends = subst (λ (o : Came). TakesSome mid now c.reads.held.items c.take_some.new.held.items (Ok o)) c.in-End.is c.in_ok-take_some.ensures in
    let size = c.len.ensures in
    let short = c.reads-test.true in
    body_ended (Unit {0}) first mid now c.args.held.now.items c.reads.held.items c.take_some.new.held.items c.args.enough c.reads.invariant (omega (arith, size, short)) ends

pub returns : goal.returns
returns g c = let size = c.len.ensures in let done = c.reads-test.false in (c.reads.invariant, omega (arith, size, done))
