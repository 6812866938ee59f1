use Rattle.std.proofs.Common.{◌∙◌, ℕ, List, sym, ap, subst, Option, Ok, Err, arith}
use Rattle.std.proofs.lemmas.Result.{err_from_is_err_and}
use Rattle.http_wire.specs.Looking.{Looks, HeadInFront}
use Rattle.http_wire.specs.Taken.{TakesSome, TakesHead}
use Rattle.http_wire.specs.declared.taking.Came.{Came}
use Rattle.http_wire.proofs.Taken.{holds_then, head_ended, head_refused, head_stopped, none_looked, room_left}
use Rattle.http_wire.proofs.taking.take_head.Goals as goal

pub returns-in_err-end : goal.returns-in_err-end
returns-in_err-end g c =
    let first = g.S.Source.source c.args.source.now in
    let now = g.S.Source.source c.reads.source in
    let p = err_from_is_err_and c.from_residual.result c.from_residual.ensures.1 in
    let why = subst (λ (l : List ℕ). Looks c.args.kind l (Err c.in_err-end.field-0.0)) c.as_slice.ensures.items c.in_err-end.ensures in
    subst (λ o. TakesHead c.args.kind first now c.args.held.now.items c.reads.held.items o) (sym (p.1 ∙ ap Err p.2)) (head_refused c.args.kind first now c.args.held.now.items c.reads.held.items c.in_err-end.field-0.0 c.reads.invariant why)

pub returns-in-Some : goal.returns-in-Some
returns-in-Some g c =
    let at = subst (λ (o : Option ℕ). Looks c.args.kind c.as_slice.result.now (Ok o)) c.in-Some.is c.in_ok-end.ensures in
    (c.reads.invariant, subst (λ (l : List ℕ). HeadInFront c.args.kind l c.in-Some.end) c.as_slice.ensures.items at)

pub returns-in_err-take_some : goal.returns-in_err-take_some
returns-in_err-take_some g c =
    let first = g.S.Source.source c.args.source.now in
    let now = g.S.Source.source c.take_some.new.source in
    let left = c.from_residual-in_err-take_some in
    let p = err_from_is_err_and left.result left.ensures.1 in
    subst (λ o. TakesHead c.args.kind first now c.args.held.now.items c.take_some.new.held.items o) (sym (p.1 ∙ ap Err p.2))
    (head_stopped c.args.kind first (g.S.Source.source c.reads.source) now c.args.held.now.items c.reads.held.items c.take_some.new.held.items c.in_err-take_some.field-0.0 c.reads.invariant c.in_err-take_some.ensures)

pub reads-smaller : goal.reads-smaller
reads-smaller g c =
    let came = subst (λ (o : Came). TakesSome (g.S.Source.source c.reads.source) (g.S.Source.source c.take_some.new.source) c.reads.held.items c.take_some.new.held.items (Ok o)) c.in-Bytes.is c.in_ok-take_some.ensures in
    let more = came.1 in
    let looked = none_looked c.args.kind c.as_slice.result.now c.reads.held.items c.in_ok-end.field-0 c.as_slice.ensures.items c.in_ok-end.ensures c.in_default.not-Some in
    let room = room_left c.reads.held.items looked.1 in omega (arith, more, room)

pub reads-preserved : goal.reads-preserved
reads-preserved g c =
    let first = g.S.Source.source c.args.source.now in
    let mid = g.S.Source.source c.reads.source in
    let now = g.S.Source.source c.take_some.new.source in
    let came = subst (λ (o : Came). TakesSome mid now c.reads.held.items c.take_some.new.held.items (Ok o)) c.in-Bytes.is c.in_ok-take_some.ensures in
    holds_then first mid now c.args.held.now.items c.reads.held.items c.take_some.new.held.items c.reads.invariant came.0

pub returns-in-End : goal.returns-in-End
returns-in-End g c =
    let first = g.S.Source.source c.args.source.now in
    let mid = g.S.Source.source c.reads.source in
    let now = g.S.Source.source c.take_some.new.source in
    let ends = subst (λ (o : Came). TakesSome mid now c.reads.held.items c.take_some.new.held.items (Ok o)) c.in-End.is c.in_ok-take_some.ensures in
    let looked = none_looked c.args.kind c.as_slice.result.now c.reads.held.items c.in_ok-end.field-0 c.as_slice.ensures.items c.in_ok-end.ensures c.in_default.not-Some in
    head_ended c.args.kind first mid now c.args.held.now.items c.reads.held.items c.take_some.new.held.items c.reads.invariant looked ends
