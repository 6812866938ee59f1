use Rattle.std.proofs.Common.{◌≤◌, ◌∙◌, ℕ, List, [], sym, ap, subst, take, Err, arith}
use Rattle.std.proofs.lemmas.List.{length-take}
use Rattle.std.proofs.lemmas.Result.{err_from_is_err_and}
use Rattle.at_edge.proofs.SourceLaws.{Gave-nothing}
use Rattle.http_wire.specs.Fronts.{lines_of}
use Rattle.http_wire.specs.Reading.{TakesRequest}
use Rattle.http_wire.proofs.Answered.{request_slice, request_not_allowed, request_cut, request_taken}
use Rattle.http_wire.proofs.wire.take_request.Goals as goal

pub read_request_head-requires-clause-whole : goal.read_request_head-requires-clause-whole
read_request_head-requires-clause-whole g c = (c.requires.head.0, request_slice c.args.held.now.items c.as_slice.result.now c.args.end c.requires c.as_slice.ensures.items)

pub read_request_head-requires-clause-short : goal.read_request_head-requires-clause-short
read_request_head-requires-clause-short g c =
    let size = length-take c.args.end c.as_slice.result.now in let small = c.requires.short in omega (arith, size, small)

pub read_request_head-requires-clause-lines : goal.read_request_head-requires-clause-lines
read_request_head-requires-clause-lines g c = subst (λ (l : List ℕ). lines_of (take c.args.end l) ≤ 102) (sym c.as_slice.ensures.items) c.requires.lines

pub returns-in_err-announced : goal.returns-in_err-announced
returns-in_err-announced g c =
    let first = g.S.Source.source c.args.source.now in
    let p = err_from_is_err_and c.from_residual.result c.from_residual.ensures.1 in
    subst (λ o. TakesRequest first first c.args.held.now.items c.args.held.now.items o) (sym (p.1 ∙ ap Err p.2)) ([], Gave-nothing first, tt)

pub returns-in_err-len : goal.returns-in_err-len
returns-in_err-len g c =
    let first = g.S.Source.source c.args.source.now in
    let left = c.from_residual-in_err-len in
    let p = err_from_is_err_and left.result left.ensures.1 in
    let announces = (c.in_ok-announced.ensures c.requires.head.0 (request_slice c.args.held.now.items c.as_slice.result.now c.args.end c.requires c.as_slice.ensures.items)) in
    subst (λ o. TakesRequest first first c.args.held.now.items c.args.held.now.items o) (sym (p.1 ∙ ap Err p.2))
    (request_not_allowed first first c.args.held.now.items c.args.end c.requires c.in_ok-announced.announced announces c.args.held.now.items c.in_err-len.field-0.0 c.in_err-len.ensures)

pub take_body-requires-clause-within : goal.take_body-requires-clause-within
take_body-requires-clause-within g c = c.requires.within

pub take_body-requires-clause-fits : goal.take_body-requires-clause-fits
take_body-requires-clause-fits g c = let small = c.requires.short in let allowed = c.in_ok-len.ensures in let short = allowed.1 in omega (arith, small, short)

pub returns-in_err-request : goal.returns-in_err-request
returns-in_err-request g c =
    let first = g.S.Source.source c.args.source.now in
    let now = g.S.Source.source c.take_body.new.source in
    let left = c.from_residual-in_err-request in
    let p = err_from_is_err_and left.result left.ensures.1 in
    let announces = (c.in_ok-announced.ensures c.requires.head.0 (request_slice c.args.held.now.items c.as_slice.result.now c.args.end c.requires c.as_slice.ensures.items)) in
    subst (λ o. TakesRequest first now c.args.held.now.items c.take_body.new.held.items o) (sym (p.1 ∙ ap Err p.2))
    (request_cut first now c.args.held.now.items c.args.end c.requires c.in_ok-announced.announced announces c.take_body.new.held.items c.in_ok-len.len c.in_err-request.field-0.0 c.in_ok-len.ensures c.in_err-request.ensures)

pub returns : goal.returns
returns g c =
    let first = g.S.Source.source c.args.source.now in
    let now = g.S.Source.source c.take_body.new.source in
    let announces = (c.in_ok-announced.ensures c.requires.head.0 (request_slice c.args.held.now.items c.as_slice.result.now c.args.end c.requires c.as_slice.ensures.items)) in
    request_taken first now c.args.held.now.items c.args.end c.requires c.in_ok-announced.announced announces c.take_body.new.held.items c.in_ok-len.len c.in_ok-request.field-0 c.in_ok-len.ensures c.in_ok-request.ensures
