use Rattle.std.proofs.Common.{◌≤◌, ◌∙◌, ℕ, List, sym, ap, subst, take, Ok, Err, arith}
use Rattle.std.proofs.lemmas.Result.{err_from_is_err_and}
use Rattle.http_wire.specs.Fronts.{lines_of}
use Rattle.http_wire.specs.Reading.{TakesResponse}
use Rattle.http_wire.proofs.Answered.{response_slice, response_not_allowed, response_cut, response_taken}
use Rattle.http_wire.proofs.wire.take_response.Goals as goal

pub read_response_head-announced-requires-clause-whole : goal.read_response_head-announced-requires-clause-whole
read_response_head-announced-requires-clause-whole g c = (c.requires.head.0, response_slice c.args.held.now.items c.as_slice.result.now c.args.end c.requires c.as_slice.ensures.items)

pub read_response_head-announced-requires-clause-lines : goal.read_response_head-announced-requires-clause-lines
read_response_head-announced-requires-clause-lines g c = subst (λ (l : List ℕ). lines_of (take c.args.end l) ≤ 102) (sym c.as_slice.ensures.items) c.requires.lines

pub returns-in_err-len : goal.returns-in_err-len
returns-in_err-len g c =
    let first = g.S.Source.source c.args.source.now in
    let left = c.from_residual in
    let p = err_from_is_err_and left.result left.ensures.1 in
    let announces = (c.read_response_head-announced.ensures c.requires.head.0 (response_slice c.args.held.now.items c.as_slice.result.now c.args.end c.requires c.as_slice.ensures.items)) in
    subst (λ o. TakesResponse first first c.args.held.now.items c.args.held.now.items o) (sym (p.1 ∙ ap Err p.2))
    (response_not_allowed first first c.args.held.now.items c.args.end c.requires c.read_response_head-announced.result announces c.args.held.now.items c.in_err-len.field-0.0 c.in_err-len.ensures)

pub take_body-requires-clause-within : goal.take_body-requires-clause-within
take_body-requires-clause-within g c = c.requires.within

pub take_body-requires-clause-fits : goal.take_body-requires-clause-fits
take_body-requires-clause-fits g c = let small = c.requires.short in let allowed = c.in_ok-len.ensures in let short = allowed.1 in omega (arith, small, short)

pub returns-in_err-take_body : goal.returns-in_err-take_body
returns-in_err-take_body g c =
    let first = g.S.Source.source c.args.source.now in
    let now = g.S.Source.source c.take_body.new.source in
    let left = c.from_residual-in_err-take_body in
    let p = err_from_is_err_and left.result left.ensures.1 in
    let announces = (c.read_response_head-announced.ensures c.requires.head.0 (response_slice c.args.held.now.items c.as_slice.result.now c.args.end c.requires c.as_slice.ensures.items)) in
    subst (λ o. TakesResponse first now c.args.held.now.items c.take_body.new.held.items o) (sym (p.1 ∙ ap Err p.2))
    (response_cut first now c.args.held.now.items c.args.end c.requires c.read_response_head-announced.result announces c.take_body.new.held.items c.in_ok-len.len c.in_err-take_body.field-0.0 c.in_ok-len.ensures c.in_err-take_body.ensures)

pub returns : goal.returns
returns g c =
    let first = g.S.Source.source c.args.source.now in
    let now = g.S.Source.source c.take_body.new.source in
    let announces = (c.read_response_head-announced.ensures c.requires.head.0 (response_slice c.args.held.now.items c.as_slice.result.now c.args.end c.requires c.as_slice.ensures.items)) in
    let told = c.read_response_head-announced.result in
    subst (λ (b : List ℕ). TakesResponse first now c.args.held.now.items c.take_body.new.held.items (Ok (record told.message { body = b }))) (sym c.from_bytes.ensures)
    (response_taken first now c.args.held.now.items c.args.end c.requires told announces c.take_body.new.held.items c.in_ok-len.len c.in_ok-take_body.field-0 c.in_ok-len.ensures c.in_ok-take_body.ensures)
