use Rattle.std.proofs.Common.{◌∙◌, ℕ, List, Option, sym, ap, subst, Ok, Err}
use Rattle.std.proofs.lemmas.Result.{err_from_is_err_and}
use Rattle.http_wire.specs.Reading.{TakesResponse}
use Rattle.http_wire.specs.Taken.{HoldsMore, TakesHead}
use Rattle.http_wire.specs.declared.finding.HeadKind.TheVariants.{OfResponse}
use Rattle.http_wire.proofs.Answered.{response_after, response_stops, response_ended}
use Rattle.http_wire.proofs.wire.Wire.read_response.Goals as goal

pub returns-in_err-end : goal.returns-in_err-end
returns-in_err-end g c =
    let first = g.S.Source.source c.args.source.now in
    let now = g.S.Source.source c.take_head.new.source in
    let held = c.take_head.new.held.items in
    let p = err_from_is_err_and c.from_residual.result c.from_residual.ensures.1 in
    let stops = c.in_err-end.ensures in
    let more = subst (λ (l : List ℕ). HoldsMore first now l held) c.self.view_is stops.0 in
    subst (λ o. TakesResponse first now c.args.self.now held o) (sym (p.1 ∙ ap Err p.2)) (response_stops first now c.args.self.now held held c.in_err-end.field-0.0 more stops.1)

pub take_response-requires : goal.take_response-requires
take_response-requires g c =
    let first = g.S.Source.source c.args.source.now in
    let now = g.S.Source.source c.take_head.new.source in
    let found = subst (λ (o : Option ℕ). TakesHead OfResponse first now c.self.inside.held.items c.take_head.new.held.items (Ok o)) c.in-Some.is c.in_ok-end.ensures in found.1

pub returns-in-Some : goal.returns-in-Some
returns-in-Some g c =
    let first = g.S.Source.source c.args.source.now in
    let mid = g.S.Source.source c.take_head.new.source in
    let now = g.S.Source.source c.take_response.new.source in
    let held = c.take_head.new.held.items in
    let found = subst (λ (o : Option ℕ). TakesHead OfResponse first mid c.self.inside.held.items held (Ok o)) c.in-Some.is c.in_ok-end.ensures in
    let more = subst (λ (l : List ℕ). HoldsMore first mid l held) c.self.view_is found.0 in
    response_after first mid now c.args.self.now held c.take_response.new.held.items c.take_response.result more c.take_response.ensures

pub returns-in-None : goal.returns-in-None
returns-in-None g c =
    let first = g.S.Source.source c.args.source.now in
    let now = g.S.Source.source c.take_head.new.source in
    let held = c.take_head.new.held.items in
    let ended = subst (λ (o : Option ℕ). TakesHead OfResponse first now c.self.inside.held.items held (Ok o)) c.in-None.is c.in_ok-end.ensures in
    let more = subst (λ (l : List ℕ). HoldsMore first now l held) c.self.view_is ended.0 in
    response_ended first now c.args.self.now held held more ended.1 ended.2
