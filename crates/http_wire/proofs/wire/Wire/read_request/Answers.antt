use Rattle.std.proofs.Common.{◌∙◌, ℕ, List, Option, sym, ap, subst, length, Ok, Err}
use Rattle.std.proofs.lemmas.Bool.{eqb-true}
use Rattle.std.proofs.lemmas.Result.{err_from_is_err_and}
use Rattle.http_wire.specs.Reading.{AnswersRequest}
use Rattle.http_wire.specs.Taken.{HoldsMore, TakesHead}
use Rattle.http_wire.specs.declared.finding.HeadKind.TheVariants.{OfRequest}
use Rattle.http_wire.proofs.Answered.{request_after, request_stops, request_ended, request_none, some_held}
use Rattle.http_wire.proofs.wire.Wire.read_request.Goals as goal

pub returns-in_err-end : goal.returns-in_err-end
returns-in_err-end g c =
    let first = g.S.Source.source c.args.source.now in
    let now = g.S.Source.source c.take_head.new.source in
    let held = c.take_head.new.held.items in
    let p = err_from_is_err_and c.from_residual.result c.from_residual.ensures.1 in
    let stops = c.in_err-end.ensures in
    let more = subst (λ (l : List ℕ). HoldsMore first now l held) c.self.view_is stops.0 in
    subst (λ o. AnswersRequest first now c.args.self.now held o) (sym (p.1 ∙ ap Err p.2)) (request_stops first now c.args.self.now held held c.in_err-end.field-0.0 more stops.1)

pub take_request-requires : goal.take_request-requires
take_request-requires g c =
    let first = g.S.Source.source c.args.source.now in
    let now = g.S.Source.source c.take_head.new.source in
    let found = subst (λ (o : Option ℕ). TakesHead OfRequest first now c.self.inside.held.items c.take_head.new.held.items (Ok o)) c.in-Some.is c.in_ok-end.ensures in found.1

pub returns-in_err-take_request-in-Some : goal.returns-in_err-take_request-in-Some
returns-in_err-take_request-in-Some g c =
    let first = g.S.Source.source c.args.source.now in
    let mid = g.S.Source.source c.take_head.new.source in
    let now = g.S.Source.source c.take_request.new.source in
    let held = c.take_head.new.held.items in
    let found = subst (λ (o : Option ℕ). TakesHead OfRequest first mid c.self.inside.held.items held (Ok o)) c.in-Some.is c.in_ok-end.ensures in
    let more = subst (λ (l : List ℕ). HoldsMore first mid l held) c.self.view_is found.0 in
    let left = c.from_residual-in_err-take_request-in-Some in
    let p = err_from_is_err_and left.result left.ensures.1 in
    let fail = c.in_err-take_request-in-Some.field-0.0 in
    subst (λ o. AnswersRequest first now c.args.self.now c.take_request.new.held.items o) (sym (p.1 ∙ ap Err p.2))
    (request_after first mid now c.args.self.now held c.take_request.new.held.items (Err fail) more c.in_err-take_request-in-Some.ensures)

pub returns-in_ok-take_request-in-Some : goal.returns-in_ok-take_request-in-Some
returns-in_ok-take_request-in-Some g c =
    let first = g.S.Source.source c.args.source.now in
    let mid = g.S.Source.source c.take_head.new.source in
    let now = g.S.Source.source c.take_request.new.source in
    let held = c.take_head.new.held.items in
    let found = subst (λ (o : Option ℕ). TakesHead OfRequest first mid c.self.inside.held.items held (Ok o)) c.in-Some.is c.in_ok-end.ensures in
    let more = subst (λ (l : List ℕ). HoldsMore first mid l held) c.self.view_is found.0 in
    request_after first mid now c.args.self.now held c.take_request.new.held.items (Ok c.in_ok-take_request-in-Some.field-0) more c.in_ok-take_request-in-Some.ensures

pub returns-in-None : goal.returns-in-None
returns-in-None g c =
    let first = g.S.Source.source c.args.source.now in
    let now = g.S.Source.source c.take_head.new.source in
    let held = c.take_head.new.held.items in
    let ended = subst (λ (o : Option ℕ). TakesHead OfRequest first now c.self.inside.held.items held (Ok o)) c.in-None.is c.in_ok-end.ensures in
    let more = subst (λ (l : List ℕ). HoldsMore first now l held) c.self.view_is ended.0 in
    request_none first now c.args.self.now held more (eqb-true (length held) 0 (sym c.is_empty.ensures ∙ c.if-is_empty.true)) ended.2

pub returns-in-None-2 : goal.returns-in-None-2
returns-in-None-2 g c =
    let first = g.S.Source.source c.args.source.now in
    let now = g.S.Source.source c.take_head.new.source in
    let held = c.take_head.new.held.items in
    let ended = subst (λ (o : Option ℕ). TakesHead OfRequest first now c.self.inside.held.items held (Ok o)) c.in-None-2.is c.in_ok-end.ensures in
    let more = subst (λ (l : List ℕ). HoldsMore first now l held) c.self.view_is ended.0 in
    request_ended first now c.args.self.now held held more (some_held (length held) (sym c.is_empty.ensures ∙ c.if-is_empty.false)) ended.1 ended.2
