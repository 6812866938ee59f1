use Rattle.std.proofs.Common.{[], IsUtf8, sym, subst, length, take, arith}
use Rattle.httparse.specs.Grammar.{HasNoRequest}
use Rattle.httparse.specs.Spans.{IsRequestWithin, IsRequestOf, IsRequestAt}
use Rattle.http_wire.proofs.Announcing.{token_text, within_more, request_parts}
use Rattle.http_wire.proofs.Found.{request_fits, no_request}
use Rattle.http_wire.proofs.announced.read_request_head.Goals as goal

pub announced_request-requires-clause-method : goal.announced_request-requires-clause-method
announced_request-requires-clause-method c =
    let within : IsRequestWithin c.args.head.now c.parse_request.new.headers c.in-Ok-Complete.found = rw c.in-Ok-Complete.field-0-is at c.in-Ok-Complete.ensures.within in
    let last = within.method.1 in
    let fits = within.section.len_fits in (within.method.0, omega (arith, last, fits))

pub announced_request-requires-clause-method_text : goal.announced_request-requires-clause-method_text
announced_request-requires-clause-method_text c =
    let of : IsRequestOf c.args.head.now c.parse_request.new.headers c.in-Ok-Complete.found = rw c.in-Ok-Complete.field-0-is at c.in-Ok-Complete.ensures.complete in
    subst IsUtf8 (sym of.1.method) (token_text of.0.method of.1.reads.0.method)

pub announced_request-requires-clause-target : goal.announced_request-requires-clause-target
announced_request-requires-clause-target c =
    let within : IsRequestWithin c.args.head.now c.parse_request.new.headers c.in-Ok-Complete.found = rw c.in-Ok-Complete.field-0-is at c.in-Ok-Complete.ensures.within in
    let last = within.path.1 in
    let fits = within.section.len_fits in (within.path.0, omega (arith, last, fits))

pub announced_request-requires-clause-target_text : goal.announced_request-requires-clause-target_text
announced_request-requires-clause-target_text c =
    let of : IsRequestOf c.args.head.now c.parse_request.new.headers c.in-Ok-Complete.found = rw c.in-Ok-Complete.field-0-is at c.in-Ok-Complete.ensures.complete in
    subst IsUtf8 (sym of.1.path) of.1.reads.0.target_text

pub announced_request-requires-clause-fields : goal.announced_request-requires-clause-fields
announced_request-requires-clause-fields c =
    let found = c.in-Ok-Complete.found in
    let within : IsRequestWithin c.args.head.now c.parse_request.new.headers c.in-Ok-Complete.found = rw c.in-Ok-Complete.field-0-is at c.in-Ok-Complete.ensures.within in
    let section = within.section in
    within_more found.len (length c.args.head.now) (take found.headers c.parse_request.new.headers) section.len_fits section.headers_fit

pub unreachable-requires : goal.unreachable-requires
unreachable-requires c =
    let none : HasNoRequest c.args.head.now = rw c.in-Ok-Partial.field-0-is at c.in-Ok-Partial.ensures.partial in none c.requires.whole.0 [] c.requires.whole.1

pub unreachable-requires-in-Err : goal.unreachable-requires-in-Err
unreachable-requires-in-Err c = no_request c.args.head.now c.requires.lines c.in-Err.ensures.no_room c.requires.whole.0 [] c.requires.whole.1

pub returns : goal.returns
returns c = λ told reads.
    let fits = request_fits c.args.head.now told [] reads in
    let lines = c.requires.lines in
    let at : IsRequestAt c.args.head.now c.parse_request.new.headers c.in-Ok-Complete.found told = rw c.in-Ok-Complete.field-0-is at (c.in-Ok-Complete.ensures.found told [] reads (omega (arith, fits, lines))) in
    c.announced_request.ensures told (request_parts c.args.head.now c.parse_request.new.headers c.in-Ok-Complete.found told at)
