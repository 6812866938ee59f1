use Rattle.std.proofs.Common.{[], length, take, arith}
use Rattle.httparse.specs.Grammar.{HasNoResponse}
use Rattle.httparse.specs.Spans.{IsResponseWithin, IsResponseAt}
use Rattle.http_wire.proofs.Announcing.{within_more, response_parts}
use Rattle.http_wire.proofs.Found.{response_fits, no_response}
use Rattle.http_wire.proofs.announced.read_response_head.Goals as goal

pub announced_response-requires : goal.announced_response-requires
announced_response-requires c =
    let found = c.in-Ok-Complete.found in
    let within : IsResponseWithin c.args.head.now c.parse_response.new.headers c.in-Ok-Complete.found = rw c.in-Ok-Complete.field-0-is at c.in-Ok-Complete.ensures.within in
    let section = within.section in
    within_more found.len (length c.args.head.now) (take found.headers c.parse_response.new.headers) section.len_fits section.headers_fit

pub unreachable-requires : goal.unreachable-requires
unreachable-requires c =
    let none : HasNoResponse c.args.head.now = rw c.in-Ok-Partial.field-0-is at c.in-Ok-Partial.ensures.partial in none c.requires.whole.0 [] c.requires.whole.1

pub unreachable-requires-in-Err : goal.unreachable-requires-in-Err
unreachable-requires-in-Err c = no_response c.args.head.now c.requires.lines c.in-Err.ensures.no_room c.requires.whole.0 [] c.requires.whole.1

pub returns : goal.returns
returns c = λ told reads.
    let fits = response_fits c.args.head.now told [] reads in
    let lines = c.requires.lines in
    let at : IsResponseAt c.args.head.now c.parse_response.new.headers c.in-Ok-Complete.found told = rw c.in-Ok-Complete.field-0-is at (c.in-Ok-Complete.ensures.found told [] reads (omega (arith, fits, lines))) in
    c.announced_response.ensures told (response_parts c.args.head.now c.parse_response.new.headers c.in-Ok-Complete.found told at)
