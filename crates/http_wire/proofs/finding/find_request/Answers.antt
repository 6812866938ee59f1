use Rattle.http_wire.proofs.Found.{no_request}
use Rattle.http_wire.proofs.finding.find_request.Goals as goal

pub returns-in-Err-TooManyHeaders : goal.returns-in-Err-TooManyHeaders
returns-in-Err-TooManyHeaders c = no_request c.args.front.now c.requires c.in-Err-TooManyHeaders.ensures.no_room
