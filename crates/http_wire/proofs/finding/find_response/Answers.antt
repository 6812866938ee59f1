use Rattle.http_wire.proofs.Found.{no_response}
use Rattle.http_wire.proofs.finding.find_response.Goals as goal

pub returns-in-Err-TooManyHeaders : goal.returns-in-Err-TooManyHeaders
returns-in-Err-TooManyHeaders c = no_response c.args.front.now c.requires c.in-Err-TooManyHeaders.ensures.no_room
