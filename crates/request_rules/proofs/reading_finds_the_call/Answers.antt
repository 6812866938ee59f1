use Rattle.request_rules.proofs.Requests.{reading_call}
use Rattle.request_rules.proofs.reading_finds_the_call.Goals as goal

pub returns : goal.returns
returns c = reading_call
