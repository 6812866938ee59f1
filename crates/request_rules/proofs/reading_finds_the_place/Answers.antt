use Rattle.request_rules.proofs.Requests.{reading_place}
use Rattle.request_rules.proofs.reading_finds_the_place.Goals as goal

pub returns : goal.returns
returns c = reading_place
