use Rattle.view_rules.proofs.Records.{own_places}
use Rattle.view_rules.proofs.view_laws.sound_journals_have_distinct_places.Goals as goal

pub returns : goal.returns
returns c = own_places
