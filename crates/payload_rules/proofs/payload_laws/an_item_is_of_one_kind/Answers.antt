use Rattle.payload_rules.proofs.Items.{one_item}
use Rattle.payload_rules.proofs.payload_laws.an_item_is_of_one_kind.Goals as goal

pub returns : goal.returns
returns c = one_item
