use Rattle.payload_rules.proofs.Items.{bin_again, bin_takes}
use Rattle.payload_rules.proofs.payload_laws.bins_are_read_as_spelled.Goals as goal

pub returns-clause-read : goal.returns-clause-read
returns-clause-read c = bin_again

pub returns-clause-spelled : goal.returns-clause-spelled
returns-clause-spelled c bytes held rest are e = let t = bin_takes bytes held rest are e in (t.0, t.1, t.2.parts)
