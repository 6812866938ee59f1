use Rattle.std.proofs.Common.{rules, append_assoc}
use Rattle.daemon_wire.proofs.hits.put_hit_numbers.Goals as goal

pub returns-clause-ok : goal.returns-clause-ok
returns-clause-ok c = search (rules, append_assoc)
