use Rattle.record_rules.proofs.OneMore.{own_with_one, chain_with_one, running_with_one, held_with_one, count_with_one}
use Rattle.record_rules.proofs.one_more_entry.Goals as goal

pub returns-clause-own : goal.returns-clause-own
returns-clause-own c = own_with_one

pub returns-clause-chain : goal.returns-clause-chain
returns-clause-chain c = chain_with_one

pub returns-clause-running : goal.returns-clause-running
returns-clause-running c = running_with_one

pub returns-clause-held : goal.returns-clause-held
returns-clause-held c = held_with_one

pub returns-clause-count : goal.returns-clause-count
returns-clause-count c = count_with_one
