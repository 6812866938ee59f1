use Rattle.record_rules.proofs.OneMore.{fresh_with_one, fresh_of_with_one, wanted_with_one}
use Rattle.record_rules.proofs.one_more_record.Goals as goal

pub returns-clause-fresh : goal.returns-clause-fresh
returns-clause-fresh c = fresh_with_one

pub returns-clause-fresh_of : goal.returns-clause-fresh_of
returns-clause-fresh_of c = fresh_of_with_one

pub returns-clause-wanted : goal.returns-clause-wanted
returns-clause-wanted c = wanted_with_one
