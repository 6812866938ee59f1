use Rattle.std.proofs.Common.{ap}
use Rattle.record_model.specs.Seen.{chains_seen}
use Rattle.session_seats.proofs.EmptyStores.{wants_always, status_answered, few_places, end_answered}
use Rattle.session_seats.proofs.tests.EmptyStoreCallStore.ask.Goals as goal

pub returns-in-Status-clause-answers : goal.returns-in-Status-clause-answers
returns-in-Status-clause-answers g c = status_answered _ _ _ _ _ c.in-Status.is (ap chains_seen c.no_chains.ensures)

pub returns-in-Status-clause-within : goal.returns-in-Status-clause-within
returns-in-Status-clause-within g c = few_places _ (ap chains_seen c.no_chains.ensures)

pub returns-in-None-clause-answers : goal.returns-in-None-clause-answers
returns-in-None-clause-answers g c = end_answered _ _ _ _ _ _ _ _ _ c.now-now.result c.in-End.is c.in-None.is c.now-now.type_inv c.now-now.ensures

pub returns-in-Some-clause-answers : goal.returns-in-Some-clause-answers
returns-in-Some-clause-answers g c = wants_always _ _ _ _

pub returns-in_default-clause-answers : goal.returns-in_default-clause-answers
returns-in_default-clause-answers g c = wants_always _ _ _ _
