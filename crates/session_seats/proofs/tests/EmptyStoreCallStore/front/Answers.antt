use Rattle.session_seats.proofs.EmptyStores.{front_is_none}
use Rattle.session_seats.proofs.tests.EmptyStoreCallStore.front.Goals as goal

pub returns : goal.returns
returns c = front_is_none
