-- A store for the tests: it has no entries, and never gets any.
use Rattle.std.specs.Prelude.{[], None, true}
use Rattle.step_rules.specs.Store.{KeyedStore}
use Rattle.session_rules.specs.Stores.{StoreState}
use Rattle.session_seats.specs.Stores.{StoreSeen}

-- it opens nothing
abbrev pub blind_store : KeyedStore
blind_store = record { host = 0; seal = λ head payload random. record { sealed = []; wrapped = [] }; weight_of = λ payload. 0; opens = λ r. None }

abbrev pub empty_state : StoreState
empty_state = record { entries = []; doubt = []; faults = 0 }

abbrev pub empty_store : StoreSeen
empty_store = record { fixed = record { keyed = blind_store; has_key = true; number = 1; alone = true }; state = empty_state; turns = None; history = None }
