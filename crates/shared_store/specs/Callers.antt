-- What a session sees of a store that it shares.
use Rattle.std.specs.Prelude.{false, [], Some, None}
use Rattle.session_rules.specs.Passes.{Pass}
use Rattle.session_seats.specs.Stores.{StoreFixed, StoreSeen}
use Rattle.shared_store.specs.Books.{keyed_by, has_key}

-- its calls are those of the pass, and others have turns too
abbrev pub shared_fixed : Pass → StoreFixed
shared_fixed pass = record { keyed = keyed_by pass.fixed; has_key = has_key pass.fixed; number = pass.number; alone = false }

-- what the pass has seen, and its turns; what is in doubt, and what the disk went through, isn't told of a store that others have too
abbrev pub shared_seen : Pass → StoreSeen
shared_seen pass = record {
  fixed = shared_fixed pass;
  state = record { entries = pass.seen; doubt = []; faults = pass.faults };
  turns = Some pass.turns;
  history = None;
}
