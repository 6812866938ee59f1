-- What a session sees of a store that nobody else has.
use Rattle.std.specs.Prelude.{true, Some}
use Rattle.std.specs.Option.{is_some}
use Rattle.session_seats.specs.Stores.{StoreFixed, StoreSeen}
use Rattle.store_core.specs.Store as core
use Rattle.told_store.specs.Told.{ToldSeen, keyed_by}

-- its calls are those of pass 1
abbrev pub lone_fixed : core.StoreSeen → StoreFixed
lone_fixed store = record { keyed = keyed_by store; has_key = is_some store.key; number = 1; alone = true }

-- it tells of its turns, and of what its disk went through
abbrev pub lone_seen : ToldSeen → StoreSeen
lone_seen told = record {
  fixed = lone_fixed told.store;
  state = told.note.state;
  turns = Some told.note.turns;
  history = told.store.log.disk.history;
}
