-- What a note says of a store.
use Rattle.std.specs.Prelude.{List}
use Rattle.session_rules.specs.Passes.{TurnItem}
use Rattle.session_rules.specs.Stores.{StoreState}

-- the store as the last turn left it, and the turns so far
pub record StoreNote : Type 0 where
  pub state : StoreState
  pub turns : List TurnItem
