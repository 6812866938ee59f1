-- The disk of a store that passes shared.
use Rattle.std.specs.Prelude.{◌≡◌, ◌≢◌, []}
use Rattle.session_rules.specs.Passes.{Pass}
use Rattle.session_rules.specs.Books.{Finds}
use Rattle.session_rules.specs.Stores.{StoreState}
use Rattle.at_edge.specs.Storing.{DiskSeen, Tells}
use Rattle.told_store.specs.Told.{HoldsEntries, DoubtsEntries}
use Rattle.shared_store.specs.Books.{host_of}
use Rattle.shared_store.specs.Turns.{book_at}

-- The pass finds the store so at its end: what it had seen begins the journal, and no fewer faults were counted. Where the disk tells what it
-- holds, that is the log of this journal, or of it and of a commit in doubt behind it, which a crash may or may not leave.
pub record ClosesWith (pass : Pass) (disk : DiskSeen) : Type 0 where
  pub state : StoreState
  pub finds : Finds pass (book_at pass state)
  pub counted : state.faults ≡ disk.faults
  pub holds : state.doubt ≡ [] → Tells disk (HoldsEntries (host_of pass.fixed) state.entries)
  pub doubts : state.doubt ≢ [] → Tells disk (DoubtsEntries (host_of pass.fixed) state.entries state.doubt)
