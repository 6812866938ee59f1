-- The entries of a log that is opened. A log doesn't say whose calls its entries came by.
use Rattle.std.specs.Prelude.{List, map}
use Rattle.record_rules.specs.Records.{Event, Entry}

-- an event as an entry of no call
abbrev pub opened_entry : Event → Entry
opened_entry event = record { caller = record { number = 0; call = 0; settled_for = 0 }; event = event }

-- the journal that these events are at opening
abbrev pub opened_journal : List Event → List Entry
opened_journal events = map opened_entry events
