-- Which word of the definitions a type stands for.
use Rattle.std.specs.Prelude.{ℕ, ◌+◌, List, length, map, Option, Some, None}
use Rattle.definitions.specs.Calls.{SearchMode, by_prefix, by_substring}
use Rattle.definitions.specs.Journal.{StartedRecord, HistoryRecord}
use Rattle.record_rules.specs.Journal.{ChainCount}
use Rattle.record_rules.specs.Records as kept
use Rattle.record_model.specs.declared.asking.Mode.{Mode}
use Rattle.record_model.specs.declared.asking.Mode.TheVariants.{Prefix, Substring}
use Rattle.record_model.specs.declared.begun.Started.{Started}
use Rattle.record_model.specs.declared.ended.History.{History}
use Rattle.record_model.specs.declared.entries.Caller.{Caller}
use Rattle.record_model.specs.declared.entries.Entry.{Entry}
use Rattle.record_model.specs.declared.entries.Event.{Event}
use Rattle.record_model.specs.declared.entries.Event.TheVariants as events
use Rattle.record_model.specs.declared.places.Chain.{Chain}
use Rattle.record_model.specs.declared.sealed.Record.{Record}

-- ---- commands

abbrev pub started_seen : Started → StartedRecord
started_seen s = record { id = s.id; timestamp = s.timestamp; command = s.command; cwd = s.cwd; session = s.session; hostname = s.hostname }

abbrev pub history_seen : History → HistoryRecord
history_seen h =
    record { id = h.id; timestamp = h.timestamp; duration = h.duration; exit = h.exit; command = h.command; cwd = h.cwd; session = h.session; hostname = h.hostname; deleted_at = h.deleted_at; author = h.author }

abbrev pub histories_seen : List History → List HistoryRecord
histories_seen hs = map history_seen hs

-- the bytes of an author, none where nobody told
abbrev pub author_bytes : Option (List ℕ) → ℕ
author_bytes None = 0
author_bytes (Some author) = length author

-- the bytes of all texts of a command that ended
abbrev pub history_bytes : History → ℕ
history_bytes h = length h.command + length h.cwd + length h.session + length h.hostname + author_bytes h.author

-- ---- records and entries

abbrev pub record_seen : Record → kept.SealedRecord
record_seen r = record { id = r.id; idx = r.idx; host = r.host; host_name = r.host_name; timestamp = r.timestamp; version = r.version; tag = r.tag; sealed = r.sealed; wrapped = r.wrapped }

abbrev pub records_seen : List Record → List kept.SealedRecord
records_seen records = map record_seen records

abbrev pub caller_seen : Caller → kept.Caller
caller_seen c = record { number = c.number; call = c.call; settled_for = c.settled_for }

abbrev pub event_seen : Event → kept.Event
event_seen (events.Started s) = kept.Started (started_seen s)
event_seen (events.Local r closes) = kept.Local closes (record_seen r)
event_seen (events.Taken owner r) = kept.Taken owner (record_seen r)

abbrev pub events_seen : List Event → List kept.Event
events_seen all = map event_seen all

abbrev pub entry_seen : Entry → kept.Entry
entry_seen e = record { caller = caller_seen e.caller; event = event_seen e.event }

-- ---- chains

abbrev pub chain_seen : Chain → ChainCount
chain_seen c = record { host = c.host; tag = c.tag; count = c.count }

abbrev pub chains_seen : List Chain → List ChainCount
chains_seen chains = map chain_seen chains

-- ---- searches

abbrev pub mode_seen : Mode → SearchMode
mode_seen Prefix = by_prefix
mode_seen Substring = by_substring
