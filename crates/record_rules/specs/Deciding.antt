-- Whether events may come next, told by computing.
use Rattle.std.specs.Prelude.{ℕ, ◌&&◌, not, ◌==◌, nat_le, Bool, true, false, List, [], ◌∷◌, ◌++◌, length, Option, Some, None}
use Rattle.std.specs.List.{list_any}
use Rattle.std.specs.Option.{is_none}
use Rattle.definitions.specs.Journal.{StartedRecord}
use Rattle.definitions.specs.Limits.{most_value_bytes, most_name_bytes, most_tag_bytes, most_page_weight}
use Rattle.record_rules.specs.Records.{SealedRecord, Event, Started, Local, Taken, record_weight, event_weight}
use Rattle.record_rules.specs.Journal.{event_owner, event_place, own_of, chain_of, limit_passed, is_running}

-- whether texts and weights are within their limits
abbrev pub record_fits : SealedRecord → Bool
record_fits r = nat_le (length r.host_name) most_name_bytes && (nat_le (length r.version) most_tag_bytes && (nat_le (length r.tag) most_tag_bytes && nat_le (record_weight r) most_page_weight))

abbrev pub started_fits : StartedRecord → Bool
started_fits s = nat_le (length s.command) most_value_bytes && (nat_le (length s.cwd) most_name_bytes && (nat_le (length s.session) most_name_bytes && nat_le (length s.hostname) most_name_bytes))

-- whether a command with that id was started
abbrev pub starts_id : ℕ → Event → Bool
starts_id id (Started s) = s.id == id
starts_id id (Local closes r) = false
starts_id id (Taken owner r) = false

abbrev pub was_started : ℕ → List Event → Bool
was_started id events = list_any (starts_id id) events

-- whether the record is the next of its chain
abbrev pub is_next : List Event → ℕ → SealedRecord → Bool
is_next events owner r = r.idx == length (chain_of events owner r.host r.tag)

-- whether the id that is closed, if there is one, is running
abbrev pub closes_running : List Event → Option ℕ → Bool
closes_running events None = true
closes_running events (Some id) = is_running id events

-- whether what the event says may be said behind these events
abbrev pub may_be_said : List Event → (host : ℕ) → Event → Bool
may_be_said events host (Started s) = not (was_started s.id events) && started_fits s
may_be_said events host (Local closes r) = is_next events 0 r && (r.host == host && (closes_running events closes && record_fits r))
may_be_said events host (Taken owner r) = is_next events owner r && record_fits r

-- whether its owner has room for it
abbrev pub has_room : List Event → Event → Bool
has_room events event = is_none (limit_passed (own_of events (event_owner event)) (event_weight event) (event_place event))

-- whether the event may be the next one
abbrev pub may_come : List Event → (host : ℕ) → Event → Bool
may_come events host event = has_room events event && may_be_said events host event

-- whether events may come next, one behind the other
abbrev pub may_all_come : List Event → (host : ℕ) → List Event → Bool
may_all_come before host [] = true
may_all_come before host (event ∷ events) = may_come before host event && may_all_come (before ++ event ∷ []) host events
