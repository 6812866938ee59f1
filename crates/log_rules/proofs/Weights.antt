-- How many bytes an event has.
use Rattle.std.proofs.Common.{◌≡◌, ℕ, ◌+◌, ◌-◌, ◌<◌, ◌≤◌, ◌^◌, List, [], ◌∷◌, ◌++◌, length, Option, Some, None, ◌∙◌, arith, length-append}
use Rattle.std.specs.Prelude.{sum_by}
use Rattle.std.specs.List.{flat_map, AllByRecursion}
use Rattle.std.proofs.lemmas.List.Sums.{sum_by-cons}
use Rattle.std.specs.Int.{w32, w64, w128, to_be_bytes}
use Rattle.definitions.specs.Journal.{StartedRecord}
use Rattle.record_rules.specs.Records.{SealedRecord, Event, Started, Local, Taken, event_weight}
use Rattle.log_rules.specs.Body.{HasEventBytes, text_bytes, record_bytes, started_bytes, closes_bytes, event_bytes, IsBatch}

-- one text behind other bytes
with_text : (bytes text : List ℕ) → length (bytes ++ text_bytes text) ≡ length bytes + (4 + length text)
with_text bytes text = length-append bytes (text_bytes text) ∙ omega (arith, length-append (to_be_bytes w32 (length text)) text)

record_length : (r : SealedRecord) → length (record_bytes r) ≡ 68 + (length r.host_name + length r.version + length r.tag + length r.sealed + length r.wrapped)
record_length r =
    let numbers = to_be_bytes w128 r.id ++ to_be_bytes w64 r.idx ++ to_be_bytes w128 r.host in
    let name = numbers ++ text_bytes r.host_name in
    let time = name ++ to_be_bytes w64 r.timestamp in
    let version = time ++ text_bytes r.version in
    let tag = version ++ text_bytes r.tag in
    let sealed = tag ++ text_bytes r.sealed in
    omega (arith, with_text numbers r.host_name, length-append name (to_be_bytes w64 r.timestamp), with_text time r.version, with_text version r.tag, with_text tag r.sealed, with_text sealed r.wrapped)

started_length : (s : StartedRecord) → length (started_bytes s) ≡ 40 + (length s.command + length s.cwd + length s.session + length s.hostname)
started_length s =
    let numbers = to_be_bytes w128 s.id ++ to_be_bytes w64 s.timestamp in
    let command = numbers ++ text_bytes s.command in
    let cwd = command ++ text_bytes s.cwd in
    let session = cwd ++ text_bytes s.session in
    omega (arith, with_text numbers s.command, with_text command s.cwd, with_text cwd s.session, with_text session s.hostname)

closes_length : (closes : Option ℕ) → length (closes_bytes closes) ≤ 17
closes_length None = omega arith
closes_length (Some id) = omega arith

pub events_weigh_their_bytes : (event : Event) → length (event_bytes event) ≤ event_weight event
events_weigh_their_bytes (Started s) = omega (arith, started_length s)
events_weigh_their_bytes (Local closes r) = omega (arith, record_length r, closes_length closes, length-append (closes_bytes closes) (record_bytes r))
events_weigh_their_bytes (Taken owner r) = omega (arith, record_length r, length-append (to_be_bytes w32 owner) (record_bytes r))

all_weigh : (events : List Event) → length (flat_map event_bytes events) ≤ sum_by event_weight events
all_weigh [] = omega arith
all_weigh (event ∷ events) = omega (arith, sum_by-cons event_weight event events, events_weigh_their_bytes event, all_weigh events, length-append (event_bytes event) (flat_map event_bytes events))

pub light_events_are_a_batch : (events : List Event) → 1 ≤ length events → length events ≤ 100 → AllByRecursion HasEventBytes events → sum_by event_weight events < 2 ^ 32 - 4 → IsBatch events
light_events_are_a_batch events some few each light = record {
  some = some;
  few = few;
  each = each;
  body = omega (arith, light, all_weigh events, length-append (to_be_bytes w32 (length events)) (flat_map event_bytes events));
}
