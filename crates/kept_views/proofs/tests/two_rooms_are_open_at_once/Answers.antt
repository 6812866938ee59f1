use Rattle.std.proofs.Common.{Option, Some, None}
use Rattle.payload_rules.specs.Payloads.{Payload, KvSet, AliasSet}
use Rattle.record_rules.specs.Records.{Event, Local}
use Rattle.record_model.specs.Seen.{record_seen}
use Rattle.kept_views.proofs.tests.two_rooms_are_open_at_once.Goals as goal

pub add_event-requires : goal.add_event-requires
add_event-requires g c = (Some (AliasSet c.in_ok-text-4.field-0 c.in_ok-text-5.field-0), record { place = tt; holds = c.in_ok-second.ensures.ready })

pub add_event-requires-2 : goal.add_event-requires-2
add_event-requires-2 g c =
    let event : Event = Local None (record_seen c.in_ok-rec-2.rec) in
    let pair : Option Payload = Some (KvSet c.in_ok-text.field-0 c.in_ok-text-2.field-0 c.in_ok-text-3.field-0) in
    (pair, c.add_event.ensures.rooms event pair c.in_ok-first.first (c.in_ok-second.ensures.rooms event pair c.in_ok-first.first (record { place = tt; holds = c.in_ok-first.ensures.ready })))
