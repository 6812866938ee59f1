-- What an event shows under a key: the payload that a record of owner 0 opens to. Without a key no record opens.
use Rattle.std.specs.Prelude.{ℕ, List, Option, Some, None, cond, ◌==◌}
use Rattle.std.specs.Option.{option_map}
use Rattle.definitions.specs.Reading.{◌>>=◌}
use Rattle.payload_rules.specs.Payloads.{Payload}
use Rattle.payload_rules.specs.Reading.{payload_at}
use Rattle.record_rules.specs.Records.{SealedRecord, Event, Started, Local, Taken}
use Rattle.view_rules.specs.Changes.{Change, change_of}
use Rattle.record_seal.specs.Computing.{opened_payload}

-- the payload that the record holds under the key, if it opens under it and can be read
abbrev pub payload_under : Option (List ℕ) → SealedRecord → Option Payload
payload_under None r = None
payload_under (Some key) r = opened_payload key r >>= payload_at r.tag r.version

-- what was started shows nothing, nor does a record of another owner
abbrev pub shown_under : Option (List ℕ) → Event → Option Payload
shown_under key (Started s) = None
shown_under key (Local closes r) = payload_under key r
shown_under key (Taken owner r) = cond (owner == 0) (payload_under key r) None

-- the change that it makes in the views
abbrev pub change_under : Option (List ℕ) → Event → Option Change
change_under key (Started s) = None
change_under key (Local closes r) = option_map (change_of r) (shown_under key (Local closes r))
change_under key (Taken owner r) = option_map (change_of r) (shown_under key (Taken owner r))
