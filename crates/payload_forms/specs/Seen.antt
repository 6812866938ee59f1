-- Which word of the definitions a payload stands for, and what a read of it tells.
use Rattle.std.specs.Prelude.{◌≡◌, ℕ, List, Option, Some, None, Result, Ok, Err}
use Rattle.payload_rules.specs.Payloads as rules
use Rattle.record_model.specs.Seen.{history_seen}
use Rattle.payload_forms.specs.declared.kinds.Payload.{Payload}
use Rattle.payload_forms.specs.declared.kinds.Payload.TheVariants as payloads
use Rattle.payload_forms.specs.Reading.{Numbers}
use Rattle.payload_forms.specs.declared.commands.CommandNumbers.{CommandNumbers}
use Rattle.payload_forms.specs.declared.items.Version.{Version}
use Rattle.payload_forms.specs.declared.items.Version.TheVariants as versions
use Rattle.payload_forms.specs.declared.kinds.PayloadFail.{PayloadFail}
use Rattle.payload_forms.specs.declared.kinds.PayloadFail.TheVariants as fails

abbrev pub payload_seen : Payload → rules.Payload
payload_seen (payloads.HistoryCreate h) = rules.HistoryCreate (history_seen h)
payload_seen (payloads.HistoryDelete id) = rules.HistoryDelete id
payload_seen (payloads.KvSet namespace key value) = rules.KvSet namespace key value
payload_seen (payloads.KvDelete namespace key) = rules.KvDelete namespace key
payload_seen (payloads.AliasSet name value) = rules.AliasSet name value
payload_seen (payloads.AliasDelete name) = rules.AliasDelete name

abbrev pub numbers_seen : CommandNumbers → Numbers
numbers_seen n = (n.id, (n.timestamp, (n.duration, n.exit)))

abbrev pub version_seen : Version → rules.Version
version_seen versions.V0 = rules.version_0
version_seen versions.V1 = rules.version_1

-- the number in a version's name
abbrev pub version_number : rules.Version → ℕ
version_number rules.version_0 = 0
version_number rules.version_1 = 1

-- What a read tells, seen by `view`: the value that reading from the left gives of the bytes that were left, with the
-- bytes that are left now, or, where it is unread, that reading gives none.
abbrev pub Gives : {X Y : Type 0} → (X → Y) → List ℕ → Result X PayloadFail → Option (Y × List ℕ) → Type 0
Gives view rest (Ok x) read = read ≡ Some (view x, rest)
Gives view rest (Err e) read = e ≡ fails.Unread → read ≡ None

-- the same of a read to the last byte
abbrev pub GivesWhole : {X Y : Type 0} → (X → Y) → Result X PayloadFail → Option Y → Type 0
GivesWhole view (Ok x) read = read ≡ Some (view x)
GivesWhole view (Err e) read = e ≡ fails.Unread → read ≡ None
