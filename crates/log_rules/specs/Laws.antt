-- The laws of bodies and logs, as statements. Each is the contract of the function of its name.
use Rattle.std.specs.Prelude.{◌≡◌, ◌≢◌, ◌↔◌, ℕ, ◌<◌, ◌≤◌, ◌-◌, ◌^◌, List, ◌∷◌, ◌++◌, length, take, drop, sum_by, Some, None, Ok, Err}
use Rattle.std.specs.List.{AllByRecursion}
use Rattle.byteorder.specs.Endian.{big_number}
use Rattle.definitions.specs.Spelling.{IsBytes}
use Rattle.record_rules.specs.Records.{Entry, Event, event_weight}
use Rattle.record_rules.specs.Journal.{events_of, Sound}
use Rattle.log_rules.specs.Body.{HasEventBytes, event_bytes, body_bytes, IsBatch}
use Rattle.log_rules.specs.Reading.{Reading, Wrong, with_more, event_at, body_at, BodyWrongAt}
use Rattle.log_rules.specs.Contents.{Contents, LogOf, log_at, HoldContents, store_journal, callers_of}
use Rattle.log_rules.specs.Opened.{opened_journal}
use Rattle.log_rules.specs.Spots.{Spot, BatchAt, EventAt}
use Rattle.log_rules.specs.Log.{Form, payload_bytes, batch_bytes, IsLogPrefix, StandsFor, HasHeader, HasNoHeader, header_fault, DamagedAt}

-- bytes begin with the spelling of at most one event
abbrev pub OneEventBegins : Type 0
OneEventBegins = (event other : Event) (rest more : List ℕ) → HasEventBytes event → HasEventBytes other → event_bytes event ++ rest ≡ event_bytes other ++ more → (event ≡ other) × (rest ≡ more)

-- and with at most one body
abbrev pub OneBodyBegins : Type 0
OneBodyBegins = (events others : List Event) (rest more : List ℕ) → IsBatch events → IsBatch others → body_bytes events ++ rest ≡ body_bytes others ++ more → (events ≡ others) × (rest ≡ more)

-- bytes stand for at most one host and one list of events
abbrev pub OneJournalStands : Type 0
OneJournalStands = (form : Form) (bytes : List ℕ) (host other : ℕ) (journal another : List Entry) → StandsFor form bytes host journal → StandsFor form bytes other another → (host ≡ other) × (events_of journal ≡ events_of another)

-- behind the prefix of a journal, one more sound batch with its gate open and a closed gate: the journal with that batch
abbrev pub OpenGateAdds : Type 0
OpenGateAdds = (form : Form) (prefix behind : List ℕ) (host gate : ℕ) (journal more : List Entry) → IsLogPrefix form prefix host (events_of journal) → IsBatch (events_of more) → Sound (journal ++ more) host → gate ≢ 0
    → StandsFor form (prefix ++ batch_bytes form (length prefix) (record { gate = gate; events = events_of more }) ++ 0 ∷ behind) host (journal ++ more)

-- with its gate closed, whatever is behind: the journal alone
abbrev pub ClosedGateHides : Type 0
ClosedGateHides = (form : Form) (prefix behind : List ℕ) (host : ℕ) (journal : List Entry) (events : List Event) → IsLogPrefix form prefix host (events_of journal) → Sound journal host
    → StandsFor form (prefix ++ batch_bytes form (length prefix) (record { gate = 0; events = events }) ++ behind) host journal

-- no bytes are two of: the log of a journal, no log, and damaged at an offset; nor damaged at two
abbrev pub StandingIsALog : Type 0
StandingIsALog = (form : Form) (bytes : List ℕ) (host : ℕ) (journal : List Entry) → StandsFor form bytes host journal → HasNoHeader form bytes → ⊥

abbrev pub StandingIsWhole : Type 0
StandingIsWhole = (form : Form) (bytes : List ℕ) (host offset : ℕ) (journal : List Entry) → StandsFor form bytes host journal → DamagedAt form bytes offset → ⊥

abbrev pub DamagedIsALog : Type 0
DamagedIsALog = (form : Form) (bytes : List ℕ) (offset : ℕ) → DamagedAt form bytes offset → HasNoHeader form bytes → ⊥

abbrev pub DamagedAtOne : Type 0
DamagedAtOne = (form : Form) (bytes : List ℕ) (offset other : ℕ) → DamagedAt form bytes offset → DamagedAt form bytes other → offset ≡ other

-- where an item of the header can't be read, the bytes are no log
abbrev pub FaultyHeader : Type 0
FaultyHeader = (form : Form) (bytes : List ℕ) (place : ℕ) → header_fault form bytes ≡ Some place → HasNoHeader form bytes

-- and where bytes stand for a journal, each item can be read
abbrev pub StandingHeader : Type 0
StandingHeader = (form : Form) (bytes : List ℕ) (host : ℕ) (journal : List Entry) → StandsFor form bytes host journal → header_fault form bytes ≡ None

-- and they have the header of that host; so do damaged ones of some host
abbrev pub StandingHasHeader : Type 0
StandingHasHeader = (form : Form) (bytes : List ℕ) (host : ℕ) (journal : List Entry) → StandsFor form bytes host journal → HasHeader form bytes host

abbrev pub DamagedHasHeader : Type 0
DamagedHasHeader = (form : Form) (bytes : List ℕ) (offset : ℕ) → (damaged : DamagedAt form bytes offset) → HasHeader form bytes damaged.host

-- where each item of a header can be read, there is one, of the host that its bytes are
abbrev pub ReadHeader : Type 0
ReadHeader = (form : Form) (bytes : List ℕ) → IsBytes bytes → header_fault form bytes ≡ None → HasHeader form bytes (big_number 16 (take 16 (drop 8 bytes)))

-- bytes with a header in one form have none in a form with another digit
abbrev pub FormsApart : Type 0
FormsApart = (form other : Form) (bytes : List ℕ) (host : ℕ) → form.digit ≢ other.digit → HasHeader form bytes host → HasNoHeader other bytes

-- ---- spots

-- at a spot there stands at most one batch
abbrev pub OneBatchAt : Type 0
OneBatchAt = (form : Form) (bytes : List ℕ) (spot : Spot) (events others : List Event) → BatchAt form bytes spot events → BatchAt form bytes spot others → events ≡ others

-- and at a place in it at most one event
abbrev pub OneEventAt : Type 0
OneEventAt = (form : Form) (bytes : List ℕ) (spot : Spot) (at : ℕ) (event other : Event) → EventAt form bytes spot at event → EventAt form bytes spot at other → event ≡ other

-- bytes that are longer keep what stands at a spot
abbrev pub LongerKeepsBatch : Type 0
LongerKeepsBatch = (form : Form) (bytes more : List ℕ) (spot : Spot) (events : List Event) → BatchAt form bytes spot events → BatchAt form (bytes ++ more) spot events

-- ---- weights

-- an event weighs no less than its bytes
abbrev pub EventsWeighTheirBytes : Type 0
EventsWeighTheirBytes = (event : Event) → length (event_bytes event) ≤ event_weight event

-- so events that weigh little together are a batch, as those of a page
abbrev pub LightEventsAreABatch : Type 0
LightEventsAreABatch = (events : List Event) → 1 ≤ length events → length events ≤ 100 → AllByRecursion HasEventBytes events → sum_by event_weight events < 2 ^ 32 - 4 → IsBatch events

-- ---- what makes a batch bad

-- where the journal with it isn't sound, a batch is damaged, whatever its bytes
abbrev pub UnsoundIsDamaged : Type 0
UnsoundIsDamaged = (form : Form) (prefix rest behind : List ℕ) (host gate : ℕ) (before events : List Event) → IsLogPrefix form prefix host before → Sound (opened_journal before) host → gate ≢ 0 → IsBatch events
    → rest ≡ payload_bytes form (length prefix) events ++ behind → (Sound (opened_journal (before ++ events)) host → ⊥) → DamagedAt form (prefix ++ gate ∷ rest) (length prefix)

-- ---- reading a body

-- what is read is a batch of which these bytes are the body
abbrev pub ReadBody : Type 0
ReadBody = (bytes : List ℕ) (events : List Event) → IsBytes bytes → length bytes < 2 ^ 32 → body_at bytes ≡ Ok events → IsBatch events × (bytes ≡ body_bytes events)

-- and each batch's body is read
abbrev pub BodyIsRead : Type 0
BodyIsRead = (events : List Event) → IsBatch events → body_at (body_bytes events) ≡ Ok events

-- while a body comes in pieces: what was read stays so, and what was wrong
abbrev pub EventStaysRead : Type 0
EventStaysRead = (r next : Reading) (more : List ℕ) (event : Event) → event_at r ≡ Ok (event, next) → event_at (with_more r more) ≡ Ok (event, with_more next more)

abbrev pub EventStaysWrong : Type 0
EventStaysWrong = (r : Reading) (more : List ℕ) (place : ℕ) → event_at r ≡ Err (Wrong place) → event_at (with_more r more) ≡ Err (Wrong place)

-- a body whose first field that can't be read stands at an offset is that of no batch
abbrev pub WrongIsNoBody : Type 0
WrongIsNoBody = (bytes : List ℕ) (place : ℕ) (events : List Event) → BodyWrongAt bytes place → IsBatch events → bytes ≡ body_bytes events → ⊥

-- ---- what computing finds

-- What is found in bytes is what they hold, and nothing else: whose log they are and of which events, or where they can't be read.
abbrev pub LogIsFound : Type 0
LogIsFound = (form : Form) (bytes : List ℕ) (contents : Contents) → IsBytes bytes → (log_at form bytes ≡ contents) ↔ HoldContents form bytes contents

-- so bytes that stand for a journal are found to be the log of its events
abbrev pub JournalIsFound : Type 0
JournalIsFound = (form : Form) (bytes : List ℕ) (host : ℕ) (journal : List Entry) → IsBytes bytes → StandsFor form bytes host journal → log_at form bytes ≡ LogOf host (events_of journal)

-- A store keeps the callers of its journal: with the events that the bytes show they are the journal, whether or not the bytes show a batch that is in doubt
-- behind it.
abbrev pub StoreIsShown : Type 0
StoreIsShown = (form : Form) (bytes : List ℕ) (host : ℕ) (journal more : List Entry) → IsBytes bytes → StandsFor form bytes host (journal ++ more) → store_journal form (callers_of journal) bytes ≡ journal
