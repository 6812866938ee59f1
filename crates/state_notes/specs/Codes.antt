-- How the logic stores what a note says: as numbers and lists that give it back. Nothing rests on these words.
use Rattle.std.specs.Prelude.{◌≡◌, ℕ, List, Option, Bool, ◌⊎◌, refl}
use Rattle.std.proofs.Common.{inl, inr}
use Rattle.std.specs.Coded.{Coded, code_by, coded×, coded⊎, coded_ℕ, coded_bool, coded_list, coded_option}
use Rattle.definitions.specs.Journal.{StartedRecord}
use Rattle.record_rules.specs.Records.{SealedRecord, Event, Started, Local, Taken, Entry}
use Rattle.session_rules.specs.Passes.{TurnItem}
use Rattle.session_rules.specs.Stores.{StoreState}
use Rattle.state_notes.specs.Notes.{StoreNote}

abbrev Text : Type 0
Text = List ℕ

abbrev text_code : Coded Text
text_code = coded_list coded_ℕ

-- two numbers and four texts
abbrev StartedParts : Type 0
StartedParts = (ℕ × ℕ) × ((Text × Text) × (Text × Text))

abbrev started_code : Coded StartedRecord
started_code =
    code_by StartedParts (coded× (coded× coded_ℕ coded_ℕ) (coded× (coded× text_code text_code) (coded× text_code text_code)))
    (λ s. ((s.id, s.timestamp), ((s.command, s.cwd), (s.session, s.hostname))))
    (λ p. record { id = p.0.0; timestamp = p.0.1; command = p.1.0.0; cwd = p.1.0.1; session = p.1.1.0; hostname = p.1.1.1 }) (λ _. refl)

-- four numbers and five texts
abbrev RecordParts : Type 0
RecordParts = ((ℕ × ℕ) × (ℕ × ℕ)) × (Text × ((Text × Text) × (Text × Text)))

abbrev record_code : Coded SealedRecord
record_code =
    code_by RecordParts (coded× (coded× (coded× coded_ℕ coded_ℕ) (coded× coded_ℕ coded_ℕ)) (coded× text_code (coded× (coded× text_code text_code) (coded× text_code text_code))))
    (λ r. (((r.id, r.idx), (r.host, r.timestamp)), (r.host_name, ((r.version, r.tag), (r.sealed, r.wrapped)))))
    (λ p. record { id = p.0.0.0; idx = p.0.0.1; host = p.0.1.0; host_name = p.1.0; timestamp = p.0.1.1; version = p.1.1.0.0; tag = p.1.1.0.1; sealed = p.1.1.1.0; wrapped = p.1.1.1.1 }) (λ _. refl)

abbrev EventParts : Type 0
EventParts = StartedRecord ⊎ ((Option ℕ × SealedRecord) ⊎ (ℕ × SealedRecord))

abbrev event_parts : Event → EventParts
event_parts (Started s) = inl s
event_parts (Local closes r) = inr (inl (closes, r))
event_parts (Taken owner r) = inr (inr (owner, r))

abbrev event_of : EventParts → Event
event_of (inl s) = Started s
event_of (inr (inl p)) = Local p.0 p.1
event_of (inr (inr p)) = Taken p.0 p.1

pub event_back : (e : Event) → event_of (event_parts e) ≡ e
event_back (Started s) = refl
event_back (Local closes r) = refl
event_back (Taken owner r) = refl

abbrev event_code : Coded Event
event_code = code_by EventParts (coded⊎ started_code (coded⊎ (coded× (coded_option coded_ℕ) record_code) (coded× coded_ℕ record_code))) event_parts event_of event_back

abbrev entry_code : Coded Entry
entry_code =
    code_by ((ℕ × (ℕ × ℕ)) × Event) (coded× (coded× coded_ℕ (coded× coded_ℕ coded_ℕ)) event_code)
    (λ e. ((e.caller.number, (e.caller.call, e.caller.settled_for)), e.event))
    (λ p. record { caller = record { number = p.0.0; call = p.0.1.0; settled_for = p.0.1.1 }; event = p.1 }) (λ _. refl)

abbrev state_code : Coded StoreState
state_code =
    code_by (List Entry × (List Entry × ℕ)) (coded× (coded_list entry_code) (coded× (coded_list entry_code) coded_ℕ))
    (λ s. (s.entries, (s.doubt, s.faults))) (λ p. record { entries = p.0; doubt = p.1.0; faults = p.1.1 }) (λ _. refl)

abbrev turn_code : Coded TurnItem
turn_code = code_by ((ℕ × ℕ) × Bool) (coded× (coded× coded_ℕ coded_ℕ) coded_bool) (λ t. ((t.found, t.left), t.failed)) (λ p. record { found = p.0.0; left = p.0.1; failed = p.1 }) (λ _. refl)

abbrev pub note_code : Coded StoreNote
note_code = code_by (StoreState × List TurnItem) (coded× state_code (coded_list turn_code)) (λ n. (n.state, n.turns)) (λ p. record { state = p.0; turns = p.1 }) (λ _. refl)
