-- What the exports that read and write payloads tell.
use Rattle.std.specs.Prelude.{◌≡◌, ℕ, ◌⊎◌, List, length, codes, Bool, true, false}
use Rattle.payload_rules.specs.Payloads.{Payload, HistoryCreate, HistoryDelete, KvSet, KvDelete, AliasSet, AliasDelete, PayloadOf, history_tag, written_payload}

-- the payload is a command that ended
abbrev pub is_command : Payload → Bool
is_command (HistoryCreate h) = true
is_command (HistoryDelete id) = false
is_command (KvSet namespace key value) = false
is_command (KvDelete namespace key) = false
is_command (AliasSet name value) = false
is_command (AliasDelete name) = false

-- the bytes are its creation in version v0
abbrev pub IsCreation : List ℕ → Payload → Type 0
IsCreation bytes payload = (is_command payload ≡ true) × PayloadOf history_tag (codes "v0") bytes payload

-- 0, or 1 for a creation
abbrev pub TellsCreation : List ℕ → ℕ → Type 0
TellsCreation bytes answer = (answer ≡ 0) ⊎ ((answer ≡ 1) × ((payload : Payload) × IsCreation bytes payload))

-- 0, or the length of what is written for the payload
abbrev pub TellsLength : Payload → ℕ → Type 0
TellsLength payload answer = (answer ≡ 0) ⊎ (answer ≡ length (written_payload payload))

-- 0, or the length of what is written for the creation that the bytes are
abbrev pub TellsWritten : List ℕ → ℕ → Type 0
TellsWritten bytes answer = (answer ≡ 0) ⊎ ((payload : Payload) × IsCreation bytes payload × (answer ≡ length (written_payload payload)))
