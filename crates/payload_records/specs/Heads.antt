-- The record that is made of a payload: what it says in the open, and how long what is written of the payload may be.
use Rattle.std.specs.Prelude.{ℕ, List}
use Rattle.payload_rules.specs.Payloads.{Payload, tag_of, version_text, payload_version}
use Rattle.record_rules.specs.Records.{SealedRecord}
use Rattle.step_rules.specs.Store.{Head, sealed_record}
use Rattle.step_rules.specs.Sealing.{keyed_store}
use Rattle.record_seal.proofs.StoreSealing.{record_sealing}
use Rattle.payload_records.specs.declared.sealing.Stamp.{Stamp}

-- bytes that are written for a payload, at most: those of the texts of one call, and 13 around two of them
abbrev pub most_written_bytes : ℕ
most_written_bytes = 1048582

-- the head of a record with this stamp that holds the payload
abbrev pub head_for : Stamp → Payload → Head
head_for stamp payload = record { id = stamp.id; idx = stamp.idx; version = version_text (payload_version payload); tag = tag_of payload; host = stamp.host }

-- the record of the payload, sealed under this key with 96 random bytes
abbrev pub record_for : (key : List ℕ) → Stamp → Payload → List ℕ → SealedRecord
record_for key stamp payload drawn =
    sealed_record (head_for stamp payload) stamp.timestamp ((keyed_store record_sealing stamp.host key).seal (head_for stamp payload) payload drawn)
