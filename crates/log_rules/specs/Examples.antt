-- Worked examples: a new log, and the log of one started command, byte by byte, in both forms.
use Rattle.std.specs.Prelude.{◌≡◌, ℕ, ◌≤◌, List, [], ◌∷◌, ◌++◌, length, take, drop, replicate, slice_get, codes, Option, Some, None, Ok}
use Rattle.std.specs.List.{AllByRecursion}
use Rattle.std.specs.Str.{IsUtf8}
use Rattle.definitions.specs.Spelling.{TextFits}
use Rattle.definitions.specs.Journal.{StartedRecord}
use Rattle.definitions.specs.Examples.{first_id, ls}
use Rattle.record_rules.specs.Examples.{ls_entry}
use Rattle.record_rules.specs.Records.{SealedRecord, Entry, Event, Started, Local, Taken}
use Rattle.log_rules.specs.Reading.{body_at, BodyWrongAt}
use Rattle.log_rules.specs.Body.{HasEventBytes, event_bytes, body_bytes, IsBatch}
use Rattle.log_rules.specs.Contents.{LogOf, HeaderWrong, BatchWrong, log_at, store_journal, callers_of}
use Rattle.log_rules.specs.Log.{Form, batch_digest, current_form, old_form, HasNoHeader, NotALog, IsOldLog, NotOld, header_bytes, batch_bytes, StandsFor, DamagedAt, header_fault}

-- the log of a new store
abbrev pub new_log : Form → ℕ → List ℕ
new_log form host = header_bytes form host ++ 0 ∷ []

-- that log with one batch, in which `ls` was started, behind this gate
abbrev pub ls_log : Form → (gate : ℕ) → List ℕ
ls_log form gate = header_bytes form 1 ++ batch_bytes form 32 (record { gate = gate; events = Started ls ∷ [] }) ++ 0 ∷ []

-- the record of this host in which `ls` ended
abbrev pub ended_ls : Event
ended_ls = Local (Some first_id) (record { id = 0xa1; idx = 0; host = 1; host_name = []; timestamp = 0xa4; version = codes "v0"; tag = codes "history"; sealed = []; wrapped = [] })

abbrev pub ended_entry : Entry
ended_entry = record { caller = record { number = 1; call = 2; settled_for = 0 }; event = ended_ls }

-- the log in which that came in a second batch, behind another open gate
abbrev pub ended_log : List ℕ
ended_log = header_bytes old_form 1 ++ batch_bytes old_form 32 (record { gate = 1; events = Started ls ∷ [] }) ++ batch_bytes old_form 90 (record { gate = 7; events = ended_ls ∷ [] }) ++ 0 ∷ []

-- the log of `ls` with an open gate and another length in bytes 33 to 36
abbrev pub ls_log_with_length : List ℕ → List ℕ
ls_log_with_length four = take 33 (ls_log old_form 1) ++ four ++ drop 37 (ls_log old_form 1)

-- a started command with empty texts
abbrev pub started_empty : Event
started_empty = Started (record { id = 1; timestamp = 2; command = []; cwd = []; session = []; hostname = [] })

-- a record each of whose fields differs from the others
abbrev pub worked_record : SealedRecord
worked_record = record { id = 0xa1; idx = 0xa2; host = 0xa3; host_name = codes "a"; timestamp = 0xa4; version = codes "b"; tag = codes "c"; sealed = codes "d"; wrapped = codes "e" }

-- its bytes
abbrev pub worked_record_bytes : List ℕ
worked_record_bytes =
    0 ∷ 0 ∷ 0 ∷ 0 ∷ 0 ∷ 0 ∷ 0 ∷ 0 ∷ 0 ∷ 0 ∷ 0 ∷ 0 ∷ 0 ∷ 0 ∷ 0 ∷ 0xa1
    ∷ 0 ∷ 0 ∷ 0 ∷ 0 ∷ 0 ∷ 0 ∷ 0 ∷ 0xa2
    ∷ 0 ∷ 0 ∷ 0 ∷ 0 ∷ 0 ∷ 0 ∷ 0 ∷ 0 ∷ 0 ∷ 0 ∷ 0 ∷ 0 ∷ 0 ∷ 0 ∷ 0 ∷ 0xa3
    ∷ 0 ∷ 0 ∷ 0 ∷ 1 ∷ 0x61
    ∷ 0 ∷ 0 ∷ 0 ∷ 0 ∷ 0 ∷ 0 ∷ 0 ∷ 0xa4
    ∷ 0 ∷ 0 ∷ 0 ∷ 1 ∷ 0x62 ∷ 0 ∷ 0 ∷ 0 ∷ 1 ∷ 0x63 ∷ 0 ∷ 0 ∷ 0 ∷ 1 ∷ 0x64 ∷ 0 ∷ 0 ∷ 0 ∷ 1 ∷ 0x65 ∷ []

pub record WorkedBodies : Type 0 where
  pub made_here : event_bytes (Local None worked_record) ≡ 2 ∷ 0 ∷ worked_record_bytes
  pub closing : event_bytes (Local (Some 7) worked_record) ≡ 2 ∷ 1 ∷ 0 ∷ 0 ∷ 0 ∷ 0 ∷ 0 ∷ 0 ∷ 0 ∷ 0 ∷ 0 ∷ 0 ∷ 0 ∷ 0 ∷ 0 ∷ 0 ∷ 0 ∷ 7 ∷ worked_record_bytes
  pub taken_in : event_bytes (Taken 0x01020304 worked_record) ≡ 3 ∷ 1 ∷ 2 ∷ 3 ∷ 4 ∷ worked_record_bytes
  pub two : body_bytes (Local None worked_record ∷ Taken 5 worked_record ∷ []) ≡ 0 ∷ 0 ∷ 0 ∷ 2 ∷ 2 ∷ 0 ∷ (worked_record_bytes ++ 3 ∷ 0 ∷ 0 ∷ 0 ∷ 5 ∷ worked_record_bytes)
  -- a batch has 1 to 100 events
  pub one : IsBatch (started_empty ∷ [])
  pub hundred : IsBatch (replicate 100 started_empty)
  pub none : IsBatch [] → ⊥
  pub more : IsBatch (replicate 101 started_empty) → ⊥
  -- and a body whose length four bytes can tell
  pub body_at_most : (events : List Event) → 1 ≤ length events → length events ≤ 100 → AllByRecursion HasEventBytes events → length (body_bytes events) ≡ 0xffffffff → IsBatch events
  pub body_above : (events : List Event) → length (body_bytes events) ≡ 0x100000000 → IsBatch events → ⊥

-- which events have bytes: numbers and texts at their limits, and one above
pub record WorkedFields : Type 0 where
  -- a text of 4,294,967,295 bytes, and one that is longer or no UTF-8
  pub text_at_most : (text : List ℕ) → IsUtf8 text → length text ≡ 0xffffffff → TextFits text
  pub text_above : (text : List ℕ) → length text ≡ 0x100000000 → TextFits text → ⊥
  pub no_text : (text : List ℕ) → (IsUtf8 text → ⊥) → TextFits text → ⊥
  -- ids and hosts of 128 bits, timestamps and idx of 64, and an owner of 32
  pub started_at_most : (text : List ℕ) → TextFits text → HasEventBytes (Started (record { id = 0xffffffffffffffffffffffffffffffff; timestamp = 0xffffffffffffffff; command = text; cwd = text; session = text; hostname = text }))
  pub started_id_above : (s : StartedRecord) → s.id ≡ 0x100000000000000000000000000000000 → HasEventBytes (Started s) → ⊥
  pub started_timestamp_above : (s : StartedRecord) → s.timestamp ≡ 0x10000000000000000 → HasEventBytes (Started s) → ⊥
  pub hostname_above : (s : StartedRecord) → (TextFits s.hostname → ⊥) → HasEventBytes (Started s) → ⊥
  pub made_here_at_most : (text : List ℕ) → TextFits text → HasEventBytes (Local (Some 0xffffffffffffffffffffffffffffffff) (record { id = 0xffffffffffffffffffffffffffffffff; idx = 0xffffffffffffffff; host = 0xffffffffffffffffffffffffffffffff; host_name = text; timestamp = 0xffffffffffffffff; version = text; tag = text; sealed = text; wrapped = text }))
  pub closed_above : (r : SealedRecord) → HasEventBytes (Local (Some 0x100000000000000000000000000000000) r) → ⊥
  pub taken_in_at_most : (text : List ℕ) → TextFits text → HasEventBytes (Taken 0xffffffff (record { id = 0; idx = 0; host = 0; host_name = text; timestamp = 0; version = text; tag = text; sealed = text; wrapped = text }))
  pub owner_above : (r : SealedRecord) → HasEventBytes (Taken 0x100000000 r) → ⊥
  pub id_above : (closes : Option ℕ) (r : SealedRecord) → r.id ≡ 0x100000000000000000000000000000000 → HasEventBytes (Local closes r) → ⊥
  pub idx_above : (closes : Option ℕ) (r : SealedRecord) → r.idx ≡ 0x10000000000000000 → HasEventBytes (Local closes r) → ⊥
  pub host_above : (owner : ℕ) (r : SealedRecord) → r.host ≡ 0x100000000000000000000000000000000 → HasEventBytes (Taken owner r) → ⊥
  pub timestamp_above : (owner : ℕ) (r : SealedRecord) → r.timestamp ≡ 0x10000000000000000 → HasEventBytes (Taken owner r) → ⊥
  pub wrapped_above : (owner : ℕ) (r : SealedRecord) → (TextFits r.wrapped → ⊥) → HasEventBytes (Taken owner r) → ⊥

pub record WorkedNewLog : Type 0 where
  pub bytes : new_log current_form first_id ≡ 0x41 ∷ 0x54 ∷ 0x55 ∷ 0x4c ∷ 0x4f ∷ 0x47 ∷ 0x30 ∷ 0x32 ∷ 0x01 ∷ 0x8b ∷ 0xcf ∷ 0xe5 ∷ 0x68 ∷ 0x00 ∷ 0x70 ∷ 0x01 ∷ 0x82 ∷ 0x03 ∷ 0x04 ∷ 0x05 ∷ 0x06 ∷ 0x07 ∷ 0x08 ∷ 0x09 ∷ 0 ∷ 0 ∷ 0 ∷ 0 ∷ 0 ∷ 0 ∷ 0 ∷ 0 ∷ 0 ∷ []
  pub count : length (new_log current_form first_id) ≡ 33
  pub stands : StandsFor current_form (new_log current_form first_id) first_id []
  pub fault : header_fault current_form (new_log current_form first_id) ≡ None
  -- the places of what can't be read
  pub no_magic : header_fault current_form [] ≡ Some 0
  pub other_magic : header_fault current_form (0x42 ∷ drop 1 (new_log current_form 1)) ≡ Some 0
  pub cut_host : header_fault current_form (take 23 (new_log current_form 1)) ≡ Some 8
  pub cut_zeros : header_fault current_form (take 31 (new_log current_form 1)) ≡ Some 24
  pub other_zeros : header_fault current_form (take 31 (new_log current_form 1) ++ 1 ∷ 0 ∷ []) ≡ Some 24
  pub no_gate_at_all : HasNoHeader current_form (take 32 (new_log current_form 1))
  pub no_gate : header_fault current_form (take 32 (new_log current_form 1)) ≡ Some 32
  -- an old log is no log of the form that is written, and the other way round; bytes of neither are not a log
  pub old : IsOldLog (new_log old_form 1)
  pub not_old : NotOld (new_log current_form 1)
  pub old_magic : header_fault current_form (new_log old_form 1) ≡ Some 0
  pub neither : NotALog (take 32 (new_log current_form 1))
  pub other_format : NotALog (take 7 (new_log current_form 1) ++ 0x33 ∷ drop 8 (new_log current_form 1))

pub record WorkedFirstBatch : Type 0 where
  pub count : length (ls_log old_form 1) ≡ 91
  pub gate : slice_get (ls_log old_form 1) 32 ≡ Some 1
  pub length_bytes : take 4 (drop 33 (ls_log old_form 1)) ≡ 0 ∷ 0 ∷ 0 ∷ 0x35 ∷ []
  pub body : take 53 (drop 37 (ls_log old_form 1)) ≡ 0 ∷ 0 ∷ 0 ∷ 1 ∷ 1 ∷ 0x01 ∷ 0x8b ∷ 0xcf ∷ 0xe5 ∷ 0x68 ∷ 0x00 ∷ 0x70 ∷ 0x01 ∷ 0x82 ∷ 0x03 ∷ 0x04 ∷ 0x05 ∷ 0x06 ∷ 0x07 ∷ 0x08 ∷ 0x09 ∷ 0x17 ∷ 0x97 ∷ 0x9c ∷ 0xfe ∷ 0x36 ∷ 0x2a ∷ 0x00 ∷ 0x00 ∷ 0 ∷ 0 ∷ 0 ∷ 2 ∷ 0x6c ∷ 0x73 ∷ 0 ∷ 0 ∷ 0 ∷ 1 ∷ 0x2f ∷ 0 ∷ 0 ∷ 0 ∷ 2 ∷ 0x73 ∷ 0x31 ∷ 0 ∷ 0 ∷ 0 ∷ 3 ∷ 0x68 ∷ 0x3a ∷ 0x75 ∷ []
  pub closed : slice_get (ls_log old_form 1) 90 ≡ Some 0
  pub stands : StandsFor old_form (ls_log old_form 1) 1 (ls_entry ∷ [])
  -- with another open gate it is the same journal, with the gate closed the journal without the batch
  pub other_gate : take 32 (ls_log old_form 1) ++ 7 ∷ drop 33 (ls_log old_form 1) ≡ ls_log old_form 7
  pub stands_too : StandsFor old_form (ls_log old_form 7) 1 (ls_entry ∷ [])
  pub stands_closed : StandsFor old_form (ls_log old_form 0) 1 []
  -- with a second batch the journal has its events behind those of the first
  pub stands_ended : StandsFor old_form ended_log 1 (ls_entry ∷ ended_entry ∷ [])
  -- with its length one more it is damaged at the gate
  pub damaged : DamagedAt old_form (ls_log_with_length (0 ∷ 0 ∷ 0 ∷ 0x36 ∷ [])) 32
  -- and so it is where the last byte, the next gate, is missing, and where its event is of a kind 9
  pub cut : DamagedAt old_form (take 90 (ls_log old_form 1)) 32
  pub unknown_kind : DamagedAt old_form (take 41 (ls_log old_form 1) ++ 9 ∷ drop 42 (ls_log old_form 1)) 32
  -- with the batch a second time it is damaged at that one, since no two started commands have one id
  pub repeated : DamagedAt old_form (take 90 (ls_log old_form 1) ++ drop 32 (ls_log old_form 1)) 90

-- the body of that batch, and the same with an `m` in place of the `l`, so that the command is `ms`
abbrev pub ls_body : List ℕ
ls_body = take 53 (drop 37 (ls_log old_form 1))

abbrev pub ms_body : List ℕ
ms_body = take 33 ls_body ++ 0x6d ∷ drop 34 ls_body

-- their digests, where the batch's gate stands at 32
abbrev pub ls_digest : List ℕ
ls_digest = 0xf7 ∷ 0xdf ∷ 0x43 ∷ 0x2f ∷ 0x11 ∷ 0xae ∷ 0x16 ∷ 0x44 ∷ 0xa5 ∷ 0xc2 ∷ 0xb6 ∷ 0x25 ∷ 0xe7 ∷ 0x4d ∷ 0xcf ∷ 0x75 ∷ []

abbrev pub ms_digest : List ℕ
ms_digest = 0x80 ∷ 0x7a ∷ 0x83 ∷ 0xf7 ∷ 0xf6 ∷ 0x04 ∷ 0xc1 ∷ 0xf8 ∷ 0x1d ∷ 0xe3 ∷ 0x4e ∷ 0xa0 ∷ 0x8f ∷ 0x1f ∷ 0x42 ∷ 0xb4 ∷ []

pub record WorkedDigests : Type 0 where
  pub digest : batch_digest 32 ls_body ≡ ls_digest
  pub other_digest : batch_digest 32 ms_body ≡ ms_digest
  -- behind the old log's 90 bytes the digest stands, and then the closed gate
  pub count : length (ls_log current_form 1) ≡ 107
  pub bytes : ls_log current_form 1 ≡ header_bytes current_form 1 ++ 1 ∷ 0 ∷ 0 ∷ 0 ∷ 0x35 ∷ (ls_body ++ ls_digest ++ 0 ∷ [])
  pub stands : StandsFor current_form (ls_log current_form 1) 1 (ls_entry ∷ [])
  -- with one byte changed it is damaged, though the body is one of a started command
  pub changed : DamagedAt current_form (take 70 (ls_log current_form 1) ++ 0x6d ∷ drop 71 (ls_log current_form 1)) 32

-- the first field that can't be read: of the body of `ls`, and of it with other bytes
pub record WorkedBodyFaults : Type 0 where
  pub whole : body_at ls_body ≡ Ok (Started ls ∷ [])
  -- without its last byte the last text passes the body's end
  pub cut : BodyWrongAt (take 52 ls_body) 46
  pub nothing : BodyWrongAt [] 0
  pub no_events : BodyWrongAt (0 ∷ 0 ∷ 0 ∷ 0 ∷ drop 4 ls_body) 0
  pub too_many : BodyWrongAt (0 ∷ 0 ∷ 0 ∷ 101 ∷ drop 4 ls_body) 0
  pub kind : BodyWrongAt (take 4 ls_body ++ 9 ∷ drop 5 ls_body) 4
  pub long_text : BodyWrongAt (take 29 ls_body ++ 0xff ∷ 0xff ∷ 0xff ∷ 0xff ∷ drop 33 ls_body) 29

-- what is found in the bytes of small logs
pub record WorkedContents : Type 0 where
  pub none_yet : log_at current_form (new_log current_form first_id) ≡ LogOf first_id []
  pub one : log_at current_form (ls_log current_form 1) ≡ LogOf 1 (Started ls ∷ [])
  -- one byte changed
  pub changed : log_at current_form (take 70 (ls_log current_form 1) ++ 0x6d ∷ drop 71 (ls_log current_form 1)) ≡ BatchWrong 32
  pub cut : log_at current_form (take 32 (new_log current_form 1)) ≡ HeaderWrong 32
  pub other_format : log_at current_form (ls_log old_form 1) ≡ HeaderWrong 0
  -- an old log, with its gate closed, and with the batch a second time, whose id was started before
  pub old : log_at old_form (ls_log old_form 1) ≡ LogOf 1 (Started ls ∷ [])
  pub closed : log_at old_form (ls_log old_form 0) ≡ LogOf 1 []
  pub repeated : log_at old_form (take 90 (ls_log old_form 1) ++ drop 32 (ls_log old_form 1)) ≡ BatchWrong 90
  -- a store keeps whose call it was, and of a batch in doubt none yet
  pub kept : store_journal current_form (callers_of (ls_entry ∷ [])) (ls_log current_form 1) ≡ ls_entry ∷ []
  pub not_kept : store_journal current_form [] (ls_log current_form 1) ≡ []
