-- A log file: a header that names the host, batches of events, each behind an open gate, and a closed gate.
use Rattle.std.specs.Prelude.{◌≡◌, ◌≢◌, ℕ, ◌+◌, ◌<◌, ◌≤◌, ◌⊎◌, ◌^◌, List, [], ◌∷◌, ◌++◌, length, take, drop, replicate, codes, Option, Some, None, if◌then◌else◌, nat_lt, bytes_eq}
use Rattle.std.specs.List.{flat_map, AllByRecursion}
use Rattle.std.specs.Int.{w32, w64, w128, to_be_bytes}
use Rattle.blake2b_core.specs.Hash.{blake2b}
use Rattle.record_rules.specs.Records.{Entry, Event}
use Rattle.record_rules.specs.Journal.{events_of, Sound}
use Rattle.log_rules.specs.Body.{body_bytes, IsBatch}
use Rattle.log_rules.specs.Opened.{opened_journal}

-- ---- the form of a log

-- what two forms differ in: the last of the first eight bytes, and the digest behind a body, by the offset of the batch's gate and the body
pub record Form : Type 0 where
  pub digit : ℕ
  pub digest : ℕ → List ℕ → List ℕ

-- 16 bytes of BLAKE2b, without a key, of the gate's offset, the body's length and the body
abbrev pub batch_digest : ℕ → List ℕ → List ℕ
batch_digest at body = blake2b 16 [] (to_be_bytes w64 at ++ to_be_bytes w32 (length body) ++ body)

-- the form of each log that is written
abbrev pub current_form : Form
current_form = record { digit = 0x32; digest = batch_digest }

-- the form of older logs, which have no digests; they are only read
abbrev pub old_form : Form
old_form = record { digit = 0x31; digest = λ at body. [] }

-- ---- bytes

-- the first eight bytes
abbrev pub magic_bytes : Form → List ℕ
magic_bytes form = codes "ATULOG0" ++ form.digit ∷ []

-- the magic, the host in 16 bytes, eight zeros
abbrev pub header_bytes : Form → ℕ → List ℕ
header_bytes form host = magic_bytes form ++ to_be_bytes w128 host ++ replicate 8 0

-- what stands behind a batch's gate at this offset: the length of the body in four bytes, the body, and its digest
abbrev pub payload_bytes : Form → ℕ → List Event → List ℕ
payload_bytes form at events = to_be_bytes w32 (length (body_bytes events)) ++ body_bytes events ++ form.digest at (body_bytes events)

-- a batch as it stands in the file
pub record Batch : Type 0 where
  pub gate : ℕ
  pub events : List Event

-- a gate byte 0 is closed, any other is open
abbrev pub batch_bytes : Form → ℕ → Batch → List ℕ
batch_bytes form at batch = batch.gate ∷ payload_bytes form at batch.events

-- batches one behind the other, the first one's gate at this offset
abbrev pub batches_bytes : Form → ℕ → List Batch → List ℕ
batches_bytes form at [] = []
batches_bytes form at (batch ∷ batches) = batch_bytes form at batch ++ batches_bytes form (at + length (batch_bytes form at batch)) batches

pub record IsOpenBatch (batch : Batch) : Type 0 where
  pub gate : batch.gate ≢ 0
  pub batch_events : IsBatch batch.events

-- what the batches say, in order
abbrev pub events_in : List Batch → List Event
events_in batches = flat_map (λ (batch : Batch). batch.events) batches

-- ---- what bytes stand for

-- these bytes are the header of the host and then open batches of these events
pub record IsLogPrefix (form : Form) (prefix : List ℕ) (host : ℕ) (events : List Event) : Type 0 where
  pub host_fits : host < 2 ^ 128
  pub batches : List Batch
  pub opened : AllByRecursion IsOpenBatch batches
  pub events_are : events_in batches ≡ events
  pub bytes_are : prefix ≡ header_bytes form host ++ batches_bytes form 32 batches

-- the bytes stand for this journal of this host: header, open batches of its events, a closed gate, and then any bytes; the journal is sound. Whose calls its entries came by isn't told
pub record StandsFor (form : Form) (bytes : List ℕ) (host : ℕ) (journal : List Entry) : Type 0 where
  pub prefix : List ℕ
  pub behind : List ℕ
  pub opened : IsLogPrefix form prefix host (events_of journal)
  pub bytes_are : bytes ≡ prefix ++ 0 ∷ behind
  pub sound : Sound journal host

-- ---- what bytes stand for no journal

-- at least 33 bytes, which begin with the header of this host in this form
pub record HasHeader (form : Form) (bytes : List ℕ) (host : ℕ) : Type 0 where
  pub long : 33 ≤ length bytes
  pub host_fits : host < 2 ^ 128
  pub header : take 32 bytes ≡ header_bytes form host

-- fewer than 33 bytes, or no host's header in this form
abbrev pub HasNoHeader : Form → List ℕ → Type 0
HasNoHeader form bytes = (length bytes < 33) ⊎ ((host : ℕ) → host < 2 ^ 128 → take 32 bytes ≢ header_bytes form host)

-- a header of neither form; one of the old form; none of the old form
abbrev pub NotALog : List ℕ → Type 0
NotALog bytes = HasNoHeader current_form bytes × HasNoHeader old_form bytes

abbrev pub IsOldLog : List ℕ → Type 0
IsOldLog bytes = (host : ℕ) × HasHeader old_form bytes host

abbrev pub NotOld : List ℕ → Type 0
NotOld bytes = HasNoHeader old_form bytes

-- the place of the first item of a header that can't be read: 0 the magic, 8 the host, 24 the zeros, 32 the gate
abbrev pub header_fault : Form → List ℕ → Option ℕ
header_fault form bytes =
    if bytes_eq (take 8 bytes) (magic_bytes form) then
    if nat_lt (length bytes) 24 then Some 8 else
    if bytes_eq (take 8 (drop 24 bytes)) (replicate 8 0) then
    if nat_lt (length bytes) 33 then Some 32 else None
    else Some 24
    else Some 0

-- behind an open gate at this offset these bytes begin with a whole batch, another gate follows, and the journal with the batch is sound
pub record HoldsGoodBatch (form : Form) (at : ℕ) (rest : List ℕ) (host : ℕ) (before : List Event) : Type 0 where
  pub events : List Event
  pub gate : ℕ
  pub behind : List ℕ
  pub batch : IsBatch events
  pub bytes_are : rest ≡ payload_bytes form at events ++ gate ∷ behind
  pub sound : Sound (opened_journal (before ++ events)) host

-- at the offset stands an open gate, all batches before it are good, and the batch behind it isn't
pub record DamagedAt (form : Form) (bytes : List ℕ) (offset : ℕ) : Type 0 where
  pub host : ℕ
  pub before : List Event
  pub prefix : List ℕ
  pub gate : ℕ
  pub rest : List ℕ
  pub opened : IsLogPrefix form prefix host before
  pub sound : Sound (opened_journal before) host
  pub bytes_are : bytes ≡ prefix ++ gate ∷ rest
  pub offset_is : offset ≡ length prefix
  pub gate_open : gate ≢ 0
  pub bad : HoldsGoodBatch form (length prefix) rest host before → ⊥
