-- What bytes hold as a log, told by computing: whose log it is and of which events, or where they can't be read.
use Rattle.std.specs.Prelude.{◌≡◌, ℕ, zero, suc, ◌+◌, ◌-◌, ◌&&◌, ◌==◌, Bool, true, false, List, [], ◌∷◌, ◌++◌, length, map, take, drop, Option, Some, None, Result, Ok, Err, if◌then◌else◌, nat_lt, bytes_eq}
use Rattle.byteorder.specs.Endian.{big_number}
use Rattle.record_rules.specs.Records.{Caller, Entry, Event}
use Rattle.record_rules.specs.Deciding.{may_all_come}
use Rattle.log_rules.specs.Reading.{body_at}
use Rattle.log_rules.specs.Opened.{opened_journal}
use Rattle.log_rules.specs.Log.{Form, StandsFor, DamagedAt, header_fault}

-- ---- one batch

-- behind a body that was read its digest, and what stands behind that
abbrev pub behind_digest : List ℕ → List ℕ → Result (List Event) ℕ → Option (List Event × List ℕ)
behind_digest digest behind (Err place) = None
behind_digest digest behind (Ok events) = if bytes_eq (take (length digest) behind) digest then Some (events, drop (length digest) behind) else None

-- the body of so many bytes, and what stands behind the batch
abbrev pub with_body : Form → (at : ℕ) → (count : ℕ) → List ℕ → Option (List Event × List ℕ)
with_body form at count rest = behind_digest (form.digest at (take count rest)) (drop count rest) (body_at (take count rest))

-- The events of the whole batch with which these bytes begin, behind an open gate at that offset, and what stands behind it; or none, where they begin
-- with none.
abbrev pub batch_in : Form → (at : ℕ) → List ℕ → Option (List Event × List ℕ)
batch_in form at rest =
    if nat_lt (length rest) 4 then None else
    if nat_lt (length (drop 4 rest)) (big_number 4 rest) then None else with_body form at (big_number 4 rest) (drop 4 rest)

-- ---- a log

pub data Contents : Type 0 where
  -- the log of this host with these events
  LogOf : (host : ℕ) → List Event → Contents
  -- the header can't be read at this place
  HeaderWrong : (place : ℕ) → Contents
  -- the batch whose gate stands at this offset is damaged
  BatchWrong : (offset : ℕ) → Contents

abbrev pub has_gate : List ℕ → Bool
has_gate [] = false
has_gate (gate ∷ behind) = true

-- a batch is good where a gate follows it, and its events may come next
abbrev pub if_good : (host : ℕ) → List Event → Option (List Event × List ℕ) → Option (List Event × List ℕ)
if_good host before None = None
if_good host before (Some read) = if has_gate read.1 && may_all_come before host read.0 then Some read else None

abbrev pub or_wrong : (offset : ℕ) → Option (List Event × List ℕ) → (List Event × List ℕ → Contents) → Contents
or_wrong offset None further = BatchWrong offset
or_wrong offset (Some read) further = further read

-- of bytes that begin with the gate at this offset, behind these events, with at most so many gates
abbrev pub contents_from : ℕ → Form → (host at : ℕ) → List Event → List ℕ → Contents
contents_from zero form host at before rest = BatchWrong at
contents_from (suc most) form host at before [] = BatchWrong at
contents_from (suc most) form host at before (gate ∷ rest) =
    if gate == 0 then LogOf host before
    else or_wrong at (if_good host before (batch_in form at rest)) (λ read. contents_from most form host (at + 1 + (length rest - length read.1)) (before ++ read.0) read.1)

abbrev pub contents_behind : Form → List ℕ → Option ℕ → Contents
contents_behind form bytes (Some place) = HeaderWrong place
contents_behind form bytes None = contents_from (length bytes) form (big_number 16 (take 16 (drop 8 bytes))) 32 [] (drop 32 bytes)

-- what the bytes hold in this form
abbrev pub log_at : Form → List ℕ → Contents
log_at form bytes = contents_behind form bytes (header_fault form bytes)

-- what it says that bytes hold this
abbrev pub HoldContents : Form → List ℕ → Contents → Type 0
HoldContents form bytes (LogOf host events) = StandsFor form bytes host (opened_journal events)
HoldContents form bytes (HeaderWrong place) = header_fault form bytes ≡ Some place
HoldContents form bytes (BatchWrong offset) = DamagedAt form bytes offset

-- ---- a store over a log

-- the events that bytes show
abbrev pub shown_events : Contents → List Event
shown_events (LogOf host events) = events
shown_events (HeaderWrong place) = []
shown_events (BatchWrong offset) = []

-- each of the callers that are kept, with the event that stands there
abbrev pub kept_entries : List Caller → List Event → List Entry
kept_entries [] events = []
kept_entries (caller ∷ callers) [] = []
kept_entries (caller ∷ callers) (event ∷ events) = record { caller = caller; event = event } ∷ kept_entries callers events

-- The journal of a store that keeps these callers over a log of these bytes. Where a batch is in doubt, and the bytes show it, it isn't the store's yet: its
-- callers aren't kept.
abbrev pub store_journal : Form → List Caller → List ℕ → List Entry
store_journal form callers bytes = kept_entries callers (shown_events (log_at form bytes))

abbrev pub callers_of : List Entry → List Caller
callers_of journal = map (λ (entry : Entry). entry.caller) journal
