-- Reading a batch's body from the left: its events, or the place of the first field that can't be read. The same words read a body
-- of which only the first bytes are there yet.
use Rattle.std.specs.Prelude.{ℕ, zero, suc, ◌+◌, ◌≡◌, ◌&&◌, List, [], ◌∷◌, ◌++◌, length, take, drop, Option, Some, None, Result, Ok, Err, if◌then◌else◌, nat_lt, nat_le, ◌==◌}
use Rattle.std.specs.Str.{is_utf8}
use Rattle.byteorder.specs.Endian.{big_number}
use Rattle.definitions.specs.Journal.{StartedRecord}
use Rattle.record_rules.specs.Records.{SealedRecord, Event, Started, Local, Taken}

-- ---- where reading stands, and why it stops

-- a body of `limit` bytes, the offset in it of the next field, and the bytes from there on that are there
pub record Reading : Type 0 where
  pub limit : ℕ
  pub at : ℕ
  pub rest : List ℕ

-- the bytes end before the field at this place does, or that field is wrong, whatever follows
pub data Stop : Type 0 where
  Cut : (place : ℕ) → Stop
  Wrong : (place : ℕ) → Stop

-- a value and where reading stands behind it, or why it stops
abbrev pub Field : Type 0 → Type 0
Field A = Reading → Result (A × Reading) Stop

infixl 10 ◌>>=◌
abbrev pub ◌>>=◌ : {A B : Type 0} → Result A Stop → (A → Result B Stop) → Result B Stop
(Ok x) >>= f = f x
(Err stop) >>= f = Err stop

-- one field behind the other
infixl 20 ◌&◌
abbrev pub ◌&◌ : {A B : Type 0} → Field A → Field B → Field (A × B)
f & g = λ r. f r >>= λ a. g a.1 >>= λ b. Ok ((a.0, b.0), b.1)

-- what is made of a field's value
abbrev pub field_as : {A B : Type 0} → (A → B) → Field A → Field B
field_as make f r = f r >>= λ a. Ok (make a.0, a.1)

-- n bytes further
abbrev pub passed : ℕ → Reading → Reading
passed n r = record { limit = r.limit; at = r.at + n; rest = drop n r.rest }

-- with more bytes behind those that are there
abbrev pub with_more : Reading → List ℕ → Reading
with_more r more = record { limit = r.limit; at = r.at; rest = r.rest ++ more }

-- ---- fields

-- a number of n bytes
unfoldable pub number_at : ℕ → Field ℕ
number_at n r = if nat_lt (length r.rest) n then Err (Cut r.at) else Ok (big_number n r.rest, passed n r)

-- a text: wrong where it would pass the end of the body, and where it isn't UTF-8
unfoldable pub text_at : Field (List ℕ)
text_at r =
    if nat_lt (length r.rest) 4 then Err (Cut r.at) else
    if nat_lt r.limit (r.at + 4 + big_number 4 r.rest) then Err (Wrong r.at) else
    if nat_lt (length (drop 4 r.rest)) (big_number 4 r.rest) then Err (Cut r.at) else
    if is_utf8 (take (big_number 4 r.rest) (drop 4 r.rest)) then Ok (take (big_number 4 r.rest) (drop 4 r.rest), passed (4 + big_number 4 r.rest) r) else Err (Wrong r.at)

abbrev pub made_record : (((((((ℕ × ℕ) × ℕ) × List ℕ) × ℕ) × List ℕ) × List ℕ) × List ℕ) × List ℕ → SealedRecord
made_record p = record { id = p.0.0.0.0.0.0.0.0; idx = p.0.0.0.0.0.0.0.1; host = p.0.0.0.0.0.0.1; host_name = p.0.0.0.0.0.1; timestamp = p.0.0.0.0.1; version = p.0.0.0.1; tag = p.0.0.1; sealed = p.0.1; wrapped = p.1 }

-- id, idx, host, host name, timestamp, version, tag, sealed, wrapped
unfoldable pub record_at : Field SealedRecord
record_at r = field_as made_record (number_at 16 & number_at 8 & number_at 16 & text_at & number_at 8 & text_at & text_at & text_at & text_at) r

abbrev pub made_started : ((((ℕ × ℕ) × List ℕ) × List ℕ) × List ℕ) × List ℕ → StartedRecord
made_started p = record { id = p.0.0.0.0.0; timestamp = p.0.0.0.0.1; command = p.0.0.0.1; cwd = p.0.0.1; session = p.0.1; hostname = p.1 }

-- id, timestamp, command, cwd, session, hostname
unfoldable pub started_at : Field StartedRecord
started_at r = field_as made_started (number_at 16 & number_at 8 & text_at & text_at & text_at & text_at) r

-- by the mark at that place: no id, or the id that is closed
abbrev pub closes_of : (mark place : ℕ) → Field (Option ℕ)
closes_of mark place r =
    if mark == 0 then Ok (None, r) else
    if mark == 1 then field_as Some (number_at 16) r else Err (Wrong place)

unfoldable pub closes_at : Field (Option ℕ)
closes_at r = number_at 1 r >>= λ mark. closes_of mark.0 r.at mark.1

-- by the kind at that place
abbrev pub event_of : (kind place : ℕ) → Field Event
event_of kind place r =
    if kind == 1 then field_as Started started_at r else
    if kind == 2 then field_as (λ (x : Option ℕ × SealedRecord). Local x.0 x.1) (closes_at & record_at) r else
    if kind == 3 then field_as (λ (x : ℕ × SealedRecord). Taken x.0 x.1) (number_at 4 & record_at) r else Err (Wrong place)

unfoldable pub event_at : Field Event
event_at r = number_at 1 r >>= λ kind. event_of kind.0 r.at kind.1

-- so many events
unfoldable pub events_at : ℕ → Field (List Event)
events_at zero r = Ok ([], r)
events_at (suc n) r = event_at r >>= λ event. events_at n event.1 >>= λ later. Ok (event.0 ∷ later.0, later.1)

-- their number, 1 to 100
unfoldable pub count_at : Field ℕ
count_at r = number_at 4 r >>= λ n. if nat_le 1 n.0 && nat_le n.0 100 then Ok n else Err (Wrong r.at)

-- ---- a body

-- these bytes as the first ones of a body of so many bytes
abbrev pub at_start : (limit : ℕ) → List ℕ → Reading
at_start limit bytes = record { limit = limit; at = 0; rest = bytes }

unfoldable pub body_events_at : Field (List Event)
body_events_at r = count_at r >>= λ n. events_at n.0 n.1

-- the place at which the bytes end too early, or that is wrong, or the first one behind all events
abbrev pub whole_body : Result (List Event × Reading) Stop → Result (List Event) ℕ
whole_body (Ok read) = if length read.1.rest == 0 then Ok read.0 else Err read.1.at
whole_body (Err (Cut place)) = Err place
whole_body (Err (Wrong place)) = Err place

-- the events of a body, or the offset of its first field that can't be read
abbrev pub body_at : List ℕ → Result (List Event) ℕ
body_at bytes = whole_body (body_events_at (at_start (length bytes) bytes))

-- the first field of these bytes, as a body, that can't be read stands at this offset
abbrev pub BodyWrongAt : List ℕ → ℕ → Type 0
BodyWrongAt bytes place = body_at bytes ≡ Err place
