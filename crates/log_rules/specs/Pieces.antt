-- A batch's body that comes in pieces: its events are read one by one, each once its bytes are there.
use Rattle.std.specs.Prelude.{◌≡◌, ℕ, zero, suc, ◌+◌, ◌&&◌, Bool, false, List, [], length, Option, Some, None, Result, Ok, Err, if◌then◌else◌, ◌==◌}
use Rattle.record_rules.specs.Records.{Event}
use Rattle.log_rules.specs.Reading.{Reading, Stop, Cut, Wrong, Field, with_more, at_start, count_at, event_at, events_at}

-- how many events are still to come, None before their number was read; and where reading stands
pub record Pieces : Type 0 where
  pub left : Option ℕ
  pub reading : Reading

-- a body of so many bytes, of which none came
abbrev pub no_piece : ℕ → Pieces
no_piece limit = record { left = None; reading = at_start limit [] }

-- with one more piece
abbrev pub pushed : Pieces → List ℕ → Pieces
pushed pieces piece = record { left = pieces.left; reading = with_more pieces.reading piece }

-- the number of events to come, and where the next begins
abbrev pub left_by : Option ℕ → Field ℕ
left_by None r = count_at r
left_by (Some n) r = Ok (n, r)

-- what the next event is
pub data Next : Type 0 where
  -- this event, and the pieces behind it
  Given : Event → Pieces → Next
  -- the bytes end before it does
  Awaits : Next
  -- all were given
  Over : Next
  -- the field at this place is wrong
  Faulty : ℕ → Next

abbrev pub next_event : ℕ → Result (Event × Reading) Stop → Next
next_event n (Ok read) = Given read.0 (record { left = Some n; reading = read.1 })
next_event n (Err (Cut place)) = Awaits
next_event n (Err (Wrong place)) = Faulty place

abbrev pub next_of : ℕ → Reading → Next
next_of zero r = Over
next_of (suc n) r = next_event n (event_at r)

abbrev pub next_by : Result (ℕ × Reading) Stop → Next
next_by (Ok left) = next_of left.0 left.1
next_by (Err (Cut place)) = Awaits
next_by (Err (Wrong place)) = Faulty place

abbrev pub next_in : Pieces → Next
next_in pieces = next_by (left_by pieces.left pieces.reading)

abbrev pub is_over : Option ℕ → Bool
is_over None = false
is_over (Some n) = n == 0

-- where a body that ends here can't be read: behind its last event, or where its bytes end
abbrev pub end_fault : Pieces → Option ℕ
end_fault pieces =
    if is_over pieces.left then
    if length pieces.reading.rest == 0 && pieces.reading.at == pieces.reading.limit then None else Some pieces.reading.at
    else Some (pieces.reading.at + length pieces.reading.rest)

-- of a body of so many bytes these came, and these events were given
abbrev pub HasGivenBy : ℕ → Option ℕ → Reading → List ℕ → List Event → Type 0
HasGivenBy limit None r bytes given = (given ≡ []) × (r ≡ at_start limit bytes)
HasGivenBy limit (Some n) r bytes given = (start : Reading) × (count_at (at_start limit bytes) ≡ Ok (length given + n, start)) × (events_at (length given) start ≡ Ok (given, r))

abbrev pub HasGiven : ℕ → Pieces → List ℕ → List Event → Type 0
HasGiven limit pieces bytes given = HasGivenBy limit pieces.left pieces.reading bytes given
