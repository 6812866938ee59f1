-- The next event of a body in pieces.
use Rattle.std.proofs.Common.{◌≡◌, ℕ, suc, ◌+◌, ◌-◌, ◌≤◌, List, length, take, drop, Some, None, Ok, sym, ◌∙◌, ap, arith}
use Rattle.std.proofs.lemmas.List.{length-drop, drop-drop, take_all}
use Rattle.std.proofs.lemmas.List.Edits.{take-paste}
use Rattle.std.specs.List.{copy_within}
use Rattle.record_rules.specs.Records.{Event}
use Rattle.log_rules.specs.Reading.{Reading, Cut, Wrong, count_at, event_at}
use Rattle.log_rules.specs.Pieces.{Pieces, left_by, Given, Over, next_event, next_by, next_in}
use Rattle.log_rules.proofs.Moves.{Moved}
use Rattle.log_format.specs.declared.fails.Halt.{Halt}
use Rattle.log_format.specs.declared.fails.Halt.TheVariants as halts
use Rattle.log_format.specs.Answers.{Stops, StopsNext}

-- the number of events can't be read yet, or not at all
pub count_stops_next : (halt : Halt) (r : Reading) → Stops (count_at r) halt → StopsNext (record { left = None; reading = r }) halt
count_stops_next (halts.Cut place) r stops = ap next_by stops
count_stops_next (halts.Wrong place) r stops = ap next_by stops
count_stops_next halts.NoMemory r stops = tt

-- so many are to come, and the next begins there
pub event_stops_next : (halt : Halt) (pieces : Pieces) (n : ℕ) (r : Reading) → left_by pieces.left pieces.reading ≡ Ok (suc n, r) → Stops (event_at r) halt → StopsNext pieces halt
event_stops_next (halts.Cut place) pieces n r left stops = ap next_by left ∙ ap (next_event n) stops
event_stops_next (halts.Wrong place) pieces n r left stops = ap next_by left ∙ ap (next_event n) stops
event_stops_next halts.NoMemory pieces n r left stops = tt

pub event_given : (pieces : Pieces) (n : ℕ) (r after : Reading) (event : Event) → left_by pieces.left pieces.reading ≡ Ok (suc n, r) → event_at r ≡ Ok (event, after) → next_in pieces ≡ Given event (record { left = Some n; reading = after })
event_given pieces n r after event left read = ap next_by left ∙ ap (next_event n) read

pub none_left : (pieces : Pieces) (r : Reading) → left_by pieces.left pieces.reading ≡ Ok (0, r) → next_in pieces ≡ Over
none_left pieces r left = ap next_by left

-- ---- the bytes that are left

-- the bytes behind the next event are the last of those that were held
pub unread_inside : (held : List ℕ) (start unread count : ℕ) (r after : Reading) → start ≤ length held → r.rest ≡ drop start held → Moved r after → unread ≡ length after.rest → count ≡ length held → unread ≤ count
unread_inside held start unread count r after inside rest_is (n, fits, after_is) is all =
    omega (arith, is, all, ap (λ (s : Reading). length s.rest) after_is, length-drop n r.rest, ap (λ (l : List ℕ). length l) rest_is, length-drop start held)

pub after_is_held : (held : List ℕ) (start unread count limit : ℕ) (r after : Reading) → start ≤ length held → r.rest ≡ drop start held → r.limit ≡ limit → Moved r after → unread ≡ length after.rest → count ≡ length held
    → after ≡ record { limit = limit; at = after.at; rest = drop (count - unread) held }
after_is_held held start unread count limit r after inside rest_is limit_is (n, fits, after_is) is all =
    let counted = length-drop n r.rest in
    let place : count - unread ≡ start + n = omega (arith, is, all, ap (λ (s : Reading). length s.rest) after_is, counted, fits, inside, ap (λ (l : List ℕ). length l) rest_is, length-drop start held) in
    let there : after.rest ≡ drop (count - unread) held = ap (λ (s : Reading). s.rest) after_is ∙ ap (drop n) rest_is ∙ drop-drop n start held ∙ ap (λ (k : ℕ). drop k held) (sym place) in
    let same_limit : after.limit ≡ limit = ap (λ (s : Reading). s.limit) after_is ∙ limit_is in
    λ i. record { limit = same_limit i; at = after.at; rest = there i }

pub still_within : (held : List ℕ) (start unread count limit : ℕ) (r after : Reading) → start ≤ length held → r.rest ≡ drop start held → r.at + length (drop start held) ≤ limit → Moved r after → unread ≡ length after.rest → count ≡ length held
    → (count - unread ≤ length held) × (after.at + length (drop (count - unread) held) ≤ limit)
still_within held start unread count limit r after inside rest_is within (n, fits, after_is) is all =
    let counted = length-drop n r.rest in
    let same = ap (λ (l : List ℕ). length l) rest_is in
    let there = ap (λ (s : Reading). length s.rest) after_is in
    let place = ap (λ (s : Reading). s.at) after_is in
    (omega (arith, all), omega (arith, is, all, there, counted, fits, inside, same, length-drop start held, within, place, length-drop (count - unread) held))

-- the front of the bytes is forgotten
pub kept_bytes : (held : List ℕ) (start : ℕ) → start ≤ length held → take (length held - start) (copy_within held start (length held) 0) ≡ drop start held
kept_bytes held start inside =
    let long = length-drop start held in
    let plain : length held - start ≡ 0 + (length held - start) = omega arith in
    ap (λ (n : ℕ). take n (copy_within held start (length held) 0)) plain
    ∙ take-paste held 0 (drop start held) (length held - start) (omega arith) (omega (arith, long))
    ∙ take_all (length held - start) (drop start held) (omega (arith, long))
