-- A body that is read whole.
use Rattle.std.proofs.Common.{◌≡◌, ℕ, suc, ◌+◌, ◌-◌, ◌<◌, ◌≤◌, cond, List, [], ◌∷◌, ◌++◌, length, Result, Ok, Err, refl, sym, ◌∙◌, ap, arith}
use Rattle.std.specs.Prelude.{◌==◌, Bool, false}
use Rattle.std.proofs.lemmas.Bool.Decides.{nat_tests}
use Rattle.std.proofs.lemmas.List.{map-append}
use Rattle.record_rules.specs.Records as kept
use Rattle.log_rules.specs.Reading.{Reading, Stop, Cut, Wrong, ◌>>=◌, at_start, count_at, event_at, events_at, body_events_at, whole_body, body_at}
use Rattle.log_rules.proofs.Pieces.{events_push, events_stop}
use Rattle.record_model.specs.declared.entries.Event.{Event}
use Rattle.record_model.specs.Seen.{event_seen, events_seen}
use Rattle.log_format.specs.declared.fails.Halt.{Halt}
use Rattle.log_format.specs.declared.fails.Halt.TheVariants as halts
use Rattle.log_format.specs.Fails.{whole_fail}
use Rattle.log_format.specs.Answers.{Stops, FailsAs}

-- an event more
pub one_more : (n m : ℕ) (r mid next : Reading) (events more : List Event) (event : Event) → events_at n r ≡ Ok (events_seen events, mid) → event_at mid ≡ Ok (event_seen event, next) → more ≡ events ++ event ∷ [] → m ≡ n + 1 → events_at m r ≡ Ok (events_seen more, next)
one_more n m r mid next events more event read one is count =
    let plain : m ≡ suc n = omega (arith, count) in
    ap (λ (k : ℕ). events_at k r) plain ∙ events_push n r mid next (events_seen events) (event_seen event) read one
    ∙ ap (λ (l : List kept.Event). taken (l, next)) (sym (map-append event_seen events (event ∷ [])) ∙ ap events_seen (sym is))
  where
    taken : List kept.Event × Reading → Result (List kept.Event × Reading) Stop
    taken read = Ok read

-- where the next event stops, so does the whole
pub whole_stops : (halt : Halt) (n count : ℕ) (r mid : Reading) (events : List Event) → events_at n r ≡ Ok (events_seen events, mid) → n < count → Stops (event_at mid) halt → FailsAs (whole_body (events_at count r)) (whole_fail halt)
whole_stops halts.NoMemory n count r mid events read below stops = tt
whole_stops (halts.Cut place) n count r mid events read below stops =
    let total : count ≡ n + suc (count - n - 1) = omega (arith, below) in
    ap (λ (k : ℕ). whole_body (events_at k r)) total ∙ ap whole_body (events_stop n (count - n - 1) r mid (events_seen events) (Cut place) read stops)
whole_stops (halts.Wrong place) n count r mid events read below stops =
    let total : count ≡ n + suc (count - n - 1) = omega (arith, below) in
    ap (λ (k : ℕ). whole_body (events_at k r)) total ∙ ap whole_body (events_stop n (count - n - 1) r mid (events_seen events) (Wrong place) read stops)

-- where the number of events can't be read
pub count_stops : (halt : Halt) (bytes : List ℕ) → Stops (count_at (at_start (length bytes) bytes)) halt → FailsAs (body_at bytes) (whole_fail halt)
unfolding body_events_at
count_stops halts.NoMemory bytes stops = tt
count_stops (halts.Cut place) bytes stops = ap (λ (s : Result (ℕ × Reading) Stop). whole_body (s >>= λ n. events_at n.0 n.1)) stops
count_stops (halts.Wrong place) bytes stops = ap (λ (s : Result (ℕ × Reading) Stop). whole_body (s >>= λ n. events_at n.0 n.1)) stops

-- with it read, the body is its events
pub counted_body : (bytes : List ℕ) (count : ℕ) (r : Reading) → count_at (at_start (length bytes) bytes) ≡ Ok (count, r) → body_at bytes ≡ whole_body (events_at count r)
unfolding body_events_at
counted_body bytes count r counted = ap (λ (s : Result (ℕ × Reading) Stop). whole_body (s >>= λ n. events_at n.0 n.1)) counted

-- no event yet
pub no_event : (r : Reading) (events : List Event) → events ≡ [] → events_at 0 r ≡ Ok (events_seen events, r)
unfolding events_at
no_event r events none = ap (λ (l : List Event). read_so (events_seen l, r)) (sym none)
  where
    read_so : List kept.Event × Reading → Result (List kept.Event × Reading) Stop
    read_so read = Ok read

not_zero : (n : ℕ) → (suc n == 0) ≡ false
not_zero n = grind (arith, nat_tests)

abbrev chosen : Bool → List kept.Event → ℕ → Result (List kept.Event) ℕ
chosen none events place = cond none (Ok events) (Err place)

-- bytes are left, or none
pub whole_with_rest : (count : ℕ) (start r : Reading) (events : List kept.Event) → events_at count start ≡ Ok (events, r) → 0 < length r.rest → whole_body (events_at count start) ≡ Err r.at
whole_with_rest count start r events read some = ap whole_body read ∙ some_left r.rest events r.at some
  where
    some_left : (rest : List ℕ) (events : List kept.Event) (place : ℕ) → 0 < length rest → ◌≡◌ {A = Result (List kept.Event) ℕ} (cond (length rest == 0) (Ok events) (Err place)) (Err place)
    some_left [] events place some = absurd (omega (arith, some))
    some_left (b ∷ rest) events place some = ap (λ (t : Bool). chosen t events place) (not_zero (length rest))

pub whole_without_rest : (count : ℕ) (start r : Reading) (events : List kept.Event) → events_at count start ≡ Ok (events, r) → length r.rest ≤ 0 → whole_body (events_at count start) ≡ Ok events
whole_without_rest count start r events read none = ap whole_body read ∙ none_left r.rest events r.at none
  where
    none_left : (rest : List ℕ) (events : List kept.Event) (place : ℕ) → length rest ≤ 0 → ◌≡◌ {A = Result (List kept.Event) ℕ} (cond (length rest == 0) (Ok events) (Err place)) (Ok events)
    none_left [] events place none = refl
    none_left (b ∷ rest) events place none = absurd (omega (arith, none))
