-- However a body is cut into pieces, its events are those of the whole body.
use Rattle.std.proofs.Common.{◌≡◌, ℕ, zero, suc, ◌+◌, List, [], ◌∷◌, ◌++◌, length, Option, Some, None, Result, Ok, Err, refl, sym, ◌∙◌, ap, subst, arith, length-append}
use Rattle.definitions.specs.Spelling.{IsBytes}
use Rattle.record_rules.specs.Records.{Event}
use Rattle.std.specs.List.{flat_map}
use Rattle.std.specs.Int.{w32, to_be_bytes}
use Rattle.log_rules.specs.Body.{event_bytes}
use Rattle.log_rules.specs.Reading.{Reading, Stop, Cut, Wrong, ◌>>=◌, with_more, at_start, count_at, event_at, events_at, body_events_at}
use Rattle.log_rules.specs.Pieces.{Pieces, no_piece, pushed, left_by, Next, Given, Awaits, Over, Faulty, next_event, next_of, next_by, next_in, HasGivenBy, HasGiven}
use Rattle.log_rules.proofs.Readers.{bind_ok, ok_is}
use Rattle.log_rules.proofs.Bodies.{count_field, events_field}

-- ---- one event more

abbrev done : {A : Type 0} → A → Result A Stop
done x = Ok x

-- one more event behind those that were read
pub events_push : (n : ℕ) (r mid next : Reading) (events : List Event) (event : Event) → events_at n r ≡ Ok (events, mid) → event_at mid ≡ Ok (event, next) → events_at (suc n) r ≡ Ok (events ++ event ∷ [], next)
unfolding events_at
events_push zero r mid next events event e f =
    let same : ([], r) ≡ (events, mid) = ok_is _ _ e in
    let at_r : event_at r ≡ Ok (event, next) = ap (λ (p : List Event × Reading). event_at p.1) same ∙ f in
    ap (λ (s : Result (Event × Reading) Stop). s >>= λ event. Ok (event.0 ∷ [], event.1)) at_r ∙ ap (λ (p : List Event × Reading). done (p.0 ++ event ∷ [], next)) same
events_push (suc n) r mid next events event e f =
    let first = bind_ok (event_at r) (λ event. events_at n event.1 >>= λ later. Ok (event.0 ∷ later.0, later.1)) (events, mid) e in
    let later = bind_ok (events_at n first.0.1) (λ later. Ok (first.0.0 ∷ later.0, later.1)) (events, mid) first.2 in
    let same : (first.0.0 ∷ later.0.0, later.0.1) ≡ (events, mid) = ok_is _ _ later.2 in
    let at_later : event_at later.0.1 ≡ Ok (event, next) = ap (λ (p : List Event × Reading). event_at p.1) same ∙ f in
    let rest = events_push n first.0.1 later.0.1 next later.0.0 event later.1 at_later in
    ap (λ (s : Result (Event × Reading) Stop). s >>= λ event. events_at (suc n) event.1 >>= λ later. Ok (event.0 ∷ later.0, later.1)) first.1
    ∙ ap (λ (s : Result (List Event × Reading) Stop). s >>= λ later. Ok (first.0.0 ∷ later.0, later.1)) rest
    ∙ ap (λ (p : List Event × Reading). done (p.0 ++ event ∷ [], next)) same

-- where the event behind those that were read stops, so do more of them
pub events_stop : (n more : ℕ) (r mid : Reading) (events : List Event) (stop : Stop) → events_at n r ≡ Ok (events, mid) → event_at mid ≡ Err stop → events_at (n + suc more) r ≡ Err stop
unfolding events_at
events_stop zero more r mid events stop e f =
    let same : ([], r) ≡ (events, mid) = ok_is _ _ e in
    let at_r : event_at r ≡ Err stop = ap (λ (p : List Event × Reading). event_at p.1) same ∙ f in
    let plain : 0 + suc more ≡ suc more = omega arith in
    ap (λ (k : ℕ). events_at k r) plain ∙ ap (λ (s : Result (Event × Reading) Stop). s >>= λ event. events_at more event.1 >>= λ later. Ok (event.0 ∷ later.0, later.1)) at_r
events_stop (suc n) more r mid events stop e f =
    let first = bind_ok (event_at r) (λ event. events_at n event.1 >>= λ later. Ok (event.0 ∷ later.0, later.1)) (events, mid) e in
    let later = bind_ok (events_at n first.0.1) (λ later. Ok (first.0.0 ∷ later.0, later.1)) (events, mid) first.2 in
    let same : (first.0.0 ∷ later.0.0, later.0.1) ≡ (events, mid) = ok_is _ _ later.2 in
    let at_later : event_at later.0.1 ≡ Err stop = ap (λ (p : List Event × Reading). event_at p.1) same ∙ f in
    let rest = events_stop n more first.0.1 later.0.1 later.0.0 stop later.1 at_later in
    let plain : suc n + suc more ≡ suc (n + suc more) = omega arith in
    ap (λ (k : ℕ). events_at k r) plain
    ∙ ap (λ (s : Result (Event × Reading) Stop). s >>= λ event. events_at (n + suc more) event.1 >>= λ later. Ok (event.0 ∷ later.0, later.1)) first.1
    ∙ ap (λ (s : Result (List Event × Reading) Stop). s >>= λ later. Ok (first.0.0 ∷ later.0, later.1)) rest

-- ---- what was given, through each call

pub nothing_given : (limit : ℕ) → HasGiven limit (no_piece limit) [] []
nothing_given limit = (refl, refl)

pub given_pushed : (limit : ℕ) (pieces : Pieces) (bytes piece : List ℕ) (given : List Event) → HasGiven limit pieces bytes given → HasGiven limit (pushed pieces piece) (bytes ++ piece) given
given_pushed limit pieces bytes piece given has = by_left pieces.left pieces.reading has
  where
    by_left : (left : Option ℕ) (r : Reading) → HasGivenBy limit left r bytes given → HasGivenBy limit left (with_more r piece) (bytes ++ piece) given
    by_left None r has = (has.0, ap (λ (s : Reading). with_more s piece) has.1)
    by_left (Some n) r (start, counted, read) =
        (with_more start piece, count_field.longer (at_start limit bytes) piece (length given + n) start counted, (events_field (length given)).longer start piece given r read)

-- with the number read, nothing was given yet
counted_first : (limit n : ℕ) (r start : Reading) (bytes : List ℕ) (given : List Event) → HasGivenBy limit None r bytes given → count_at r ≡ Ok (n, start) → HasGivenBy limit (Some n) start bytes given
unfolding events_at
counted_first limit n r start bytes given has e =
    subst (λ (g : List Event). HasGivenBy limit (Some n) start bytes g) (sym has.0) (start, ap count_at (sym has.1) ∙ e ∙ ap (λ (k : ℕ). done (k, start)) (omega arith), refl)

same_next : (x y : Event) (p q : Pieces) → Given x p ≡ Given y q → (x ≡ y) × (p ≡ q)
same_next x y p q e = (cc, cc)

-- the event that is given is behind those that were
pub given_next : (limit : ℕ) (pieces next : Pieces) (bytes : List ℕ) (given : List Event) (event : Event) → HasGiven limit pieces bytes given → next_in pieces ≡ Given event next → HasGiven limit next bytes (given ++ event ∷ [])
given_next limit pieces next bytes given event has e = by_left pieces.left pieces.reading has e
  where
    by_event : (n : ℕ) (start r : Reading) (read : Result (Event × Reading) Stop) → event_at r ≡ read → count_at (at_start limit bytes) ≡ Ok (length given + suc n, start) → events_at (length given) start ≡ Ok (given, r) → next_event n read ≡ Given event next → HasGiven limit next bytes (given ++ event ∷ [])
    by_event n start r (Err (Cut place)) at_r counted read e = absurd cc
    by_event n start r (Err (Wrong place)) at_r counted read e = absurd cc
    by_event n start r (Ok (x, after)) at_r counted read e =
        let same = same_next x event (record { left = Some n; reading = after }) next e in
        let more : events_at (suc (length given)) start ≡ Ok (given ++ x ∷ [], after) = events_push (length given) start r after given x read at_r in
        let long : length (given ++ x ∷ []) ≡ suc (length given) = length-append given (x ∷ []) ∙ omega arith in
        let total : length given + suc n ≡ length (given ++ x ∷ []) + n = omega (arith, long) in
        let has : HasGivenBy limit (Some n) after bytes (given ++ x ∷ []) = (start, counted ∙ ap (λ (k : ℕ). done (k, start)) total, ap (λ (k : ℕ). events_at k start) long ∙ more) in
        subst (λ (p : Pieces). HasGiven limit p bytes (given ++ event ∷ [])) same.1 (subst (λ (y : Event). HasGivenBy limit (Some n) after bytes (given ++ y ∷ [])) same.0 has)

    by_some : (n : ℕ) (r : Reading) → HasGivenBy limit (Some n) r bytes given → next_of n r ≡ Given event next → HasGiven limit next bytes (given ++ event ∷ [])
    by_some zero r has e = absurd cc
    by_some (suc n) r (start, counted, read) e = by_event n start r (event_at r) refl counted read e

    by_count : (r : Reading) (read : Result (ℕ × Reading) Stop) → count_at r ≡ read → HasGivenBy limit None r bytes given → next_by read ≡ Given event next → HasGiven limit next bytes (given ++ event ∷ [])
    by_count r (Err (Cut place)) at_r has e = absurd cc
    by_count r (Err (Wrong place)) at_r has e = absurd cc
    by_count r (Ok (n, start)) at_r has e = by_some n start (counted_first limit n r start bytes given has at_r) e

    by_left : (left : Option ℕ) (r : Reading) → HasGivenBy limit left r bytes given → next_by (left_by left r) ≡ Given event next → HasGiven limit next bytes (given ++ event ∷ [])
    by_left (Some n) r has e = by_some n r has e
    by_left None r has e = by_count r (count_at r) refl has e

-- ---- and what that says of the whole

-- how the body so far reads, where no event is given next
abbrev pub ReadsAs : Next → ℕ → Reading → List ℕ → List Event → Type 0
ReadsAs (Given event next) limit r bytes given = Unit {0}
ReadsAs Awaits limit r bytes given = (place : ℕ) × (body_events_at (at_start limit bytes) ≡ Err (Cut place))
ReadsAs Over limit r bytes given = (last : Reading) × (body_events_at (at_start limit bytes) ≡ Ok (given, last))
ReadsAs (Faulty place) limit r bytes given = body_events_at (at_start limit bytes) ≡ Err (Wrong place)

pub reads_as : (limit : ℕ) (pieces : Pieces) (bytes : List ℕ) (given : List Event) → HasGiven limit pieces bytes given → ReadsAs (next_in pieces) limit pieces.reading bytes given
unfolding body_events_at
reads_as limit pieces bytes given has = by_left pieces.left pieces.reading has
  where
    stops : (n : ℕ) (start r : Reading) (stop : Stop) → count_at (at_start limit bytes) ≡ Ok (length given + suc n, start) → events_at (length given) start ≡ Ok (given, r) → event_at r ≡ Err stop → body_events_at (at_start limit bytes) ≡ Err stop
    stops n start r stop counted read e = ap (λ (s : Result (ℕ × Reading) Stop). s >>= λ n. events_at n.0 n.1) counted ∙ events_stop (length given) n start r given stop read e

    by_event : (n : ℕ) (start r : Reading) (read : Result (Event × Reading) Stop) → event_at r ≡ read → count_at (at_start limit bytes) ≡ Ok (length given + suc n, start) → events_at (length given) start ≡ Ok (given, r) → ReadsAs (next_event n read) limit r bytes given
    by_event n start r (Err (Cut place)) at_r counted read = (place, stops n start r (Cut place) counted read at_r)
    by_event n start r (Err (Wrong place)) at_r counted read = stops n start r (Wrong place) counted read at_r
    by_event n start r (Ok (x, after)) at_r counted read = tt

    by_some : (n : ℕ) (r : Reading) → HasGivenBy limit (Some n) r bytes given → ReadsAs (next_of n r) limit r bytes given
    by_some zero r (start, counted, read) = (r, ap (λ (s : Result (ℕ × Reading) Stop). s >>= λ n. events_at n.0 n.1) counted ∙ ap (λ (k : ℕ). events_at k start) (omega arith) ∙ read)
    by_some (suc n) r (start, counted, read) = by_event n start r (event_at r) refl counted read

    plain : (n : ℕ) (r other : Reading) → ReadsAs (next_of n r) limit r bytes given → ReadsAs (next_of n r) limit other bytes given
    plain n r other read = other_reading (next_of n r) r other read
      where
        other_reading : (next : Next) (r other : Reading) → ReadsAs next limit r bytes given → ReadsAs next limit other bytes given
        other_reading (Given event next) r other read = read
        other_reading Awaits r other read = read
        other_reading Over r other read = read
        other_reading (Faulty place) r other read = read

    by_count : (r : Reading) (read : Result (ℕ × Reading) Stop) → count_at r ≡ read → HasGivenBy limit None r bytes given → ReadsAs (next_by read) limit r bytes given
    by_count r (Err (Cut place)) at_r has = (place, ap (λ (s : Result (ℕ × Reading) Stop). s >>= λ n. events_at n.0 n.1) (ap count_at (sym has.1) ∙ at_r))
    by_count r (Err (Wrong place)) at_r has = ap (λ (s : Result (ℕ × Reading) Stop). s >>= λ n. events_at n.0 n.1) (ap count_at (sym has.1) ∙ at_r)
    by_count r (Ok (n, start)) at_r has = plain n start r (by_some n start (counted_first limit n r start bytes given has at_r))

    by_left : (left : Option ℕ) (r : Reading) → HasGivenBy limit left r bytes given → ReadsAs (next_by (left_by left r)) limit r bytes given
    by_left (Some n) r has = by_some n r has
    by_left None r has = by_count r (count_at r) refl has

-- no bytes are lost: what was passed and what is left are those that came
pub given_reaches : (limit : ℕ) (pieces : Pieces) (bytes : List ℕ) (given : List Event) → IsBytes bytes → HasGiven limit pieces bytes given → (pieces.reading.at + length pieces.reading.rest ≡ length bytes) × (pieces.reading.limit ≡ limit)
given_reaches limit pieces bytes given are has = by_left pieces.left pieces.reading has
  where
    by_left : (left : Option ℕ) (r : Reading) → HasGivenBy limit left r bytes given → (r.at + length r.rest ≡ length bytes) × (r.limit ≡ limit)
    by_left None r has = (ap (λ (s : Reading). s.at + length s.rest) has.1 ∙ omega arith, ap (λ (s : Reading). s.limit) has.1)
    by_left (Some n) r (start, counted, read) =
        let one = count_field.takes (at_start limit bytes) (length given + n) start are counted in
        let two = (events_field (length given)).takes start given r one.are_bytes read in
        let first = ap (λ (l : List ℕ). length l) one.parts ∙ length-append (to_be_bytes w32 (length given + n)) start.rest in
        let second = ap (λ (l : List ℕ). length l) two.parts ∙ length-append (flat_map event_bytes given) r.rest in
        (omega (arith, one.at_is, two.at_is, first, second), two.limit_is ∙ one.limit_is)
