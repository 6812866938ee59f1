-- What stands at a spot is read back.
use Rattle.std.proofs.Common.{◌≡◌, inl, inr, ℕ, ◌+◌, ◌-◌, ◌<◌, ◌≤◌, ◌^◌, List, ◌∷◌, ◌++◌, length, take, drop, refl, sym, ◌∙◌, ap, subst, arith, append_assoc, length-append, Option, Some, None, Result, Ok, Err}
use Rattle.std.specs.Prelude.{IfSome, min, slice_get}
use Rattle.std.specs.Int.{w32, to_be_bytes, from_be_bytes}
use Rattle.std.proofs.lemmas.Nat.{from_be_bytes-to_be_bytes_4}
use Rattle.std.proofs.lemmas.List.{take_at, drop_at, drop-drop, length-take, take-append-drop, take-append-le, drop-append-le}
use Rattle.definitions.specs.Spelling.{IsBytes}
use Rattle.record_rules.specs.Records.{Event}
use Rattle.log_rules.specs.Body.{body_bytes, IsBatch}
use Rattle.log_rules.specs.Log.{batch_bytes, current_form, payload_bytes}
use Rattle.log_rules.specs.Reading.{body_at}
use Rattle.log_rules.proofs.Bodies.{body_is_read, read_body}
use Rattle.log_rules.proofs.Spots.{one_batch_at}
use Rattle.disk_rules.specs.Append.{Begins}
use Rattle.disk_rules.specs.History.{History}
use Rattle.log_check.specs.Forms.{form_of, digest_bytes}
use Rattle.log_check.specs.declared.forms.LogForm.{LogForm}
use Rattle.log_check.specs.declared.forms.LogForm.TheVariants.{Current}
use Rattle.log_check.proofs.Batches.{digest_counted}
use Rattle.disk_rules.proofs.Steps.{gate_inside}
use Rattle.record_log.specs.Gates.{IsAtRest}
use Rattle.record_log.specs.OldLogs.{IsOldLogTo}
use Rattle.record_log.specs.declared.spots.Spot.{Spot}
use Rattle.record_log.specs.Reading.{spot_seen, BatchIn, SomeBatchIn, OpensHere, IsGateIn, gate_behind, BatchBefore, SomeBatch, SomeEvent, EventBefore, IsBody, BodyThere, HasBody, IsBatchOf, StartsBehind, first_count}

-- where the batch stands, in the bytes that the disk shows
module _ (form : LogForm) (gate : ℕ) (shows : List ℕ) (spot : Spot) (events : List Event) (is : BatchIn (form_of form) gate shows spot events) where
  abbrev pub whole : List ℕ
  whole = batch_bytes (form_of form) spot.offset (record { gate = is.gate; events = events })

  abbrev pub body : List ℕ
  body = body_bytes events

  abbrev pub digest : List ℕ
  digest = (form_of form).digest spot.offset body

  abbrev pub behind : List ℕ
  behind = is.behind ++ drop gate shows

  all : shows ≡ is.before ++ (is.gate ∷ (payload_bytes (form_of form) spot.offset events ++ behind))
  all = sym (take-append-drop gate shows) ∙ ap (λ (l : List ℕ). l ++ drop gate shows) is.bytes_are ∙ append_assoc (is.before ++ whole) is.behind (drop gate shows) ∙ append_assoc is.before whole behind

  from_gate : drop (length is.before) shows ≡ is.gate ∷ (payload_bytes (form_of form) spot.offset events ++ behind)
  from_gate = ap (drop (length is.before)) all ∙ drop_at is.before (is.gate ∷ (payload_bytes (form_of form) spot.offset events ++ behind)) (length is.before) refl

  pub behind_gate : drop (spot.offset + 1) shows ≡ payload_bytes (form_of form) spot.offset events ++ behind
  behind_gate = ap (λ (n : ℕ). drop (n + 1) shows) is.offset_is ∙ sym (drop-drop 1 (length is.before) shows) ∙ ap (drop 1) from_gate

  pub from_body : drop (spot.offset + 5) shows ≡ body ++ (digest ++ behind)
  from_body = ap (λ (n : ℕ). drop (n + 5) shows) is.offset_is ∙ sym (drop-drop 5 (length is.before) shows) ∙ ap (drop 5) from_gate ∙ append_assoc body digest behind

  pub body_taken : take spot.count (drop (spot.offset + 5) shows) ≡ body
  body_taken = ap (take spot.count) from_body ∙ take_at body (digest ++ behind) spot.count (sym is.count_is)

  -- the length before it
  pub number_taken : take 4 (drop (spot.offset + 1) shows) ≡ to_be_bytes w32 spot.count
  number_taken = ap (take 4) behind_gate ∙ ap (to_be_bytes w32) (sym is.count_is)

  -- all of it is before the gate
  bytes_counted : length is.before + (5 + digest_bytes form) + spot.count ≤ length (take gate shows)
  bytes_counted =
      let parts = ap (λ (l : List ℕ). length l) is.bytes_are in
      let one = length-append (is.before ++ whole) is.behind in
      let two = length-append is.before whole in
      let three = length-append (to_be_bytes w32 (length body) ++ body) digest in
      let four = length-append (to_be_bytes w32 (length body)) body in
      let sized = digest_counted form spot.offset body in
      let count_is = is.count_is in
      omega (arith, parts, one, two, three, four, sized, count_is)

  pub ends_before : spot.offset + (5 + digest_bytes form) + spot.count ≤ gate
  ends_before = let kept = length-take gate shows in let counted = bytes_counted in let place = is.offset_is in omega (arith, kept, counted, place)

  pub ends_inside : spot.offset + (5 + digest_bytes form) + spot.count ≤ length shows
  ends_inside = let kept = length-take gate shows in let counted = bytes_counted in let place = is.offset_is in omega (arith, kept, counted, place)

-- ---- bodies

same_events : (one two : List Event) → ◌≡◌ {A = Result (List Event) ℕ} (Ok one) (Ok two) → one ≡ two
same_events one two e = cc

no_events : (place : ℕ) (events : List Event) → ◌≡◌ {A = Result (List Event) ℕ} (Err place) (Ok events) → ⊥
no_events place events e = cc

-- one body is that of one batch
pub one_body : (one two : List Event) → IsBatch one → IsBatch two → body_bytes one ≡ body_bytes two → one ≡ two
one_body one two is also same = same_events one two (sym (body_is_read one is) ∙ ap body_at same ∙ body_is_read two also)

-- one that doesn't hold what was read doesn't tell
pub untold : (seen : Option History) → IfSome seen (λ _. ⊥) → seen ≡ None
untold None never = refl
untold (Some history) never = absurd never

-- what reads as no body can't come from a disk that tells
pub body_misread : (body : List ℕ) (place : ℕ) (seen : Option History) → IfSome seen (λ _. IsBody body) → body_at body ≡ Err place → seen ≡ None
body_misread body place seen whole wrong = untold seen (never seen whole)
  where
    never : (seen : Option History) → IfSome seen (λ _. IsBody body) → IfSome seen (λ _. ⊥)
    never None whole = tt
    never (Some history) whole = no_events place whole.events (sym wrong ∙ ap body_at whole.bytes_are ∙ body_is_read whole.events whole.batch)

pub body_read : (body : List ℕ) (count : ℕ) (events : List Event) → IsBytes body → count < 2 ^ 32 → length body ≡ count → body_at body ≡ Ok events → IsBatchOf count events × (body ≡ body_bytes events)
body_read body count events bytes small long reads =
    let is = read_body body events bytes (subst (λ n. n < 2 ^ 32) (sym long) small) reads in
    ((is.0, sym long ∙ ap (λ (l : List ℕ). length l) is.1), is.1)

-- ---- by a spot

pub body_there : (gate : ℕ) (spot : Spot) (seen : Option History) → gate < 2 ^ 64 → IfSome seen (λ h. SomeBatch gate h.now.shows spot) → IfSome seen (λ h. BodyThere spot.offset spot.count h.now.shows)
body_there gate spot None fits some = tt
body_there gate spot (Some history) fits some =
    let inside = ends_inside Current gate history.now.shows spot some.0 some.1 in
    let before = ends_before Current gate history.now.shows spot some.0 some.1 in
    record {
      inside = omega (arith, inside);
      fits = omega (arith, before, fits);
      body = record { events = some.0; batch = some.1.batch; bytes_are = body_taken Current gate history.now.shows spot some.0 some.1 };
    }

-- a body that is read is that of the batch there
same_batch : (form : LogForm) (gate : ℕ) (shows : List ℕ) (spot : Spot) (events others : List Event) → BatchIn (form_of form) gate shows spot others → IsBatch events → HasBody spot.offset spot.count shows events → BatchIn (form_of form) gate shows spot events
same_batch form gate shows spot events others is batch has =
    subst (BatchIn (form_of form) gate shows spot) (one_body others events is.batch batch (sym (body_taken form gate shows spot others is) ∙ has)) is

pub batch_back : (gate : ℕ) (spot : Spot) (events : List Event) (seen : Option History) → IfSome seen (λ h. SomeBatch gate h.now.shows spot) → IsBatch events → IfSome seen (λ h. HasBody spot.offset spot.count h.now.shows events) → IfSome seen (λ h. BatchBefore gate h.now.shows spot events)
batch_back gate spot events None some batch has = tt
batch_back gate spot events (Some history) some batch has = same_batch Current gate history.now.shows spot events some.0 some.1 batch has

-- where it is read from
pub body_inside : (at : ℕ) (spot : Spot) (seen : Option History) → at ≡ min (spot.offset + 5) (2 ^ 64 - 1) → IfSome seen (λ h. BodyThere spot.offset spot.count h.now.shows) → IfSome seen (λ h. at + spot.count ≤ length h.now.shows)
body_inside at spot None at_is there = tt
body_inside at spot (Some history) at_is there = let inside = there.inside in omega (arith, at_is, inside)

body_place : (at : ℕ) (shows : List ℕ) (spot : Spot) → at ≡ min (spot.offset + 5) (2 ^ 64 - 1) → BodyThere spot.offset spot.count shows → at ≡ spot.offset + 5
body_place at shows spot at_is there = let fits = there.fits in omega (arith, at_is, fits)

pub body_given : (at : ℕ) (spot : Spot) (bytes : List ℕ) (seen : Option History) → at ≡ min (spot.offset + 5) (2 ^ 64 - 1) → IfSome seen (λ h. BodyThere spot.offset spot.count h.now.shows) → IfSome seen (λ h. bytes ≡ take spot.count (drop at h.now.shows)) → IfSome seen (λ _. IsBody bytes)
body_given at spot bytes None at_is there are = tt
body_given at spot bytes (Some history) at_is there are =
    subst IsBody (ap (λ (n : ℕ). take spot.count (drop n history.now.shows)) (sym (body_place at history.now.shows spot at_is there)) ∙ sym are) there.body

pub body_had : (at : ℕ) (spot : Spot) (bytes : List ℕ) (events : List Event) (seen : Option History) → at ≡ min (spot.offset + 5) (2 ^ 64 - 1) → IfSome seen (λ h. BodyThere spot.offset spot.count h.now.shows) → IfSome seen (λ h. bytes ≡ take spot.count (drop at h.now.shows)) → bytes ≡ body_bytes events
    → IfSome seen (λ h. HasBody spot.offset spot.count h.now.shows events)
body_had at spot bytes events None at_is there are body_is = tt
body_had at spot bytes events (Some history) at_is there are body_is =
    ap (λ (n : ℕ). take spot.count (drop n history.now.shows)) (sym (body_place at history.now.shows spot at_is there)) ∙ sym are ∙ body_is

-- ---- one event

-- the batch that is there has as many events as the one that was asked for
pub event_inside : (gate at : ℕ) (spot : Spot) (events : List Event) (seen : Option History) → IfSome seen (λ h. SomeEvent gate h.now.shows spot at) → IfSome seen (λ h. BatchBefore gate h.now.shows spot events) → IfSome seen (λ _. at < length events)
event_inside gate at spot events None some is = tt
event_inside gate at spot events (Some history) some is =
    subst (λ (l : List Event). at < length l) (one_batch_at current_form (take gate history.now.shows) (spot_seen spot) some.0 events some.1 is) some.2

pub event_back : (gate at : ℕ) (spot : Spot) (events : List Event) (event : Event) (seen : Option History) → slice_get events at ≡ Some event → IfSome seen (λ h. BatchBefore gate h.now.shows spot events) → IfSome seen (λ h. EventBefore gate h.now.shows spot at event)
event_back gate at spot events event None is batch = tt
event_back gate at spot events event (Some history) is batch = record { events = events; batch = batch; event_is = is }

pub never_outside : (at count : ℕ) (seen new : Option History) → (at < count → ⊥) → IfSome seen (λ _. at < count) → new ≡ seen → new ≡ None
never_outside at count None new outside inside same = same
never_outside at count (Some history) new outside inside same = absurd (outside inside)

-- ---- the first bytes behind a gate

-- what is asked for stands before the closed gate
pub first_inside : (gate offset at count : ℕ) (seen : Option History) → at ≡ min (offset + 1) (2 ^ 64 - 1) → count ≡ first_count gate offset 1024 → IfSome seen (λ h. (offset + 5 ≤ gate) × (gate ≤ length h.now.shows)) → IfSome seen (λ h. at + count ≤ length h.now.shows)
first_inside gate offset at count None at_is count_is inside = tt
first_inside gate offset at count (Some history) at_is count_is inside = let before = inside.0 in let whole = inside.1 in omega (arith, at_is, count_is, before, whole)

pub first_given : (gate offset at count : ℕ) (bytes : List ℕ) (seen : Option History) → gate < 2 ^ 64 → at ≡ min (offset + 1) (2 ^ 64 - 1) → count ≡ first_count gate offset 1024 → IfSome seen (λ h. (offset + 5 ≤ gate) × (gate ≤ length h.now.shows))
    → length bytes ≡ count → IfSome seen (λ h. bytes ≡ take count (drop at h.now.shows)) → IfSome seen (λ h. StartsBehind offset bytes h.now.shows)
first_given gate offset at count bytes None fits at_is count_is inside long are = tt
first_given gate offset at count bytes (Some history) fits at_is count_is inside long are =
    let before = inside.0 in
    let place : at ≡ offset + 1 = omega (arith, at_is, before, fits) in
    let rest = drop (offset + 1) history.now.shows in
    let first : bytes ≡ take count rest = are ∙ ap (λ (n : ℕ). take count (drop n history.now.shows)) place in
    ((drop count rest, sym (take-append-drop count rest) ∙ ap (λ (l : List ℕ). l ++ drop count rest) (sym first)), omega (arith, long, count_is, before, fits))

-- the length there, where the disk tells, is that of the body
module _ (form : LogForm) (gate offset : ℕ) (shows first : List ℕ) (opens : OpensHere (form_of form) gate offset shows) (starts : StartsBehind offset first shows) where
  abbrev here : Spot
  here = record { offset = offset; count = opens.count }

  count_fits : opens.count < 2 ^ 32
  count_fits = subst (λ n. n < 2 ^ 32) (sym opens.batch.1.count_is) opens.batch.1.batch.body

  number_is : (count : ℕ) → count ≡ from_be_bytes w32 (take 4 first) → count ≡ opens.count
  number_is count is =
      let more = starts.0.0 in
      let there : take 4 (drop (offset + 1) shows) ≡ take 4 first = ap (take 4) starts.0.1 ∙ take-append-le 4 first more starts.1 in
      is ∙ ap (from_be_bytes w32) (sym there ∙ number_taken form gate shows here opens.batch.0 opens.batch.1) ∙ from_be_bytes-to_be_bytes_4 opens.count count_fits

  ahead_begins : (ahead : List ℕ) → ahead ≡ drop 4 first → Begins ahead (drop (offset + 5) shows)
  ahead_begins ahead is =
      let more = starts.0.0 in
      (more, sym (drop-drop 4 (offset + 1) shows ∙ ap (λ (n : ℕ). drop n shows) (let same : offset + 1 + 4 ≡ offset + 5 = omega arith in same)) ∙ ap (drop 4) starts.0.1 ∙ drop-append-le 4 first more starts.1 ∙ ap (λ (l : List ℕ). l ++ more) (sym is))

  there : (count : ℕ) → gate < 2 ^ 64 → count ≡ opens.count → BodyThere offset count shows
  there count fits is =
      let before = ends_before form gate shows here opens.batch.0 opens.batch.1 in
      let inside = opens.inside in
      record {
        inside = omega (arith, before, inside, is);
        fits = omega (arith, before, fits);
        body = subst (λ (n : ℕ). IsBody (take n (drop (offset + 5) shows))) (sym is) (record { events = opens.batch.0; batch = opens.batch.1.batch; bytes_are = body_taken form gate shows here opens.batch.0 opens.batch.1 });
      }

  within : (count next : ℕ) → gate < 2 ^ 64 → next ≡ gate_behind form offset count → count ≡ opens.count → (offset < next) × (next ≤ gate)
  within count next fits next_is is =
      let before = ends_before form gate shows here opens.batch.0 opens.batch.1 in
      (omega (arith, before, fits, next_is, is), omega (arith, before, fits, next_is, is))

  batch_here : (count : ℕ) (events : List Event) → count ≡ opens.count → IsBatch events → HasBody offset count shows events → BatchIn (form_of form) gate shows (record { offset = offset; count = count }) events
  batch_here count events is batch has =
      subst (λ (n : ℕ). BatchIn (form_of form) gate shows (record { offset = offset; count = n }) events) (sym is)
      (same_batch form gate shows here events opens.batch.0 opens.batch.1 batch (subst (λ (n : ℕ). HasBody offset n shows events) is has))

-- ---- on a disk that may tell

module _ (form : LogForm) (gate offset : ℕ) (old : Option History) (opens : IfSome old (λ h. OpensHere (form_of form) gate offset h.now.shows)) where
  pub before_gate : IfSome old (λ h. (offset + 5 ≤ gate) × (gate ≤ length h.now.shows))
  before_gate = by old opens
    where
      by : (seen : Option History) → IfSome seen (λ h. OpensHere (form_of form) gate offset h.now.shows) → IfSome seen (λ h. (offset + 5 ≤ gate) × (gate ≤ length h.now.shows))
      by None opens = tt
      by (Some h) opens =
          let before = ends_before form gate h.now.shows (record { offset = offset; count = opens.count }) opens.batch.0 opens.batch.1 in
          (omega (arith, before), opens.inside)

  module _ (first : List ℕ) (starts : IfSome old (λ h. StartsBehind offset first h.now.shows)) where
    -- what is too short for a length can't come from a disk that tells
    pub no_number : length first < 4 → old ≡ None
    no_number short = untold old (by old starts)
      where
        by : (seen : Option History) → IfSome seen (λ h. StartsBehind offset first h.now.shows) → IfSome seen (λ _. ⊥)
        by None starts = tt
        by (Some h) starts = let long = starts.1 in absurd (omega (arith, short, long))

    module _ (count next : ℕ) (fits : gate < 2 ^ 64) (number : count ≡ from_be_bytes w32 (take 4 first)) (next_is : next ≡ gate_behind form offset count) where
      pub not_within : ((offset < next) × (next ≤ gate) → ⊥) → old ≡ None
      not_within outside = untold old (by old opens starts)
        where
          by : (seen : Option History) → IfSome seen (λ h. OpensHere (form_of form) gate offset h.now.shows) → IfSome seen (λ h. StartsBehind offset first h.now.shows) → IfSome seen (λ _. ⊥)
          by None opens starts = tt
          by (Some h) opens starts = outside (within form gate offset h.now.shows first opens starts count next fits next_is (number_is form gate offset h.now.shows first opens starts count number))

      pub body_is_there : IfSome old (λ h. BodyThere offset count h.now.shows)
      body_is_there = by old opens starts
        where
          by : (seen : Option History) → IfSome seen (λ h. OpensHere (form_of form) gate offset h.now.shows) → IfSome seen (λ h. StartsBehind offset first h.now.shows) → IfSome seen (λ h. BodyThere offset count h.now.shows)
          by None opens starts = tt
          by (Some h) opens starts = there form gate offset h.now.shows first opens starts count fits (number_is form gate offset h.now.shows first opens starts count number)

      pub ahead_is : (ahead : List ℕ) → ahead ≡ drop 4 first → IfSome old (λ h. Begins ahead (drop (offset + 5) h.now.shows))
      ahead_is ahead is = by old opens starts
        where
          by : (seen : Option History) → IfSome seen (λ h. OpensHere (form_of form) gate offset h.now.shows) → IfSome seen (λ h. StartsBehind offset first h.now.shows) → IfSome seen (λ h. Begins ahead (drop (offset + 5) h.now.shows))
          by None opens starts = tt
          by (Some h) opens starts = ahead_begins form gate offset h.now.shows first opens starts ahead is

      pub batch_is_here : (events : List Event) → IsBatch events → IfSome old (λ h. HasBody offset count h.now.shows events) → IfSome old (λ h. BatchIn (form_of form) gate h.now.shows (record { offset = offset; count = count }) events)
      batch_is_here events batch has = by old opens starts has
        where
          by : (seen : Option History) → IfSome seen (λ h. OpensHere (form_of form) gate offset h.now.shows) → IfSome seen (λ h. StartsBehind offset first h.now.shows) → IfSome seen (λ h. HasBody offset count h.now.shows events)
              → IfSome seen (λ h. BatchIn (form_of form) gate h.now.shows (record { offset = offset; count = count }) events)
          by None opens starts has = tt
          by (Some h) opens starts has = batch_here form gate offset h.now.shows first opens starts count events (number_is form gate offset h.now.shows first opens starts count number) batch has

-- ---- the body ahead

-- where the first bytes have all of it
pub ahead_taken : (spot : Spot) (ahead bytes : List ℕ) (shows : List ℕ) → Begins ahead (drop (spot.offset + 5) shows) → spot.count ≤ length ahead → bytes ≡ take spot.count ahead → take spot.count (drop (spot.offset + 5) shows) ≡ bytes
ahead_taken spot ahead bytes shows begins within is = ap (take spot.count) begins.1 ∙ take-append-le spot.count ahead begins.0 within ∙ sym is

pub ahead_given : (spot : Spot) (ahead bytes : List ℕ) (seen : Option History) → IfSome seen (λ h. BodyThere spot.offset spot.count h.now.shows) → IfSome seen (λ h. Begins ahead (drop (spot.offset + 5) h.now.shows)) → spot.count ≤ length ahead → bytes ≡ take spot.count ahead → IfSome seen (λ _. IsBody bytes)
ahead_given spot ahead bytes None there begins within is = tt
ahead_given spot ahead bytes (Some h) there begins within is = subst IsBody (ahead_taken spot ahead bytes h.now.shows begins within is) there.body

pub ahead_had : (spot : Spot) (ahead bytes : List ℕ) (events : List Event) (seen : Option History) → IfSome seen (λ h. Begins ahead (drop (spot.offset + 5) h.now.shows)) → spot.count ≤ length ahead → bytes ≡ take spot.count ahead → bytes ≡ body_bytes events → IfSome seen (λ h. HasBody spot.offset spot.count h.now.shows events)
ahead_had spot ahead bytes events None begins within is body_is = tt
ahead_had spot ahead bytes events (Some h) begins within is body_is = ahead_taken spot ahead bytes h.now.shows begins within is ∙ body_is

-- ---- a gate

-- the closed gate is shown
pub rest_inside : (gate : ℕ) (seen : Option History) → IfSome seen (λ h. IsAtRest gate h.now) → IfSome seen (λ h. gate ≤ length h.now.shows)
rest_inside gate None rests = tt
rest_inside gate (Some h) rests = let inside = gate_inside rests.prefix h.now rests.settled in let place = rests.gate_is in omega (arith, inside, place)

pub old_inside : (host gate : ℕ) (seen : Option History) → IfSome seen (λ h. IsOldLogTo host gate h.now.shows) → IfSome seen (λ h. gate ≤ length h.now.shows)
old_inside host gate None is = tt
old_inside host gate (Some h) is = let kept = length-take gate h.now.shows in let place = is.log.place in omega (arith, kept, place)

pub gate_opens : (form : LogForm) (gate offset : ℕ) (seen : Option History) → (offset ≡ gate → ⊥) → IfSome seen (λ h. gate ≤ length h.now.shows) → IfSome seen (λ h. IsGateIn (form_of form) gate offset h.now.shows) → IfSome seen (λ h. OpensHere (form_of form) gate offset h.now.shows)
gate_opens form gate offset None other inside is = tt
gate_opens form gate offset (Some history) other inside (inl closed) = absurd (other closed)
gate_opens form gate offset (Some history) other inside (inr (spot, at, some)) = record {
  inside = inside;
  count = spot.count;
  batch = subst (λ (o : ℕ). SomeBatchIn (form_of form) gate history.now.shows (record { offset = o; count = spot.count })) at some;
}
