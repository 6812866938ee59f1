-- The prefix of a sound journal is sound, and its last entry may follow that prefix.
use Rattle.std.proofs.Common.{◌≡◌, ◌≢◌, ℕ, ◌+◌, ◌<◌, ◌≤◌, false, cond, inl, inr, List, [], ◌∷◌, ◌++◌, length, filter, take, Some, None, refl, sym, ◌∙◌, ap, subst, arith, append_assoc}
use Rattle.std.specs.Prelude.{IfSome, slice_get, All, IsTrue, sum_by, nat_lt}
use Rattle.std.specs.Option.{option_or}
use Rattle.std.proofs.lemmas.Bool.{true≢false, eqb-true, le-ltb, cases_eq}
use Rattle.std.proofs.lemmas.Option.{slice_get_within}
use Rattle.std.proofs.lemmas.List.{append-nil, map-append, take_at, take-append-le, get_or_append_left, get_or_push, length_push}
use Rattle.std.proofs.lemmas.List.Sums.{sum_by-append}
use Rattle.std.proofs.lemmas.List.Elements.{filter-append, filter_map-append}
use Rattle.definitions.specs.Journal.{StartedRecord}
use Rattle.definitions.specs.Limits.{most_entries, most_held_weight, most_places}
use Rattle.record_rules.specs.Records.{SealedRecord, Entry, Event, Started, Local, Taken, event_weight}
use Rattle.record_rules.specs.Journal.{event_owner, event_record, event_place, events_of, own_of, records_of, in_place, IsNumbered, EventFits, IsOfHost, TotalsFit, held_of, places_of, places_added, limit_passed, closes_id, is_running, PassedLimit, SoundEvents, Sound, MayComeNext, MayFollow}
use Rattle.record_rules.proofs.Options.{slice_get_prefix, slice_get_last}
use Rattle.record_rules.proofs.Spots.{in_place_itself}
use Rattle.record_rules.proofs.Soundness.{ClosesRunning, StartedApart, events_more, owned_more, owned_same}
use Rattle.record_rules.proofs.Totals.{places_more}

-- ---- of a list with one more element

All_prefix : {A : Type 0} (P : A → Type 0) (xs : List A) (y : A) → All P (xs ++ y ∷ []) → All P xs
All_prefix P xs y all k d within = subst P (get_or_append_left xs (y ∷ []) d k within) (all k d (let longer = length_push xs y in omega arith))

All_last : {A : Type 0} (P : A → Type 0) (xs : List A) (y : A) → All P (xs ++ y ∷ []) → P y
All_last P xs y all = subst P (get_or_push xs y y (length xs) refl) (all (length xs) y (let longer = length_push xs y in omega arith))

slice_get_kept : {A : Type 0} (xs ys : List A) (k : ℕ) (x : A) → slice_get xs k ≡ Some x → slice_get (xs ++ ys) k ≡ Some x
slice_get_kept xs ys k x at = slice_get_prefix xs ys k (slice_get_within xs k x at) ∙ at

IsNumbered_prefix : (records more : List SealedRecord) → IsNumbered (records ++ more) → IsNumbered records
IsNumbered_prefix records more numbered k r at = numbered k r (slice_get_kept records more k r at)

closes_prefix : (events : List Event) (event : Event) → ClosesRunning (events ++ event ∷ []) → ClosesRunning events
closes_prefix events event all k closed r at =
    let within : k < length events = slice_get_within events k (Local (Some closed) r) at in
    subst (λ prefix. IsTrue (is_running closed prefix)) (take-append-le k events (event ∷ []) (omega arith)) (all k closed r (slice_get_kept events (event ∷ []) k (Local (Some closed) r) at))

closes_last : (events : List Event) (event : Event) → ClosesRunning (events ++ event ∷ []) → (closed : ℕ) → IsTrue (closes_id closed event) → IsTrue (is_running closed events)
closes_last events (Started s) all closed closes = absurd (true≢false (sym closes))
closes_last events (Local None r) all closed closes = absurd (true≢false (sym closes))
closes_last events (Local (Some id) r) all closed closes =
    let here : IsTrue (is_running id (take (length events) (events ++ Local (Some id) r ∷ []))) = all (length events) id r (slice_get_last events (Local (Some id) r)) in
    subst (λ n. IsTrue (is_running n events)) (eqb-true id closed closes) (subst (λ prefix. IsTrue (is_running id prefix)) (take_at events (Local (Some id) r ∷ []) (length events) refl) here)
closes_last events (Taken owner r) all closed closes = absurd (true≢false (sym closes))

apart_prefix : (events : List Event) (event : Event) → StartedApart (events ++ event ∷ []) → StartedApart events
apart_prefix events event all i k s t below at_i at_k = all i k s t below (slice_get_kept events (event ∷ []) i (Started s) at_i) (slice_get_kept events (event ∷ []) k (Started t) at_k)

apart_last : (events : List Event) (event : Event) → StartedApart (events ++ event ∷ []) → (k : ℕ) (s t : StartedRecord) → slice_get events k ≡ Some (Started s) → event ≡ Started t → s.id ≢ t.id
apart_last events event all k s t at is = all k (length events) s t (slice_get_within events k (Started s) at) (slice_get_kept events (event ∷ []) k (Started s) at) (slice_get_last events event ∙ ap Some is)

-- ---- totals

pub held_shorter : (events : List Event) (event : Event) → TotalsFit (held_of (events ++ event ∷ [])) → TotalsFit (held_of events)
held_shorter events event fit = record {
  entries = let longer = length_push events event in let h = fit.entries in omega arith;
  weight = let heavier = sum_by-append event_weight events (event ∷ []) in let h = fit.weight in omega arith;
  places = let wider = places_more events event in let h = fit.places in omega arith;
}

pub held_last : (events : List Event) (event : Event) → TotalsFit (held_of (events ++ event ∷ [])) → limit_passed events (event_weight event) (event_place event) ≡ None
held_last events event fit =
    let few : nat_lt most_entries (length events + 1) ≡ false = le-ltb most_entries (length events + 1) (subst (λ n. n ≤ most_entries) (length_push events event) fit.entries) in
    let light : nat_lt most_held_weight (sum_by event_weight events + event_weight event) ≡ false = le-ltb most_held_weight (sum_by event_weight events + event_weight event) (let heavier : sum_by event_weight (events ++ event ∷ []) ≡ sum_by event_weight events + (0 + event_weight event) = sum_by-append event_weight events (event ∷ []) in let h = fit.weight in omega arith) in
    let narrow : nat_lt most_places (length (places_of (records_of events)) + places_added events (event_place event)) ≡ false = le-ltb most_places (length (places_of (records_of events)) + places_added events (event_place event)) (subst (λ n. n ≤ most_places) (places_more events event) fit.places) in
    λ i. option_or {T = PassedLimit} (cond (few i) (Some (record { what = 1; held = length events })) None) (option_or (cond (light i) (Some (record { what = 2; held = sum_by event_weight events })) None) (cond (narrow i) (Some (record { what = 3; held = length (places_of (records_of events)) })) None))

pub held_prefix : (events more : List Event) → TotalsFit (held_of (events ++ more)) → TotalsFit (held_of events)
held_prefix events [] fit = subst (λ all. TotalsFit (held_of all)) (append-nil events) fit
held_prefix events (event ∷ more) fit = held_shorter events event (held_prefix (events ++ event ∷ []) more (subst (λ all. TotalsFit (held_of all)) (sym (append_assoc events (event ∷ []) more)) fit))

-- ---- of events with one more

record_is_next : (records : List SealedRecord) (r : SealedRecord) → IsNumbered (filter (in_place r.host r.tag) (records ++ r ∷ [])) → r.idx ≡ length (filter (in_place r.host r.tag) records)
record_is_next records r numbered =
    let before = filter (in_place r.host r.tag) records in
    let grows : filter (in_place r.host r.tag) (records ++ r ∷ []) ≡ before ++ r ∷ [] = filter-append (in_place r.host r.tag) records (r ∷ []) ∙ ap (λ b. filter (in_place r.host r.tag) records ++ cond b (r ∷ []) []) (in_place_itself r) in
    subst IsNumbered grows numbered (length before) r (slice_get_last before r)

last_is_next : (events : List Event) (event : Event) → ((at : ℕ) (tag : List ℕ) → IsNumbered (filter (in_place at tag) (records_of (events ++ event ∷ [])))) → IfSome (event_record event) (λ r. r.idx ≡ length (filter (in_place r.host r.tag) (records_of events)))
last_is_next events (Started s) numbered = tt
last_is_next events (Local closes r) numbered = record_is_next (records_of events) r (subst (λ records. IsNumbered (filter (in_place r.host r.tag) records)) (filter_map-append event_record events (Local closes r ∷ [])) (numbered r.host r.tag))
last_is_next events (Taken owner r) numbered = record_is_next (records_of events) r (subst (λ records. IsNumbered (filter (in_place r.host r.tag) records)) (filter_map-append event_record events (Taken owner r ∷ [])) (numbered r.host r.tag))

chain_prefix : (host : ℕ) (tag : List ℕ) (events more : List Event) → IsNumbered (filter (in_place host tag) (records_of (events ++ more))) → IsNumbered (filter (in_place host tag) (records_of events))
chain_prefix host tag events more numbered =
    let split : filter (in_place host tag) (records_of (events ++ more)) ≡ filter (in_place host tag) (records_of events) ++ filter (in_place host tag) (records_of more) = ap (filter (in_place host tag)) (filter_map-append event_record events more) ∙ filter-append (in_place host tag) (records_of events) (records_of more) in
    IsNumbered_prefix (filter (in_place host tag) (records_of events)) (filter (in_place host tag) (records_of more)) (subst IsNumbered split numbered)

-- what holds of what an owner holds with the event holds without it
without_event : (events : List Event) (event : Event) (P : List Event → Type 0) → ((owned : List Event) → P (owned ++ event ∷ []) → P owned) → (owner : ℕ) → P (own_of (events ++ event ∷ []) owner) → P (own_of events owner)
without_event events event P shorter owner all =
    elim (cases_eq (event_owner event) owner) [
      | inl own ↦ subst (λ o. P (own_of events o)) own (shorter (own_of events (event_owner event)) (subst P (owned_more events event) (subst (λ o. P (own_of (events ++ event ∷ []) o)) (sym own) all)))
      | inr differ ↦ subst P (owned_same events event owner differ) all
    ]

pub SoundEvents-shorter : (events : List Event) (host : ℕ) (event : Event) → SoundEvents (events ++ event ∷ []) host → SoundEvents events host
SoundEvents-shorter events host event sound = record {
  numbered = λ owner at tag. without_event events event (λ owned. IsNumbered (filter (in_place at tag) (records_of owned))) (λ owned. chain_prefix at tag owned (event ∷ [])) owner (sound.numbered owner at tag);
  made_here = All_prefix (IsOfHost host) events event sound.made_here;
  closes_running = closes_prefix events event sound.closes_running;
  started_apart = apart_prefix events event sound.started_apart;
  events_fit = All_prefix EventFits events event sound.events_fit;
  held_fits = λ owner. without_event events event (λ owned. TotalsFit (held_of owned)) (λ owned. held_shorter owned event) owner (sound.held_fits owner);
}

pub last_may_come : (events : List Event) (host : ℕ) (event : Event) → SoundEvents (events ++ event ∷ []) host → MayComeNext events host event
last_may_come events host event sound =
    let owner = event_owner event in
    let owned = own_of events (event_owner event) in
    let more : own_of (events ++ event ∷ []) owner ≡ owned ++ event ∷ [] = owned_more events event in
    record {
      numbered = last_is_next owned event (λ at tag. subst (λ held. IsNumbered (filter (in_place at tag) (records_of held))) more (sound.numbered owner at tag));
      made_here = All_last (IsOfHost host) events event sound.made_here;
      closes_running = closes_last events event sound.closes_running;
      started_apart = apart_last events event sound.started_apart;
      event_fits = All_last EventFits events event sound.events_fit;
      held_fits = held_last owned event (subst (λ held. TotalsFit (held_of held)) more (sound.held_fits owner));
    }

-- events are sound as far as any place
pub SoundEvents-prefix : (events more : List Event) (host : ℕ) → SoundEvents (events ++ more) host → SoundEvents events host
SoundEvents-prefix events [] host sound = subst (λ all. SoundEvents all host) (append-nil events) sound
SoundEvents-prefix events (event ∷ more) host sound = SoundEvents-shorter events host event (SoundEvents-prefix (events ++ event ∷ []) more host (subst (λ all. SoundEvents all host) (sym (append_assoc events (event ∷ []) more)) sound))

-- ---- journals

pub Sound-shorter : (journal : List Entry) (host : ℕ) (entry : Entry) → Sound (journal ++ entry ∷ []) host → Sound journal host
Sound-shorter journal host entry sound = SoundEvents-shorter (events_of journal) host entry.event (subst (λ events. SoundEvents events host) (events_more journal entry) sound)

pub last_may_follow : (journal : List Entry) (host : ℕ) (entry : Entry) → Sound (journal ++ entry ∷ []) host → MayFollow journal host entry.event
last_may_follow journal host entry sound = last_may_come (events_of journal) host entry.event (subst (λ events. SoundEvents events host) (events_more journal entry) sound)

pub Sound-prefix : (journal more : List Entry) (host : ℕ) → Sound (journal ++ more) host → Sound journal host
Sound-prefix journal more host sound = SoundEvents-prefix (events_of journal) (events_of more) host (subst (λ events. SoundEvents events host) (map-append (λ (e : Entry). e.event) journal more) sound)
