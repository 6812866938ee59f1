-- What one more entry makes of a journal, and one more record of a page.
use Rattle.std.proofs.Common.{◌≡◌, ℕ, ◌+◌, Bool, true, false, not, ◌&&◌, ◌||◌, cond, List, [], ◌∷◌, ◌++◌, length, filter, Some, None, sym, refl, ◌∙◌, ap, arith}
use Rattle.std.specs.Prelude.{sum_by, ◌==◌}
use Rattle.std.specs.List.{list_any}
use Rattle.std.proofs.lemmas.List.{append-nil, length_push}
use Rattle.std.proofs.lemmas.List.Sums.{sum_by-append}
use Rattle.std.proofs.lemmas.List.Folds.{list_any-append}
use Rattle.std.proofs.lemmas.List.Elements.{filter-append, filter_map-append}
use Rattle.definitions.specs.Journal.{StartedRecord}
use Rattle.record_rules.specs.Records.{SealedRecord, Entry, Event, Started, Local, Taken, event_weight}
use Rattle.record_rules.specs.Journal.{event_record, event_place, is_owned_by, events_of, own_events, records_of, in_place, chain, status, count_at, held_of, held, places_of, places_added, closes_id, still_running, running}
use Rattle.record_rules.specs.OneMore.{own_with, chain_with, running_with, held_with}
use Rattle.record_rules.specs.Growth.{same_place, is_fresh, fresh_of, wanted_idx}
use Rattle.record_rules.proofs.Owned.{own_events-append}
use Rattle.record_rules.proofs.Soundness.{events_more}
use Rattle.record_rules.proofs.Totals.{places_more}
use Rattle.record_rules.proofs.Status.{status_counts}
use Rattle.record_rules.proofs.Growth.{fresh_of-push}

-- one more, where there is one
pub put_if : {A : Type 0} (b : Bool) (xs : List A) (x : A) → xs ++ cond b (x ∷ []) [] ≡ cond b (xs ++ x ∷ []) xs
put_if true xs x = refl
put_if false xs x = append-nil xs

-- ---- one more entry

pub own_with_one : (journal : List Entry) (entry : Entry) (owner : ℕ) → own_events (journal ++ entry ∷ []) owner ≡ own_with owner (own_events journal owner) entry.event
own_with_one journal entry owner = own_events-append journal (entry ∷ []) owner ∙ put_if (is_owned_by owner entry.event) (own_events journal owner) entry.event

module _ (host : ℕ) (tag : List ℕ) (records : List SealedRecord) where
  -- the record of an event, where it is owned and of that host and tag
  record_put : (owned : Bool) (event : Event) (r : SealedRecord) → event_record event ≡ Some r → records ++ filter (in_place host tag) (records_of (cond owned (event ∷ []) [])) ≡ cond (owned && in_place host tag r) (records ++ r ∷ []) records
  record_put true (Started s) r e = absurd cc
  record_put true (Local closes other) r e = let same : other ≡ r = cc in put_if (in_place host tag other) records other ∙ ap (λ (x : SealedRecord). cond (in_place host tag x) (records ++ x ∷ []) records) same
  record_put true (Taken whose other) r e = let same : other ≡ r = cc in put_if (in_place host tag other) records other ∙ ap (λ (x : SealedRecord). cond (in_place host tag x) (records ++ x ∷ []) records) same
  record_put false event r e = append-nil records

  nothing_put : (owned : Bool) (s : StartedRecord) → records ++ filter (in_place host tag) (records_of (cond owned (Started s ∷ []) [])) ≡ records
  nothing_put true s = append-nil records
  nothing_put false s = append-nil records

  event_put : (owner : ℕ) (event : Event) → records ++ filter (in_place host tag) (records_of (cond (is_owned_by owner event) (event ∷ []) [])) ≡ chain_with owner host tag records event
  event_put owner (Started s) = nothing_put (is_owned_by owner (Started s)) s
  event_put owner (Local closes r) = record_put (is_owned_by owner (Local closes r)) (Local closes r) r refl
  event_put owner (Taken whose r) = record_put (is_owned_by owner (Taken whose r)) (Taken whose r) r refl

pub chain_with_one : (journal : List Entry) (entry : Entry) (owner host : ℕ) (tag : List ℕ) → chain (journal ++ entry ∷ []) owner host tag ≡ chain_with owner host tag (chain journal owner host tag) entry.event
chain_with_one journal entry owner host tag =
    let owned = own_events journal owner in
    let added = own_events (entry ∷ []) owner in
    ap (λ events. filter (in_place host tag) (records_of events)) (own_events-append journal (entry ∷ []) owner)
    ∙ ap (filter (in_place host tag)) (filter_map-append event_record (own_events journal owner) (own_events (entry ∷ []) owner))
    ∙ filter-append (in_place host tag) (records_of (own_events journal owner)) (records_of (own_events (entry ∷ []) owner))
    ∙ event_put host tag (chain journal owner host tag) owner entry.event

-- a start that something later closes doesn't run, with one more event that closes nothing
module _ (s : StartedRecord) (later : List Event) (before after : List StartedRecord) where
  kept : (closed : Bool) (put : List StartedRecord → List StartedRecord) → ((x : StartedRecord) (xs : List StartedRecord) → put (x ∷ xs) ≡ x ∷ put xs) → after ≡ put before → cond (closed || (false || false)) after (s ∷ after) ≡ put (cond closed before (s ∷ before))
  kept true put first e = e
  kept false put first e = ap (λ rest. s ∷ rest) e ∙ sym (first s before)

  dropped : (closed : Bool) (id : ℕ) → after ≡ filter (λ (x : StartedRecord). not (id == x.id)) before → cond (closed || ((id == s.id) || false)) after (s ∷ after) ≡ filter (λ (x : StartedRecord). not (id == x.id)) (cond closed before (s ∷ before))
  dropped true id e = e
  dropped false id e = elim (id == s.id) as (λ b. cond (b || false) after (s ∷ after) ≡ cond (not b) (s ∷ filter (λ (x : StartedRecord). not (id == x.id)) before) (filter (λ (x : StartedRecord). not (id == x.id)) before)) [
    | true ↦ e
    | false ↦ ap (λ rest. s ∷ rest) e
  ]

still_with_one : (events : List Event) (event : Event) → still_running (events ++ event ∷ []) ≡ running_with (still_running events) event
still_with_one [] (Started t) = refl
still_with_one [] (Local None r) = refl
still_with_one [] (Local (Some id) r) = refl
still_with_one [] (Taken owner r) = refl
still_with_one (Started s ∷ later) (Started t) =
    ap (λ b. cond b (still_running (later ++ Started t ∷ [])) (s ∷ still_running (later ++ Started t ∷ []))) (list_any-append (closes_id s.id) later (Started t ∷ []))
    ∙ kept s later (still_running later) (still_running (later ++ Started t ∷ [])) (list_any (closes_id s.id) later) (λ xs. xs ++ t ∷ []) (λ x xs. refl) (still_with_one later (Started t))
still_with_one (Started s ∷ later) (Local None r) =
    ap (λ b. cond b (still_running (later ++ Local None r ∷ [])) (s ∷ still_running (later ++ Local None r ∷ []))) (list_any-append (closes_id s.id) later (Local None r ∷ []))
    ∙ kept s later (still_running later) (still_running (later ++ Local None r ∷ [])) (list_any (closes_id s.id) later) (λ xs. xs) (λ x xs. refl) (still_with_one later (Local None r))
still_with_one (Started s ∷ later) (Local (Some id) r) =
    ap (λ b. cond b (still_running (later ++ Local (Some id) r ∷ [])) (s ∷ still_running (later ++ Local (Some id) r ∷ []))) (list_any-append (closes_id s.id) later (Local (Some id) r ∷ []))
    ∙ dropped s later (still_running later) (still_running (later ++ Local (Some id) r ∷ [])) (list_any (closes_id s.id) later) id (still_with_one later (Local (Some id) r))
still_with_one (Started s ∷ later) (Taken owner r) =
    ap (λ b. cond b (still_running (later ++ Taken owner r ∷ [])) (s ∷ still_running (later ++ Taken owner r ∷ []))) (list_any-append (closes_id s.id) later (Taken owner r ∷ []))
    ∙ kept s later (still_running later) (still_running (later ++ Taken owner r ∷ [])) (list_any (closes_id s.id) later) (λ xs. xs) (λ x xs. refl) (still_with_one later (Taken owner r))
still_with_one (Local closes r ∷ later) event = still_with_one later event
still_with_one (Taken owner r ∷ later) event = still_with_one later event

pub running_with_one : (journal : List Entry) (entry : Entry) → running (journal ++ entry ∷ []) ≡ running_with (running journal) entry.event
running_with_one journal entry = ap still_running (events_more journal entry) ∙ still_with_one (events_of journal) entry.event

pub held_with_one : (journal : List Entry) (entry : Entry) (owner : ℕ) → held (journal ++ entry ∷ []) owner ≡ held_with owner (own_events journal owner) entry.event
held_with_one journal entry owner = ap held_of (own_with_one journal entry owner) ∙ by (is_owned_by owner entry.event)
  where
    owned : List Event
    owned = own_events journal owner

    by : (b : Bool) → held_of (cond b (own_events journal owner ++ entry.event ∷ []) (own_events journal owner))
        ≡ cond b (record { entries = length (own_events journal owner) + 1; weight = sum_by event_weight (own_events journal owner) + event_weight entry.event; places = length (places_of (records_of (own_events journal owner))) + places_added (own_events journal owner) (event_place entry.event) }) (held_of (own_events journal owner))
    by true =
        let sum = sum_by-append event_weight (own_events journal owner) (entry.event ∷ []) in
        let weight : sum_by event_weight (own_events journal owner ++ entry.event ∷ []) ≡ sum_by event_weight (own_events journal owner) + event_weight entry.event = omega (arith, sum) in
        let entries = length_push (own_events journal owner) entry.event in
        let places = places_more (own_events journal owner) entry.event in
        λ i. record { entries = entries i; weight = weight i; places = places i }
    by false = refl

pub count_with_one : (journal : List Entry) (entry : Entry) (owner host : ℕ) (tag : List ℕ) → count_at (status (journal ++ entry ∷ []) owner) host tag ≡ length (chain_with owner host tag (chain journal owner host tag) entry.event)
count_with_one journal entry owner host tag = status_counts (journal ++ entry ∷ []) owner host tag ∙ ap (λ (records : List SealedRecord). length records) (chain_with_one journal entry owner host tag)

-- ---- one more record of a page

pub fresh_with_one : (records : List SealedRecord) (r other : SealedRecord) → is_fresh (records ++ r ∷ []) other ≡ (is_fresh records other && not (same_place other r))
fresh_with_one records r other = ap not (list_any-append (same_place other) records (r ∷ [])) ∙ by (list_any (same_place other) records) (same_place other r)
  where
    by : (a b : Bool) → not (a || (b || false)) ≡ (not a && not b)
    by true b = refl
    by false true = refl
    by false false = refl

pub fresh_of_with_one : (records page : List SealedRecord) (r : SealedRecord) → fresh_of records (page ++ r ∷ []) ≡ cond (is_fresh (records ++ page) r) (fresh_of records page ++ r ∷ []) (fresh_of records page)
fresh_of_with_one records page r = fresh_of-push records page r ∙ put_if (is_fresh (records ++ page) r) (fresh_of records page) r

module _ (owned : List Event) (page : List SealedRecord) (r next : SealedRecord) where
  abbrev at : SealedRecord → Bool
  at x = in_place next.host next.tag x

  abbrev here : ℕ
  here = length (filter at (records_of owned))

  abbrev fresh : List SealedRecord
  fresh = fresh_of (records_of owned) page

  one_wanted : (b : Bool) → here + length (filter at fresh ++ cond b (r ∷ []) []) ≡ cond b (here + length (filter at fresh) + 1) (here + length (filter at fresh))
  one_wanted true = let longer = length_push (filter at fresh) r in omega (arith, longer)
  one_wanted false = ap (λ (records : List SealedRecord). here + length records) (append-nil (filter at fresh))

  more_wanted : (b : Bool) → here + length (filter at (cond b (fresh ++ r ∷ []) fresh)) ≡ cond (b && at r) (here + length (filter at fresh) + 1) (here + length (filter at fresh))
  more_wanted true = ap (λ (records : List SealedRecord). here + length records) (filter-append at fresh (r ∷ [])) ∙ one_wanted (at r)
  more_wanted false = refl

  pub wanted_with_one : wanted_idx owned (page ++ r ∷ []) next ≡ cond (is_fresh (records_of owned ++ page) r && in_place next.host next.tag r) (wanted_idx owned page next + 1) (wanted_idx owned page next)
  wanted_with_one = ap (λ (records : List SealedRecord). here + length (filter at records)) (fresh_of_with_one (records_of owned) page r) ∙ more_wanted (is_fresh (records_of owned ++ page) r)
