-- What an owner holds after more entries.
use Rattle.std.proofs.Common.{◌≡◌, ◌≢◌, ℕ, List, [], ◌∷◌, ◌++◌, map, filter, Bool, true, false, cond, inl, inr, Option, Some, None, Result, Ok, Err, refl, sym, ◌∙◌, ap}
use Rattle.std.proofs.lemmas.Bool.{eq-eqb, ne_eqb, cases_Bool}
use Rattle.std.proofs.lemmas.List.{map-append, append-nil}
use Rattle.std.proofs.lemmas.List.Elements.{filter-append, filter_map-append}
use Rattle.record_rules.specs.Records.{SealedRecord, Caller, Entry, Taken}
use Rattle.record_rules.specs.Journal.{is_owned_by, owned_by, own, events_of, own_events, records_of, event_record}
use Rattle.record_rules.specs.Growth.{PageRefusal, taken_entry, batch_or, grow, grown, fresh_of, first_refusal}

pub own_events-append : (journal more : List Entry) (owner : ℕ) → own_events (journal ++ more) owner ≡ own_events journal owner ++ own_events more owner
own_events-append journal more owner = ap (filter (is_owned_by owner)) (map-append (λ (entry : Entry). entry.event) journal more) ∙ filter-append (is_owned_by owner) (events_of journal) (events_of more)

-- the owner's entries say what the owner holds, and hold all of it
pub own_says : (journal : List Entry) (owner : ℕ) → own_events journal owner ≡ events_of (own journal owner)
own_says [] owner = refl
own_says (entry ∷ journal) owner =
    let rest = own_says journal owner in
    elim (owned_by owner entry) as (λ b. cond b (entry.event ∷ own_events journal owner) (own_events journal owner) ≡ events_of (cond b (entry ∷ own journal owner) (own journal owner))) [
      | true ↦ ap (λ events. entry.event ∷ events) rest
      | false ↦ rest
    ]

-- a filter leaves what it let through
filter_again : {A : Type 0} (p : A → Bool) (xs : List A) → filter p (filter p xs) ≡ filter p xs
filter_again p [] = refl
filter_again p (x ∷ xs) =
    elim (cases_Bool (p x)) [
      | inl kept ↦ rw (kept, kept) (ap (λ rest. x ∷ rest) (filter_again p xs))
      | inr dropped ↦ rw dropped (filter_again p xs)
    ]

pub own_alone : (journal : List Entry) (owner : ℕ) → own_events journal owner ≡ own_events (own journal owner) owner
own_alone journal owner = sym (ap (filter (is_owned_by owner)) (sym (own_says journal owner)) ∙ filter_again (is_owned_by owner) (events_of journal))

-- what was taken in for an owner is that owner's
pub own_events_taken : (caller : Caller) (owner : ℕ) (records : List SealedRecord) → own_events (map (taken_entry caller owner) records) owner ≡ map (Taken owner) records
own_events_taken caller owner [] = refl
own_events_taken caller owner (r ∷ records) = rw (eq-eqb owner owner refl) (ap (λ events. Taken owner r ∷ events) (own_events_taken caller owner records))

-- and no one else's
pub own_events_taken_other : (caller : Caller) (owner other : ℕ) (records : List SealedRecord) → owner ≢ other → own_events (map (taken_entry caller owner) records) other ≡ []
own_events_taken_other caller owner other [] differ = refl
own_events_taken_other caller owner other (r ∷ records) differ = rw (ne_eqb owner other differ) (own_events_taken_other caller owner other records differ)

-- a growth leaves what the others hold
pub own_events_grown_other : (journal : List Entry) (caller : Caller) (owner other : ℕ) (page : List SealedRecord) → owner ≢ other → own_events (grown journal (grow journal caller owner page)) other ≡ own_events journal other
own_events_grown_other journal caller owner other page differ = by_refusal (first_refusal owner (own_events journal owner) [] page)
  where
    fresh : List SealedRecord
    fresh = fresh_of (records_of (own_events journal owner)) page

    by_refusal : (refusal : Option PageRefusal) → own_events (grown journal (batch_or (map (taken_entry caller owner) (fresh_of (records_of (own_events journal owner)) page)) refusal)) other ≡ own_events journal other
    by_refusal None = own_events-append journal (map (taken_entry caller owner) (fresh_of (records_of (own_events journal owner)) page)) other ∙ ap (λ events. own_events journal other ++ events) (own_events_taken_other caller owner other (fresh_of (records_of (own_events journal owner)) page) differ) ∙ append-nil (own_events journal other)
    by_refusal (Some refusal) = refl

-- the same result leaves the same to an owner who held the same
pub own_events_grown_same : (journal like : List Entry) (owner : ℕ) (result : Result (List Entry) PageRefusal) → own_events journal owner ≡ own_events like owner → own_events (grown journal result) owner ≡ own_events (grown like result) owner
own_events_grown_same journal like owner (Ok batch) same = own_events-append journal batch owner ∙ ap (λ events. events ++ own_events batch owner) same ∙ sym (own_events-append like batch owner)
own_events_grown_same journal like owner (Err refusal) same = same

pub records_of_taken : (owner : ℕ) (records : List SealedRecord) → records_of (map (Taken owner) records) ≡ records
records_of_taken owner [] = refl
records_of_taken owner (r ∷ records) = ap (λ rest. r ∷ rest) (records_of_taken owner records)

-- what was taken in for an owner stands behind its records
pub records_after : (journal : List Entry) (caller : Caller) (owner : ℕ) (records : List SealedRecord) → records_of (own_events (journal ++ map (taken_entry caller owner) records) owner) ≡ records_of (own_events journal owner) ++ records
records_after journal caller owner records =
    ap records_of (own_events-append journal (map (taken_entry caller owner) records) owner) ∙ filter_map-append event_record (own_events journal owner) (own_events (map (taken_entry caller owner) records) owner) ∙ ap (λ events. records_of (own_events journal owner) ++ records_of events) (own_events_taken caller owner records) ∙ ap (λ rest. records_of (own_events journal owner) ++ rest) (records_of_taken owner records)
