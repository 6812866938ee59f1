-- Chains with one more event.
use Rattle.std.proofs.Common.{◌≡◌, ℕ, cond, inl, inr, List, [], ◌∷◌, ◌++◌, length, filter, sym, ◌∙◌, ap, subst}
use Rattle.std.specs.Prelude.{IfSome}
use Rattle.std.proofs.lemmas.Bool.{cases_Bool}
use Rattle.std.proofs.lemmas.List.{append-nil}
use Rattle.std.proofs.lemmas.List.Elements.{filter-append, filter_map-append}
use Rattle.record_rules.specs.Records.{SealedRecord, Event, Started, Local, Taken}
use Rattle.record_rules.specs.Journal.{event_record, records_of, in_place, IsNumbered}
use Rattle.record_rules.proofs.Options.{slice_get_push}
use Rattle.record_rules.proofs.Spots.{in_place-true}

pub IsNumbered-push : (records : List SealedRecord) (r : SealedRecord) → IsNumbered records → r.idx ≡ length records → IsNumbered (records ++ r ∷ [])
IsNumbered-push records r numbered next k x at =
    elim (slice_get_push records r x k at) [
      | inl old ↦ numbered k x old.1
      | inr new ↦ ap (λ (y : SealedRecord). y.idx) (sym new.1) ∙ next ∙ sym new.0
    ]

-- what one more record does to the chain of a place
pub IsNumbered_in_place-push : (host : ℕ) (tag : List ℕ) (records : List SealedRecord) (r : SealedRecord) → IsNumbered (filter (in_place host tag) records) → r.idx ≡ length (filter (in_place r.host r.tag) records) → IsNumbered (filter (in_place host tag) (records ++ r ∷ []))
IsNumbered_in_place-push host tag records r numbered next =
    elim (cases_Bool (in_place host tag r)) [
      | inl inside ↦
          let at = in_place-true host tag r inside in
          let grows : filter (in_place host tag) (records ++ r ∷ []) ≡ filter (in_place host tag) records ++ r ∷ [] = filter-append (in_place host tag) records (r ∷ []) ∙ ap (λ b. filter (in_place host tag) records ++ cond b (r ∷ []) []) inside in
          let here : r.idx ≡ length (filter (in_place host tag) records) = next ∙ (λ i. length (filter (in_place (at.host_is i) (at.tag_is i)) records)) in
          subst IsNumbered (sym grows) (IsNumbered-push (filter (in_place host tag) records) r numbered here)
      | inr outside ↦
          let stays : filter (in_place host tag) (records ++ r ∷ []) ≡ filter (in_place host tag) records = filter-append (in_place host tag) records (r ∷ []) ∙ ap (λ b. filter (in_place host tag) records ++ cond b (r ∷ []) []) outside ∙ append-nil (filter (in_place host tag) records) in
          subst IsNumbered (sym stays) numbered
    ]

pub chains_stay_numbered : (host : ℕ) (tag : List ℕ) (owned : List Event) (event : Event) → IsNumbered (filter (in_place host tag) (records_of owned)) → IfSome (event_record event) (λ r. r.idx ≡ length (filter (in_place r.host r.tag) (records_of owned))) → IsNumbered (filter (in_place host tag) (records_of (owned ++ event ∷ [])))
chains_stay_numbered host tag owned (Started s) numbered next =
    let stays : records_of (owned ++ Started s ∷ []) ≡ records_of owned = filter_map-append event_record owned (Started s ∷ []) ∙ append-nil (records_of owned) in
    subst (λ records. IsNumbered (filter (in_place host tag) records)) (sym stays) numbered
chains_stay_numbered host tag owned (Local closes r) numbered next =
    subst (λ records. IsNumbered (filter (in_place host tag) records)) (sym (filter_map-append event_record owned (Local closes r ∷ []))) (IsNumbered_in_place-push host tag (records_of owned) r numbered next)
chains_stay_numbered host tag owned (Taken owner r) numbered next =
    subst (λ records. IsNumbered (filter (in_place host tag) records)) (sym (filter_map-append event_record owned (Taken owner r ∷ []))) (IsNumbered_in_place-push host tag (records_of owned) r numbered next)
