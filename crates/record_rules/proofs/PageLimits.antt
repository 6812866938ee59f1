-- A page that is taken is within the limits of a page, and a record after a full page is not.
use Rattle.std.proofs.Common.{◌≡◌, ℕ, ◌<◌, ◌≤◌, true, ◌||◌, cond, List, [], ◌∷◌, ◌++◌, length, map, Option, Some, None, Ok, Err, refl, sym, ◌∙◌, ap, subst, arith, append_assoc}
use Rattle.std.specs.Prelude.{nat_le, nat_lt}
use Rattle.std.specs.Option.{option_or}
use Rattle.std.proofs.lemmas.Bool.{le-leb}
use Rattle.std.proofs.lemmas.List.{append-nil, length_push}
use Rattle.definitions.specs.Limits.{most_page_weight, most_page_records}
use Rattle.record_rules.specs.Records.{SealedRecord, Caller, Entry, Event, page_weight}
use Rattle.record_rules.specs.Journal.{own_events, records_of}
use Rattle.record_rules.specs.Growth.{PageTooLong, fresh_of, has_long_text, too_long_at, first_too_long, forked_at, gap_at, full_at, refusal_at, first_refusal, taken_entry, batch_or, grow}
use Rattle.record_rules.proofs.Options.{option_or_none}
use Rattle.record_rules.proofs.TooLong.{within_page}
use Rattle.record_rules.proofs.Repeats.{accepted, grown_batch}

-- the records are within the limits of a page
pub record PageFits (records : List SealedRecord) : Type 0 where
  pub count : length records ≤ most_page_records
  pub weight : page_weight records ≤ most_page_weight

one_more_fits : (earlier : List SealedRecord) (r : SealedRecord) → too_long_at earlier r ≡ None → PageFits (earlier ++ r ∷ [])
one_more_fits earlier r short =
    let within = within_page earlier r short in
    let few : length earlier < most_page_records = within.count in
    record {
      count = (let longer = length_push earlier r in omega (arith, few, longer));
      weight = within.together;
    }

fits_along : (earlier records : List SealedRecord) → first_too_long earlier records ≡ None → PageFits earlier → PageFits (earlier ++ records)
fits_along earlier [] short fits = subst PageFits (sym (append-nil earlier)) fits
fits_along earlier (r ∷ records) short fits =
    let parts = option_or_none (too_long_at earlier r) (first_too_long (earlier ++ r ∷ []) records) short in
    subst PageFits (append_assoc earlier (r ∷ []) records) (fits_along (earlier ++ r ∷ []) records parts.1 (one_more_fits earlier r parts.0))

pub taken_page_fits : (journal : List Entry) (caller : Caller) (owner : ℕ) (records : List SealedRecord) (batch : List Entry) → grow journal caller owner records ≡ Ok batch → (length records ≤ most_page_records) × (page_weight records ≤ most_page_weight)
taken_page_fits journal caller owner records batch h =
    let fits = fits_along [] records (accepted journal caller owner records batch h).short (record { count = omega arith; weight = omega arith }) in
    (fits.count, fits.weight)

option_or-assoc : {A : Type 0} → (a b c : Option A) → option_or a (option_or b c) ≡ option_or (option_or a b) c
option_or-assoc None b c = refl
option_or-assoc (Some x) b c = refl

first_refusal-append : (owner : ℕ) (owned : List Event) (earlier records more : List SealedRecord) → first_refusal owner owned earlier (records ++ more) ≡ option_or (first_refusal owner owned earlier records) (first_refusal owner owned (earlier ++ records) more)
first_refusal-append owner owned earlier [] more = ap (λ all. first_refusal owner owned all more) (sym (append-nil earlier))
first_refusal-append owner owned earlier (r ∷ records) more =
    ap (option_or (refusal_at owner owned earlier r)) (first_refusal-append owner owned (earlier ++ r ∷ []) records more ∙ ap (λ all. option_or (first_refusal owner owned (earlier ++ r ∷ []) records) (first_refusal owner owned all more)) (append_assoc earlier (r ∷ []) records))
    ∙ option_or-assoc (refusal_at owner owned earlier r) (first_refusal owner owned (earlier ++ r ∷ []) records) (first_refusal owner owned (earlier ++ r ∷ records) more)

too_long_after_full : (records : List SealedRecord) (r : SealedRecord) → length records ≡ most_page_records → too_long_at records r ≡ Some (PageTooLong most_page_records (page_weight (records ++ r ∷ [])))
too_long_after_full records r full =
    let many : nat_le most_page_records (length records) ≡ true = le-leb most_page_records (length records) (omega arith) in
    λ i. cond ((many i || nat_lt most_page_weight (page_weight (records ++ r ∷ []))) || has_long_text r) (Some (PageTooLong (full i) (page_weight (records ++ r ∷ [])))) None

pub full_page_and_more : (journal : List Entry) (caller : Caller) (owner : ℕ) (records more : List SealedRecord) (r : SealedRecord) (batch : List Entry) → grow journal caller owner records ≡ Ok batch → length records ≡ most_page_records → grow journal caller owner (records ++ r ∷ more) ≡ Err (PageTooLong most_page_records (page_weight (records ++ r ∷ [])))
full_page_and_more journal caller owner records more r batch h full =
    let owned = own_events journal owner in
    let fresh = map (taken_entry caller owner) (fresh_of (records_of owned) (records ++ r ∷ more)) in
    let parts = grown_batch (map (taken_entry caller owner) (fresh_of (records_of owned) records)) (first_refusal owner owned [] records) batch h in
    let at = too_long_after_full records r full in
    ap (batch_or fresh) (first_refusal-append owner owned [] records (r ∷ more) ∙ ap (λ o. option_or o (first_refusal owner owned records (r ∷ more))) parts.0 ∙ ap (λ o. option_or (option_or o (option_or (forked_at owned records r) (option_or (gap_at owned records r) (full_at owner owned records r)))) (first_refusal owner owned (records ++ r ∷ []) more)) at)
