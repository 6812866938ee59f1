-- A page taken record by record is the growth that is told of it as a whole.
use Rattle.std.proofs.Common.{◌≡◌, ℕ, ◌+◌, Bool, true, false, not, ◌&&◌, ◌||◌, cond, List, [], ◌∷◌, ◌++◌, length, map, filter, Option, Some, None, Result, Ok, Err, sym, refl, ◌∙◌, ap, arith, append_assoc, length-append}
use Rattle.std.specs.Prelude.{find, nat_le, nat_lt, option_map, ◌==◌}
use Rattle.std.specs.List.{list_any}
use Rattle.std.specs.Option.{option_or}
use Rattle.std.proofs.lemmas.List.{append-nil, length_push}
use Rattle.std.proofs.lemmas.List.Sums.{sum_by-append}
use Rattle.std.proofs.lemmas.List.Elements.{filter-append, filter_map-append}
use Rattle.definitions.specs.Limits.{most_page_weight, most_page_records}
use Rattle.record_rules.specs.Records.{SealedRecord, Caller, Entry, Event, Taken, record_weight, page_weight}
use Rattle.record_rules.specs.Journal.{ChainPlace, PassedLimit, event_record, own_events, records_of, in_place, limit_passed}
use Rattle.record_rules.specs.Growth.{PageRefusal, PageTooLong, PageForked, PageGap, PageFull, same_place, holder, is_fresh, fresh_of, has_long_text, passes_page, forked_by, forked_at, wanted_idx, gap_at, owned_with, full_at, refusal_at, first_refusal, taken_entry, batch_or, grow}
use Rattle.record_rules.specs.InTurn.{PageTaken, nothing_taken, passed_over, taken_too, take_or_full, take_beside, take_record, go_on, take_records, batch_of}
use Rattle.record_rules.proofs.Owned.{records_of_taken}
use Rattle.record_rules.proofs.Spots.{holder_is_fresh}
use Rattle.record_rules.proofs.OneMore.{fresh_of_with_one}

-- the first refusal, or how far the page was taken
abbrev taken_or : PageTaken → Option PageRefusal → Result PageTaken PageRefusal
taken_or so_far None = Ok so_far
taken_or so_far (Some refusal) = Err refusal

-- where a record is found one passes, and where none is found none does
found_passes : (p : SealedRecord → Bool) (records : List SealedRecord) (other : SealedRecord) → find p records ≡ Some other → list_any p records ≡ true
found_passes p [] other e = absurd cc
found_passes p (x ∷ records) other e = elim (p x) as (λ b. cond b (Some x) (find p records) ≡ Some other → (b || list_any p records) ≡ true) [
  | true ↦ λ _. refl
  | false ↦ λ rest. found_passes p records other rest
] e

none_passes : (p : SealedRecord → Bool) (records : List SealedRecord) → find p records ≡ None → list_any p records ≡ false
none_passes p [] e = refl
none_passes p (x ∷ records) e = elim (p x) as (λ b. cond b (Some x) (find p records) ≡ None → (b || list_any p records) ≡ false) [
  | true ↦ λ some. absurd cc
  | false ↦ λ rest. none_passes p records rest
] e

module _ (owner : ℕ) (owned : List Event) where
  -- how far the page was taken behind its first records
  abbrev behind : List SealedRecord → PageTaken
  behind earlier = record { position = length earlier; weight = page_weight earlier; taken = fresh_of (records_of owned) earlier }

  module _ (earlier : List SealedRecord) (r : SealedRecord) where
    abbrev held : List Event
    held = owned_with owner owned earlier

    heavier : page_weight earlier + record_weight r ≡ page_weight (earlier ++ r ∷ [])
    heavier = let sum = sum_by-append record_weight earlier (r ∷ []) in omega (arith, sum)

    longer : length earlier + 1 ≡ length (earlier ++ r ∷ [])
    longer = sym (length_push earlier r)

    held_records : records_of held ≡ records_of owned ++ fresh_of (records_of owned) earlier
    held_records = filter_map-append event_record owned (map (Taken owner) (fresh_of (records_of owned) earlier)) ∙ ap (λ (rest : List SealedRecord). records_of owned ++ rest) (records_of_taken owner (fresh_of (records_of owned) earlier))

    same_holder : holder (records_of held) r ≡ holder (records_of owned ++ earlier) r
    same_holder = ap (λ (records : List SealedRecord). holder records r) held_records ∙ holder_is_fresh r (records_of owned) earlier

    wanted : length (filter (in_place r.host r.tag) (records_of held)) ≡ wanted_idx owned earlier r
    wanted =
        let at = in_place r.host r.tag in
        ap (λ (records : List SealedRecord). length (filter (in_place r.host r.tag) records)) held_records
        ∙ ap (λ (records : List SealedRecord). length records) (filter-append (in_place r.host r.tag) (records_of owned) (fresh_of (records_of owned) earlier))
        ∙ length-append (filter (in_place r.host r.tag) (records_of owned)) (filter (in_place r.host r.tag) (fresh_of (records_of owned) earlier))

    -- behind a record that is held already, and behind a fresh one
    stays : is_fresh (records_of owned ++ earlier) r ≡ false → passed_over (behind earlier) r ≡ behind (earlier ++ r ∷ [])
    stays stale =
        let same : fresh_of (records_of owned) earlier ≡ fresh_of (records_of owned) (earlier ++ r ∷ []) = sym (fresh_of_with_one (records_of owned) earlier r ∙ ap (λ b. cond b (fresh_of (records_of owned) earlier ++ r ∷ []) (fresh_of (records_of owned) earlier)) stale) in
        λ i. record { position = longer i; weight = heavier i; taken = same i }

    grows : is_fresh (records_of owned ++ earlier) r ≡ true → taken_too (behind earlier) r ≡ behind (earlier ++ r ∷ [])
    grows fresh =
        let more : fresh_of (records_of owned) earlier ++ r ∷ [] ≡ fresh_of (records_of owned) (earlier ++ r ∷ []) = sym (fresh_of_with_one (records_of owned) earlier r ∙ ap (λ b. cond b (fresh_of (records_of owned) earlier ++ r ∷ []) (fresh_of (records_of owned) earlier)) fresh) in
        λ i. record { position = longer i; weight = heavier i; taken = more i }

    abbrev place : ChainPlace
    place = record { host = r.host; tag = r.tag }

    full_or_taken : (passed : Option PassedLimit) → is_fresh (records_of owned ++ earlier) r ≡ true → take_or_full (behind earlier) r passed ≡ taken_or (behind (earlier ++ r ∷ [])) (option_map PageFull passed)
    full_or_taken None fresh = ap (λ (so_far : PageTaken). Ok so_far) (grows fresh)
    full_or_taken (Some passed) fresh = refl

    gap_or_taken : (next : Bool) (idx : ℕ) → is_fresh (records_of owned ++ earlier) r ≡ true
        → cond next (take_or_full (behind earlier) r (limit_passed held (record_weight r) (Some place))) (Err (PageGap (length earlier) idx))
        ≡ taken_or (behind (earlier ++ r ∷ [])) (option_or (cond (not next) (Some (PageGap (length earlier) idx)) None) (option_map PageFull (limit_passed held (record_weight r) (Some place))))
    gap_or_taken true idx fresh = full_or_taken (limit_passed held (record_weight r) (Some place)) fresh
    gap_or_taken false idx fresh = refl

    -- what is asked of a record that isn't too long
    abbrev others : Option PageRefusal
    others = option_or (forked_at owned earlier r) (option_or (gap_at owned earlier r) (full_at owner owned earlier r))

    forked_or_held : (same : Bool) (id : ℕ) → is_fresh (records_of owned ++ earlier) r ≡ false
        → cond same (Ok (passed_over (behind earlier) r)) (Err (PageForked (length earlier) id)) ≡ taken_or (behind (earlier ++ r ∷ [])) (option_or (cond same None (Some (PageForked (length earlier) id))) (option_or (gap_at owned earlier r) (full_at owner owned earlier r)))
    forked_or_held true id stale =
        let no_gap : gap_at owned earlier r ≡ None = ap (λ b. cond (b && not (r.idx == wanted_idx owned earlier r)) (Some (PageGap (length earlier) (wanted_idx owned earlier r))) None) stale in
        let not_full : full_at owner owned earlier r ≡ None = ap (λ b. cond b (option_map PageFull (limit_passed held (record_weight r) (Some place))) None) stale in
        ap (λ (so_far : PageTaken). Ok so_far) (stays stale) ∙ sym ((λ i. taken_or (behind (earlier ++ r ∷ [])) (option_or (no_gap i) (not_full i))))
    forked_or_held false id stale = refl

    beside : (other : Option SealedRecord) → holder (records_of owned ++ earlier) r ≡ other → take_beside held (behind earlier) r other ≡ taken_or (behind (earlier ++ r ∷ [])) (option_or (forked_by (length earlier) r other) (option_or (gap_at owned earlier r) (full_at owner owned earlier r)))
    beside (Some other) found =
        let stale : is_fresh (records_of owned ++ earlier) r ≡ false = ap not (found_passes (same_place r) (records_of owned ++ earlier) other found) in
        forked_or_held (other.id == r.id) other.id stale
    beside None found =
        let fresh : is_fresh (records_of owned ++ earlier) r ≡ true = ap not (none_passes (same_place r) (records_of owned ++ earlier) found) in
        ap (λ (idx : ℕ). cond (r.idx == idx) (take_or_full (behind earlier) r (limit_passed held (record_weight r) (Some place))) (Err (PageGap (length earlier) idx))) wanted
        ∙ gap_or_taken (r.idx == wanted_idx owned earlier r) (wanted_idx owned earlier r) fresh
        ∙ sym (λ i. taken_or (behind (earlier ++ r ∷ [])) (option_or (cond (fresh i && not (r.idx == wanted_idx owned earlier r)) (Some (PageGap (length earlier) (wanted_idx owned earlier r))) None) (cond (fresh i) (option_map PageFull (limit_passed held (record_weight r) (Some place))) None)))

    not_long : (long : Bool) (weight : ℕ) (next : Result PageTaken PageRefusal) (refusal : Option PageRefusal) → next ≡ taken_or (behind (earlier ++ r ∷ [])) refusal
        → cond long (Err (PageTooLong (length earlier) weight)) next ≡ taken_or (behind (earlier ++ r ∷ [])) (option_or (cond long (Some (PageTooLong (length earlier) weight)) None) refusal)
    not_long true weight next refusal e = refl
    not_long false weight next refusal e = e

    one_record : take_record owner owned (behind earlier) r ≡ taken_or (behind (earlier ++ r ∷ [])) (refusal_at owner owned earlier r)
    one_record =
        let rest : take_beside held (behind earlier) r (holder (records_of held) r) ≡ taken_or (behind (earlier ++ r ∷ [])) others = ap (take_beside held (behind earlier) r) same_holder ∙ beside (holder (records_of owned ++ earlier) r) refl in
        ap (λ (weight : ℕ). cond ((nat_le most_page_records (length earlier) || nat_lt most_page_weight weight) || has_long_text r) (Err (PageTooLong (length earlier) weight)) (take_beside held (behind earlier) r (holder (records_of held) r))) heavier
        ∙ not_long (passes_page earlier r || has_long_text r) (page_weight (earlier ++ r ∷ [])) (take_beside held (behind earlier) r (holder (records_of held) r)) others rest

  -- the first record is refused, or the others follow
  goes_on : (earlier : List SealedRecord) (r : SealedRecord) (page : List SealedRecord) (refusal : Option PageRefusal)
      → take_records owner owned (behind (earlier ++ r ∷ [])) page ≡ taken_or (behind ((earlier ++ r ∷ []) ++ page)) (first_refusal owner owned (earlier ++ r ∷ []) page)
      → go_on (taken_or (behind (earlier ++ r ∷ [])) refusal) (λ next. take_records owner owned next page) ≡ taken_or (behind (earlier ++ r ∷ page)) (option_or refusal (first_refusal owner owned (earlier ++ r ∷ []) page))
  goes_on earlier r page None later = later ∙ ap (λ (records : List SealedRecord). taken_or (behind records) (first_refusal owner owned (earlier ++ r ∷ []) page)) (append_assoc earlier (r ∷ []) page)
  goes_on earlier r page (Some refusal) later = refl

  all_records : (earlier page : List SealedRecord) → take_records owner owned (behind earlier) page ≡ taken_or (behind (earlier ++ page)) (first_refusal owner owned earlier page)
  all_records earlier [] = ap (λ (records : List SealedRecord). Ok (behind records)) (sym (append-nil earlier))
  all_records earlier (r ∷ page) =
      ap (λ (first : Result PageTaken PageRefusal). go_on first (λ next. take_records owner owned next page)) (one_record earlier r) ∙ goes_on earlier r page (refusal_at owner owned earlier r) (all_records (earlier ++ r ∷ []) page)

pub growth_is_in_turn : (journal : List Entry) (caller : Caller) (owner : ℕ) (records : List SealedRecord) → batch_of caller owner (take_records owner (own_events journal owner) nothing_taken records) ≡ grow journal caller owner records
growth_is_in_turn journal caller owner records = ap (batch_of caller owner) (all_records owner (own_events journal owner) [] records) ∙ by (first_refusal owner (own_events journal owner) [] records)
  where
    by : (refusal : Option PageRefusal) → batch_of caller owner (taken_or (behind owner (own_events journal owner) records) refusal) ≡ batch_or (map (taken_entry caller owner) (fresh_of (records_of (own_events journal owner)) records)) refusal
    by None = refl
    by (Some refusal) = refl
