-- A page whose records all stand adds nothing, and after a growth all records of the page stand.
use Rattle.std.proofs.Common.{◌≡◌, ℕ, Bool, true, false, not, ◌&&◌, ◌||◌, cond, inl, inr, List, [], ◌∷◌, ◌++◌, length, map, Option, Some, None, Ok, refl, sym, ◌∙◌, ap, subst, append_assoc}
use Rattle.std.specs.Prelude.{find, filter, option_map, ◌==◌, All}
use Rattle.std.specs.List.{list_any, AllByRecursion}
use Rattle.std.specs.Option.{option_or}
use Rattle.std.proofs.lemmas.Option.{none-some}
use Rattle.std.proofs.lemmas.Bool.{eq-eqb, eqb-true, cases_Bool, or_left}
use Rattle.std.proofs.lemmas.List.{append-nil}
use Rattle.std.proofs.lemmas.List.Folds.{find-append, list_any-append}
use Rattle.std.proofs.lemmas.List.Elements.{recursion_from_All, All-from_recursion, filter-append}
use Rattle.record_rules.specs.Records.{SealedRecord, Caller, Entry, Event, Taken, record_weight}
use Rattle.record_rules.specs.Journal.{own_events, records_of, in_place, chain, limit_passed}
use Rattle.record_rules.specs.Growth.{PageRefusal, PageForked, PageGap, PageFull, wanted_idx, same_place, holder, is_fresh, IsHeld, fresh_of, too_long_at, first_too_long, forked_by, forked_at, gap_at, full_at, refusal_at, first_refusal, taken_entry, batch_or, grow, grown}
use Rattle.record_rules.proofs.Options.{option_or-None, option_or_none}
use Rattle.record_rules.proofs.Spots.{find_where_any, same_place_itself, holder_is_fresh}
use Rattle.record_rules.proofs.Owned.{records_after}

-- ---- records that stand

any_where_found : (p : SealedRecord → Bool) (records : List SealedRecord) (id : ℕ) → option_map (λ (other : SealedRecord). other.id) (find p records) ≡ Some id → list_any p records ≡ true
any_where_found p [] id h = cc
any_where_found p (x ∷ records) id h =
    elim (p x) as (λ b. option_map (λ (other : SealedRecord). other.id) (cond b (Some x) (find p records)) ≡ Some id → (b || list_any p records) ≡ true) [
      | true ↦ λ _. refl
      | false ↦ λ later. any_where_found p records id later
    ] h

not_fresh : (records more : List SealedRecord) (r : SealedRecord) → IsHeld records r → is_fresh (records ++ more) r ≡ false
not_fresh records more r stands = ap not (list_any-append (same_place r) records more ∙ or_left (list_any (same_place r) records) (list_any (same_place r) more) (any_where_found (same_place r) records r.id stands))

not_forked : (position : ℕ) (r : SealedRecord) (o : Option SealedRecord) → option_map (λ (other : SealedRecord). other.id) o ≡ Some r.id → forked_by position r o ≡ None
not_forked position r None h = refl
not_forked position r (Some other) h =
    let same : other.id ≡ r.id = cc in
    rw (eq-eqb other.id r.id same) refl

-- a record that stands is refused by the page's own limits alone
standing_at : (owner : ℕ) (owned : List Event) (earlier : List SealedRecord) (r : SealedRecord) → IsHeld (records_of owned) r → refusal_at owner owned earlier r ≡ too_long_at earlier r
standing_at owner owned earlier r stands =
    let stale = not_fresh (records_of owned) earlier r stands in
    let forked : forked_at owned earlier r ≡ None = ap (forked_by (length earlier) r) (find_where_any (same_place r) (records_of owned) earlier (any_where_found (same_place r) (records_of owned) r.id stands)) ∙ not_forked (length earlier) r (holder (records_of owned) r) stands in
    let gap : gap_at owned earlier r ≡ None = ap (λ b. cond (b && not (r.idx == wanted_idx owned earlier r)) (Some (PageGap (length earlier) (wanted_idx owned earlier r))) None) stale in
    let full : full_at owner owned earlier r ≡ None = ap (λ b. cond b (option_map PageFull (limit_passed (owned ++ map (Taken owner) (fresh_of (records_of owned) earlier)) (record_weight r) (Some (record { host = r.host; tag = r.tag })))) None) stale in
    let others : refusal_at owner owned earlier r ≡ option_or (too_long_at earlier r) None = λ i. option_or (too_long_at earlier r) (option_or (forked i) (option_or (gap i) (full i))) in
    others ∙ option_or-None (too_long_at earlier r)

pub standing : (owner : ℕ) (owned : List Event) (earlier page : List SealedRecord) → AllByRecursion (IsHeld (records_of owned)) page → first_refusal owner owned earlier page ≡ first_too_long earlier page
standing owner owned earlier [] all = refl
standing owner owned earlier (r ∷ page) all =
    let here = standing_at owner owned earlier r all.0 in
    let later = standing owner owned (earlier ++ r ∷ []) page all.1 in
    λ i. option_or (here i) (later i)

pub fresh_of_standing : (records earlier page : List SealedRecord) → AllByRecursion (IsHeld records) page → fresh_of (records ++ earlier) page ≡ []
fresh_of_standing records earlier [] all = refl
fresh_of_standing records earlier (r ∷ page) all = rw (not_fresh records earlier r all.0, append_assoc records earlier (r ∷ [])) (fresh_of_standing records (earlier ++ r ∷ []) page all.1)

-- the batch of a page whose records all stand is empty, and only the page's own limits refuse it
each_stands : (journal : List Entry) (caller : Caller) (owner : ℕ) (page : List SealedRecord) → AllByRecursion (IsHeld (records_of (own_events journal owner))) page → grow journal caller owner page ≡ batch_or [] (first_too_long [] page)
each_stands journal caller owner page each =
    let owned = own_events journal owner in
    let fresh : fresh_of (records_of owned) page ≡ [] = ap (λ records. fresh_of records page) (sym (append-nil (records_of owned))) ∙ fresh_of_standing (records_of owned) [] page each in
    let refusal = standing owner owned [] page each in
    λ i. batch_or (map (taken_entry caller owner) (fresh i)) (refusal i)

pub standing_page : (journal : List Entry) (caller : Caller) (owner : ℕ) (page : List SealedRecord) → All (IsHeld (records_of (own_events journal owner))) page → grow journal caller owner page ≡ batch_or [] (first_too_long [] page)
standing_page journal caller owner page all = each_stands journal caller owner page (recursion_from_All (IsHeld (records_of (own_events journal owner))) page all)

nothing_added : (journal : List Entry) (refusal : Option PageRefusal) → grown journal (batch_or [] refusal) ≡ journal
nothing_added journal None = append-nil journal
nothing_added journal (Some refusal) = refl

pub standing_page_adds_nothing : (journal : List Entry) (caller : Caller) (owner : ℕ) (page : List SealedRecord) → All (IsHeld (records_of (own_events journal owner))) page → grown journal (grow journal caller owner page) ≡ journal
standing_page_adds_nothing journal caller owner page all = ap (grown journal) (standing_page journal caller owner page all) ∙ nothing_added journal (first_too_long [] page)

-- ---- after a growth

-- what isn't forked is held with its id, or by itself
held_or_itself : (position : ℕ) (r : SealedRecord) (o : Option SealedRecord) → forked_by position r o ≡ None → option_map (λ (other : SealedRecord). other.id) (option_or o (Some r)) ≡ Some r.id
held_or_itself position r None h = refl
held_or_itself position r (Some other) h =
    elim (cases_Bool (other.id == r.id)) [
      | inl same ↦ ap Some (eqb-true other.id r.id same)
      | inr differs ↦ absurd (none-some (PageForked position other.id) (sym h ∙ ap (λ b. cond b None (Some (PageForked position other.id))) differs))
    ]

stands_after : (owned : List Event) (whole earlier : List SealedRecord) (r : SealedRecord) (page : List SealedRecord) → whole ≡ earlier ++ r ∷ page → forked_at owned earlier r ≡ None → IsHeld (records_of owned ++ fresh_of (records_of owned) whole) r
stands_after owned whole earlier r page split unforked =
    let records = records_of owned in
    let found : holder (records_of owned ++ whole) r ≡ option_or (holder (records_of owned ++ earlier) r) (Some r) = ap (λ all. holder (records_of owned ++ all) r) split ∙ ap (λ all. holder all r) (sym (append_assoc (records_of owned) earlier (r ∷ page))) ∙ find-append (same_place r) (records_of owned ++ earlier) (r ∷ page) ∙ ap (λ b. option_or (holder (records_of owned ++ earlier) r) (cond b (Some r) (holder page r))) (same_place_itself r) in
    ap (option_map (λ (other : SealedRecord). other.id)) (holder_is_fresh r (records_of owned) whole ∙ found) ∙ held_or_itself (length earlier) r (holder (records_of owned ++ earlier) r) unforked

all_stand_after : (owner : ℕ) (owned : List Event) (whole earlier page : List SealedRecord) → whole ≡ earlier ++ page → first_refusal owner owned earlier page ≡ None → AllByRecursion (IsHeld (records_of owned ++ fresh_of (records_of owned) whole)) page × (first_too_long earlier page ≡ None)
all_stand_after owner owned whole earlier [] split none = (tt, refl)
all_stand_after owner owned whole earlier (r ∷ page) split none =
    let at = option_or_none (refusal_at owner owned earlier r) (first_refusal owner owned (earlier ++ r ∷ []) page) none in
    let long = option_or_none (too_long_at earlier r) (option_or (forked_at owned earlier r) (option_or (gap_at owned earlier r) (full_at owner owned earlier r))) at.0 in
    let forked = option_or_none (forked_at owned earlier r) (option_or (gap_at owned earlier r) (full_at owner owned earlier r)) long.1 in
    let later = all_stand_after owner owned whole (earlier ++ r ∷ []) page (split ∙ sym (append_assoc earlier (r ∷ []) page)) at.1 in
    ((stands_after owned whole earlier r page split forked.0, later.0), ap (λ o. option_or o (first_too_long (earlier ++ r ∷ []) page)) long.0 ∙ later.1)

-- what a growth that isn't refused gives
pub grown_batch : (batch : List Entry) (refusal : Option PageRefusal) (result : List Entry) → batch_or batch refusal ≡ Ok result → (refusal ≡ None) × (batch ≡ result)
grown_batch batch None result h = (refl, cc)
grown_batch batch (Some refusal) result h = cc

-- what an accepted page leaves
pub record Accepted (journal : List Entry) (owner : ℕ) (page : List SealedRecord) (batch : List Entry) : Type 0 where
  pub records : records_of (own_events (journal ++ batch) owner) ≡ records_of (own_events journal owner) ++ fresh_of (records_of (own_events journal owner)) page
  pub stand : AllByRecursion (IsHeld (records_of (own_events (journal ++ batch) owner))) page
  pub short : first_too_long [] page ≡ None

pub accepted : (journal : List Entry) (caller : Caller) (owner : ℕ) (page : List SealedRecord) (batch : List Entry) → grow journal caller owner page ≡ Ok batch → Accepted journal owner page batch
accepted journal caller owner page batch h =
    let parts = grown_batch (map (taken_entry caller owner) (fresh_of (records_of (own_events journal owner)) page)) (first_refusal owner (own_events journal owner) [] page) batch h in
    let all = all_stand_after owner (own_events journal owner) page [] page refl parts.0 in
    let records : records_of (own_events (journal ++ batch) owner) ≡ records_of (own_events journal owner) ++ fresh_of (records_of (own_events journal owner)) page = ap (λ more. records_of (own_events (journal ++ more) owner)) (sym parts.1) ∙ records_after journal caller owner (fresh_of (records_of (own_events journal owner)) page) in
    record { records = records; stand = subst (λ rs. AllByRecursion (IsHeld rs) page) (sym records) all.0; short = all.1 }

pub repeated_page : (journal : List Entry) (first again : Caller) (owner : ℕ) (page : List SealedRecord) (batch : List Entry) → grow journal first owner page ≡ Ok batch → grow (journal ++ batch) again owner page ≡ Ok []
repeated_page journal first again owner page batch h =
    let after = accepted journal first owner page batch h in
    each_stands (journal ++ batch) again owner page after.stand ∙ ap (batch_or []) after.short

pub page_stands : (journal : List Entry) (caller : Caller) (owner : ℕ) (page : List SealedRecord) (batch : List Entry) → grow journal caller owner page ≡ Ok batch → All (IsHeld (records_of (own_events (journal ++ batch) owner))) page
page_stands journal caller owner page batch h = All-from_recursion (IsHeld (records_of (own_events (journal ++ batch) owner))) page (accepted journal caller owner page batch h).stand

pub chain_extended : (journal : List Entry) (caller : Caller) (owner host : ℕ) (tag : List ℕ) (page : List SealedRecord) (batch : List Entry) → grow journal caller owner page ≡ Ok batch → chain (journal ++ batch) owner host tag ≡ chain journal owner host tag ++ filter (in_place host tag) (fresh_of (records_of (own_events journal owner)) page)
chain_extended journal caller owner host tag page batch h = ap (filter (in_place host tag)) (accepted journal caller owner page batch h).records ∙ filter-append (in_place host tag) (records_of (own_events journal owner)) (fresh_of (records_of (own_events journal owner)) page)
