-- The places of a list of counts are in order, and a place that isn't one of them has the count 0.
use Rattle.std.proofs.Common.{◌≡◌, ℕ, false, ◌||◌, cond, List, [], ◌∷◌, map, refl, sym, ap, subst, ◌∙◌}
use Rattle.std.specs.List.{list_any}
use Rattle.std.proofs.lemmas.Bool.{or_parts}
use Rattle.record_rules.specs.Records.{SealedRecord}
use Rattle.record_rules.specs.Journal.{ChainCount, Ascends, in_place, put_in_order, places_of, is_count_of, count_at}
use Rattle.record_rules.proofs.Status.{is_place, any_place, places_ascend}
use Rattle.plan_rules.specs.Plans.{places_listed}

-- a record of the host and tag of the count
abbrev as_record : ChainCount → SealedRecord
as_record listed = record { id = 0; idx = 0; host = listed.host; host_name = []; timestamp = 0; version = []; tag = listed.tag; sealed = []; wrapped = [] }

any_record : (host : ℕ) (tag : List ℕ) (counts : List ChainCount) → list_any (in_place host tag) (map as_record counts) ≡ list_any (is_count_of host tag) counts
any_record host tag [] = refl
any_record host tag (listed ∷ counts) = ap (λ b. is_count_of host tag listed || b) (any_record host tag counts)

-- the places of counts are those of such records
listed_as_records : (counts : List ChainCount) → places_listed counts ≡ places_of (map as_record counts)
listed_as_records [] = refl
listed_as_records (listed ∷ counts) =
    let places = listed_as_records counts in
    λ i. cond (sym (any_record listed.host listed.tag counts) i) (places i) (put_in_order (record { host = listed.host; tag = listed.tag }) (places i))

pub listed_ascend : (counts : List ChainCount) → Ascends (places_listed counts)
listed_ascend counts = subst Ascends (sym (listed_as_records counts)) (places_ascend (map as_record counts))

-- a place is listed where a count is of it
pub any_listed : (host : ℕ) (tag : List ℕ) (counts : List ChainCount) → list_any (is_place host tag) (places_listed counts) ≡ list_any (is_count_of host tag) counts
any_listed host tag counts = ap (list_any (is_place host tag)) (listed_as_records counts) ∙ any_place host tag (map as_record counts) ∙ any_record host tag counts

-- where no count is of a place, its count is 0
pub not_counted : (host : ℕ) (tag : List ℕ) (counts : List ChainCount) → list_any (is_count_of host tag) counts ≡ false → count_at counts host tag ≡ 0
not_counted host tag [] none = refl
not_counted host tag (listed ∷ counts) none =
    let parts = or_parts (is_count_of host tag listed) (list_any (is_count_of host tag) counts) none in
    rw parts.0 (not_counted host tag counts parts.1)
