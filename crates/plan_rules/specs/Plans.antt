-- Which transfers make two stores hold the same, from their statuses. A status is read as a map from a place to the count of
-- its chain; a place that isn't listed has the count 0.
use Rattle.std.specs.Prelude.{ℕ, List, [], ◌∷◌, ◌++◌, filter_map, Option, Some, None, nat_lt, if◌then◌else◌}
use Rattle.std.specs.List.{list_any}
use Rattle.record_rules.specs.Journal.{ChainPlace, ChainCount, is_count_of, put_in_order, count_at}

-- a transfer of one chain: of the records from the lesser idx to below the greater count
pub data PlanStep : Type 0 where
  -- this store sends them, since the other one lacks them
  Upload : (place : ChainPlace) (start end : ℕ) → PlanStep
  -- the other one sends them, since this store lacks them
  Download : (place : ChainPlace) (start end : ℕ) → PlanStep

abbrev pub step_place : PlanStep → ChainPlace
step_place (Upload place start end) = place
step_place (Download place start end) = place

-- the step for a place of which this store holds the first and the other one the second count; none where they are equal
abbrev pub step_between : ChainPlace → (local remote : ℕ) → Option PlanStep
step_between place local remote = if nat_lt remote local then Some (Upload place remote local) else (if nat_lt local remote then Some (Download place local remote) else None)

-- the place of each count once, in order of host, then tag
abbrev pub places_listed : List ChainCount → List ChainPlace
places_listed [] = []
places_listed (listed ∷ later) = if list_any (is_count_of listed.host listed.tag) later then places_listed later else put_in_order (record { host = listed.host; tag = listed.tag }) (places_listed later)

abbrev pub step_at : (local remote : List ChainCount) → ChainPlace → Option PlanStep
step_at local remote place = step_between place (count_at local place.host place.tag) (count_at remote place.host place.tag)

-- for each place of either status, in order, the step between its counts
abbrev pub plan : (local remote : List ChainCount) → List PlanStep
plan local remote = filter_map (step_at local remote) (places_listed (local ++ remote))
