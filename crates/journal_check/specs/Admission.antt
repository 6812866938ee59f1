-- When an entry may come next, by what is kept; and what taking it adds.
use Rattle.std.specs.Prelude.{◌≡◌, ℕ, ◌+◌, ◌-◌, ◌^◌, ◌&&◌, min, not, Bool, true, false, List, ◌∷◌, [], ◌++◌, length, Option, Some, None, nat_eq, nat_le, cond, Result, Ok, Err}
use Rattle.definitions.specs.Journal.{StartedRecord}
use Rattle.definitions.specs.Limits.{most_value_bytes, most_name_bytes, most_tag_bytes, most_page_weight, most_entries, most_held_weight, most_places}
use Rattle.record_rules.specs.Records.{SealedRecord, Entry, Event, record_weight, started_weight}
use Rattle.record_rules.specs.Journal.{MayFollow}
use Rattle.journal_check.specs.declared.owner_totals.OwnerTotals.{OwnerTotals}
use Rattle.journal_check.specs.Tallies.{Tallies, ChainKey, is_known, runs_in, held_in, same_key, count_in, Keeps}

-- ---- limits

abbrev pub started_fits : StartedRecord → Bool
started_fits s = nat_le (length s.command) most_value_bytes && (nat_le (length s.cwd) most_name_bytes && (nat_le (length s.session) most_name_bytes && nat_le (length s.hostname) most_name_bytes))

abbrev pub record_fits : SealedRecord → Bool
record_fits r = nat_le (length r.host_name) most_name_bytes && (nat_le (length r.version) most_tag_bytes && (nat_le (length r.tag) most_tag_bytes && nat_le (record_weight r) most_page_weight))

-- a sum of 64 bits, which stops at the last number
abbrev pub capped : ℕ → ℕ → ℕ
capped a b = min (a + b) (2 ^ 64 - 1)

abbrev pub with_entry : OwnerTotals → (weight places : ℕ) → OwnerTotals
with_entry totals weight places = record { entries = capped totals.entries 1; weight = capped totals.weight weight; places = capped totals.places places }

abbrev pub has_room : OwnerTotals → (weight places : ℕ) → Bool
has_room totals weight places = nat_le (capped totals.entries 1) most_entries && (nat_le (capped totals.weight weight) most_held_weight && nat_le (capped totals.places places) most_places)

-- a record that is the first of its chain adds a place
abbrev pub places_by : ℕ → ℕ
places_by count = cond (nat_eq count 0) 1 0

-- ---- what may come next

abbrev pub may_start : Tallies → StartedRecord → Bool
may_start tallies s = started_fits s && (not (is_known tallies.begun s.id) && has_room (held_in tallies.owners 0) (started_weight s) 0)

abbrev pub may_close : Tallies → Option ℕ → Bool
may_close tallies None = true
may_close tallies (Some id) = runs_in tallies.begun id

abbrev pub may_add : Tallies → (owner : ℕ) → SealedRecord → (count : ℕ) → Bool
may_add tallies owner r count = record_fits r && (nat_eq r.idx count && has_room (held_in tallies.owners owner) (record_weight r) (places_by count))

-- a record that is made here
abbrev pub may_make : Tallies → (closes : Option ℕ) → SealedRecord → (count : ℕ) → Bool
may_make tallies closes r count = nat_eq r.host tallies.host && (may_close tallies closes && may_add tallies 0 r count)

-- ---- what is kept afterwards

-- of the commands alone, one more is known, which runs or doesn't
pub record Marks (id : ℕ) (runs : Bool) (old new : List (ℕ × Bool)) : Type 0 where
  pub known : (q : ℕ) → is_known new q ≡ cond (nat_eq id q) true (is_known old q)
  pub running : (q : ℕ) → runs_in new q ≡ cond (nat_eq id q) runs (runs_in old q)

-- of the owners alone, one holds this
abbrev pub Holds : ℕ → OwnerTotals → List (ℕ × OwnerTotals) → List (ℕ × OwnerTotals) → Type 0
Holds owner totals old new = (q : ℕ) → held_in new q ≡ cond (nat_eq owner q) totals (held_in old q)

-- a command was started
pub record Starts (s : StartedRecord) (old new : Tallies) : Type 0 where
  pub host : new.host ≡ old.host
  pub begun : Marks s.id true old.begun new.begun
  pub owners : Holds 0 (with_entry (held_in old.owners 0) (started_weight s) 0) old.owners new.owners
  pub chains : new.chains ≡ old.chains

-- a record of this weight was added behind so many of its chain
pub record Adds (key : ChainKey) (weight count : ℕ) (old new : Tallies) : Type 0 where
  pub host : new.host ≡ old.host
  pub begun : new.begun ≡ old.begun
  pub owners : Holds key.0 (with_entry (held_in old.owners key.0) weight (places_by count)) old.owners new.owners
  pub chains : (q : ChainKey) → count_in new.chains q ≡ cond (same_key key q) (capped count 1) (count_in old.chains q)

-- the command that it closes no longer runs
pub record ClosesOne (id : ℕ) (old new : Tallies) : Type 0 where
  pub host : new.host ≡ old.host
  pub begun : Marks id false old.begun new.begun
  pub owners : new.owners ≡ old.owners
  pub chains : new.chains ≡ old.chains

abbrev pub Closes : Option ℕ → Tallies → Tallies → Type 0
Closes None old new = new ≡ old
Closes (Some id) old new = ClosesOne id old new

-- ---- the answer

-- the event may come next, and with it the journal is what is kept; or it may not; or memory ran out
abbrev pub Takes : {E : Type 0} → Result Bool E → ℕ → List Entry → Event → Tallies → Type 0
Takes (Ok taken) host journal event new = cond taken (MayFollow journal host event × ((entry : Entry) → entry.event ≡ event → Keeps new (journal ++ entry ∷ []))) (MayFollow journal host event → ⊥)
Takes (Err _) host journal event new = Unit {0}
