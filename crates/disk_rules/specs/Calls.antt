-- What a write and a sync do to a disk, where they succeed, where they fail, and at each moment within them. Reads do nothing to it.
use Rattle.std.specs.Prelude.{◌≡◌, ℕ, ◌+◌, ◌<◌, ◌≤◌, ◌⊎◌, max, List, [], ◌∷◌, ◌++◌, length, take, drop, get_or}
use Rattle.disk_rules.specs.Disk.{Range, Disk, IsWithin}

pub data DiskCall : Type 0 where
  -- these bytes from this offset on, which is at most the length of what is shown
  Write : (at : ℕ) → List ℕ → DiskCall
  Sync : DiskCall

-- the bytes with others over them from the offset on
abbrev pub overwritten : List ℕ → ℕ → List ℕ → List ℕ
overwritten shows at bytes = take at shows ++ bytes ++ drop (at + length bytes) shows

-- the bytes may have changed in the range and no further, and be longer up to its end
pub record Torn (range : Range) (old new : List ℕ) : Type 0 where
  pub no_shorter : length old ≤ length new
  pub no_longer : length new ≤ max (length old) (range.at + range.count)
  pub elsewhere : (offset : ℕ) → offset < length old → (IsWithin offset range → ⊥) → get_or new offset 0 ≡ get_or old offset 0

-- the range joins those that were written, and what is shown may be torn there
pub record Wrote (range : Range) (old new : Disk) : Type 0 where
  pub synced : new.synced ≡ old.synced
  pub written : new.written ≡ range ∷ old.written
  pub shows : Torn range old.shows new.shows

-- the call can be made
abbrev pub MayCall : DiskCall → Disk → Type 0
MayCall (Write at bytes) disk = at ≤ length disk.shows
MayCall Sync disk = Unit {0}

-- after a call that succeeded
abbrev pub Done : DiskCall → Disk → Disk → Type 0
Done (Write at bytes) old new = new ≡ record { synced = old.synced; written = record { at = at; count = length bytes } ∷ old.written; shows = overwritten old.shows at bytes }
Done Sync old new = new ≡ record { synced = old.shows; written = []; shows = old.shows }

-- after a call that failed, and at each moment within a call: a write hasn't done anything, or is in its range; a sync hasn't done anything
abbrev pub FailedOrUnderWay : DiskCall → Disk → Disk → Type 0
FailedOrUnderWay (Write at bytes) old now = (now ≡ old) ⊎ Wrote (record { at = at; count = length bytes }) old now
FailedOrUnderWay Sync old now = now ≡ old

-- a moment of these calls, made one after another until one fails
abbrev pub Reaches : List DiskCall → Disk → Disk → Type 0
Reaches [] old now = now ≡ old
Reaches (call ∷ calls) old now = (now ≡ old) ⊎ (FailedOrUnderWay call old now ⊎ ((mid : Disk) × Done call old mid × Reaches calls mid now))

-- after all of them succeeded
abbrev pub AllDone : List DiskCall → Disk → Disk → Type 0
AllDone [] old new = new ≡ old
AllDone (call ∷ calls) old new = (mid : Disk) × Done call old mid × AllDone calls mid new
