-- What running workers does to them.
use Rattle.std.specs.Prelude.{◌≡◌, ℕ, ◌<◌, ◌≤◌, List, length, slice_index_or, Result, Ok, Err}
use Rattle.definitions.specs.Counts.{Rose}

-- Each of the first list and the one in its place in the second are so related.
abbrev pub InPlace : {W : Type 0} → (W → W → Type 0) → List W → List W → Type 0
InPlace {W} worked before after = (i : ℕ) (default : W) → i < length before → worked (slice_index_or before i default) (slice_index_or after i default)

-- the answer of a spawner that had refused so often before, and so often after: how many threads, or a refusal
abbrev pub GrantsThreads : {E : Type 0} → ℕ → ℕ → Result ℕ E → Type 0
GrantsThreads old new (Ok threads) = (0 < threads) × (old ≤ new)
GrantsThreads old new (Err _) = Rose old new × (old ≤ new)

-- Each worker has done its work, or the spawner refused, and each is as it was.
abbrev pub RunsAll : {W T E : Type 0} → (W → W → Type 0) → ℕ → ℕ → List W → List W → Result T E → Type 0
RunsAll worked old new before after (Ok _) = InPlace worked before after × (old ≤ new)
RunsAll worked old new before after (Err _) = (after ≡ before) × Rose old new × (old ≤ new)
