-- The longest prefix of some items within a weight, whatever the items are and however each is weighed.
use Rattle.std.specs.Prelude.{ℕ, ◌+◌, ◌-◌, ◌<◌, ◌≤◌, List, [], ◌∷◌, length, take, sum_by, if◌then◌else◌, nat_le}
use Rattle.definitions.specs.Prefixes.{IsPrefix}

-- the items from the first one on, as long as they weigh at most this together
abbrev pub longest_within : {X : Type 0} → (X → ℕ) → ℕ → List X → List X
longest_within weight_of weight [] = []
longest_within weight_of weight (item ∷ items) = if nat_le (weight_of item) weight then item ∷ longest_within weight_of (weight - weight_of item) items else []

-- the prefix is the longest one of the items with at most this weight together
pub record IsLongestWithin {X : Type 0} (weight_of : X → ℕ) (weight : ℕ) (items prefix : List X) : Type 0 where
  pub is_prefix : IsPrefix prefix items
  pub within : sum_by weight_of prefix ≤ weight
  pub longest : length prefix < length items → weight < sum_by weight_of (take (length prefix + 1) items)
