-- Texts that stand folded in blocks.
use Rattle.std.specs.Prelude.{◌≡◌, ℕ, ◌+◌, ◌/◌, ◌≤◌, List, [], ◌∷◌, ◌++◌, map, length, get_or, Some, true, slice_get}
use Rattle.std.specs.Char.{to_ascii_lowercase}
use Rattle.definitions.specs.Search.{stands_in}
use Rattle.history_view.specs.declared.folded.Blocks.{Blocks}

abbrev pub blocks_seen : Blocks → List (List ℕ)
blocks_seen b = map (λ v. v.items) b.whole.items ++ b.last.items ∷ []

-- where the text of each number begins in its block
abbrev pub starts_seen : Blocks → List ℕ
starts_seen b = b.starts.items

-- the block of a text's number
abbrev pub block_of : List (List ℕ) → ℕ → List ℕ
block_of blocks n = get_or blocks (n / 64) []

-- the text stands in the block from this place on
pub record StandsFrom (text block : List ℕ) (start : ℕ) : Type 0 where
  pub before : List ℕ
  pub behind : List ℕ
  pub far : length before ≡ start
  pub is : block ≡ before ++ (text ++ behind)

-- each block begins with what it was
abbrev pub KeepsBlocks : (old new : List (List ℕ)) → Type 0
KeepsBlocks old new = (i : ℕ) → (more : List ℕ) × (get_or new i [] ≡ get_or old i [] ++ more)

-- each text stands folded in the block of its number, and no block begins before its texts
pub record AreFolded (texts blocks : List (List ℕ)) (starts : List ℕ) : Type 0 where
  pub stand : (n : ℕ) (text : List ℕ) → slice_get texts n ≡ Some text → StandsFrom (map to_ascii_lowercase text) (block_of blocks n) (get_or starts n 0)
  pub reach : length texts / 64 ≤ length blocks
  pub few : length blocks ≤ length texts / 64 + 1
  pub started : length texts ≤ length starts

-- the texts of the 64 numbers of this block stand folded in it
abbrev pub HoldsBlock : List (List ℕ) → ℕ → List ℕ → Type 0
HoldsBlock texts i block = (n : ℕ) (text : List ℕ) → n / 64 ≡ i → slice_get texts n ≡ Some text → stands_in (map to_ascii_lowercase text) block ≡ true

-- it begins with the text folded
abbrev pub BeginsFolded : (text part : List ℕ) → Type 0
BeginsFolded text part = (behind : List ℕ) × (part ≡ map to_ascii_lowercase text ++ behind)
