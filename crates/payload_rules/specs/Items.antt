-- What spells a bin and nil: MessagePack, "bin format family" and "nil format"; and lists of items, one spelled behind
-- the other. Integers, texts and headers of arrays are spelled as ever. A writer takes the shortest width, or a fixed one
-- where it is named.
use Rattle.std.specs.Prelude.{◌≡◌, ℕ, ◌<◌, ◌^◌, ℤ, List, [], ◌∷◌, ◌++◌, length, nat_lt, if◌then◌else◌}
use Rattle.std.specs.Int.{w8, w16, w32, to_be_bytes}
use Rattle.definitions.specs.Spelling.{SpellsInteger, SpellsText, SpellsArray}

-- ---- bins

pub data BinForm : Type 0 where
  bin_8 : BinForm
  bin_16 : BinForm
  bin_32 : BinForm

-- the lengths that a form's head holds
abbrev pub bin_limit : BinForm → ℕ
bin_limit bin_8 = 2 ^ 8
bin_limit bin_16 = 2 ^ 16
bin_limit bin_32 = 2 ^ 32

abbrev pub bin_head : BinForm → ℕ → List ℕ
bin_head bin_8 n = 0xc4 ∷ to_be_bytes w8 n
bin_head bin_16 n = 0xc5 ∷ to_be_bytes w16 n
bin_head bin_32 n = 0xc6 ∷ to_be_bytes w32 n

-- the bytes spell the bin of what is held: a head with its length, then the held bytes
pub record SpellsBin (held bytes : List ℕ) : Type 0 where
  pub form : BinForm
  pub fits : length held < bin_limit form
  pub are : bytes ≡ bin_head form (length held) ++ held

abbrev pub shortest_bin : ℕ → BinForm
shortest_bin n = if nat_lt n (2 ^ 8) then bin_8 else (if nat_lt n (2 ^ 16) then bin_16 else bin_32)

abbrev pub written_bin : List ℕ → List ℕ
written_bin held = bin_head (shortest_bin (length held)) (length held) ++ held

-- ---- nil

abbrev pub written_nil : List ℕ
written_nil = 0xc0 ∷ []

-- nil has one spelling
abbrev pub SpellsNil : List ℕ → Type 0
SpellsNil bytes = bytes ≡ written_nil

-- ---- items

pub data Item : Type 0 where
  an_integer : ℤ → Item
  a_text : List ℕ → Item
  -- the header of an array of so many items
  an_array : ℕ → Item
  -- a bin of the held bytes
  a_bin : List ℕ → Item
  a_nil : Item

abbrev pub SpellsItem : Item → List ℕ → Type 0
SpellsItem (an_integer z) bytes = SpellsInteger z bytes
SpellsItem (a_text text) bytes = SpellsText text bytes
SpellsItem (an_array n) bytes = SpellsArray n bytes
SpellsItem (a_bin held) bytes = SpellsBin held bytes
SpellsItem a_nil bytes = SpellsNil bytes

-- the bytes are, to the last one, spellings of the items in their order
abbrev pub SpellsItems : List Item → List ℕ → Type 0
SpellsItems [] bytes = bytes ≡ []
SpellsItems (item ∷ items) bytes = (first : List ℕ) × (rest : List ℕ) × SpellsItem item first × SpellsItems items rest × (bytes ≡ first ++ rest)
