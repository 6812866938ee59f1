-- Lists of names, and of names with their values.
use Rattle.std.specs.Prelude.{◌≡◌, ℕ, ◌<◌, ◌-◌, ◌^◌, min, length, List, [], ◌∷◌, ◌++◌, map, Option, Some, Bool, true}
use Rattle.std.specs.Option.{option_map}
use Rattle.std.specs.List.{filter_map, sum_by, AllByRecursion}
use Rattle.std.specs.Str.{IsUtf8}
use Rattle.std.specs.Cmp.Lexicographic.{slice_cmp}
use Rattle.std.specs.Ordering.{nat_cmp, is_lt}
use Rattle.definitions.specs.Search.{FitsPage}
use Rattle.record_model.specs.declared.names.NamedText.{NamedText}
use Rattle.view_rules.specs.Answers.{Named, named_bytes}
use Rattle.view_rules.specs.Standing.{value_of}
use Rattle.latest_values.specs.declared.setting.Setting.{Setting}
use Rattle.latest_values.specs.declared.listing.Showing.{Showing}
use Rattle.latest_values.specs.declared.listing.Showing.TheVariants.{NamesAlone, NamesWithValues}
use Rattle.latest_values.specs.Settings.{Places, setting_seen, has_name, said_of}

-- the bytes of a text, as one may be made of them
abbrev pub IsText : List ℕ → Type 0
IsText bytes = IsUtf8 bytes × (length bytes < 2 ^ 32)

-- the names for which places were made are texts
abbrev pub AreTexts : Places → Type 0
AreTexts places = (name : List ℕ) → has_name places name ≡ true → IsText name

abbrev pub named_seen : NamedText → Named
named_seen item = record { name = item.name; value = item.value }

-- what is shown of a name that has this value
abbrev pub item_of : Showing → (name value : List ℕ) → Named
item_of NamesAlone name value = record { name = name; value = [] }
item_of NamesWithValues name value = record { name = name; value = value }

-- the item is that of a name that has a value
abbrev pub IsThere : Showing → Places → Named → Type 0
IsThere showing places item = (value : List ℕ) × (value_of (said_of places item.name) ≡ Some value) × (item ≡ item_of showing item.name value)

-- ---- the walk: not trusted

-- the name stands above `after`; above the empty text each name stands
abbrev pub is_above : (after name : List ℕ) → Bool
is_above [] name = true
is_above (byte ∷ bytes) name = is_lt (slice_cmp nat_cmp (byte ∷ bytes) name)

abbrev pub item_at : Showing → (name : List ℕ) → Option Setting → Option Named
item_at showing name place = option_map (item_of showing name) (value_of (option_map setting_seen place))

abbrev pub items_seen : List NamedText → List Named
items_seen items = map named_seen items

-- what the items weigh, as far as it can be counted
abbrev pub weight_of : List NamedText → ℕ
weight_of items = min (sum_by named_bytes (items_seen items)) (2 ^ 64 - 1)

-- a walk over places on the way: what was taken, and what is left
pub record IsOnWay {V : Type 0} (name_of : V → List ℕ) (showing : Showing) (limit : ℕ) (all left : List (V × Option Setting)) (items : List NamedText) (bytes : ℕ) : Type 0 where
  pub texts : AllByRecursion (λ (e : V × Option Setting). IsText (name_of e.0)) left
  pub weighed : bytes ≡ weight_of items
  pub fits : FitsPage named_bytes limit (items_seen items)
  pub whole : items_seen items ++ filter_map (λ (e : V × Option Setting). item_at showing (name_of e.0) e.1) left ≡ filter_map (λ (e : V × Option Setting). item_at showing (name_of e.0) e.1) all
