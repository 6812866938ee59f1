-- What is kept of names, and what it means.
use Rattle.std.specs.Prelude.{◌≡◌, ℕ, List, Option, None, Some, Bool, true}
use Rattle.std.specs.Option.{option_map, unwrap_or, is_some}
use Rattle.std.specs.Map.{lookup}
use Rattle.std.specs.BTreeMap.{is_at}
use Rattle.std.specs.Cmp.Lexicographic.{slice_cmp}
use Rattle.std.specs.Ordering.{nat_cmp, is_lt}
use Rattle.view_rules.specs.Standing.{setting_cmp}
use Rattle.view_rules.specs.Standing as standing
use Rattle.latest_values.specs.declared.setting.Setting.{Setting}

abbrev pub setting_seen : Setting → standing.Setting
setting_seen s = record { timestamp = s.timestamp; host = s.host; idx = s.idx; said = s.said }

-- names in rising order, each with what was said of it; a place may be made before anything is said
abbrev pub Places : Type 0
Places = List (List ℕ × Option Setting)

abbrev pub place_of : Places → List ℕ → Option (Option Setting)
place_of places name = lookup (is_at (slice_cmp nat_cmp name)) places

abbrev pub has_name : Places → List ℕ → Bool
has_name places name = is_some (place_of places name)

abbrev pub held_in : Places → List ℕ → Option Setting
held_in places name = unwrap_or (place_of places name) None

-- the last that was said of a name
abbrev pub said_of : Places → List ℕ → Option standing.Setting
said_of places name = option_map setting_seen (held_in places name)

-- a place that was made stays made
abbrev pub KeepsNames : (old new : Places) → Type 0
KeepsNames old new = (name : List ℕ) → has_name old name ≡ true → has_name new name ≡ true

-- whether it is later than what was said before, if anything was
abbrev pub stands_later : standing.Setting → Option standing.Setting → Bool
stands_later s None = true
stands_later s (Some t) = is_lt (setting_cmp t s)
