-- How ids stand, and where what is shown of them stands in the order of searches.
use Rattle.std.specs.Prelude.{◌≡◌, ℕ, List, Option, None, Some, Bool, true, cond, ◌==◌, nat_eq}
use Rattle.std.specs.Option.{unwrap_or, is_some}
use Rattle.std.specs.Map.{lookup}
use Rattle.std.specs.BTreeMap.{is_at}
use Rattle.std.specs.Ordering.{nat_cmp, ordering_then}
use Rattle.std.specs.declared.cmp.Ordering.{Ordering}
use Rattle.std.specs.declared.cmp.Reverse.{Reverse}
use Rattle.history_view.specs.declared.rows.Creation.{Creation}
use Rattle.history_view.specs.declared.rows.TextNumbers.{TextNumbers}
use Rattle.history_view.specs.declared.rows.Held.{Held}
use Rattle.history_view.specs.Rows.{nothing_held, shown_row, numbers_of}

-- a time, and an id
abbrev pub OrderKey : Type 0
OrderKey = Reverse ℕ × ℕ

abbrev pub key_cmp : OrderKey → OrderKey → Ordering
key_cmp a b = ordering_then (nat_cmp b.0.0 a.0.0) (nat_cmp a.1 b.1)

-- ---- ids

abbrev pub has_id : List (ℕ × Held) → ℕ → Bool
has_id ids id = is_some (lookup (nat_eq id) ids)

abbrev pub held_in : List (ℕ × Held) → ℕ → Held
held_in ids id = unwrap_or (lookup (nat_eq id) ids) nothing_held

-- ---- the order

abbrev pub has_key : List (OrderKey × Option TextNumbers) → OrderKey → Bool
has_key order key = is_some (lookup (is_at (key_cmp key)) order)

-- what stands at the key; a key may be made before anything stands there
abbrev pub numbers_in : List (OrderKey × Option TextNumbers) → OrderKey → Option TextNumbers
numbers_in order key = unwrap_or (lookup (is_at (key_cmp key)) order) None

-- what is to stand at a time, of an id of which this creation is shown
abbrev pub numbers_for : ℕ → Option Creation → Option TextNumbers
numbers_for time None = None
numbers_for time (Some c) = cond (c.timestamp == time) (Some (numbers_of c)) None

-- each key has what is to stand there
abbrev pub IsOrderOf : List (ℕ × Held) → List (OrderKey × Option TextNumbers) → Type 0
IsOrderOf ids order = (key : OrderKey) → numbers_in order key ≡ numbers_for key.0.0 (shown_row (held_in ids key.1))

-- what was made stays made
abbrev pub KeepsIds : (old new : List (ℕ × Held)) → Type 0
KeepsIds old new = (id : ℕ) → has_id old id ≡ true → has_id new id ≡ true

abbrev pub KeepsKeys : (old new : List (OrderKey × Option TextNumbers)) → Type 0
KeepsKeys old new = (key : OrderKey) → has_key old key ≡ true → has_key new key ≡ true
