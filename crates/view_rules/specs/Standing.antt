-- How an id, a key or a name stands after a list of changes, read from the newest change down: what one change more does to
-- a view. Not trusted: the laws say that it is what `Views` says of the whole list.
use Rattle.std.specs.Prelude.{ℕ, List, [], ◌∷◌, Option, None, Some, Bool, true, false, ◌||◌, cond, ◌==◌}
use Rattle.std.specs.Option.{is_some}
use Rattle.std.specs.declared.cmp.Ordering.{Ordering}
use Rattle.std.specs.Ordering.{nat_cmp, ordering_then, is_lt}
use Rattle.definitions.specs.Journal.{HistoryRecord}
use Rattle.payload_rules.specs.Payloads.{Payload, HistoryCreate, HistoryDelete, KvSet, KvDelete, AliasSet, AliasDelete}
use Rattle.view_rules.specs.Changes.{Change}
use Rattle.view_rules.specs.Views.{Saying}

-- ---- ids

-- a creation, and the host and idx of its change
pub record Created : Type 0 where
  pub host : ℕ
  pub idx : ℕ
  pub command : HistoryRecord

-- of an id: whether it is dead, and its creation at the least host and idx
pub record Standing : Type 0 where
  pub dead : Bool
  pub first : Option Created

abbrev pub untouched : Standing
untouched = record { dead = false; first = None }

-- the earlier of the two by host, then idx; of two at one place the second
abbrev pub earlier : Created → Option Created → Created
earlier c None = c
earlier c (Some d) = cond (is_lt (ordering_then (nat_cmp c.host d.host) (nat_cmp c.idx d.idx))) c d

-- how the id of the command stands after its creation
abbrev pub after_creation : Created → Standing → Standing
after_creation c s = record { dead = s.dead || is_some c.command.deleted_at; first = Some (earlier c s.first) }

abbrev pub after_deletion : Standing → Standing
after_deletion s = record { dead = true; first = s.first }

-- how the id stands after a change at this host and idx that holds this
abbrev pub after_payload : (host idx : ℕ) → Payload → ℕ → Standing → Standing
after_payload host idx (HistoryCreate h) id s = cond (h.id == id) (after_creation (record { host = host; idx = idx; command = h }) s) s
after_payload host idx (HistoryDelete gone) id s = cond (gone == id) (after_deletion s) s
after_payload host idx (KvSet namespace key value) id s = s
after_payload host idx (KvDelete namespace key) id s = s
after_payload host idx (AliasSet name value) id s = s
after_payload host idx (AliasDelete name) id s = s

abbrev pub standing : List Change → ℕ → Standing
standing [] id = untouched
standing (c ∷ changes) id = after_payload c.host c.idx c.payload id (standing changes id)

-- what is shown of an id that stands so
abbrev pub shown_of : Standing → Option Created
shown_of s = cond s.dead None s.first

-- ---- keys and names

-- what was said of a key or a name, and by which change
pub record Setting : Type 0 where
  pub timestamp : ℕ
  pub host : ℕ
  pub idx : ℕ
  pub said : Option (List ℕ)

-- by timestamp, then host, then idx
abbrev pub setting_cmp : Setting → Setting → Ordering
setting_cmp s t = ordering_then (nat_cmp s.timestamp t.timestamp) (ordering_then (nat_cmp s.host t.host) (nat_cmp s.idx t.idx))

-- the later of the two; of two at one time and place the second
abbrev pub later : Setting → Option Setting → Setting
later s None = s
later s (Some t) = cond (is_lt (setting_cmp t s)) s t

abbrev pub setting_of : Change → Option (List ℕ) → Setting
setting_of c said = record { timestamp = c.timestamp; host = c.host; idx = c.idx; said = said }

-- how the key or name stands after a change that says this of it, or nothing
abbrev pub after_saying : Option (Option (List ℕ)) → Change → Option Setting → Option Setting
after_saying None c held = held
after_saying (Some said) c held = Some (later (setting_of c said) held)

-- the last that was said of it
abbrev pub last_said : Saying → List Change → Option Setting
last_said saying [] = None
last_said saying (c ∷ changes) = after_saying (saying c.payload) c (last_said saying changes)

-- the value that it leaves
abbrev pub value_of : Option Setting → Option (List ℕ)
value_of None = None
value_of (Some s) = s.said
