-- What a list of changes shows: the commands that ended, the values under keys, and the aliases. Each view is a condition
-- over the whole list, so the order in which the changes came is nowhere spoken of.
use Rattle.std.specs.Prelude.{◌≡◌, ℕ, List, Option, Some, None, ◌&&◌, bytes_eq, if◌then◌else◌}
use Rattle.std.specs.List.{Contains}
use Rattle.std.specs.declared.cmp.Ordering.TheVariants.{Less}
use Rattle.definitions.specs.Journal.{HistoryRecord}
use Rattle.payload_rules.specs.Payloads.{Payload, HistoryCreate, HistoryDelete, KvSet, KvDelete, AliasSet, AliasDelete}
use Rattle.view_rules.specs.Changes.{Change, origin_cmp, time_cmp}

-- ---- commands that ended

module _ (changes : List Change) where
  -- the change is one of these, and creates this command
  pub record Creates (c : Change) (h : HistoryRecord) : Type 0 where
    pub among : Contains changes c
    pub creates : c.payload ≡ HistoryCreate h

  -- the id was deleted, by a change of its own or by a creation that says when
  pub data Dead (id : ℕ) : Type 0 where
    by_deletion : (c : Change) → Contains changes c → c.payload ≡ HistoryDelete id → Dead id
    by_creation : (c : Change) (h : HistoryRecord) (time : ℕ) → Creates c h → h.id ≡ id → h.deleted_at ≡ Some time → Dead id

  -- the history view has this command, which this change created: its id isn't dead, and no creation of the same id stands
  -- at a lesser host and idx
  pub record InHistory (c : Change) (h : HistoryRecord) : Type 0 where
    pub created : Creates c h
    pub alive : Dead h.id → ⊥
    pub first : (d : Change) (other : HistoryRecord) → Creates d other → other.id ≡ h.id → origin_cmp d c ≡ Less → ⊥

  -- the command is one that the history view has
  abbrev pub ShowsHistory : HistoryRecord → Type 0
  ShowsHistory h = (c : Change) × InHistory c h

-- ---- values under keys, and aliases

-- what a payload says of a key or a name: a value, or that it has none; or nothing, where it speaks of something else
abbrev pub Saying : Type 0
Saying = Payload → Option (Option (List ℕ))

abbrev pub of_key : (namespace key : List ℕ) → Saying
of_key namespace key (KvSet n k value) = if bytes_eq n namespace && bytes_eq k key then Some (Some value) else None
of_key namespace key (KvDelete n k) = if bytes_eq n namespace && bytes_eq k key then Some None else None
of_key namespace key _ = None

abbrev pub of_name : (name : List ℕ) → Saying
of_name name (AliasSet n value) = if bytes_eq n name then Some (Some value) else None
of_name name (AliasDelete n) = if bytes_eq n name then Some None else None
of_name name _ = None

module _ (saying : Saying) (changes : List Change) where
  -- the change is one of these, and says this
  pub record Says (c : Change) (said : Option (List ℕ)) : Type 0 where
    pub among : Contains changes c
    pub says : saying c.payload ≡ Some said

  -- it is the last that was said: no later change says anything
  pub record SaysLast (c : Change) (said : Option (List ℕ)) : Type 0 where
    pub here : Says c said
    pub last : (d : Change) (other : Option (List ℕ)) → Says d other → time_cmp c d ≡ Less → ⊥

-- the key of the namespace has this value: it was the last that was said of it
abbrev pub ShowsKv : List Change → (namespace key value : List ℕ) → Type 0
ShowsKv changes namespace key value = (c : Change) × SaysLast (of_key namespace key) changes c (Some value)

-- the name stands for this value
abbrev pub ShowsAlias : List Change → (name value : List ℕ) → Type 0
ShowsAlias changes name value = (c : Change) × SaysLast (of_name name) changes c (Some value)
