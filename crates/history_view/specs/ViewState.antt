-- What a history view holds, and what it means.
use Rattle.std.specs.Prelude.{◌≡◌, ℕ, List, Option, Some, None, true, sum_by}
use Rattle.std.specs.Map.{values_of}
use Rattle.payload_rules.specs.Payloads.{Payload, HistoryCreate, HistoryDelete}
use Rattle.view_rules.specs.Changes.{Change}
use Rattle.view_rules.specs.Standing.{Standing, standing}
use Rattle.history_view.specs.declared.rows.Creation.{Creation}
use Rattle.history_view.specs.declared.rows.TextNumbers.{TextNumbers}
use Rattle.history_view.specs.declared.rows.Held.{Held}
use Rattle.history_view.specs.Rows.{standing_of, command_of, HasTexts}
use Rattle.history_view.specs.Texts.{KeepsTexts}
use Rattle.history_view.specs.Counts.{Counts, AreCounted, SameCounts, is_shown}
use Rattle.history_view.specs.Places.{OrderKey, held_in, has_id, has_key, numbers_in, IsOrderOf, KeepsIds, KeepsKeys}

-- the texts by their numbers, how often each is shown, how many commands are shown, how ids stand, and the order of what is
-- shown
pub record ViewState : Type 0 where
  pub texts : List (List ℕ)
  pub counts : Counts
  pub shown : ℕ
  pub ids : List (ℕ × Held)
  pub order : List (OrderKey × Option TextNumbers)

-- what is true of every view
pub record IsSound (s : ViewState) : Type 0 where
  pub texts : (id : ℕ) (c : Creation) → (held_in s.ids id).first ≡ Some c → HasTexts s.texts c
  pub order : IsOrderOf s.ids s.order
  pub counted : AreCounted s.counts s.order
  pub shown : s.shown ≡ sum_by is_shown (values_of s.order)

-- ---- meaning

-- how an id stands
abbrev pub standing_in : ViewState → ℕ → Standing
standing_in s id = standing_of s.texts id (held_in s.ids id)

-- the view is of these changes
abbrev pub Means : ViewState → List Change → Type 0
Means s changes = (id : ℕ) → standing_in s id ≡ standing changes id

-- ---- rooms

pub record IsCreationRoom (s : ViewState) (id : ℕ) (c : Creation) (payload : Payload) : Type 0 where
  pub texts : HasTexts s.texts c
  pub has_id : has_id s.ids id ≡ true
  pub has_key : has_key s.order (record { 0 = c.timestamp }, id) ≡ true
  pub holds : payload ≡ HistoryCreate (command_of s.texts id c)

pub record IsDeletionRoom (s : ViewState) (id : ℕ) (payload : Payload) : Type 0 where
  pub has_id : has_id s.ids id ≡ true
  pub holds : payload ≡ HistoryDelete id

-- texts were numbered and places made, and nothing else changed
pub record Steady (old new : ViewState) : Type 0 where
  pub texts : KeepsTexts old.texts new.texts
  pub has_ids : KeepsIds old.ids new.ids
  pub ids : (id : ℕ) → held_in new.ids id ≡ held_in old.ids id
  pub has_keys : KeepsKeys old.order new.order
  pub order : (key : OrderKey) → numbers_in new.order key ≡ numbers_in old.order key
  pub counts : SameCounts old.counts new.counts
  pub shown : new.shown ≡ old.shown
  pub sums : (f : Option TextNumbers → ℕ) → f None ≡ 0 → sum_by f (values_of new.order) ≡ sum_by f (values_of old.order)
