-- What is shown, from the newest on.
use Rattle.std.specs.Prelude.{◌≡◌, ℕ, List, [], ◌∷◌, Option, None, Some, true, ◌↔◌}
use Rattle.std.specs.Option.{option_map}
use Rattle.std.specs.List.{filter_map, Contains, AllByRecursion}
use Rattle.definitions.specs.Search.{is_shown_before}
use Rattle.definitions.specs.Journal.{HistoryRecord}
use Rattle.history_view.specs.declared.rows.Creation.{Creation}
use Rattle.history_view.specs.declared.rows.TextNumbers.{TextNumbers}
use Rattle.history_view.specs.declared.walk.Walked.{Walked}
use Rattle.history_view.specs.Rows.{command_of, shown_row, numbers_of, HasTexts}
use Rattle.history_view.specs.Places.{OrderKey, held_in}
use Rattle.history_view.specs.ViewState.{ViewState}

abbrev pub with_numbers : OrderKey → Option TextNumbers → List Walked → List Walked
with_numbers key None rest = rest
with_numbers key (Some numbers) rest = record { timestamp = key.0.0; id = key.1; numbers = numbers } ∷ rest

-- what stands in the order, without the empty places
abbrev pub walked_in : List (OrderKey × Option TextNumbers) → List Walked
walked_in [] = []
walked_in (e ∷ es) = with_numbers e.0 e.1 (walked_in es)

-- the command that is shown of an id
abbrev pub shown_command : ViewState → ℕ → Option HistoryRecord
shown_command s id = option_map (command_of s.texts id) (shown_row (held_in s.ids id))

-- the commands that are shown, the newest first
abbrev pub newest_of : ViewState → List HistoryRecord
newest_of s = filter_map (λ (w : Walked). shown_command s w.id) (walked_in s.order)

-- what was walked to is of the creation that is shown of its id
pub record IsRow (s : ViewState) (w : Walked) : Type 0 where
  pub creation : Creation
  pub shown : shown_row (held_in s.ids w.id) ≡ Some creation
  pub numbers : w.numbers ≡ numbers_of creation
  pub timestamp : creation.timestamp ≡ w.timestamp
  pub texts : HasTexts s.texts creation

-- each is shown before all later ones
abbrev pub StandInOrder : List HistoryRecord → Type 0
StandInOrder [] = Unit {0}
StandInOrder (h ∷ hs) = AllByRecursion (λ (later : HistoryRecord). is_shown_before h later ≡ true) hs × StandInOrder hs

-- the list has the commands that are shown, and no others
abbrev pub AreShown : ViewState → List HistoryRecord → Type 0
AreShown s hs = (h : HistoryRecord) → Contains hs h ↔ (shown_command s h.id ≡ Some h)
