-- What a view of changes shows is what the whole list of them says.
use Rattle.std.proofs.Common.{◌≡◌, ℕ, List, Option, Some, None, Bool, true, false, cond, refl, sym, ap, ◌∙◌}
use Rattle.std.specs.Option.{option_map}
use Rattle.definitions.specs.Journal.{HistoryRecord}
use Rattle.view_rules.specs.Changes.{Change, HaveDistinctPlaces}
use Rattle.view_rules.specs.Views.{ShowsHistory}
use Rattle.view_rules.specs.Standing.{Created, Standing, standing, shown_of}
use Rattle.view_rules.proofs.Standings.{shown_both}
use Rattle.history_view.specs.declared.rows.Creation.{Creation}
use Rattle.history_view.specs.Rows.{command_of, created_of}
use Rattle.history_view.specs.Places.{held_in}
use Rattle.history_view.specs.ViewState.{ViewState, Means}
use Rattle.history_view.specs.Walk.{shown_command}

abbrev command_in : Option Created → Option HistoryRecord
command_in o = option_map (λ (c : Created). c.command) o

through : (texts : List (List ℕ)) (id : ℕ) (dead : Bool) (first : Option Creation) → option_map (command_of texts id) (cond dead None first) ≡ command_in (cond dead None (option_map (created_of texts id) first))
through texts id true first = refl
through texts id false None = refl
through texts id false (Some c) = refl

shown_through : (s : ViewState) (changes : List Change) → Means s changes → (id : ℕ) → shown_command s id ≡ command_in (shown_of (standing changes id))
shown_through s changes means id = through s.texts id (held_in s.ids id).dead (held_in s.ids id).first ∙ ap (λ (x : Standing). command_in (shown_of x)) (means id)

opened : (o : Option Created) (h : HistoryRecord) → command_in o ≡ Some h → (c : Created) × (o ≡ Some c) × (c.command ≡ h)
opened None h e = absurd cc
opened (Some c) h e = (c, refl, (let is : c.command ≡ h = cc in is))

pub shows : (s : ViewState) (changes : List Change) → Means s changes → HaveDistinctPlaces changes → (h : HistoryRecord) → (shown_command s h.id ≡ Some h → ShowsHistory changes h) × (ShowsHistory changes h → shown_command s h.id ≡ Some h)
shows s changes means own h = (
  λ e. (shown_both changes h own).1 (opened (shown_of (standing changes h.id)) h (sym (shown_through s changes means h.id) ∙ e)),
  λ shown. let p = (shown_both changes h own).0 shown in shown_through s changes means h.id ∙ ap command_in p.1 ∙ ap Some p.2,
)
