-- What a view of changes shows.
use Rattle.std.specs.Prelude.{◌≡◌, List, Some, ◌↔◌}
use Rattle.definitions.specs.Journal.{HistoryRecord}
use Rattle.view_rules.specs.Changes.{Change, HaveDistinctPlaces}
use Rattle.view_rules.specs.Views.{ShowsHistory}
use Rattle.history_view.specs.ViewState.{ViewState, Means}
use Rattle.history_view.specs.Walk.{shown_command}

-- where no two changes stand at one host, tag and idx, a view of them shows the commands of the history view
abbrev pub ViewShowsHistory : Type 0
ViewShowsHistory = (s : ViewState) (changes : List Change) → Means s changes → HaveDistinctPlaces changes → (h : HistoryRecord) → (shown_command s h.id ≡ Some h) ↔ ShowsHistory changes h
