-- What is there, by what the views find.
use Rattle.std.proofs.Common.{◌≡◌, ℕ, Bool, true, false, cond, List, Option, Some, None, refl, sym, ap, ◌∙◌}
use Rattle.std.specs.Prelude.{◌↔◌}
use Rattle.std.specs.Option.{option_map, option_or}
use Rattle.definitions.specs.Journal.{HistoryRecord}
use Rattle.record_rules.specs.Records.{Entry}
use Rattle.view_rules.specs.Changes.{Change, SameChanges}
use Rattle.view_rules.specs.Views.{ShowsHistory, ShowsKv, ShowsAlias}
use Rattle.view_rules.specs.Laws.{SameViews}
use Rattle.view_rules.proofs.Sets.{set_makes_views}
use Rattle.step_rules.specs.Store.{KeyedStore, shown_changes, HasCommand}
use Rattle.history_view.specs.ViewState.{ViewState}
use Rattle.history_view.specs.declared.rows.Creation.{Creation}
use Rattle.history_view.specs.Walk.{shown_command}
use Rattle.history_view.specs.Rows.{command_of}
use Rattle.history_view.proofs.History.{shows}
use Rattle.call_drafts.specs.Drafting.{KeepsHistory}

-- the first of several texts, one at a time
pub first_is : {X : Type 0} (t : Bool) (x : X) (o : Option X) → cond t (Some x) o ≡ option_or (cond t (Some x) None) o
first_is true x o = refl
first_is false x o = refl

some_none : {A : Type 0} {x : A} → None ≡ Some x → ⊥
some_none e = cc

-- a command that is shown under an id has it
id_of_command : (texts : List (List ℕ)) (id : ℕ) (o : Option Creation) (h : HistoryRecord) → Some h ≡ option_map (command_of texts id) o → h.id ≡ id
id_of_command texts id None h e = absurd cc
id_of_command texts id (Some c) h e = let same : h ≡ command_of texts id c = cc in ap (λ (x : HistoryRecord). x.id) same

module _ (view : ViewState) (store : KeyedStore) (journal : List Entry) (keeps : KeepsHistory view store journal) (id : ℕ) where
  alike : SameViews keeps.changes (shown_changes store journal)
  alike = set_makes_views keeps.changes (shown_changes store journal) keeps.listed.same

  pub command_there : (h : HistoryRecord) → Some h ≡ shown_command view id → HasCommand store journal id
  command_there h e =
      let same : h.id ≡ id = id_of_command view.texts id _ h e in
      let here : ShowsHistory keeps.changes h = (shows view keeps.changes keeps.means keeps.listed.apart h).0 (ap (shown_command view) same ∙ sym e) in
      (h, (here.0, (alike.history here.0 h).0 here.1), same)

  pub command_gone : None ≡ shown_command view id → HasCommand store journal id → ⊥
  command_gone e has =
      let here : ShowsHistory keeps.changes has.0 = (has.1.0, (alike.history has.1.0 has.0).1 has.1.1) in
      some_none (e ∙ ap (shown_command view) (sym has.2) ∙ (shows view keeps.changes keeps.means keeps.listed.apart has.0).1 here)

-- a value that is found under a key or a name, told of one list of changes and of another
module _ (changes others : List Change) (same : SameChanges changes others) (found : Option (List ℕ)) where
  module _ (namespace key : List ℕ) (is : (value : List ℕ) → (found ≡ Some value) ↔ ShowsKv changes namespace key value) where
    pub value_there : (value : List ℕ) → found ≡ Some value → (v : List ℕ) × ShowsKv others namespace key v
    value_there value e = let here = (is value).0 e in (value, (here.0, ((set_makes_views changes others same).kv namespace key here.0 (Some value)).0 here.1))

    pub value_gone : found ≡ None → ((v : List ℕ) × ShowsKv others namespace key v) → ⊥
    value_gone e has = some_none (sym e ∙ (is has.0).1 (has.1.0, ((set_makes_views changes others same).kv namespace key has.1.0 (Some has.0)).1 has.1.1))

  module _ (name : List ℕ) (is : (value : List ℕ) → (found ≡ Some value) ↔ ShowsAlias changes name value) where
    pub alias_there : (value : List ℕ) → found ≡ Some value → (v : List ℕ) × ShowsAlias others name v
    alias_there value e = let here = (is value).0 e in (value, (here.0, ((set_makes_views changes others same).aliases name here.0 (Some value)).0 here.1))

    pub alias_gone : found ≡ None → ((v : List ℕ) × ShowsAlias others name v) → ⊥
    alias_gone e has = some_none (sym e ∙ (is has.0).1 (has.1.0, ((set_makes_views changes others same).aliases name has.1.0 (Some has.0)).1 has.1.1))
