-- What is kept beside a log, of which store and journal; and what a draft, or its refusal, says of a call.
use Rattle.std.specs.Prelude.{List, Result, Ok, Err}
use Rattle.record_rules.specs.Records.{Entry}
use Rattle.view_rules.specs.Changes.{Change, HaveDistinctPlaces, SameChanges}
use Rattle.step_rules.specs.Calls.{Call}
use Rattle.step_rules.specs.Store.{KeyedStore, shown_changes}
use Rattle.step_rules.specs.Step.{Drafts, Unknown}
use Rattle.record_model.specs.declared.replying.Refusal.{Refusal}
use Rattle.record_model.specs.declared.replying.Refusal.TheVariants as refusals
use Rattle.model_words.specs.Seen.{refusal_seen}
use Rattle.started_commands.specs.Kept.{IsOf}
use Rattle.history_view.specs.ViewState as history
use Rattle.kv_view.specs.Pairs as pairs
use Rattle.alias_view.specs.Aliases as aliases
use Rattle.latest_values.specs.Settings.{Places}
use Rattle.call_drafts.specs.declared.drafts.Draft.{Draft}
use Rattle.call_drafts.specs.declared.kept.Kept.{Kept}
use Rattle.call_drafts.specs.Seen.{draft_seen}

-- a list of the changes that the store's records hold in the journal, in whatever order, each at a place of its own
pub record IsListOfChanges (changes : List Change) (store : KeyedStore) (journal : List Entry) : Type 0 where
  pub apart : HaveDistinctPlaces changes
  pub same : SameChanges changes (shown_changes store journal)

-- the view is of such a list
pub record KeepsHistory (view : history.ViewState) (store : KeyedStore) (journal : List Entry) : Type 0 where
  pub changes : List Change
  pub means : history.Means view changes
  pub listed : IsListOfChanges changes store journal

pub record KeepsPairs (view : pairs.Pairs) (store : KeyedStore) (journal : List Entry) : Type 0 where
  pub changes : List Change
  pub means : pairs.Means view changes
  pub listed : IsListOfChanges changes store journal

pub record KeepsAliases (view : Places) (store : KeyedStore) (journal : List Entry) : Type 0 where
  pub changes : List Change
  pub means : aliases.Means view changes
  pub listed : IsListOfChanges changes store journal

pub record IsKeptOf (kept : Kept) (store : KeyedStore) (journal : List Entry) : Type 0 where
  pub commands : IsOf kept.commands journal
  pub history : KeepsHistory kept.history store journal
  pub pairs : KeepsPairs kept.pairs store journal
  pub aliases : KeepsAliases kept.aliases store journal

-- the draft is the call's, or the refusal tells what isn't there; or memory was wanting
abbrev pub DraftsOr : KeyedStore → List Entry → Call → Result Draft Refusal → Type 0
DraftsOr store journal call (Ok draft) = Drafts store journal call (draft_seen draft)
DraftsOr store journal call (Err refusals.NoMemory) = Unit {0}
DraftsOr store journal call (Err refusal) = Unknown store journal call (refusal_seen refusal)
