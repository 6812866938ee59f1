-- One entry more of a journal is its change more in the lists that the views are of, or none.
use Rattle.std.proofs.Common.{◌≡◌, ℕ, Bool, true, false, cond, List, [], ◌∷◌, ◌++◌, Option, Some, None, inl, inr, refl, sym, ap, subst, ◌∙◌, append-nil}
use Rattle.std.specs.Prelude.{◌==◌}
use Rattle.std.specs.Option.{option_map}
use Rattle.std.specs.List.{Contains, cons_option}
use Rattle.std.proofs.lemmas.List.Elements.{filter_map-append}
use Rattle.record_rules.specs.Records.{SealedRecord, Entry, Event, Started, Local, Taken}
use Rattle.record_rules.specs.Journal.{own_of, own_events, records_of, event_record, Sound}
use Rattle.record_rules.proofs.Owned.{own_events-append}
use Rattle.view_rules.specs.Changes.{Change, SameChanges, HaveDistinctPlaces, viewed, change_of, changes_of, OpensByTag}
use Rattle.view_rules.proofs.Records.{Has-from_Contains, Contains-from_Has, own_places}
use Rattle.view_rules.proofs.Sets.{stands_first}
use Rattle.step_rules.specs.Store.{KeyedStore, shown_changes}
use Rattle.step_rules.specs.Sealing.{keyed_store}
use Rattle.step_rules.proofs.Sealing.{keyed_store_holds}
use Rattle.record_seal.proofs.StoreSealing.{record_sealing}
use Rattle.started_commands.specs.Kept.{IsOf}
use Rattle.history_view.specs.ViewState as history
use Rattle.kv_view.specs.Pairs as pairs
use Rattle.alias_view.specs.Aliases as aliases
use Rattle.call_drafts.specs.Drafting.{IsListOfChanges, IsKeptOf}
use Rattle.call_drafts.specs.declared.kept.Kept.{Kept}
use Rattle.kept_views.specs.Shown.{payload_under, change_under}
use Rattle.kept_views.specs.Keeping.{KeepsFor, GrowsBy}

-- ---- sets of changes

over : (c : Change) (changes others : List Change) → ((d : Change) → Contains changes d → Contains others d) → (d : Change) → Contains (c ∷ changes) d → Contains (c ∷ others) d
over c changes others there d among = Contains-from_Has (c ∷ others) d (elim (Has-from_Contains (c ∷ changes) d among) [
  | inl e ↦ inl e
  | inr m ↦ inr (Has-from_Contains others d (there d (Contains-from_Has changes d m)))
])

-- at the front of the one list, at the end of the other
more_same : (more : Option Change) (changes others : List Change) → SameChanges changes others → SameChanges (cons_option more changes) (others ++ cons_option more [])
more_same None changes others same d = subst (λ (all : List Change). SameChanges changes all) (sym (append-nil others)) same d
more_same (Some c) changes others same d = (
  λ among. (stands_first others c d).1 (over c changes others (λ e. (same e).0) d among),
  λ among. over c others changes (λ e. (same e).1) d ((stands_first others c d).0 among),
)

apart_over : (changes others : List Change) → SameChanges changes others → HaveDistinctPlaces others → HaveDistinctPlaces changes
apart_over changes others same apart c d in_c in_d = apart c d ((same c).0 in_c) ((same d).0 in_d)

-- ---- nothing

pub nothing_keeps : (host : ℕ) (key : Option (List ℕ)) (kept : Kept) → IsOf kept.commands [] → history.Means kept.history [] → pairs.Means kept.pairs [] → aliases.Means kept.aliases [] → KeepsFor host key kept []
nothing_keeps host None kept commands h p a = commands
nothing_keeps host (Some key) kept commands h p a = record {
  commands = commands;
  history = record { changes = []; means = h; listed = listed };
  pairs = record { changes = []; means = p; listed = listed };
  aliases = record { changes = []; means = a; listed = listed };
}
  where
    listed : IsListOfChanges [] (keyed_store record_sealing host key) []
    listed = record { apart = λ c d in_c. absurd (Has-from_Contains [] c in_c); same = λ c. (λ among. among, λ among. among) }

-- ---- one entry more

module _ (host : ℕ) (key : List ℕ) where
  abbrev store : KeyedStore
  store = keyed_store record_sealing host key

  own_change : (event : Event) → changes_of store.opens (records_of (own_of (event ∷ []) 0)) ≡ cons_option (change_under (Some key) event) []
  own_change (Started s) = refl
  own_change (Local closes r) = refl
  own_change (Taken owner r) = by (owner == 0)
    where
      by : (b : Bool) → changes_of store.opens (records_of (cond b (Taken owner r ∷ []) [])) ≡ cons_option (option_map (change_of r) (cond b (payload_under (Some key) r) None)) []
      by true = refl
      by false = refl

  changes_more : (journal : List Entry) (entry : Entry) → shown_changes store (journal ++ entry ∷ []) ≡ shown_changes store journal ++ cons_option (change_under (Some key) entry.event) []
  changes_more journal entry =
      ap (λ (events : List Event). changes_of store.opens (records_of events)) (own_events-append journal (entry ∷ []) 0)
      ∙ ap (changes_of store.opens) (filter_map-append event_record (own_events journal 0) (own_events (entry ∷ []) 0))
      ∙ filter_map-append (λ (r : SealedRecord). option_map (change_of r) (store.opens r)) (viewed journal) (records_of (own_events (entry ∷ []) 0))
      ∙ ap (λ (more : List Change). shown_changes store journal ++ more) (own_change entry.event)

  by_tag : OpensByTag store.opens
  by_tag = (keyed_store_holds record_sealing host key).opens_by_tag

  listed_more : (changes : List Change) (journal : List Entry) (entry : Entry) → Sound (journal ++ entry ∷ []) host → IsListOfChanges changes store journal → IsListOfChanges (cons_option (change_under (Some key) entry.event) changes) store (journal ++ entry ∷ [])
  listed_more changes journal entry sound listed =
      let more : List Change = cons_option (change_under (Some key) entry.event) changes in
      let all : List Change = shown_changes store (journal ++ entry ∷ []) in
      let same : SameChanges more all = subst (λ (all : List Change). SameChanges more all) (sym (changes_more journal entry)) (more_same (change_under (Some key) entry.event) changes (shown_changes store journal) listed.same) in
      record { apart = apart_over more all same (own_places store.opens (journal ++ entry ∷ []) host by_tag sound); same = same }

  kept_more : (old new : Kept) (journal : List Entry) (entry : Entry) → Sound (journal ++ entry ∷ []) host → IsOf new.commands (journal ++ entry ∷ []) → GrowsBy old new (change_under (Some key) entry.event) → IsKeptOf old store journal → IsKeptOf new store (journal ++ entry ∷ [])
  kept_more old new journal entry sound commands grows keeps =
      let more : List Change → List Change = λ changes. cons_option (change_under (Some key) entry.event) changes in
      record {
        commands = commands;
        history = record { changes = more keeps.history.changes; means = grows.history keeps.history.changes keeps.history.means; listed = listed_more keeps.history.changes journal entry sound keeps.history.listed };
        pairs = record { changes = more keeps.pairs.changes; means = grows.pairs keeps.pairs.changes keeps.pairs.means; listed = listed_more keeps.pairs.changes journal entry sound keeps.pairs.listed };
        aliases = record { changes = more keeps.aliases.changes; means = grows.aliases keeps.aliases.changes keeps.aliases.means; listed = listed_more keeps.aliases.changes journal entry sound keeps.aliases.listed };
      }

pub keeps_more : (host : ℕ) (key : Option (List ℕ)) (old new : Kept) (journal : List Entry) (entry : Entry) → Sound (journal ++ entry ∷ []) host
    → (IsOf old.commands journal → IsOf new.commands (journal ++ entry ∷ [])) → GrowsBy old new (change_under key entry.event) → KeepsFor host key old journal → KeepsFor host key new (journal ++ entry ∷ [])
keeps_more host None old new journal entry sound commands grows keeps = commands keeps
keeps_more host (Some key) old new journal entry sound commands grows keeps = kept_more host key old new journal entry sound (commands keeps.commands) grows keeps
