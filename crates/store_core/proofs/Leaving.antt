-- What a crash may leave in a turn, from what settling and committing leave.
use Rattle.std.proofs.Common.{◌≡◌, inl, inr, ℕ, List, [], ◌∷◌, ◌++◌, map, Option, Some, None, refl, sym, ap, subst, ◌∙◌}
use Rattle.std.specs.Prelude.{◌≢◌, IfSome}
use Rattle.std.proofs.lemmas.List.{map-append, append-nil}
use Rattle.record_rules.specs.Records.{Entry, Event}
use Rattle.record_rules.specs.Journal.{SoundEvents, events_of}
use Rattle.log_rules.specs.Log.{current_form, IsLogPrefix, StandsFor}
use Rattle.disk_rules.specs.History.{History, Images}
use Rattle.crash_rules.specs.Laws.{IsBeforeOrAfter}
use Rattle.step_rules.specs.Turn.{settled_entry, settled}
use Rattle.at_edge.specs.Storing.{Arrives}
use Rattle.at_edge.proofs.DiskRuns.{arrives_nowhere, arrives_then, arrives_weaker}
use Rattle.record_log.specs.Journals.{LogSeen, LeavesOneOfTwo, LeavesJournal}
use Rattle.store_tables.specs.declared.tables.Tables.{Tables}
use Rattle.store_tables.specs.declared.tables.Batch.{Batch}
use Rattle.store_core.specs.Store.{StoreSeen, doubted, HasRoomForDoubt, IsStoreOf}
use Rattle.store_core.specs.Calls.{IsOfTurn, LeavesByTurn}

-- ---- what bytes stand for

pub stands_alike : (left : List ℕ) (host : ℕ) (journal other : List Entry) → events_of journal ≡ events_of other → StandsFor current_form left host journal → StandsFor current_form left host other
stands_alike left host journal other same stands = record {
  prefix = stands.prefix;
  behind = stands.behind;
  opened = subst (λ (es : List Event). IsLogPrefix current_form stands.prefix host es) same stands.opened;
  bytes_are = stands.bytes_are;
  sound = subst (λ (es : List Event). SoundEvents es host) same stands.sound;
}

same_events : (batch : List Entry) → events_of batch ≡ events_of (map settled_entry batch)
same_events [] = refl
same_events (entry ∷ batch) = ap (λ (es : List Event). entry.event ∷ es) (same_events batch)

pub settled_alike : (journal doubt : List Entry) → events_of (journal ++ doubt) ≡ events_of (settled journal doubt)
settled_alike journal doubt =
    map-append (λ (e : Entry). e.event) journal doubt ∙ ap (λ (es : List Event). events_of journal ++ es) (same_events doubt) ∙ sym (map-append (λ (e : Entry). e.event) journal (map settled_entry doubt))

-- ---- moments

images : (P Q : List ℕ → Type 0) → ((left : List ℕ) → P left → Q left) → (old new : Option History) → Arrives (Images P) (λ _. Unit {0}) old new → Arrives (Images Q) (λ _. Unit {0}) old new
images P Q weaker old new run = arrives_weaker (Images Q) (Images P) (λ _. Unit {0}) (λ _. Unit {0}) old new (λ disk are left leaves. weaker left (are left leaves)) (λ disk u. u) run

-- where nothing is written
pub rest_leaves : (log : LogSeen) (journal doubt after doubt_after : List Entry) → LeavesByTurn log log journal doubt after doubt_after
rest_leaves log journal doubt after doubt_after = arrives_nowhere (Images (IsOfTurn log.host journal doubt after doubt_after)) (λ _. Unit {0}) log.disk.history (nothing log.disk.history)
  where
    nothing : (o : Option History) → IfSome o (λ _. Unit {0})
    nothing None = tt
    nothing (Some h) = tt

module _ (old new : LogSeen) (journal : List Entry) where
  -- where a batch was settled or committed, or is in doubt still
  pub batch_leaves : (more doubt after doubt_after : List Entry) → journal ++ more ≡ after ++ doubt_after → LeavesOneOfTwo journal more old new → LeavesByTurn old new journal doubt after doubt_after
  batch_leaves more doubt after doubt_after are run = images (IsBeforeOrAfter current_form old.host journal more) (IsOfTurn old.host journal doubt after doubt_after) weaker old.disk.history new.disk.history run
    where
      weaker : (left : List ℕ) → IsBeforeOrAfter current_form old.host journal more left → IsOfTurn old.host journal doubt after doubt_after left
      weaker left (inl before) = inl before
      weaker left (inr behind) = inr (inr (subst (λ (j : List Entry). StandsFor current_form left old.host j) are behind))

  pub commit_leaves : (more : List Entry) → LeavesOneOfTwo journal more old new → LeavesByTurn old new journal [] (journal ++ more) []
  commit_leaves more run = batch_leaves more [] (journal ++ more) [] (sym (append-nil (journal ++ more))) run

  pub doubt_leaves : (more doubt : List Entry) → LeavesOneOfTwo journal more old new → LeavesByTurn old new journal doubt journal more
  doubt_leaves more doubt run = batch_leaves more doubt journal more refl run

  -- where the batch is lost
  pub loss_leaves : LeavesJournal journal old new → LeavesByTurn old new journal [] journal []
  loss_leaves run = images (λ left. StandsFor current_form left old.host journal) (IsOfTurn old.host journal [] journal []) (λ left stands. inl stands) old.disk.history new.disk.history run

-- where what is in doubt was settled, or is still
settling : (host : ℕ) (journal doubt after doubt_after : List Entry) (left : List ℕ) → IsBeforeOrAfter current_form host journal doubt left → IsOfTurn host journal doubt after doubt_after left
settling host journal doubt after doubt_after left (inl before) = inl before
settling host journal doubt after doubt_after left (inr behind) = inr (inl (stands_alike left host (journal ++ doubt) (settled journal doubt) (settled_alike journal doubt) behind))

pub settled_leaves : (old new : LogSeen) (journal doubt after doubt_after : List Entry) → LeavesOneOfTwo journal doubt old new → LeavesByTurn old new journal doubt after doubt_after
settled_leaves old new journal doubt after doubt_after run =
    images (IsBeforeOrAfter current_form old.host journal doubt) (IsOfTurn old.host journal doubt after doubt_after) (settling old.host journal doubt after doubt_after) old.disk.history new.disk.history run

-- and where the call goes on from there
pub then_leaves : (old mid new : LogSeen) (journal doubt after doubt_after : List Entry) → mid.host ≡ old.host → LeavesOneOfTwo journal doubt old mid → LeavesByTurn mid new (settled journal doubt) [] after doubt_after
    → LeavesByTurn old new journal doubt after doubt_after
then_leaves old mid new journal doubt after doubt_after host first next =
    arrives_then (Images (IsOfTurn old.host journal doubt after doubt_after)) (λ _. Unit {0}) (λ _. Unit {0}) old.disk.history mid.disk.history new.disk.history (settled_leaves old mid journal doubt after doubt_after first)
    (images (IsOfTurn mid.host (settled journal doubt) [] after doubt_after) (IsOfTurn old.host journal doubt after doubt_after) going_on mid.disk.history new.disk.history next)
  where
    of_host : (left : List ℕ) (j : List Entry) → StandsFor current_form left mid.host j → StandsFor current_form left old.host j
    of_host left j stands = subst (λ (h : ℕ). StandsFor current_form left h j) host stands

    going_on : (left : List ℕ) → IsOfTurn mid.host (settled journal doubt) [] after doubt_after left → IsOfTurn old.host journal doubt after doubt_after left
    going_on left (inl from) = inr (inl (of_host left (settled journal doubt) from))
    going_on left (inr (inl from)) = inr (inl (subst (λ (j : List Entry). StandsFor current_form left old.host j) (append-nil (settled journal doubt)) (of_host left (settled journal doubt ++ []) from)))
    going_on left (inr (inr behind)) = inr (inr (of_host left (after ++ doubt_after) behind))

-- ---- what is in doubt

has_entries : (key : Option (List ℕ)) (tables : Tables) (batch : Option Batch) → HasRoomForDoubt key tables batch → batch ≢ None → doubted batch ≢ []
has_entries key tables None room some = absurd (some refl)
has_entries key tables (Some batch) room some = room.0

-- a batch in doubt has entries
pub doubt_has_entries : (store : StoreSeen) (journal doubt : List Entry) → IsStoreOf store journal doubt → store.doubt ≢ None → doubt ≢ []
doubt_has_entries store journal doubt is some = λ none. has_entries store.key store.tables store.doubt is.room some (sym is.doubt_is ∙ none)

none_doubted : (batch : Option Batch) → batch ≡ None → doubted batch ≡ []
none_doubted batch none = ap doubted none

-- and without one there are none
pub nothing_doubted : (store : StoreSeen) (journal doubt : List Entry) → IsStoreOf store journal doubt → store.doubt ≡ None → doubt ≡ []
nothing_doubted store journal doubt is none = is.doubt_is ∙ none_doubted store.doubt none
