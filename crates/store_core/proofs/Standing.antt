-- Where a log's disk shows its entries, and shows them still.
use Rattle.std.proofs.Common.{◌≡◌, ℕ, ◌+◌, ◌≤◌, List, [], ◌∷◌, ◌++◌, length, take, drop, Option, Some, None, refl, sym, ap, subst, ◌∙◌, arith, append_assoc}
use Rattle.std.specs.Prelude.{All, IfSome, slice_get}
use Rattle.std.proofs.lemmas.List.{take-append-drop, take-take, length_push}
use Rattle.std.proofs.lemmas.List.Elements.{All-nil, All-cons, All-weaker}
use Rattle.record_rules.specs.Records.{Caller, Entry, Event}
use Rattle.record_rules.specs.Journal.{SoundEvents, events_of}
use Rattle.log_rules.specs.Log.{Form, current_form, IsLogPrefix}
use Rattle.log_rules.specs.Spots as log
use Rattle.log_rules.specs.Spots.{EventAt}
use Rattle.log_rules.proofs.Spots.{longer_keeps_batch}
use Rattle.disk_rules.specs.Disk.{Disk}
use Rattle.disk_rules.specs.History.{History}
use Rattle.at_edge.specs.Storing.{DiskSeen, Tells}
use Rattle.record_log.specs.declared.spots.Spot.{Spot}
use Rattle.record_log.specs.Journals.{LogSeen, HasJournal, KeepsBelow}
use Rattle.record_log.specs.Reading.{spot_seen, BatchBefore, EventBefore}
use Rattle.chain_index.specs.Meaning.{Filed}
use Rattle.store_tables.specs.Entries.{filed_by}
use Rattle.store_tables.specs.Tables.{filed_batch}
use Rattle.store_core.specs.Store.{StandsThere}

pub tells_map : (seen : DiskSeen) (P Q : Disk → Type 0) → ((d : Disk) → P d → Q d) → Tells seen P → Tells seen Q
tells_map seen P Q f told = by seen.history told
  where
    by : (o : Option History) → IfSome o (λ h. P h.now) → IfSome o (λ h. Q h.now)
    by None told = told
    by (Some h) told = f h.now told

-- ---- a journal is told by what its entries say

pub same_journal : (log : LogSeen) (journal other : List Entry) → events_of journal ≡ events_of other → HasJournal log journal → HasJournal log other
same_journal log journal other same has = record {
  settled = has.settled;
  holds = tells_map log.disk _ _ (λ d at. record {
    prefix = at.prefix;
    place = at.place;
    log = record {
      settled = at.log.settled;
      opened = subst (λ (es : List Event). IsLogPrefix current_form at.prefix log.host es) same at.log.opened;
      sound = subst (λ (es : List Event). SoundEvents es log.host) same at.log.sound;
    };
  }) has.holds;
}

-- ---- what stood there stands there still

longer_keeps_event : (form : Form) (bytes more : List ℕ) (spot : log.Spot) (at : ℕ) (event : Event) → EventAt form bytes spot at event → EventAt form (bytes ++ more) spot at event
longer_keeps_event form bytes more spot at event stands = record {
  events = stands.events;
  batch = longer_keeps_batch form bytes more spot stands.events stands.batch;
  event_is = stands.event_is;
}

kept_before : (gate next : ℕ) (was now : List ℕ) (spot : Spot) (at : ℕ) (event : Event) → gate ≤ next → take gate now ≡ take gate was → EventBefore gate was spot at event → EventBefore next now spot at event
kept_before gate next was now spot at event up same stands =
    let whole : take gate was ++ drop gate (take next now) ≡ take next now =
    ap (λ (bs : List ℕ). bs ++ drop gate (take next now)) (sym same ∙ sym (take-take gate next now up)) ∙ take-append-drop gate (take next now) in
    subst (λ (bs : List ℕ). EventAt current_form bs (spot_seen spot) at event) whole (longer_keeps_event current_form (take gate was) (drop gate (take next now)) (spot_seen spot) at event stands)

module _ (old new : LogSeen) (up : old.gate ≤ new.gate) (below : KeepsBelow old.gate old.disk.history new.disk.history) (silent : old.disk.history ≡ None → new.disk.history ≡ None) where
  stays_there : (f : Filed) → StandsThere old f → StandsThere new f
  stays_there f stands = by old.disk.history new.disk.history below silent stands
    where
      by : (was now : Option History) → KeepsBelow old.gate was now → (was ≡ None → now ≡ None) → IfSome was (λ h. EventBefore old.gate h.now.shows f.spot f.at f.entry.event) → IfSome now (λ h. EventBefore new.gate h.now.shows f.spot f.at f.entry.event)
      by was None below silent stands = tt
      by None (Some h) below silent stands = let e = silent refl in absurd cc
      by (Some w) (Some h) below silent stands = kept_before old.gate new.gate w.now.shows h.now.shows f.spot f.at f.entry.event up (below w h refl refl) stands

  pub all_stay : (filed : List Filed) → All (StandsThere old) filed → All (StandsThere new) filed
  all_stay filed stand = All-weaker (StandsThere old) (StandsThere new) stays_there filed stand

-- ---- the events of a batch stand at its spot

at_seam : {A : Type 0} (xs : List A) (y : A) (ys : List A) → slice_get (xs ++ y ∷ ys) (length xs) ≡ Some y
at_seam [] y ys = refl
at_seam (x ∷ xs) y ys = at_seam xs y ys

module _ (log : LogSeen) (spot : Spot) (caller : Caller) (all : List Event) (stands : Tells log.disk (λ d. BatchBefore log.gate d.shows spot all)) where
  event_there : (at : ℕ) (event : Event) → slice_get all at ≡ Some event → StandsThere log (filed_by caller event spot at)
  event_there at event is = tells_map log.disk _ _ (λ d batch. record { events = all; batch = batch; event_is = is }) stands

  rest_there : (before events : List Event) (at : ℕ) → all ≡ before ++ events → at ≡ length before → All (StandsThere log) (filed_batch caller spot at events)
  rest_there before [] at are is = All-nil (StandsThere log)
  rest_there before (event ∷ events) at are is =
      let here : slice_get all at ≡ Some event = (λ i. slice_get (are i) (is i)) ∙ at_seam before event events in
      let n = length_push before event in
      let next : at + 1 ≡ length (before ++ event ∷ []) = omega (arith, is, n) in
      All-cons (StandsThere log) (filed_by caller event spot at) (filed_batch caller spot (at + 1) events) (event_there at event here)
      (rest_there (before ++ event ∷ []) events (at + 1) (are ∙ sym (append_assoc before (event ∷ []) events)) next)

  pub batch_there : All (StandsThere log) (filed_batch caller spot 0 all)
  batch_there = rest_there [] all 0 refl refl
