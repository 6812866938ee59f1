-- A log whose batches are read once more, and the store of what is kept of them.
use Rattle.std.proofs.Common.{◌≡◌, ℕ, ◌+◌, ◌<◌, ◌≤◌, ◌^◌, inl, List, [], ◌∷◌, ◌++◌, length, take, drop, Vec, Global, Option, Some, None, Err, refl, sym, ap, subst, ◌∙◌, arith, append_assoc, append-nil}
use Rattle.std.specs.Prelude.{All, IfSome, slice_index_or}
use Rattle.std.proofs.lemmas.List.{take_more, map-append, take-append-drop, length-map}
use Rattle.std.proofs.lemmas.List.Elements.{All-nil, All-append, All-weaker}
use Rattle.definitions.specs.Counts.{Rose}
use Rattle.record_rules.specs.Records.{Entry, Event}
use Rattle.record_rules.specs.Journal.{SoundEvents, Sound, MayFollow, events_of}
use Rattle.record_rules.proofs.Soundness.{Sound-push, empty_sound}
use Rattle.record_rules.proofs.Prefixes.{last_may_follow}
use Rattle.log_rules.specs.Log.{current_form, StandsFor}
use Rattle.log_rules.specs.Opened.{opened_entry, opened_journal}
use Rattle.log_rules.proofs.Callers.{opened_events, opened_sound_first}
use Rattle.disk_rules.specs.Disk.{Disk}
use Rattle.disk_rules.specs.Calls.{Sync}
use Rattle.disk_rules.specs.History.{History}
use Rattle.at_edge.specs.Storing.{DiskSeen, Tells, Rests, Succeeds}
use Rattle.record_model.specs.declared.entries.Event as model
use Rattle.record_model.specs.Seen.{caller_seen, event_seen, events_seen}
use Rattle.journal_check.specs.Tallies.{Tallies, Keeps}
use Rattle.log_check.specs.Checking.{IsChecked}
use Rattle.log_check.specs.declared.forms.LogForm.TheVariants.{Current}
use Rattle.record_log.specs.declared.spots.Spot.{Spot}
use Rattle.record_log.specs.declared.opening.OpenFail.TheVariants as fails
use Rattle.record_log.specs.declared.reading.ReadFail.{ReadFail}
use Rattle.record_log.specs.declared.reading.ReadFail.TheVariants as reads
use Rattle.record_log.specs.Journals.{LogSeen, HoldsAt, HasJournal}
use Rattle.record_log.specs.Reading.{IsGate, FindsBatch, BatchBefore, EventBefore, ReadCause}
use Rattle.record_log.specs.Opening.{Synced, LeavesNoMore, Opened, OpenCause}
use Rattle.record_log.proofs.Ways.{walk_begins, walk_is_at_a_gate, walk_goes_on, walk_ends}
use Rattle.chain_index.specs.Meaning.{Filed, journal_of}
use Rattle.store_tables.specs.declared.tables.Tables.{Tables}
use Rattle.store_tables.specs.declared.tables.Batch.{Batch}
use Rattle.store_tables.specs.Tables.{TablesOf, IsReadyBatch, MayAddBatch, filed_batch, batch_entries}
use Rattle.store_core.specs.Store.{StandsThere}
use Rattle.store_core.specs.Opening.{nobody, KeepsSoFar, IsBehind, WalksTo, KeepsLog, OpensStore}
use Rattle.store_core.proofs.Standing.{batch_there}

-- ---- events that are checked

journal_one : (events : List Event) (event : Event) → opened_journal events ++ opened_entry event ∷ [] ≡ opened_journal (events ++ event ∷ [])
journal_one events event = sym (map-append opened_entry events (event ∷ []))

one_checked : (check new : Tallies) (events : List Event) (event : Event) → IsChecked check events → new.host ≡ check.host
    → MayFollow (opened_journal events) check.host event × ((entry : Entry) → entry.event ≡ event → Keeps new (opened_journal events ++ entry ∷ [])) → IsChecked new (events ++ event ∷ [])
one_checked check new events event is host takes = record {
  keeps = subst (λ (j : List Entry). Keeps new j) (journal_one events event) (takes.1 (opened_entry event) refl);
  sound = subst (λ (j : List Entry). Sound j new.host) (journal_one events event)
      (subst (λ (h : ℕ). Sound (opened_journal events ++ opened_entry event ∷ []) h) (sym host) (Sound-push (opened_journal events) (opened_entry event) check.host is.sound takes.0));
}

module _ (before : List Event) (events : List model.Event) (k : ℕ) (event : model.Event) (below : k < length events) (is : event ≡ slice_index_or events k event) where
  abbrev so_far : List Event
  so_far = before ++ events_seen (take k events)

  seen_more : before ++ events_seen (take (k + 1) events) ≡ so_far ++ event_seen event ∷ []
  seen_more =
      ap (λ (es : List Event). before ++ es)
      (ap events_seen (take_more events k event below) ∙ map-append event_seen (take k events) (slice_index_or events k event ∷ []) ∙ ap (λ (e : model.Event). events_seen (take k events) ++ event_seen e ∷ []) (sym is))
      ∙ sym (append_assoc before (events_seen (take k events)) (event_seen event ∷ []))

  -- one event of a batch more
  pub next_checked : (check new : Tallies) → IsChecked check so_far → new.host ≡ check.host
      → MayFollow (opened_journal so_far) check.host (event_seen event) × ((entry : Entry) → entry.event ≡ event_seen event → Keeps new (opened_journal so_far ++ entry ∷ [])) → IsChecked new (before ++ events_seen (take (k + 1) events))
  next_checked check new checked host takes = subst (λ (es : List Event). IsChecked new es) (sym seen_more) (one_checked check new so_far (event_seen event) checked host takes)

  -- where one may not come next, they may not all
  pub next_refused : (host : ℕ) → (MayFollow (opened_journal so_far) host (event_seen event) → ⊥) → Sound (opened_journal (before ++ events_seen events)) host → ⊥
  next_refused host refused sound =
      let later = events_seen (drop (k + 1) events) in
      let parts : before ++ events_seen events ≡ (so_far ++ event_seen event ∷ []) ++ later =
      ap (λ (es : List Event). before ++ es) (ap events_seen (sym (take-append-drop (k + 1) events)) ∙ map-append event_seen (take (k + 1) events) (drop (k + 1) events))
      ∙ sym (append_assoc before (events_seen (take (k + 1) events)) later) ∙ ap (λ (es : List Event). es ++ later) seen_more in
      let first = opened_sound_first (so_far ++ event_seen event ∷ []) later host (subst (λ (es : List Event). Sound (opened_journal es) host) parts sound) in
      refused (last_may_follow (opened_journal so_far) host (opened_entry (event_seen event)) (subst (λ (j : List Entry). Sound j host) (sym (journal_one so_far (event_seen event))) first))

pub none_checked : (check : Tallies) (before : List Event) → IsChecked check before → IsChecked check (before ++ [])
none_checked check before is = subst (λ (es : List Event). IsChecked check es) (sym (append-nil before)) is

-- ---- a batch that is kept

by_nobody : (spot : Spot) (at : ℕ) (events : List Event) → journal_of (filed_batch nobody spot at events) ≡ opened_journal events
by_nobody spot at [] = refl
by_nobody spot at (event ∷ events) = ap (λ (es : List Entry). opened_entry event ∷ es) (by_nobody spot (at + 1) events)

module _ (key : Option (List ℕ)) (old : Tables) (check new : Tallies) (before events : List Event) (filed : List Filed) (kept : KeepsSoFar key old check before filed) (host : new.host ≡ check.host) (checked : IsChecked new (before ++ events)) where
  filed_say : events_of (journal_of filed) ≡ before
  filed_say = ap events_of kept.filed_are ∙ opened_events before

  pub may_add : (mid : Tables) (batch : Batch) → events_seen batch.events.items ≡ events → TablesOf check.host key mid filed → IsReadyBatch key mid batch → MayAddBatch check.host key mid filed batch
  may_add mid batch say is ready = record {
    is = is;
    ready = ready;
    sound = subst (λ (h : ℕ). SoundEvents (events_of (journal_of filed) ++ events_seen batch.events.items) h) host
        (subst (λ (es : List Event). SoundEvents es new.host) (opened_events (before ++ events) ∙ (λ i. sym filed_say i ++ sym say i)) checked.sound);
  }

  pub batch_kept : (last : Tables) (batch : Batch) (spot : Spot) → events_seen batch.events.items ≡ events → caller_seen batch.caller ≡ nobody → TablesOf check.host key last (filed ++ batch_entries batch spot)
      → KeepsSoFar key last new (before ++ events) (filed ++ filed_batch nobody spot 0 events)
  batch_kept last batch spot say by is = record {
    filed_are = map-append (λ (f : Filed). f.entry) filed (filed_batch nobody spot 0 events) ∙ (λ i. kept.filed_are i ++ by_nobody spot 0 events i) ∙ sym (map-append opened_entry before events);
    are_of = subst (λ (h : ℕ). TablesOf h key last (filed ++ filed_batch nobody spot 0 events)) (sym host) (subst (λ (fs : List Filed). TablesOf check.host key last (filed ++ fs)) (λ i. filed_batch (by i) spot 0 (say i)) is);
    checked = checked;
  }

-- ---- a log of which nothing changed but its disk's count

pub record IsSame (old new : LogSeen) : Type 0 where
  pub rests : Rests old.disk new.disk
  pub host : new.host ≡ old.host
  pub gate : new.gate ≡ old.gate
  pub doubt : new.doubt ≡ old.doubt

module _ (old new : LogSeen) (same : IsSame old new) where
  told_again : (is : (gate host : ℕ) → Disk → Type 0) → Tells old.disk (is old.gate old.host) → Tells new.disk (is new.gate new.host)
  told_again is told =
      subst (λ (seen : Option History). IfSome seen (λ h. is new.gate new.host h.now)) (sym same.rests.history)
      (subst (λ (n : ℕ). IfSome old.disk.history (λ h. is new.gate n h.now)) (sym same.host) (subst (λ (n : ℕ). IfSome old.disk.history (λ h. is n old.host h.now)) (sym same.gate) told))

  same_journal_again : (events : List Event) → HasJournal old (opened_journal events) → HasJournal new (opened_journal events)
  same_journal_again events has = record { settled = same.doubt ∙ has.settled; holds = told_again (λ gate host d. HoldsAt current_form gate host (opened_journal events) d) has.holds }

  there_again : (filed : List Filed) → All (StandsThere old) filed → All (StandsThere new) filed
  there_again filed there = All-weaker (StandsThere old) (StandsThere new) (λ f stands. told_again (λ gate host d. EventBefore gate d.shows f.spot f.at f.entry.event) stands) filed there

  pub walks_again : (key : Option (List ℕ)) (events : List Event) (offset : ℕ) (tables : Tables) (check : Tallies) → WalksTo old key events offset tables check → WalksTo new key events offset tables check
  walks_again key events offset tables check to = record {
    journal_is = same_journal_again events to.journal_is;
    host = to.host ∙ sym same.host;
    before = to.before;
    place = told_again (λ gate host d. IsBehind d.shows gate offset to.before events) to.place;
    filed = to.filed;
    kept = to.kept;
    there = there_again to.filed to.there;
  }

  pub keeps_again : (key : Option (List ℕ)) (tables : Tables) (events : List Event) → KeepsLog old key tables events → KeepsLog new key tables events
  keeps_again key tables events keeps = record {
    found = keeps.found;
    is = record {
      filed = keeps.is.filed;
      journal_is = keeps.is.journal_is;
      doubt_is = refl;
      log = same_journal_again keeps.found keeps.is.log;
      sound = subst (λ (h : ℕ). Sound (opened_journal keeps.found ++ []) h) (sym same.host) keeps.is.sound;
      there = there_again keeps.is.filed keeps.is.there;
      tables = subst (λ (h : ℕ). TablesOf h key tables keeps.is.filed) (sym same.host) keeps.is.tables;
      room = tt;
    };
    all = told_again (λ gate host d. keeps.found ≡ events) keeps.all;
  }

-- ---- the way along the log

-- a disk that tells this
abbrev telling : History → DiskSeen
telling h = record { history = Some h; faults = 0 }

-- at the first gate nothing is kept
pub walk_starts : (log : LogSeen) (key : Option (List ℕ)) (events : List Event) (tables : Tables) (check : Tallies) → HasJournal log (opened_journal events) → TablesOf check.host key tables [] → Keeps check [] → check.host ≡ log.host → WalksTo log key events 32 tables check
walk_starts log key events tables check has is keeps host = record {
  journal_is = has;
  host = host;
  before = [];
  place = by log.disk.history has.holds;
  filed = [];
  kept = record { filed_are = refl; are_of = is; checked = record { keeps = keeps; sound = empty_sound check.host } };
  there = All-nil (StandsThere log);
}
  where
    by : (history : Option History) → IfSome history (λ h. HoldsAt current_form log.gate log.host (opened_journal events) h.now) → IfSome history (λ h. IsBehind h.now.shows log.gate 32 [] events)
    by None holds = tt
    by (Some h) holds = record { after = events_of (opened_journal events); stands = walk_begins Current (telling h) log.gate log.host (opened_journal events) holds; all = opened_events events }

module _ (log : LogSeen) (key : Option (List ℕ)) (events : List Event) (offset : ℕ) (tables : Tables) (check : Tallies) (to : WalksTo log key events offset tables check) where
  pub at_a_gate : Tells log.disk (λ d. IsGate log.gate offset d.shows)
  at_a_gate = by log.disk.history to.place
    where
      by : (history : Option History) → IfSome history (λ h. IsBehind h.now.shows log.gate offset to.before events) → IfSome history (λ h. IsGate log.gate offset h.now.shows)
      by None behind = tt
      by (Some h) behind = walk_is_at_a_gate Current (telling h) log.gate offset to.before behind.after behind.stands

  -- at the closed gate all is kept
  pub walk_is_over : FindsBatch log.gate offset log.disk None → KeepsLog log key tables events
  walk_is_over closed = record {
    found = to.before;
    is = record {
      filed = to.filed;
      journal_is = sym to.kept.filed_are;
      doubt_is = refl;
      log = record { settled = to.journal_is.settled; holds = held log.disk.history over to.journal_is.holds };
      sound = subst (λ (h : ℕ). Sound (opened_journal to.before ++ []) h) to.host (subst (λ (j : List Entry). Sound j check.host) (sym (append-nil (opened_journal to.before))) to.kept.checked.sound);
      there = to.there;
      tables = subst (λ (h : ℕ). TablesOf h key tables to.filed) to.host to.kept.are_of;
      room = tt;
    };
    all = over;
  }
    where
      by : (history : Option History) → IfSome history (λ h. IsBehind h.now.shows log.gate offset to.before events) → IfSome history (λ _. to.before ≡ events)
      by None behind = tt
      by (Some h) behind = sym (append-nil to.before) ∙ ap (λ (es : List Event). to.before ++ es) (sym (walk_ends Current (telling h) log.gate offset to.before behind.after behind.stands closed)) ∙ behind.all

      over : Tells log.disk (λ _. to.before ≡ events)
      over = by log.disk.history to.place

      held : (history : Option History) → IfSome history (λ _. to.before ≡ events) → IfSome history (λ h. HoldsAt current_form log.gate log.host (opened_journal events) h.now) → IfSome history (λ h. HoldsAt current_form log.gate log.host (opened_journal to.before) h.now)
      held None all holds = tt
      held (Some h) all holds = subst (λ (es : List Event). HoldsAt current_form log.gate log.host (opened_journal es) h.now) (sym all) holds

  module _ (found : Vec model.Event Global × Spot × ℕ) (fits : log.gate < 2 ^ 64) (finds : FindsBatch log.gate offset log.disk (Some found)) where
    abbrev more : List Event
    more = events_seen found.0.items

    behind_batch : Tells log.disk (λ d. IsBehind d.shows log.gate found.2 (to.before ++ more) events)
    behind_batch = by log.disk.history to.place finds.3
      where
        by : (history : Option History) → IfSome history (λ h. IsBehind h.now.shows log.gate offset to.before events) → IfSome history (λ h. BatchBefore log.gate h.now.shows found.1 more) → IfSome history (λ h. IsBehind h.now.shows log.gate found.2 (to.before ++ more) events)
        by None behind batch = tt
        by (Some h) behind batch =
            let on = walk_goes_on Current (telling h) log.gate offset to.before behind.after found fits behind.stands (finds.0, finds.1, finds.2, batch) in
            record { after = on.rest; stands = on.on; all = append_assoc to.before more on.rest ∙ ap (λ (es : List Event). to.before ++ es) (sym on.after_are) ∙ behind.all }

    -- the batch that was found is kept
    pub walk_went_on : (last : Tables) (new : Tallies) → new.host ≡ check.host → KeepsSoFar key last new (to.before ++ more) (to.filed ++ filed_batch nobody found.1 0 more) → WalksTo log key events found.2 last new
    walk_went_on last new host kept = record {
      journal_is = to.journal_is;
      host = host ∙ to.host;
      before = to.before ++ more;
      place = behind_batch;
      filed = to.filed ++ filed_batch nobody found.1 0 more;
      kept = kept;
      there = All-append (StandsThere log) to.filed (filed_batch nobody found.1 0 more) to.there (batch_there log found.1 nobody more finds.3);
    }

    -- a disk that tells gives none that may not come next
    pub never_told : (Sound (opened_journal (to.before ++ more)) check.host → ⊥) → log.disk.history ≡ None
    never_told refused = by log.disk.history behind_batch to.journal_is.holds
      where
        by : (history : Option History) → IfSome history (λ h. IsBehind h.now.shows log.gate found.2 (to.before ++ more) events) → IfSome history (λ h. HoldsAt current_form log.gate log.host (opened_journal events) h.now) → history ≡ None
        by None behind holds = refl
        by (Some h) behind holds =
            absurd (refused (opened_sound_first (to.before ++ more) behind.after check.host
            (subst (λ (n : ℕ). Sound (opened_journal ((to.before ++ more) ++ behind.after)) n) (sym to.host) (subst (λ (es : List Event). Sound (opened_journal es) log.host) (sym behind.all) holds.log.sound))))

-- how many events a batch has
pub few_events : (events : List model.Event) → length (events_seen events) ≤ 100 → length events < 2 ^ 32
few_events events few = let n = length-map events event_seen in omega (arith, n, few)

-- why a batch was not read is why the way ended
pub cause_then : (T U : Type 0) (old mid new : DiskSeen) (fail : ReadFail) → Rests old mid → ReadCause {T = T} (Err fail) mid new → ReadCause {T = U} (Err fail) old new
cause_then T U old mid new reads.DiskFault rests rose = let more = rests.faults in omega (arith, more, rose)
cause_then T U old mid new reads.NoMemory rests rose = tt

-- ---- the store

pub synced_then : (old mid new : DiskSeen) → Synced old mid → Rests mid new → Synced old new
synced_then old mid new synced rests = record {
  history = subst (λ (seen : Option History). Succeeds Sync old.history seen) (sym rests.history) synced.history;
  faults = let first = synced.faults in let more = rests.faults in omega (arith, first, more);
}

-- a read behind the sync failed
pub walk_failed : (old mid new : DiskSeen) → Synced old mid → Rests mid new → Rose mid.faults new.faults → OpenCause fails.DiskFault old new
walk_failed old mid new synced rests rose =
    let done = synced_then old mid new synced rests in
    let first = synced.faults in
    (omega (arith, first, rose), record { history = inl done.history; faults = done.faults })

pub leaves_then : (old : Option History) (mid new : DiskSeen) → Rests mid new → LeavesNoMore old mid.history → LeavesNoMore old new.history
leaves_then old mid new rests leaves = subst (λ (seen : Option History). LeavesNoMore old seen) (sym rests.history) leaves

pub store_opened : (old : DiskSeen) (log new : LogSeen) (key : Option (List ℕ)) (tables : Tables) (opened : Opened old log) → Rests log.disk new.disk → new.host ≡ log.host → KeepsLog new key tables opened.events
    → OpensStore old (record { log = new; key = key; tables = tables; doubt = None })
store_opened old log new key tables opened rests host keeps = record {
  events = keeps.found;
  is = keeps.is;
  shown = subst (λ (n : ℕ). Tells old (λ d. StandsFor current_form d.shows n (opened_journal keeps.found))) (sym host) (by old.history log.disk.history opened.synced.history same opened.shown);
  synced = synced_then old log.disk new.disk opened.synced rests;
}
  where
    same : IfSome log.disk.history (λ _. keeps.found ≡ opened.events)
    same = subst (λ (seen : Option History). IfSome seen (λ _. keeps.found ≡ opened.events)) rests.history keeps.all

    by : (old mid : Option History) → Succeeds Sync old mid → IfSome mid (λ _. keeps.found ≡ opened.events) → IfSome old (λ h. StandsFor current_form h.now.shows log.host (opened_journal opened.events)) → IfSome old (λ h. StandsFor current_form h.now.shows log.host (opened_journal keeps.found))
    by None mid synced all shown = tt
    by (Some h) mid (history, is, adds) all shown =
        let found : keeps.found ≡ opened.events = subst (λ (seen : Option History). IfSome seen (λ _. keeps.found ≡ opened.events)) is all in
        subst (λ (es : List Event). StandsFor current_form h.now.shows log.host (opened_journal es)) (sym found) shown
