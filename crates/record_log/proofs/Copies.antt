-- What copying a log batch by batch comes to.
use Rattle.std.proofs.Common.{◌≡◌, ℕ, ◌+◌, ◌-◌, ◌<◌, ◌≤◌, ◌^◌, ◌⊎◌, inl, inr, List, [], ◌∷◌, ◌++◌, length, Option, Some, None, Result, Ok, Err, Vec, refl, sym, ◌∙◌, ap, subst, arith, append_assoc, append-nil, length-append}
use Rattle.std.specs.Prelude.{IfSome, min}
use Rattle.std.specs.Int.{w32, to_be_bytes}
use Rattle.std.specs.Global.{Global}
use Rattle.std.specs.List.{flat_map}
use Rattle.std.proofs.lemmas.List.{map-append, length-map}
use Rattle.definitions.specs.Counts.{Rose}
use Rattle.record_rules.specs.Records.{Entry, Event, Started, Local, Taken}
use Rattle.record_rules.specs.Journal.{Sound}
use Rattle.record_model.specs.declared.entries.Event as model
use Rattle.record_model.specs.Seen.{event_seen, events_seen}
use Rattle.log_rules.specs.Body.{event_bytes, body_bytes, IsBatch}
use Rattle.log_rules.specs.Log.{Form, Batch, current_form, old_form, batch_bytes, batches_bytes, events_in, StandsFor}
use Rattle.log_rules.specs.Opened.{opened_entry, opened_journal}
use Rattle.log_rules.proofs.Callers.{opened_events, opened_sound_first}
use Rattle.disk_rules.specs.Disk.{Disk}
use Rattle.disk_rules.specs.History.{History, Images}
use Rattle.crash_rules.specs.Laws.{IsBeforeOrAfter}
use Rattle.at_edge.specs.Storing.{DiskSeen, Tells, Rests, Arrives}
use Rattle.at_edge.proofs.DiskRuns.{arrives_nowhere, arrives_then, arrives_weaker}
use Rattle.log_check.specs.declared.forms.LogForm.TheVariants.{Old}
use Rattle.record_log.specs.declared.spots.Spot.{Spot}
use Rattle.record_log.specs.declared.copying.CopyFail.{CopyFail}
use Rattle.record_log.specs.declared.copying.CopyFail.TheVariants as fails
use Rattle.record_log.specs.Journals.{LogSeen, HasJournal, HasDoubt, HasSpot, MayTake, LeavesOneOfTwo, LeavesJournal}
use Rattle.record_log.specs.Ready.{ReadyBatch}
use Rattle.record_log.specs.Reading.{IsGateIn, FindsOldBatch}
use Rattle.record_log.specs.OldLogs.{OldSeen, IsOldLogTo, ShowsOld}
use Rattle.record_log.specs.Walking.{StandsBetween, GoesOn}
use Rattle.record_log.specs.Copying.{CopyCause, SettledBut, TakesBatch, MovesSo, Moves, IsFirstPart, StandsForPart, LeavesParts, Copies, CopiedTo}
use Rattle.record_log.proofs.Ways.{log_begins, is_gate, walk_goes_on, walk_ends}

-- ---- journals

opened_more : (before more : List Event) → opened_journal (before ++ more) ≡ opened_journal before ++ opened_journal more
opened_more before more = map-append opened_entry before more

-- the events that come next may be appended to the journal of those before
may_take : (log : LogSeen) (before after events rest : List Event) (batch : ReadyBatch) → after ≡ events ++ rest → Sound (opened_journal (before ++ after)) log.host → HasJournal log (opened_journal before) → IsBatch events → batch.body ≡ body_bytes events
    → MayTake log (opened_journal before) (opened_journal events) batch
may_take log before after events rest batch after_are sound has is body_is =
    let all : before ++ after ≡ (before ++ events) ++ rest = ap (λ (l : List Event). before ++ l) after_are ∙ sym (append_assoc before events rest) in
    let first = opened_sound_first (before ++ events) rest log.host (subst (λ (l : List Event). Sound (opened_journal l) log.host) all sound) in
    record {
      journal_is = has;
      entries = subst IsBatch (sym (opened_events events)) is;
      sound = subst (λ (j : List Entry). Sound j log.host) (opened_more before events) first;
      body_is = body_is ∙ ap body_bytes (sym (opened_events events));
    }

-- ---- one batch

-- of a batch that comes next behind what was copied
behind : (before after events rest : List Event) (host : ℕ) → after ≡ events ++ rest → Sound (opened_journal (before ++ after)) host → Sound (opened_journal (before ++ (events ++ rest))) host
behind before after events rest host are sound = subst (λ (l : List Event). Sound (opened_journal (before ++ l)) host) are sound

module _ (old new : LogSeen) (batch : ReadyBatch) (events : List Event) (is : IsBatch events) (body_is : batch.body ≡ body_bytes events) where
  pub batch_taken : (spot : Spot) → ((journal more : List Entry) → MayTake old journal more batch → HasJournal new (journal ++ more) × HasSpot new spot more × LeavesOneOfTwo journal more old new) → TakesBatch {T = Unit {0}} old new (Ok tt) events
  batch_taken spot appends = λ before rest sound has.
      let ends = appends (opened_journal before) (opened_journal events) (may_take old before (events ++ rest) events rest batch refl sound has is body_is) in
      (subst (λ (j : List Entry). HasJournal new j) (sym (opened_more before events)) ends.0, ends.2)

  pub batch_not_taken : ((journal more : List Entry) → MayTake old journal more batch → (HasJournal new journal × LeavesJournal journal old new) ⊎ (HasDoubt new journal more × LeavesOneOfTwo journal more old new)) → Rose old.disk.faults new.disk.faults
      → TakesBatch {T = Unit {0}} old new (Err fails.NewFault) events
  batch_not_taken appends rose =
      (λ before rest sound has. appends (opened_journal before) (opened_journal events) (may_take old before (events ++ rest) events rest batch refl sound has is body_is), rose)

-- what the batch that was found is
pub found_on : (seen : DiskSeen) (was : History) (gate offset : ℕ) (before after : List Event) (found : Vec model.Event Global × Spot × ℕ) → gate < 2 ^ 64 → seen.history ≡ Some was → StandsBetween old_form was.now.shows gate offset before after → FindsOldBatch gate offset seen (Some found)
    → GoesOn old_form was.now.shows gate found.2 before after (events_seen found.0.items)
found_on seen was gate offset before after found fits told stands finds =
    subst (λ (h : Option History). IfSome h (λ h. GoesOn old_form h.now.shows gate found.2 before after (events_seen found.0.items))) told
    (walk_goes_on Old seen gate offset before after found fits (subst (λ (h : Option History). IfSome h (λ h. StandsBetween old_form h.now.shows gate offset before after)) (sym told) stands) finds)

pub none_found : (seen : DiskSeen) (was : History) (gate offset : ℕ) (before after : List Event) → seen.history ≡ Some was → StandsBetween old_form was.now.shows gate offset before after → FindsOldBatch gate offset seen None → after ≡ []
none_found seen was gate offset before after told stands closed =
    subst (λ (h : Option History). IfSome h (λ _. after ≡ [])) told
    (walk_ends Old seen gate offset before after (subst (λ (h : Option History). IfSome h (λ h. StandsBetween old_form h.now.shows gate offset before after)) (sym told) stands) closed)

-- a batch that was found, and then taken or not
module _ (from : OldSeen) (old new : LogSeen) (offset : ℕ) (found : Vec model.Event Global × Spot × ℕ) (fits : from.gate < 2 ^ 64) (finds : FindsOldBatch from.gate offset from.disk (Some found)) where
  pub found_taken : {T : Type 0} (done : T) (count : ℕ) → TakesBatch old new (Ok done) (events_seen found.0.items) → count ≡ length found.0.items → MovesSo from old new offset (Ok (Some (count, found.2)))
  found_taken done count takes count_is = λ was before after told stands sound has.
      let events = events_seen found.0.items in
      let on = found_on from.disk was from.gate offset before after found fits told stands finds in
      let ends = takes before on.rest (behind before after events on.rest old.host on.after_are sound) has in
      (events, count_is ∙ sym (length-map found.0.items event_seen), on, ends.0, ends.1)

  pub found_not_taken : (T : Type 0) (fail : CopyFail) → TakesBatch {T = T} old new (Err fail) (events_seen found.0.items) → MovesSo from old new offset (Err fail)
  found_not_taken T fails.OldFault takes = absurd takes
  found_not_taken T fails.NewFault takes = λ was before after told stands sound has.
      let events = events_seen found.0.items in
      let on = found_on from.disk was from.gate offset before after found fits told stands finds in
      (events, found.2, on, takes.0 before on.rest (behind before after events on.rest old.host on.after_are sound) has)
  found_not_taken T fails.NoMemory takes = λ was before after told stands sound has. takes

-- the new log's disk failed, or memory ran out
pub taken_cause : (T U : Type 0) (old new : LogSeen) (events : List Event) (first last : DiskSeen) (fail : CopyFail) → TakesBatch {T = T} old new (Err fail) events → CopyCause {T = U} (Err fail) first last old.disk new.disk
taken_cause T U old new events first last fails.OldFault takes = absurd takes
taken_cause T U old new events first last fails.NewFault takes = takes.1
taken_cause T U old new events first last fails.NoMemory takes = tt

-- and what was said of the answer of one call is said of the other's
pub settled_too : (T U : Type 0) (new : LogSeen) (fail : CopyFail) → SettledBut {T = T} (Err fail) new → SettledBut {T = U} (Err fail) new
settled_too T U new fails.OldFault so = so
settled_too T U new fails.NewFault so = so
settled_too T U new fails.NoMemory so = so

-- no batch was found
pub none_moved : (from : OldSeen) (log : LogSeen) (offset : ℕ) → FindsOldBatch from.gate offset from.disk None → MovesSo from log log offset (Ok None)
none_moved from log offset closed = λ was before after told stands sound has. (none_found from.disk was from.gate offset before after told stands closed, refl)

-- ---- how many entries

some_bytes : (event : Event) → 1 ≤ length (event_bytes event)
some_bytes (Started s) = omega arith
some_bytes (Local closes r) = omega arith
some_bytes (Taken owner r) = omega arith

events_short : (events : List Event) → length events ≤ length (flat_map event_bytes events)
events_short [] = omega arith
events_short (event ∷ events) = omega (arith, some_bytes event, events_short events, length-append (event_bytes event) (flat_map event_bytes events))

batch_short : (form : Form) (at : ℕ) (batch : Batch) → length batch.events ≤ length (batch_bytes form at batch)
batch_short form at batch =
    let body = body_bytes batch.events in
    let number = to_be_bytes w32 (length body) in
    omega (arith, events_short batch.events, length-append (number ++ body) (form.digest at body), length-append number body, length-append (to_be_bytes w32 (length batch.events)) (flat_map event_bytes batch.events))

batches_short : (form : Form) (at : ℕ) (batches : List Batch) → length (events_in batches) ≤ length (batches_bytes form at batches)
batches_short form at [] = omega arith
batches_short form at (batch ∷ batches) =
    omega (arith, batch_short form at batch, batches_short form (at + length (batch_bytes form at batch)) batches, length-append batch.events (events_in batches), length-append (batch_bytes form at batch) (batches_bytes form (at + length (batch_bytes form at batch)) batches))

-- there are fewer than bytes before the gate
before_short : (form : Form) (shows : List ℕ) (gate offset : ℕ) (before after : List Event) → StandsBetween form shows gate offset before after → length before ≤ offset
before_short form shows gate offset before after stands =
    let counted = ap (λ (l : List Event). length l) stands.before_are in
    let short = batches_short form 32 stands.passed in
    let place = stands.offset_is in
    omega (arith, counted, short, place)

-- ---- batch by batch

abbrev pub Part : OldSeen → (offset entries : ℕ) → LogSeen → Type 0
Part old offset entries into = (events : List Event) → (shown : ShowsOld old events) → CopiedTo shown.history.now.shows old.gate events offset entries into

abbrev pub Crash : OldSeen → LogSeen → LogSeen → Type 0
Crash old first into = (events : List Event) → (shown : ShowsOld old events) → LeavesParts shown.history.now.shows old.gate events first into

-- nothing was copied yet
pub none_copied : (old : OldSeen) (into : LogSeen) → HasJournal into [] → Part old 32 0 into
none_copied old into has = λ events shown. record {
  before = [];
  after = events;
  stands = log_begins old_form old.host old.gate events shown.history.now.shows shown.log;
  all = refl;
  count_is = refl;
  journal_is = has;
}

pub none_left : (old : OldSeen) (into : LogSeen) → Crash old into into
none_left old into = λ events shown. arrives_nowhere (Images (StandsForPart shown.history.now.shows old.gate events into.host)) (λ _. Unit {0}) into.disk.history (nothing into.disk.history)
  where
    nothing : (seen : Option History) → IfSome seen (λ _. Unit {0})
    nothing None = tt
    nothing (Some h) = tt

-- at the gate where copying goes on
module _ (old now : OldSeen) (into : LogSeen) (offset entries : ℕ) (rests : Rests old.disk now.disk) (gate_is : now.gate ≡ old.gate) (part : Part old offset entries into) where
  pub is_at_a_gate : Tells old.disk (λ d. IsOldLogTo old.host old.gate d.shows) → Tells now.disk (λ d. IsGateIn old_form now.gate offset d.shows)
  is_at_a_gate shown =
      subst (λ (g : ℕ). Tells now.disk (λ d. IsGateIn old_form g offset d.shows)) (sym gate_is)
      (subst (λ (seen : Option History). IfSome seen (λ h. IsGateIn old_form old.gate offset h.now.shows)) (sym rests.history) (by old.disk.history refl shown))
    where
      by : (seen : Option History) → old.disk.history ≡ seen → IfSome seen (λ h. IsOldLogTo old.host old.gate h.now.shows) → IfSome seen (λ h. IsGateIn old_form old.gate offset h.now.shows)
      by None is shown = tt
      by (Some h) is shown =
          let so = part shown.events (record { history = h; told = is; log = shown.log; sound = shown.sound }) in
          is_gate Old h.now.shows old.gate offset so.before so.after so.stands

  -- what one batch did, told of the whole log
  moves_here : (new : LogSeen) (result : Result (Option (ℕ × ℕ)) CopyFail) → into.host ≡ old.host → MovesSo now into new offset result → (events : List Event) (shown : ShowsOld old events) (so : CopiedTo shown.history.now.shows old.gate events offset entries into)
      → Moves shown.history.now.shows old.gate so.before so.after into new result
  moves_here new result same moves events shown so =
      subst (λ (g : ℕ). Moves shown.history.now.shows g so.before so.after into new result) gate_is
      (moves shown.history so.before so.after (rests.history ∙ shown.told) (subst (λ (g : ℕ). StandsBetween old_form shown.history.now.shows g offset so.before so.after) (sym gate_is) so.stands)
      (let all = subst (λ (l : List Event). Sound (opened_journal l) old.host) (sym so.all) shown.sound in subst (λ (h : ℕ). Sound (opened_journal (so.before ++ so.after)) h) (sym same) all)
      so.journal_is)

  all_on : (shows : List ℕ) (events before after more : List Event) (next : ℕ) → before ++ after ≡ events → (on : GoesOn old_form shows old.gate next before after more) → (before ++ more) ++ on.rest ≡ events
  all_on shows events before after more next all on = append_assoc before more on.rest ∙ ap (λ (l : List Event). before ++ l) (sym on.after_are) ∙ all

  -- one batch more
  pub one_copied : (new : LogSeen) (count next : ℕ) → into.host ≡ old.host → next < 2 ^ 64 → MovesSo now into new offset (Ok (Some (count, next))) → Part old next (min (entries + count) (2 ^ 64 - 1)) new
  one_copied new count next same fits moves = λ events shown.
      let so = part events shown in
      let m = moves_here new (Ok (Some (count, next))) same moves events shown so in
      let stands = m.2.on in
      let short = before_short old_form shown.history.now.shows old.gate next (so.before ++ m.0) m.2.rest stands in
      let counted = length-append so.before m.0 in
      let count_is = m.1 in
      let entries_are = so.count_is in
      record {
        before = so.before ++ m.0;
        after = m.2.rest;
        stands = stands;
        all = all_on shown.history.now.shows events so.before so.after m.0 next so.all m.2;
        count_is = omega (arith, short, counted, count_is, entries_are, fits);
        journal_is = m.3;
      }

  part_here : (events : List Event) (shown : ShowsOld old events) (so : CopiedTo shown.history.now.shows old.gate events offset entries into) → IsFirstPart shown.history.now.shows old.gate events so.before
  part_here events shown so = record { offset = offset; after = so.after; stands = so.stands; all = so.all }

  part_next : (events : List Event) (shown : ShowsOld old events) (so : CopiedTo shown.history.now.shows old.gate events offset entries into) (more : List Event) (next : ℕ) → GoesOn old_form shown.history.now.shows old.gate next so.before so.after more
      → IsFirstPart shown.history.now.shows old.gate events (so.before ++ more)
  part_next events shown so more next on = record { offset = next; after = on.rest; stands = on.on; all = all_on shown.history.now.shows events so.before so.after more next so.all on }

  -- all of them
  pub all_copied : (new : LogSeen) → into.host ≡ old.host → MovesSo now into new offset (Ok None) → (events : List Event) → (shown : ShowsOld old events) → Copies shown.history.now.shows old.gate events new (Ok entries)
  all_copied new same moves = λ events shown.
      let so = part events shown in
      let m = moves_here new (Ok None) same moves events shown so in
      let whole : so.before ≡ events = sym (append-nil so.before) ∙ ap (λ (l : List Event). so.before ++ l) (sym m.0) ∙ so.all in
      (so.count_is ∙ ap (λ (l : List Event). length l) whole, subst (λ (log : LogSeen). HasJournal log (opened_journal events)) (sym m.1) (subst (λ (l : List Event). HasJournal into (opened_journal l)) whole so.journal_is))

  -- it stopped
  pub not_copied : (new : LogSeen) (fail : CopyFail) → into.host ≡ old.host → MovesSo now into new offset (Err fail) → (events : List Event) → (shown : ShowsOld old events) → Copies shown.history.now.shows old.gate events new (Err fail)
  not_copied new fails.OldFault same moves = λ events shown.
      let so = part events shown in
      record { before = so.before; part = part_here events shown so; journal_is = subst (λ (log : LogSeen). HasJournal log (opened_journal so.before)) (sym (moves_here new (Err fails.OldFault) same moves events shown so)) so.journal_is }
  not_copied new fails.NewFault same moves = λ events shown.
      let so = part events shown in
      let m = moves_here new (Err fails.NewFault) same moves events shown so in
      elim m.3 [
        | inl stays ↦ inl (record { before = so.before; part = part_here events shown so; journal_is = stays.0 })
        | inr doubts ↦ inr (record { before = so.before; more = m.0; part = part_here events shown so; next = part_next events shown so m.0 m.1 m.2; doubt = doubts.0 })
      ]
  not_copied new fails.NoMemory same moves = λ events shown.
      let so = part events shown in
      record { before = so.before; part = part_here events shown so; journal_is = subst (λ (log : LogSeen). HasJournal log (opened_journal so.before)) (sym (moves_here new (Err fails.NoMemory) same moves events shown so)) so.journal_is }

  -- ---- what a crash leaves

  before_or_after : (events : List Event) (shown : ShowsOld old events) (so : CopiedTo shown.history.now.shows old.gate events offset entries into) (more : List Event) (next : ℕ) → GoesOn old_form shown.history.now.shows old.gate next so.before so.after more
      → (host : ℕ) (disk : Disk) → Images (IsBeforeOrAfter current_form host (opened_journal so.before) (opened_journal more)) disk → Images (StandsForPart shown.history.now.shows old.gate events host) disk
  before_or_after events shown so more next on host disk images left leaves = elim (images left leaves) [
    | inl stands ↦ record { before = so.before; part = part_here events shown so; stands = stands }
    | inr stands ↦ record { before = so.before ++ more; part = part_next events shown so more next on; stands = subst (λ (j : List Entry). StandsFor current_form left host j) (sym (opened_more so.before more)) stands }
  ]

  just_before : (events : List Event) (shown : ShowsOld old events) (so : CopiedTo shown.history.now.shows old.gate events offset entries into) → (host : ℕ) (disk : Disk) → Images (λ left. StandsFor current_form left host (opened_journal so.before)) disk
      → Images (StandsForPart shown.history.now.shows old.gate events host) disk
  just_before events shown so host disk images left leaves = record { before = so.before; part = part_here events shown so; stands = images left leaves }

  -- further moments, behind those before
  module _ (first new : LogSeen) (same_host : into.host ≡ first.host) (crash : Crash old first into) where
    then_parts : (events : List Event) (shown : ShowsOld old events) (was : Disk → Type 0) → ((disk : Disk) → was disk → Images (StandsForPart shown.history.now.shows old.gate events into.host) disk) → Arrives was (λ _. Unit {0}) into.disk.history new.disk.history
        → LeavesParts shown.history.now.shows old.gate events first new
    then_parts events shown was so run =
        arrives_then (Images (StandsForPart shown.history.now.shows old.gate events first.host)) (λ _. Unit {0}) (λ _. Unit {0}) first.disk.history into.disk.history new.disk.history (crash events shown)
        (arrives_weaker (Images (StandsForPart shown.history.now.shows old.gate events first.host)) was (λ _. Unit {0}) (λ _. Unit {0}) into.disk.history new.disk.history
        (λ disk is. subst (λ (h : ℕ). Images (StandsForPart shown.history.now.shows old.gate events h) disk) same_host (so disk is)) (λ disk is. tt) run)

    pub crash_on : (count next : ℕ) → into.host ≡ old.host → MovesSo now into new offset (Ok (Some (count, next))) → Crash old first new
    crash_on count next same moves = λ events shown.
        let so = part events shown in
        let m = moves_here new (Ok (Some (count, next))) same moves events shown so in
        then_parts events shown (Images (IsBeforeOrAfter current_form into.host (opened_journal so.before) (opened_journal m.0))) (λ disk is. before_or_after events shown so m.0 next m.2 into.host disk is) m.4

    pub crash_stopped : (fail : CopyFail) → into.host ≡ old.host → MovesSo now into new offset (Err fail) → Crash old first new
    crash_stopped fails.OldFault same moves = λ events shown.
        let so = part events shown in
        subst (λ (log : LogSeen). LeavesParts shown.history.now.shows old.gate events first log) (sym (moves_here new (Err fails.OldFault) same moves events shown so)) (crash events shown)
    crash_stopped fails.NewFault same moves = λ events shown.
        let so = part events shown in
        let m = moves_here new (Err fails.NewFault) same moves events shown so in
        elim m.3 [
          | inl stays ↦ then_parts events shown (Images (λ left. StandsFor current_form left into.host (opened_journal so.before))) (λ disk is. just_before events shown so into.host disk is) stays.1
          | inr doubts ↦ then_parts events shown (Images (IsBeforeOrAfter current_form into.host (opened_journal so.before) (opened_journal m.0))) (λ disk is. before_or_after events shown so m.0 m.1 m.2 into.host disk is) doubts.1
        ]
    crash_stopped fails.NoMemory same moves = λ events shown.
        let so = part events shown in
        subst (λ (log : LogSeen). LeavesParts shown.history.now.shows old.gate events first log) (sym (moves_here new (Err fails.NoMemory) same moves events shown so)) (crash events shown)

    pub crash_ended : into.host ≡ old.host → MovesSo now into new offset (Ok None) → Crash old first new
    crash_ended same moves = λ events shown.
        let so = part events shown in
        subst (λ (log : LogSeen). LeavesParts shown.history.now.shows old.gate events first log) (sym (moves_here new (Ok None) same moves events shown so).1) (crash events shown)
