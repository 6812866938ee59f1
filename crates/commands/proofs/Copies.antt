-- What copying an old log comes to, by what its disk shows.
use Rattle.std.proofs.Common.{◌≡◌, ℕ, ◌≤◌, ◌⊎◌, inl, inr, List, length, Option, Some, None, Result, Ok, Err, refl, sym, ◌∙◌, subst, arith}
use Rattle.std.specs.Prelude.{IfSome}
use Rattle.record_rules.specs.Records.{Entry, Event}
use Rattle.log_rules.specs.Opened.{opened_journal}
use Rattle.log_rules.specs.Log.{current_form, old_form}
use Rattle.disk_rules.specs.Disk.{Disk}
use Rattle.disk_rules.specs.History.{History}
use Rattle.at_edge.specs.Storing.{DiskSeen, Tells}
use Rattle.log_check.specs.Walks.{IsLogTo}
use Rattle.log_check.proofs.Telling.{tells_so}
use Rattle.record_log.specs.Journals.{LogSeen, HasJournal, HasDoubt, HoldsAt, DoubtsAt}
use Rattle.record_log.specs.OldLogs.{OldSeen, ShowsOld, OldCause, OldOpened}
use Rattle.record_log.specs.Creating.{HasCause, WasEmpty}
use Rattle.record_log.specs.Copying.{Copies, CopyCause, HasPart, DoubtsPart as DoubtsFirst}
use Rattle.record_log.specs.declared.create.CreateFail.{CreateFail}
use Rattle.record_log.specs.declared.create.CreateFail.TheVariants as creating
use Rattle.record_log.specs.declared.old_log.OldFail.{OldFail}
use Rattle.record_log.specs.declared.old_log.OldFail.TheVariants as opening
use Rattle.record_log.specs.declared.copying.CopyFail.{CopyFail}
use Rattle.record_log.specs.declared.copying.CopyFail.TheVariants as copying
use Rattle.at_edge.specs.Writing.{SinkSeen}
use Rattle.definitions.specs.Counts.{Rose}
use Rattle.definitions.proofs.Counts.{Rose-later}
use Rattle.commands.specs.Logs.{HoldsJournal, DoubtsJournal, IsOldLogOf}
use Rattle.commands.specs.Migrating.{not_opened, not_made, not_copied, HoldsPart, MayHold, WasMade, MakesCopy, MakesPart, StopsCopy, PrintsCount, CopiesAll, CopiesPart, MigratesTo}
use Rattle.commands.specs.declared.migrating.MigrateFail.{MigrateFail}
use Rattle.commands.specs.declared.migrating.MigrateFail.TheVariants as fails

-- ---- what the second disk holds

pub holds_journal : (log : LogSeen) (host : ℕ) (journal : List Entry) → log.host ≡ host → HasJournal log journal → Tells log.disk (HoldsJournal host journal)
holds_journal log host journal same has = tells_so log.disk (HoldsAt current_form log.gate log.host journal) (HoldsJournal host journal)
    (λ disk at. record { gate = log.gate; log = subst (λ (h : ℕ). HoldsAt current_form log.gate h journal disk) same at }) has.holds

pub doubts_journal : (log : LogSeen) (host : ℕ) (journal more : List Entry) → log.host ≡ host → HasDoubt log journal more → Tells log.disk (DoubtsJournal host journal more)
doubts_journal log host journal more same doubt = tells_so log.disk (DoubtsAt current_form log.gate log.host journal more) (DoubtsJournal host journal more)
    (λ disk at. record { gate = log.gate; log = subst (λ (h : ℕ). DoubtsAt current_form log.gate h journal more disk) same at }) doubt.holds

pub holds_part : (shows : List ℕ) (gate host : ℕ) (events : List Event) (log : LogSeen) → log.host ≡ host → HasPart shows gate events log → HoldsPart shows gate host events log.disk
holds_part shows gate host events log same part = record {
  before = part.before;
  part = part.part;
  holds = holds_journal log host (opened_journal part.before) same part.journal_is;
}

pub may_hold : (shows : List ℕ) (gate host : ℕ) (events : List Event) (log : LogSeen) → log.host ≡ host → HasPart shows gate events log ⊎ DoubtsFirst shows gate events log → MayHold shows gate host events log.disk
may_hold shows gate host events log same parts = elim parts [
  | inl part ↦ inl (holds_part shows gate host events log same part)
  | inr doubts ↦ inr (record {
    before = doubts.before;
    more = doubts.more;
    part = doubts.part;
    next = doubts.next;
    doubts = doubts_journal log host (opened_journal doubts.before) (opened_journal doubts.more) same doubts.doubt;
  })
]

-- ---- an old log that was opened

-- what is said of every list of events that the old log shows is so of the one that its disk showed
pub shown_so : (P : Disk → Type 0) (old : DiskSeen) (log : OldSeen) → (opened : OldOpened old log)
    → ((shown : ShowsOld log opened.events) → IsOldLogOf log.host opened.events shown.history.now.shows → P shown.history.now) → Tells old P
shown_so P old log opened so = by old.history refl opened.shown
  where
    by : (history : Option History) → old.history ≡ history → IfSome history (λ h. IsOldLogOf log.host opened.events h.now.shows) → IfSome history (λ h. P h.now)
    by None same shown = tt
    by (Some h) same shown =
        let told : log.disk.history ≡ Some h = opened.rests.history ∙ same in
        so (record {
          history = h;
          told = told;
          log = subst (λ (seen : Option History). IfSome seen (λ h. IsLogTo old_form log.host log.gate opened.events h.now.shows)) told opened.holds;
          sound = opened.sound;
        }) shown

pub shows_old_log : (old : DiskSeen) (log : OldSeen) → OldOpened old log → Tells old (λ d. (host : ℕ) × ((events : List Event) × IsOldLogOf host events d.shows))
shows_old_log old log opened = shown_so (λ d. (host : ℕ) × ((events : List Event) × IsOldLogOf host events d.shows)) old log opened (λ shown is. (log.host, (opened.events, is)))

pub copies_all : (old : DiskSeen) (log : OldSeen) (count : ℕ) (was now : DiskSeen) → OldOpened old log → MakesCopy count log was now → CopiesAll count old now
copies_all old log count was now opened makes = shown_so (λ d. (host : ℕ) × ((events : List Event) × IsOldLogOf host events d.shows × (count ≡ length events) × Tells now (HoldsJournal host (opened_journal events)))) old log opened
    (λ shown is. (log.host, (opened.events, is, (makes.copied opened.events shown).0, (makes.copied opened.events shown).1)))

pub copies_part : (May : List ℕ → ℕ → ℕ → List Event → DiskSeen → Type 0) (old : DiskSeen) (log : OldSeen) (was now : DiskSeen) → OldOpened old log → MakesPart May log was now → CopiesPart May old now
copies_part May old log was now opened makes = shown_so (λ d. (gate : ℕ) × ((host : ℕ) × ((events : List Event) × IsOldLogOf host events d.shows × May d.shows gate host events now))) old log opened
    (λ shown is. (log.gate, (log.host, (opened.events, is, makes.copied opened.events shown))))

-- ---- how a copy ends

-- no log was made
pub not_made_stops : (fail : CreateFail) (from : OldSeen) (first old new : DiskSeen) → HasCause fail old new → StopsCopy (not_made fail) from first old new
not_made_stops (creating.NotEmpty count) from first old new cause = cause
not_made_stops creating.DiskFault from first old new cause = cause
not_made_stops creating.NoMemory from first old new cause = absurd cause

-- the log of the old one's host was made on the second disk, which was empty, and then filled; this disk is left
module _ (from : OldSeen) (old was new : DiskSeen) (log : LogSeen) (empty : WasEmpty old) (before : old.faults ≤ was.faults) (behind : was.faults ≤ log.disk.faults) (same : log.host ≡ from.host) (left : new ≡ log.disk) where
  made : WasMade old new
  made = record { empty = empty; kept = subst (λ (d : DiskSeen). old.faults ≤ d.faults) (sym left) (omega arith) }

  pub all_copied : (count : ℕ) → ((events : List Event) → (shown : ShowsOld from events) → Copies shown.history.now.shows from.gate events log (Ok count)) → MakesCopy count from old new
  all_copied count copies = record {
    made = made;
    copied = λ events shown. ((copies events shown).0, subst (λ (d : DiskSeen). Tells d (HoldsJournal from.host (opened_journal events))) (sym left) (holds_journal log from.host (opened_journal events) same (copies events shown).1));
  }

  first_copied : ((events : List Event) → (shown : ShowsOld from events) → HasPart shown.history.now.shows from.gate events log) → MakesPart HoldsPart from old new
  first_copied copies = record {
    made = made;
    copied = λ events shown. subst (λ (d : DiskSeen). HoldsPart shown.history.now.shows from.gate from.host events d) (sym left) (holds_part shown.history.now.shows from.gate from.host events log same (copies events shown));
  }

  some_copied : ((events : List Event) → (shown : ShowsOld from events) → HasPart shown.history.now.shows from.gate events log ⊎ DoubtsFirst shown.history.now.shows from.gate events log) → MakesPart MayHold from old new
  some_copied copies = record {
    made = made;
    copied = λ events shown. subst (λ (d : DiskSeen). MayHold shown.history.now.shows from.gate from.host events d) (sym left) (may_hold shown.history.now.shows from.gate from.host events log same (copies events shown));
  }

  pub not_all_copied : (fail : CopyFail) (first : DiskSeen) → ((events : List Event) → (shown : ShowsOld from events) → Copies shown.history.now.shows from.gate events log (Err fail)) → CopyCause {T = ℕ} (Err fail) from.disk first was log.disk → StopsCopy (not_copied fail) from first old new
  not_all_copied copying.OldFault first copies cause = (first_copied copies, cause)
  not_all_copied copying.NewFault first copies cause = (some_copied copies, subst (λ (d : DiskSeen). Rose old.faults d.faults) (sym left) (Rose-later old.faults was.faults log.disk.faults before cause))
  not_all_copied copying.NoMemory first copies cause = first_copied copies

-- ---- how the command ends

pub not_opened_ends : (fail : OldFail) (first last second : DiskSeen) (sink : SinkSeen) → OldCause fail first last → MigratesTo (Err (not_opened fail)) first last second second sink sink
not_opened_ends opening.NotOld first last second sink cause = (cause, refl, refl)
not_opened_ends (opening.Damaged offset) first last second sink cause = (cause, refl, refl)
not_opened_ends opening.DiskFault first last second sink cause = (cause, inl refl, refl)
not_opened_ends opening.NoMemory first last second sink cause = (inl refl, refl)

module _ (first last : DiskSeen) (log : OldSeen) (old new : DiskSeen) (opened : OldOpened first log) where
  pub copied_ends : (result : Result (Unit {0}) MigrateFail) (count : ℕ) (sink_old sink_new : SinkSeen) → MakesCopy count log old new → PrintsCount result sink_old sink_new count → MigratesTo result first last old new sink_old sink_new
  copied_ends (Ok _) count sink_old sink_new makes prints = (count, makes.made, copies_all first log count old new opened makes, prints)
  copied_ends (Err fails.SinkFault) count sink_old sink_new makes prints = (count, makes.made, copies_all first log count old new opened makes, prints)
  copied_ends (Err fails.NoMemory) count sink_old sink_new makes prints = (inr (inr (count, makes.made, copies_all first log count old new opened makes)), prints)
  copied_ends (Err fails.NotOld) count sink_old sink_new makes prints = absurd prints
  copied_ends (Err (fails.Damaged offset)) count sink_old sink_new makes prints = absurd prints
  copied_ends (Err (fails.NotEmpty bytes)) count sink_old sink_new makes prints = absurd prints
  copied_ends (Err fails.OldFault) count sink_old sink_new makes prints = absurd prints
  copied_ends (Err fails.MakeFault) count sink_old sink_new makes prints = absurd prints
  copied_ends (Err fails.CopyFault) count sink_old sink_new makes prints = absurd prints

  pub stopped_ends : (fail : MigrateFail) (sink : SinkSeen) → StopsCopy fail log last old new → MigratesTo (Err fail) first last old new sink sink
  stopped_ends (fails.NotEmpty count) sink stops = (shows_old_log first log opened, stops, refl)
  stopped_ends fails.OldFault sink stops = (Rose-later first.faults log.disk.faults last.faults opened.rests.faults stops.1, inr (stops.0.made, copies_part HoldsPart first log old new opened stops.0), refl)
  stopped_ends fails.MakeFault sink stops = (shows_old_log first log opened, stops, refl)
  stopped_ends fails.CopyFault sink stops = (stops.1, stops.0.made, copies_part MayHold first log old new opened stops.0, refl)
  stopped_ends fails.NoMemory sink stops = (inr (inl (stops.made, copies_part HoldsPart first log old new opened stops)), refl)
  stopped_ends fails.SinkFault sink stops = absurd stops
  stopped_ends fails.NotOld sink stops = absurd stops
  stopped_ends (fails.Damaged offset) sink stops = absurd stops
