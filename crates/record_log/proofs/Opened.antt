-- What a log holds that stands on a disk, once that was synced.
use Rattle.std.proofs.Common.{◌≡◌, ℕ, ◌+◌, ◌<◌, ◌≤◌, ◌^◌, List, [], take, drop, Option, Some, None, Err, inl, refl, sym, ◌∙◌, ap, subst, arith}
use Rattle.std.specs.Prelude.{IfSome}
use Rattle.record_rules.specs.Records.{Event}
use Rattle.record_rules.specs.Journal.{Sound}
use Rattle.log_rules.specs.Opened.{opened_journal}
use Rattle.log_rules.specs.Log.{Form, current_form, old_form, IsLogPrefix, StandsFor, NotALog, IsOldLog, DamagedAt}
use Rattle.log_rules.proofs.Callers.{opened_events}
use Rattle.disk_rules.specs.Disk.{Disk, IsDisk, Leaves}
use Rattle.disk_rules.specs.Calls.{Sync, Done}
use Rattle.disk_rules.specs.History.{History}
use Rattle.disk_rules.proofs.Calls.{shows_is_left}
use Rattle.disk_rules.proofs.Settled.{rest_is_settled}
use Rattle.crash_rules.proofs.Crash.{rest_holds_log}
use Rattle.at_edge.specs.Storing.{DiskSeen, Tells, Rests, Succeeds, Fails}
use Rattle.at_edge.proofs.DiskRuns.{arrives_nowhere, arrives_weaker, succeeds_on, fails_on}
use Rattle.log_check.specs.Walks.{IsLogTo, Walked}
use Rattle.log_check.proofs.Telling.{tells_so, tells_after}
use Rattle.record_log.specs.Gates.{IsAtRest}
use Rattle.record_log.specs.Journals.{HoldsAt}
use Rattle.record_log.specs.Opening.{Synced, LeavesNoMore, Finds, Opened, OpenCause}
use Rattle.record_log.specs.OldLogs.{IsOldLogTo, OldOpened}
use Rattle.record_log.specs.declared.opening.OpenFail.{OpenFail}
use Rattle.record_log.specs.declared.opening.OpenFail.TheVariants as fails

-- ---- a sync

-- after it the disk shows the same, and nothing was written since
sync_rests : (old new : Option History) → Succeeds Sync old new → IfSome new (λ h. h.now.written ≡ [])
sync_rests None new none = subst (λ (seen : Option History). IfSome seen (λ h. h.now.written ≡ [])) (sym none) tt
sync_rests (Some old) new (history, is, adds) = subst (λ (seen : Option History). IfSome seen (λ h. h.now.written ≡ [])) (sym is) (ap (λ (d : Disk). d.written) adds.now)

pub sync_shows : (old new : DiskSeen) (is : List ℕ → Type 0) → Succeeds Sync old.history new.history → Tells new (λ d. is d.shows) → Tells old (λ d. is d.shows)
sync_shows old new is synced told = by old.history new.history synced told
  where
    by : (old new : Option History) → Succeeds Sync old new → IfSome new (λ h. is h.now.shows) → IfSome old (λ h. is h.now.shows)
    by None new none told = tt
    by (Some old) new (history, same, adds) told = subst is (ap (λ (d : Disk). d.shows) adds.now) (subst (λ (seen : Option History). IfSome seen (λ h. is h.now.shows)) same told)

abbrev NoMore : Disk → Disk → Type 0
NoMore old disk = (left : List ℕ) → Leaves disk left → Leaves old left

-- and a crash leaves what it might have left before
pub sync_leaves : (old new : Option History) → IfSome old (λ h. IsDisk h.now) → Succeeds Sync old new → LeavesNoMore old new
sync_leaves None new is none = none
sync_leaves (Some old) new is synced =
    arrives_weaker (NoMore old.now) (NoMore old.now) (λ _. Unit {0}) (NoMore old.now) (Some old) new (λ d so. so) (λ d so. tt)
    (succeeds_on (NoMore old.now) (λ d. d ≡ old.now) (NoMore old.now) Sync (Some old) (Some old) new (arrives_nowhere (NoMore old.now) (λ d. d ≡ old.now) (Some old) refl) synced step (λ d so. so))
  where
    step : (disk next : Disk) → disk ≡ old.now → Done Sync disk next → NoMore old.now next
    step disk next same done left leaves =
        let shown : left ≡ disk.shows = subst (λ (d : Disk). Leaves d left) done leaves in
        subst (λ (bytes : List ℕ). Leaves old.now bytes) (sym (shown ∙ ap (λ (d : Disk). d.shows) same)) (shows_is_left old.now is)

pub failed_sync_leaves : (old new : Option History) → Fails Sync old new → LeavesNoMore old new
failed_sync_leaves None new none = none
failed_sync_leaves (Some old) new failed =
    arrives_weaker (NoMore old.now) (NoMore old.now) (λ _. Unit {0}) (λ d. d ≡ old.now) (Some old) new (λ d so. so) (λ d so. tt)
    (fails_on (NoMore old.now) (λ d. d ≡ old.now) (λ d. d ≡ old.now) Sync (Some old) (Some old) new (arrives_nowhere (NoMore old.now) (λ d. d ≡ old.now) (Some old) refl) failed (λ d so. so) (λ disk next same stays. stays ∙ same) (λ d same left leaves. subst (λ (d : Disk). Leaves d left) same leaves))

-- ---- the log

-- the bytes stand for the journal of these events
stands_here : (form : Form) (host gate : ℕ) (events : List Event) (shows : List ℕ) → IsLogTo form host gate events shows → Sound (opened_journal events) host → StandsFor form shows host (opened_journal events)
stands_here form host gate events shows is sound = record {
  prefix = take gate shows;
  behind = drop (gate + 1) shows;
  opened = subst (λ (said : List Event). IsLogPrefix form (take gate shows) host said) (sym (opened_events events)) is.opened;
  bytes_are = is.bytes_are;
  sound = sound;
}

-- where the disk was synced, it holds that log
holds_here : (host gate : ℕ) (events : List Event) (disk : Disk) → IsDisk disk → disk.written ≡ [] → IsLogTo current_form host gate events disk.shows → Sound (opened_journal events) host → HoldsAt current_form gate host (opened_journal events) disk
unfolding stands_here
holds_here host gate events disk is none log sound = record { prefix = take gate disk.shows; place = log.place; log = rest_holds_log current_form host (opened_journal events) disk is none (stands_here current_form host gate events disk.shows log sound) }

rests_here : (host gate : ℕ) (events : List Event) (disk : Disk) → IsDisk disk → disk.written ≡ [] → IsLogTo current_form host gate events disk.shows → gate + 1 < 2 ^ 64 → IsAtRest gate disk
rests_here host gate events disk is none log fits = record { prefix = take gate disk.shows; gate_is = sym log.place; settled = rest_is_settled (take gate disk.shows) (drop (gate + 1) disk.shows) disk is none log.bytes_are; fits = fits }

-- ---- opening

-- reads behind a sync leave it as the only thing that happened
synced_by : (old mid new : DiskSeen) → Succeeds Sync old.history mid.history → old.faults ≤ mid.faults → Rests mid new → Synced old new
synced_by old mid new synced faults rests = record { history = subst (λ (seen : Option History). Succeeds Sync old.history seen) (sym rests.history) synced; faults = (let more = rests.faults in omega (arith, faults, more)) }

pub leaves_no_more : (old mid new : DiskSeen) → Tells old IsDisk → Succeeds Sync old.history mid.history → Rests mid new → LeavesNoMore old.history new.history
leaves_no_more old mid new is synced rests = subst (λ (seen : Option History). LeavesNoMore old.history seen) (sym rests.history) (sync_leaves old.history mid.history is synced)

-- why none was found is why none is opened
pub open_fails : (fail : OpenFail) (old mid new : DiskSeen) → Succeeds Sync old.history mid.history → old.faults ≤ mid.faults → Rests mid new → Finds (Err fail) mid new → OpenCause fail old new
open_fails fails.NotALog old mid new synced faults rests finds = (sync_shows old mid NotALog synced finds, synced_by old mid new synced faults rests)
open_fails (fails.Damaged offset) old mid new synced faults rests finds = (sync_shows old mid (λ shows. DamagedAt current_form shows offset) synced finds, synced_by old mid new synced faults rests)
open_fails fails.DiskFault old mid new synced faults rests finds =
    let done = synced_by old mid new synced faults rests in
    (omega (arith, faults, finds), record { history = inl done.history; faults = done.faults })
open_fails fails.NoMemory old mid new synced faults rests finds = synced_by old mid new synced faults rests
open_fails fails.OldLog old mid new synced faults rests finds = (sync_shows old mid IsOldLog synced finds, synced_by old mid new synced faults rests)

-- a sync, and a walk that changed nothing
module _ (old mid new : DiskSeen) (host gate : ℕ) (synced : Succeeds Sync old.history mid.history) (rests : Rests mid new) (is : Tells new IsDisk) (walked : Walked current_form mid host gate) where
  seen_after : (holds : Disk → Type 0) → ((d : Disk) → IsDisk d → d.written ≡ [] → IsLogTo current_form host gate walked.events d.shows → holds d) → Tells new holds
  seen_after holds so = by old.history mid.history new.history synced rests.history is walked.shown
    where
      by : (old mid new : Option History) → Succeeds Sync old mid → new ≡ mid → IfSome new (λ h. IsDisk h.now) → IfSome mid (λ h. IsLogTo current_form host gate walked.events h.now.shows) → IfSome new (λ h. holds h.now)
      by old None new synced same is log = subst (λ (seen : Option History). IfSome seen (λ h. holds h.now)) (sym same) tt
      by old (Some h) new synced same is log =
          let is_disk = subst (λ (seen : Option History). IfSome seen (λ h. IsDisk h.now)) same is in
          subst (λ (seen : Option History). IfSome seen (λ h. holds h.now)) (sym same) (so h.now is_disk (sync_rests old (Some h) synced) log)

  pub opened_rests : gate + 1 < 2 ^ 64 → Tells new (IsAtRest gate)
  opened_rests fits = seen_after (IsAtRest gate) (λ d is none log. rests_here host gate walked.events d is none log fits)

  pub opened : old.faults ≤ mid.faults → Opened old (record { disk = new; host = host; gate = gate; doubt = None })
  opened faults = record {
    events = walked.events;
    journal_is = record { settled = refl; holds = seen_after (HoldsAt current_form gate host (opened_journal walked.events)) (λ d is none log. holds_here host gate walked.events d is none log walked.sound) };
    shown = sync_shows old mid (λ shows. StandsFor current_form shows host (opened_journal walked.events)) synced (shown_here mid.history walked.shown);
    synced = synced_by old mid new synced faults rests;
  }
    where
      shown_here : (seen : Option History) → IfSome seen (λ h. IsLogTo current_form host gate walked.events h.now.shows) → IfSome seen (λ h. StandsFor current_form h.now.shows host (opened_journal walked.events))
      shown_here None log = tt
      shown_here (Some h) log = stands_here current_form host gate walked.events h.now.shows log walked.sound

-- ---- the same in the old form

pub old_opened : (old new : DiskSeen) (host gate : ℕ) → Rests old new → Walked old_form old host gate → OldOpened old (record { disk = new; host = host; gate = gate })
old_opened old new host gate rests walked = record {
  events = walked.events;
  sound = walked.sound;
  holds = tells_after old new (λ d. IsLogTo old_form host gate walked.events d.shows) rests walked.shown;
  shown = tells_so old (λ d. IsLogTo old_form host gate walked.events d.shows) (λ d. StandsFor old_form d.shows host (opened_journal walked.events)) (λ d log. stands_here old_form host gate walked.events d.shows log walked.sound) walked.shown;
  rests = rests;
}

pub old_is_sound : (old new : DiskSeen) (host gate : ℕ) → Rests old new → Walked old_form old host gate → Tells new (λ d. IsOldLogTo host gate d.shows)
old_is_sound old new host gate rests walked =
    tells_so new (λ d. IsLogTo old_form host gate walked.events d.shows) (λ d. IsOldLogTo host gate d.shows) (λ d log. record { events = walked.events; log = log; sound = walked.sound })
    (tells_after old new (λ d. IsLogTo old_form host gate walked.events d.shows) rests walked.shown)
