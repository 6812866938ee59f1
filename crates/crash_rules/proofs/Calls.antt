-- What a log is after each call.
use Rattle.std.proofs.Common.{◌≡◌, ℕ, ◌+◌, ◌<◌, ◌⊎◌, ◌^◌, inl, inr, List, [], ◌∷◌, ◌++◌, length, drop, Option, Some, None, refl, sym, ◌∙◌, ap, subst, arith}
use Rattle.std.proofs.lemmas.List.{append-nil}
use Rattle.definitions.specs.Spelling.{IsBytes}
use Rattle.record_rules.specs.Records.{Entry}
use Rattle.record_rules.specs.Journal.{events_of, Sound}
use Rattle.record_rules.proofs.Soundness.{empty_sound}
use Rattle.log_rules.specs.Body.{IsBatch}
use Rattle.log_rules.specs.Log.{Form, header_bytes, payload_bytes, StandsFor}
use Rattle.log_rules.specs.Contents.{store_journal, callers_of}
use Rattle.log_rules.proofs.Contents.{store_is_shown}
use Rattle.log_rules.proofs.Examples.{empty_prefix}
use Rattle.log_rules.proofs.Logs.{open_gate_is_prefix}
use Rattle.disk_rules.specs.Disk.{Disk, Leaves, IsDisk}
use Rattle.disk_rules.specs.Calls.{Write, Sync, Done, Reaches, AllDone}
use Rattle.disk_rules.specs.Append.{append_calls, settle_calls, FailsAtGate}
use Rattle.disk_rules.proofs.Calls.{shows_is_left, calls_keep_disk}
use Rattle.disk_rules.proofs.Settled.{rest_is_settled, append_is_settled_or_in_doubt}
use Rattle.crash_rules.specs.Laws.{HoldsLog, MayAppend, IsLog, IsImageOf, create_calls}
use Rattle.crash_rules.proofs.Crash.{held_log_stands, rest_holds_log, settling_one_of_two, may_settle_again, settled_holds_log}

pub log_leaves_images : (form : Form) (prefix : List ℕ) (host : ℕ) (journal : List Entry) (doubt : Option (List Entry)) (disk : Disk) (left : List ℕ) → IsLog form prefix host journal doubt disk → Leaves disk left → IsImageOf form host journal doubt left
log_leaves_images form prefix host journal None disk left log is_left = held_log_stands form prefix host journal disk left log is_left
log_leaves_images form prefix host journal (Some more) disk left log is_left = settling_one_of_two form prefix host journal more disk disk left log (inl refl) is_left

pub create_holds_log : (form : Form) (host : ℕ) (old new : Disk) → host < 2 ^ 128 → IsDisk old → old.shows ≡ [] → AllDone (create_calls form host) old new → (new.written ≡ []) × HoldsLog form (header_bytes form host) host [] new
create_holds_log form host old new fits is empty (wrote, write_done, (synced, sync_done, ended)) =
    let header = header_bytes form host ++ 0 ∷ [] in
    let wrote_is : IsDisk wrote = calls_keep_disk (Write 0 header) old wrote is (omega arith) (inl write_done) in
    let synced_is : IsDisk synced = calls_keep_disk Sync wrote synced wrote_is tt (inl sync_done) in
    let new_is : IsDisk new = subst IsDisk (sym ended) synced_is in
    let none : new.written ≡ [] = ap (λ (d : Disk). d.written) (ended ∙ sync_done) in
    let written : wrote.shows ≡ header ++ drop (0 + length header) old.shows = ap (λ (d : Disk). d.shows) write_done in
    let shown : new.shows ≡ header = ap (λ (d : Disk). d.shows) (ended ∙ sync_done) ∙ written ∙ ap (λ (l : List ℕ). header ++ drop (0 + length header) l) empty ∙ append-nil header in
    (none, record { settled = rest_is_settled (header_bytes form host) [] new new_is none shown; opened = empty_prefix form host fits; sound = empty_sound host })

stood_for : (form : Form) (host : ℕ) (journal : List Entry) (doubt : Option (List Entry)) (bytes : List ℕ) → IsImageOf form host journal doubt bytes → (stood : List Entry) × StandsFor form bytes host stood
stood_for form host journal None bytes stands = (journal, stands)
stood_for form host journal (Some more) bytes (inl stands) = (journal, stands)
stood_for form host journal (Some more) bytes (inr stands) = (journal ++ more, stands)

pub open_holds_log : (form : Form) (host : ℕ) (journal : List Entry) (doubt : Option (List Entry)) (old new : Disk) → IsDisk old → ((left : List ℕ) → Leaves old left → IsImageOf form host journal doubt left) → Done Sync old new
    → (stood : List Entry) × (prefix : List ℕ) × HoldsLog form prefix host stood new × IsImageOf form host journal doubt new.shows × StandsFor form new.shows host stood
open_holds_log form host journal doubt old new is images done =
    let new_is : IsDisk new = calls_keep_disk Sync old new is tt (inl done) in
    let shown : new.shows ≡ old.shows = ap (λ (d : Disk). d.shows) done in
    let image : IsImageOf form host journal doubt new.shows = subst (IsImageOf form host journal doubt) (sym shown) (images old.shows (shows_is_left old is)) in
    let stood = stood_for form host journal doubt new.shows image in
    (stood.0, stood.1.prefix, rest_holds_log form host stood.0 new new_is (ap (λ (d : Disk). d.written) done) stood.1, image, stood.1)

pub append_ends : (form : Form) (prefix : List ℕ) (host : ℕ) (journal more : List Entry) (old now : Disk) → MayAppend form prefix host journal more old → Reaches (append_calls (length prefix) (payload_bytes form (length prefix) (events_of more))) old now
    → IsLog form prefix host journal None now ⊎ (IsLog form prefix host journal (Some more) now ⊎ IsLog form (prefix ++ 1 ∷ payload_bytes form (length prefix) (events_of more)) host (journal ++ more) None now)
append_ends form prefix host journal more old now may reaches =
    elim (append_is_settled_or_in_doubt prefix (payload_bytes form (length prefix) (events_of more)) old now may.log.settled reaches) [
      | inl settled ↦ inl (record { settled = settled; opened = may.log.opened; sound = may.log.sound })
      | inr (inl doubt) ↦ inr (inl (record { doubt = doubt; opened = may.log.opened; batch = may.batch; sound = may.sound }))
      | inr (inr settled) ↦ inr (inr (record { settled = settled; opened = open_gate_is_prefix form prefix host 1 journal more may.log.opened may.batch (λ e. absurd (omega arith)); sound = may.sound }))
    ]

pub settle_ends : (form : Form) (prefix : List ℕ) (host : ℕ) (journal more : List Entry) (old new : Disk) → IsLog form prefix host journal (Some more) old → AllDone (settle_calls (length prefix)) old new ⊎ FailsAtGate (length prefix) old new
    → IsLog form prefix host journal (Some more) new ⊎ IsLog form (prefix ++ 1 ∷ payload_bytes form (length prefix) (events_of more)) host (journal ++ more) None new
settle_ends form prefix host journal more old new log (inl done) = inr (settled_holds_log form prefix host journal more old new log done).1
settle_ends form prefix host journal more old new log (inr fails) = inl (may_settle_again form prefix host journal more old new log fails)

pub settled_may_append : (form : Form) (prefix : List ℕ) (host : ℕ) (journal more next : List Entry) (old mid : Disk) → IsLog form prefix host journal (Some more) old → AllDone (settle_calls (length prefix)) old mid
    → IsBatch (events_of next) → Sound ((journal ++ more) ++ next) host → MayAppend form (prefix ++ 1 ∷ payload_bytes form (length prefix) (events_of more)) host (journal ++ more) next mid
settled_may_append form prefix host journal more next old mid log done batch sound = record { log = (settled_holds_log form prefix host journal more old mid log done).1; batch = batch; sound = sound }

-- ---- what a store means

shown_stands : (form : Form) (host : ℕ) (journal : List Entry) (bytes : List ℕ) → IsBytes bytes → StandsFor form bytes host journal → store_journal form (callers_of journal) bytes ≡ journal
shown_stands form host journal bytes are stands = store_is_shown form bytes host journal [] are (subst (StandsFor form bytes host) (sym (append-nil journal)) stands)

pub shown_is_the_journal : (form : Form) (prefix : List ℕ) (host : ℕ) (journal : List Entry) (doubt : Option (List Entry)) (disk : Disk) → IsLog form prefix host journal doubt disk → IsBytes disk.shows → store_journal form (callers_of journal) disk.shows ≡ journal
shown_is_the_journal form prefix host journal None disk log are = shown_stands form host journal disk.shows are (held_log_stands form prefix host journal disk disk.shows log (shows_is_left disk log.settled.is_disk))
shown_is_the_journal form prefix host journal (Some more) disk log are =
    elim (log_leaves_images form prefix host journal (Some more) disk disk.shows log (shows_is_left disk log.doubt.is_disk)) [
      | inl stands ↦ shown_stands form host journal disk.shows are stands
      | inr stands ↦ store_is_shown form disk.shows host journal more are stands
    ]
