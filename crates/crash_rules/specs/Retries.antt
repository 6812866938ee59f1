-- A worked example: an append that failed at its first sync, and one more behind the same gate, on a disk that held the log of an
-- earlier journal before.
use Rattle.std.specs.Prelude.{List, [], ◌∷◌, ◌++◌, ℕ, length}
use Rattle.std.specs.List.{AllByRecursion}
use Rattle.record_rules.specs.Records.{Started}
use Rattle.record_rules.specs.Examples.{ls_entry}
use Rattle.definitions.specs.Examples.{ls}
use Rattle.disk_rules.specs.Disk.{Disk, Since}
use Rattle.disk_rules.specs.Calls.{Reaches, overwritten}
use Rattle.disk_rules.specs.Append.{append_calls, stage_calls}
use Rattle.log_rules.specs.Log.{old_form, header_bytes, batch_bytes, payload_bytes}
use Rattle.log_rules.specs.Examples.{new_log, ls_log, ended_ls, ended_entry}
use Rattle.crash_rules.specs.Laws.{HoldsLog, MayAppend, IsBeforeOrAfter}
use Rattle.crash_rules.specs.Examples.{resting}

-- the log of a new store, and later the log in which `ls` was started, all before its closed gate
abbrev pub earlier_disk : Disk
earlier_disk = resting (new_log old_form 1)

abbrev pub ls_prefix : List ℕ
ls_prefix = header_bytes old_form 1 ++ batch_bytes old_form 32 (record { gate = 1; events = Started ls ∷ [] })

abbrev pub ls_disk : Disk
ls_disk = resting (ls_log old_form 1)

-- the batch in which it ended, written behind the closed gate; the sync failed
abbrev pub ended_payload : List ℕ
ended_payload = payload_bytes old_form 90 (ended_ls ∷ [])

abbrev pub failed_disk : Disk
failed_disk = record { synced = ls_log old_form 1; written = record { at = 91; count = length (ended_payload ++ 0 ∷ []) } ∷ []; shows = overwritten (ls_log old_form 1) 91 (ended_payload ++ 0 ∷ []) }

pub record WorkedRetry : Type 0 where
  pub failed : Reaches (stage_calls 90 ended_payload) ls_disk failed_disk
  pub held : HoldsLog old_form ls_prefix 1 (ls_entry ∷ []) failed_disk
  -- at the earlier moment the disk held another journal
  pub not_held : HoldsLog old_form ls_prefix 1 (ls_entry ∷ []) earlier_disk → ⊥
  pub may_retry : MayAppend old_form ls_prefix 1 (ls_entry ∷ []) (ended_entry ∷ []) failed_disk
  -- at each moment of the second append, and at each since the first began, an image is the log with `ls`, its end there or not
  pub since : (moments : List Disk) (left : List ℕ) → AllByRecursion (Reaches (append_calls 90 ended_payload) failed_disk) moments → Since 1 (moments ++ (failed_disk ∷ ls_disk ∷ earlier_disk ∷ [])) left → IsBeforeOrAfter old_form 1 (ls_entry ∷ []) (ended_entry ∷ []) left
