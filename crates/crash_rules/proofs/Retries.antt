-- The retry, worked out.
use Rattle.std.proofs.Common.{◌≡◌, ℕ, inl, inr, List, [], ◌∷◌, get_or, refl, ap, arith}
use Rattle.record_rules.specs.Examples.{ls_entry}
use Rattle.disk_rules.specs.Calls.{Reaches}
use Rattle.disk_rules.specs.Append.{stage_calls}
use Rattle.disk_rules.proofs.Settled.{rest_is_settled}
use Rattle.log_rules.specs.Log.{old_form}
use Rattle.log_rules.specs.Examples.{ls_log, ended_entry}
use Rattle.log_rules.proofs.Examples.{ls_sound, ended_batch, ended_sound}
use Rattle.log_rules.proofs.Examples as log_examples
use Rattle.crash_rules.specs.Laws.{HoldsLog, MayAppend}
use Rattle.crash_rules.specs.Retries.{earlier_disk, ls_prefix, ls_disk, ended_payload, failed_disk, WorkedRetry}
use Rattle.crash_rules.proofs.Crash.{staging_holds_log, since_failures_one_of_two}
use Rattle.crash_rules.proofs.Examples.{rests}

ls_held : HoldsLog old_form ls_prefix 1 (ls_entry ∷ []) ls_disk
ls_held = record { settled = rest_is_settled ls_prefix [] ls_disk (rests (ls_log old_form 1)) refl refl; opened = log_examples.ls_prefix 1 (λ e. absurd (omega arith)); sound = ls_sound }

sync_failed : Reaches (stage_calls 90 ended_payload) ls_disk failed_disk
sync_failed = inr (inr (failed_disk, refl, inl refl))

failed_held : HoldsLog old_form ls_prefix 1 (ls_entry ∷ []) failed_disk
failed_held = staging_holds_log old_form ls_prefix 1 (ls_entry ∷ []) ended_payload ls_disk failed_disk ls_held sync_failed

retried : MayAppend old_form ls_prefix 1 (ls_entry ∷ []) (ended_entry ∷ []) failed_disk
retried = record { log = failed_held; batch = ended_batch; sound = ended_sound }

pub retry : WorkedRetry
retry = record {
  failed = sync_failed;
  held = failed_held;
  not_held = λ log. let begins = log.settled.images _ refl in let h : ◌≡◌ {A = ℕ} 0 1 = ap (λ (l : List ℕ). get_or l 32 9) begins.1 in omega arith;
  may_retry = retried;
  since = λ moments left reached since. since_failures_one_of_two old_form ls_prefix 1 (ls_entry ∷ []) (ended_entry ∷ []) ls_disk failed_disk moments (failed_disk ∷ []) (earlier_disk ∷ []) left ls_held (failed_held, tt) retried reached since;
}
