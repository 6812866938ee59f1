-- What is found in the bytes of the worked logs.
use Rattle.std.proofs.Common.{◌≡◌, ℕ, zero, suc, Bool, true, ◌++◌, List, [], ◌∷◌, take, drop, refl, sym, subst, arith}
use Rattle.std.specs.Prelude.{nat_lt}
use Rattle.std.specs.List.{list_all}
use Rattle.std.proofs.lemmas.Bool.{ltb-true}
use Rattle.definitions.specs.Spelling.{IsBytes}
use Rattle.definitions.specs.Examples.{first_id}
use Rattle.definitions.proofs.Items.{both_true}
use Rattle.record_rules.specs.Examples.{ls_entry}
use Rattle.log_rules.specs.Log.{current_form, old_form, header_bytes}
use Rattle.log_rules.specs.Contents.{BatchWrong}
use Rattle.log_rules.specs.Examples.{new_log, ls_log, ls_body, ls_digest, WorkedContents}
use Rattle.log_rules.proofs.Contents.{log_is_found, journal_is_found, store_is_shown}
use Rattle.log_rules.proofs.Digests.{digests}
use Rattle.log_rules.proofs.Examples.{new_store, first_batch}

abbrev all_bytes : List ℕ → Bool
all_bytes bytes = list_all (λ (b : ℕ). nat_lt b 256) bytes

are_bytes : (bytes : List ℕ) → all_bytes bytes ≡ true → IsBytes bytes
are_bytes [] e i = omega arith
are_bytes (b ∷ bytes) e zero = ltb-true b 256 (both_true (nat_lt b 256) (all_bytes bytes) e).0
are_bytes (b ∷ bytes) e (suc i) = are_bytes bytes (both_true (nat_lt b 256) (all_bytes bytes) e).1 i

-- the bytes of the log, with its digest written out
abbrev spelled : List ℕ
spelled = header_bytes current_form 1 ++ 1 ∷ 0 ∷ 0 ∷ 0 ∷ 0x35 ∷ (ls_body ++ ls_digest ++ 0 ∷ [])

ls_bytes : IsBytes (ls_log current_form 1)
ls_bytes = subst IsBytes (sym digests.bytes) (are_bytes spelled refl)

changed_bytes : IsBytes (take 70 (ls_log current_form 1) ++ 0x6d ∷ drop 71 (ls_log current_form 1))
changed_bytes = subst (λ (l : List ℕ). IsBytes (take 70 l ++ 0x6d ∷ drop 71 l)) (sym digests.bytes) (are_bytes (take 70 spelled ++ 0x6d ∷ drop 71 spelled) refl)

repeated_bytes : IsBytes (take 90 (ls_log old_form 1) ++ drop 32 (ls_log old_form 1))
repeated_bytes = are_bytes (take 90 (ls_log old_form 1) ++ drop 32 (ls_log old_form 1)) refl

pub contents_worked : WorkedContents
contents_worked = record {
  none_yet = journal_is_found current_form (new_log current_form first_id) first_id [] (are_bytes (new_log current_form first_id) refl) new_store.stands;
  one = journal_is_found current_form (ls_log current_form 1) 1 (ls_entry ∷ []) ls_bytes digests.stands;
  changed = (log_is_found current_form (take 70 (ls_log current_form 1) ++ 0x6d ∷ drop 71 (ls_log current_form 1)) (BatchWrong 32) changed_bytes).1 digests.changed;
  cut = refl;
  other_format = refl;
  old = journal_is_found old_form (ls_log old_form 1) 1 (ls_entry ∷ []) (are_bytes (ls_log old_form 1) refl) first_batch.stands;
  closed = journal_is_found old_form (ls_log old_form 0) 1 [] (are_bytes (ls_log old_form 0) refl) first_batch.stands_closed;
  repeated = (log_is_found old_form (take 90 (ls_log old_form 1) ++ drop 32 (ls_log old_form 1)) (BatchWrong 90) repeated_bytes).1 first_batch.repeated;
  kept = store_is_shown current_form (ls_log current_form 1) 1 (ls_entry ∷ []) [] ls_bytes digests.stands;
  not_kept = refl;
}
