-- The examples, by what the log of a store without entries stands for.
use Rattle.std.proofs.Common.{◌≡◌, ℕ, inl, inr, List, [], ◌∷◌, length, ◌≤◌, Option, Some, None, refl, sym, ap, subst, arith, append_assoc}
use Rattle.record_rules.specs.Records.{Entry}
use Rattle.record_rules.specs.Journal.{events_of}
use Rattle.record_rules.specs.Examples.{ls_entry}
use Rattle.record_rules.proofs.Soundness.{empty_sound}
use Rattle.log_rules.specs.Log.{current_form, header_bytes, StandsFor}
use Rattle.log_rules.proofs.Examples.{empty_prefix}
use Rattle.log_rules.proofs.Logs.{one_journal}
use Rattle.disk_rules.specs.Disk.{Leaves}
use Rattle.disk_rules.specs.History.{History}
use Rattle.session_rules.specs.Stores.{StoreState}
use Rattle.definitions.proofs.Prefixes.{prefix-is_shorter}
use Rattle.session_crashes.specs.Crashes.{IsOfState, TurnLeaves, IsBetween}
use Rattle.session_crashes.specs.Examples.{without_entries, with_ls, in_doubt, closed_log, at_rest, gate_unsynced, started, WorkedCrashes}
use Rattle.session_crashes.proofs.Runs.{quiet_turn_leaves}

closed_stands : (behind : List ℕ) → StandsFor current_form (closed_log behind) 1 []
closed_stands behind = record {
  prefix = header_bytes current_form 1;
  behind = behind;
  opened = empty_prefix current_form 1 (omega arith);
  bytes_are = append_assoc (header_bytes current_form 1) (0 ∷ []) behind;
  sound = empty_sound 1;
}

-- it stands for no journal with an entry
none_stands : (behind : List ℕ) (entry : Entry) (more : List Entry) → StandsFor current_form (closed_log behind) 1 (entry ∷ more) → ⊥
none_stands behind entry more stands =
    let same : events_of [] ≡ events_of (entry ∷ more) = (one_journal current_form (closed_log behind) 1 1 [] (entry ∷ more) (closed_stands behind) stands).1 in cc same

not_ls : (behind : List ℕ) → IsOfState 1 with_ls (closed_log behind) → ⊥
not_ls behind (inl stands) = none_stands behind ls_entry [] stands
not_ls behind (inr stands) = none_stands behind ls_entry [] stands

-- a crash at the end of a turn may leave what was synced
at_end : (left : StoreState) (behind : List ℕ) (new : History) → Leaves new.now (closed_log behind) → TurnLeaves 1 without_entries left (Some (started behind)) (Some new) → IsOfState 1 left (closed_log behind)
at_end left behind new leaves (history, is, goes, ends) = ends (closed_log behind) (subst (λ (h : History). Leaves h.now (closed_log behind)) (same_history new history is) leaves)
  where
    same_history : (one two : History) → Some one ≡ Some two → one ≡ two
    same_history one two same = cc same

only_closed : (behind left : List ℕ) (P : List ℕ → Type 0) → P (closed_log behind) → Leaves (at_rest behind) left → P left
only_closed behind left P is same = subst P (sym same) is

-- how many moments there were before, where the disk tells
abbrev moments_before : Option History → Option ℕ
moments_before None = None
moments_before (Some history) = Some (length history.before)

pub crashes_worked : WorkedCrashes
crashes_worked = record {
  at_first = λ behind left leaves. only_closed behind left (IsOfState 1 without_entries) (inl (closed_stands behind)) leaves;
  closed = λ behind. inl (closed_stands behind);
  read = λ behind. quiet_turn_leaves 1 without_entries without_entries (Some (started behind)) (λ left leaves. only_closed behind left (IsOfState 1 without_entries) (inl (closed_stands behind)) leaves);
  unwritten = λ behind turn. not_ls behind (at_end with_ls behind (started behind) refl turn);
  unsynced = λ behind shows turn. not_ls behind (at_end with_ls behind (record { now = gate_unsynced behind shows; before = at_rest behind ∷ [] }) (record { no_shorter = omega arith; elsewhere = λ offset below outside. refl }) turn);
  doubted = λ behind. quiet_turn_leaves 1 without_entries in_doubt (Some (started behind)) (λ left leaves. only_closed behind left (IsOfState 1 in_doubt) (inl (closed_stands behind)) leaves);
  nothing_between = λ behind shows same. no_more behind shows same;
  not_before = λ behind is. lacks behind is;
  not_behind = λ behind. record { stood = []; stands = closed_stands behind; begins = refl; within = refl };
}
  where
    no_more : (behind shows : List ℕ) → Some (record { now = gate_unsynced behind shows; before = at_rest behind ∷ [] }) ≡ Some (started behind) → ⊥
    no_more behind shows same = let count : ◌≡◌ {A = Option ℕ} (Some 1) (Some 0) = ap (λ (o : Option History). moments_before o) same in cc count

    lacks : (behind : List ℕ) → IsBetween 1 (ls_entry ∷ []) (ls_entry ∷ []) (closed_log behind) → ⊥
    lacks behind is =
        let none : events_of [] ≡ events_of is.stood = (one_journal current_form (closed_log behind) 1 1 [] is.stood (closed_stands behind) is.stands).1 in
        let long : length (events_of (ls_entry ∷ [])) ≤ length (events_of is.stood) = prefix-is_shorter (events_of (ls_entry ∷ [])) (events_of is.stood) is.begins in
        let short : length (events_of is.stood) ≡ 0 = sym (ap length none) in omega (arith, long, short)
