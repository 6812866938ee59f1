-- What a crash leaves of a batch in doubt.
use Rattle.std.proofs.Common.{◌≡◌, ℕ, ◌+◌, ◌≤◌, ◌⊎◌, inl, inr, List, [], ◌∷◌, ◌++◌, length, refl, sym, ◌∙◌, ap, subst, arith, length-append}
use Rattle.std.specs.List.{AllByRecursion}
use Rattle.disk_rules.specs.Disk.{Disk, KeepsSynced, Leaves, IsDisk}
use Rattle.disk_rules.specs.Calls.{Write, Sync, overwritten, Wrote, Done, Reaches, AllDone}
use Rattle.disk_rules.specs.Append.{settle_calls, stage_calls, FailsAtGate, IsInDoubt, Begins, IsAsBefore, IsWithBatch}
use Rattle.disk_rules.proofs.Calls.{wrote, was_left, calls_keep_disk}
use Rattle.disk_rules.proofs.Append.{kept_but_one, gate_range_alone, placed, gate_opened, by_gate}

-- ---- in doubt

-- the prefix lies within what is shown
pub prefix_shown : (prefix payload : List ℕ) (disk : Disk) → IsInDoubt prefix payload disk → length prefix ≤ length disk.shows
prefix_shown prefix payload disk doubt =
    let long : length disk.synced ≡ length (prefix ++ 0 ∷ (payload ++ 0 ∷ [])) + length doubt.staged.0 = ap (λ (l : List ℕ). length l) doubt.staged.1 ∙ length-append (prefix ++ 0 ∷ (payload ++ 0 ∷ [])) doubt.staged.0 in
    omega (arith, long, length-append prefix (0 ∷ (payload ++ 0 ∷ [])), doubt.is_disk.keeps.no_shorter)

pub after_gate_write : (prefix payload : List ℕ) (old new : Disk) → IsInDoubt prefix payload old → IsDisk new → Wrote (record { at = length prefix; count = 1 }) old new → IsInDoubt prefix payload new
after_gate_write prefix payload old new doubt is w = record {
  is_disk = is;
  staged = subst (λ (l : List ℕ). Begins (prefix ++ 0 ∷ (payload ++ 0 ∷ [])) l) (sym w.synced) doubt.staged;
  gate_alone = subst (AllByRecursion (λ range. range ≡ record { at = length prefix; count = 1 })) (sym w.written) (refl, doubt.gate_alone);
}

pub doubt_stays : (prefix payload : List ℕ) (old now : Disk) → IsInDoubt prefix payload old → FailsAtGate (length prefix) old now → IsInDoubt prefix payload now
doubt_stays prefix payload old now doubt (inl (inl same)) = subst (IsInDoubt prefix payload) (sym same) doubt
doubt_stays prefix payload old now doubt (inl (inr w)) =
    after_gate_write prefix payload old now doubt (calls_keep_disk (Write (length prefix) (1 ∷ [])) old now doubt.is_disk (prefix_shown prefix payload old doubt) (inr (inr w))) w
doubt_stays prefix payload old now doubt (inr later) =
    let may = prefix_shown prefix payload old doubt in
    let opened = after_gate_write prefix payload old later.0 doubt (calls_keep_disk (Write (length prefix) (1 ∷ [])) old later.0 doubt.is_disk may (inl later.1)) (wrote (length prefix) (1 ∷ []) old later.0 may (inl later.1)) in
    subst (IsInDoubt prefix payload) (sym later.2) opened

pub staged_is_in_doubt : (prefix behind payload : List ℕ) (old new : Disk) → IsDisk old → old.shows ≡ prefix ++ 0 ∷ behind → AllDone (stage_calls (length prefix) payload) old new → IsInDoubt prefix payload new
staged_is_in_doubt prefix behind payload old new is shows done =
    let batch = payload ++ 0 ∷ [] in
    let synced = done.2 in
    let long : length old.shows ≡ length prefix + (1 + length behind) = ap (λ (l : List ℕ). length l) shows ∙ length-append prefix (0 ∷ behind) ∙ omega arith in
    let written : IsDisk done.0 = calls_keep_disk (Write (length prefix + 1) batch) old done.0 is (omega arith) (inl done.1) in
    let all : IsDisk synced.0 = calls_keep_disk Sync done.0 synced.0 written tt (inl synced.1) in
    let held : synced.0.synced ≡ (prefix ++ 0 ∷ batch) ++ _ = ap (λ (d : Disk). d.synced) synced.1 ∙ ap (λ (d : Disk). d.shows) done.1 ∙ placed prefix behind payload old.shows shows in
    let none : synced.0.written ≡ [] = ap (λ (d : Disk). d.written) synced.1 in
    subst (IsInDoubt prefix payload) (sym synced.2) (record {
      is_disk = all;
      staged = (_, held);
      gate_alone = subst (AllByRecursion (λ range. range ≡ record { at = length prefix; count = 1 })) (sym none) tt;
    })

-- ---- settled

-- what keeps the staged bytes outside the gate begins with the prefix, some gate and the batch
some_gate : (prefix payload : List ℕ) (disk : Disk) (left : List ℕ) → IsInDoubt prefix payload disk → KeepsSynced disk.synced disk.written left → (gate : ℕ) × Begins (prefix ++ gate ∷ (payload ++ 0 ∷ [])) left
some_gate prefix payload disk left doubt keeps =
    kept_but_one prefix 0 (payload ++ 0 ∷ []) doubt.staged.0 disk.written left (gate_range_alone prefix disk.written doubt.gate_alone) (subst (λ (l : List ℕ). KeepsSynced l disk.written left) doubt.staged.1 keeps)

pub doubt_leaves : (prefix payload : List ℕ) (disk : Disk) (left : List ℕ) → IsInDoubt prefix payload disk → Leaves disk left → IsAsBefore prefix left ⊎ IsWithBatch prefix payload left
doubt_leaves prefix payload disk left doubt is_left =
    let begins = some_gate prefix payload disk left doubt (was_left disk.synced disk.written disk.shows left doubt.is_disk.still is_left) in
    by_gate prefix payload left begins.0 begins.1

-- with the gate written, the log with the batch is shown
pub opened_shows : (prefix payload : List ℕ) (old opened : Disk) → IsInDoubt prefix payload old → Done (Write (length prefix) (1 ∷ [])) old opened → Begins (prefix ++ 1 ∷ (payload ++ 0 ∷ [])) opened.shows
opened_shows prefix payload old opened doubt done =
    let shown = some_gate prefix payload old old.shows doubt doubt.is_disk.keeps in
    (shown.1.0, ap (λ (d : Disk). d.shows) done ∙ ap (λ (l : List ℕ). overwritten l (length prefix) (1 ∷ [])) shown.1.1 ∙ gate_opened prefix shown.0 (payload ++ 0 ∷ []) shown.1.0)

pub settle_is_kept : (prefix payload : List ℕ) (old new : Disk) (left : List ℕ) → IsInDoubt prefix payload old → AllDone (settle_calls (length prefix)) old new → Leaves new left → IsWithBatch prefix payload left
settle_is_kept prefix payload old new left doubt done is_left =
    let synced = done.2 in
    let shown = opened_shows prefix payload old done.0 doubt done.1 in
    let one : left ≡ done.0.shows = subst (λ (d : Disk). Leaves d left) (synced.2 ∙ synced.1) is_left in
    (1, (λ e. absurd (omega arith)), (shown.0, one ∙ shown.1))

pub settle_is_all_or_nothing : (prefix payload : List ℕ) (old now : Disk) (left : List ℕ) → IsInDoubt prefix payload old → Reaches (settle_calls (length prefix)) old now → Leaves now left → IsAsBefore prefix left ⊎ IsWithBatch prefix payload left
settle_is_all_or_nothing prefix payload old now left doubt (inl same) is_left = doubt_leaves prefix payload now left (subst (IsInDoubt prefix payload) (sym same) doubt) is_left
settle_is_all_or_nothing prefix payload old now left doubt (inr (inl broken)) is_left = doubt_leaves prefix payload now left (doubt_stays prefix payload old now doubt (inl broken)) is_left
settle_is_all_or_nothing prefix payload old now left doubt (inr (inr (mid, done, inl same))) is_left = doubt_leaves prefix payload now left (doubt_stays prefix payload old now doubt (inr (mid, done, same))) is_left
settle_is_all_or_nothing prefix payload old now left doubt (inr (inr (mid, done, inr (inl same)))) is_left = doubt_leaves prefix payload now left (doubt_stays prefix payload old now doubt (inr (mid, done, same))) is_left
settle_is_all_or_nothing prefix payload old now left doubt (inr (inr (mid, done, inr (inr later)))) is_left = inr (settle_is_kept prefix payload old now left doubt (mid, done, later) is_left)
