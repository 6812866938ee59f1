-- What keeps a log out of doubt, and brings it there again.
use Rattle.std.proofs.Common.{◌≡◌, ℕ, ◌+◌, ◌<◌, ◌≤◌, ◌⊎◌, inl, inr, List, [], ◌∷◌, ◌++◌, length, get_or, refl, sym, ◌∙◌, ap, subst, arith, append_assoc, length-append}
use Rattle.std.proofs.lemmas.List.{get_or_append_left}
use Rattle.std.specs.List.{AllByRecursion}
use Rattle.disk_rules.specs.Disk.{Range, Disk, IsWritten, KeepsSynced, LeftBy, Leaves, IsDisk}
use Rattle.disk_rules.specs.Calls.{Write, Sync, Done, FailedOrUnderWay, Reaches, AllDone}
use Rattle.disk_rules.specs.Append.{append_calls, settle_calls, stage_calls, IsSettled, IsInDoubt, Begins, IsAsBefore, IsWithBatch}
use Rattle.disk_rules.proofs.Calls.{shows_is_left, keeps_itself, calls_keep_disk, was_left, writes_stay_in_range}
use Rattle.disk_rules.proofs.Append.{begins_alike, kept_prefix}
use Rattle.disk_rules.proofs.Settle.{doubt_stays, staged_is_in_doubt, doubt_leaves, opened_shows}

-- ---- settled

pub rest_is_settled : (prefix behind : List ℕ) (disk : Disk) → IsDisk disk → disk.written ≡ [] → disk.shows ≡ prefix ++ 0 ∷ behind → IsSettled prefix disk
rest_is_settled prefix behind disk is none shows = record {
  is_disk = is;
  images = λ left is_left. (behind, subst (λ (ranges : List Range). LeftBy disk.synced ranges disk.shows left) none is_left ∙ shows ∙ sym (append_assoc prefix (0 ∷ []) behind));
}

ranges_behind : (gate : ℕ) (written : List Range) → AllByRecursion (λ range. gate < range.at) written → (k : ℕ) → k < gate + 1 → IsWritten k written → ⊥
ranges_behind gate [] all k below nothing = nothing
ranges_behind gate (range ∷ ranges) all k below (inl inside) = let low = inside.0 in let later = all.0 in absurd (omega arith)
ranges_behind gate (range ∷ ranges) all k below (inr later) = ranges_behind gate ranges all.1 k below later

pub behind_gate_is_settled : (prefix : List ℕ) (disk : Disk) → IsDisk disk → IsAsBefore prefix disk.synced → AllByRecursion (λ range. length prefix < range.at) disk.written → IsSettled prefix disk
behind_gate_is_settled prefix disk is synced ranges = record {
  is_disk = is;
  images = λ left is_left.
      let keeps : KeepsSynced ((prefix ++ 0 ∷ []) ++ synced.0) disk.written left = subst (λ (b : List ℕ). KeepsSynced b disk.written left) synced.1 (was_left disk.synced disk.written disk.shows left is.still is_left) in
      kept_prefix (prefix ++ 0 ∷ []) synced.0 disk.written left keeps (λ k below. ranges_behind (length prefix) disk.written ranges k (omega (arith, length-append prefix (0 ∷ []))));
}

-- what is shown is one of the images
pub settled_shows : (prefix : List ℕ) (disk : Disk) → IsSettled prefix disk → IsAsBefore prefix disk.shows
settled_shows prefix disk settled = settled.images disk.shows (shows_is_left disk settled.is_disk)

-- and a sync that succeeds leaves it alone
pub synced_is_settled : (prefix : List ℕ) (old new : Disk) → IsAsBefore prefix old.shows → Done Sync old new → IsSettled prefix new
synced_is_settled prefix old new begins done = subst (IsSettled prefix) (sym done) (record {
  is_disk = record { still = λ _. refl; keeps = keeps_itself old.shows [] };
  images = λ left is. subst (IsAsBefore prefix) (sym is) begins;
})

-- ---- behind the gate

begins_at : (prefix bytes : List ℕ) (k : ℕ) → Begins prefix bytes → k < length prefix → (k < length bytes) × (get_or bytes k 0 ≡ get_or prefix k 0)
begins_at prefix bytes k begins below =
    let long : length bytes ≡ length prefix + length begins.0 = ap (λ (l : List ℕ). length l) begins.1 ∙ length-append prefix begins.0 in
    (omega (arith, long), ap (λ (l : List ℕ). get_or l k 0) begins.1 ∙ get_or_append_left prefix begins.0 0 k below)

pub write_stays_settled : (prefix bytes : List ℕ) (old new : Disk) → IsSettled prefix old → Done (Write (length prefix + 1) bytes) old new ⊎ FailedOrUnderWay (Write (length prefix + 1) bytes) old new → IsSettled prefix new
write_stays_settled prefix bytes old new settled does = record {
  is_disk = calls_keep_disk (Write (length prefix + 1) bytes) old new settled.is_disk may does;
  images = λ left is_left. begins_alike (prefix ++ 0 ∷ []) left
      (let last = (in_image left is_left (length prefix) (omega (arith, counts))).0 in omega (arith, counts))
      (λ k below. (in_image left is_left k below).1);
}
  where
    counts : length (prefix ++ 0 ∷ []) ≡ length prefix + 1
    counts = length-append prefix (0 ∷ [])

    shown : IsAsBefore prefix old.shows
    shown = settled_shows prefix old settled

    may : length prefix + 1 ≤ length old.shows
    may = let long : length old.shows ≡ length (prefix ++ 0 ∷ []) + length shown.0 = ap (λ (l : List ℕ). length l) shown.1 ∙ length-append (prefix ++ 0 ∷ []) shown.0 in omega (arith, long, counts)

    in_image : (left : List ℕ) → Leaves new left → (k : ℕ) → k < length (prefix ++ 0 ∷ []) → (k < length left) × (get_or left k 0 ≡ get_or (prefix ++ 0 ∷ []) k 0)
    in_image left is_left k below =
        writes_stay_in_range (length prefix + 1) bytes old new settled.is_disk may does k (get_or (prefix ++ 0 ∷ []) k 0)
        (λ inside. let low = inside.0 in absurd (omega (arith, counts)))
        (λ before is_before. begins_at (prefix ++ 0 ∷ []) before k (settled.images before is_before) below) left is_left

pub staging_stays_settled : (prefix payload : List ℕ) (old now : Disk) → IsSettled prefix old → Reaches (stage_calls (length prefix) payload) old now → IsSettled prefix now
staging_stays_settled prefix payload old now settled (inl same) = subst (IsSettled prefix) (sym same) settled
staging_stays_settled prefix payload old now settled (inr (inl broken)) = write_stays_settled prefix (payload ++ 0 ∷ []) old now settled (inr broken)
staging_stays_settled prefix payload old now settled (inr (inr (mid, done, inl same))) = subst (IsSettled prefix) (sym same) (write_stays_settled prefix (payload ++ 0 ∷ []) old mid settled (inl done))
staging_stays_settled prefix payload old now settled (inr (inr (mid, done, inr (inl same)))) = subst (IsSettled prefix) (sym same) (write_stays_settled prefix (payload ++ 0 ∷ []) old mid settled (inl done))
staging_stays_settled prefix payload old now settled (inr (inr (mid, done, inr (inr (last, synced, same))))) =
    subst (IsSettled prefix) (sym same) (synced_is_settled prefix mid last (settled_shows prefix mid (write_stays_settled prefix (payload ++ 0 ∷ []) old mid settled (inl done))) synced)

-- ---- settled with the batch

pub with_batch_begins : (prefix payload bytes : List ℕ) → Begins (prefix ++ 1 ∷ (payload ++ 0 ∷ [])) bytes → IsAsBefore (prefix ++ 1 ∷ payload) bytes
with_batch_begins prefix payload bytes begins = subst (λ (l : List ℕ). Begins l bytes) (sym (append_assoc prefix (1 ∷ payload) (0 ∷ []))) begins

pub settled_with_batch : (prefix payload bytes : List ℕ) → IsAsBefore (prefix ++ 1 ∷ payload) bytes → IsWithBatch prefix payload bytes
settled_with_batch prefix payload bytes begins = (1, (λ e. absurd (omega arith)), subst (λ (l : List ℕ). Begins l bytes) (append_assoc prefix (1 ∷ payload) (0 ∷ [])) begins)

pub settle_ends_settled : (prefix payload : List ℕ) (old new : Disk) → IsInDoubt prefix payload old → AllDone (settle_calls (length prefix)) old new → (new.written ≡ []) × IsSettled (prefix ++ 1 ∷ payload) new
settle_ends_settled prefix payload old new doubt (opened, done, (last, synced, same)) = (
  ap (λ (d : Disk). d.written) (same ∙ synced),
  subst (IsSettled (prefix ++ 1 ∷ payload)) (sym same) (synced_is_settled (prefix ++ 1 ∷ payload) opened last (with_batch_begins prefix payload opened.shows (opened_shows prefix payload old opened doubt done)) synced),
)

-- ---- an append

-- with the batch synced it is in doubt
pub staged_doubt : (prefix payload : List ℕ) (old staged : Disk) → IsSettled prefix old → AllDone (stage_calls (length prefix) payload) old staged → IsInDoubt prefix payload staged
staged_doubt prefix payload old staged settled done =
    let shown = settled_shows prefix old settled in
    staged_is_in_doubt prefix shown.0 payload old staged settled.is_disk (shown.1 ∙ append_assoc prefix (0 ∷ []) shown.0) done

pub append_ends_settled : (prefix payload : List ℕ) (old new : Disk) → IsSettled prefix old → AllDone (append_calls (length prefix) payload) old new → (new.written ≡ []) × IsSettled (prefix ++ 1 ∷ payload) new
append_ends_settled prefix payload old new settled (written, done, (staged, synced, later)) =
    settle_ends_settled prefix payload staged new (staged_doubt prefix payload old staged settled (written, done, (staged, synced, refl))) later

in_doubt_or_settled : (prefix payload : List ℕ) (old now : Disk) → IsInDoubt prefix payload old → Reaches (settle_calls (length prefix)) old now → IsInDoubt prefix payload now ⊎ IsSettled (prefix ++ 1 ∷ payload) now
in_doubt_or_settled prefix payload old now doubt (inl same) = inl (subst (IsInDoubt prefix payload) (sym same) doubt)
in_doubt_or_settled prefix payload old now doubt (inr (inl broken)) = inl (doubt_stays prefix payload old now doubt (inl broken))
in_doubt_or_settled prefix payload old now doubt (inr (inr (mid, done, inl same))) = inl (doubt_stays prefix payload old now doubt (inr (mid, done, same)))
in_doubt_or_settled prefix payload old now doubt (inr (inr (mid, done, inr (inl same)))) = inl (doubt_stays prefix payload old now doubt (inr (mid, done, same)))
in_doubt_or_settled prefix payload old now doubt (inr (inr (mid, done, inr (inr later)))) = inr (settle_ends_settled prefix payload old now doubt (mid, done, later)).1

pub append_is_settled_or_in_doubt : (prefix payload : List ℕ) (old now : Disk) → IsSettled prefix old
    → Reaches (append_calls (length prefix) payload) old now → IsSettled prefix now ⊎ (IsInDoubt prefix payload now ⊎ IsSettled (prefix ++ 1 ∷ payload) now)
append_is_settled_or_in_doubt prefix payload old now settled (inl same) = inl (staging_stays_settled prefix payload old now settled (inl same))
append_is_settled_or_in_doubt prefix payload old now settled (inr (inl broken)) = inl (staging_stays_settled prefix payload old now settled (inr (inl broken)))
append_is_settled_or_in_doubt prefix payload old now settled (inr (inr (mid, done, inl same))) = inl (staging_stays_settled prefix payload old now settled (inr (inr (mid, done, inl same))))
append_is_settled_or_in_doubt prefix payload old now settled (inr (inr (mid, done, inr (inl same)))) = inl (staging_stays_settled prefix payload old now settled (inr (inr (mid, done, inr (inl same)))))
append_is_settled_or_in_doubt prefix payload old now settled (inr (inr (mid, done, inr (inr (staged, synced, later))))) =
    inr (in_doubt_or_settled prefix payload staged now (staged_doubt prefix payload old staged settled (mid, done, (staged, synced, refl))) later)

pub append_is_all_or_nothing : (prefix payload : List ℕ) (old now : Disk) (left : List ℕ) → IsSettled prefix old
    → Reaches (append_calls (length prefix) payload) old now → Leaves now left → IsAsBefore prefix left ⊎ IsWithBatch prefix payload left
append_is_all_or_nothing prefix payload old now left settled reaches is_left =
    elim (append_is_settled_or_in_doubt prefix payload old now settled reaches) [
      | inl before ↦ inl (before.images left is_left)
      | inr later ↦ elim later [
        | inl doubt ↦ doubt_leaves prefix payload now left doubt is_left
        | inr after ↦ inr (settled_with_batch prefix payload left (after.images left is_left))
      ]
    ]
