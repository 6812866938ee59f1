-- What each call of an append leads to.
use Rattle.std.proofs.Common.{◌≡◌, ℕ, ◌+◌, ◌≤◌, inl, List, [], ◌∷◌, ◌++◌, length, drop, refl, sym, ◌∙◌, ap, subst, arith, append_assoc, length-append}
use Rattle.disk_rules.specs.Disk.{Disk}
use Rattle.disk_rules.specs.Calls.{Write, Sync, Done}
use Rattle.disk_rules.specs.Append.{IsSettled, IsInDoubt, Begins}
use Rattle.disk_rules.proofs.Calls.{wrote, calls_keep_disk, keeps_itself}
use Rattle.disk_rules.proofs.Append.{placed}
use Rattle.disk_rules.proofs.Settle.{prefix_shown, after_gate_write}
use Rattle.disk_rules.proofs.Settled.{settled_shows, with_batch_begins, synced_is_settled}

-- a settled prefix lies before its gate
pub gate_inside : (prefix : List ℕ) (disk : Disk) → IsSettled prefix disk → length prefix + 1 ≤ length disk.shows
gate_inside prefix disk settled =
    let shown = settled_shows prefix disk settled in
    let long : length disk.shows ≡ length (prefix ++ 0 ∷ []) + length shown.0 = ap (λ (l : List ℕ). length l) shown.1 ∙ length-append (prefix ++ 0 ∷ []) shown.0 in
    omega (arith, long, length-append prefix (0 ∷ []))

-- and a batch in doubt lies within what is shown
pub doubt_inside : (prefix payload : List ℕ) (disk : Disk) → IsInDoubt prefix payload disk → length prefix + 1 + length payload + 1 ≤ length disk.shows
doubt_inside prefix payload disk doubt =
    let behind = doubt.staged.0 in
    let long : length disk.synced ≡ length (prefix ++ 0 ∷ (payload ++ 0 ∷ [])) + length behind = ap (λ (l : List ℕ). length l) doubt.staged.1 ∙ length-append (prefix ++ 0 ∷ (payload ++ 0 ∷ [])) behind in
    omega (arith, long, length-append prefix (0 ∷ (payload ++ 0 ∷ [])), length-append payload (0 ∷ []), doubt.is_disk.keeps.no_shorter)

-- with the batch written it is shown behind the closed gate
pub batch_shown : (prefix payload : List ℕ) (old new : Disk) → IsSettled prefix old → Done (Write (length prefix + 1) (payload ++ 0 ∷ [])) old new → Begins (prefix ++ 0 ∷ (payload ++ 0 ∷ [])) new.shows
batch_shown prefix payload old new settled done =
    let shown = settled_shows prefix old settled in (
      drop (length prefix + 1 + length (payload ++ 0 ∷ [])) old.shows,
      ap (λ (d : Disk). d.shows) done ∙ placed prefix shown.0 payload old.shows (shown.1 ∙ append_assoc prefix (0 ∷ []) shown.0),
    )

-- and with that synced it is in doubt
pub synced_is_in_doubt : (prefix payload : List ℕ) (old new : Disk) → Begins (prefix ++ 0 ∷ (payload ++ 0 ∷ [])) old.shows → Done Sync old new → IsInDoubt prefix payload new
synced_is_in_doubt prefix payload old new begins done = subst (IsInDoubt prefix payload) (sym done) (record {
  is_disk = record { still = λ _. refl; keeps = keeps_itself old.shows [] };
  staged = begins;
  gate_alone = tt;
})

-- with the gate written it still is, and the batch is shown behind an open gate
pub gate_written_in_doubt : (prefix payload : List ℕ) (old new : Disk) → IsInDoubt prefix payload old → Done (Write (length prefix) (1 ∷ [])) old new → IsInDoubt prefix payload new
gate_written_in_doubt prefix payload old new doubt done =
    let may = prefix_shown prefix payload old doubt in
    after_gate_write prefix payload old new doubt (calls_keep_disk (Write (length prefix) (1 ∷ [])) old new doubt.is_disk may (inl done)) (wrote (length prefix) (1 ∷ []) old new may (inl done))

-- and with that synced the log has the batch
pub synced_has_batch : (prefix payload : List ℕ) (old new : Disk) → Begins (prefix ++ 1 ∷ (payload ++ 0 ∷ [])) old.shows → Done Sync old new → IsSettled (prefix ++ 1 ∷ payload) new
synced_has_batch prefix payload old new begins done = synced_is_settled (prefix ++ 1 ∷ payload) old new (with_batch_begins prefix payload old.shows begins) done
