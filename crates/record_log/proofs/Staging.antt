-- Each call of the two halves of an append.
use Rattle.std.proofs.Common.{◌≡◌, ℕ, ◌+◌, ◌-◌, ◌^◌, inl, inr, List, [], ◌∷◌, ◌++◌, length, sym, subst, arith, Option, Some, None}
use Rattle.std.specs.Prelude.{IfSome, min}
use Rattle.disk_rules.specs.Disk.{Disk}
use Rattle.disk_rules.specs.Calls.{DiskCall, Write, Sync, MayCall}
use Rattle.disk_rules.specs.Append.{IsSettled, IsInDoubt, Begins}
use Rattle.disk_rules.specs.History.{History}
use Rattle.disk_rules.proofs.Settle.{prefix_shown, doubt_stays, opened_shows}
use Rattle.disk_rules.proofs.Settled.{write_stays_settled}
use Rattle.disk_rules.proofs.Steps.{gate_inside, batch_shown, synced_is_in_doubt, gate_written_in_doubt, synced_has_batch}
use Rattle.at_edge.specs.Storing.{Succeeds, Fails, Arrives, IsMeasurable}
use Rattle.at_edge.proofs.DiskRuns.{arrives_nowhere, arrives_with, succeeds_on, fails_on}
use Rattle.record_log.specs.Gates.{IsAtRest, IsUncertain, payload_in}

-- ---- the first half

-- the offset behind the gate
abbrev behind_of : ℕ → ℕ
behind_of gate = min (gate + 1) (2 ^ 64 - 1)

pub may_stage : (seen : Option History) (gate behind : ℕ) (bytes : List ℕ) → IfSome seen (λ h. IsAtRest gate h.now) → behind ≡ behind_of gate → IfSome seen (λ h. MayCall (Write behind bytes) h.now)
may_stage None gate behind bytes rest is = tt
may_stage (Some history) gate behind bytes rest is =
    let inside = gate_inside rest.prefix history.now rest.settled in
    let place = rest.gate_is in
    let fits = rest.fits in
    omega (arith, is, inside, place, fits)

-- the write, where the disk tells
staged_write : (gate behind : ℕ) (bytes prefix : List ℕ) (disk : Disk) → IsAtRest gate disk → behind ≡ behind_of gate → bytes ≡ payload_in bytes ++ 0 ∷ [] → length prefix ≡ gate → Write behind bytes ≡ Write (length prefix + 1) (payload_in bytes ++ 0 ∷ [])
staged_write gate behind bytes prefix disk rest is closing place =
    let fits = rest.fits in
    let at : behind ≡ length prefix + 1 = omega (arith, is, place, fits) in
    λ i. Write (at i) (closing i)

-- it failed
pub stage_fails : (gate behind : ℕ) (bytes prefix : List ℕ) (old new : Option History) → IfSome old (λ h. IsAtRest gate h.now) → behind ≡ behind_of gate → bytes ≡ payload_in bytes ++ 0 ∷ [] → length prefix ≡ gate → IfSome old (λ h. IsSettled prefix h.now)
    → Fails (Write behind bytes) old new → Arrives (IsSettled prefix) (IsSettled prefix) old new
stage_fails gate behind bytes prefix None new rest is closing place settled fails = fails
stage_fails gate behind bytes prefix (Some old) new rest is closing place settled fails =
    let payload = payload_in bytes in
    let call = staged_write gate behind bytes prefix old.now rest is closing place in
    fails_on (IsSettled prefix) (IsSettled prefix) (IsSettled prefix) (Write (length prefix + 1) (payload ++ 0 ∷ [])) (Some old) (Some old) new
    (arrives_nowhere (IsSettled prefix) (IsSettled prefix) (Some old) settled)
    (subst (λ (c : DiskCall). Fails c (Some old) new) call fails)
    (λ disk was. was)
    (λ disk next was failed. write_stays_settled prefix (payload ++ 0 ∷ []) disk next was (inr failed))
    (λ disk was. was)

-- it succeeded
IsWritten : List ℕ → List ℕ → Disk → Type 0
IsWritten prefix payload disk = IsSettled prefix disk × Begins (prefix ++ 0 ∷ (payload ++ 0 ∷ [])) disk.shows

stage_writes : (through : Disk → Type 0) (gate behind : ℕ) (bytes prefix : List ℕ) (old new : Option History) → IfSome old (λ h. IsAtRest gate h.now) → behind ≡ behind_of gate → bytes ≡ payload_in bytes ++ 0 ∷ [] → length prefix ≡ gate → IfSome old (λ h. IsSettled prefix h.now)
    → ((disk : Disk) → IsSettled prefix disk → through disk) → Succeeds (Write behind bytes) old new → Arrives through (λ disk. IsSettled prefix disk × Begins (prefix ++ 0 ∷ (payload_in bytes ++ 0 ∷ [])) disk.shows) old new
stage_writes through gate behind bytes prefix None new rest is closing place settled too succeeds = succeeds
stage_writes through gate behind bytes prefix (Some old) new rest is closing place settled too succeeds =
    let payload = payload_in bytes in
    let call = staged_write gate behind bytes prefix old.now rest is closing place in
    succeeds_on through (IsSettled prefix) (λ disk. IsSettled prefix disk × Begins (prefix ++ 0 ∷ (payload ++ 0 ∷ [])) disk.shows) (Write (length prefix + 1) (payload ++ 0 ∷ [])) (Some old) (Some old) new
    (arrives_nowhere through (IsSettled prefix) (Some old) settled)
    (subst (λ (c : DiskCall). Succeeds c (Some old) new) call succeeds)
    (λ disk next was done. (write_stays_settled prefix (payload ++ 0 ∷ []) disk next was (inl done), batch_shown prefix payload disk next was done))
    (λ disk so. too disk so.0)

-- then the sync failed
pub stage_unsynced : (gate behind : ℕ) (bytes prefix : List ℕ) (old mid new : Option History) → IfSome old (λ h. IsAtRest gate h.now) → behind ≡ behind_of gate → bytes ≡ payload_in bytes ++ 0 ∷ [] → length prefix ≡ gate → IfSome old (λ h. IsSettled prefix h.now)
    → Succeeds (Write behind bytes) old mid → Fails Sync mid new → Arrives (IsSettled prefix) (IsSettled prefix) old new
stage_unsynced gate behind bytes prefix old mid new rest is closing place settled succeeds fails =
    fails_on (IsSettled prefix) (λ disk. IsSettled prefix disk × Begins (prefix ++ 0 ∷ (payload_in bytes ++ 0 ∷ [])) disk.shows) (IsSettled prefix) Sync old mid new
    (stage_writes (IsSettled prefix) gate behind bytes prefix old mid rest is closing place settled (λ disk so. so) succeeds)
    fails (λ disk was. was.0) (λ disk next was same. subst (IsSettled prefix) (sym same) was.0) (λ disk so. so)

-- or it succeeded too
pub stage_done : (gate behind : ℕ) (bytes prefix : List ℕ) (old mid new : Option History) → IfSome old (λ h. IsAtRest gate h.now) → behind ≡ behind_of gate → bytes ≡ payload_in bytes ++ 0 ∷ [] → length prefix ≡ gate → IfSome old (λ h. IsSettled prefix h.now)
    → Succeeds (Write behind bytes) old mid → IfSome mid (λ h. IsMeasurable h.now) → Succeeds Sync mid new → Arrives (IsUncertain prefix (payload_in bytes)) (λ disk. IsInDoubt prefix (payload_in bytes) disk × IsMeasurable disk) old new
stage_done gate behind bytes prefix old mid new rest is closing place settled succeeds short syncs =
    let payload = payload_in bytes in
    succeeds_on (IsUncertain prefix payload) (λ disk. (IsSettled prefix disk × Begins (prefix ++ 0 ∷ (payload ++ 0 ∷ [])) disk.shows) × IsMeasurable disk) (λ disk. IsInDoubt prefix payload disk × IsMeasurable disk) Sync old mid new
    (arrives_with (IsUncertain prefix payload) (λ disk. IsSettled prefix disk × Begins (prefix ++ 0 ∷ (payload ++ 0 ∷ [])) disk.shows) IsMeasurable old mid
    (stage_writes (IsUncertain prefix payload) gate behind bytes prefix old mid rest is closing place settled (λ disk so. inl so) succeeds) short)
    syncs
    (λ disk next was done. (synced_is_in_doubt prefix payload disk next was.0.1 done, subst IsMeasurable (sym done) was.1))
    (λ disk so. inr (inl so.0))

-- ---- the second half

pub may_open : (seen : Option History) (prefix payload : List ℕ) (gate : ℕ) → length prefix ≡ gate → IfSome seen (λ h. IsInDoubt prefix payload h.now) → IfSome seen (λ h. MayCall (Write gate (1 ∷ [])) h.now)
may_open None prefix payload gate place doubt = tt
may_open (Some history) prefix payload gate place doubt = let inside = prefix_shown prefix payload history.now doubt in omega (arith, place, inside)

pub open_fails : (prefix payload : List ℕ) (gate : ℕ) (old new : Option History) → length prefix ≡ gate → IfSome old (λ h. IsInDoubt prefix payload h.now) → Fails (Write gate (1 ∷ [])) old new → Arrives (IsUncertain prefix payload) (IsInDoubt prefix payload) old new
open_fails prefix payload gate old new place doubt fails =
    fails_on (IsUncertain prefix payload) (IsInDoubt prefix payload) (IsInDoubt prefix payload) (Write (length prefix) (1 ∷ [])) old old new
    (arrives_nowhere (IsUncertain prefix payload) (IsInDoubt prefix payload) old doubt)
    (subst (λ (at : ℕ). Fails (Write at (1 ∷ [])) old new) (sym place) fails)
    (λ disk was. was) (λ disk next was failed. doubt_stays prefix payload disk next was (inl failed)) (λ disk so. inr (inl so))

open_writes : (prefix payload : List ℕ) (gate : ℕ) (old new : Option History) → length prefix ≡ gate → IfSome old (λ h. IsInDoubt prefix payload h.now) → Succeeds (Write gate (1 ∷ [])) old new
    → Arrives (IsUncertain prefix payload) (λ disk. IsInDoubt prefix payload disk × Begins (prefix ++ 1 ∷ (payload ++ 0 ∷ [])) disk.shows) old new
open_writes prefix payload gate old new place doubt succeeds =
    succeeds_on (IsUncertain prefix payload) (IsInDoubt prefix payload) (λ disk. IsInDoubt prefix payload disk × Begins (prefix ++ 1 ∷ (payload ++ 0 ∷ [])) disk.shows) (Write (length prefix) (1 ∷ [])) old old new
    (arrives_nowhere (IsUncertain prefix payload) (IsInDoubt prefix payload) old doubt)
    (subst (λ (at : ℕ). Succeeds (Write at (1 ∷ [])) old new) (sym place) succeeds)
    (λ disk next was done. (gate_written_in_doubt prefix payload disk next was done, opened_shows prefix payload disk next was done))
    (λ disk so. inr (inl so.0))

pub open_unsynced : (prefix payload : List ℕ) (gate : ℕ) (old mid new : Option History) → length prefix ≡ gate → IfSome old (λ h. IsInDoubt prefix payload h.now) → Succeeds (Write gate (1 ∷ [])) old mid → Fails Sync mid new → Arrives (IsUncertain prefix payload) (IsInDoubt prefix payload) old new
open_unsynced prefix payload gate old mid new place doubt succeeds fails =
    fails_on (IsUncertain prefix payload) (λ disk. IsInDoubt prefix payload disk × Begins (prefix ++ 1 ∷ (payload ++ 0 ∷ [])) disk.shows) (IsInDoubt prefix payload) Sync old mid new
    (open_writes prefix payload gate old mid place doubt succeeds) fails
    (λ disk was. was.0) (λ disk next was same. subst (IsInDoubt prefix payload) (sym same) was.0) (λ disk so. inr (inl so))

pub open_done : (prefix payload : List ℕ) (gate : ℕ) (old mid new : Option History) → length prefix ≡ gate → IfSome old (λ h. IsInDoubt prefix payload h.now) → Succeeds (Write gate (1 ∷ [])) old mid → Succeeds Sync mid new → Arrives (IsUncertain prefix payload) (IsSettled (prefix ++ 1 ∷ payload)) old new
open_done prefix payload gate old mid new place doubt succeeds syncs =
    succeeds_on (IsUncertain prefix payload) (λ disk. IsInDoubt prefix payload disk × Begins (prefix ++ 1 ∷ (payload ++ 0 ∷ [])) disk.shows) (IsSettled (prefix ++ 1 ∷ payload)) Sync old mid new
    (open_writes prefix payload gate old mid place doubt succeeds) syncs
    (λ disk next was done. synced_has_batch prefix payload disk next was.1 done) (λ disk so. inr (inr so))
