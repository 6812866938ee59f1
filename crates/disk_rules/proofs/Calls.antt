-- What each call leaves, byte by byte.
use Rattle.std.proofs.Common.{◌≡◌, ℕ, zero, suc, ◌+◌, ◌-◌, ◌<◌, ◌≤◌, ◌⊎◌, inl, inr, Bool, true, false, cond, List, [], ◌∷◌, ◌++◌, length, get_or, take, drop, refl, sym, ◌∙◌, ap, subst, arith, length-append}
use Rattle.std.specs.Prelude.{nat_le, nat_lt, ◌&&◌}
use Rattle.std.proofs.lemmas.List.{length-take, length-drop, get_or_append_left, get_or-append_right, get_or-take, get_or-drop}
use Rattle.std.proofs.lemmas.Bool.{cases_lt}
use Rattle.std.proofs.lemmas.Bool.Decides.{nat_tests}
use Rattle.disk_rules.specs.Disk.{Range, Disk, IsWithin, KeepsSynced, LeftBy, Leaves, LeavesOnly, IsDisk}
use Rattle.disk_rules.specs.Calls.{DiskCall, Write, Sync, overwritten, Torn, Wrote, MayCall, Done, FailedOrUnderWay}

-- ---- what is shown

pub shows_is_left : (disk : Disk) → IsDisk disk → Leaves disk disk.shows
shows_is_left disk is = by_ranges disk.synced disk.written disk.shows is.keeps
  where
    by_ranges : (synced : List ℕ) (written : List Range) (shows : List ℕ) → KeepsSynced synced written shows → LeftBy synced written shows shows
    by_ranges synced [] shows keeps = refl
    by_ranges synced (range ∷ ranges) shows keeps = keeps

-- ---- syncs

pub sync_leaves_shown : (old new : Disk) → Done Sync old new → (new.shows ≡ old.shows) × LeavesOnly new old.shows
sync_leaves_shown old new done = (ap (λ (d : Disk). d.shows) done, λ left is_left. subst (λ (d : Disk). Leaves d left) done is_left)

pub failed_sync_leaves_all : (old new : Disk) (bytes : List ℕ) → FailedOrUnderWay Sync old new → (new.shows ≡ old.shows) × (Leaves new bytes → Leaves old bytes) × (Leaves old bytes → Leaves new bytes)
failed_sync_leaves_all old new bytes same = (
  ap (λ (d : Disk). d.shows) same,
  λ left. subst (λ (d : Disk). Leaves d bytes) same left,
  λ left. subst (λ (d : Disk). Leaves d bytes) (sym same) left,
)

-- ---- writes

-- what a write that succeeded shows is changed in its range alone
overwritten_torn : (shows : List ℕ) (at : ℕ) (bytes : List ℕ) → at ≤ length shows → Torn (record { at = at; count = length bytes }) shows (overwritten shows at bytes)
overwritten_torn shows at bytes within = record {
  no_shorter = omega (arith, long);
  no_longer = omega (arith, long);
  elsewhere = λ offset below outside. elim (cases_lt offset at) [
    | inl before ↦ get_or_append_left (take at shows ++ bytes) (drop (at + length bytes) shows) 0 offset (omega (arith, begun)) ∙ get_or_append_left (take at shows) bytes 0 offset (omega (arith, taken)) ∙ get_or-take at shows offset 0 before
    | inr behind ↦ elim (cases_lt offset (at + length bytes)) [
      | inl inside ↦ absurd (outside (behind, inside))
      | inr past ↦ get_or-append_right (take at shows ++ bytes) (drop (at + length bytes) shows) (at + length bytes) offset 0 begun past ∙ get_or-drop (at + length bytes) shows (offset - (at + length bytes)) 0 ∙ ap (λ (k : ℕ). get_or shows k 0) (omega arith)
    ]
  ];
}
  where
    taken : length (take at shows) ≡ at
    taken = omega (arith, length-take at shows)

    begun : length (take at shows ++ bytes) ≡ at + length bytes
    begun = omega (arith, taken, length-append (take at shows) bytes)

    long : length (overwritten shows at bytes) ≡ at + length bytes + (length shows - (at + length bytes))
    long = omega (arith, begun, length-append (take at shows ++ bytes) (drop (at + length bytes) shows), length-drop (at + length bytes) shows)

pub wrote : (at : ℕ) (bytes : List ℕ) (old new : Disk) → MayCall (Write at bytes) old → Done (Write at bytes) old new ⊎ Wrote (record { at = at; count = length bytes }) old new → Wrote (record { at = at; count = length bytes }) old new
wrote at bytes old new may (inl done) = subst (λ (d : Disk). Wrote (record { at = at; count = length bytes }) old d) (sym done) (record { synced = refl; written = refl; shows = overwritten_torn old.shows at bytes may })
wrote at bytes old new may (inr w) = w

-- what keeps the synced bytes outside some ranges keeps them outside more
keeps_more : (synced : List ℕ) (range : Range) (ranges : List Range) (bytes : List ℕ) → KeepsSynced synced ranges bytes → KeepsSynced synced (range ∷ ranges) bytes
keeps_more synced range ranges bytes keeps = record {
  no_shorter = keeps.no_shorter;
  elsewhere = λ offset below outside. keeps.elsewhere offset below (λ inside. outside (inr inside));
}

pub keeps_itself : (synced : List ℕ) (ranges : List Range) → KeepsSynced synced ranges synced
keeps_itself synced ranges = record { no_shorter = omega arith; elsewhere = λ offset below outside. refl }

wrote_is_disk : (range : Range) (old new : Disk) → IsDisk old → Wrote range old new → IsDisk new
wrote_is_disk range old new is w = record {
  still = λ none. absurd (nothing (sym w.written ∙ none));
  keeps = subst (λ (synced : List ℕ). KeepsSynced synced new.written new.shows) (sym w.synced) (subst (λ (written : List Range). KeepsSynced old.synced written new.shows) (sym w.written) kept);
}
  where
    nothing : range ∷ old.written ≡ [] → ⊥
    nothing e = cc

    kept : KeepsSynced old.synced (range ∷ old.written) new.shows
    kept = record {
      no_shorter = omega (arith, is.keeps.no_shorter, w.shows.no_shorter);
      elsewhere = λ offset below outside. w.shows.elsewhere offset (omega (arith, is.keeps.no_shorter, below)) (λ inside. outside (inl inside)) ∙ is.keeps.elsewhere offset below (λ inside. outside (inr inside));
    }

pub calls_keep_disk : (call : DiskCall) (old new : Disk) → IsDisk old → MayCall call old → Done call old new ⊎ FailedOrUnderWay call old new → IsDisk new
calls_keep_disk (Write at bytes) old new is may (inl done) = wrote_is_disk (record { at = at; count = length bytes }) old new is (wrote at bytes old new may (inl done))
calls_keep_disk (Write at bytes) old new is may (inr (inl same)) = subst IsDisk (sym same) is
calls_keep_disk (Write at bytes) old new is may (inr (inr w)) = wrote_is_disk (record { at = at; count = length bytes }) old new is w
calls_keep_disk Sync old new is may (inl done) = subst IsDisk (sym done) (record { still = λ _. refl; keeps = keeps_itself old.shows [] })
calls_keep_disk Sync old new is may (inr same) = subst IsDisk (sym same) is

-- what is left after a write keeps what was synced, outside its range and the earlier ones
pub left_keeps : (range : Range) (old new : Disk) (left : List ℕ) → new.synced ≡ old.synced → new.written ≡ range ∷ old.written → Leaves new left → KeepsSynced old.synced (range ∷ old.written) left
left_keeps range old new left synced written is_left = subst (λ (b : List ℕ). KeepsSynced b (range ∷ old.written) left) synced (subst (λ (ranges : List Range). LeftBy new.synced ranges new.shows left) written is_left)

pub keeps_left : (range : Range) (old new : Disk) (left : List ℕ) → new.synced ≡ old.synced → new.written ≡ range ∷ old.written → KeepsSynced old.synced (range ∷ old.written) left → Leaves new left
keeps_left range old new left synced written keeps = subst (λ (ranges : List Range). LeftBy new.synced ranges new.shows left) (sym written) (subst (λ (b : List ℕ). KeepsSynced b (range ∷ old.written) left) (sym synced) keeps)

-- what was left keeps what was synced
pub was_left : (synced : List ℕ) (written : List Range) (shows left : List ℕ) → (written ≡ [] → shows ≡ synced) → LeftBy synced written shows left → KeepsSynced synced written left
was_left synced [] shows left still is = subst (KeepsSynced synced []) (sym (is ∙ still refl)) (keeps_itself synced [])
was_left synced (range ∷ ranges) shows left still is = is

-- what may be left before a write that did something may be left after it
wrote_may_be_lost : (range : Range) (old new : Disk) (left : List ℕ) → IsDisk old → Wrote range old new → Leaves old left → Leaves new left
wrote_may_be_lost range old new left is w is_left =
    keeps_left range old new left w.synced w.written (keeps_more old.synced range old.written left (was_left old.synced old.written old.shows left is.still is_left))

pub writes_may_be_lost : (at : ℕ) (payload : List ℕ) (old new : Disk) (left : List ℕ) → IsDisk old → MayCall (Write at payload) old → Done (Write at payload) old new ⊎ FailedOrUnderWay (Write at payload) old new → Leaves old left → Leaves new left
writes_may_be_lost at payload old new left is may (inl done) is_left = wrote_may_be_lost (record { at = at; count = length payload }) old new left is (wrote at payload old new may (inl done)) is_left
writes_may_be_lost at payload old new left is may (inr (inl same)) is_left = subst (λ (d : Disk). Leaves d left) (sym same) is_left
writes_may_be_lost at payload old new left is may (inr (inr w)) is_left = wrote_may_be_lost (record { at = at; count = length payload }) old new left is w is_left

-- ---- outside the range of a write

-- whether the offset is in the range
abbrev within : Range → ℕ → Bool
within range offset = nat_le range.at offset && nat_lt offset (range.at + range.count)

-- these bytes, which begin at the offset, with what was synced where the test says so
abbrev mended : (ℕ → Bool) → List ℕ → ℕ → List ℕ → List ℕ
mended test synced offset [] = []
mended test synced offset (byte ∷ bytes) = cond (test offset) (get_or synced offset 0) byte ∷ mended test synced (offset + 1) bytes

length-mended : (test : ℕ → Bool) (synced : List ℕ) (offset : ℕ) (bytes : List ℕ) → length (mended test synced offset bytes) ≡ length bytes
length-mended test synced offset [] = refl
length-mended test synced offset (byte ∷ bytes) = ap suc (length-mended test synced (offset + 1) bytes)

get_or-mended : (test : ℕ → Bool) (synced : List ℕ) (offset : ℕ) (bytes : List ℕ) (k : ℕ) → k < length bytes → get_or (mended test synced offset bytes) k 0 ≡ cond (test (offset + k)) (get_or synced (offset + k) 0) (get_or bytes k 0)
get_or-mended test synced offset [] k below = absurd (omega arith)
get_or-mended test synced offset (byte ∷ bytes) zero below = ap (λ (n : ℕ). cond (test n) (get_or synced n 0) byte) (omega arith)
get_or-mended test synced offset (byte ∷ bytes) (suc k) below = get_or-mended test synced (offset + 1) bytes k (omega arith) ∙ ap (λ (n : ℕ). cond (test n) (get_or synced n 0) (get_or bytes k 0)) (omega arith)

tested : (range : Range) (offset : ℕ) → ((within range offset ≡ true) × IsWithin offset range) ⊎ ((within range offset ≡ false) × (IsWithin offset range → ⊥))
tested range offset =
    elim (cases_lt offset range.at) [
      | inl before ↦ inr (grind (arith, nat_tests), λ inside. let low = inside.0 in absurd (omega arith))
      | inr behind ↦ elim (cases_lt offset (range.at + range.count)) [
        | inl here ↦ inl (grind (arith, nat_tests), (behind, here))
        | inr past ↦ inr (grind (arith, nat_tests), λ inside. let high = inside.1 in absurd (omega arith))
      ]
    ]

-- an image after a write, mended in the write's range, is one from before it
mended_keeps : (synced : List ℕ) (range : Range) (written : List Range) (left : List ℕ) → KeepsSynced synced (range ∷ written) left → KeepsSynced synced written (mended (within range) synced 0 left)
mended_keeps synced range written left keeps = record {
  no_shorter = omega (arith, keeps.no_shorter, length-mended (within range) synced 0 left);
  elsewhere = λ offset below outside.
      get_or-mended (within range) synced 0 left offset (omega (arith, keeps.no_shorter)) ∙ ap (λ (n : ℕ). cond (within range n) (get_or synced n 0) (get_or left offset 0)) (omega arith) ∙ elim (tested range offset) [
        | inl inside ↦ ap (λ (b : Bool). cond b (get_or synced offset 0) (get_or left offset 0)) inside.0
        | inr apart ↦ ap (λ (b : Bool). cond b (get_or synced offset 0) (get_or left offset 0)) apart.0 ∙ keeps.elsewhere offset below (λ w. elim w [ inl here ↦ apart.1 here | inr there ↦ outside there ])
      ];
}

-- where all images had one byte before the write, all have it after it
outside_range : (synced : List ℕ) (written : List Range) (shows : List ℕ) (range : Range) (left : List ℕ) → (written ≡ [] → shows ≡ synced) → KeepsSynced synced (range ∷ written) left
    → (offset byte : ℕ) → (IsWithin offset range → ⊥) → ((before : List ℕ) → LeftBy synced written shows before → (offset < length before) × (get_or before offset 0 ≡ byte)) → (offset < length left) × (get_or left offset 0 ≡ byte)
outside_range synced [] shows range left still keeps offset byte outside all =
    let shown = all shows refl in
    let same : shows ≡ synced = still refl in
    let below : offset < length synced = subst (λ (l : List ℕ). offset < length l) same shown.0 in
    (omega (arith, keeps.no_shorter), keeps.elsewhere offset below (λ w. elim w [ inl here ↦ outside here | inr there ↦ there ]) ∙ ap (λ (l : List ℕ). get_or l offset 0) (sym same) ∙ shown.1)
outside_range synced (first ∷ written) shows range left still keeps offset byte outside all =
    let image = all (mended (within range) synced 0 left) (mended_keeps synced range (first ∷ written) left keeps) in
    let below : offset < length left = omega (arith, image.0, length-mended (within range) synced 0 left) in
    let apart : within range offset ≡ false = elim (tested range offset) [
      | inl inside ↦ absurd (outside inside.1)
      | inr no_part ↦ no_part.0
    ] in
    let same : get_or (mended (within range) synced 0 left) offset 0 ≡ get_or left offset 0 =
    get_or-mended (within range) synced 0 left offset below ∙ ap (λ (n : ℕ). cond (within range n) (get_or synced n 0) (get_or left offset 0)) (omega arith) ∙ ap (λ (b : Bool). cond b (get_or synced offset 0) (get_or left offset 0)) apart in
    (below, sym same ∙ image.1)

stays_in_range : (range : Range) (old new : Disk) → IsDisk old → Wrote range old new → (offset byte : ℕ) → (IsWithin offset range → ⊥) → ((left : List ℕ) → Leaves old left → (offset < length left) × (get_or left offset 0 ≡ byte))
    → (left : List ℕ) → Leaves new left → (offset < length left) × (get_or left offset 0 ≡ byte)
stays_in_range range old new is w offset byte outside all left is_left =
    outside_range old.synced old.written old.shows range left is.still (left_keeps range old new left w.synced w.written is_left) offset byte outside all

pub writes_stay_in_range : (at : ℕ) (payload : List ℕ) (old new : Disk) → IsDisk old → MayCall (Write at payload) old → Done (Write at payload) old new ⊎ FailedOrUnderWay (Write at payload) old new
    → (offset byte : ℕ) → (IsWithin offset (record { at = at; count = length payload }) → ⊥) → ((left : List ℕ) → Leaves old left → (offset < length left) × (get_or left offset 0 ≡ byte))
    → (left : List ℕ) → Leaves new left → (offset < length left) × (get_or left offset 0 ≡ byte)
writes_stay_in_range at payload old new is may (inl done) offset byte outside all left is_left = stays_in_range (record { at = at; count = length payload }) old new is (wrote at payload old new may (inl done)) offset byte outside all left is_left
writes_stay_in_range at payload old new is may (inr (inl same)) offset byte outside all left is_left = all left (subst (λ (d : Disk). Leaves d left) same is_left)
writes_stay_in_range at payload old new is may (inr (inr w)) offset byte outside all left is_left = stays_in_range (record { at = at; count = length payload }) old new is w offset byte outside all left is_left
