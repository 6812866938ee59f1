-- Each of the three images of a crash is one that the disk may leave.
use Rattle.std.proofs.Common.{◌≡◌, ℕ, ◌%◌, ◌==◌, Bool, true, false, List, [], ◌∷◌, replicate, refl, sym, subst, if◌then◌else◌, Option, Some}
use Rattle.std.proofs.lemmas.List.{length-replicate}
use Rattle.disk_rules.specs.Disk.{Range, Disk, LeftBy, Leaves, IsDisk}
use Rattle.disk_rules.specs.Calls.{Write}
use Rattle.disk_rules.specs.History.{History, history_of}
use Rattle.disk_rules.proofs.Calls.{keeps_itself, shows_is_left}
use Rattle.disk_rules.proofs.Histories.{done_is_disk}
use Rattle.at_edge.specs.Crashing.{blotted, crash_image, Crashes}
use Rattle.at_edge.specs.Changing.{told}

-- a disk that shows each write since its sync blotted
blotted_is_disk : (synced : List ℕ) (ranges : List Range) → IsDisk (record { synced = synced; written = ranges; shows = blotted ranges synced })
blotted_is_disk synced [] = record { still = λ none. refl; keeps = keeps_itself synced [] }
blotted_is_disk synced (range ∷ ranges) =
    subst (λ (count : ℕ). IsDisk (record { synced = synced; written = record { at = range.at; count = count } ∷ ranges; shows = blotted (range ∷ ranges) synced })) (length-replicate range.count 255)
    (done_is_disk (Write range.at (replicate range.count 255)) (record { synced = synced; written = ranges; shows = blotted ranges synced }) (blotted_is_disk synced ranges))

synced_left : (synced : List ℕ) (written : List Range) (shows : List ℕ) → (written ≡ [] → shows ≡ synced) → LeftBy synced written shows synced
synced_left synced [] shows still = sym (still refl)
synced_left synced (range ∷ ranges) shows still = keeps_itself synced (range ∷ ranges)

blotted_left : (synced : List ℕ) (written : List Range) (shows : List ℕ) → (written ≡ [] → shows ≡ synced) → LeftBy synced written shows (blotted written synced)
blotted_left synced [] shows still = sym (still refl)
blotted_left synced (range ∷ ranges) shows still = (blotted_is_disk synced (range ∷ ranges)).keeps

one_is_left : (first second : Bool) (disk : Disk) → IsDisk disk → Leaves disk (if first then disk.synced else (if second then disk.shows else blotted disk.written disk.synced))
one_is_left true second disk is = synced_left disk.synced disk.written disk.shows is.still
one_is_left false true disk is = shows_is_left disk is
one_is_left false false disk is = blotted_left disk.synced disk.written disk.shows is.still

pub image_is_left : (pick : ℕ) (disk : Disk) → IsDisk disk → Leaves disk (crash_image pick disk)
image_is_left pick disk is = one_is_left (pick % 3 == 0) (pick % 3 == 1) disk is

-- a disk that tells, made of such an image
pub crashes_told : (pick : ℕ) (tells : Bool) (history : History) (left : List ℕ) (new : Option History) → tells ≡ true → IsDisk history.now → left ≡ crash_image pick history.now → new ≡ Some (history_of left []) → Crashes pick (told tells history) new
crashes_told pick true history left new tells is image made = (subst (λ (bytes : List ℕ). new ≡ Some (history_of bytes [])) image made, image_is_left pick history.now is)
crashes_told pick false history left new tells is image made = absurd (no tells)
  where
    no : ◌≡◌ {A = Bool} false true → ⊥
    no e = cc
