-- What the disks in memory leave where they crash: three images, picked by a number.
use Rattle.std.specs.Prelude.{◌≡◌, ℕ, ◌%◌, ◌==◌, List, [], ◌∷◌, replicate, if◌then◌else◌, Option, None, Some}
use Rattle.disk_rules.specs.Disk.{Range, Disk, Leaves}
use Rattle.disk_rules.specs.Calls.{overwritten}
use Rattle.disk_rules.specs.History.{History, history_of}

-- the bytes with 0xff over the ranges, of which the last was the first to be written
abbrev pub blotted : List Range → List ℕ → List ℕ
blotted [] synced = synced
blotted (range ∷ ranges) synced = overwritten (blotted ranges synced) range.at (replicate range.count 255)

-- the unsynced writes are lost, kept, or become bytes 0xff
abbrev pub crash_image : ℕ → Disk → List ℕ
crash_image pick disk = if pick % 3 == 0 then disk.synced else (if pick % 3 == 1 then disk.shows else blotted disk.written disk.synced)

-- the new disk begins with the image of this number, all synced, which a crash of the old one may leave; it tells where the old one does
abbrev pub Crashes : ℕ → Option History → Option History → Type 0
Crashes pick None new = new ≡ None
Crashes pick (Some old) new = (new ≡ Some (history_of (crash_image pick old.now) [])) × Leaves old.now (crash_image pick old.now)
