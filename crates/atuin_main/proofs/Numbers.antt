-- A status is told by its number.
use Rattle.std.proofs.Common.{◌≡◌, ℕ, if◌then◌else◌, nat_eq, refl, sym, ◌∙◌, ap}
use Rattle.statuses.specs.declared.Status.{Status}
use Rattle.statuses.specs.declared.Status.TheVariants as status
use Rattle.statuses.specs.Numbers.{number_of}

status_at : ℕ → Status
status_at n =
    if nat_eq n 0 then status.Done else (
    if nat_eq n 2 then status.FaultyWords else (
    if nat_eq n 3 then status.FaultyKeyText else (
    if nat_eq n 4 then status.SourceFault else (
    if nat_eq n 5 then status.SinkFault else (
    if nat_eq n 6 then status.DiskFault else (
    if nat_eq n 8 then status.DamagedLog else (
    if nat_eq n 9 then status.WrongDisk else (
    if nat_eq n 11 then status.NoMemory else (
    if nat_eq n 12 then status.RandFault else (
    if nat_eq n 13 then status.FaultyFrame else (
    if nat_eq n 14 then status.SessionLimit else status.OldLog)))))))))))

again : (s : Status) → status_at (number_of s) ≡ s
unfolding status_at
again status.Done = refl
again status.FaultyWords = refl
again status.FaultyKeyText = refl
again status.SourceFault = refl
again status.SinkFault = refl
again status.DiskFault = refl
again status.DamagedLog = refl
again status.WrongDisk = refl
again status.NoMemory = refl
again status.RandFault = refl
again status.FaultyFrame = refl
again status.SessionLimit = refl
again status.OldLog = refl

pub same_status : (one other : Status) → number_of one ≡ number_of other → other ≡ one
same_status one other same = sym (again other) ∙ ap status_at (sym same) ∙ again one
