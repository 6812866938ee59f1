-- What a disk that may tell shows, and what follows from it.
use Rattle.std.proofs.Common.{Option, Some, None, sym, ◌∙◌, subst, arith}
use Rattle.std.specs.Prelude.{IfSome}
use Rattle.disk_rules.specs.Disk.{Disk}
use Rattle.disk_rules.specs.History.{History}
use Rattle.at_edge.specs.Storing.{DiskSeen, Tells, Rests}

pub tells_so : (seen : DiskSeen) (was is : Disk → Type 0) → ((d : Disk) → was d → is d) → Tells seen was → Tells seen is
tells_so seen was is so told = by seen.history told
  where
    by : (history : Option History) → IfSome history (λ h. was h.now) → IfSome history (λ h. is h.now)
    by None told = tt
    by (Some h) told = so h.now told

pub tells_both : (seen : DiskSeen) (one other : Disk → Type 0) → Tells seen one → Tells seen other → Tells seen (λ d. one d × other d)
tells_both seen one other told also = by seen.history told also
  where
    by : (history : Option History) → IfSome history (λ h. one h.now) → IfSome history (λ h. other h.now) → IfSome history (λ h. one h.now × other h.now)
    by None told also = tt
    by (Some h) told also = (told, also)

-- where nothing changed, what is told now was told before
pub tells_before : (old new : DiskSeen) (is : Disk → Type 0) → Rests old new → Tells new is → Tells old is
tells_before old new is rests told = subst (λ (seen : Option History). IfSome seen (λ h. is h.now)) rests.history told

pub tells_after : (old new : DiskSeen) (is : Disk → Type 0) → Rests old new → Tells old is → Tells new is
tells_after old new is rests told = subst (λ (seen : Option History). IfSome seen (λ h. is h.now)) (sym rests.history) told

pub rests_then : (old mid new : DiskSeen) → Rests old mid → Rests mid new → Rests old new
rests_then old mid new first next = let one = first.faults in let two = next.faults in record { history = next.history ∙ first.history; faults = omega (arith, one, two) }
