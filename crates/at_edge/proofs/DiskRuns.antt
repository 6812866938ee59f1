-- Runs of calls of a disk that may tell: each call, where it succeeds and where it fails, takes a run one step on.
use Rattle.std.proofs.Common.{inl, inr, List, [], ◌∷◌, refl, sym, ap, subst, Option, Some, None}
use Rattle.std.specs.Prelude.{IfSome}
use Rattle.disk_rules.specs.Disk.{Disk}
use Rattle.disk_rules.specs.Calls.{DiskCall, Done, FailedOrUnderWay}
use Rattle.disk_rules.specs.History.{History, Adds, Goes}
use Rattle.disk_rules.proofs.Histories.{goes_nowhere, goes_then, goes_weaker}
use Rattle.at_edge.specs.Storing.{Succeeds, Fails, Arrives}

goes_one : (through : Disk → Type 0) (leads : Disk → Disk → Type 0) (old new : History) → Adds leads old new → through new.now → Goes through old new
goes_one through leads old new adds is = record { later = new.now ∷ []; all = (is, tt); moments_are = ap (λ (before : List Disk). new.now ∷ before) adds.before }

-- no call
pub arrives_nowhere : (through at_end : Disk → Type 0) (seen : Option History) → IfSome seen (λ history. at_end history.now) → Arrives through at_end seen seen
arrives_nowhere through at_end None is = refl
arrives_nowhere through at_end (Some history) is = (history, refl, goes_nowhere through history, is)

-- what holds of the last moment
pub arrived : (through at_end : Disk → Type 0) (old new : Option History) → Arrives through at_end old new → IfSome new (λ history. at_end history.now)
arrived through at_end None new none = subst (λ (seen : Option History). IfSome seen (λ history. at_end history.now)) (sym none) tt
arrived through at_end (Some old) new (history, is, goes, ends) = subst (λ (seen : Option History). IfSome seen (λ history. at_end history.now)) (sym is) ends

pub arrives_then : (through was at_end : Disk → Type 0) (old mid new : Option History) → Arrives through was old mid → Arrives through at_end mid new → Arrives through at_end old new
arrives_then through was at_end None mid new first next = subst (λ (seen : Option History). Arrives through at_end seen new) first next
arrives_then through was at_end (Some old) mid new (history, is, goes, ends) next =
    let later : Arrives through at_end (Some history) new = subst (λ (seen : Option History). Arrives through at_end seen new) is next in
    (later.0, later.1, goes_then through old history later.0 goes later.2, later.3)

pub arrives_weaker : (through was_through at_end was_end : Disk → Type 0) (old new : Option History) → ((disk : Disk) → was_through disk → through disk) → ((disk : Disk) → was_end disk → at_end disk) → Arrives was_through was_end old new → Arrives through at_end old new
arrives_weaker through was_through at_end was_end None new weaker ends none = none
arrives_weaker through was_through at_end was_end (Some old) new weaker ends (history, is, goes, last) = (history, is, goes_weaker was_through through old history weaker goes, ends history.now last)

-- one call more that succeeds
pub succeeds_on : (through was at_end : Disk → Type 0) (call : DiskCall) (old mid new : Option History) → Arrives through was old mid → Succeeds call mid new
    → ((disk next : Disk) → was disk → Done call disk next → at_end next) → ((disk : Disk) → at_end disk → through disk) → Arrives through at_end old new
succeeds_on through was at_end call None mid new none succeeds step ends = subst (λ (seen : Option History). Succeeds call seen new) none succeeds
succeeds_on through was at_end call (Some old) mid new (history, is, goes, last) succeeds step ends =
    let next : Succeeds call (Some history) new = subst (λ (seen : Option History). Succeeds call seen new) is succeeds in
    let so = step history.now next.0.now last next.2.now in
    (next.0, next.1, goes_then through old history next.0 goes (goes_one through (Done call) history next.0 next.2 (ends next.0.now so)), so)

-- one call more that fails
pub fails_on : (through was at_end : Disk → Type 0) (call : DiskCall) (old mid new : Option History) → Arrives through was old mid → Fails call mid new
    → ((disk : Disk) → was disk → at_end disk) → ((disk next : Disk) → was disk → FailedOrUnderWay call disk next → at_end next) → ((disk : Disk) → at_end disk → through disk) → Arrives through at_end old new
fails_on through was at_end call None mid new none fails same step ends = subst (λ (seen : Option History). Fails call seen new) none fails
fails_on through was at_end call (Some old) mid new (history, is, goes, last) fails same step ends =
    let failed : Fails call (Some history) new = subst (λ (seen : Option History). Fails call seen new) is fails in
    elim failed [
      | inl stays ↦ (history, stays, goes, same history.now last)
      | inr next ↦
          let so = step history.now next.0.now last next.2.now in
          (next.0, next.1, goes_then through old history next.0 goes (goes_one through (FailedOrUnderWay call) history next.0 next.2 (ends next.0.now so)), so)
    ]

-- with one more fact of the last moment
pub arrives_with : (through was more : Disk → Type 0) (old new : Option History) → Arrives through was old new → IfSome new (λ history. more history.now) → Arrives through (λ disk. was disk × more disk) old new
arrives_with through was more None new none is = none
arrives_with through was more (Some old) new (history, same, goes, last) is = (history, same, goes, (last, subst (λ (seen : Option History). IfSome seen (λ h. more h.now)) same is))
