-- Histories: what holds of each moment of a run, and what calls in a row leave.
use Rattle.std.proofs.Common.{◌≡◌, ℕ, ◌+◌, ◌<◌, inl, inr, List, [], ◌∷◌, ◌++◌, length, take, drop, refl, sym, ◌∙◌, ap, subst, arith, append_assoc, length-append}
use Rattle.std.specs.List.{AllByRecursion}
use Rattle.std.proofs.lemmas.List.{length-take, get_or_append_left, get_or-take}
use Rattle.std.proofs.lemmas.Bool.{cases_lt}
use Rattle.disk_rules.specs.Disk.{Range, Disk, KeepsSynced, IsDisk, Since}
use Rattle.disk_rules.specs.Calls.{DiskCall, Write, Sync, Done, overwritten}
use Rattle.disk_rules.specs.History.{History, moments, Adds, Goes, Images, EachSince, done, after_call, after_calls, history_of}
use Rattle.disk_rules.proofs.Calls.{calls_keep_disk}
use Rattle.disk_rules.proofs.Moments.{since_now, since_parts}

-- ---- runs

pub goes_nowhere : (is_so : Disk → Type 0) (old : History) → Goes is_so old old
goes_nowhere is_so old = record { later = []; all = tt; moments_are = refl }

all_append : (is_so : Disk → Type 0) (later earlier : List Disk) → AllByRecursion is_so later → AllByRecursion is_so earlier → AllByRecursion is_so (later ++ earlier)
all_append is_so [] earlier here there = there
all_append is_so (disk ∷ later) earlier here there = (here.0, all_append is_so later earlier here.1 there)

pub goes_then : (is_so : Disk → Type 0) (old mid new : History) → Goes is_so old mid → Goes is_so mid new → Goes is_so old new
goes_then is_so old mid new first next = record {
  later = next.later ++ first.later;
  all = all_append is_so next.later first.later next.all first.all;
  moments_are = next.moments_are ∙ ap (λ (l : List Disk). next.later ++ l) first.moments_are ∙ sym (append_assoc next.later first.later (moments old));
}

all_weaker : (is_so too : Disk → Type 0) (later : List Disk) → ((disk : Disk) → is_so disk → too disk) → AllByRecursion is_so later → AllByRecursion too later
all_weaker is_so too [] weaker all = tt
all_weaker is_so too (disk ∷ later) weaker all = (weaker disk all.0, all_weaker is_so too later weaker all.1)

pub goes_weaker : (is_so too : Disk → Type 0) (old new : History) → ((disk : Disk) → is_so disk → too disk) → Goes is_so old new → Goes too old new
goes_weaker is_so too old new weaker goes = record { later = goes.later; all = all_weaker is_so too goes.later weaker goes.all; moments_are = goes.moments_are }

since_all : (is_so : List ℕ → Type 0) (later : List Disk) (left : List ℕ) → AllByRecursion (Images is_so) later → Since 0 later left → is_so left
since_all is_so [] left all since = absurd since
since_all is_so (disk ∷ later) left all (inl now) = all.0 left now.1
since_all is_so (disk ∷ later) left all (inr before) = since_all is_so later left all.1 before

-- where all images were so at the start, and at each further moment, each one since the start is
pub goes_since : (is_so : List ℕ → Type 0) (old new : History) → Images is_so old.now → Goes (Images is_so) old new → EachSince is_so old new
goes_since is_so old new start goes left since =
    elim (since_parts (length old.before) goes.later (moments old) left (subst (λ (l : List Disk). Since (length old.before) l left) goes.moments_are since)) [
      | inl later ↦ since_all is_so goes.later left goes.all later
      | inr before ↦ start left ((since_now old.now old.before left).0 before.1)
    ]

-- ---- calls in a row

pub after_push : (old : History) (calls : List DiskCall) (call : DiskCall) → after_calls old (calls ++ call ∷ []) ≡ after_call call (after_calls old calls)
after_push old [] call = refl
after_push old (first ∷ calls) call = after_push (after_call first old) calls call

-- bytes that are written past the end are shown at the end
past_the_end : (at : ℕ) (bytes : List ℕ) (old : Disk) → length old.shows < at → IsDisk old → KeepsSynced old.synced (record { at = at; count = length bytes } ∷ old.written) (overwritten old.shows at bytes)
past_the_end at bytes old past is =
    let kept = length-take at old.shows in
    let begun = length-append (take at old.shows) bytes in
    let all = length-append (take at old.shows ++ bytes) (drop (at + length bytes) old.shows) in
    record {
      no_shorter = omega (arith, kept, begun, all, is.keeps.no_shorter);
      elsewhere = λ offset below outside.
          get_or_append_left (take at old.shows ++ bytes) (drop (at + length bytes) old.shows) 0 offset (omega (arith, kept, begun, is.keeps.no_shorter))
          ∙ get_or_append_left (take at old.shows) bytes 0 offset (omega (arith, kept, is.keeps.no_shorter))
          ∙ get_or-take at old.shows offset 0 (omega (arith, is.keeps.no_shorter))
          ∙ is.keeps.elsewhere offset below (λ inside. outside (inr inside));
    }

pub done_is_disk : (call : DiskCall) (old : Disk) → IsDisk old → IsDisk (done call old)
done_is_disk Sync old is = calls_keep_disk Sync old (done Sync old) is tt (inl refl)
done_is_disk (Write at bytes) old is = elim (cases_lt (length old.shows) at) [
  | inl past ↦ record { still = λ none. absurd (nothing old.written (record { at = at; count = length bytes }) none); keeps = past_the_end at bytes old past is }
  | inr within ↦ calls_keep_disk (Write at bytes) old (done (Write at bytes) old) is within (inl refl)
]
  where
    nothing : (ranges : List Range) (range : Range) → range ∷ ranges ≡ [] → ⊥
    nothing ranges range e = cc

after_is_disk : (old : History) (calls : List DiskCall) → IsDisk old.now → IsDisk (after_calls old calls).now
after_is_disk old [] is = is
after_is_disk old (call ∷ calls) is = after_is_disk (after_call call old) calls (done_is_disk call old.now is)

pub history_is_disk : (first : List ℕ) (calls : List DiskCall) → IsDisk (history_of first calls).now
history_is_disk first calls = after_is_disk _ calls (record { still = λ none. refl; keeps = record { no_shorter = omega arith; elsewhere = λ offset below outside. refl } })

pub done_is_done : (call : DiskCall) (old new : Disk) → new ≡ done call old → Done call old new
done_is_done (Write at bytes) old new e = e
done_is_done Sync old new e = e

pub after_adds : (call : DiskCall) (old new : History) → new ≡ after_call call old → Adds (Done call) old new
after_adds call old new e = record { before = ap (λ (h : History). h.before) e; now = done_is_done call old.now new.now (ap (λ (h : History). h.now) e) }
