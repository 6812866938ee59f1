-- The history of a disk in memory goes on by one moment a call.
use Rattle.std.proofs.Common.{◌≡◌, ℕ, List, [], ◌∷◌, ◌++◌, length, replicate, map, Vec, Global, Bool, true, false, refl, sym, ◌∙◌, ap, subst}
use Rattle.std.proofs.lemmas.List.{map-append}
use Rattle.disk_rules.specs.Calls.{DiskCall, Write, Sync, overwritten}
use Rattle.disk_rules.specs.History.{History, history_of, after_call}
use Rattle.disk_rules.proofs.Histories.{after_push, after_adds}
use Rattle.at_edge.specs.Storing.{Succeeds}
use Rattle.at_edge.specs.Changing.{call_of, told, KeepsMoment}
use Rattle.at_edge.specs.declared.medium.Change.{Change}
use Rattle.at_edge.specs.declared.medium.Change.TheVariants.{Written}

pub history_push : (first : List ℕ) (changes new : List Change) (change : Change) → new ≡ changes ++ change ∷ [] → history_of first (map call_of new) ≡ after_call (call_of change) (history_of first (map call_of changes))
history_push first changes new change e =
    ap (λ (l : List Change). history_of first (map call_of l)) e ∙ ap (λ (l : List DiskCall). history_of first l) (map-append call_of changes (change ∷ [])) ∙ after_push _ (map call_of changes) (call_of change)

pub history_write : (first : List ℕ) (changes new : List Change) (at : ℕ) (bytes : List ℕ) → (v : Vec ℕ Global) × (v.items ≡ bytes) × (new ≡ changes ++ Written at v ∷ []) → history_of first (map call_of new) ≡ after_call (Write at bytes) (history_of first (map call_of changes))
history_write first changes new at bytes kept =
    history_push first changes new (Written at kept.0) kept.2 ∙ ap (λ (b : List ℕ). after_call (Write at b) (history_of first (map call_of changes))) kept.1

pub call_succeeds : (tells : Bool) (call : DiskCall) (old new : History) → new ≡ after_call call old → Succeeds call (told tells old) (told tells new)
call_succeeds true call old new e = (new, refl, after_adds call old new e)
call_succeeds false call old new e = refl

-- what is kept of the moment goes on with a write
pub keeps_written : (old new : History) (at : ℕ) (bytes shows synced blots now_shows now_blots : List ℕ) → new ≡ after_call (Write at bytes) old → KeepsMoment old.now shows synced blots
    → now_shows ≡ overwritten shows at bytes → now_blots ≡ overwritten blots at (replicate (length bytes) 255) → KeepsMoment new.now now_shows synced now_blots
keeps_written old new at bytes shows synced blots now_shows now_blots e keeps over blot = subst (λ (h : History). KeepsMoment h.now now_shows synced now_blots) (sym e) (record {
  shows_are = over ∙ ap (λ (s : List ℕ). overwritten s at bytes) keeps.shows_are;
  synced_are = keeps.synced_are;
  blots_are = blot ∙ ap (λ (s : List ℕ). overwritten s at (replicate (length bytes) 255)) keeps.blots_are;
})

-- and with a sync
pub keeps_synced : (old new : History) (shows synced blots now_synced now_blots : List ℕ) → new ≡ after_call Sync old → KeepsMoment old.now shows synced blots
    → now_synced ≡ shows → now_blots ≡ shows → KeepsMoment new.now shows now_synced now_blots
keeps_synced old new shows synced blots now_synced now_blots e keeps same blot = subst (λ (h : History). KeepsMoment h.now shows now_synced now_blots) (sym e) (record {
  shows_are = keeps.shows_are;
  synced_are = same ∙ keeps.shows_are;
  blots_are = blot ∙ keeps.shows_are;
})
