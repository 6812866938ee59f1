-- The steps of stores are of the kind that the laws ask for.
use Rattle.std.proofs.Common.{◌≡◌, ℕ, List, [], ◌∷◌, ◌++◌, sym, ◌∙◌}
use Rattle.std.specs.List.{AllByRecursion}
use Rattle.std.proofs.lemmas.List.{append-nil}
use Rattle.definitions.specs.Uses.{Used}
use Rattle.record_rules.specs.Records.{Caller, Entry}
use Rattle.record_rules.specs.Journal.{Sound}
use Rattle.step_rules.specs.Calls.{Call}
use Rattle.step_rules.specs.Answers.{Answer}
use Rattle.step_rules.specs.Store.{KeyedStore, SealsWell}
use Rattle.step_rules.specs.Step.{Draft, start_draft, record_draft, draft_event, Step, long_step, unknown_step, full_step, taken_step, append_step, read_step}
use Rattle.step_rules.proofs.Steps.{Step-sound}
use Rattle.world_rules.specs.World.{World, WorldEvent, HostsDiffer, IsMade, MakesOwn, Reach}
use Rattle.world_rules.specs.Stores.{StoreAsked, at_host, store_step}
use Rattle.world_rules.proofs.Kept.{Holds, reached_holds}

-- what stands behind the journal was made at the store
record Made (journal after : List Entry) : Type 0 where
  batch : List Entry
  behind : after ≡ journal ++ batch
  made : AllByRecursion (λ (entry : Entry). IsMade entry.event) batch

nothing_made : (journal after : List Entry) → after ≡ journal → Made journal after
nothing_made journal after stays = record { batch = []; behind = stays ∙ sym (append-nil journal); made = tt }

draft_is_made : (store : KeyedStore) (journal : List Entry) (draft : Draft) (now : ℕ) (drawn : List ℕ) → IsMade (draft_event store journal draft now drawn)
draft_is_made store journal (start_draft command cwd session hostname) now drawn = tt
draft_is_made store journal (record_draft closes payload) now drawn = tt

step_made : (store : KeyedStore) (journal : List Entry) (caller : Caller) (call : Call) (used : Used) (after : List Entry) (answer : Answer) → Step store journal caller call used after answer → Made journal after
step_made store journal caller call used after answer (long_step now long used_is is_long refuses) = nothing_made journal after refuses.stays
step_made store journal caller call used after answer (unknown_step now refusal used_is _ unknown refuses) = nothing_made journal after refuses.stays
step_made store journal caller call used after answer (full_step now draft passed used_is short drafts full refuses) = nothing_made journal after refuses.stays
step_made store journal caller call used after answer (taken_step now drawn draft used_is drew ready taken refuses) = nothing_made journal after refuses.stays
step_made store journal caller call used after answer (append_step now drawn draft used_is drew ready free after_is answer_is) = record {
  batch = record { caller = caller; event = draft_event store journal draft now drawn } ∷ [];
  behind = after_is;
  made = (draft_is_made store journal draft now drawn, tt);
}
step_made store journal caller call used after answer (read_step used_is shows stays) = nothing_made journal after stays

pub store_makes : (store : KeyedStore) → SealsWell store → MakesOwn (store_step store)
store_makes store well host journal asked after sound stepped =
    let made = step_made (at_host store host) journal asked.caller asked.call asked.used after stepped.0 stepped.2 in
    let kept : Sound after host = Step-sound (at_host store host) journal asked.caller asked.call asked.used after stepped.0 (record { weighs = well.weighs; light = well.light }) stepped.1 sound stepped.2 in
    (made.batch, record { behind = made.behind; made = made.made; sound = kept })

pub store_world_holds : (store : KeyedStore) (hosts : List ℕ) (events : List (WorldEvent StoreAsked)) (w : World) → SealsWell store → HostsDiffer hosts → Reach (store_step store) hosts events w → Holds hosts w
store_world_holds store hosts events w well apart reach = reached_holds (store_step store) (store_makes store well) hosts apart events w reach
