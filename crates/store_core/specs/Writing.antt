-- What a writing call comes to from a journal with nothing in doubt.
use Rattle.std.specs.Prelude.{◌≡◌, ◌⊎◌, ℕ, List, [], ◌∷◌, ◌++◌, length, None, Some, false}
use Rattle.definitions.specs.Uses.{Used, read_and_failed}
use Rattle.record_rules.specs.Records.{Caller, Entry}
use Rattle.step_rules.specs.Calls.{Call, CallFits, long_text}
use Rattle.step_rules.specs.Answers.{random_fault, disk_fault, no_memory, Answer, refused, Reply}
use Rattle.step_rules.specs.Store.{KeyedStore}
use Rattle.step_rules.specs.Sealing.{keyed_store}
use Rattle.step_rules.specs.Step.{Draft, Drafts, Ready, Step}
use Rattle.step_rules.specs.Turn.{is_refusal, TurnLeaves, UsedBeforeFailing}
use Rattle.record_seal.proofs.StoreSealing.{record_sealing}
use Rattle.at_edge.specs.Drawing.{EntropySeen}
use Rattle.call_supplies.specs.Supplies.{UsesRandom}
use Rattle.store_core.specs.Store.{StoreSeen, IsStoreOf}
use Rattle.store_core.specs.Calls.{LeavesByTurn}

pub data Writes (store : KeyedStore) (journal : List Entry) (caller : Caller) (call : Call) (used : Used) (after doubt_after : List Entry) (reply : Reply) : Type 0 where
  -- a step, appended or refused
  stepped : (made : List Entry) (answer : Answer) → Step store journal caller call used made answer → TurnLeaves made [] after doubt_after reply answer → Writes store journal caller call used after doubt_after reply
  -- the draw failed where the step would have drawn
  undrawn : (now : ℕ) (draft : Draft) → Ready store journal call draft → used ≡ read_and_failed now → TurnLeaves journal [] after doubt_after reply (refused random_fault) → Writes store journal caller call used after doubt_after reply
  -- the commit failed: it is lost, or in doubt
  uncommitted : (batch left : List Entry) (answer : Answer) → is_refusal answer ≡ false → Step store journal caller call used (journal ++ batch) answer → (left ≡ []) ⊎ (left ≡ batch)
      → TurnLeaves journal left after doubt_after reply (refused disk_fault) → Writes store journal caller call used after doubt_after reply
  -- memory was wanting
  short : UsedBeforeFailing store journal call used → TurnLeaves journal [] after doubt_after reply (refused no_memory) → Writes store journal caller call used after doubt_after reply

-- the reply with this answer at the journal
abbrev pub replied : List Entry → Answer → Reply
replied journal answer = record { front = length journal; answer = answer }

-- From this journal, under this key, the call was written and answered so.
pub record WrittenFrom (old new : StoreSeen) (key : List ℕ) (journal : List Entry) (caller : Caller) (call : Call) (used : Used) (answer : Answer) : Type 0 where
  pub after : List Entry
  pub doubt_after : List Entry
  pub is : IsStoreOf new after doubt_after
  pub writes : Writes (keyed_store record_sealing old.log.host key) journal caller call used after doubt_after (replied after answer)
  pub leaves : LeavesByTurn old.log new.log journal [] after doubt_after

-- The draft was written for whatever call drafts it, from whatever journal the store was of.
abbrev pub WritesDraft : StoreSeen → StoreSeen → Caller → Draft → Used → Answer → Type 0
WritesDraft old new caller draft used answer = (key : List ℕ) (journal : List Entry) (call : Call) → old.key ≡ Some key → IsStoreOf old journal [] → CallFits call → long_text call ≡ None
    → Drafts (keyed_store record_sealing old.log.host key) journal call draft → WrittenFrom old new key journal caller call used answer

-- The call was written, from whatever journal the store was of.
abbrev pub WritesCall : StoreSeen → StoreSeen → Caller → Call → Used → Answer → Type 0
WritesCall old new caller call used answer = (key : List ℕ) (journal : List Entry) → old.key ≡ Some key → IsStoreOf old journal [] → WrittenFrom old new key journal caller call used answer

-- With this reading of the clock, and what was drawn behind it, the draft was written and answered so.
pub record DraftWritten (old new : StoreSeen) (before after : EntropySeen) (caller : Caller) (draft : Draft) (now : ℕ) (answer : Answer) : Type 0 where
  pub used : Used
  pub random : UsesRandom before after used
  pub reading : used.readings ≡ now ∷ []
  pub writes : WritesDraft old new caller draft used answer

-- So was the call.
pub record CallWritten (old new : StoreSeen) (before after : EntropySeen) (caller : Caller) (call : Call) (now : ℕ) (answer : Answer) : Type 0 where
  pub used : Used
  pub random : UsesRandom before after used
  pub reading : used.readings ≡ now ∷ []
  pub writes : WritesCall old new caller call used answer

-- Some call drafts it at the journal that the store is of, with nothing in doubt, under its key.
pub record MayWrite (store : StoreSeen) (draft : Draft) : Type 0 where
  pub key : List ℕ
  pub journal : List Entry
  pub call : Call
  pub keyed : store.key ≡ Some key
  pub is : IsStoreOf store journal []
  pub fits : CallFits call
  pub short : long_text call ≡ None
  pub drafts : Drafts (keyed_store record_sealing store.log.host key) journal call draft
