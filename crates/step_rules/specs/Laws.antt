-- The laws of steps and turns, as statements. Each is the contract of the function of its name.
use Rattle.std.specs.Prelude.{◌≡◌, ℕ, ◌≤◌, List, ◌++◌, length, All, true, false, ◌⊎◌}
use Rattle.definitions.specs.Uses.{Used, used_nothing, read_clock, read_and_drew}
use Rattle.record_rules.specs.Records.{SealedRecord, Caller, Entry}
use Rattle.record_rules.specs.Journal.{chain, IsNumbered, Sound}
use Rattle.view_rules.specs.Changes.{OpensByTag}
use Rattle.step_rules.specs.Calls.{Call, CallFits, is_read}
use Rattle.step_rules.specs.Answers.{Refusal, Answer, refused, Reply}
use Rattle.step_rules.specs.Store.{KeyedStore, SealsWell, HasCommand, HasValue, HasAlias}
use Rattle.step_rules.specs.Sealing.{Sealing, KeyedStoreHolds}
use Rattle.step_rules.specs.Step.{Shows, Step}
use Rattle.step_rules.specs.Turn.{settled, Turn}
use Rattle.step_rules.specs.PageTurns.{PageAnswer, PageTurn}
use Rattle.step_rules.specs.ReadTurns.{StoreRead, ReadAnswer, ReadTurn}

-- what contracts cite of the store under a key, whatever seals and opens
abbrev pub KeyedStoresHold : Type 0
KeyedStoresHold = (sealing : Sealing) (host : ℕ) (key : List ℕ) → KeyedStoreHolds sealing host key

-- a step from a sound journal leaves a sound journal
abbrev pub StepKeepsSound : Type 0
StepKeepsSound = (store : KeyedStore) (journal : List Entry) (caller : Caller) (call : Call) (used : Used) (after : List Entry) (answer : Answer) → SealsWell store → CallFits call → Sound journal store.host → Step store journal caller call used after answer → Sound after store.host

-- so each chain stays numbered from 0 without gaps
abbrev pub StepNumbersChains : Type 0
StepNumbersChains = (store : KeyedStore) (journal : List Entry) (caller : Caller) (call : Call) (used : Used) (after : List Entry) (answer : Answer) → SealsWell store → CallFits call → Sound journal store.host → Step store journal caller call used after answer → (owner host : ℕ) (tag : List ℕ) → IsNumbered (chain after owner host tag)

-- behind the journal stands at most one entry more, of this caller
abbrev pub StepAddsOne : Type 0
StepAddsOne = (store : KeyedStore) (journal : List Entry) (caller : Caller) (call : Call) (used : Used) (after : List Entry) (answer : Answer) → Step store journal caller call used after answer → (added : List Entry) × (after ≡ journal ++ added) × (length added ≤ 1) × All (λ entry. entry.caller ≡ caller) added

-- a refusal leaves the journal, and so does a read
abbrev pub RefusalLeaves : Type 0
RefusalLeaves = (store : KeyedStore) (journal : List Entry) (caller : Caller) (call : Call) (used : Used) (after : List Entry) (refusal : Refusal) → Step store journal caller call used after (refused refusal) → after ≡ journal

abbrev pub ReadLeaves : Type 0
ReadLeaves = (store : KeyedStore) (journal : List Entry) (caller : Caller) (call : Call) (used : Used) (after : List Entry) (answer : Answer) → is_read call ≡ true → Step store journal caller call used after answer → after ≡ journal

-- of each id, pair and name it is told whether it is shown, and whatever is asked has an answer
pub record ViewsAnswer (store : KeyedStore) (journal : List Entry) : Type 0 where
  pub command : (id : ℕ) → HasCommand store journal id ⊎ (HasCommand store journal id → ⊥)
  pub value : (namespace key : List ℕ) → HasValue store journal namespace key ⊎ (HasValue store journal namespace key → ⊥)
  pub name : (name : List ℕ) → HasAlias store journal name ⊎ (HasAlias store journal name → ⊥)
  pub reads : (call : Call) → is_read call ≡ true → (answer : Answer) × Shows store journal call answer

-- what a call may have used where the clock says this and these bytes are there to be drawn: a start takes the ten, a record all
-- of the 106
pub data UsesOf (now : ℕ) (ten all : List ℕ) (used : Used) : Type 0 where
  uses_nothing : used ≡ used_nothing → UsesOf now ten all used
  uses_clock : used ≡ read_clock now → UsesOf now ten all used
  uses_ten : used ≡ read_and_drew now ten → UsesOf now ten all used
  uses_all : used ≡ read_and_drew now all → UsesOf now ten all used

-- where the views have answers, every call has an outcome that uses of these, whatever the clock says and whichever bytes are drawn
abbrev pub StepHasOutcome : Type 0
StepHasOutcome = (store : KeyedStore) (journal : List Entry) (caller : Caller) (call : Call) (now : ℕ) (ten all : List ℕ) → ViewsAnswer store journal → length ten ≡ 10 → length all ≡ 106 → (used : Used) × (after : List Entry) × (answer : Answer) × UsesOf now ten all used × Step store journal caller call used after answer

-- a writing call has one outcome, given what it used
abbrev pub WriteHasOneOutcome : Type 0
WriteHasOneOutcome = (store : KeyedStore) (journal : List Entry) (caller : Caller) (call : Call) (used : Used) (one other : List Entry) (a b : Answer) → is_read call ≡ false → Step store journal caller call used one a → Step store journal caller call used other b → (one ≡ other) × (a ≡ b)

-- at a sound journal, where records open by their tag, so has every call
abbrev pub StepHasOneOutcome : Type 0
StepHasOneOutcome = (store : KeyedStore) (journal : List Entry) (caller : Caller) (call : Call) (used : Used) (one other : List Entry) (a b : Answer) → OpensByTag store.opens → Sound journal store.host → Step store journal caller call used one a → Step store journal caller call used other b → (one ≡ other) × (a ≡ b)

-- a turn leaves a sound journal, which is sound with the commit in doubt too, if that is so before
abbrev pub TurnKeepsSound : Type 0
TurnKeepsSound = (store : KeyedStore) (journal doubt : List Entry) (caller : Caller) (call : Call) (used : Used) (after doubt_after : List Entry) (reply : Reply) → SealsWell store → CallFits call → Sound journal store.host → Sound (settled journal doubt) store.host → Turn store journal doubt caller call used after doubt_after reply → Sound after store.host × Sound (settled after doubt_after) store.host

-- a turn's reply tells the length of the journal that it leaves
abbrev pub TurnTellsFront : Type 0
TurnTellsFront = (store : KeyedStore) (journal doubt : List Entry) (caller : Caller) (call : Call) (used : Used) (after doubt_after : List Entry) (reply : Reply) → Turn store journal doubt caller call used after doubt_after reply → reply.front ≡ length after

-- a turn only adds
abbrev pub TurnOnlyAdds : Type 0
TurnOnlyAdds = (store : KeyedStore) (journal doubt : List Entry) (caller : Caller) (call : Call) (used : Used) (after doubt_after : List Entry) (reply : Reply) → Turn store journal doubt caller call used after doubt_after reply → (added : List Entry) × (after ≡ journal ++ added)

-- A turn of a call that only asks uses nothing, and leaves the journal and what is in doubt.
abbrev pub ReadCallStays : Type 0
ReadCallStays = (store : KeyedStore) (journal doubt : List Entry) (caller : Caller) (call : Call) (used : Used) (after doubt_after : List Entry) (reply : Reply) → is_read call ≡ true → Turn store journal doubt caller call used after doubt_after reply → (used ≡ used_nothing) × (after ≡ journal) × (doubt_after ≡ doubt)

-- the laws of turns hold of a turn with a page
abbrev pub PageTurnKeepsSound : Type 0
PageTurnKeepsSound = (journal doubt : List Entry) (caller : Caller) (owner : ℕ) (records : List SealedRecord) (after doubt_after : List Entry) (answer : PageAnswer) (host : ℕ) → Sound journal host → Sound (settled journal doubt) host → PageTurn journal doubt caller owner records after doubt_after answer → Sound after host × Sound (settled after doubt_after) host

abbrev pub PageTurnOnlyAdds : Type 0
PageTurnOnlyAdds = (journal doubt : List Entry) (caller : Caller) (owner : ℕ) (records : List SealedRecord) (after doubt_after : List Entry) (answer : PageAnswer) → PageTurn journal doubt caller owner records after doubt_after answer → (added : List Entry) × (after ≡ journal ++ added)

-- a turn with a read leaves the journal, and what is in doubt
abbrev pub ReadTurnLeaves : Type 0
ReadTurnLeaves = (journal doubt : List Entry) (read : StoreRead) (after doubt_after : List Entry) (answer : ReadAnswer) → ReadTurn journal doubt read after doubt_after answer → (after ≡ journal) × (doubt_after ≡ doubt)
