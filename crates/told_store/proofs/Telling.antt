-- What a call makes of a store's note.
use Rattle.std.proofs.Common.{◌≡◌, ℕ, ◌≤◌, true, List, [], ◌∷◌, ◌++◌, length, Option, Some, None, refl, sym, ap, ◌∙◌, subst}
use Rattle.std.specs.Prelude.{◌≢◌, IfSome}
use Rattle.std.specs.Option.{unwrap_or}
use Rattle.definitions.specs.Counts.{Rose}
use Rattle.definitions.specs.Uses.{Used}
use Rattle.record_rules.specs.Records.{Caller, Entry}
use Rattle.record_rules.specs.Journal.{Sound}
use Rattle.record_rules.proofs.Prefixes.{Sound-prefix}
use Rattle.step_rules.specs.Calls.{Call, CallFits}
use Rattle.step_rules.specs.Answers as answers
use Rattle.step_rules.specs.Answers.{Answer, Refusal, Reply, refused, disk_fault, no_memory, random_fault}
use Rattle.step_rules.specs.Store.{KeyedStore}
use Rattle.step_rules.specs.Sealing.{keyed_store, TextsWithinRecords}
use Rattle.step_rules.specs.Step.{read_step}
use Rattle.step_rules.specs.Turn.{settled, Turn, TurnLeaves, read_turn, short_unread_turn, unsettled_turn, step_turn, undrawn_turn, uncommitted_turn, short_turn, short_settled_turn}
use Rattle.step_rules.proofs.Sealing.{keyed_store_holds}
use Rattle.session_rules.specs.Sessions.{to_call}
use Rattle.session_rules.specs.Passes.{tells_disk_fault}
use Rattle.session_rules.specs.Stores.{StoreState}
use Rattle.session_rules.specs.Turns.{answers_call}
use Rattle.session_rules.specs.Within.{ShowsWithin}
use Rattle.session_rules.proofs.Shown.{step_within}
use Rattle.record_seal.proofs.StoreSealing.{record_sealing}
use Rattle.call_supplies.specs.Supplies.{Supplies}
use Rattle.state_notes.specs.Notes.{StoreNote}
use Rattle.log_rules.specs.Log.{current_form}
use Rattle.disk_rules.specs.Disk.{Disk}
use Rattle.disk_rules.specs.History.{History}
use Rattle.at_edge.specs.Storing.{Tells}
use Rattle.record_log.specs.Journals.{LogSeen, HoldsAt, DoubtsAt}
use Rattle.store_tables.specs.declared.tables.Tables.{Tables}
use Rattle.store_tables.specs.declared.tables.Batch.{Batch}
use Rattle.store_core.specs.Store.{StoreSeen, IsStoreOf, entries_of, doubted, LogMeans, HasRoomForDoubt}
use Rattle.store_core.specs.Calls.{AsksUsing}
use Rattle.told_store.proofs.Leaving.{turn_leaves}
use Rattle.told_store.specs.Told.{IsTold, IsFirst, HasRested, CallTold, keyed_by, turn_between, HoldsEntries, DoubtsEntries}

-- the note of a store that is of this journal, with no turn so far
pub first_note : (store : StoreSeen) → ((journal : List Entry) × (doubt : List Entry) × IsStoreOf store journal doubt) → (note : StoreNote) × IsFirst store note
first_note store is = (record { state = record { entries = is.0; doubt = is.1; faults = store.log.disk.faults }; turns = [] }, record { told = record { is = is.2; counted = refl }; none = refl })

-- and after a turn in which nothing is asked
pub rested_note : (before : StoreNote) → (note : StoreNote) × HasRested before note
rested_note before = (record { state = before.state; turns = before.turns ++ turn_between before.state before.state ∷ [] }, record { stays = refl; turn = refl })

pub rested_told : (store : StoreSeen) (before note : StoreNote) → IsTold store before → HasRested before note → IsTold store note
rested_told store before note told rests = record {
  is = subst (λ (s : StoreState). IsStoreOf store s.entries s.doubt) (sym rests.stays) told.is;
  counted = ap (λ (s : StoreState). s.faults) rests.stays ∙ told.counted;
}

-- ---- a turn's reply

module _ (store : KeyedStore) (journal doubt : List Entry) (caller : Caller) (call : Call) (used : Used) (after doubt_after : List Entry) (reply : Reply) where
  front_of : (made doubt_made : List Entry) (answer : Answer) → TurnLeaves made doubt_made after doubt_after reply answer → reply.front ≡ length after
  front_of made doubt_made answer leaves = ap (λ (r : Reply). r.front) leaves.reply_is

  -- it tells the front that the turn leaves
  front_told : Turn store journal doubt caller call used after doubt_after reply → reply.front ≡ length after
  front_told (read_turn answer _ _ leaves) = front_of journal doubt answer leaves
  front_told (short_unread_turn _ leaves) = front_of journal doubt (refused no_memory) leaves
  front_told (unsettled_turn _ _ _ _ leaves) = front_of journal doubt (refused disk_fault) leaves
  front_told (step_turn made answer _ _ leaves) = front_of made [] answer leaves
  front_told (undrawn_turn _ _ _ _ leaves) = front_of (settled journal doubt) [] (refused random_fault) leaves
  front_told (uncommitted_turn _ left _ _ _ _ _ leaves) = front_of (settled journal doubt) left (refused disk_fault) leaves
  front_told (short_turn _ _ _ leaves) = front_of journal doubt (refused no_memory) leaves
  front_told (short_settled_turn _ _ leaves) = front_of (settled journal doubt) [] (refused no_memory) leaves

  within_of : (made doubt_made : List Entry) (answer : Answer) → TurnLeaves made doubt_made after doubt_after reply answer → ShowsWithin answer → ShowsWithin reply.answer
  within_of made doubt_made answer leaves within = subst (λ (r : Reply). ShowsWithin r.answer) (sym leaves.reply_is) within

  -- and shows as little as a reply may
  turn_within : TextsWithinRecords store → CallFits call → Sound after store.host → Turn store journal doubt caller call used after doubt_after reply → ShowsWithin reply.answer
  turn_within weighs fits sound (read_turn answer is_used shows leaves) =
      within_of journal doubt answer leaves (step_within store journal caller call used journal answer weighs fits (subst (λ (j : List Entry). Sound j store.host) leaves.journal_is sound) (read_step is_used shows refl))
  turn_within weighs fits sound (short_unread_turn _ leaves) = within_of journal doubt (refused no_memory) leaves tt
  turn_within weighs fits sound (unsettled_turn _ _ _ _ leaves) = within_of journal doubt (refused disk_fault) leaves tt
  turn_within weighs fits sound (step_turn made answer _ step leaves) =
      within_of made [] answer leaves (step_within store (settled journal doubt) caller call used made answer weighs fits (subst (λ (j : List Entry). Sound j store.host) leaves.journal_is sound) step)
  turn_within weighs fits sound (undrawn_turn _ _ _ _ leaves) = within_of (settled journal doubt) [] (refused random_fault) leaves tt
  turn_within weighs fits sound (uncommitted_turn _ left _ _ _ _ _ leaves) = within_of (settled journal doubt) left (refused disk_fault) leaves tt
  turn_within weighs fits sound (short_turn _ _ _ leaves) = within_of journal doubt (refused no_memory) leaves tt
  turn_within weighs fits sound (short_settled_turn _ _ leaves) = within_of (settled journal doubt) [] (refused no_memory) leaves tt

-- a fault of the disk is told by its refusal alone
refusal_told : (refusal : Refusal) → tells_disk_fault (to_call (refused refusal)) ≡ true → refusal ≡ disk_fault
refusal_told (answers.too_long field length) e = absurd cc
refusal_told (answers.unknown_id id) e = absurd cc
refusal_told (answers.unknown_name name) e = absurd cc
refusal_told (answers.full passed) e = absurd cc
refusal_told answers.random_fault e = absurd cc
refusal_told (answers.id_taken id) e = absurd cc
refusal_told answers.disk_fault e = refl
refusal_told answers.no_memory e = absurd cc
refusal_told (answers.bad_request place) e = absurd cc

fault_told : (answer : Answer) → tells_disk_fault (to_call answer) ≡ true → answer ≡ refused disk_fault
fault_told (answers.began id) e = absurd cc
fault_told (answers.stored idx) e = absurd cc
fault_told (answers.hits found) e = absurd cc
fault_told (answers.value_is value) e = absurd cc
fault_told (answers.keys found) e = absurd cc
fault_told (answers.aliases found) e = absurd cc
fault_told (answers.places found) e = absurd cc
fault_told (answers.refused refusal) e = ap refused (refusal_told refusal e)

-- ---- a call

-- the key that is there
key_there : (key : Option (List ℕ)) → key ≢ None → (k : List ℕ) × (key ≡ Some k)
key_there None none = absurd (none refl)
key_there (Some k) some = (k, refl)

pub call_note : (was : StoreSeen) (before : StoreNote) (store : StoreSeen) (supplied supplies : Supplies) (caller : Caller) (call : Call) (reply : Reply)
    → was.key ≢ None → CallFits call → IsTold was before → AsksUsing was store supplied supplies caller call reply
    → (reply.answer ≡ refused disk_fault → Rose was.log.disk.faults store.log.disk.faults) → was.log.disk.faults ≤ store.log.disk.faults → store.log.host ≡ was.log.host
    → (note : StoreNote) × CallTold was before store note supplied supplies caller call reply
call_note was before store supplied supplies caller call reply keyed fits told asks faulted kept host =
    let key = key_there was.key keyed in
    let used = asks.0 in
    let turned = asks.2 key.0 before.state.entries before.state.doubt key.1 told.is in
    let after = turned.0 in
    let doubt_after = turned.1 in
    let same : unwrap_or was.key [] ≡ key.0 = ap (λ (o : Option (List ℕ)). unwrap_or o []) key.1 in
    let turn = subst (λ (k : List ℕ). Turn (keyed_store record_sealing was.log.host k) before.state.entries before.state.doubt caller call used after doubt_after reply) (sym same) turned.3 in
    let sound : Sound after was.log.host = Sound-prefix after doubt_after was.log.host (subst (Sound (after ++ doubt_after)) host turned.2.sound) in
    let state : StoreState = record { entries = after; doubt = doubt_after; faults = store.log.disk.faults } in
    let weighs : TextsWithinRecords (keyed_by was) = (keyed_store_holds record_sealing was.log.host (unwrap_or was.key [])).texts in (
      record { state = state; turns = before.turns ++ turn_between before.state state ∷ [] },
      record {
        told = record { is = turned.2; counted = refl };
        used = used;
        uses = asks.1;
        turn = record {
          answers = answers_call call reply refl turn refl;
          counted = subst (λ (n : ℕ). n ≤ store.log.disk.faults) (sym told.counted) kept;
          told = λ e. subst (λ (n : ℕ). Rose n store.log.disk.faults) (sym told.counted) (faulted (fault_told reply.answer e));
        };
        front = front_told (keyed_by was) before.state.entries before.state.doubt caller call used after doubt_after reply turn;
        within = turn_within (keyed_by was) before.state.entries before.state.doubt caller call used after doubt_after reply weighs fits sound turn;
        added = refl;
        leaves = turn_leaves was.log store before.state state turned.4 turned.2 host;
      },
    )

-- the same of what was noted before the call
pub call_note_of : (noted was : StoreSeen) (before : StoreNote) (store : StoreSeen) (supplied_noted supplied supplies : Supplies) (caller : Caller) (call : Call) (reply : Reply) → noted ≡ was → supplied_noted ≡ supplied
    → was.key ≢ None → CallFits call → IsTold was before → AsksUsing was store supplied supplies caller call reply
    → (reply.answer ≡ refused disk_fault → Rose was.log.disk.faults store.log.disk.faults) → was.log.disk.faults ≤ store.log.disk.faults → store.log.host ≡ was.log.host
    → (note : StoreNote) × CallTold noted before store note supplied_noted supplies caller call reply
call_note_of noted was before store supplied_noted supplied supplies caller call reply here supplied_here keyed fits told asks faulted kept host =
    let made = call_note was before store supplied supplies caller call reply keyed fits told asks faulted kept host in
    (made.0, subst (λ (s : StoreSeen). CallTold s before store made.0 supplied_noted supplies caller call reply) (sym here) (subst (λ (s : Supplies). CallTold was before store made.0 s supplies caller call reply) (sym supplied_here) made.1))

-- ---- the disk

tells_more : (P Q : Disk → Type 0) (history : Option History) → ((disk : Disk) → P disk → Q disk) → IfSome history (λ h. P h.now) → IfSome history (λ h. Q h.now)
tells_more P Q None more told = tt
tells_more P Q (Some h) more told = more h.now told

module _ (log : LogSeen) (key : Option (List ℕ)) (tables : Tables) (entries : List Entry) where
  holds_by : (batch : Option Batch) (doubt : List Entry) → doubt ≡ doubted batch → LogMeans log entries batch → HasRoomForDoubt key tables batch → doubt ≡ [] → Tells log.disk (HoldsEntries log.host entries)
  holds_by None doubt is means room none = tells_more (HoldsAt current_form log.gate log.host entries) (HoldsEntries log.host entries) log.disk.history (λ disk held. (log.gate, held)) means.holds
  holds_by (Some batch) doubt is means room none = absurd (room.0 (sym is ∙ none))

  doubts_by : (batch : Option Batch) (doubt : List Entry) → doubt ≡ doubted batch → LogMeans log entries batch → doubt ≢ [] → Tells log.disk (DoubtsEntries log.host entries doubt)
  doubts_by None doubt is means some = absurd (some is)
  doubts_by (Some batch) doubt is means some =
      subst (λ (more : List Entry). Tells log.disk (DoubtsEntries log.host entries more)) (sym is)
      (tells_more (DoubtsAt current_form log.gate log.host entries (entries_of batch)) (DoubtsEntries log.host entries (entries_of batch)) log.disk.history (λ disk held. (log.gate, held)) means.holds)

-- what the disk of a store holds
pub holds_entries : (store : StoreSeen) (note : StoreNote) → IsTold store note → note.state.doubt ≡ [] → Tells store.log.disk (HoldsEntries store.log.host note.state.entries)
holds_entries store note told = holds_by store.log store.key store.tables note.state.entries store.doubt note.state.doubt told.is.doubt_is told.is.log told.is.room

pub doubts_entries : (store : StoreSeen) (note : StoreNote) → IsTold store note → note.state.doubt ≢ [] → Tells store.log.disk (DoubtsEntries store.log.host note.state.entries note.state.doubt)
doubts_entries store note told = doubts_by store.log store.key store.tables note.state.entries store.doubt note.state.doubt told.is.doubt_is told.is.log
