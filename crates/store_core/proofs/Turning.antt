-- A call as a turn: what only asks, and what is written behind what was in doubt.
use Rattle.std.proofs.Common.{◌≡◌, ◌⊎◌, inl, inr, ℕ, false, List, [], length, Option, Some, None, Err, refl, sym, ◌∙◌, ap, subst}
use Rattle.std.specs.Prelude.{◌≢◌, ◌<◌, ◌^◌}
use Rattle.definitions.specs.Uses.{Used, used_nothing, read_clock}
use Rattle.record_rules.specs.Records.{Caller, Entry}
use Rattle.step_rules.specs.Calls.{Call, CallFits, is_read, long_text}
use Rattle.step_rules.specs.Answers.{Refusal, disk_fault, no_memory, Answer, refused, Reply}
use Rattle.step_rules.specs.Store.{KeyedStore}
use Rattle.step_rules.specs.Sealing.{keyed_store}
use Rattle.step_rules.specs.Step.{Draft, Drafts, Unknown, end_unknown, delete_unknown, key_unknown, alias_unknown, Shows}
use Rattle.step_rules.specs.Turn.{settled, Turn, read_turn, short_unread_turn, unsettled_turn, step_turn, undrawn_turn, uncommitted_turn, short_settled_turn}
use Rattle.record_seal.proofs.StoreSealing.{record_sealing}
use Rattle.record_log.specs.Journals.{LeavesOneOfTwo}
use Rattle.chain_index.specs.Meaning.{journal_of}
use Rattle.record_model.specs.declared.replying.Answer as model
use Rattle.record_model.specs.declared.replying.Answer.TheVariants as answers
use Rattle.record_model.specs.declared.replying.Refusal as refusing
use Rattle.record_model.specs.declared.replying.Refusal.TheVariants as refusals
use Rattle.model_words.specs.Seen.{answer_seen, refusal_seen}
use Rattle.at_edge.specs.Drawing.{EntropySeen}
use Rattle.call_drafts.specs.Drafting.{IsKeptOf, DraftsOr}
use Rattle.kept_views.specs.Keeping.{KeepsFor}
use Rattle.call_supplies.specs.Supplies.{Supplies}
use Rattle.call_supplies.proofs.Using.{nothing_used, only_read}
use Rattle.store_core.specs.Store.{StoreSeen, IsStoreOf}
use Rattle.store_core.specs.Calls.{Asks, AsksUsing, OnlyAsks}
use Rattle.store_core.specs.Writing.{Writes, stepped, undrawn, uncommitted, short, replied, WrittenFrom, WritesCall, DraftWritten, CallWritten, MayWrite}
use Rattle.store_core.proofs.Leaving.{rest_leaves, settled_leaves, then_leaves, doubt_has_entries}
use Rattle.store_core.proofs.Stepping.{unknown_written, short_written}

-- ---- what only asks

-- the reply tells this answer at whatever journal the store is of
abbrev pub Tells : StoreSeen → Reply → Answer → Type 0
Tells store reply answer = (journal doubt : List Entry) → IsStoreOf store journal doubt → reply ≡ replied journal answer

abbrev reply_with : ℕ → Answer → Reply
reply_with front answer = record { front = front; answer = answer }

pub replied_at : (journal : List Entry) (front : ℕ) (answer : Answer) → front ≡ length journal → reply_with front answer ≡ replied journal answer
replied_at journal front answer is = ap (λ (n : ℕ). reply_with n answer) is

-- what is answered is no refusal
pub no_refusal : (answer : model.Answer) (refusal : Refusal) → answer_seen answer ≡ refused refusal → ⊥
no_refusal (answers.Begun id) refusal is = absurd cc
no_refusal (answers.Stored idx) refusal is = absurd cc
no_refusal (answers.Hits found) refusal is = absurd cc
no_refusal (answers.Value value) refusal is = absurd cc
no_refusal (answers.Names found) refusal is = absurd cc
no_refusal (answers.Aliases found) refusal is = absurd cc
no_refusal (answers.Places found) refusal is = absurd cc

-- what is kept under the key, of the entries that are filed
kept_under : (store : StoreSeen) (key : List ℕ) (journal doubt : List Entry) → store.key ≡ Some key → (is : IsStoreOf store journal doubt) → IsKeptOf store.tables.kept (keyed_store record_sealing store.log.host key) (journal_of is.filed)
kept_under store key journal doubt keyed is = subst (λ (k : Option (List ℕ)). KeepsFor store.log.host k store.tables.kept (journal_of is.filed)) keyed is.tables.kept

pub shown_only : (store : StoreSeen) (call : Call) (reply : Reply) (answer : Answer)
    → ((key : List ℕ) (journal doubt : List Entry) → store.key ≡ Some key → IsStoreOf store journal doubt → Shows (keyed_store record_sealing store.log.host key) journal call answer)
    → Tells store reply answer → OnlyAsks store call reply
shown_only store call reply answer shows tells = λ key journal doubt caller keyed is.
    read_turn answer refl (shows key journal doubt keyed is) (record { journal_is = refl; doubt_is = refl; reply_is = tells journal doubt is })

pub wanting_only : (store : StoreSeen) (call : Call) (reply : Reply) → Tells store reply (refused no_memory) → OnlyAsks store call reply
wanting_only store call reply tells = λ key journal doubt caller keyed is. short_unread_turn refl (record { journal_is = refl; doubt_is = refl; reply_is = tells journal doubt is })

pub only_asks : (store : StoreSeen) (before : Supplies) (caller : Caller) (call : Call) (reply : Reply) → OnlyAsks store call reply → AsksUsing store store before before caller call reply
only_asks store before caller call reply only =
    (used_nothing, nothing_used before, λ key journal doubt keyed is. (journal, doubt, is, only key journal doubt caller keyed is, rest_leaves store.log journal doubt journal doubt))

-- ---- what is written

turn_of : (store : KeyedStore) (journal doubt : List Entry) (caller : Caller) (call : Call) (used : Used) (after doubt_after : List Entry) (reply : Reply) → is_read call ≡ false
    → Writes store (settled journal doubt) caller call used after doubt_after reply → Turn store journal doubt caller call used after doubt_after reply
turn_of store journal doubt caller call used after doubt_after reply asks (stepped made answer step leaves) = step_turn made answer asks step leaves
turn_of store journal doubt caller call used after doubt_after reply asks (undrawn now draft ready used_is leaves) = undrawn_turn now draft ready used_is leaves
turn_of store journal doubt caller call used after doubt_after reply asks (uncommitted batch left answer well step which leaves) = uncommitted_turn batch left answer asks well step which leaves
turn_of store journal doubt caller call used after doubt_after reply asks (short used_is leaves) = short_settled_turn asks used_is leaves

-- ---- what is drafted

pub some_key : (key : Option (List ℕ)) → key ≢ None → (k : List ℕ) × (key ≡ Some k)
some_key None some = absurd (some refl)
some_key (Some k) some = (k, refl)

-- what is kept of the journal, under the key
pub kept_of : (store : StoreSeen) (key : List ℕ) (journal doubt : List Entry) → store.key ≡ Some key → IsStoreOf store journal doubt → IsKeptOf store.tables.kept (keyed_store record_sealing store.log.host key) journal
kept_of store key journal doubt keyed is = subst (λ (j : List Entry). IsKeptOf store.tables.kept (keyed_store record_sealing store.log.host key) j) (sym is.journal_is) (kept_under store key journal doubt keyed is)

-- of whatever is kept the call drafts it
abbrev pub DraftsIt : StoreSeen → Call → Draft → Type 0
DraftsIt store call draft = (keyed : KeyedStore) (journal : List Entry) → IsKeptOf store.tables.kept keyed journal → Drafts keyed journal call draft

pub may_write : (store : StoreSeen) (journal : List Entry) (call : Call) (draft : Draft) → store.key ≢ None → IsStoreOf store journal [] → CallFits call → long_text call ≡ None → DraftsIt store call draft → MayWrite store draft
may_write store journal call draft some is fits few drafts =
    let key = some_key store.key some in record {
      key = key.0;
      journal = journal;
      call = call;
      keyed = key.1;
      is = is;
      fits = fits;
      short = few;
      drafts = drafts (keyed_store record_sealing store.log.host key.0) journal (kept_of store key.0 journal [] key.1 is);
    }

pub call_written : (old new : StoreSeen) (before after : EntropySeen) (caller : Caller) (call : Call) (draft : Draft) (now : ℕ) (answer : Answer) → CallFits call → long_text call ≡ None → DraftsIt old call draft
    → DraftWritten old new before after caller draft now answer → CallWritten old new before after caller call now answer
call_written old new before after caller call draft now answer fits few drafts written = record {
  used = written.used;
  random = written.random;
  reading = written.reading;
  writes = λ key journal keyed is. written.writes key journal call keyed is fits few (drafts (keyed_store record_sealing old.log.host key) journal (kept_of old key journal [] keyed is));
}

-- a call of which no draft was made tells what isn't there, or want of memory
undrafted : (keyed : KeyedStore) (journal : List Entry) (call : Call) (refusal : refusing.Refusal) → DraftsOr keyed journal call (Err refusal) → (refusal_seen refusal ≡ no_memory) ⊎ Unknown keyed journal call (refusal_seen refusal)
undrafted keyed journal call (refusals.TooLong field length) is = inr is
undrafted keyed journal call (refusals.UnknownId id) is = inr is
undrafted keyed journal call (refusals.UnknownName name) is = inr is
undrafted keyed journal call (refusals.Full what held) is = inr is
undrafted keyed journal call refusals.RandFault is = inr is
undrafted keyed journal call (refusals.IdTaken id) is = inr is
undrafted keyed journal call refusals.DiskFault is = inr is
undrafted keyed journal call refusals.NoMemory is = inl refl

abbrev pub DraftsNone : StoreSeen → Call → refusing.Refusal → Type 0
DraftsNone store call refusal = (keyed : KeyedStore) (journal : List Entry) → IsKeptOf store.tables.kept keyed journal → DraftsOr keyed journal call (Err refusal)

pub undrafted_written : (store : StoreSeen) (rand : EntropySeen) (caller : Caller) (call : Call) (now : ℕ) (refusal : refusing.Refusal) → now < 2 ^ 64 → long_text call ≡ None → DraftsNone store call refusal
    → CallWritten store store rand rand caller call now (refused (refusal_seen refusal))
undrafted_written store rand caller call now refusal below few none = record {
  used = read_clock now;
  random = only_read rand now below;
  reading = refl;
  writes = λ key journal keyed is. by key journal is (undrafted (keyed_store record_sealing store.log.host key) journal call refusal (none (keyed_store record_sealing store.log.host key) journal (kept_of store key journal [] keyed is)));
}
  where
    by : (key : List ℕ) (journal : List Entry) → IsStoreOf store journal [] → (refusal_seen refusal ≡ no_memory) ⊎ Unknown (keyed_store record_sealing store.log.host key) journal call (refusal_seen refusal)
        → WrittenFrom store store key journal caller call (read_clock now) (refused (refusal_seen refusal))
    by key journal is (inl wanting) = subst (λ (r : Refusal). WrittenFrom store store key journal caller call (read_clock now) (refused r)) (sym wanting) (short_written store store key journal caller call is refl now)
    by key journal is (inr unknown) = unknown_written store store key journal caller call is refl now (refusal_seen refusal) few unknown

-- no disk failed
no_fault : (keyed : KeyedStore) (journal : List Entry) (call : Call) (refusal : Refusal) → Unknown keyed journal call refusal → refusal ≡ disk_fault → ⊥
no_fault keyed journal call refusal (end_unknown _ _ _ _ _ _ is) fault = absurd cc
no_fault keyed journal call refusal (delete_unknown _ _ _ is) fault = absurd cc
no_fault keyed journal call refusal (key_unknown _ _ _ _ is) fault = absurd cc
no_fault keyed journal call refusal (alias_unknown _ _ _ is) fault = absurd cc

pub undrafted_told : (store : StoreSeen) (journal : List Entry) (call : Call) (refusal : refusing.Refusal) → store.key ≢ None → IsStoreOf store journal [] → DraftsNone store call refusal → refused (refusal_seen refusal) ≡ refused disk_fault → ⊥
undrafted_told store journal call refusal some is none told =
    let key = some_key store.key some in
    let keyed : KeyedStore = keyed_store record_sealing store.log.host key.0 in
    by keyed (undrafted keyed journal call refusal (none keyed journal (kept_of store key.0 journal [] key.1 is)))
  where
    fault : refusal_seen refusal ≡ disk_fault
    fault = cc told

    by : (keyed : KeyedStore) → (refusal_seen refusal ≡ no_memory) ⊎ Unknown keyed journal call (refusal_seen refusal) → ⊥
    by keyed (inl wanting) = absurd (let is : no_memory ≡ disk_fault = sym wanting ∙ fault in cc)
    by keyed (inr unknown) = no_fault keyed journal call (refusal_seen refusal) unknown fault

-- ---- turns

module _ (old new : StoreSeen) (caller : Caller) (call : Call) (reply : Reply) (asks : is_read call ≡ false) where
  -- settling failed
  pub unsettled_asks : (now : ℕ) → ((journal doubt : List Entry) → IsStoreOf old journal doubt → IsStoreOf new journal doubt × (old.doubt ≢ None) × LeavesOneOfTwo journal doubt old.log new.log)
      → Tells new reply (refused disk_fault) → Asks old new caller call (read_clock now) reply
  unsettled_asks now fails tells = λ key journal doubt keyed is.
      let failed = fails journal doubt is in
      (journal, doubt, failed.0, unsettled_turn now asks (doubt_has_entries old journal doubt is failed.1) refl (record { journal_is = refl; doubt_is = refl; reply_is = tells journal doubt failed.0 }), settled_leaves old.log new.log journal doubt journal doubt failed.2)

  -- what was in doubt is settled, and the call was written from there
  pub settled_asks : (mid : StoreSeen) (used : Used) (answer : Answer) → mid.key ≡ old.key → mid.log.host ≡ old.log.host
      → ((journal doubt : List Entry) → IsStoreOf old journal doubt → IsStoreOf mid (settled journal doubt) [] × LeavesOneOfTwo journal doubt old.log mid.log)
      → WritesCall mid new caller call used answer → Tells new reply answer → Asks old new caller call used reply
  settled_asks mid used answer same_key same_host settles written tells = λ key journal doubt keyed is.
      let there = settles journal doubt is in
      let w = written key (settled journal doubt) (same_key ∙ keyed) there.0 in
      let told = subst (λ (r : Reply). Writes (keyed_store record_sealing mid.log.host key) (settled journal doubt) caller call used w.after w.doubt_after r) (sym (tells w.after w.doubt_after w.is)) w.writes in
      let writes = subst (λ (h : ℕ). Writes (keyed_store record_sealing h key) (settled journal doubt) caller call used w.after w.doubt_after reply) same_host told in
      (w.after, w.doubt_after, w.is, turn_of (keyed_store record_sealing old.log.host key) journal doubt caller call used w.after w.doubt_after reply asks writes, then_leaves old.log mid.log new.log journal doubt w.after w.doubt_after same_host there.1 w.leaves)
