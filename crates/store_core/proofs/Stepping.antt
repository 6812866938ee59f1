-- What a writing call comes to, by what became of the store. Commands that start and payloads that are recorded share it.
use Rattle.std.proofs.Common.{◌≡◌, ℕ, true, false, inl, inr, List, [], ◌∷◌, ◌++◌, length, Some, None, refl, sym, subst}
use Rattle.std.proofs.lemmas.List.{append-nil}
use Rattle.definitions.specs.Uses.{Used, read_clock, read_and_drew, read_and_failed}
use Rattle.record_rules.specs.Records.{Caller, Entry, Event}
use Rattle.record_rules.specs.Journal.{PassedLimit, Sound, MayFollow}
use Rattle.record_rules.proofs.Soundness.{Sound-push}
use Rattle.step_rules.specs.Calls.{Call, CallFits, LongText, long_text}
use Rattle.step_rules.specs.Answers.{Refusal, too_long, full, random_fault, id_taken, disk_fault, no_memory, Answer, refused}
use Rattle.step_rules.specs.Store.{KeyedStore}
use Rattle.step_rules.specs.Sealing.{keyed_store}
use Rattle.step_rules.specs.Step.{Draft, start_draft, record_draft, Drafts, Unknown, draft_passes, Ready, draws, drawn_id, draft_event, is_taken, draft_answer, Step, long_step, unknown_step, full_step, taken_step, append_step}
use Rattle.step_rules.specs.Turn.{is_refusal, used_clock, used_bytes}
use Rattle.step_rules.proofs.Sealing.{keyed_store_holds}
use Rattle.step_rules.proofs.Following.{drafts_fit, draft_follows}
use Rattle.record_seal.proofs.StoreSealing.{record_sealing}
use Rattle.record_model.specs.declared.entries.Caller as callers
use Rattle.record_model.specs.declared.entries.Event as model
use Rattle.record_model.specs.Seen.{caller_seen, event_seen}
use Rattle.record_log.specs.Journals.{LogSeen, LeavesOneOfTwo, LeavesJournal}
use Rattle.store_core.specs.Store.{StoreSeen, IsStoreOf}
use Rattle.store_core.specs.Commits.{MayMake}
use Rattle.store_core.specs.Calls.{LeavesByTurn}
use Rattle.store_core.specs.Writing.{Writes, stepped, undrawn, uncommitted, short, replied, WrittenFrom}
use Rattle.store_core.proofs.Leaving.{rest_leaves, commit_leaves, doubt_leaves, loss_leaves}

-- what is appended is no refusal
answers_well : (store : KeyedStore) (journal : List Entry) (draft : Draft) (id : ℕ) → is_refusal (draft_answer store journal draft id) ≡ false
answers_well store journal (start_draft command cwd session hostname) id = refl
answers_well store journal (record_draft closes payload) id = refl

module _ (old new : StoreSeen) (key : List ℕ) (journal : List Entry) (caller : Caller) (call : Call) where
  abbrev keyed : KeyedStore
  keyed = keyed_store record_sealing old.log.host key

  -- ---- where nothing was appended

  module _ (is : IsStoreOf new journal []) (same : new.log ≡ old.log) where
    left : (used : Used) (answer : Answer) → Writes keyed journal caller call used journal [] (replied journal answer) → WrittenFrom old new key journal caller call used answer
    left used answer writes =
        record { after = journal; doubt_after = []; is = is; writes = writes; leaves = subst (λ (log : LogSeen). LeavesByTurn old.log log journal [] journal []) (sym same) (rest_leaves old.log journal [] journal []) }

    refuses : (used : Used) (refusal : Refusal) → Step keyed journal caller call used journal (refused refusal) → WrittenFrom old new key journal caller call used (refused refusal)
    refuses used refusal step = left used (refused refusal) (stepped journal (refused refusal) step (record { journal_is = refl; doubt_is = refl; reply_is = refl }))

    pub long_written : (now : ℕ) (long : LongText) → long_text call ≡ Some long → WrittenFrom old new key journal caller call (read_clock now) (refused (too_long long.field long.length))
    long_written now long is_long = refuses (read_clock now) (too_long long.field long.length) (long_step now long refl is_long (record { stays = refl; answer_is = refl }))

    pub unknown_written : (now : ℕ) (refusal : Refusal) → long_text call ≡ None → Unknown keyed journal call refusal → WrittenFrom old new key journal caller call (read_clock now) (refused refusal)
    unknown_written now refusal few unknown = refuses (read_clock now) refusal (unknown_step now refusal refl few unknown (record { stays = refl; answer_is = refl }))

    pub full_written : (now : ℕ) (draft : Draft) (passed : PassedLimit) → long_text call ≡ None → Drafts keyed journal call draft → draft_passes keyed journal draft ≡ Some passed
        → WrittenFrom old new key journal caller call (read_clock now) (refused (full passed))
    full_written now draft passed few drafts passes = refuses (read_clock now) (full passed) (full_step now draft passed refl few drafts passes (record { stays = refl; answer_is = refl }))

    pub undrawn_written : (now : ℕ) (draft : Draft) → Ready keyed journal call draft → WrittenFrom old new key journal caller call (read_and_failed now) (refused random_fault)
    undrawn_written now draft ready = left (read_and_failed now) (refused random_fault) (undrawn now draft ready refl (record { journal_is = refl; doubt_is = refl; reply_is = refl }))

    -- memory was wanting before the draw, and behind it
    pub short_written : (now : ℕ) → WrittenFrom old new key journal caller call (read_clock now) (refused no_memory)
    short_written now = left (read_clock now) (refused no_memory) (short (used_clock now refl) (record { journal_is = refl; doubt_is = refl; reply_is = refl }))

    pub short_drawn_written : (now : ℕ) (draft : Draft) (drawn : List ℕ) → length drawn ≡ draws draft → Ready keyed journal call draft → WrittenFrom old new key journal caller call (read_and_drew now drawn) (refused no_memory)
    short_drawn_written now draft drawn many ready = left (read_and_drew now drawn) (refused no_memory) (short (used_bytes now draft drawn ready many refl) (record { journal_is = refl; doubt_is = refl; reply_is = refl }))

    pub taken_written : (now : ℕ) (draft : Draft) (drawn : List ℕ) → length drawn ≡ draws draft → Ready keyed journal call draft → is_taken journal draft (drawn_id now drawn) ≡ true
        → WrittenFrom old new key journal caller call (read_and_drew now drawn) (refused (id_taken (drawn_id now drawn)))
    taken_written now draft drawn many ready taken =
        refuses (read_and_drew now drawn) (id_taken (drawn_id now drawn)) (taken_step now drawn draft refl many ready taken (record { stays = refl; answer_is = refl }))

  -- ---- where an entry was to be appended

  module _ (now : ℕ) (draft : Draft) (drawn : List ℕ) (many : length drawn ≡ draws draft) (ready : Ready keyed journal call draft) (free : is_taken journal draft (drawn_id now drawn) ≡ false) where
    abbrev drafted : Event
    drafted = draft_event keyed journal draft now drawn

    abbrev made : List Entry
    made = record { caller = caller; event = drafted } ∷ []

    appends : Step keyed journal caller call (read_and_drew now drawn) (journal ++ made) (draft_answer keyed journal draft (drawn_id now drawn))
    appends = append_step now drawn draft refl many ready free refl refl

    -- the journal is sound with it
    pub may_follow : CallFits call → Sound journal old.log.host → MayFollow journal old.log.host drafted
    may_follow fits sound =
        draft_follows keyed journal call draft now drawn (keyed_store_holds record_sealing old.log.host key).seals_well many (drafts_fit keyed journal old.log.host call draft fits sound ready.short ready.drafts) ready.room free

    pub appended_written : IsStoreOf new (journal ++ made) [] → LeavesOneOfTwo journal made old.log new.log → WrittenFrom old new key journal caller call (read_and_drew now drawn) (draft_answer keyed journal draft (drawn_id now drawn))
    appended_written is leaves = record {
      after = journal ++ made;
      doubt_after = [];
      is = is;
      writes = stepped (journal ++ made) (draft_answer keyed journal draft (drawn_id now drawn)) appends (record { journal_is = refl; doubt_is = refl; reply_is = refl });
      leaves = commit_leaves old.log new.log journal made leaves;
    }

    pub lost_written : IsStoreOf new journal [] → LeavesJournal journal old.log new.log → WrittenFrom old new key journal caller call (read_and_drew now drawn) (refused disk_fault)
    lost_written is leaves = record {
      after = journal;
      doubt_after = [];
      is = is;
      writes = uncommitted made [] (draft_answer keyed journal draft (drawn_id now drawn)) (answers_well keyed journal draft (drawn_id now drawn)) appends (inl refl) (record { journal_is = refl; doubt_is = refl; reply_is = refl });
      leaves = loss_leaves old.log new.log journal leaves;
    }

    pub doubted_written : IsStoreOf new journal made → LeavesOneOfTwo journal made old.log new.log → WrittenFrom old new key journal caller call (read_and_drew now drawn) (refused disk_fault)
    doubted_written is leaves = record {
      after = journal;
      doubt_after = made;
      is = is;
      writes = uncommitted made made (draft_answer keyed journal draft (drawn_id now drawn)) (answers_well keyed journal draft (drawn_id now drawn)) appends (inr refl) (record { journal_is = refl; doubt_is = refl; reply_is = refl });
      leaves = doubt_leaves old.log new.log journal made [] leaves;
    }

-- ---- a journal that may be made longer

-- a journal of a store with nothing in doubt is sound
pub sound_alone : (store : StoreSeen) (journal : List Entry) → IsStoreOf store journal [] → Sound journal store.log.host
sound_alone store journal is = subst (λ (j : List Entry). Sound j store.log.host) (append-nil journal) is.sound

pub may_make_one : (store : StoreSeen) (journal : List Entry) (caller : callers.Caller) (event : model.Event) → IsStoreOf store journal [] → MayFollow journal store.log.host (event_seen event) → MayMake store journal caller (event ∷ [])
may_make_one store journal caller event is follows = (is, Sound-push journal (record { caller = caller_seen caller; event = event_seen event }) store.log.host (sound_alone store journal is) follows)
