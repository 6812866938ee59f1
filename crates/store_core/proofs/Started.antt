-- A command that starts: each of its ways out.
use Rattle.std.proofs.Common.{◌≡◌, ℕ, inl, inr, Bool, true, false, List, [], ◌∷◌, ◌++◌, length, Option, Some, None, refl, sym, ap, subst, ◌∙◌}
use Rattle.std.specs.Option.{option_map}
use Rattle.definitions.specs.Uses.{read_clock, read_and_drew, read_and_failed}
use Rattle.record_rules.specs.Records.{Caller, Entry, started_weight}
use Rattle.record_rules.specs.Records as said
use Rattle.record_rules.specs.Journal.{events_of, own_events, held, held_of, first_limit_passed, StartedFits, MayFollow}
use Rattle.step_rules.specs.Calls.{Call, CallFits, long_text}
use Rattle.step_rules.specs.Answers.{full, random_fault, id_taken, disk_fault, no_memory, began, refused}
use Rattle.step_rules.specs.Store.{KeyedStore}
use Rattle.step_rules.specs.Sealing.{keyed_store}
use Rattle.step_rules.specs.Step.{Draft, start_draft, started_record, Drafts, Ready, drawn_id, is_taken}
use Rattle.record_seal.proofs.StoreSealing.{record_sealing}
use Rattle.record_model.specs.declared.entries.Caller as callers
use Rattle.record_model.specs.declared.entries.Event.TheVariants as events
use Rattle.record_model.specs.declared.begun.Started as model
use Rattle.record_model.specs.Seen.{caller_seen, started_seen}
use Rattle.record_log.specs.Ready.{ReadyBatch}
use Rattle.record_log.specs.Journals.{LogSeen, LeavesOneOfTwo, LeavesJournal}
use Rattle.chain_index.specs.Meaning.{Filed, journal_of, totals_seen, IsIndexOf}
use Rattle.chain_index.specs.declared.owner.Held.{Held}
use Rattle.page_growth.specs.declared.limits.PassedLimit as limits
use Rattle.page_growth.specs.Limits.{limit_seen}
use Rattle.started_commands.specs.Kept.{IsOf, was_started}
use Rattle.store_tables.specs.declared.tables.Batch.{Batch}
use Rattle.store_core.specs.Store.{StoreSeen, entry_by, entries_of, IsStoreOf}
use Rattle.store_core.specs.Commits.{MayMake, MayCommit, IsLostOrDoubted}
use Rattle.store_core.specs.Writing.{WritesDraft, WrittenFrom, MayWrite}
use Rattle.store_core.proofs.Stepping.{full_written, undrawn_written, short_drawn_written, taken_written, may_follow, appended_written, lost_written, doubted_written, sound_alone, may_make_one}
use Rattle.store_core.proofs.Turning.{kept_of}

-- what the index holds for owner 0, at whatever journal the store is of
pub held_told : (store : StoreSeen) (totals : Held) → ((filed : List Filed) → IsIndexOf store.tables.entries.index filed → totals_seen totals ≡ held (journal_of filed) 0) → (journal doubt : List Entry) → IsStoreOf store journal doubt
    → totals_seen totals ≡ held_of (own_events journal 0)
held_told store totals tells journal doubt is = tells is.filed is.tables.entries.index ∙ ap (λ (j : List Entry). held j 0) (sym is.journal_is)

module _ (old : StoreSeen) (caller : callers.Caller) (command cwd session hostname : List ℕ) (now : ℕ) where
  abbrev starting : Draft
  starting = start_draft command cwd session hostname

  abbrev keyed_by : List ℕ → KeyedStore
  keyed_by key = keyed_store record_sealing old.log.host key

  abbrev begun_with : ℕ → model.Started
  begun_with id = record { id = id; timestamp = now; command = command; cwd = cwd; session = session; hostname = hostname }

  abbrev Passes : Option limits.PassedLimit → Type 0
  Passes found = (journal doubt : List Entry) → IsStoreOf old journal doubt → option_map limit_seen found ≡ first_limit_passed journal 0 (started_weight (started_record 0 0 command cwd session hostname)) None

  pub full_start : (found : Option limits.PassedLimit) → Passes found → (passed : limits.PassedLimit) → found ≡ Some passed → WritesDraft old old (caller_seen caller) starting (read_clock now) (refused (full (limit_seen passed)))
  full_start found passes passed some = λ key journal call keyed is fits few drafts.
      full_written old old key journal (caller_seen caller) call is refl now starting (limit_seen passed) few drafts (sym (passes journal [] is) ∙ ap (option_map limit_seen) some)

  module _ (found : Option limits.PassedLimit) (passes : Passes found) (none : found ≡ None) where
    ready_for : (key : List ℕ) (journal : List Entry) (call : Call) → IsStoreOf old journal [] → long_text call ≡ None → Drafts (keyed_by key) journal call starting → Ready (keyed_by key) journal call starting
    ready_for key journal call is few drafts = record { short = few; drafts = drafts; room = sym (passes journal [] is) ∙ ap (option_map limit_seen) none }

    pub undrawn_start : WritesDraft old old (caller_seen caller) starting (read_and_failed now) (refused random_fault)
    undrawn_start = λ key journal call keyed is fits few drafts. undrawn_written old old key journal (caller_seen caller) call is refl now starting (ready_for key journal call is few drafts)

    module _ (drawn : List ℕ) (ten : length drawn ≡ 10) (id : ℕ) (id_is : id ≡ drawn_id now drawn) (known : Bool) (knows : (journal : List Entry) → IsOf old.tables.kept.commands journal → known ≡ was_started id (events_of journal)) where
      known_is : (key : List ℕ) (journal : List Entry) → old.key ≡ Some key → IsStoreOf old journal [] → is_taken journal starting (drawn_id now drawn) ≡ known
      known_is key journal keyed is = ap (λ (n : ℕ). was_started n (events_of journal)) (sym id_is) ∙ sym (knows journal (kept_of old key journal [] keyed is).commands)

      pub taken_start : known ≡ true → WritesDraft old old (caller_seen caller) starting (read_and_drew now drawn) (refused (id_taken id))
      taken_start taken = λ key journal call keyed is fits few drafts.
          subst (λ (n : ℕ). WrittenFrom old old key journal (caller_seen caller) call (read_and_drew now drawn) (refused (id_taken n))) (sym id_is)
          (taken_written old old key journal (caller_seen caller) call is refl now starting drawn ten (ready_for key journal call is few drafts) (known_is key journal keyed is ∙ taken))

      pub short_start : (mid : StoreSeen) → ((journal : List Entry) → IsStoreOf old journal [] → IsStoreOf mid journal []) → mid.log ≡ old.log → WritesDraft old mid (caller_seen caller) starting (read_and_drew now drawn) (refused no_memory)
      short_start mid same log = λ key journal call keyed is fits few drafts. short_drawn_written old mid key journal (caller_seen caller) call (same journal is) log now starting drawn ten (ready_for key journal call is few drafts)

      module _ (unknown : known ≡ false) where
        follows : (key : List ℕ) (journal : List Entry) (call : Call) → old.key ≡ Some key → IsStoreOf old journal [] → CallFits call → long_text call ≡ None → Drafts (keyed_by key) journal call starting
            → MayFollow journal old.log.host (said.Started (started_seen (begun_with id)))
        follows key journal call keyed is fits few drafts =
            subst (λ (n : ℕ). MayFollow journal old.log.host (said.Started (started_record n now command cwd session hostname))) (sym id_is)
            (may_follow old old key journal (caller_seen caller) call now starting drawn ten (ready_for key journal call is few drafts) (known_is key journal keyed is ∙ unknown) fits (sound_alone old journal is))

        pub may_make_start : (key : List ℕ) (journal : List Entry) (call : Call) → old.key ≡ Some key → IsStoreOf old journal [] → CallFits call → long_text call ≡ None → Drafts (keyed_by key) journal call starting
            → MayMake old journal caller (events.Started (begun_with id) ∷ [])
        may_make_start key journal call keyed is fits few drafts = may_make_one old journal caller (events.Started (begun_with id)) is (follows key journal call keyed is fits few drafts)

        -- what the store may write may be committed
        pub may_start : (may : MayWrite old starting) → MayMake old may.journal caller (events.Started (begun_with id) ∷ [])
        may_start may = may_make_start may.key may.journal may.call may.keyed may.is may.fits may.short may.drafts

        pub start_fits : MayWrite old starting → StartedFits (started_seen (begun_with id))
        start_fits may = (follows may.key may.journal may.call may.keyed may.is may.fits may.short may.drafts).event_fits

        module _ (mid new : StoreSeen) (log : mid.log ≡ old.log) (batch : Batch) (bytes : ReadyBatch) (entries : entries_of batch ≡ entry_by (caller_seen caller) (events.Started (begun_with id)) ∷ [])
            (can : (journal : List Entry) → MayMake old journal caller (events.Started (begun_with id) ∷ []) → MayCommit mid journal batch bytes) where
          abbrev made : List Entry
          made = record { caller = caller_seen caller; event = said.Started (started_record (drawn_id now drawn) now command cwd session hostname) } ∷ []

          made_is : entries_of batch ≡ made
          made_is = entries ∙ ap (λ (n : ℕ). entry_by (caller_seen caller) (events.Started (begun_with n)) ∷ []) id_is

          left_so : (journal : List Entry) → LeavesOneOfTwo journal (entries_of batch) mid.log new.log → LeavesOneOfTwo journal made old.log new.log
          left_so journal leaves = subst (λ (more : List Entry). LeavesOneOfTwo journal more old.log new.log) made_is (subst (λ (l : LogSeen). LeavesOneOfTwo journal (entries_of batch) l new.log) log leaves)

          pub committed_start : ((journal : List Entry) → MayCommit mid journal batch bytes → IsStoreOf new (journal ++ entries_of batch) [] × LeavesOneOfTwo journal (entries_of batch) mid.log new.log)
              → WritesDraft old new (caller_seen caller) starting (read_and_drew now drawn) (began id)
          committed_start commits = λ key journal call keyed is fits few drafts.
              let done = commits journal (can journal (may_make_start key journal call keyed is fits few drafts)) in
              subst (λ (n : ℕ). WrittenFrom old new key journal (caller_seen caller) call (read_and_drew now drawn) (began n)) (sym id_is)
              (appended_written old new key journal (caller_seen caller) call now starting drawn ten (ready_for key journal call is few drafts) (known_is key journal keyed is ∙ unknown)
              (subst (λ (more : List Entry). IsStoreOf new (journal ++ more) []) made_is done.0) (left_so journal done.1))

          uncommitted_so : (key : List ℕ) (journal : List Entry) (call : Call) → old.key ≡ Some key → IsStoreOf old journal [] → long_text call ≡ None → Drafts (keyed_by key) journal call starting → IsLostOrDoubted mid new journal batch
              → WrittenFrom old new key journal (caller_seen caller) call (read_and_drew now drawn) (refused disk_fault)
          uncommitted_so key journal call keyed is few drafts (inl lost) =
              lost_written old new key journal (caller_seen caller) call now starting drawn ten (ready_for key journal call is few drafts) (known_is key journal keyed is ∙ unknown) lost.0 (subst (λ (l : LogSeen). LeavesJournal journal l new.log) log lost.1)
          uncommitted_so key journal call keyed is few drafts (inr held) =
              doubted_written old new key journal (caller_seen caller) call now starting drawn ten (ready_for key journal call is few drafts) (known_is key journal keyed is ∙ unknown)
              (subst (λ (more : List Entry). IsStoreOf new journal more) made_is held.0) (left_so journal held.1)

          pub uncommitted_start : ((journal : List Entry) → MayCommit mid journal batch bytes → IsLostOrDoubted mid new journal batch) → WritesDraft old new (caller_seen caller) starting (read_and_drew now drawn) (refused disk_fault)
          uncommitted_start fails = λ key journal call keyed is fits few drafts. uncommitted_so key journal call keyed is few drafts (fails journal (can journal (may_make_start key journal call keyed is fits few drafts)))
