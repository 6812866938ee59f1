-- A payload that is recorded: how long what is written of it is, which limits it passes, and what becomes of it.
use Rattle.std.proofs.Common.{◌≡◌, ℕ, ◌+◌, ◌≤◌, ◌⊎◌, inl, inr, Bool, true, false, cond, List, [], ◌∷◌, ◌++◌, length, length-append, map, drop, Option, Some, None, refl, sym, ap, subst, ◌∙◌, arith}
use Rattle.std.specs.Prelude.{nat_lt, ◌==◌}
use Rattle.std.specs.List.{list_any}
use Rattle.std.specs.Option.{option_map}
use Rattle.std.proofs.lemmas.Bool.{ltb-false}
use Rattle.definitions.specs.Journal.{StartedRecord, finished}
use Rattle.definitions.specs.Limits.{most_name_bytes, most_call_bytes}
use Rattle.definitions.specs.Search.{author_length}
use Rattle.definitions.specs.Spelling.{written_text}
use Rattle.definitions.specs.Uses.{Used, read_clock, read_and_drew, read_and_failed}
use Rattle.payload_rules.specs.Payloads.{Payload, HistoryCreate, HistoryDelete, KvSet, KvDelete, AliasSet, AliasDelete, written_payload, tag_of}
use Rattle.record_rules.specs.Records.{Caller, Entry, Event, Started, Local, Taken, SealedRecord}
use Rattle.record_rules.specs.Journal.{ChainPlace, running, still_running, closes_id, events_of, own_events, chain, held, held_of, limit_passed, EventFits, StartedFits, Sound, MayFollow}
use Rattle.record_rules.proofs.Options.{cond_none}
use Rattle.record_rules.proofs.Members.{Has, find_has}
use Rattle.step_rules.specs.Answers.{full, random_fault, id_taken, disk_fault, no_memory, Answer, stored, refused}
use Rattle.step_rules.specs.Calls.{Call, CallFits, LimitedText, LongText, name_field, value_field, author_field, first_long, long_text, call_bytes}
use Rattle.step_rules.specs.Sealing.{keyed_store}
use Rattle.step_rules.specs.Step.{Draft, start_draft, record_draft, running_under, Drafts, start_drafts, end_drafts, delete_drafts, kv_set_drafts, kv_delete_drafts, alias_set_drafts, alias_delete_drafts, draft_passes, Ready, drawn_id, draft_event, is_taken}
use Rattle.step_rules.specs.Store.{KeyedStore}
use Rattle.step_rules.proofs.Finding.{of_each}
use Rattle.step_rules.proofs.Texts.{written_short, written_text_short}
use Rattle.record_seal.proofs.StoreSealing.{record_sealing}
use Rattle.record_model.specs.declared.entries.Caller as callers
use Rattle.record_model.specs.declared.entries.Event.TheVariants as events
use Rattle.record_model.specs.declared.sealed.Record as model
use Rattle.record_model.specs.Seen.{caller_seen, record_seen}
use Rattle.payload_records.specs.declared.sealing.Stamp.{Stamp}
use Rattle.payload_records.specs.Heads.{most_written_bytes, record_for}
use Rattle.record_log.specs.Ready.{ReadyBatch}
use Rattle.record_log.specs.Journals.{LogSeen, LeavesOneOfTwo, LeavesJournal}
use Rattle.chain_index.specs.declared.owner.Held.{Held}
use Rattle.chain_index.specs.Meaning as index
use Rattle.chain_index.specs.Meaning.{Filed, journal_of, totals_seen, IsIndexOf}
use Rattle.page_growth.specs.declared.limits.PassedLimit as limits
use Rattle.page_growth.specs.Limits.{limit_seen, AddsPlace}
use Rattle.call_drafts.specs.declared.kept.Kept.{Kept}
use Rattle.kept_views.specs.declared.rooms.EventRoom.{EventRoom}
use Rattle.kept_views.specs.Rooms.{HoldsShown, IsRoomFor}
use Rattle.kept_views.specs.Keeping.{KeepsFor}
use Rattle.store_tables.specs.declared.tables.Tables.{Tables}
use Rattle.store_tables.specs.declared.tables.Batch.{Batch}
use Rattle.store_tables.specs.Tables.{TablesOf}
use Rattle.store_core.specs.Store.{StoreSeen, entry_by, entries_of, IsStoreOf}
use Rattle.store_core.specs.Commits.{MayMake, MayCommit, IsLostOrDoubted}
use Rattle.store_core.specs.Calls.{LeavesByTurn}
use Rattle.store_core.specs.Writing.{Writes, replied, WrittenFrom, WritesDraft, MayWrite}
use Rattle.store_core.specs.Recording.{IsDrawnOf, IsNextIdx, MayRecord}
use Rattle.store_core.proofs.Stepping.{full_written, undrawn_written, short_written, taken_written, short_drawn_written, may_follow, appended_written, lost_written, doubted_written, sound_alone, may_make_one}

-- ---- how long what is written of a payload is

-- where no text is too long, the first one isn't, and none of the others is
first_short : (limited : LimitedText) (later : List LimitedText) → first_long (limited ∷ later) ≡ None → (length limited.text ≤ limited.most) × (first_long later ≡ None)
first_short limited later short =
    let parts = cond_none {A = LongText} (nat_lt limited.most (length limited.text)) (record { field = limited.field; length = length limited.text }) (first_long later) short in
    (ltb-false limited.most (length limited.text) parts.0, parts.1)

author_short : (author : Option (List ℕ)) → first_long (author_field author) ≡ None → author_length author ≤ most_name_bytes
author_short None short = omega arith
author_short (Some author) short = (first_short (name_field 4 author) [] short).0

-- what runs was started
runs_started : (events : List Event) (s : StartedRecord) → Has (still_running events) s → Has events (Started s)
runs_started [] s has = absurd has
runs_started (Started t ∷ later) s has =
    let rest = runs_started later s in
    elim (list_any (closes_id t.id) later) as (λ b. Has (cond b (still_running later) (t ∷ still_running later)) s → (Started t ≡ Started s) ⊎ Has later (Started s)) [
      | true ↦ λ h. inr (rest h)
      | false ↦ λ h. elim h [
        | inl here ↦ inl (ap Started here)
        | inr there ↦ inr (rest there)
      ]
    ] has
runs_started (Local closes r ∷ later) s has = inr (runs_started later s has)
runs_started (Taken owner r ∷ later) s has = inr (runs_started later s has)

runs_short : (journal : List Entry) (host id : ℕ) (s : StartedRecord) → Sound journal host → running_under id journal ≡ Some s → StartedFits s
runs_short journal host id s sound found =
    of_each EventFits (events_of journal) (Started s) sound.events_fit (runs_started (events_of journal) s (find_has (λ (t : StartedRecord). t.id == id) (running journal) s found).1)

abbrev payload_in : Draft → Payload
payload_in (start_draft command cwd session hostname) = HistoryDelete 0
payload_in (record_draft closes payload) = payload

abbrev IsShort : Payload → Type 0
IsShort payload = length (written_payload payload) ≤ most_written_bytes

deleted_pair_short : (namespace key : List ℕ) → length namespace + length key ≤ most_call_bytes → IsShort (KvDelete namespace key)
deleted_pair_short namespace key few =
    let pair = length-append (written_text namespace) (written_text key) in
    let first = written_text_short namespace in
    let second = written_text_short key in
    omega (arith, pair, first, second, few)

deleted_name_short : (name : List ℕ) → length name ≤ most_call_bytes → IsShort (AliasDelete name)
deleted_name_short name few = let text = written_text_short name in omega (arith, text, few)

module _ (store : KeyedStore) (journal : List Entry) (host : ℕ) (call : Call) (draft : Draft) (asked : CallFits call) (sound : Sound journal host) (short : long_text call ≡ None) where
  of_payload : (payload : Payload) → (closes : Option ℕ) → draft ≡ record_draft closes payload → IsShort payload → IsShort (payload_in draft)
  of_payload payload closes is few = subst (λ (d : Draft). IsShort (payload_in d)) (sym is) few

  drafted_short : Drafts store journal call draft → IsShort (payload_in draft)
  drafted_short (start_drafts command cwd session hostname call_is draft_is) = subst (λ (d : Draft). IsShort (payload_in d)) (sym draft_is) (omega (arith, written_short (HistoryDelete 0)))
  drafted_short (end_drafts id duration exit author s call_is found draft_is) =
      let texts = runs_short journal host id s sound found in
      let command = texts.command in
      let cwd = texts.cwd in
      let session = texts.session in
      let hostname = texts.hostname in
      let by = author_short author (sym (ap long_text call_is) ∙ short) in
      of_payload (HistoryCreate (finished s duration exit author)) (Some id) draft_is (omega (arith, command, cwd, session, hostname, by, written_short (HistoryCreate (finished s duration exit author))))
  drafted_short (delete_drafts id call_is shown draft_is) = of_payload (HistoryDelete id) None draft_is (omega (arith, written_short (HistoryDelete id)))
  drafted_short (kv_set_drafts namespace key value call_is draft_is) =
      let first = first_short (name_field 1 namespace) (name_field 2 key ∷ value_field 3 value ∷ []) (sym (ap long_text call_is) ∙ short) in
      let second = first_short (name_field 2 key) (value_field 3 value ∷ []) first.1 in
      let third = first_short (value_field 3 value) [] second.1 in
      of_payload (KvSet namespace key value) None draft_is (omega (arith, first.0, second.0, third.0, written_short (KvSet namespace key value)))
  drafted_short (kv_delete_drafts namespace key call_is shown draft_is) =
      of_payload (KvDelete namespace key) None draft_is (deleted_pair_short namespace key (subst (λ (n : ℕ). n ≤ most_call_bytes) (ap call_bytes call_is) asked.texts))
  drafted_short (alias_set_drafts name value call_is draft_is) =
      let first = first_short (name_field 1 name) (value_field 2 value ∷ []) (sym (ap long_text call_is) ∙ short) in
      let second = first_short (value_field 2 value) [] first.1 in
      of_payload (AliasSet name value) None draft_is (omega (arith, first.0, second.0, written_short (AliasSet name value)))
  drafted_short (alias_delete_drafts name call_is shown draft_is) =
      of_payload (AliasDelete name) None draft_is (deleted_name_short name (subst (λ (n : ℕ). n ≤ most_call_bytes) (ap call_bytes call_is) asked.texts))

-- ---- which limits it passes

pub passes_told : (store : StoreSeen) (key : List ℕ) (journal : List Entry) (payload : Payload) (idx weight : ℕ) (totals : Held) (told : Option limits.PassedLimit) → IsStoreOf store journal [] → IsNextIdx store payload idx
    → ((filed : List Filed) → IsIndexOf store.tables.entries.index filed → totals_seen totals ≡ held (journal_of filed) 0) → weight ≡ (keyed_store record_sealing store.log.host key).weight_of payload
    → ((events : List Event) (place : Option ChainPlace) → totals_seen totals ≡ held_of events → AddsPlace events place (idx == 0) → option_map limit_seen told ≡ limit_passed events weight place)
    → option_map limit_seen told ≡ draft_passes (keyed_store record_sealing store.log.host key) journal (record_draft None payload)
passes_told store key journal payload idx weight totals told is next totals_are weight_is tells =
    let place : ChainPlace = record { host = store.log.host; tag = tag_of payload } in
    let held_are : totals_seen totals ≡ held journal 0 = totals_are is.filed is.tables.entries.index ∙ ap (λ (j : List Entry). held j 0) (sym is.journal_is) in
    let new_place : (idx == 0) ≡ (length (chain journal 0 store.log.host (tag_of payload)) == 0) = ap (λ (n : ℕ). n == 0) (next journal [] is) in
    tells (own_events journal 0) (Some place) held_are new_place ∙ ap (λ (w : ℕ). limit_passed (own_events journal 0) w (Some place)) weight_is

-- ---- room for what it shows

pub with_kept : (was : Tables) (kept : Kept) → ((host : ℕ) (key : Option (List ℕ)) (journal : List Entry) → KeepsFor host key was.kept journal → KeepsFor host key kept journal)
    → (host : ℕ) (key : Option (List ℕ)) (filed : List Filed) → TablesOf host key was filed → TablesOf host key (record { entries = was.entries; kept = kept }) filed
with_kept was kept keeps host key filed t = record { entries = t.entries; kept = keeps host key (journal_of filed) t.kept }

room_for : (kept : Kept) (was : Option (List ℕ)) (key : List ℕ) (host : ℕ) (closes : Option ℕ) (r : SealedRecord) (payload : Payload) (room : EventRoom) → was ≡ Some key
    → (keyed_store record_sealing host key).opens r ≡ Some payload → HoldsShown kept (Some payload) room → IsRoomFor was kept (Local closes r) room
room_for kept was key host closes r payload room some opens holds =
    subst (λ (k : Option (List ℕ)). IsRoomFor k kept (Local closes r) room) (sym some) (record { place = tt; holds = subst (λ (p : Option Payload). HoldsShown kept p room) (sym opens) holds })

-- ---- what is made of what was drawn

-- the record that is sealed is the one that is to be appended
next_record : (key : List ℕ) (host : ℕ) (journal : List Entry) (closes : Option ℕ) (payload : Payload) (stamp : Stamp) (seal bytes : List ℕ) → stamp.host ≡ host → stamp.idx ≡ length (chain journal 0 host (tag_of payload))
    → stamp.id ≡ drawn_id stamp.timestamp bytes → seal ≡ drop 10 bytes
    → Local closes (record_for key stamp payload seal) ≡ draft_event (keyed_store record_sealing host key) journal (record_draft closes payload) stamp.timestamp bytes
next_record key host journal closes payload stamp seal bytes host_is idx_is id_is seal_is =
    λ i. Local closes (record_for key (record { id = id_is i; idx = idx_is i; host = host_is i; timestamp = stamp.timestamp }) payload (seal_is i))

-- as seen from a store whose log is the same
from_same_log : (old mid new : StoreSeen) (key : List ℕ) (journal : List Entry) (caller : Caller) (call : Call) (used : Used) (answer : Answer) → mid.log ≡ old.log
    → WrittenFrom mid new key journal caller call used answer → WrittenFrom old new key journal caller call used answer
from_same_log old mid new key journal caller call used answer same written = record {
  after = written.after;
  doubt_after = written.doubt_after;
  is = written.is;
  writes = subst (λ (log : LogSeen). Writes (keyed_store record_sealing log.host key) journal caller call used written.after written.doubt_after (replied written.after answer)) same written.writes;
  leaves = subst (λ (log : LogSeen). LeavesByTurn log new.log journal [] written.after written.doubt_after) same written.leaves;
}

module _ (old : StoreSeen) (caller : callers.Caller) (closes : Option ℕ) (payload : Payload) (stamp : Stamp) (seal bytes key : List ℕ) (journal : List Entry) (call : Call)
    (of : IsDrawnOf stamp.timestamp bytes (record { id = stamp.id; seal = seal })) (may : MayRecord old key journal call closes payload stamp.idx) where
  abbrev keyed : KeyedStore
  keyed = keyed_store record_sealing old.log.host key

  abbrev draft : Draft
  draft = record_draft closes payload

  abbrev Written : StoreSeen → Answer → Type 0
  Written new answer = WrittenFrom old new key journal (caller_seen caller) call (read_and_drew stamp.timestamp bytes) answer

  pub taken_told : (told : Bool) → told ≡ index.is_taken journal stamp.id → told ≡ true → Written old (refused (id_taken stamp.id))
  taken_told told tells taken =
      let there : is_taken journal draft (drawn_id stamp.timestamp bytes) ≡ true = ap (λ (id : ℕ). index.is_taken journal id) (sym of.id) ∙ sym tells ∙ taken in
      subst (λ (id : ℕ). Written old (refused (id_taken id))) (sym of.id) (taken_written old old key journal (caller_seen caller) call may.is refl stamp.timestamp draft bytes of.many may.ready there)

  pub no_memory_told : (new : StoreSeen) → IsStoreOf new journal [] → new.log ≡ old.log → Written new (refused no_memory)
  no_memory_told new is same = short_drawn_written old new key journal (caller_seen caller) call is same stamp.timestamp draft bytes of.many may.ready

  module _ (told : Bool) (tells : told ≡ index.is_taken journal stamp.id) (untaken : told ≡ false) (host_is : stamp.host ≡ old.log.host) (r : model.Record)
      (made : (key : List ℕ) → old.key ≡ Some key → record_seen r ≡ record_for key stamp payload seal) where
    free : is_taken journal draft (drawn_id stamp.timestamp bytes) ≡ false
    free = ap (λ (id : ℕ). index.is_taken journal id) (sym of.id) ∙ sym tells ∙ untaken

    event_is : Local closes (record_seen r) ≡ draft_event keyed journal draft stamp.timestamp bytes
    event_is = ap (Local closes) (made key may.keyed) ∙ next_record key old.log.host journal closes payload stamp seal bytes host_is may.next of.id of.seal

    pub may_make_record : MayMake old journal caller (events.Local r closes ∷ [])
    may_make_record =
        may_make_one old journal caller (events.Local r closes) may.is (subst (λ (event : Event). MayFollow journal old.log.host event) (sym event_is)
        (may_follow old old key journal (caller_seen caller) call stamp.timestamp draft bytes of.many may.ready free may.fits (sound_alone old journal may.is)))

    pub record_room : (room : EventRoom) → ((key : List ℕ) → old.key ≡ Some key → (keyed_store record_sealing stamp.host key).opens (record_seen r) ≡ Some payload) → HoldsShown old.tables.kept (Some payload) room
        → IsRoomFor old.key old.tables.kept (Local closes (record_seen r)) room
    record_room room opens holds = room_for old.tables.kept old.key key stamp.host closes (record_seen r) payload room may.keyed (opens key may.keyed) holds

    entries_are : (batch : Batch) → batch.caller ≡ caller → batch.events.items ≡ events.Local r closes ∷ [] → entries_of batch ≡ record { caller = caller_seen caller; event = draft_event keyed journal draft stamp.timestamp bytes } ∷ []
    entries_are batch by same =
        (λ i. map (entry_by (caller_seen (by i))) (same i)) ∙ ap (λ (event : Event). record { caller = caller_seen caller; event = event } ∷ []) event_is

    module _ (mid new : StoreSeen) (same_log : mid.log ≡ old.log) (batch : Batch) (ready : ReadyBatch) (by : batch.caller ≡ caller) (same : batch.events.items ≡ events.Local r closes ∷ []) (can : MayCommit mid journal batch ready) where
      left_so : (more : List Entry) → LeavesOneOfTwo journal more mid.log new.log → LeavesOneOfTwo journal more old.log new.log
      left_so more leaves = subst (λ (log : LogSeen). LeavesOneOfTwo journal more log new.log) same_log leaves

      pub committed_told : IsStoreOf new (journal ++ entries_of batch) [] × LeavesOneOfTwo journal (entries_of batch) mid.log new.log → Written new (stored stamp.idx)
      committed_told done =
          let entries = entries_are batch by same in
          subst (λ (idx : ℕ). Written new (stored idx)) (sym may.next)
          (appended_written old new key journal (caller_seen caller) call stamp.timestamp draft bytes of.many may.ready free (subst (λ (more : List Entry). IsStoreOf new (journal ++ more) []) entries done.0)
          (subst (λ (more : List Entry). LeavesOneOfTwo journal more old.log new.log) entries (left_so (entries_of batch) done.1)))

      pub uncommitted_told : IsLostOrDoubted mid new journal batch → Written new (refused disk_fault)
      uncommitted_told (inl lost) =
          lost_written old new key journal (caller_seen caller) call stamp.timestamp draft bytes of.many may.ready free lost.0 (subst (λ (log : LogSeen). LeavesJournal journal log new.log) same_log lost.1)
      uncommitted_told (inr held) =
          let entries = entries_are batch by same in
          doubted_written old new key journal (caller_seen caller) call stamp.timestamp draft bytes of.many may.ready free (subst (λ (more : List Entry). IsStoreOf new journal more) entries held.0)
          (subst (λ (more : List Entry). LeavesOneOfTwo journal more old.log new.log) entries (left_so (entries_of batch) held.1))

-- ---- the ways in which it ends

module _ (old : StoreSeen) (caller : Caller) (closes : Option ℕ) (payload : Payload) (now : ℕ) where
  abbrev recorded : Draft
  recorded = record_draft closes payload

  abbrev Passes : Option limits.PassedLimit → Type 0
  Passes found = (key : List ℕ) (journal : List Entry) → IsStoreOf old journal [] → option_map limit_seen found ≡ draft_passes (keyed_store record_sealing old.log.host key) journal (record_draft None payload)

  pub full_told : (found : Option limits.PassedLimit) → Passes found → (passed : limits.PassedLimit) → found ≡ Some passed → WritesDraft old old caller recorded (read_clock now) (refused (full (limit_seen passed)))
  full_told found passes passed some = λ key journal call keyed is fits few drafts.
      full_written old old key journal caller call is refl now recorded (limit_seen passed) few drafts (sym (passes key journal is) ∙ ap (option_map limit_seen) some)

  module _ (mid : StoreSeen) (same : (journal : List Entry) → IsStoreOf old journal [] → IsStoreOf mid journal []) (log : mid.log ≡ old.log) where
    pub short_told : WritesDraft old mid caller recorded (read_clock now) (refused no_memory)
    short_told = λ key journal call keyed is fits few drafts. short_written old mid key journal caller call (same journal is) log now

    module _ (found : Option limits.PassedLimit) (passes : Passes found) (none : found ≡ None) where
      ready_for : (key : List ℕ) (journal : List Entry) (call : Call) → IsStoreOf old journal [] → long_text call ≡ None → Drafts (keyed_store record_sealing old.log.host key) journal call recorded
          → Ready (keyed_store record_sealing old.log.host key) journal call recorded
      ready_for key journal call is few drafts = record { short = few; drafts = drafts; room = sym (passes key journal is) ∙ ap (option_map limit_seen) none }

      pub undrawn_told : WritesDraft old mid caller recorded (read_and_failed now) (refused random_fault)
      undrawn_told = λ key journal call keyed is fits few drafts. undrawn_written old mid key journal caller call (same journal is) log now recorded (ready_for key journal call is few drafts)

      module _ (same_key : mid.key ≡ old.key) (idx : ℕ) (next : IsNextIdx old payload idx) where
        pub may_record : (key : List ℕ) (journal : List Entry) (call : Call) → old.key ≡ Some key → IsStoreOf old journal [] → CallFits call → long_text call ≡ None
            → Drafts (keyed_store record_sealing old.log.host key) journal call recorded → MayRecord mid key journal call closes payload idx
        may_record key journal call keyed is fits few drafts = record {
          keyed = same_key ∙ keyed;
          is = same journal is;
          fits = fits;
          ready = subst (λ (l : LogSeen). Ready (keyed_store record_sealing l.host key) journal call recorded) (sym log) (ready_for key journal call is few drafts);
          next = next journal [] is ∙ ap (λ (l : LogSeen). length (chain journal 0 l.host (tag_of payload))) (sym log);
        }

        pub drawn_told : (new : StoreSeen) (used : Used) (answer : Answer) → ((key : List ℕ) (journal : List Entry) (call : Call) → MayRecord mid key journal call closes payload idx → WrittenFrom mid new key journal caller call used answer)
            → WritesDraft old new caller recorded used answer
        drawn_told new used answer written = λ key journal call keyed is fits few drafts.
            from_same_log old mid new key journal caller call used answer log (written key journal call (may_record key journal call keyed is fits few drafts))

-- what is written of what may be recorded is short
pub may_write_short : (store : StoreSeen) (closes : Option ℕ) (payload : Payload) → MayWrite store (record_draft closes payload) → length (written_payload payload) ≤ most_written_bytes
may_write_short store closes payload may =
    drafted_short (keyed_store record_sealing store.log.host may.key) may.journal store.log.host may.call (record_draft closes payload) may.fits (sound_alone store may.journal may.is) may.short may.drafts
