-- A page that is taken in as a turn, and one that is read back.
use Rattle.std.proofs.Common.{◌≡◌, ◌≢◌, ℕ, ◌+◌, ◌<◌, ◌⊎◌, inl, inr, Bool, true, false, cond, List, [], ◌∷◌, ◌++◌, length, map, take, get_or, Vec, Global, Option, Some, None, Result, Ok, Err, refl, sym, ap, subst, ◌∙◌, arith}
use Rattle.std.specs.Prelude.{All}
use Rattle.std.proofs.Math.Seq.{drop-append_seam}
use Rattle.std.proofs.lemmas.List.{append-nil, map-append, length-map, length-take, take_more}
use Rattle.std.proofs.lemmas.List.Elements.{All-drop}
use Rattle.record_rules.specs.Records.{Caller, Entry, Event, SealedRecord, Taken}
use Rattle.record_rules.specs.Journal.{chain, IsNumbered, EventFits, events_of, Sound}
use Rattle.record_rules.specs.Growth.{taken_entry, grow, grown}
use Rattle.record_rules.specs.Answers.{page}
use Rattle.record_rules.proofs.Growth.{growth_stays_sound}
use Rattle.step_rules.specs.Turn.{settled}
use Rattle.step_rules.specs.PageTurns.{PageAnswer, took, page_refused, page_faulted, page_no_memory, PageLeaves, PageTurn, unsettled_page, taken_page, refused_page, uncommitted_page, short_page, short_settled_page}
use Rattle.record_model.specs.declared.entries.Caller as callers
use Rattle.record_model.specs.declared.entries.Event as model
use Rattle.record_model.specs.declared.sealed.Record.{Record}
use Rattle.record_model.specs.Seen.{caller_seen, events_seen, record_seen, records_seen}
use Rattle.record_log.specs.Ready.{ReadyBatch}
use Rattle.record_log.specs.Journals.{LogSeen, LeavesOneOfTwo}
use Rattle.page_growth.specs.declared.pages.PageFail.{PageFail}
use Rattle.page_growth.specs.declared.pages.PageFail.TheVariants.{Refused, NoMemory}
use Rattle.page_growth.specs.Checking.{refusal_seen, chosen, OfJournal, Checks}
use Rattle.page_growth.proofs.Chosen.{chosen-push}
use Rattle.page_growth.proofs.Taking.{seen_more}
use Rattle.page_reading.specs.Reading.{LogRests}
use Rattle.store_tables.specs.declared.tables.Tables.{Tables}
use Rattle.store_tables.specs.declared.tables.Batch.{Batch}
use Rattle.store_core.specs.Store.{StoreSeen, entry_by, entries_of, LogMeans, IsStoreOf}
use Rattle.store_core.specs.Commits.{MayMake, MayCommit, IsLostOrDoubted}
use Rattle.store_core.specs.Calls.{LeavesByTurn, TakesPage}
use Rattle.store_core.specs.Pages.{page_answer_seen, take_fail_of, Grows}
use Rattle.store_core.proofs.Committed.{said_by, some_entries}
use Rattle.store_core.proofs.Leaving.{rest_leaves, commit_leaves, doubt_leaves, loss_leaves, settled_leaves, then_leaves, doubt_has_entries, nothing_doubted}

-- ---- the records that are taken, as entries

abbrev entry_saying : Caller → Event → Entry
entry_saying caller event = record { caller = caller; event = event }

by_events : (caller : Caller) (events : List model.Event) → map (entry_by caller) events ≡ map (entry_saying caller) (events_seen events)
by_events caller [] = refl
by_events caller (event ∷ events) = ap (λ (es : List Entry). entry_by caller event ∷ es) (by_events caller events)

by_records : (caller : Caller) (owner : ℕ) (records : List SealedRecord) → map (taken_entry caller owner) records ≡ map (entry_saying caller) (map (Taken owner) records)
by_records caller owner [] = refl
by_records caller owner (r ∷ records) = ap (λ (es : List Entry). taken_entry caller owner r ∷ es) (by_records caller owner records)

taken_are : (caller : Caller) (owner : ℕ) (records : List SealedRecord) (events : List model.Event) → events_seen events ≡ map (Taken owner) records → map (taken_entry caller owner) records ≡ map (entry_by caller) events
taken_are caller owner records events same = by_records caller owner records ∙ ap (map (entry_saying caller)) (sym same) ∙ sym (by_events caller events)

-- ---- the marked records, one after another

marked_as_event : (owner : ℕ) (mark : Bool) (r : SealedRecord) → cond mark (Taken owner r ∷ []) [] ≡ map (Taken owner) (cond mark (r ∷ []) [])
marked_as_event owner true r = refl
marked_as_event owner false r = refl

pub one_more_marked : (owner : ℕ) (marks : List Bool) (page : List Record) (at : ℕ) (mark : Bool) (x : Record) (before after : List Event) → length marks ≡ length page → at < length page → mark ≡ get_or marks at false → x ≡ get_or page at x
    → before ≡ map (Taken owner) (chosen (take at marks) (records_seen (take at page))) → after ≡ before ++ cond mark (Taken owner (record_seen x) ∷ []) [] → after ≡ map (Taken owner) (chosen (take (at + 1) marks) (records_seen (take (at + 1) page)))
one_more_marked owner marks page at mark x before after same below mark_is x_is were more =
    let was = chosen (take at marks) (records_seen (take at page)) in
    let here : at < length marks = omega (arith, same, below) in
    let next_mark : take (at + 1) marks ≡ take at marks ++ mark ∷ [] = take_more marks at false here ∙ ap (λ (m : Bool). take at marks ++ m ∷ []) (sym mark_is) in
    let many = length-take at marks in
    let so_many = length-take at page in
    let seen = length-map (take at page) record_seen in
    let level : length (take at marks) ≡ length (records_seen (take at page)) = omega (arith, same, many, so_many, seen) in
    more
    ∙ (λ i. were i ++ marked_as_event owner mark (record_seen x) i)
    ∙ sym (map-append (Taken owner) was (cond mark (record_seen x ∷ []) []))
    ∙ ap (map (Taken owner)) (sym (chosen-push (take at marks) (records_seen (take at page)) mark (record_seen x) level))
    ∙ (λ i. map (Taken owner) (chosen (sym next_mark i) (sym (seen_more page at x below x_is) i)))

-- ---- what a page adds at the journal of a store with nothing in doubt

module _ (store : StoreSeen) (owner : ℕ) (records : List SealedRecord) (journal : List Entry) (is : IsStoreOf store journal []) where
  alone_sound : Sound journal store.log.host
  alone_sound = subst (λ (j : List Entry). Sound j store.log.host) (append-nil journal) is.sound

  numbered : (host : ℕ) (tag : List ℕ) → IsNumbered (chain journal owner host tag)
  numbered host tag = alone_sound.numbered owner host tag

  pub page_checked : (checked : Result (Vec Bool Global) PageFail) → OfJournal store.tables.entries.index owner (λ j. Checks checked j owner records) → Checks checked journal owner records
  page_checked checked checks =
      subst (λ (j : List Entry). Checks checked j owner records) (sym is.journal_is)
      (checks is.filed is.tables.entries.index (λ host tag. subst (λ (j : List Entry). IsNumbered (chain j owner host tag)) is.journal_is (numbered host tag)))

  module _ (caller : Caller) (events : List model.Event) (grows : grow journal caller owner records ≡ Ok (map (entry_by caller) events)) where
    pub grown_sound : Sound (journal ++ map (entry_by caller) events) store.log.host
    grown_sound = subst (λ g. Sound (grown journal g) store.log.host) grows (growth_stays_sound journal store.log.host caller owner records alone_sound)

    pub grown_fit : All EventFits (events_seen events)
    grown_fit =
        let say : events_of (journal ++ map (entry_by caller) events) ≡ events_of journal ++ events_seen events =
        map-append (λ (e : Entry). e.event) journal (map (entry_by caller) events) ∙ ap (λ (es : List Event). events_of journal ++ es) (said_by caller events) in
        subst (λ (es : List Event). All EventFits es) (drop-append_seam (events_of journal) (events_seen events))
        (All-drop EventFits (length (events_of journal)) (events_of journal ++ events_seen events) (subst (λ (es : List Event). All EventFits es) say grown_sound.events_fit))

pub marked_grow : (journal : List Entry) (caller : Caller) (owner : ℕ) (records : List SealedRecord) (marks : Vec Bool Global) (events : List model.Event) → Checks (Ok marks) journal owner records → events_seen events ≡ map (Taken owner) (chosen marks.items records)
    → grow journal caller owner records ≡ Ok (map (entry_by caller) events)
marked_grow journal caller owner records marks events checks same = checks caller ∙ ap (λ (es : List Entry). Ok es) (taken_are caller owner (chosen marks.items records) events same)

-- a page that isn't taken
pub check_fails : (fail : PageFail) (journal : List Entry) (owner : ℕ) (records : List SealedRecord) → Checks (Err fail) journal owner records → Grows (Err fail) journal owner records
check_fails (Refused refusal) journal owner records checks = checks
check_fails NoMemory journal owner records checks = tt

-- ---- turns

-- behind what is settled
turn_behind : (journal doubt : List Entry) (caller : Caller) (owner : ℕ) (records : List SealedRecord) (after doubt_after : List Entry) (answer : PageAnswer) → PageTurn (settled journal doubt) [] caller owner records after doubt_after answer
    → PageTurn journal doubt caller owner records after doubt_after answer
turn_behind journal doubt caller owner records after doubt_after answer = by
  where
    whole : settled (settled journal doubt) [] ≡ settled journal doubt
    whole = append-nil (settled journal doubt)

    by : PageTurn (settled journal doubt) [] caller owner records after doubt_after answer → PageTurn journal doubt caller owner records after doubt_after answer
    by (unsettled_page some leaves is) = absurd (some refl)
    by (taken_page batch grows leaves is) =
        taken_page batch (subst (λ (j : List Entry). grow j caller owner records ≡ Ok batch) whole grows) (subst (λ (j : List Entry). PageLeaves (j ++ batch) [] after doubt_after) whole leaves) is
    by (refused_page refusal grows leaves is) =
        refused_page refusal (subst (λ (j : List Entry). grow j caller owner records ≡ Err refusal) whole grows) (subst (λ (j : List Entry). PageLeaves j [] after doubt_after) whole leaves) is
    by (uncommitted_page batch left grows some which leaves is) =
        uncommitted_page batch left (subst (λ (j : List Entry). grow j caller owner records ≡ Ok batch) whole grows) some which (subst (λ (j : List Entry). PageLeaves j left after doubt_after) whole leaves) is
    by (short_page leaves is) = short_settled_page leaves is
    by (short_settled_page leaves is) = short_settled_page (subst (λ (j : List Entry). PageLeaves j [] after doubt_after) whole leaves) is

module _ (caller : Caller) (owner : ℕ) (records : List SealedRecord) where
  pub takes_behind : (old mid new : StoreSeen) (answer : PageAnswer) → mid.log.host ≡ old.log.host
      → ((journal doubt : List Entry) → IsStoreOf old journal doubt → IsStoreOf mid (settled journal doubt) [] × LeavesOneOfTwo journal doubt old.log mid.log) → TakesPage mid new caller owner records answer → TakesPage old new caller owner records answer
  takes_behind old mid new answer host settles takes = λ journal doubt is.
      let first = settles journal doubt is in
      let next = takes (settled journal doubt) [] first.0 in
      (next.0, next.1, next.2, turn_behind journal doubt caller owner records next.0 next.1 answer next.3, then_leaves old.log mid.log new.log journal doubt next.0 next.1 host first.1 next.4)

  -- where settling fails
  pub stays_unsettled : (old new : StoreSeen) → ((journal doubt : List Entry) → IsStoreOf old journal doubt → IsStoreOf new journal doubt × (old.doubt ≢ None) × LeavesOneOfTwo journal doubt old.log new.log) → TakesPage old new caller owner records page_faulted
  stays_unsettled old new settles = λ journal doubt is.
      let left = settles journal doubt is in
      (journal, doubt, left.0, unsettled_page (doubt_has_entries old journal doubt is left.1) (record { journal_is = refl; doubt_is = refl }) refl, settled_leaves old.log new.log journal doubt journal doubt left.2)

  -- with nothing in doubt
  abbrev TakesAlone : StoreSeen → StoreSeen → PageAnswer → List Entry → List Entry → Type 0
  TakesAlone old new answer journal doubt = (after : List Entry) × (doubt_after : List Entry) × IsStoreOf new after doubt_after × PageTurn journal doubt caller owner records after doubt_after answer × LeavesByTurn old.log new.log journal doubt after doubt_after

  takes_alone : (old new : StoreSeen) (answer : PageAnswer) → old.doubt ≡ None → ((journal : List Entry) → IsStoreOf old journal [] → TakesAlone old new answer journal []) → TakesPage old new caller owner records answer
  takes_alone old new answer none takes = λ journal doubt is.
      let nothing = nothing_doubted old journal doubt is none in
      subst (λ (d : List Entry). TakesAlone old new answer journal d) (sym nothing) (takes journal (subst (λ (d : List Entry). IsStoreOf old journal d) nothing is))

  here : (journal : List Entry) → journal ≡ settled journal []
  here journal = sym (append-nil journal)

  stays : (journal doubt : List Entry) → PageLeaves (settled journal []) doubt journal doubt
  stays journal doubt = record { journal_is = here journal; doubt_is = refl }

  taken_turn : (journal batch : List Entry) (added : ℕ) → grow journal caller owner records ≡ Ok batch → added ≡ length batch → PageTurn journal [] caller owner records (journal ++ batch) [] (took added)
  taken_turn journal batch added grows count =
      taken_page batch (subst (λ (j : List Entry). grow j caller owner records ≡ Ok batch) (here journal) grows) (record { journal_is = ap (λ (j : List Entry). j ++ batch) (here journal); doubt_is = refl }) (ap took count)

  -- a page that is refused, or for which memory was wanting
  pub check_ends : (store : StoreSeen) (fail : PageFail) → store.doubt ≡ None → ((journal : List Entry) → IsStoreOf store journal [] → Grows (Err fail) journal owner records) → TakesPage store store caller owner records (page_answer_seen (Err (take_fail_of fail)))
  check_ends store (Refused refusal) none grows = takes_alone store store (page_refused (refusal_seen refusal)) none (λ journal is. (
    journal,
    [],
    is,
    refused_page (refusal_seen refusal) (subst (λ (j : List Entry). grow j caller owner records ≡ Err (refusal_seen refusal)) (here journal) (grows journal is caller)) (stays journal []) refl,
    rest_leaves store.log journal [] journal [],
  ))
  check_ends store NoMemory none grows =
      takes_alone store store page_no_memory none (λ journal is. (journal, [], is, short_page (record { journal_is = refl; doubt_is = refl }) refl, rest_leaves store.log journal [] journal []))

  -- a page that adds nothing
  pub adds_nothing : (store : StoreSeen) (events : List model.Event) → store.doubt ≡ None → events ≡ [] → ((journal : List Entry) → IsStoreOf store journal [] → grow journal caller owner records ≡ Ok (map (entry_by caller) events)) → TakesPage store store caller owner records (took 0)
  adds_nothing store events none nothing grows = takes_alone store store (took 0) none (λ journal is. (
    journal ++ [],
    [],
    subst (λ (j : List Entry). IsStoreOf store j []) (here journal) is,
    taken_turn journal [] 0 (grows journal is ∙ ap (λ (es : List model.Event). Ok (map (entry_by caller) es)) nothing) refl,
    rest_leaves store.log journal [] (journal ++ []) [],
  ))

-- a batch of the fresh records
module _ (old mid : StoreSeen) (caller : callers.Caller) (owner : ℕ) (records : List SealedRecord) (events : List model.Event) (batch : Batch) (bytes : ReadyBatch) (none : old.doubt ≡ None) (same : mid.log ≡ old.log)
    (grows : (journal : List Entry) → IsStoreOf old journal [] → grow journal (caller_seen caller) owner records ≡ Ok (map (entry_by (caller_seen caller)) events))
    (ready : (journal : List Entry) → MayMake old journal caller events → MayCommit mid journal batch bytes) (by_caller : batch.caller ≡ caller) (events_are : batch.events.items ≡ events) where
  pub may_take_in : (journal : List Entry) → IsStoreOf old journal [] → MayCommit mid journal batch bytes
  may_take_in journal is = ready journal (is, grown_sound old owner records journal is (caller_seen caller) events (grows journal is))

  grows_batch : (journal : List Entry) → IsStoreOf old journal [] → grow journal (caller_seen caller) owner records ≡ Ok (entries_of batch)
  grows_batch journal is = grows journal is ∙ (λ i. Ok (map (entry_by (caller_seen (sym by_caller i))) (sym events_are i)))

  count_is : (added : ℕ) → added ≡ length events → added ≡ length (entries_of batch)
  count_is added count = count ∙ ap length (sym events_are) ∙ sym (length-map batch.events.items (entry_by (caller_seen batch.caller)))

  from_old : (new : LogSeen) (journal after doubt_after : List Entry) → LeavesByTurn mid.log new journal [] after doubt_after → LeavesByTurn old.log new journal [] after doubt_after
  from_old new journal after doubt_after leaves = subst (λ (log : LogSeen). LeavesByTurn log new journal [] after doubt_after) same leaves

  pub commits_page : (new : StoreSeen) (added : ℕ) → added ≡ length events → ((journal : List Entry) → MayCommit mid journal batch bytes → IsStoreOf new (journal ++ entries_of batch) [] × LeavesOneOfTwo journal (entries_of batch) mid.log new.log)
      → TakesPage old new (caller_seen caller) owner records (took added)
  commits_page new added count commits =
      takes_alone (caller_seen caller) owner records old new (took added) none (λ journal is.
      let done = commits journal (may_take_in journal is) in (
        journal ++ entries_of batch,
        [],
        done.0,
        taken_turn (caller_seen caller) owner records journal (entries_of batch) added (grows_batch journal is) (count_is added count),
        from_old new.log journal (journal ++ entries_of batch) [] (commit_leaves mid.log new.log journal (entries_of batch) done.1),
      ))

  uncommitted_turn : (journal left : List Entry) → IsStoreOf old journal [] → (left ≡ []) ⊎ (left ≡ entries_of batch) → PageTurn journal [] (caller_seen caller) owner records journal left page_faulted
  uncommitted_turn journal left is which =
      uncommitted_page (entries_of batch) left (subst (λ (j : List Entry). grow j (caller_seen caller) owner records ≡ Ok (entries_of batch)) (here (caller_seen caller) owner records journal) (grows_batch journal is))
      (some_entries (entries_of batch) (may_take_in journal is).entries) which (stays (caller_seen caller) owner records journal left) refl

  pub loses_page : (new : StoreSeen) → ((journal : List Entry) → MayCommit mid journal batch bytes → IsLostOrDoubted mid new journal batch) → TakesPage old new (caller_seen caller) owner records page_faulted
  loses_page new commits = takes_alone (caller_seen caller) owner records old new page_faulted none (λ journal is. by journal is (commits journal (may_take_in journal is)))
    where
      by : (journal : List Entry) → IsStoreOf old journal [] → IsLostOrDoubted mid new journal batch → TakesAlone (caller_seen caller) owner records old new page_faulted journal []
      by journal is (inl lost) = (journal, [], lost.0, uncommitted_turn journal [] is (inl refl), from_old new.log journal journal [] (loss_leaves mid.log new.log journal lost.1))
      by journal is (inr doubtful) = (journal, entries_of batch, doubtful.0, uncommitted_turn journal (entries_of batch) is (inr refl), from_old new.log journal journal (entries_of batch) (doubt_leaves mid.log new.log journal (entries_of batch) [] doubtful.1))

-- ---- pages that are read back

-- the log whose disk failed so often
abbrev counted : LogSeen → ℕ → LogSeen
counted log faults = record { disk = record { history = log.disk.history; faults = faults }; host = log.host; gate = log.gate; doubt = log.doubt }

means_counted : (log : LogSeen) (faults : ℕ) (journal : List Entry) (doubt : Option Batch) → LogMeans log journal doubt → LogMeans (counted log faults) journal doubt
means_counted log faults journal None has = record { settled = has.settled; holds = has.holds }
means_counted log faults journal (Some batch) has = record { doubt = has.doubt; holds = has.holds }

stands_counted : (log : LogSeen) (faults : ℕ) (key : Option (List ℕ)) (tables : Tables) (batch : Option Batch) (journal doubt : List Entry) → IsStoreOf (record { log = log; key = key; tables = tables; doubt = batch }) journal doubt
    → IsStoreOf (record { log = counted log faults; key = key; tables = tables; doubt = batch }) journal doubt
stands_counted log faults key tables batch journal doubt is = record {
  filed = is.filed;
  journal_is = is.journal_is;
  doubt_is = is.doubt_is;
  log = means_counted log faults journal batch is.log;
  sound = is.sound;
  there = is.there;
  tables = is.tables;
  room = is.room;
}

counted_is : (old new : LogSeen) → LogRests old new → counted old new.disk.faults ≡ new
counted_is old new rests = λ i. record { disk = record { history = sym rests.disk.history i; faults = new.disk.faults }; host = sym rests.host i; gate = sym rests.gate i; doubt = sym rests.doubt i }

-- a store whose log rests means what it meant
pub rests_still : (old : StoreSeen) (new : LogSeen) → LogRests old.log new → (journal doubt : List Entry) → IsStoreOf old journal doubt → IsStoreOf (record { log = new; key = old.key; tables = old.tables; doubt = old.doubt }) journal doubt
rests_still old new rests journal doubt is =
    subst (λ (log : LogSeen). IsStoreOf (record { log = log; key = old.key; tables = old.tables; doubt = old.doubt }) journal doubt) (counted_is old.log new rests)
    (stands_counted old.log new.disk.faults old.key old.tables old.doubt journal doubt is)
