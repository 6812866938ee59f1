-- What a store means after a commit, and after settling.
use Rattle.std.proofs.Common.{◌≡◌, ℕ, ◌+◌, ◌<◌, ◌≤◌, ◌^◌, ◌⊎◌, inl, inr, List, [], ◌∷◌, ◌++◌, length, map, Vec, Global, Option, Some, None, Result, Ok, Err, refl, sym, ap, subst, ◌∙◌, arith}
use Rattle.std.specs.Prelude.{All, ◌≢◌}
use Rattle.std.proofs.lemmas.List.{map-append, append-nil}
use Rattle.std.proofs.lemmas.List.Elements.{All-append}
use Rattle.record_rules.specs.Records.{Caller, Entry, Event}
use Rattle.record_rules.specs.Journal.{SoundEvents, Sound, events_of}
use Rattle.log_rules.specs.Body.{body_bytes, IsBatch}
use Rattle.disk_rules.specs.Disk.{Disk}
use Rattle.disk_rules.specs.History.{History}
use Rattle.record_model.specs.declared.entries.Caller as callers
use Rattle.record_model.specs.declared.entries.Event as model
use Rattle.record_model.specs.Seen.{caller_seen, event_seen, events_seen}
use Rattle.step_rules.specs.Turn.{settled_entry, settled}
use Rattle.at_edge.specs.Storing.{Tells, Arrives}
use Rattle.record_log.specs.declared.spots.Spot.{Spot}
use Rattle.record_log.specs.Ready.{ReadyBatch}
use Rattle.record_log.specs.Journals.{LogSeen, HasJournal, HasDoubt, HasSpot, KeepsBelow, MayTake, LeavesOneOfTwo, LeavesJournal}
use Rattle.record_log.specs.Reading.{BatchBefore}
use Rattle.chain_index.specs.Meaning.{Filed, journal_of}
use Rattle.kept_views.specs.declared.rooms.EventRoom.{EventRoom}
use Rattle.store_tables.specs.declared.tables.Tables.{Tables}
use Rattle.store_tables.specs.declared.tables.Batch.{Batch}
use Rattle.store_tables.specs.Entries.{HasRoomFor}
use Rattle.store_tables.specs.Tables.{TablesOf, AreRooms, IsReadyBatch, MayAddBatch, filed_batch, batch_entries}
use Rattle.store_core.specs.Store.{StoreSeen, entry_by, entries_of, doubted, LogMeans, StandsThere, HasRoomForDoubt, IsStoreOf}
use Rattle.store_core.specs.Commits.{Settles, MayCommit, Commits, IsLostOrDoubted}
use Rattle.store_core.proofs.Standing.{same_journal, all_stay, batch_there}

-- ---- the entries of a batch

pub said_by : (caller : Caller) (events : List model.Event) → events_of (map (entry_by caller) events) ≡ events_seen events
said_by caller [] = refl
said_by caller (event ∷ events) = ap (λ (es : List Event). event_seen event ∷ es) (said_by caller events)

pub batch_says : (batch : Batch) → events_of (entries_of batch) ≡ events_seen batch.events.items
batch_says batch = said_by (caller_seen batch.caller) batch.events.items

filed_are : (caller : Caller) (spot : Spot) (at : ℕ) (events : List model.Event) → journal_of (filed_batch caller spot at (events_seen events)) ≡ map (entry_by caller) events
filed_are caller spot at [] = refl
filed_are caller spot at (event ∷ events) = ap (λ (es : List Entry). entry_by caller event ∷ es) (filed_are caller spot (at + 1) events)

pub journal_with : (filed : List Filed) (batch : Batch) (spot : Spot) → journal_of filed ++ entries_of batch ≡ journal_of (filed ++ batch_entries batch spot)
journal_with filed batch spot =
    ap (λ (es : List Entry). journal_of filed ++ es) (sym (filed_are (caller_seen batch.caller) spot 0 batch.events.items))
    ∙ sym (map-append (λ (f : Filed). f.entry) filed (batch_entries batch spot))

events_with : (journal more : List Entry) → events_of (journal ++ more) ≡ events_of journal ++ events_of more
events_with journal more = map-append (λ (e : Entry). e.event) journal more

-- the tables may take the batch
pub may_add : (host : ℕ) (key : Option (List ℕ)) (tables : Tables) (filed : List Filed) (batch : Batch) → TablesOf host key tables filed → IsReadyBatch key tables batch → Sound (journal_of filed ++ entries_of batch) host → MayAddBatch host key tables filed batch
may_add host key tables filed batch is ready sound = record {
  is = is;
  ready = ready;
  sound = subst (λ (es : List Event). SoundEvents es host) (events_with (journal_of filed) (entries_of batch) ∙ ap (λ (es : List Event). events_of (journal_of filed) ++ es) (batch_says batch)) sound;
}

-- ---- the log, one batch further

-- the new log keeps all that the old one shows
pub record Follows (old new : LogSeen) : Type 0 where
  pub gate : old.gate ≤ new.gate
  pub below : KeepsBelow old.gate old.disk.history new.disk.history
  pub silent : old.disk.history ≡ None → new.disk.history ≡ None
  pub host : new.host ≡ old.host

pub all_there : (old new : LogSeen) → Follows old new → (filed : List Filed) → All (StandsThere old) filed → All (StandsThere new) filed
all_there old new follows filed stand = all_stay old new follows.gate follows.below follows.silent filed stand

-- with a batch at the end, which nothing is in doubt behind
pub with_batch : (old new : LogSeen) (key : Option (List ℕ)) (tables : Tables) (filed : List Filed) (batch : Batch) (spot : Spot) → Follows old new → All (StandsThere old) filed → Sound (journal_of filed ++ entries_of batch) old.host
    → HasJournal new (journal_of filed ++ entries_of batch) → HasSpot new spot (entries_of batch) → TablesOf old.host key tables (filed ++ batch_entries batch spot) → (doubt : Option Batch) → doubt ≡ None
    → IsStoreOf (record { log = new; key = key; tables = tables; doubt = doubt }) (journal_of filed ++ entries_of batch) []
with_batch old new key tables filed batch spot follows there sound has at is (Some other) none = absurd cc
with_batch old new key tables filed batch spot follows there sound has at is None none = record {
  filed = filed ++ batch_entries batch spot;
  journal_is = journal_with filed batch spot;
  doubt_is = refl;
  log = has;
  sound = subst (λ (h : ℕ). Sound ((journal_of filed ++ entries_of batch) ++ []) h) (sym follows.host) (subst (λ (j : List Entry). Sound j old.host) (sym (append-nil (journal_of filed ++ entries_of batch))) sound);
  there = All-append (StandsThere new) filed (batch_entries batch spot) (all_there old new follows filed there)
      (subst (λ (es : List Event). All (StandsThere new) (filed_batch (caller_seen batch.caller) spot 0 es)) (batch_says batch) (batch_there new spot (caller_seen batch.caller) (events_of (entries_of batch)) at));
  tables = subst (λ (h : ℕ). TablesOf h key tables (filed ++ batch_entries batch spot)) (sym follows.host) is;
  room = tt;
}

-- with what was in doubt, or is, and the same entries
pub without_batch : (old new : LogSeen) (key : Option (List ℕ)) (tables : Tables) (filed : List Filed) (doubt : Option Batch) → Follows old new → All (StandsThere old) filed → Sound (journal_of filed ++ doubted doubt) old.host
    → LogMeans new (journal_of filed) doubt → TablesOf old.host key tables filed → HasRoomForDoubt key tables doubt → IsStoreOf (record { log = new; key = key; tables = tables; doubt = doubt }) (journal_of filed) (doubted doubt)
without_batch old new key tables filed doubt follows there sound means is room = record {
  filed = filed;
  journal_is = refl;
  doubt_is = refl;
  log = means;
  sound = subst (λ (h : ℕ). Sound (journal_of filed ++ doubted doubt) h) (sym follows.host) sound;
  there = all_there old new follows filed there;
  tables = subst (λ (h : ℕ). TablesOf h key tables filed) (sym follows.host) is;
  room = room;
}

-- ---- committing

pub some_entries : (entries : List Entry) → IsBatch (events_of entries) → entries ≢ []
some_entries entries batch none =
    let some = batch.some in
    let short : length (events_of entries) ≡ 0 = ap (λ (es : List Entry). length (events_of es)) none in
    omega (arith, some, short)

pub log_of : (log : LogSeen) (journal : List Entry) (doubt : Option Batch) → doubt ≡ None → LogMeans log journal doubt → HasJournal log journal
log_of log journal None none means = means
log_of log journal (Some batch) none means = absurd cc

pub may_take : (store : StoreSeen) (journal : List Entry) (batch : Batch) (bytes : ReadyBatch) → MayCommit store journal batch bytes → MayTake store.log journal (entries_of batch) bytes
may_take store journal batch bytes may = record {
  journal_is = log_of store.log journal store.doubt may.settled may.is.log;
  entries = may.entries;
  sound = may.sound;
  body_is = may.body;
}

module _ (old : StoreSeen) (journal : List Entry) (batch : Batch) (bytes : ReadyBatch) (may : MayCommit old journal batch bytes) where
  filed_sound : Sound (journal_of may.is.filed ++ entries_of batch) old.log.host
  filed_sound = subst (λ (j : List Entry). Sound (j ++ entries_of batch) old.log.host) may.is.journal_is may.sound

  pub commit_adds : MayAddBatch old.log.host old.key old.tables may.is.filed batch
  commit_adds = may_add old.log.host old.key old.tables may.is.filed batch may.is.tables may.ready filed_sound

  -- what the log tells of an append that failed
  abbrev FailsSo : LogSeen → Type 0
  FailsSo new = (HasJournal new journal × LeavesJournal journal old.log new) ⊎ (HasDoubt new journal (entries_of batch) × LeavesOneOfTwo journal (entries_of batch) old.log new)

  module _ (new : LogSeen) (follows : Follows old.log new) where
    pub after_commit : (tables : Tables) (spot : Spot) → HasJournal new (journal ++ entries_of batch) → HasSpot new spot (entries_of batch) → TablesOf old.log.host old.key tables (may.is.filed ++ batch_entries batch spot)
        → IsStoreOf (record { log = new; key = old.key; tables = tables; doubt = old.doubt }) (journal ++ entries_of batch) []
    after_commit tables spot has at is =
        subst (λ (j : List Entry). IsStoreOf (record { log = new; key = old.key; tables = tables; doubt = old.doubt }) (j ++ entries_of batch) []) (sym may.is.journal_is)
        (with_batch old.log new old.key tables may.is.filed batch spot follows may.is.there filed_sound (subst (λ (j : List Entry). HasJournal new (j ++ entries_of batch)) may.is.journal_is has) at is old.doubt may.settled)

    pub after_loss : HasJournal new journal → IsStoreOf (record { log = new; key = old.key; tables = old.tables; doubt = old.doubt }) journal []
    after_loss has =
        subst (λ (doubt : Option Batch). IsStoreOf (record { log = new; key = old.key; tables = old.tables; doubt = doubt }) journal []) (sym may.settled)
        (subst (λ (j : List Entry). IsStoreOf (record { log = new; key = old.key; tables = old.tables; doubt = None }) j []) (sym may.is.journal_is)
        (without_batch old.log new old.key old.tables may.is.filed None follows may.is.there (subst (λ (j : List Entry). Sound (j ++ []) old.log.host) may.is.journal_is may.is.sound)
        (subst (λ (j : List Entry). HasJournal new j) may.is.journal_is has) may.is.tables tt))

    pub after_doubt : HasDoubt new journal (entries_of batch) → IsStoreOf (record { log = new; key = old.key; tables = old.tables; doubt = Some batch }) journal (entries_of batch)
    after_doubt has =
        subst (λ (j : List Entry). IsStoreOf (record { log = new; key = old.key; tables = old.tables; doubt = Some batch }) j (entries_of batch)) (sym may.is.journal_is)
        (without_batch old.log new old.key old.tables may.is.filed (Some batch) follows may.is.there filed_sound
        (subst (λ (j : List Entry). HasDoubt new j (entries_of batch)) may.is.journal_is has) may.is.tables (some_entries (entries_of batch) may.entries, may.ready))

    -- where the log is in doubt, so is the batch; else it is lost
    pub commit_doubted : new.doubt ≢ None → FailsSo new → IsLostOrDoubted old (record { log = new; key = old.key; tables = old.tables; doubt = Some batch }) journal batch
    commit_doubted some (inl has) = absurd (some has.0.settled)
    commit_doubted some (inr has) = inr (after_doubt has.0, has.1)

    pub commit_lost : new.doubt ≡ None → FailsSo new → IsLostOrDoubted old (record { log = new; key = old.key; tables = old.tables; doubt = old.doubt }) journal batch
    commit_lost none (inl has) = inl (after_loss has.0, has.1)
    commit_lost none (inr has) = let some = has.0.doubt in absurd cc

-- ---- nothing in doubt

pub no_room : (key : Option (List ℕ)) (tables : Tables) (doubt : Option Batch) → doubt ≡ None → HasRoomForDoubt key tables doubt
no_room key tables None none = tt
no_room key tables (Some batch) none = absurd cc

rests_at : (through : Disk → Type 0) (history : Option History) → Arrives through (λ _. Unit {0}) history history
rests_at through None = refl
rests_at through (Some history) = (history, refl, record { later = []; all = tt; moments_are = refl }, tt)

pub settle_nothing : (log : LogSeen) (key : Option (List ℕ)) (tables : Tables) (was now : Option Batch) → was ≡ None → now ≡ None → (journal doubt : List Entry)
    → IsStoreOf (record { log = log; key = key; tables = tables; doubt = was }) journal doubt
    → IsStoreOf (record { log = log; key = key; tables = tables; doubt = now }) (settled journal doubt) [] × LeavesOneOfTwo journal doubt log log
settle_nothing log key tables (Some batch) now none none' journal doubt is = absurd cc
settle_nothing log key tables None (Some batch) none none' journal doubt is = absurd cc
settle_nothing log key tables None None none none' journal doubt is =
    let store : StoreSeen = record { log = log; key = key; tables = tables; doubt = None } in
    let alone : IsStoreOf store journal [] = subst (λ (more : List Entry). IsStoreOf store journal more) is.doubt_is is in
    let ended : IsStoreOf store (journal ++ []) [] = subst (λ (j : List Entry). IsStoreOf store j []) (sym (append-nil journal)) alone in (
      subst (λ (more : List Entry). IsStoreOf store (journal ++ map settled_entry more) []) (sym is.doubt_is) ended,
      rests_at _ log.disk.history,
    )

-- ---- room for a batch

pub made_ready : (log : LogSeen) (key : Option (List ℕ)) (was now : Tables) (doubt : Option Batch) (journal : List Entry) → doubt ≡ None
    → ((host : ℕ) (key : Option (List ℕ)) (filed : List Filed) → TablesOf host key was filed → TablesOf host key now filed)
    → IsStoreOf (record { log = log; key = key; tables = was; doubt = doubt }) journal [] → IsStoreOf (record { log = log; key = key; tables = now; doubt = doubt }) journal []
made_ready log key was now doubt journal none same is = record {
  filed = is.filed;
  journal_is = is.journal_is;
  doubt_is = is.doubt_is;
  log = is.log;
  sound = is.sound;
  there = is.there;
  tables = same log.host key is.filed is.tables;
  room = no_room key now doubt none;
}

pub may_commit : (store : StoreSeen) (journal : List Entry) (batch : Batch) (bytes : ReadyBatch) (caller : callers.Caller) (events : List model.Event) → IsStoreOf store journal [] → store.doubt ≡ None
    → batch.caller ≡ caller → batch.events.items ≡ events → bytes.offset ≡ store.log.gate → (shown : List model.Event) → shown ≡ events → bytes.body ≡ body_bytes (events_seen shown) → IsBatch (events_seen shown) → IsReadyBatch store.key store.tables batch
    → Sound (journal ++ map (entry_by (caller_seen caller)) events) store.log.host → MayCommit store journal batch bytes
may_commit store journal batch bytes caller events is none by_caller same placed shown are_shown body good ready sound =
    let say : events_seen shown ≡ events_of (entries_of batch) = ap events_seen (are_shown ∙ sym same) ∙ sym (batch_says batch) in
    let are : map (entry_by (caller_seen caller)) events ≡ entries_of batch = (λ i. map (entry_by (caller_seen (sym by_caller i))) (sym same i)) in record {
      is = is;
      settled = none;
      placed = placed;
      body = body ∙ ap body_bytes say;
      entries = subst IsBatch say good;
      sound = subst (λ (more : List Entry). Sound (journal ++ more) store.log.host) are sound;
      ready = ready;
    }

-- ---- settling

settled_are : (caller : Caller) (events : List model.Event) → map settled_entry (map (entry_by caller) events) ≡ map (entry_by (record { number = 0; call = caller.call; settled_for = caller.number })) events
settled_are caller [] = refl
settled_are caller (event ∷ events) = ap (λ (es : List Entry). entry_by (record { number = 0; call = caller.call; settled_for = caller.number }) event ∷ es) (settled_are caller events)

pub settled_says : (batch other : Batch) → caller_seen other.caller ≡ record { number = 0; call = batch.caller.call; settled_for = batch.caller.number } → other.events.items ≡ batch.events.items → map settled_entry (entries_of batch) ≡ entries_of other
settled_says batch other by same = settled_are (caller_seen batch.caller) batch.events.items ∙ (λ i. map (entry_by (sym by i)) (sym same i))

module _ (old : StoreSeen) (journal doubt : List Entry) (batch other : Batch) (is : IsStoreOf (record { log = old.log; key = old.key; tables = old.tables; doubt = Some batch }) journal doubt)
    (by : other.caller ≡ record { number = 0; call = batch.caller.call; settled_for = batch.caller.number }) (same : other.events ≡ batch.events) (rooms : other.rooms ≡ batch.rooms) where
  say_alike : events_of (entries_of batch) ≡ events_of (entries_of other)
  say_alike = batch_says batch ∙ ap (λ (es : Vec model.Event Global). events_seen es.items) (sym same) ∙ sym (batch_says other)

  -- the journal with the batch says what it says with the other
  all_alike : (before : List Entry) → events_of (before ++ entries_of batch) ≡ events_of (before ++ entries_of other)
  all_alike before = events_with before (entries_of batch) ∙ ap (λ (es : List Event). events_of before ++ es) say_alike ∙ sym (events_with before (entries_of other))

  sound_before : Sound (journal_of is.filed ++ entries_of batch) old.log.host
  sound_before = subst (λ (j : List Entry). Sound (j ++ entries_of batch) old.log.host) is.journal_is (subst (λ (more : List Entry). Sound (journal ++ more) old.log.host) is.doubt_is is.sound)

  sound_other : Sound (journal_of is.filed ++ entries_of other) old.log.host
  sound_other = subst (λ (es : List Event). SoundEvents es old.log.host) (all_alike (journal_of is.filed)) sound_before

  ready_other : IsReadyBatch old.key old.tables other
  ready_other = record {
    few = subst (λ (es : Vec model.Event Global). length es.items < 2 ^ 32) (sym same) is.room.1.few;
    entries = subst (λ (es : Vec model.Event Global). HasRoomFor old.tables.entries (events_seen es.items)) (sym same) is.room.1.entries;
    rooms = subst (λ (es : Vec model.Event Global). AreRooms old.key old.tables.kept (events_seen es.items) other.rooms.items) (sym same) (subst (λ (rs : Vec EventRoom Global). AreRooms old.key old.tables.kept (events_seen batch.events.items) rs.items) (sym rooms) is.room.1.rooms);
  }

  pub settle_adds : MayAddBatch old.log.host old.key old.tables is.filed other
  settle_adds = may_add old.log.host old.key old.tables is.filed other is.tables ready_other sound_other

  settled_is : journal_of is.filed ++ entries_of other ≡ settled journal doubt
  settled_is = (λ i. sym is.journal_is i ++ (sym (settled_says batch other (ap caller_seen by) (ap (λ (es : Vec model.Event Global). es.items) same)) ∙ ap (λ (es : List Entry). map settled_entry es) (sym is.doubt_is)) i)

  module _ (new : LogSeen) (follows : Follows old.log new) where
    pub after_settling : (tables : Tables) (spot : Spot) (none : Option Batch) → none ≡ None → HasJournal new (journal ++ entries_of batch) → HasSpot new spot (entries_of batch) → TablesOf old.log.host old.key tables (is.filed ++ batch_entries other spot)
        → IsStoreOf (record { log = new; key = old.key; tables = tables; doubt = none }) (settled journal doubt) []
    after_settling tables spot none settled has at now =
        subst (λ (j : List Entry). IsStoreOf (record { log = new; key = old.key; tables = tables; doubt = none }) j []) settled_is
        (with_batch old.log new old.key tables is.filed other spot follows is.there sound_other
        (same_journal new (journal_of is.filed ++ entries_of batch) (journal_of is.filed ++ entries_of other) (all_alike (journal_of is.filed)) (subst (λ (j : List Entry). HasJournal new (j ++ entries_of batch)) is.journal_is has))
        (subst (λ (es : List Event). Tells new.disk (λ d. BatchBefore new.gate d.shows spot es)) say_alike at) now none settled)

-- where settling failed
is_sound_behind : (old : StoreSeen) (journal doubt : List Entry) (batch : Batch) (is : IsStoreOf (record { log = old.log; key = old.key; tables = old.tables; doubt = Some batch }) journal doubt) → Sound (journal_of is.filed ++ entries_of batch) old.log.host
is_sound_behind old journal doubt batch is = subst (λ (j : List Entry). Sound (j ++ entries_of batch) old.log.host) is.journal_is (subst (λ (more : List Entry). Sound (journal ++ more) old.log.host) is.doubt_is is.sound)

pub after_failing : (old : StoreSeen) (journal doubt : List Entry) (batch : Batch) → IsStoreOf (record { log = old.log; key = old.key; tables = old.tables; doubt = Some batch }) journal doubt → (new : LogSeen) → Follows old.log new
    → HasDoubt new journal (entries_of batch) → IsStoreOf (record { log = new; key = old.key; tables = old.tables; doubt = Some batch }) journal doubt
after_failing old journal doubt batch is new follows has =
    let whole : IsStoreOf (record { log = new; key = old.key; tables = old.tables; doubt = Some batch }) (journal_of is.filed) (entries_of batch) =
    without_batch old.log new old.key old.tables is.filed (Some batch) follows is.there (is_sound_behind old journal doubt batch is) (subst (λ (j : List Entry). HasDoubt new j (entries_of batch)) is.journal_is has) is.tables is.room in
    subst (λ (j : List Entry). IsStoreOf (record { log = new; key = old.key; tables = old.tables; doubt = Some batch }) j doubt) (sym is.journal_is)
    (subst (λ (more : List Entry). IsStoreOf (record { log = new; key = old.key; tables = old.tables; doubt = Some batch }) (journal_of is.filed) more) (sym is.doubt_is) whole)

pub is_doubtful : (log : LogSeen) (journal : List Entry) (batch : Batch) → HasDoubt log journal (entries_of batch) → log.doubt ≢ None
is_doubtful log journal batch has = λ none. let some = has.doubt in absurd cc

pub some_held : (batch : Batch) → Some batch ≢ None
some_held batch = λ none. absurd cc

pub leaves_same : (old new : LogSeen) (journal doubt : List Entry) (batch : Batch) → doubt ≡ entries_of batch → LeavesOneOfTwo journal (entries_of batch) old new → LeavesOneOfTwo journal doubt old new
leaves_same old new journal doubt batch is leaves = subst (λ (more : List Entry). LeavesOneOfTwo journal more old new) (sym is) leaves

pub held_batch : (log : LogSeen) (key : Option (List ℕ)) (tables : Tables) (was : Option Batch) (journal doubt : List Entry) (batch : Batch) → was ≡ Some batch → IsStoreOf (record { log = log; key = key; tables = tables; doubt = was }) journal doubt
    → IsStoreOf (record { log = log; key = key; tables = tables; doubt = Some batch }) journal (entries_of batch)
held_batch log key tables was journal doubt batch some is =
    let now : IsStoreOf (record { log = log; key = key; tables = tables; doubt = Some batch }) journal doubt = subst (λ (d : Option Batch). IsStoreOf (record { log = log; key = key; tables = tables; doubt = d }) journal doubt) some is in
    subst (λ (more : List Entry). IsStoreOf (record { log = log; key = key; tables = tables; doubt = Some batch }) journal more) now.doubt_is now

-- ---- after each answer the store means something

pub means_after_commit : {E : Type 0} (old new : StoreSeen) (answer : Result (Unit {0}) E) (journal : List Entry) (batch : Batch) (bytes : ReadyBatch) → MayCommit old journal batch bytes → Commits old new answer batch bytes
    → (after : List Entry) × (doubt : List Entry) × IsStoreOf new after doubt
means_after_commit old new (Ok _) journal batch bytes may commits = (journal ++ entries_of batch, [], (commits journal may).0)
means_after_commit old new (Err _) journal batch bytes may commits = by (commits journal may)
  where
    by : IsLostOrDoubted old new journal batch → (after : List Entry) × (doubt : List Entry) × IsStoreOf new after doubt
    by (inl lost) = (journal, [], lost.0)
    by (inr held) = (journal, entries_of batch, held.0)

pub means_after_settle : {E : Type 0} (old new : StoreSeen) (answer : Result (Unit {0}) E) (journal doubt : List Entry) → IsStoreOf old journal doubt → Settles old new answer → (after : List Entry) × (doubt_after : List Entry) × IsStoreOf new after doubt_after
means_after_settle old new (Ok _) journal doubt is settles = (settled journal doubt, [], (settles journal doubt is).0)
means_after_settle old new (Err _) journal doubt is settles = (journal, doubt, (settles journal doubt is).0)
