-- What a session leaves of a store that was opened for it.
use Rattle.std.proofs.Common.{◌≡◌, ◌⊎◌, inl, inr, ℕ, ◌≤◌, true, List, [], map, Option, Some, None, Result, refl, sym, ap, subst, arith}
use Rattle.std.specs.Prelude.{◌≢◌}
use Rattle.std.specs.Option.{unwrap_or, is_some}
use Rattle.definitions.specs.Counts.{Rose, RoseBy}
use Rattle.definitions.proofs.Counts.{Rose-later}
use Rattle.record_rules.specs.Records.{Entry}
use Rattle.log_rules.specs.Opened.{opened_journal}
use Rattle.step_rules.specs.Sealing.{keyed_store}
use Rattle.session_rules.specs.Sessions.{call_reply, told_random_faults, numbered_from, SessionReply}
use Rattle.session_rules.specs.Passes.{disk_faults}
use Rattle.session_rules.specs.Stores.{StoreState, last_left}
use Rattle.session_rules.proofs.Stores.{run_counts}
use Rattle.session_rules.proofs.Telling.{session_draws}
use Rattle.record_seal.proofs.StoreSealing.{record_sealing}
use Rattle.disk_rules.specs.History.{History}
use Rattle.session_crashes.specs.Crashes.{LeavesState, RunLeaves}
use Rattle.at_edge.specs.Storing.{DiskSeen, Tells}
use Rattle.record_log.specs.Opening.{LeavesNoMore}
use Rattle.at_edge.specs.declared.ending.Served.{Served}
use Rattle.at_edge.specs.declared.ending.SessionFail.{SessionFail}
use Rattle.call_supplies.specs.Supplies.{Supplies}
use Rattle.log_check.proofs.Telling.{tells_so}
use Rattle.session_seats.specs.Sessions.{Pipe, ServesAlone}
use Rattle.session_seats.specs.Stores.{StoreFixed, StoreSeen}
use Rattle.store_core.specs.Store.{IsStoreOf}
use Rattle.store_core.specs.Opening.{OpensStore}
use Rattle.told_store.specs.Told.{ToldSeen, HoldsEntries, DoubtsEntries}
use Rattle.told_store.specs.Opening.{OpensTold}
use Rattle.lone_store.specs.Lone.{lone_seen}
use Rattle.commands.specs.Logs.{HoldsJournal, DoubtsJournal}
use Rattle.store_commands.specs.Ends.{KeepsLog}
use Rattle.store_commands.specs.Piping.{opened_alone, EndsAsTold, PipesSession}
use Rattle.store_commands.proofs.Kept.{keeps}
use Rattle.store_commands.proofs.Doubts.{run_settles}
use Rattle.store_commands.proofs.Staying.{crash_keeps}

-- ---- the store that was opened

module _ (old : DiskSeen) (told : ToldSeen) (opens : OpensTold old told.store told.note) where
  opens_store : OpensStore old told.store
  opens_store = record {
    events = opens.events;
    is = subst (λ (doubt : List Entry). IsStoreOf told.store (opened_journal opens.events) doubt) opens.settled (subst (λ (entries : List Entry). IsStoreOf told.store entries told.note.state.doubt) opens.entries opens.first.told.is);
    shown = opens.shown;
    synced = opens.synced;
  }

  keeps_log : told.store.doubt ≡ None → KeepsLog told.store.log.host opens.events old told.store.log.disk
  unfolding opens_store
  keeps_log settled = keeps old told.store opens_store settled

  is_alone : (key : List ℕ) → told.store.key ≡ Some key → lone_seen told ≡ opened_alone told.store.log.host key opens.events told.store.log.disk
  is_alone key has = λ i. record {
    fixed = record { keyed = keyed_store record_sealing told.store.log.host (unwrap_or (has i) []); has_key = is_some (has i); number = 1; alone = true };
    state = record { entries = opens.entries i; doubt = opens.settled i; faults = opens.first.told.counted i };
    turns = Some (opens.first.none i);
    history = told.store.log.disk.history;
  }

-- ---- what the session leaves

module _ (outcome : Result Served SessionFail) (first last : StoreSeen) (before after : Supplies) (from to : Pipe) (serves : ServesAlone outcome first last before after from to) where
  last_is : last_left first.state serves.runs.turns ≡ last.state
  last_is = serves.runs.left_is

  -- each fault of the disk that was told was counted
  disk_counts : RoseBy (disk_faults (map call_reply serves.serves.replies)) first.state.faults last.state.faults
  disk_counts =
      subst (λ (s : StoreState). RoseBy (disk_faults (map call_reply serves.serves.replies)) first.state.faults s.faults) last_is
      (subst (λ (replies : List SessionReply). RoseBy (disk_faults replies) first.state.faults (last_left first.state serves.runs.turns).faults) serves.runs.replies_are
      (run_counts first.fixed.keyed first.fixed.number first.state serves.runs.turns serves.runs.run))

  random_counts : RoseBy (told_random_faults (map call_reply serves.serves.replies)) before.rand.faults after.rand.faults
  random_counts =
      let session = serves.serves.session in
      subst (λ (n : ℕ). RoseBy n before.rand.faults after.rand.faults)
      (sym (session_draws first.fixed.keyed first.state.entries first.fixed.number (numbered_from 1 serves.serves.asked) serves.serves.used (map call_reply serves.serves.replies) last.state.entries session)) serves.serves.uses.failed

  doubt_counts : first.state.doubt ≡ [] → (last.state.doubt ≡ []) ⊎ Rose first.state.faults last.state.faults
  doubt_counts none =
      subst (λ (s : StoreState). (s.doubt ≡ []) ⊎ Rose first.state.faults s.faults) last_is (run_settles first.fixed.keyed first.fixed.number first.state serves.runs.turns none serves.runs.run)

-- the disk, as the session's last turn left it
pub record LeftDisk (told : ToldSeen) (new : DiskSeen) : Type 0 where
  pub holds : told.note.state.doubt ≡ [] → Tells new (HoldsEntries told.store.log.host told.note.state.entries)
  pub doubts : told.note.state.doubt ≢ [] → Tells new (DoubtsEntries told.store.log.host told.note.state.entries told.note.state.doubt)
  pub counted : told.note.state.faults ≡ new.faults
  pub history : told.store.log.disk.history ≡ new.history

holds_there : (host there : ℕ) (entries : List Entry) (new : DiskSeen) → there ≡ host → Tells new (HoldsEntries there entries) → Tells new (HoldsJournal host entries)
holds_there host there entries new same = tells_so new (HoldsEntries there entries) (HoldsJournal host entries) (λ disk held. subst (λ (h : ℕ). HoldsJournal h entries disk) same (record { gate = held.0; log = held.1 }))

doubts_there : (host there : ℕ) (entries more : List Entry) (new : DiskSeen) → there ≡ host → Tells new (DoubtsEntries there entries more) → Tells new (DoubtsJournal host entries more)
doubts_there host there entries more new same = tells_so new (DoubtsEntries there entries more) (DoubtsJournal host entries more) (λ disk held. subst (λ (h : ℕ). DoubtsJournal h entries more disk) same (record { gate = held.0; log = held.1 }))

rose_since : (n before opened last new : ℕ) → before ≤ opened → RoseBy n opened last → last ≡ new → RoseBy n before new
rose_since n before opened last new grown rose same = omega (arith, grown, rose, same)

risen : (told some : Type 0) → told ⊎ some → (told → ⊥) → some
risen told some (inl is) none = absurd (none is)
risen told some (inr is) none = is

module _ (outcome : Result Served SessionFail) (key : List ℕ) (old new : DiskSeen) (told last : ToldSeen) (before after : Supplies) (from to : Pipe) where
  -- the session of a store that was opened on this disk
  pub pipes_session : OpensTold old told.store told.note → told.store.doubt ≡ None → told.store.key ≡ Some key → LeavesNoMore old.history told.store.log.disk.history → ServesAlone outcome (lone_seen told) (lone_seen last) before after from to → EndsAsTold outcome from → LeftDisk last new
      → PipesSession outcome key old new before after from to
  pipes_session opens settled has opening serves_lone ends left =
      let host = told.store.log.host in
      let opened = told.store.log.disk in
      let first = opened_alone host key opens.events opened in
      let serves : ServesAlone outcome first (lone_seen last) before after from to = subst (λ (s : StoreSeen). ServesAlone outcome s (lone_seen last) before after from to) (is_alone old told opens key has) serves_lone in
      let same : last.store.log.host ≡ host = ap (λ (f : StoreFixed). f.keyed.host) serves.serves.fixed in
      let start : LeavesState host first.state opened.history = subst (λ (s : StoreSeen). LeavesState host s.state opened.history) (is_alone old told opens key has) opens.leaves in
      let leaves : RunLeaves host first.state serves.runs.turns opened.history new.history = subst (λ (now : Option History). RunLeaves host first.state serves.runs.turns opened.history now) left.history serves.runs.crash in
      let grown : old.faults ≤ opened.faults = opens.synced.faults in
      let counts : RoseBy (disk_faults (map call_reply serves.serves.replies)) opened.faults last.note.state.faults = disk_counts outcome first (lone_seen last) before after from to serves in
      record {
        host = host;
        events = opens.events;
        opened = opened;
        keeps = keeps_log old told opens settled;
        last = lone_seen last;
        serves = serves;
        ends = ends;
        leaves = record {
          holds = λ none. holds_there host last.store.log.host last.note.state.entries new same (left.holds none);
          doubts = λ some. doubts_there host last.store.log.host last.note.state.entries last.note.state.doubt new same (left.doubts some);
          counted = λ some.
              let rose : Rose opened.faults last.note.state.faults = risen (last.note.state.doubt ≡ []) (Rose opened.faults last.note.state.faults) (doubt_counts outcome first (lone_seen last) before after from to serves refl) some in
              subst (λ (n : ℕ). Rose old.faults n) left.counted (Rose-later old.faults opened.faults last.note.state.faults grown rose);
        };
        crash = crash_keeps first.fixed.keyed first.fixed.number host first.state last.note.state serves.runs.turns old.history opened.history new.history serves.runs.run serves.runs.left_is opening start leaves;
        faults = record {
          of_disk = rose_since (disk_faults (map call_reply serves.serves.replies)) old.faults opened.faults last.note.state.faults new.faults grown counts left.counted;
          of_random = random_counts outcome first (lone_seen last) before after from to serves;
        };
      }
