-- What a crash leaves of a node, and what is opened then.
use Rattle.std.proofs.Common.{◌≡◌, ◌⊎◌, inl, inr, ℕ, ◌<◌, ◌^◌, List, [], ◌∷◌, ◌++◌, Option, Some, Result, Ok, Err, refl, sym, ap, ◌∙◌, subst, append-nil}
use Rattle.std.proofs.lemmas.List.{map-append}
use Rattle.std.specs.Prelude.{IfSome, IfOk}
use Rattle.record_rules.specs.Records.{Entry, Event}
use Rattle.record_rules.specs.Journal.{events_of}
use Rattle.record_rules.proofs.Soundness.{empty_sound}
use Rattle.log_rules.specs.Log.{current_form, header_bytes, StandsFor}
use Rattle.log_rules.specs.Opened.{opened_entry, opened_journal}
use Rattle.log_rules.proofs.Logs.{one_journal}
use Rattle.disk_rules.specs.Calls.{Sync}
use Rattle.disk_rules.specs.History.{History, Images, history_of}
use Rattle.session_rules.specs.Stores.{StoreState}
use Rattle.at_edge.specs.Storing.{DiskSeen, Succeeds, Arrives}
use Rattle.at_edge.specs.Crashing.{crash_image, Crashes}
use Rattle.session_crashes.specs.Crashes.{IsOfState, LeavesState, TurnLeaves}
use Rattle.told_store.specs.Told.{ToldSeen}
use Rattle.told_store.specs.Opening.{OpensTold}
use Rattle.world_nodes.specs.Nodes.{NodeSeen, node_of, LeavesJournal, IsReady}
use Rattle.world_nodes.specs.Events.{IsNodeOf, Becomes, OpensNode}

-- the events of a journal that is opened are those that it was opened of
pub opened_events : (events : List Event) → events_of (opened_journal events) ≡ events
opened_events [] = refl
opened_events (event ∷ events) = ap (λ es. event ∷ es) (opened_events events)

-- entries by nobody, behind others
pub nobodys_append : (journal batch : List Entry) → opened_journal (events_of journal) ≡ journal → opened_journal (events_of batch) ≡ batch → opened_journal (events_of (journal ++ batch)) ≡ journal ++ batch
nobodys_append journal batch one other =
    ap opened_journal (map-append (λ (entry : Entry). entry.event) journal batch) ∙ map-append opened_entry (events_of journal) (events_of batch) ∙ (λ i. one i ++ other i)

-- with nothing in doubt a crash leaves the journal
of_settled : (host : ℕ) (state : StoreState) (bytes : List ℕ) → state.doubt ≡ [] → IsOfState host state bytes → StandsFor current_form bytes host state.entries
of_settled host state bytes none (inl stands) = stands
of_settled host state bytes none (inr stands) = subst (StandsFor current_form bytes host) (ap (λ more. state.entries ++ more) none ∙ append-nil state.entries) stands

pub leaves_journal : (host : ℕ) (state : StoreState) (told : History) (history : Option History) → state.doubt ≡ [] → history ≡ Some told → LeavesState host state history → LeavesJournal host state.entries history
leaves_journal host state told history none is leaves =
    let images : Images (IsOfState host state) told.now = subst (λ seen. IfSome seen (λ (h : History). Images (IsOfState host state) h.now)) is leaves in
    record { told = told; is = is; images = λ bytes left. of_settled host state bytes none (images bytes left) }

-- what a turn leaves on a disk that tells
turn_told : (host : ℕ) (found left : StoreState) (old : History) (was new : Option History) → was ≡ Some old → TurnLeaves host found left was new → (told : History) × (new ≡ Some told) × Images (IsOfState host left) told.now
turn_told host found left old was new is turn =
    let run = subst (λ seen. Arrives (Images (λ bytes. IsOfState host found bytes ⊎ IsOfState host left bytes)) (Images (IsOfState host left)) seen new) is turn in
    (run.0, run.1, run.3)

pub turn_leaves_journal : (host : ℕ) (found left : StoreState) (journal : List Entry) (was new : Option History) → LeavesJournal host journal was → left.doubt ≡ [] → TurnLeaves host found left was new → LeavesJournal host left.entries new
turn_leaves_journal host found left journal was new leaves none turn =
    let told = turn_told host found left leaves.told was new leaves.is turn in
    record { told = told.0; is = told.1; images = λ bytes there. of_settled host left bytes none (told.2 bytes there) }

-- ---- opening

synced_told : (told : History) (was new : Option History) → was ≡ Some told → Succeeds Sync was new → (now : History) × (new ≡ Some now)
synced_told told was new is synced =
    let done = subst (λ seen. Succeeds Sync seen new) is synced in
    (done.0, done.1)

pub opens_node : (disk : DiskSeen) (store : ToldSeen) (key : List ℕ) (random : ℕ) → OpensTold disk store.store store.note → OpensNode disk.history key random (node_of store key random)
opens_node disk store key random opened told host journal is stands nobodys fits =
    let shown : StandsFor current_form told.now.shows store.store.log.host (opened_journal opened.events) = subst (λ seen. IfSome seen (λ (h : History). StandsFor current_form h.now.shows store.store.log.host (opened_journal opened.events))) is opened.shown in
    let same = one_journal current_form told.now.shows store.store.log.host host (opened_journal opened.events) journal shown stands in
    let events : opened.events ≡ events_of journal = sym (opened_events opened.events) ∙ same.1 in
    let journal_is : store.note.state.entries ≡ journal = opened.entries ∙ ap opened_journal events ∙ nobodys in
    let now = synced_told told disk.history store.store.log.disk.history is opened.synced.history in
    record {
      ready = record {
        settled = opened.settled;
        nobodys = ap (λ j. opened_journal (events_of j)) journal_is ∙ nobodys ∙ sym journal_is;
        leaves = leaves_journal store.store.log.host store.note.state now.0 store.store.log.disk.history opened.settled now.1 opened.leaves;
        random_fits = fits;
      };
      host_is = same.0;
      key_is = refl;
      journal_is = journal_is;
      random_is = refl;
    }

-- what a crash leaves of a node's disk opens as the node
pub crashed_node : (old : NodeSeen) (pick : ℕ) (left : Option History) (new : NodeSeen) → IsReady old → Crashes pick old.history left → OpensNode left old.key old.random new → Becomes old old.journal old.random new
crashed_node old pick left new ready crashed opens =
    let image = crash_image pick ready.leaves.told.now in
    let made = subst (λ (seen : Option History). Crashes pick seen left) ready.leaves.is crashed in
    opens (history_of image []) old.host old.journal made.0 (ready.leaves.images image made.1) ready.nobodys ready.random_fits

-- ---- a new log

new_log_stands : (host : ℕ) → host < 2 ^ 128 → StandsFor current_form (header_bytes current_form host ++ 0 ∷ []) host []
new_log_stands host fits = record {
  prefix = header_bytes current_form host;
  behind = [];
  opened = record { host_fits = fits; batches = []; opened = tt; events_are = refl; bytes_are = sym (append-nil (header_bytes current_form host)) };
  bytes_are = refl;
  sound = empty_sound host;
}

pub new_node : (host : ℕ) (key : List ℕ) (random : ℕ) (history : Option History) (new : NodeSeen) → host < 2 ^ 128 → random < 2 ^ 64 → history ≡ Some (history_of (header_bytes current_form host ++ 0 ∷ []) []) → OpensNode history key random new → IsNodeOf host key [] random new
new_node host key random history new host_fits random_fits is opens =
    opens (history_of (header_bytes current_form host ++ 0 ∷ []) []) host [] is (new_log_stands host host_fits) refl random_fits

-- the same of what comes back, where a node does
pub crashed_node_of : {E : Type 0} (old : NodeSeen) (store : ToldSeen) (key : List ℕ) (random pick : ℕ) (disk left : DiskSeen) (result : Result NodeSeen E) → node_of store key random ≡ old → IsReady old → disk ≡ store.store.log.disk → Crashes pick disk.history left.history
    → IfOk result (λ new. OpensNode left.history key random new) → IfOk result (λ new. Becomes old old.journal old.random new)
crashed_node_of old store key random pick disk left (Ok new) view ready disk_is crashed opens =
    let history : disk.history ≡ old.history = ap (λ (d : DiskSeen). d.history) disk_is ∙ ap (λ (n : NodeSeen). n.history) view in
    crashed_node old pick left.history new ready (subst (λ (seen : Option History). Crashes pick seen left.history) history crashed) (subst (λ (n : NodeSeen). OpensNode left.history n.key n.random new) view opens)
crashed_node_of old store key random pick disk left (Err e) view ready disk_is crashed opens = tt

pub new_node_of : {E : Type 0} (host : ℕ) (key : List ℕ) (random : ℕ) (history : Option History) (result : Result NodeSeen E) → host < 2 ^ 128 → random < 2 ^ 64 → history ≡ Some (history_of (header_bytes current_form host ++ 0 ∷ []) [])
    → IfOk result (λ new. OpensNode history key random new) → IfOk result (λ new. IsNodeOf host key [] random new)
new_node_of host key random history (Ok new) host_fits random_fits is opens = new_node host key random history new host_fits random_fits is opens
new_node_of host key random history (Err e) host_fits random_fits is opens = tt
