-- What a page that was told of a node's store is of the node, and a read.
use Rattle.std.proofs.Common.{◌≡◌, ℕ, List, [], ◌++◌, refl, sym, subst}
use Rattle.record_rules.specs.Records.{SealedRecord, Entry}
use Rattle.record_rules.specs.Journal.{events_of}
use Rattle.record_rules.specs.Growth.{PageRefusal}
use Rattle.log_rules.specs.Opened.{opened_journal}
use Rattle.step_rules.specs.PageTurns.{PageAnswer, took, page_refused, PageTurn}
use Rattle.told_store.specs.Told.{ToldSeen}
use Rattle.told_store.specs.Asked.{PageTold, HasRead}
use Rattle.world_nodes.specs.Nodes.{node_of, LeavesJournal, IsReady}
use Rattle.world_nodes.specs.Events.{Becomes, Grows, Stays}
use Rattle.world_nodes.proofs.Left.{nobodys_append, turn_leaves_journal}
use Rattle.store_core.specs.Opening.{nobody}
use Rattle.world_nodes.proofs.Growth.{took_page, refused_whole, page_turn_of, grown_nobodys}

module _ (was new : ToldSeen) (key : List ℕ) (random : ℕ) (records : List SealedRecord) (answer : PageAnswer) (ready : IsReady (node_of was key random))
    (told : PageTold was.store was.note new.store new.note nobody 0 records answer) (host : new.store.log.host ≡ was.store.log.host) where
  turn_here : PageTurn was.note.state.entries was.note.state.doubt nobody 0 records new.note.state.entries new.note.state.doubt answer
  turn_here = page_turn_of _ was.note.state.entries was.note.state.doubt nobody 0 records new.note.state.entries new.note.state.doubt answer told.turn.answers

  becomes_with : (journal : List Entry) → new.note.state.entries ≡ journal → new.note.state.doubt ≡ [] → opened_journal (events_of journal) ≡ journal → Becomes (node_of was key random) journal random (node_of new key random)
  becomes_with journal is none nobodys = record {
    ready = record {
      settled = none;
      nobodys = subst (λ (j : List Entry). opened_journal (events_of j) ≡ j) (sym is) nobodys;
      leaves = subst (λ (h : ℕ). LeavesJournal h new.note.state.entries new.store.log.disk.history) (sym host)
          (turn_leaves_journal was.store.log.host was.note.state new.note.state was.note.state.entries was.store.log.disk.history new.store.log.disk.history ready.leaves none told.leaves);
      random_fits = ready.random_fits;
    };
    host_is = host;
    key_is = refl;
    journal_is = is;
    random_is = refl;
  }

  pub page_grows : (added : ℕ) → answer ≡ took added → Grows (node_of was key random) (node_of new key random) records
  page_grows added is =
      let grew = took_page was.note.state.entries nobody 0 records new.note.state.entries new.note.state.doubt was.note.state.doubt answer added ready.settled is turn_here in
      record {
        batch = grew.batch;
        grown = grew.grown;
        becomes = becomes_with (was.note.state.entries ++ grew.batch) grew.becomes grew.none (nobodys_append was.note.state.entries grew.batch ready.nobodys (grown_nobodys was.note.state.entries 0 records grew.batch grew.grown));
      }

  pub page_stays : (refusal : PageRefusal) → answer ≡ page_refused refusal → Stays (node_of was key random) (node_of new key random) records refusal
  page_stays refusal is =
      let stayed = refused_whole was.note.state.entries nobody 0 records new.note.state.entries new.note.state.doubt was.note.state.doubt answer refusal ready.settled is turn_here in
      record { refuses = stayed.refuses; stays = becomes_with was.note.state.entries stayed.stays stayed.none ready.nobodys }

-- a read leaves the node
pub read_stays : (was new : ToldSeen) (key : List ℕ) (random : ℕ) → HasRead was.note new.store new.note → new.store.log.host ≡ was.store.log.host → new.store.log.disk.history ≡ was.store.log.disk.history → node_of new key random ≡ node_of was key random
read_stays was new key random read host history = λ i. record { host = host i; key = key; journal = read.entries i; doubt = read.doubt i; history = history i; random = random }
