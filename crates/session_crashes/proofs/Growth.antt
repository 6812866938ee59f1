-- What a turn leaves begins with what it found, by the events.
use Rattle.std.proofs.Common.{◌≡◌, ℕ, List, [], ◌∷◌, ◌++◌, map, refl, sym, ◌∙◌, ap, subst}
use Rattle.std.proofs.lemmas.List.{append-nil, map-append}
use Rattle.definitions.specs.Prefixes.{IsPrefix}
use Rattle.definitions.specs.Uses.{Used}
use Rattle.definitions.proofs.Prefixes.{prefix-of, prefix-itself, prefix-then}
use Rattle.record_rules.specs.Records.{Caller, Entry, Event}
use Rattle.record_rules.specs.Journal.{SoundEvents, events_of}
use Rattle.log_rules.specs.Log.{current_form, IsLogPrefix, StandsFor}
use Rattle.step_rules.specs.Store.{KeyedStore}
use Rattle.step_rules.specs.Turn.{settled_entry, settled}
use Rattle.session_rules.specs.Sessions.{Asked, SessionAnswer, caller_of}
use Rattle.session_rules.specs.Turns.{TurnAnswers}
use Rattle.session_rules.specs.Stores.{StoreState, RunTurn, IsRun, last_left}
use Rattle.session_rules.proofs.Stores.{TurnEnd, as_it_was, after_settling, after_failing, turn_end}
use Rattle.session_crashes.specs.Crashes.{with_doubt}

-- ---- events

events_behind : (journal more : List Entry) → events_of (journal ++ more) ≡ events_of journal ++ events_of more
events_behind journal more = map-append (λ (e : Entry). e.event) journal more

settled_says : (batch : List Entry) → events_of (map settled_entry batch) ≡ events_of batch
settled_says [] = refl
settled_says (entry ∷ batch) = ap (λ (events : List Event). entry.event ∷ events) (settled_says batch)

-- a batch says the same once it is settled
pub settled_alike : (journal doubt : List Entry) → events_of (settled journal doubt) ≡ events_of (journal ++ doubt)
settled_alike journal doubt = events_behind journal (map settled_entry doubt) ∙ ap (λ (events : List Event). events_of journal ++ events) (settled_says doubt) ∙ sym (events_behind journal doubt)

-- bytes stand for each journal that says the same
pub stands_alike : (bytes : List ℕ) (host : ℕ) (journal other : List Entry) → events_of journal ≡ events_of other → StandsFor current_form bytes host journal → StandsFor current_form bytes host other
stands_alike bytes host journal other same stands = record {
  prefix = stands.prefix;
  behind = stands.behind;
  opened = subst (λ (events : List Event). IsLogPrefix current_form stands.prefix host events) same stands.opened;
  bytes_are = stands.bytes_are;
  sound = subst (λ (events : List Event). SoundEvents events host) same stands.sound;
}

-- ---- what one list says begins what another says

abbrev pub Says : List Entry → List Entry → Type 0
Says first whole = IsPrefix (events_of first) (events_of whole)

pub says_itself : (journal : List Entry) → Says journal journal
says_itself journal = prefix-itself (events_of journal)

pub says_then : (one two three : List Entry) → Says one two → Says two three → Says one three
says_then one two three first next = prefix-then (events_of one) (events_of two) (events_of three) first next

pub says_more : (journal more : List Entry) → Says journal (journal ++ more)
says_more journal more = prefix-of (events_of journal) (events_of more) (events_of (journal ++ more)) (sym (events_behind journal more))

says_same : (journal other : List Entry) → events_of journal ≡ events_of other → Says journal other
says_same journal other same = subst (λ (events : List Event). IsPrefix (events_of journal) events) same (says_itself journal)

-- what is settled, and what stands behind it
says_settled : (journal doubt more : List Entry) → Says (journal ++ doubt) (settled journal doubt ++ more)
says_settled journal doubt more = says_then (journal ++ doubt) (settled journal doubt) (settled journal doubt ++ more) (says_same (journal ++ doubt) (settled journal doubt) (sym (settled_alike journal doubt))) (says_more (settled journal doubt) more)

-- ---- a turn

-- no entry goes, with what is in doubt and without it
pub record Grows (found left : StoreState) : Type 0 where
  pub entries : Says found.entries left.entries
  pub all : Says (with_doubt found) (with_doubt left)

module _ (found left : StoreState) where
  as_found : left.entries ≡ found.entries → left.doubt ≡ found.doubt → Grows found left
  as_found entries doubt = record {
    entries = says_same found.entries left.entries (ap events_of (sym entries));
    all = says_same (with_doubt found) (with_doubt left) (λ i. events_of (sym entries i ++ sym doubt i));
  }

  after_commit : (commit : List Entry) → left.entries ≡ settled found.entries found.doubt ++ commit → Grows found left
  after_commit commit is =
      let behind : Says (with_doubt found) left.entries = subst (λ (entries : List Entry). Says (with_doubt found) entries) (sym is) (says_settled found.entries found.doubt commit) in
      record {
        entries = says_then found.entries (with_doubt found) left.entries (says_more found.entries found.doubt) behind;
        all = says_then (with_doubt found) left.entries (with_doubt left) behind (says_more left.entries left.doubt);
      }

  module _ (store : KeyedStore) (caller : Caller) (asked : Asked) (used : Used) (answer : SessionAnswer) where
    by_end : TurnEnd store found.entries found.doubt caller asked used left.entries left.doubt answer → Grows found left
    by_end (as_it_was entries doubt) = as_found entries doubt
    by_end (after_settling commit is _ _) = after_commit commit is
    by_end (after_failing is _) = after_commit [] (is ∙ sym (append-nil (settled found.entries found.doubt)))

    pub turn_grows : TurnAnswers store found.entries found.doubt caller asked used left.entries left.doubt answer → Grows found left
    turn_grows turn = by_end (turn_end store found.entries found.doubt caller asked used left.entries left.doubt answer turn)

-- ---- a run

grows_then : (one two three : StoreState) → Grows one two → Grows two three → Grows one three
grows_then one two three first next = record {
  entries = says_then one.entries two.entries three.entries first.entries next.entries;
  all = says_then (with_doubt one) (with_doubt two) (with_doubt three) first.all next.all;
}

pub entries_grow : (store : KeyedStore) (number : ℕ) (first : StoreState) (turns : List RunTurn) → IsRun store number first turns → Grows first (last_left first turns)
entries_grow store number first [] run = record { entries = says_itself first.entries; all = says_itself (with_doubt first) }
entries_grow store number first (one ∷ more) run =
    grows_then first one.left (last_left one.left more) (turn_grows first one.left store (caller_of number one.request.call) one.request.asked one.used one.reply.answer run.0.turn.answers) (entries_grow store number one.left more run.1)
