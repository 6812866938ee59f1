-- Turns in which a page is taken or refused, and reads.
use Rattle.std.proofs.Common.{◌≡◌, ℕ, List, [], ◌∷◌, ◌++◌, map, Option, Some, None, Ok, Err, refl, ap, ◌∙◌, subst, append-nil}
use Rattle.std.specs.Prelude.{IfSome}
use Rattle.definitions.specs.Uses.{used_nothing}
use Rattle.record_rules.specs.Records.{SealedRecord, Caller, Entry}
use Rattle.record_rules.specs.Journal.{ChainCount, events_of, own_events, records_of, status}
use Rattle.record_rules.specs.Growth.{PageRefusal, taken_entry, batch_or, fresh_of, first_refusal, grow}
use Rattle.record_rules.specs.Answers.{page}
use Rattle.log_rules.specs.Opened.{opened_journal}
use Rattle.disk_rules.specs.History.{History}
use Rattle.step_rules.specs.Store.{KeyedStore}
use Rattle.step_rules.specs.Turn.{settled}
use Rattle.step_rules.specs.PageTurns.{PageAnswer, took, page_refused, PageTurn, unsettled_page, taken_page, refused_page, uncommitted_page, short_page, short_settled_page}
use Rattle.step_rules.specs.ReadTurns.{page_read, status_read, told_page, told_status, ReadTurn, tells_status, tells_page, tells_front, faults_on_page, wants_memory}
use Rattle.session_rules.specs.Sessions.{a_page, to_page}
use Rattle.session_rules.specs.Turns.{TurnAnswers, answers_call, answers_unread, answers_bad, answers_page, answers_read, answers_unrouted}
use Rattle.store_core.specs.Opening.{nobody}

-- ---- a page that comes in

module _ (journal : List Entry) (caller : Caller) (owner : ℕ) (records : List SealedRecord) (after doubt_after : List Entry) where
  pub record Grew : Type 0 where
    pub batch : List Entry
    pub grown : grow journal caller owner records ≡ Ok batch
    pub becomes : after ≡ journal ++ batch
    pub none : doubt_after ≡ []

  pub record Stayed (refusal : PageRefusal) : Type 0 where
    pub refuses : grow journal caller owner records ≡ Err refusal
    pub stays : after ≡ journal
    pub none : doubt_after ≡ []

  settled_is : (doubt : List Entry) → doubt ≡ [] → settled journal doubt ≡ journal
  settled_is doubt none = ap (settled journal) none ∙ append-nil journal

  pub took_page : (doubt : List Entry) (answer : PageAnswer) (added : ℕ) → doubt ≡ [] → answer ≡ took added → PageTurn journal doubt caller owner records after doubt_after answer → Grew
  took_page doubt answer added none is (unsettled_page _ _ told) = absurd cc
  took_page doubt answer added none is (taken_page batch grows leaves told) = record {
    batch = batch;
    grown = subst (λ (j : List Entry). grow j caller owner records ≡ Ok batch) (settled_is doubt none) grows;
    becomes = leaves.journal_is ∙ ap (λ (j : List Entry). j ++ batch) (settled_is doubt none);
    none = leaves.doubt_is;
  }
  took_page doubt answer added none is (refused_page _ _ _ told) = absurd cc
  took_page doubt answer added none is (uncommitted_page _ _ _ _ _ _ told) = absurd cc
  took_page doubt answer added none is (short_page _ told) = absurd cc
  took_page doubt answer added none is (short_settled_page _ told) = absurd cc

  pub refused_whole : (doubt : List Entry) (answer : PageAnswer) (refusal : PageRefusal) → doubt ≡ [] → answer ≡ page_refused refusal → PageTurn journal doubt caller owner records after doubt_after answer → Stayed refusal
  refused_whole doubt answer refusal none is (unsettled_page _ _ told) = absurd cc
  refused_whole doubt answer refusal none is (taken_page _ _ _ told) = absurd cc
  refused_whole doubt answer refusal none is (refused_page other refuses leaves told) =
      let same : other ≡ refusal = cc in
      record {
        refuses = subst (λ (j : List Entry). grow j caller owner records ≡ Err refusal) (settled_is doubt none) (refuses ∙ ap Err same);
        stays = leaves.journal_is ∙ settled_is doubt none;
        none = leaves.doubt_is;
      }
  refused_whole doubt answer refusal none is (uncommitted_page _ _ _ _ _ _ told) = absurd cc
  refused_whole doubt answer refusal none is (short_page _ told) = absurd cc
  refused_whole doubt answer refusal none is (short_settled_page _ told) = absurd cc

-- a page's turn, of the answers of turns
pub page_turn_of : (store : KeyedStore) (journal doubt : List Entry) (caller : Caller) (owner : ℕ) (records : List SealedRecord) (after doubt_after : List Entry) (answer : PageAnswer)
    → TurnAnswers store journal doubt caller (a_page owner records) used_nothing after doubt_after (to_page answer) → PageTurn journal doubt caller owner records after doubt_after answer
page_turn_of store journal doubt caller owner records after doubt_after answer (answers_page of_owner others given is _ turn told) =
    let same_owner : of_owner ≡ owner = cc in
    let same_records : others ≡ records = cc in
    let same_answer : given ≡ answer = cc in
    subst (PageTurn journal doubt caller owner records after doubt_after) same_answer (subst (λ (rs : List SealedRecord). PageTurn journal doubt caller owner rs after doubt_after given) same_records (subst (λ (o : ℕ). PageTurn journal doubt caller o others after doubt_after given) same_owner turn))
page_turn_of store journal doubt caller owner records after doubt_after answer (answers_call _ _ is _ _) = absurd cc
page_turn_of store journal doubt caller owner records after doubt_after answer (answers_unread _ is _ _ _) = absurd cc
page_turn_of store journal doubt caller owner records after doubt_after answer (answers_bad _ is _ _ _) = absurd cc
page_turn_of store journal doubt caller owner records after doubt_after answer (answers_read _ _ is _ _ _) = absurd cc
page_turn_of store journal doubt caller owner records after doubt_after answer (answers_unrouted _ is _ _ _) = absurd cc

-- what a page adds in nobody's call is by nobody
taken_nobodys : (owner : ℕ) (records : List SealedRecord) → opened_journal (events_of (map (taken_entry nobody owner) records)) ≡ map (taken_entry nobody owner) records
taken_nobodys owner [] = refl
taken_nobodys owner (r ∷ records) = ap (λ (es : List Entry). taken_entry nobody owner r ∷ es) (taken_nobodys owner records)

batch_is : (made batch : List Entry) (refusal : Option PageRefusal) → batch_or made refusal ≡ Ok batch → made ≡ batch
batch_is made batch None is = cc
batch_is made batch (Some refusal) is = absurd cc

pub grown_nobodys : (journal : List Entry) (owner : ℕ) (records : List SealedRecord) (batch : List Entry) → grow journal nobody owner records ≡ Ok batch → opened_journal (events_of batch) ≡ batch
grown_nobodys journal owner records batch is =
    subst (λ (b : List Entry). opened_journal (events_of b) ≡ b)
    (batch_is (map (taken_entry nobody owner) (fresh_of (records_of (own_events journal owner)) records)) batch (first_refusal owner (own_events journal owner) [] records) is)
    (taken_nobodys owner (fresh_of (records_of (own_events journal owner)) records))

-- ---- reads

page_told_is : (journal doubt : List Entry) (host : ℕ) (tag : List ℕ) (start count : ℕ) (after doubt_after : List Entry) (records : List SealedRecord) → ReadTurn journal doubt (page_read 0 host tag start count) after doubt_after (told_page records) → records ≡ page journal 0 host tag start count
page_told_is journal doubt host tag start count after doubt_after records (tells_page owner of_host of_tag from_start of_count is _ told) =
    let same_owner : owner ≡ 0 = cc in
    let same_host : of_host ≡ host = cc in
    let same_tag : of_tag ≡ tag = cc in
    let same_start : from_start ≡ start = cc in
    let same_count : of_count ≡ count = cc in
    let same : records ≡ page journal owner of_host of_tag from_start of_count = cc in
    same ∙ (λ i. page journal (same_owner i) (same_host i) (same_tag i) (same_start i) (same_count i))
page_told_is journal doubt host tag start count after doubt_after records (tells_status _ is _ _) = absurd cc
page_told_is journal doubt host tag start count after doubt_after records (tells_front is _ _) = absurd cc
page_told_is journal doubt host tag start count after doubt_after records (faults_on_page _ _ _ _ _ _ _ told) = absurd cc
page_told_is journal doubt host tag start count after doubt_after records (wants_memory _ _ told) = absurd cc

-- on a disk that tells, a page is what the chain holds
pub page_told : (told : History) (history : Option History) (journal doubt : List Entry) (host : ℕ) (tag : List ℕ) (start count : ℕ) (after doubt_after : List Entry) (records : List SealedRecord) → history ≡ Some told
    → IfSome history (λ (h : History). ReadTurn journal doubt (page_read 0 host tag start count) after doubt_after (told_page records)) → records ≡ page journal 0 host tag start count
page_told told history journal doubt host tag start count after doubt_after records is tells =
    page_told_is journal doubt host tag start count after doubt_after records (subst (λ (seen : Option History). IfSome seen (λ (h : History). ReadTurn journal doubt (page_read 0 host tag start count) after doubt_after (told_page records))) is tells)

-- and a status
pub status_told_is : (journal doubt : List Entry) (after doubt_after : List Entry) (chains : List ChainCount) → ReadTurn journal doubt (status_read 0) after doubt_after (told_status chains) → chains ≡ status journal 0
status_told_is journal doubt after doubt_after chains (tells_status owner is _ told) =
    let same_owner : owner ≡ 0 = cc in
    let same : chains ≡ status journal owner = cc in
    same ∙ ap (status journal) same_owner
status_told_is journal doubt after doubt_after chains (tells_page _ _ _ _ _ is _ _) = absurd cc
status_told_is journal doubt after doubt_after chains (tells_front is _ _) = absurd cc
status_told_is journal doubt after doubt_after chains (faults_on_page _ _ _ _ _ is _ _) = absurd cc
status_told_is journal doubt after doubt_after chains (wants_memory _ _ told) = absurd cc
