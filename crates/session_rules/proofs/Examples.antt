-- The examples, computed.
use Rattle.std.proofs.Common.{◌≡◌, ◌⊎◌, ℕ, zero, suc, ◌+◌, ◌≤◌, Bool, Option, Some, None, List, [], ◌∷◌, ◌++◌, length, take, filter, true, false, inl, inr, refl, sym, ◌∙◌, ap, subst, arith, length-append}
use Rattle.std.specs.Prelude.{codes, All, ◌<◌, ◌-◌, ◌^◌, ◌==◌, ◌&&◌, not, slice_get, replicate}
use Rattle.std.proofs.lemmas.Bool.{true≢false}
use Rattle.std.proofs.lemmas.Option.{none-some, same_Some}
use Rattle.std.proofs.lemmas.List.{append-nil, append_cancel_left, length-replicate}
use Rattle.std.proofs.lemmas.List.Elements.{All-from_recursion}
use Rattle.definitions.specs.Counts.{last_count, Rose, RoseBy}
use Rattle.definitions.specs.Spelling.{shortest_text, text_head, written_text, written_array}
use Rattle.definitions.specs.Replies.{written_number, ok_bytes}
use Rattle.definitions.specs.Ids.{id_text, made_id}
use Rattle.definitions.specs.Uses.{Used, used_nothing, read_clock, read_and_drew, read_and_failed}
use Rattle.definitions.proofs.Uses.{then_used-nothing}
use Rattle.definitions.specs.Examples.{first_time, ten_bytes}
use Rattle.record_rules.specs.Records.{Caller, Entry}
use Rattle.record_rules.specs.Growth.{PageGap, taken_entry}
use Rattle.record_rules.specs.Examples.{kv_record}
use Rattle.step_rules.specs.Answers.{began, stored, places, refused, disk_fault}
use Rattle.record_rules.proofs.Members.{Has}
use Rattle.view_rules.proofs.Records.{Has-from_Contains}
use Rattle.step_rules.specs.Calls.{status_call}
use Rattle.step_rules.specs.Store.{KeyedStore}
use Rattle.step_rules.specs.Turn.{used_clock, used_bytes, read_turn, step_turn}
use Rattle.step_rules.specs.Step.{Ready, start_draft, start_drafts, append_step, read_step, shows_places}
use Rattle.step_rules.specs.PageTurns.{took, page_refused, page_faulted, page_no_memory, taken_page, uncommitted_page, short_page}
use Rattle.step_rules.specs.ReadTurns.{status_read, page_read, told_status, told_page as told_records, read_faulted, read_no_memory, tells_status, tells_page, faults_on_page, wants_memory}
use Rattle.step_rules.specs.Examples.{second_time, ls_call, two_records}
use Rattle.step_rules.proofs.Steps.{Step-adds}
use Rattle.step_rules.proofs.ReadTurns.{ReadTurn-stands}
use Rattle.request_rules.proofs.Examples.{calls, faults}
use Rattle.session_rules.specs.Sessions.{Asked, a_call, no_call, a_page, a_read, unrouted, no_memory_code, caller_of, SessionRequest, SessionReply, numbered_from, requests_of, replies_of, commits_of, IsServed, Serves, Told, told_disk_fault, told_random_fault, told_no_memory, told_no_memory_at_once, Session, SessionAnswer, to_call, to_page, to_read, to_unrouted, ServedRequest, is_of, told_step, told_bad, told_no_memory_for_bad, told_page, told_page_refused, told_page_disk_fault, told_page_no_memory, told_read, told_unrouted, told_no_memory_for_unrouted}
use Rattle.session_rules.specs.Turns.{TurnAnswers, answers_call, answers_unread, answers_bad, answers_page, answers_read, answers_unrouted}
use Rattle.session_rules.specs.Passes.{TurnItem, Pass, failures, tells_disk_fault, TurnsFor}
use Rattle.session_rules.specs.Books.{Finds}
use Rattle.session_rules.specs.Stores.{StoreTurn, IsRunTurn}
use Rattle.session_rules.specs.Http.{route_codes, IsHttp, response_code}
use Rattle.session_rules.proofs.Growing.{batch_of_caller}
use Rattle.session_rules.specs.Examples.{high_bytes, high_id, started_by, both, a_turn, another_turn, by_first, by_second, once_settled, pass_at, book_at, state_at, status_turn, posted, http_asked, http_answers, by_second_call, worker_batch, worker_journal, WorkedReplies, WorkedSessions, WorkedPages, WorkedReading, WorkedPass, WorkedBook, WorkedRuns, WorkedHttp}

-- a reply is longer than the text in it
longer_than : (text : List ℕ) → length text ≤ length (ok_bytes 0 (written_text text))
longer_than text =
    let first = length-append (written_array 3) (written_number 0 ++ (written_number 0 ++ written_text text)) in
    let second = length-append (written_number 0) (written_number 0 ++ written_text text) in
    let third = length-append (written_number 0) (written_text text) in
    let last = length-append (text_head (shortest_text (length text)) (length text)) text in
    omega (arith, first, second, third, last)

no_reply : (text : List ℕ) → length text ≡ 2 ^ 31 → length (ok_bytes 0 (written_text text)) ≤ 2 ^ 31 - 1 → ⊥
no_reply text many short = let longer = longer_than text in omega (arith, many, short, longer)

long_value : length (ok_bytes 0 (written_text (replicate (2 ^ 31) 0x61))) ≤ 2 ^ 31 - 1 → ⊥
long_value = let byte : ℕ = 0x61 in no_reply (replicate (2 ^ 31) byte) (length-replicate (2 ^ 31) byte)

pub replies : WorkedReplies
unfolding id_text
replies = record { long_command = refl; never_ran = refl; no_alias = refl; is_full = refl; no_bytes = refl; id_held = refl; no_disk = refl; no_memory_left = refl; byte_behind = refl; one_begun = refl; first_stored = refl; one_hit = refl; a_value = refl; no_value = refl; two_keys = refl; one_alias = refl; one_place = refl; too_long_a_value = long_value }

-- no other turn stands there, and it didn't fail
same_turn : (answer : SessionAnswer) (turns : List TurnItem) → tells_disk_fault answer ≡ true → record { found = 1; left = 1; failed = false } ∷ [] ≡ turns → TurnsFor turns (record { front = 1; answer = answer } ∷ []) → ⊥
same_turn answer turns fault is told = let here = subst (λ t. TurnsFor t (record { front = 1; answer = answer } ∷ [])) (sym is) told in true≢false (sym (here.1 fault))

abbrev served : (call : ℕ) (asked : Asked) (used : Used) (commit : List Entry) (front : ℕ) (answer : SessionAnswer) → ServedRequest
served call asked used commit front answer = record { request = record { call = call; asked = asked }; used = used; commit = commit; reply = record { front = front; answer = answer } }

-- one request at an empty journal, of which nothing is left
left_empty : (store : KeyedStore) (number : ℕ) (asked : Asked) (used : Used) (answer : SessionAnswer) → Told store [] (caller_of number 1) asked 0 used answer [] → Session store [] number (numbered_from 1 (asked ∷ [])) used (record { front = 0; answer = answer } ∷ []) []
left_empty store number asked used answer told = record {
  since = [];
  begins = refl;
  served = served 1 asked used [] 0 answer ∷ [];
  requests_are = refl;
  used_is = then_used-nothing used;
  replies_are = refl;
  serves = (record { behind = omega arith; within = omega arith; told = told }, tt);
  own_are = refl;
}

ready : (store : KeyedStore) → Ready store [] ls_call (start_draft (codes "ls") (codes "/") (codes "s1") (codes "h:u"))
ready store = record { short = refl; drafts = start_drafts _ _ _ _ refl refl; room = refl }

pub sessions : WorkedSessions
sessions = record {
  first = λ store. record {
    since = both;
    begins = refl;
    served = served 1 (a_call ls_call) (read_and_drew second_time ten_bytes) (started_by 1 (made_id second_time ten_bytes) second_time ∷ []) 2 (to_call (began (made_id second_time ten_bytes))) ∷ [];
    requests_are = refl;
    used_is = refl;
    replies_are = refl;
    own_are = refl;
    serves = (
      record {
        behind = omega arith;
        within = omega arith;
        told = told_step ls_call (started_by 2 high_id first_time ∷ []) _ refl refl (append_step second_time ten_bytes (start_draft (codes "ls") (codes "/") (codes "s1") (codes "h:u")) refl refl (record { short = refl; drafts = start_drafts _ _ _ _ refl refl; room = refl }) refl refl refl) refl;
      },
      tt,
    );
  };
  second = λ store. record {
    since = both;
    begins = refl;
    served = served 1 (a_call ls_call) (read_and_drew first_time high_bytes) (started_by 2 high_id first_time ∷ []) 1 (to_call (began high_id)) ∷ [];
    requests_are = refl;
    used_is = refl;
    replies_are = refl;
    own_are = refl;
    serves = (
      record {
        behind = omega arith;
        within = omega arith;
        told = told_step ls_call [] _ refl refl (append_step first_time high_bytes (start_draft (codes "ls") (codes "/") (codes "s1") (codes "h:u")) refl refl (record { short = refl; drafts = start_drafts _ _ _ _ refl refl; room = refl }) refl refl refl) refl;
      },
      tt,
    );
  };
  two_connections = λ store. record {
    since = started_by 1 (made_id second_time ten_bytes) second_time ∷ [];
    begins = refl;
    served = served 1 (a_call ls_call) (read_and_drew second_time ten_bytes) (started_by 1 (made_id second_time ten_bytes) second_time ∷ []) 1 (to_call (began (made_id second_time ten_bytes))) ∷ served 1 (a_call status_call) used_nothing [] 1 (to_call (places [])) ∷ [];
    requests_are = refl;
    used_is = refl;
    replies_are = refl;
    own_are = refl;
    serves = (
      record {
        behind = omega arith;
        within = omega arith;
        told = told_step ls_call [] _ refl refl (append_step second_time ten_bytes (start_draft (codes "ls") (codes "/") (codes "s1") (codes "h:u")) refl refl (record { short = refl; drafts = start_drafts _ _ _ _ refl refl; room = refl }) refl refl refl) refl;
      },
      (record { behind = omega arith; within = omega arith; told = told_step status_call (started_by 1 (made_id second_time ten_bytes) second_time ∷ []) _ refl refl (read_step refl (shows_places refl refl) refl) refl }, tt),
    );
  };
  no_call_told = λ store. left_empty store 1 (no_call 14) used_nothing _ (told_bad 14 refl refl refl refl);
  no_call_unheld = λ store. left_empty store 1 (no_call 14) used_nothing _ (told_no_memory_for_bad 14 refl refl refl refl);
  disk_failed = λ store. left_empty store 1 (a_call ls_call) (read_clock first_time) _ (told_disk_fault ls_call refl refl (used_clock first_time refl) refl refl);
  commit_failed = λ store. left_empty store 1 (a_call ls_call) (read_and_drew first_time ten_bytes) _ (told_disk_fault ls_call refl refl (used_bytes first_time _ ten_bytes (ready store) refl refl) refl refl);
  draw_failed = λ store. left_empty store 1 (a_call ls_call) (read_and_failed first_time) _ (told_random_fault ls_call _ first_time refl (ready store) refl refl refl);
  unheld = λ store. left_empty store 1 (a_call ls_call) (read_and_drew first_time ten_bytes) _ (told_no_memory ls_call refl refl (used_bytes first_time _ ten_bytes (ready store) refl refl) refl refl);
  unheld_unread = λ store. left_empty store 1 (a_call ls_call) used_nothing _ (told_no_memory_at_once ls_call refl refl refl refl);
  read_unheld = λ store. left_empty store 1 (a_call status_call) used_nothing _ (told_no_memory_at_once status_call refl refl refl refl);
  first_turns = (record { found = 1; left = 2; failed = false } ∷ [], refl, (refl, (λ other. absurd (true≢false (sym other))), tt));
  failed_turn = (record { found = 1; left = 1; failed = true } ∷ [], refl, (refl, (λ told. refl), tt));
  no_failed_turn = λ turns. same_turn (to_call (refused disk_fault)) turns.0 refl turns.1 turns.2;
  failed_page_turn = (record { found = 1; left = 1; failed = true } ∷ [], refl, (refl, (λ told. refl), tt));
  no_failed_page_turn = λ turns. same_turn (to_page page_faulted) turns.0 refl turns.1 turns.2;
}

none_of_caller : (caller : Caller) (commit : List Entry) → commit ≡ [] → All (λ (entry : Entry). entry.caller ≡ caller) commit
none_of_caller caller commit none = subst (All (λ (entry : Entry). entry.caller ≡ caller)) (sym none) (λ k d below. absurd (omega arith))

no_length : (entries : List Entry) → length entries ≡ 0 → entries ≡ []
no_length [] is = refl
no_length (entry ∷ entries) is = absurd (omega (arith, is))

-- what is committed for a request is of its call
told_of_call : (store : KeyedStore) (journal : List Entry) (caller : Caller) (asked : Asked) (front : ℕ) (used : Used) (answer : SessionAnswer) (commit : List Entry) → Told store journal caller asked front used answer commit → All (λ (entry : Entry). entry.caller ≡ caller) commit
told_of_call store journal caller asked front used answer commit (told_step call before given _ parts step _) =
    let adds = Step-adds store before caller call used (take front journal) given step in
    subst (All (λ (entry : Entry). entry.caller ≡ caller)) (append_cancel_left before adds.added commit (sym adds.after_is ∙ parts)) adds.of_caller
told_of_call store journal caller asked front used answer commit (told_page owner records before _ _ grows _ _) = batch_of_caller before caller owner records commit grows
told_of_call store journal caller asked front used answer commit (told_disk_fault _ _ _ _ _ none) = none_of_caller caller commit none
told_of_call store journal caller asked front used answer commit (told_random_fault _ _ _ _ _ _ _ none) = none_of_caller caller commit none
told_of_call store journal caller asked front used answer commit (told_no_memory _ _ _ _ _ none) = none_of_caller caller commit none
told_of_call store journal caller asked front used answer commit (told_no_memory_at_once _ _ _ _ none) = none_of_caller caller commit none
told_of_call store journal caller asked front used answer commit (told_bad _ _ _ _ none) = none_of_caller caller commit none
told_of_call store journal caller asked front used answer commit (told_no_memory_for_bad _ _ _ _ none) = none_of_caller caller commit none
told_of_call store journal caller asked front used answer commit (told_page_refused _ _ _ _ _ _ _ none) = none_of_caller caller commit none
told_of_call store journal caller asked front used answer commit (told_page_disk_fault _ _ _ _ _ none) = none_of_caller caller commit none
told_of_call store journal caller asked front used answer commit (told_page_no_memory _ _ _ _ _ none) = none_of_caller caller commit none
told_of_call store journal caller asked front used answer commit (told_read _ _ _ _ _ _ none) = none_of_caller caller commit none
told_of_call store journal caller asked front used answer commit (told_unrouted _ _ _ _ none) = none_of_caller caller commit none
told_of_call store journal caller asked front used answer commit (told_no_memory_for_unrouted _ _ _ _ none) = none_of_caller caller commit none

-- so the first call committed no entry of the second
first_committed : (store : KeyedStore) (journal : List Entry) (asked : Asked) (front : ℕ) (used : Used) (answer : SessionAnswer) (commit : List Entry) → Told store journal (caller_of 1 1) asked front used answer commit → by_second_call ∷ [] ≡ commit → ⊥
first_committed store journal asked front used answer commit told is =
    let own : All (λ (entry : Entry). entry.caller ≡ caller_of 1 1) (by_second_call ∷ []) = subst (All (λ (entry : Entry). entry.caller ≡ caller_of 1 1)) (sym is) (told_of_call store journal (caller_of 1 1) asked front used answer commit told) in
    let call : ◌≡◌ {A = ℕ} 2 1 = ap (λ (c : Caller). c.call) (own 0 by_second_call (omega arith)) in
    omega (arith, call)

-- what a session committed whose journal is that entry
one_committed : (since commits : List Entry) → by_second_call ∷ [] ≡ since → filter (is_of 1) since ≡ commits → by_second_call ∷ [] ≡ commits
one_committed since commits is own = subst (λ entries. filter (is_of 1) entries ≡ commits) (sym is) own

abbrev first_call : List SessionRequest → ℕ
first_call [] = 0
first_call (request ∷ more) = request.call

abbrev nth_front : List SessionReply → ℕ → ℕ
nth_front [] k = 0
nth_front (reply ∷ more) zero = reply.front
nth_front (reply ∷ more) (suc k) = nth_front more k

-- the first of what was served, where its commit is all that was committed
first_of : (store : KeyedStore) (from : ℕ) (one : ServedRequest) → one.request.call ≡ 1 → by_second_call ∷ [] ≡ one.commit → IsServed store (by_second_call ∷ []) 1 from one → ⊥
first_of store from one first is serves =
    first_committed store (by_second_call ∷ []) one.request.asked one.reply.front one.used one.reply.answer one.commit (subst (λ c. Told store (by_second_call ∷ []) (caller_of 1 c) one.request.asked one.reply.front one.used one.reply.answer one.commit) first serves.told) is

not_by_first_in : (store : KeyedStore) (asked : Asked) (list : List ServedRequest) → requests_of list ≡ record { call = 1; asked = asked } ∷ [] → by_second_call ∷ [] ≡ commits_of list → Serves store (by_second_call ∷ []) 1 0 list → ⊥
not_by_first_in store asked [] are all serves = let same : ◌≡◌ {A = ℕ} 1 0 = ap length all in omega (arith, same)
not_by_first_in store asked (one ∷ []) are all serves = first_of store 0 one (ap (λ rs. first_call rs) are) (all ∙ append-nil one.commit) serves.0
not_by_first_in store asked (one ∷ two ∷ more) are all serves = let many = ap length are in absurd (omega (arith, many))

not_before_in : (store : KeyedStore) (asked other : Asked) (answer other_answer : SessionAnswer) (list : List ServedRequest) → requests_of list ≡ record { call = 1; asked = asked } ∷ record { call = 2; asked = other } ∷ [] → replies_of list ≡ record { front = 1; answer = answer } ∷ record { front = 1; answer = other_answer } ∷ []
    → by_second_call ∷ [] ≡ commits_of list → Serves store (by_second_call ∷ []) 1 0 list → ⊥
not_before_in store asked other answer other_answer [] are told all serves = let same : ◌≡◌ {A = ℕ} 1 0 = ap length all in omega (arith, same)
not_before_in store asked other answer other_answer (one ∷ []) are told all serves = let many = ap length are in absurd (omega (arith, many))
not_before_in store asked other answer other_answer (one ∷ two ∷ []) are told all serves =
    let behind : one.reply.front + length two.commit ≤ two.reply.front = serves.1.0.behind in
    let front : one.reply.front ≡ 1 = ap (λ rs. nth_front rs 0) told in
    let later : two.reply.front ≡ 1 = ap (λ rs. nth_front rs 1) told in
    let none : two.commit ≡ [] = no_length two.commit (omega (arith, behind, front, later)) in
    first_of store 0 one (ap (λ rs. first_call rs) are) (all ∙ ap (λ rest. one.commit ++ (rest ++ [])) none ∙ append-nil one.commit) serves.0
not_before_in store asked other answer other_answer (one ∷ two ∷ three ∷ more) are told all serves = let many = ap length are in absurd (omega (arith, many))

second_entry_not_by_first : (store : KeyedStore) (asked : Asked) (used : Used) (answer : SessionAnswer) → Session store [] 1 (numbered_from 1 (asked ∷ [])) used (record { front = 1; answer = answer } ∷ []) (by_second_call ∷ []) → ⊥
second_entry_not_by_first store asked used answer session = not_by_first_in store asked session.served session.requests_are (one_committed session.since (commits_of session.served) session.begins session.own_are) session.serves

second_entry_not_before : (store : KeyedStore) (asked other : Asked) (used : Used) (answer other_answer : SessionAnswer) → Session store [] 1 (numbered_from 1 (asked ∷ other ∷ [])) used (record { front = 1; answer = answer } ∷ record { front = 1; answer = other_answer } ∷ []) (by_second_call ∷ []) → ⊥
second_entry_not_before store asked other used answer other_answer session =
    not_before_in store asked other answer other_answer session.served session.requests_are session.replies_are (one_committed session.since (commits_of session.served) session.begins session.own_are) session.serves

pub pages : WorkedPages
pages = record {
  which_are_stored = refl;
  session = λ store. record {
    since = worker_journal;
    begins = refl;
    served =
        served 1 (a_call ls_call) (read_and_drew second_time ten_bytes) (started_by 1 (made_id second_time ten_bytes) second_time ∷ []) 1 (to_call (began (made_id second_time ten_bytes))) ∷ served 2 (a_page 5 two_records) used_nothing worker_batch 3 (to_page (took 2))
        ∷ served 3 (a_page 5 two_records) used_nothing [] 3 (to_page (took 0)) ∷ served 4 (a_page 5 (kv_record 3 1003 ∷ [])) used_nothing [] 3 (to_page (page_refused (PageGap 0 2))) ∷ served 5 (a_page 5 two_records) used_nothing [] 3 (to_page page_faulted)
        ∷ served 6 (a_page 5 two_records) used_nothing [] 3 (to_page page_no_memory) ∷ [];
    requests_are = refl;
    used_is = refl;
    replies_are = refl;
    own_are = refl;
    serves = (
      record { behind = omega arith; within = omega arith; told = told_step ls_call [] _ refl refl (append_step second_time ten_bytes (start_draft (codes "ls") (codes "/") (codes "s1") (codes "h:u")) refl refl (record { short = refl; drafts = start_drafts _ _ _ _ refl refl; room = refl }) refl refl refl) refl },
      (
        record { behind = omega arith; within = omega arith; told = told_page 5 two_records (started_by 1 (made_id second_time ten_bytes) second_time ∷ []) refl refl refl refl refl },
        (
          record { behind = omega arith; within = omega arith; told = told_page 5 two_records worker_journal refl refl refl refl refl },
          (
            record { behind = omega arith; within = omega arith; told = told_page_refused 5 (kv_record 3 1003 ∷ []) (PageGap 0 2) refl refl refl refl refl },
            (record { behind = omega arith; within = omega arith; told = told_page_disk_fault 5 two_records refl refl refl refl }, (record { behind = omega arith; within = omega arith; told = told_page_no_memory 5 two_records refl refl refl refl }, tt)),
          ),
        ),
      ),
    );
  };
  not_by_first = second_entry_not_by_first;
  not_before = second_entry_not_before;
}

pub reading : WorkedReading
reading = record {
  a_status = calls.status;
  byte_behind = faults.behind;
  in_order = (calls.status, (faults.behind, tt));
  no_page = λ owner records reads. reads;
  one_each = λ reads. reads;
}

-- without turns there are no replies, and the other way round
none_for_one : (turns : List TurnItem) → a_turn ∷ [] ≡ a_turn ∷ turns → TurnsFor turns (record { front = 3; answer = to_call (stored 0) } ∷ []) → ⊥
none_for_one [] is told = told
none_for_one (turn ∷ turns) is told = let same : length (a_turn ∷ []) ≡ length (a_turn ∷ turn ∷ turns) = ap (λ (l : List TurnItem). length l) is in omega arith

one_for_none : (turns : List TurnItem) → a_turn ∷ [] ≡ turns → TurnsFor turns [] → ⊥
one_for_none [] is told = let same : ◌≡◌ {A = ℕ} 1 0 = ap (λ (l : List TurnItem). length l) is in omega arith
one_for_none (turn ∷ turns) is told = told

failed_uncounted : (turns : List TurnItem) → another_turn ∷ [] ≡ turns → RoseBy (failures turns) 4 4 → ⊥
failed_uncounted turns is counted = let one : RoseBy (failures (another_turn ∷ [])) 4 4 = subst (λ ts. RoseBy (failures ts) 4 4) (sym is) counted in omega (arith, one)

pub pass : WorkedPass
pass = record {
  caller_is = refl;
  own_alone = refl;
  sees_more = refl;
  knows = omega arith;
  knows_not = λ knows. omega (arith, knows);
  one_more_turn = (another_turn ∷ [], refl, (refl, (λ other. refl), tt));
  no_turn = λ turns. none_for_one turns.0 turns.1 turns.2;
  no_reply = λ turns. one_for_none turns.0 turns.1 turns.2;
  one_failed = refl;
  one_told = refl;
  one_undrawn = refl;
  moved = record { number = refl; fixed = refl; seen = refl; known = omega arith; turns_since = another_turn ∷ []; turns = refl; faults = omega arith; failed = omega arith };
  uncounted = λ moves. failed_uncounted moves.turns_since (append_cancel_left (a_turn ∷ []) (another_turn ∷ []) moves.turns_since moves.turns) moves.failed;
  unseen = λ moves. let same : ◌≡◌ {A = ℕ} 1 0 = ap length moves.seen in omega (arith, same);
  at_the_last = record { number = refl; fixed = refl; seen = refl; known = omega arith; turns_since = another_turn ∷ []; turns = refl; faults = omega arith; failed = omega arith };
  split_is = refl;
  splits = record { above = omega arith; at_most = omega arith; unused = All-from_recursion (λ entry. is_of 3 entry ≡ false) (by_second ∷ []) (refl, tt); new_is = refl; part_is = refl };
  number_again = λ new split. let above : 2 < 2 = split.above in omega (arith, above);
  number_on_an_entry = λ new split. true≢false (split.unused 0 by_second (omega arith));
  unknown_to_the_old = λ split. let same : ◌≡◌ {A = ℕ} 2 3 = ap (λ (p : Pass). p.known) split.new_is in omega (arith, same);
  no_number = λ new part split. let above : 65535 < part.number = split.above in let most : part.number ≤ 65535 = split.at_most in omega (arith, above, most);
  spent = record { known = omega arith; all = refl; new_is = refl };
  not_spent = λ new spent. let same : ◌≡◌ {A = ℕ} 65534 65535 = spent.all in omega (arith, same);
  joined_is = refl;
  other_joined = refl;
  joins = record { known = 4; new_is = refl; grown = omega arith; at_most = omega arith; seen = refl; other_seen = refl };
}

-- ---- a book

-- no list without entries begins with one, and no list of bytes either
no_entry : (entry : Entry) (entries : List Entry) → [] ≡ entry ∷ entries → ⊥
no_entry entry entries is = let same : ◌≡◌ {A = ℕ} 0 (length (entry ∷ entries)) = ap length is in omega (arith, same)

no_part : (byte : ℕ) (bytes : List ℕ) → [] ≡ byte ∷ bytes → ⊥
no_part byte bytes is = let same : ◌≡◌ {A = ℕ} 0 (length (byte ∷ bytes)) = ap length is in omega (arith, same)

-- an entry of pass 2 is neither of pass 1 nor settled
no_third : (added : List Entry) → by_second ∷ [] ≡ added → All (λ entry. (entry.caller.number ≡ 1) ⊎ (entry.caller.number ≡ 0)) added → ⊥
no_third added is own = neither (subst (All (λ entry. (entry.caller.number ≡ 1) ⊎ (entry.caller.number ≡ 0))) (sym is) own 0 by_second (omega arith)) where
  neither : (by_second.caller.number ≡ 1) ⊎ (by_second.caller.number ≡ 0) → ⊥
  neither (inl same) = let is : by_second.caller.number ≡ 1 = same in omega (arith, is)
  neither (inr same) = let is : by_second.caller.number ≡ 0 = same in omega (arith, is)

too_many : (entries : List Entry) → length entries ≡ 2 ^ 64 → length entries < 2 ^ 64 → ⊥
too_many entries are room = omega (arith, are, room)

own_not_found : Finds (pass_at []) (book_at (by_first ∷ []) 4) → ⊥
own_not_found finds = true≢false (subst (All (λ entry. is_of 1 entry ≡ false)) (sym finds.entries) finds.of_others 0 by_first (omega arith))

doubt_kept_by_bad : (store : KeyedStore) (after : List Entry) (answer : SessionAnswer) → TurnAnswers store [] (by_first ∷ []) (caller_of 1 2) (no_call 14) used_nothing after [] answer → ⊥
doubt_kept_by_bad store after answer (answers_call _ _ is _ _) = absurd cc
doubt_kept_by_bad store after answer (answers_unread _ is _ _ _) = absurd cc
doubt_kept_by_bad store after answer (answers_bad _ _ _ l _) = no_entry by_first [] l.doubt_is
doubt_kept_by_bad store after answer (answers_page _ _ _ is _ _ _) = absurd cc
doubt_kept_by_bad store after answer (answers_read _ _ is _ _ _) = absurd cc
doubt_kept_by_bad store after answer (answers_unrouted _ is _ _ _) = absurd cc

doubt_kept_nowhere : (store : KeyedStore) (after : List Entry) (answer : SessionAnswer) → TurnAnswers store [] (by_first ∷ []) (caller_of 1 2) (unrouted 404) used_nothing after [] answer → ⊥
doubt_kept_nowhere store after answer (answers_call _ _ is _ _) = absurd cc
doubt_kept_nowhere store after answer (answers_unread _ is _ _ _) = absurd cc
doubt_kept_nowhere store after answer (answers_bad _ is _ _ _) = absurd cc
doubt_kept_nowhere store after answer (answers_page _ _ _ is _ _ _) = absurd cc
doubt_kept_nowhere store after answer (answers_read _ _ is _ _ _) = absurd cc
doubt_kept_nowhere store after answer (answers_unrouted _ _ _ l _) = no_entry by_first [] l.doubt_is

of_first : All (λ entry. (entry.caller.number ≡ 1) ⊎ (entry.caller.number ≡ 0)) (by_first ∷ [])
of_first = All-from_recursion (λ entry. (entry.caller.number ≡ 1) ⊎ (entry.caller.number ≡ 0)) (by_first ∷ []) (inl refl, tt)

of_none_at_all : All (λ (entry : Entry). (entry.caller.number ≡ 1) ⊎ (entry.caller.number ≡ 0)) []
of_none_at_all = λ k d below. absurd (omega arith)

pub book : WorkedBook
book = record {
  first_is = refl;
  found = record {
    since = by_second ∷ once_settled ∷ [];
    entries = refl;
    of_others = All-from_recursion (λ entry. is_of 1 entry ≡ false) (by_second ∷ once_settled ∷ []) (refl, (refl, tt));
    faults = omega arith;
    fixed = refl;
  };
  own_behind = own_not_found;
  unseen = λ finds. no_entry by_second finds.since finds.entries;
  uncounted = λ finds. let counted : 4 ≤ 3 = finds.faults in omega (arith, counted);
  other_book = λ finds. no_part 0 (1 ∷ []) finds.fixed;
  went_well = refl;
  went_wrong = refl;
  takes = record {
    finds = record {
      since = by_second ∷ [];
      entries = refl;
      of_others = All-from_recursion (λ entry. is_of 1 entry ≡ false) (by_second ∷ []) (refl, tt);
      faults = omega arith;
      fixed = refl;
    };
    may = record { added = by_first ∷ []; entries = refl; own = of_first; faults = omega arith; fixed = refl; room = omega arith };
    after_is = refl;
  };
  leaves = record {
    finds = record { since = []; entries = refl; of_others = All-from_recursion (λ entry. is_of 1 entry ≡ false) [] tt; faults = omega arith; fixed = refl };
    may = record { added = []; entries = refl; own = of_none_at_all; faults = omega arith; fixed = refl; room = omega arith };
    after_is = refl;
  };
  no_entry_lost = λ may. no_entry by_second may.added may.entries;
  no_fault_lost = λ may. let counted : 4 ≤ 3 = may.faults in omega (arith, counted);
  no_other_part = λ may. no_part 0 (1 ∷ []) may.fixed;
  no_other_entry = λ may. no_third may.added may.entries may.own;
  no_room = λ found may. too_many (replicate (2 ^ 64) by_first) (length-replicate (2 ^ 64) by_first) may.room;
  settles = record { added = once_settled ∷ []; entries = refl; own = All-from_recursion (λ entry. (entry.caller.number ≡ 1) ⊎ (entry.caller.number ≡ 0)) (once_settled ∷ []) (inr refl, tt); faults = omega arith; fixed = refl; room = omega arith };
  taken_so = record {
    finds = record {
      since = by_second ∷ [];
      entries = refl;
      of_others = All-from_recursion (λ entry. is_of 1 entry ≡ false) (by_second ∷ []) (refl, tt);
      faults = omega arith;
      fixed = refl;
    };
    room = omega arith;
    taken_is = refl;
  };
  given_so = record { may = record { added = by_first ∷ []; entries = refl; own = of_first; faults = omega arith; fixed = refl; room = omega arith }; after_is = refl };
  failed_at_the_last = refl;
  start_in_turn = λ store. answers_call ls_call _ refl
      (step_turn _ _ refl (append_step first_time high_bytes (start_draft (codes "ls") (codes "/") (codes "s1") (codes "h:u")) refl refl (record { short = refl; drafts = start_drafts _ _ _ _ refl refl; room = refl }) refl refl refl) (record { journal_is = refl; doubt_is = refl; reply_is = refl })) refl;
  page_in_turn = λ store. answers_page 5 two_records _ refl refl (taken_page worker_batch refl (record { journal_is = refl; doubt_is = refl }) refl) refl;
  status_in_turn = λ store. answers_read (status_read 5) _ refl refl (tells_status 5 refl (record { journal_is = refl; doubt_is = refl }) refl) refl;
  call_in_turn = λ store. answers_call status_call _ refl (read_turn _ refl (shows_places refl refl) (record { journal_is = refl; doubt_is = refl; reply_is = refl })) refl;
  page_unheld_in_turn = λ store. answers_page 5 two_records _ refl refl (short_page (record { journal_is = refl; doubt_is = refl }) refl) refl;
  still = record { added = []; entries = refl; own = of_none_at_all; faults = omega arith; fixed = refl; room = omega arith };
  bad_unheld_in_turn = λ store. answers_bad 14 refl refl (record { journal_is = refl; doubt_is = refl }) (inr refl);
  call_unread_in_turn = λ store. answers_unread ls_call refl refl (record { journal_is = refl; doubt_is = refl }) refl;
  bad_keeps_doubt = doubt_kept_by_bad;
  nowhere_keeps_doubt = doubt_kept_nowhere;
  bad_in_turn = λ store. answers_bad 14 refl refl (record { journal_is = refl; doubt_is = refl }) (inl refl);
  nowhere_in_turn = λ store. answers_unrouted 404 refl refl (record { journal_is = refl; doubt_is = refl }) (inl refl);
  unheld_in_turn = λ store. answers_unrouted 404 refl refl (record { journal_is = refl; doubt_is = refl }) (inr refl);
}

-- ---- a run of a store's turns

some_fresh : worker_batch ≡ [] → ⊥
some_fresh is = let same : ◌≡◌ {A = ℕ} 2 0 = ap length is in omega (arith, same)

-- the page whose commit fails, and what it leaves in doubt
failed_page : (store : KeyedStore) (left : List Entry) → (left ≡ []) ⊎ (left ≡ worker_batch) → (before after : ℕ) → before ≤ after → Rose before after → StoreTurn store (state_at [] [] before) (caller_of 1 2) (a_page 5 two_records) used_nothing (state_at [] left after) (to_page page_faulted)
failed_page store left lost before after stayed rose = record {
  answers = answers_page 5 two_records page_faulted refl refl (uncommitted_page worker_batch left refl some_fresh lost (record { journal_is = refl; doubt_is = refl }) refl) refl;
  counted = stayed;
  told = λ _. rose;
}

untold : (answer : SessionAnswer) (before now : ℕ) → tells_disk_fault answer ≡ false → tells_disk_fault answer ≡ true → Rose before now
untold answer before now none told = absurd (true≢false (sym told ∙ none))

status_stays : (store : KeyedStore) (call : ℕ) (doubt : List Entry) → IsRunTurn store 1 (state_at [] doubt 1) (status_turn call (state_at [] doubt 1))
status_stays store call doubt = record {
  turn = record {
    answers = answers_read (status_read 5) (told_status []) refl refl (tells_status 5 refl (record { journal_is = refl; doubt_is = refl }) refl) refl;
    counted = omega arith;
    told = untold (to_read (told_status [])) 1 1 refl;
  };
  front = refl;
}

doubt_after_status : (store : KeyedStore) (after doubt doubt_after : List Entry) (answer : SessionAnswer) → TurnAnswers store [] doubt (caller_of 1 3) (a_read (status_read 5)) used_nothing after doubt_after answer → doubt_after ≡ doubt
doubt_after_status store after doubt doubt_after answer (answers_call _ _ is _ _) = absurd cc
doubt_after_status store after doubt doubt_after answer (answers_unread _ is _ _ _) = absurd cc
doubt_after_status store after doubt doubt_after answer (answers_bad _ is _ _ _) = absurd cc
doubt_after_status store after doubt doubt_after answer (answers_page _ _ _ is _ _ _) = absurd cc
doubt_after_status store after doubt doubt_after answer (answers_read read given _ _ turn _) = (ReadTurn-stands [] doubt read after doubt_after given turn).doubt_is
doubt_after_status store after doubt doubt_after answer (answers_unrouted _ is _ _ _) = absurd cc

pub runs : WorkedRuns
runs = record {
  store_is = λ sealing. refl;
  no_other_host = λ sealing is. let same : ◌≡◌ {A = ℕ} 2 3 = is in omega (arith, same);
  doubtful = λ store. (
    record { turn = failed_page store worker_batch (inr refl) 0 1 (omega arith) (omega arith); front = refl },
    (
      status_stays store 3 worker_batch,
      (
        record {
          turn = record {
            answers = answers_page 5 two_records (took 0) refl refl (taken_page [] refl (record { journal_is = refl; doubt_is = refl }) refl) refl;
            counted = omega arith;
            told = untold (to_page (took 0)) 1 1 refl;
          };
          front = refl;
        },
        tt,
      ),
    ),
  );
  lost = λ store. (record { turn = failed_page store [] (inl refl) 0 1 (omega arith) (omega arith); front = refl }, (status_stays store 3 [], tt));
  ends = refl;
  one_told = refl;
  not_alike = λ alike. some_fresh (sym (alike.3 refl));
  doubt_kept = λ store run. some_fresh (sym (doubt_after_status store [] worker_batch [] (to_read (told_status [])) run.1.0.turn.answers));
  uncounted = λ store turn. let rose : Rose 4 4 = turn.told refl in omega (arith, rose);
  at_last_count = λ store. failed_page store [] (inl refl) last_count last_count (omega arith) (omega arith);
}

-- ---- a session over HTTP

-- a reply of it that commits nothing
abbrev uncommitted : (store : KeyedStore) (call : ℕ) (asked : Asked) (answer : SessionAnswer) → Told store posted (caller_of 2 call) asked 3 used_nothing answer [] → IsServed store posted 2 3 (served call asked used_nothing [] 3 answer)
uncommitted store call asked answer told = record { behind = omega arith; within = omega arith; told = told }

one_of_four : (code : ℕ) → Has route_codes code → ((code ≡ 400) ⊎ (code ≡ 401)) ⊎ ((code ≡ 404) ⊎ (code ≡ 405))
one_of_four code (inl e) = inl (inl (sym e))
one_of_four code (inr (inl e)) = inl (inr (sym e))
one_of_four code (inr (inr (inl e))) = inr (inl (sym e))
one_of_four code (inr (inr (inr (inl e)))) = inr (inr (sym e))
one_of_four code (inr (inr (inr (inr none)))) = absurd none

all_http : All IsHttp http_asked
all_http =
    let nowhere : IsHttp (unrouted 404) = (2, omega arith, refl) in
    let no_ones : IsHttp (unrouted 401) = (1, omega arith, refl) in
    All-from_recursion IsHttp http_asked (tt, (tt, (tt, (nowhere, (no_ones, (tt, (tt, tt)))))))

abbrev is_no_memory : Option ℕ → Bool
is_no_memory None = false
is_no_memory (Some code) = code == no_memory_code

-- of these only the last, if any, tells of want of memory
abbrev wants_memory_only_last : List SessionAnswer → Bool
wants_memory_only_last [] = true
wants_memory_only_last (answer ∷ []) = true
wants_memory_only_last (answer ∷ next ∷ more) = not (is_no_memory (response_code answer)) && wants_memory_only_last (next ∷ more)

right_true : (x y : Bool) → (x && y) ≡ true → y ≡ true
right_true true y both = both
right_true false y both = absurd (true≢false (sym both))

ends_last : (answers : List SessionAnswer) (k : ℕ) (answer : SessionAnswer) → wants_memory_only_last answers ≡ true → slice_get answers k ≡ Some answer → response_code answer ≡ Some no_memory_code → k + 1 ≡ length answers
ends_last [] k answer only at is = absurd (none-some answer at)
ends_last (a ∷ []) zero answer only at is = refl
ends_last (a ∷ []) (suc k) answer only at is = absurd (none-some answer at)
ends_last (a ∷ b ∷ more) zero answer only at is =
    let code : response_code a ≡ Some no_memory_code = ap response_code (same_Some a answer at) ∙ is in absurd (true≢false (sym only ∙ ap (λ c. not (is_no_memory c) && wants_memory_only_last (b ∷ more)) code))
ends_last (a ∷ b ∷ more) (suc k) answer only at is =
    let later = ends_last (b ∷ more) k answer (right_true (not (is_no_memory (response_code a))) (wants_memory_only_last (b ∷ more)) only) at is in omega (arith, later)

pub http : WorkedHttp
http = record {
  session = λ store. record {
    of_http = all_http;
    as_many = refl;
    ends = λ k answer at is. ends_last http_answers k answer refl at is;
    session = record {
      since = posted;
      begins = refl;
      served =
          served 1 (a_page 5 two_records) used_nothing (taken_entry (caller_of 2 1) 5 (kv_record 0 1000) ∷ taken_entry (caller_of 2 1) 5 (kv_record 1 1001) ∷ []) 3 (to_page (took 2)) ∷ served 2 (a_read (status_read 5)) used_nothing [] 3 (to_read (told_status (record { host = 2; tag = codes "kv"; count = 2 } ∷ [])))
          ∷ served 3 (a_read (page_read 5 2 (codes "kv") 1 100)) used_nothing [] 3 (to_read (told_records (kv_record 1 1001 ∷ []))) ∷ served 4 (unrouted 404) used_nothing [] 3 (to_unrouted 404) ∷ served 5 (unrouted 401) used_nothing [] 3 (to_unrouted 401)
          ∷ served 6 (a_read (page_read 5 2 (codes "kv") 0 100)) used_nothing [] 3 (to_read read_faulted) ∷ served 7 (a_read (status_read 5)) used_nothing [] 3 (to_read read_no_memory) ∷ [];
      requests_are = refl;
      used_is = refl;
      replies_are = refl;
      own_are = refl;
      serves = (
        record { behind = omega arith; within = omega arith; told = told_page 5 two_records (started_by 1 (made_id second_time ten_bytes) second_time ∷ []) refl refl refl refl refl },
        (
          uncommitted store 2 _ _ (told_read (status_read 5) _ refl (tells_status 5 refl (record { journal_is = refl; doubt_is = refl }) refl) refl refl refl),
          (
            uncommitted store 3 _ _ (told_read (page_read 5 2 (codes "kv") 1 100) _ refl (tells_page 5 2 _ 1 100 refl (record { journal_is = refl; doubt_is = refl }) refl) refl refl refl),
            (
              uncommitted store 4 _ _ (told_unrouted 404 refl refl refl refl),
              (
                uncommitted store 5 _ _ (told_unrouted 401 refl refl refl refl),
                (
                  uncommitted store 6 _ _ (told_read (page_read 5 2 (codes "kv") 0 100) _ refl (faults_on_page 5 2 _ 0 100 refl (record { journal_is = refl; doubt_is = refl }) refl) refl refl refl),
                  (uncommitted store 7 _ _ (told_read (status_read 5) _ refl (wants_memory (λ e. cc) (record { journal_is = refl; doubt_is = refl }) refl) refl refl refl), tt),
                ),
              ),
            ),
          ),
        ),
      );
    };
  };
  unheld = λ store. record {
    of_http = All-from_recursion IsHttp (unrouted 401 ∷ []) ((1, omega arith, refl), tt);
    as_many = refl;
    ends = λ k answer at is. ends_last (to_unrouted 503 ∷ []) k answer refl at is;
    session = left_empty store 2 (unrouted 401) used_nothing _ (told_no_memory_for_unrouted 401 refl refl refl refl);
  };
  not_behind_503 = λ store session. let last : ◌≡◌ {A = ℕ} 1 2 = session.ends 0 (to_unrouted 503) refl refl in omega (arith, last);
  begins = λ store. record {
    of_http = All-from_recursion IsHttp [] tt;
    as_many = refl;
    ends = λ k answer at is. ends_last [] k answer refl at is;
    session = record { since = []; begins = refl; served = []; requests_are = refl; used_is = refl; replies_are = refl; serves = tt; own_are = refl };
  };
  codes_are = refl;
  refusals_are = refl;
  others_are = refl;
  empty_comes = tt;
  empty_is_got = tt;
  no_front = λ comes. comes;
  no_call_comes = λ comes. comes;
  no_bytes_come = λ comes. comes;
  refused_before = (((0, omega arith, refl), (1, omega arith, refl)), ((2, omega arith, refl), (3, omega arith, refl)));
  no_other_code = λ code among. one_of_four code (Has-from_Contains route_codes code among);
  start_may_fault = refl;
  status_call_may_not = λ may. true≢false may;
  bad_may_not = λ may. may;
  post_may_fault = tt;
  page_may_fault = tt;
  status_may_not = λ may. may;
  front_may_not = λ may. may;
  unrouted_may_not = λ may. may;
  beside = refl;
  front_alone = refl;
  answer_alone = refl;
  no_front_alone = λ store session. let same : ◌≡◌ {A = ℕ} 1 0 = session.as_many in omega (arith, same);
  no_answer_alone = λ store session. let same : ◌≡◌ {A = ℕ} 0 1 = session.as_many in omega (arith, same);
  failed_read_turn = (record { found = 1; left = 1; failed = true } ∷ [], refl, (refl, (λ told. refl), tt));
  no_failed_read_turn = λ turns. same_turn (to_read read_faulted) turns.0 refl turns.1 turns.2;
}
