-- Runs of a store's turns: what they leave is told, and they are sessions.
use Rattle.std.proofs.Common.{◌≡◌, ◌≢◌, ℕ, ◌+◌, true, false, inl, inr, Ok, Err, Result, List, [], ◌∷◌, ◌++◌, length, map, refl, sym, ◌∙◌, ap, subst, arith, length-append}
use Rattle.std.proofs.lemmas.Bool.{cases_Bool, true≢false}
use Rattle.std.proofs.lemmas.List.{append-nil, length-map}
use Rattle.definitions.specs.Counts.{RoseBy}
use Rattle.definitions.specs.Uses.{Used}
use Rattle.definitions.proofs.Counts.{RoseBy-nothing, RoseBy-then}
use Rattle.record_rules.specs.Records.{SealedRecord, Caller, Entry}
use Rattle.record_rules.specs.Growth.{PageRefusal, grow}
use Rattle.step_rules.specs.Calls.{Call, is_read}
use Rattle.step_rules.specs.Answers.{Answer, Reply}
use Rattle.step_rules.specs.Store.{KeyedStore}
use Rattle.step_rules.specs.Step.{Step}
use Rattle.step_rules.specs.Turn.{settled_entry, settled, Turn, read_turn, short_unread_turn, unsettled_turn, step_turn, undrawn_turn, uncommitted_turn, short_turn, short_settled_turn}
use Rattle.step_rules.specs.PageTurns.{PageAnswer, PageTurn, unsettled_page, taken_page, refused_page, uncommitted_page, short_page, short_settled_page}
use Rattle.step_rules.proofs.Steps.{Step-adds}
use Rattle.step_rules.proofs.Outcomes.{Step-one}
use Rattle.step_rules.proofs.ReadTurns.{ReadTurn-stands}
use Rattle.session_rules.specs.Sessions.{Asked, a_call, a_page, SessionAnswer, to_call, to_page, SessionReply, SessionRequest, caller_of, Session}
use Rattle.session_rules.specs.Turns.{TurnAnswers, answers_call, answers_unread, answers_bad, answers_page, answers_read, answers_unrouted}
use Rattle.session_rules.specs.Passes.{tells_disk_fault, disk_faults}
use Rattle.session_rules.specs.Stores.{StoreState, RunTurn, IsRunTurn, IsRun, last_left, run_requests, run_replies, run_used, AreAlike}
use Rattle.session_rules.proofs.Passes.{count, disk_faults-item, turn_counts}
use Rattle.session_rules.proofs.Sessions.{session_begins, sessions_follow}
use Rattle.session_rules.proofs.Growing.{answers_are_told, turn_is_session}

-- ---- what a turn leaves

-- how a commit came about
pub data Made (store : KeyedStore) (before : List Entry) (caller : Caller) (asked : Asked) (used : Used) (after commit : List Entry) : Type 0 where
  by_nothing : commit ≡ [] → Made store before caller asked used after commit
  by_step : (call : Call) (given : Answer) → asked ≡ a_call call → is_read call ≡ false → Step store before caller call used after given → Made store before caller asked used after commit
  by_page : (owner : ℕ) (records : List SealedRecord) → asked ≡ a_page owner records → grow before caller owner records ≡ Ok commit → Made store before caller asked used after commit

-- it left all as it was, or settled what was in doubt and left nothing in doubt, or a commit failed
pub data TurnEnd (store : KeyedStore) (journal doubt : List Entry) (caller : Caller) (asked : Asked) (used : Used) (after doubt_after : List Entry) (answer : SessionAnswer) : Type 0 where
  as_it_was : after ≡ journal → doubt_after ≡ doubt → TurnEnd store journal doubt caller asked used after doubt_after answer
  after_settling : (commit : List Entry) → after ≡ settled journal doubt ++ commit → doubt_after ≡ [] → Made store (settled journal doubt) caller asked used after commit → TurnEnd store journal doubt caller asked used after doubt_after answer
  after_failing : after ≡ settled journal doubt → tells_disk_fault answer ≡ true → TurnEnd store journal doubt caller asked used after doubt_after answer

module _ (store : KeyedStore) (journal doubt : List Entry) (caller : Caller) (asked : Asked) (used : Used) (after doubt_after : List Entry) (answer : SessionAnswer) where
  only_settling : after ≡ settled journal doubt → doubt_after ≡ [] → TurnEnd store journal doubt caller asked used after doubt_after answer
  only_settling is none = after_settling [] (is ∙ sym (append-nil (settled journal doubt))) none (by_nothing refl)

  call_end : (call : Call) (reply : Reply) → asked ≡ a_call call → answer ≡ to_call reply.answer → Turn store journal doubt caller call used after doubt_after reply → TurnEnd store journal doubt caller asked used after doubt_after answer
  call_end call reply is told (read_turn _ _ _ l) = as_it_was l.journal_is l.doubt_is
  call_end call reply is told (short_unread_turn _ l) = as_it_was l.journal_is l.doubt_is
  call_end call reply is told (unsettled_turn _ _ _ _ l) = as_it_was l.journal_is l.doubt_is
  call_end call reply is told (step_turn made given writes step l) =
      let here : Step store (settled journal doubt) caller call used after given = subst (λ j. Step store (settled journal doubt) caller call used j given) (sym l.journal_is) step in
      let adds = Step-adds store (settled journal doubt) caller call used after given here in
      after_settling adds.added adds.after_is l.doubt_is (by_step call given is writes here)
  call_end call reply is told (undrawn_turn _ _ _ _ l) = only_settling l.journal_is l.doubt_is
  call_end call reply is told (uncommitted_turn _ _ _ _ _ _ _ l) = after_failing l.journal_is (ap tells_disk_fault told ∙ ap (λ (r : Reply). tells_disk_fault (to_call r.answer)) l.reply_is)
  call_end call reply is told (short_turn _ _ _ l) = as_it_was l.journal_is l.doubt_is
  call_end call reply is told (short_settled_turn _ _ l) = only_settling l.journal_is l.doubt_is

  page_end : (owner : ℕ) (records : List SealedRecord) (given : PageAnswer) → asked ≡ a_page owner records → answer ≡ to_page given → PageTurn journal doubt caller owner records after doubt_after given → TurnEnd store journal doubt caller asked used after doubt_after answer
  page_end owner records given is told (unsettled_page _ l _) = as_it_was l.journal_is l.doubt_is
  page_end owner records given is told (taken_page batch grows l _) = after_settling batch l.journal_is l.doubt_is (by_page owner records is grows)
  page_end owner records given is told (refused_page _ _ l _) = only_settling l.journal_is l.doubt_is
  page_end owner records given is told (uncommitted_page _ _ _ _ _ l same) = after_failing l.journal_is (ap tells_disk_fault told ∙ ap (λ g. tells_disk_fault (to_page g)) same)
  page_end owner records given is told (short_page l _) = as_it_was l.journal_is l.doubt_is
  page_end owner records given is told (short_settled_page l _) = only_settling l.journal_is l.doubt_is

  pub turn_end : TurnAnswers store journal doubt caller asked used after doubt_after answer → TurnEnd store journal doubt caller asked used after doubt_after answer
  turn_end (answers_call call reply is turn told) = call_end call reply is told turn
  turn_end (answers_unread _ _ _ l _) = as_it_was l.journal_is l.doubt_is
  turn_end (answers_bad _ _ _ l _) = as_it_was l.journal_is l.doubt_is
  turn_end (answers_page owner records given is _ turn told) = page_end owner records given is told turn
  turn_end (answers_read read given _ _ turn _) = let stands = ReadTurn-stands journal doubt read after doubt_after given turn in as_it_was stands.journal_is stands.doubt_is
  turn_end (answers_unrouted _ _ _ l _) = as_it_was l.journal_is l.doubt_is

-- ---- one list, and one doubt

no_length : {A : Type 0} (xs : List A) → length xs ≡ 0 → xs ≡ []
no_length [] is = refl
no_length (x ∷ xs) is = absurd (omega (arith, is))

abbrev call_or : Asked → Call → Call
call_or (a_call call) other = call
call_or _ other = other

-- what a page adds, and nothing for what else is asked
abbrev grown_for : List Entry → Caller → Asked → Result (List Entry) PageRefusal
grown_for before caller (a_page owner records) = grow before caller owner records
grown_for before caller _ = Ok []

abbrev batch_in : Result (List Entry) PageRefusal → List Entry → List Entry
batch_in (Ok batch) other = batch
batch_in (Err refusal) other = other

-- of a commit of no entries nothing is left
adds_nothing : (before commit after : List Entry) → after ≡ before ++ commit → length commit ≡ 0 → after ≡ before
adds_nothing before commit after is none = is ∙ ap (λ c. before ++ c) (no_length commit none) ∙ append-nil before

module _ (store : KeyedStore) (before : List Entry) (caller : Caller) (asked : Asked) (used : Used) where
  made_alike : (one two commit other : List Entry) → Made store before caller asked used one commit → Made store before caller asked used two other → one ≡ before ++ commit → two ≡ before ++ other → length commit ≡ length other → one ≡ two
  made_alike one two commit other (by_nothing none) made is is_other many = adds_nothing before commit one is (ap length none) ∙ sym (adds_nothing before other two is_other (sym many ∙ ap length none))
  made_alike one two commit other (by_step _ _ _ _ _) (by_nothing none) is is_other many = adds_nothing before commit one is (many ∙ ap length none) ∙ sym (adds_nothing before other two is_other (ap length none))
  made_alike one two commit other (by_page _ _ _ _) (by_nothing none) is is_other many = adds_nothing before commit one is (many ∙ ap length none) ∙ sym (adds_nothing before other two is_other (ap length none))
  made_alike one two commit other (by_step call given asks writes step) (by_step call_there given_there asks_there writes_there step_there) is is_other many =
      let same : call_there ≡ call = ap (λ a. call_or a call) (sym asks_there ∙ asks) in
      (Step-one store before caller call used one two given given_there writes step (subst (λ c. Step store before caller c used two given_there) same step_there)).0
  made_alike one two commit other (by_step call _ asks _ _) (by_page owner records asks_page _) is is_other many = absurd (let clash : a_call call ≡ a_page owner records = sym asks ∙ asks_page in cc clash)
  made_alike one two commit other (by_page owner records asks_page _) (by_step call _ asks _ _) is is_other many = absurd (let clash : a_call call ≡ a_page owner records = sym asks ∙ asks_page in cc clash)
  made_alike one two commit other (by_page owner records asks grows) (by_page owner_there records_there asks_there grows_there) is is_other many =
      let same : commit ≡ other = ap (λ r. batch_in r commit) (sym grows ∙ ap (grown_for before caller) (sym asks ∙ asks_there) ∙ grows_there) in is ∙ ap (λ c. before ++ c) same ∙ sym is_other

-- what two turns leave that are told alike
pub record LeaveAlike (one two doubt_one doubt_two : List Entry) (answer : SessionAnswer) : Type 0 where
  pub entries : one ≡ two
  pub doubt : tells_disk_fault answer ≡ false → doubt_one ≡ doubt_two

leave_alike_too : (one two doubt_one doubt_two : List Entry) (answer : SessionAnswer) → LeaveAlike one two doubt_one doubt_two answer → LeaveAlike two one doubt_two doubt_one answer
leave_alike_too one two doubt_one doubt_two answer alike = record { entries = sym alike.entries; doubt = λ none. sym (alike.doubt none) }

faulted_or : {P : Type 0} (answer : SessionAnswer) → tells_disk_fault answer ≡ true → tells_disk_fault answer ≡ false → P
faulted_or answer told none = absurd (true≢false (sym told ∙ none))

module _ (store : KeyedStore) (journal doubt : List Entry) (caller : Caller) (asked : Asked) (used : Used) (answer : SessionAnswer) where
  settled_length : length (settled journal doubt) ≡ length journal + length doubt
  settled_length = length-append journal (map settled_entry doubt) ∙ ap (λ n. length journal + n) (length-map doubt settled_entry)

  -- with nothing in doubt there is nothing to settle
  settled_same : length doubt ≡ 0 → settled journal doubt ≡ journal
  settled_same none = ap (settled journal) (no_length doubt none) ∙ append-nil journal

  kept_or_settled : (one two doubt_one doubt_two commit : List Entry) → one ≡ journal → doubt_one ≡ doubt → two ≡ settled journal doubt ++ commit → doubt_two ≡ [] → length one ≡ length two → LeaveAlike one two doubt_one doubt_two answer
  kept_or_settled one two doubt_one doubt_two commit kept doubt_kept made none many =
      let all : length two ≡ length journal + length doubt + length commit = ap length made ∙ length-append (settled journal doubt) commit ∙ ap (λ n. n + length commit) settled_length in
      let same : length one ≡ length journal = ap length kept in
      let no_doubt : length doubt ≡ 0 = omega (arith, all, same, many) in
      let no_commit : length commit ≡ 0 = omega (arith, all, same, many) in
      record {
        entries = kept ∙ sym (adds_nothing (settled journal doubt) commit two made no_commit ∙ settled_same no_doubt);
        doubt = λ _. doubt_kept ∙ no_length doubt no_doubt ∙ sym none;
      }

  kept_or_failed : (one two doubt_one doubt_two : List Entry) → one ≡ journal → two ≡ settled journal doubt → tells_disk_fault answer ≡ true → length one ≡ length two → LeaveAlike one two doubt_one doubt_two answer
  kept_or_failed one two doubt_one doubt_two kept failed told many =
      let all : length two ≡ length journal + length doubt = ap length failed ∙ settled_length in
      let same : length one ≡ length journal = ap length kept in
      record { entries = kept ∙ sym (failed ∙ settled_same (omega (arith, all, same, many))); doubt = faulted_or answer told }

  settled_or_failed : (one two doubt_one doubt_two commit : List Entry) → one ≡ settled journal doubt ++ commit → two ≡ settled journal doubt → tells_disk_fault answer ≡ true → length one ≡ length two → LeaveAlike one two doubt_one doubt_two answer
  settled_or_failed one two doubt_one doubt_two commit made failed told many =
      let all : length one ≡ length (settled journal doubt) + length commit = ap length made ∙ length-append (settled journal doubt) commit in
      let same : length two ≡ length (settled journal doubt) = ap length failed in
      record { entries = adds_nothing (settled journal doubt) commit one made (omega (arith, all, same, many)) ∙ sym failed; doubt = faulted_or answer told }

  ends_alike : (one two doubt_one doubt_two : List Entry) → TurnEnd store journal doubt caller asked used one doubt_one answer → TurnEnd store journal doubt caller asked used two doubt_two answer → length one ≡ length two → LeaveAlike one two doubt_one doubt_two answer
  ends_alike one two doubt_one doubt_two (as_it_was a d) (as_it_was b e) many = record { entries = a ∙ sym b; doubt = λ _. d ∙ sym e }
  ends_alike one two doubt_one doubt_two (as_it_was a d) (after_settling commit b e _) many = kept_or_settled one two doubt_one doubt_two commit a d b e many
  ends_alike one two doubt_one doubt_two (as_it_was a d) (after_failing b told) many = kept_or_failed one two doubt_one doubt_two a b told many
  ends_alike one two doubt_one doubt_two (after_settling commit b e _) (as_it_was a d) many = leave_alike_too two one doubt_two doubt_one answer (kept_or_settled two one doubt_two doubt_one commit a d b e (sym many))
  ends_alike one two doubt_one doubt_two (after_settling commit a d made) (after_settling other b e made_there) many =
      let first = ap length a ∙ length-append (settled journal doubt) commit in
      let second = ap length b ∙ length-append (settled journal doubt) other in
      record { entries = made_alike store (settled journal doubt) caller asked used one two commit other made made_there a b (omega (arith, many, first, second)); doubt = λ _. d ∙ sym e }
  ends_alike one two doubt_one doubt_two (after_settling commit a _ _) (after_failing b told) many = settled_or_failed one two doubt_one doubt_two commit a b told many
  ends_alike one two doubt_one doubt_two (after_failing b told) (as_it_was a d) many = leave_alike_too two one doubt_two doubt_one answer (kept_or_failed two one doubt_two doubt_one a b told (sym many))
  ends_alike one two doubt_one doubt_two (after_failing b told) (after_settling commit a _ _) many = leave_alike_too two one doubt_two doubt_one answer (settled_or_failed two one doubt_two doubt_one commit a b told (sym many))
  ends_alike one two doubt_one doubt_two (after_failing a told) (after_failing b _) many = record { entries = a ∙ sym b; doubt = faulted_or answer told }

  pub turns_leave_alike : (one two doubt_one doubt_two : List Entry) → TurnAnswers store journal doubt caller asked used one doubt_one answer → TurnAnswers store journal doubt caller asked used two doubt_two answer → length one ≡ length two → LeaveAlike one two doubt_one doubt_two answer
  turns_leave_alike one two doubt_one doubt_two first second many =
      ends_alike one two doubt_one doubt_two (turn_end store journal doubt caller asked used one doubt_one answer first) (turn_end store journal doubt caller asked used two doubt_two answer second) many

-- a turn of a run beside one that is told alike, from the same list and doubt
module _ (store : KeyedStore) (number : ℕ) (old other : StoreState) (entries : old.entries ≡ other.entries) (doubt : old.doubt ≡ other.doubt) where
  moved_there : (one two : RunTurn) → one.request ≡ two.request → one.used ≡ two.used → one.reply ≡ two.reply → IsRunTurn store number other two
      → TurnAnswers store old.entries old.doubt (caller_of number one.request.call) one.request.asked one.used two.left.entries two.left.doubt one.reply.answer
  moved_there one two same_request same_used same_reply run =
      subst (λ (r : SessionReply). TurnAnswers store old.entries old.doubt (caller_of number one.request.call) one.request.asked one.used two.left.entries two.left.doubt r.answer) (sym same_reply)
      (subst (λ (u : Used). TurnAnswers store old.entries old.doubt (caller_of number one.request.call) one.request.asked u two.left.entries two.left.doubt two.reply.answer) (sym same_used)
      (subst (λ (q : SessionRequest). TurnAnswers store old.entries old.doubt (caller_of number q.call) q.asked two.used two.left.entries two.left.doubt two.reply.answer) (sym same_request)
      (subst (λ d. TurnAnswers store old.entries d (caller_of number two.request.call) two.request.asked two.used two.left.entries two.left.doubt two.reply.answer) (sym doubt)
      (subst (λ e. TurnAnswers store e other.doubt (caller_of number two.request.call) two.request.asked two.used two.left.entries two.left.doubt two.reply.answer) (sym entries) run.turn.answers))))

  turn_alike : (one two : RunTurn) → one.request ≡ two.request → one.used ≡ two.used → one.reply ≡ two.reply → IsRunTurn store number old one → IsRunTurn store number other two → LeaveAlike one.left.entries two.left.entries one.left.doubt two.left.doubt one.reply.answer
  turn_alike one two same_request same_used same_reply run run_there =
      turns_leave_alike store old.entries old.doubt (caller_of number one.request.call) one.request.asked one.used one.reply.answer one.left.entries two.left.entries one.left.doubt two.left.doubt run.turn.answers (moved_there one two same_request same_used same_reply run_there)
      (sym run.front ∙ ap (λ (r : SessionReply). r.front) same_reply ∙ run_there.front)

pub runs_leave_one : (store : KeyedStore) (number : ℕ) (old other : StoreState) (one two : List RunTurn) → old.entries ≡ other.entries → old.doubt ≡ other.doubt → IsRun store number old one → IsRun store number other two → AreAlike one two
    → ((last_left old one).entries ≡ (last_left other two).entries) × ((last_left old one).doubt ≡ (last_left other two).doubt)
runs_leave_one store number old other [] [] entries doubt run run_there alike = (entries, doubt)
runs_leave_one store number old other (x ∷ one) (y ∷ two) entries doubt run run_there alike =
    let here = turn_alike store number old other entries doubt x y alike.0 alike.1 alike.2 run.0 run_there.0 in
    let doubt_here : x.left.doubt ≡ y.left.doubt = elim (cases_Bool (tells_disk_fault x.reply.answer)) [
      | inl told ↦ alike.3 told
      | inr none ↦ here.doubt none
    ] in
    runs_leave_one store number x.left y.left one two here.entries doubt_here run.1 run_there.1 alike.4
runs_leave_one store number old other [] (y ∷ two) entries doubt run run_there alike = absurd alike
runs_leave_one store number old other (x ∷ one) [] entries doubt run run_there alike = absurd alike

-- ---- sessions

-- a turn of a run is a session of one request
run_turn_is_session : (store : KeyedStore) (number : ℕ) (old : StoreState) (one : RunTurn) → number ≢ 0 → IsRunTurn store number old one → Session store old.entries number (one.request ∷ []) one.used (one.reply ∷ []) one.left.entries
run_turn_is_session store number old one named run =
    let told = answers_are_told store old.entries old.doubt (caller_of number one.request.call) one.request.asked one.used one.left.entries one.left.doubt one.reply.answer run.turn.answers in
    let same : record { front = length one.left.entries; answer = one.reply.answer } ≡ one.reply = ap (λ (n : ℕ). record { front = n; answer = one.reply.answer }) (sym run.front) in
    subst (λ (r : SessionReply). Session store old.entries number (one.request ∷ []) one.used (r ∷ []) one.left.entries) same
    (turn_is_session store old.entries old.doubt number one.request one.used one.left.entries (record { front = length one.left.entries; answer = one.reply.answer }) named told)

pub run_is_session : (store : KeyedStore) (number : ℕ) (old : StoreState) (turns : List RunTurn) → number ≢ 0 → IsRun store number old turns → Session store old.entries number (run_requests turns) (run_used turns) (run_replies turns) (last_left old turns).entries
run_is_session store number old [] named run = session_begins store old.entries number
run_is_session store number old (one ∷ more) named run =
    sessions_follow store old.entries number (one.request ∷ []) one.used (one.reply ∷ []) one.left.entries (run_requests more) (run_used more) (run_replies more) (last_left one.left more).entries (run_turn_is_session store number old one named run.0)
    (run_is_session store number one.left more named run.1)

-- ---- faults

pub run_counts : (store : KeyedStore) (number : ℕ) (old : StoreState) (turns : List RunTurn) → IsRun store number old turns → RoseBy (disk_faults (run_replies turns)) old.faults (last_left old turns).faults
run_counts store number old [] run = RoseBy-nothing old.faults
run_counts store number old (one ∷ more) run =
    let here = turn_counts one.reply.answer old.faults one.left.faults run.0.turn.counted run.0.turn.told in
    let later = run_counts store number one.left more run.1 in
    subst (λ n. RoseBy n old.faults (last_left one.left more).faults) (sym (disk_faults-item one.reply (run_replies more)))
    (RoseBy-then (count (tells_disk_fault one.reply.answer)) (disk_faults (run_replies more)) old.faults one.left.faults (last_left one.left more).faults here later)
