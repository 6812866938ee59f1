-- A turn of a session's pass makes the session longer by one request.
use Rattle.std.proofs.Common.{◌≡◌, ◌≢◌, ℕ, suc, true, false, cond, ◌⊎◌, inl, inr, Ok, List, [], ◌∷◌, ◌++◌, length, map, take, filter, refl, sym, ◌∙◌, ap, subst, arith, append_assoc, length-append}
use Rattle.std.specs.Prelude.{All}
use Rattle.std.proofs.lemmas.Bool.{true≢false, eq-eqb, ne_eqb}
use Rattle.std.proofs.lemmas.List.{append-nil, append_cancel_left, take_at}
use Rattle.std.proofs.lemmas.List.Elements.{filter-append, All-map, All-weaker}
use Rattle.definitions.specs.Uses.{Used, used_nothing, then_used}
use Rattle.definitions.proofs.Uses.{then_used-nothing}
use Rattle.record_rules.specs.Records.{SealedRecord, Caller, Entry}
use Rattle.record_rules.specs.Journal.{own_events, records_of}
use Rattle.record_rules.specs.Growth.{fresh_of, first_refusal, taken_entry, grow}
use Rattle.record_rules.proofs.Repeats.{grown_batch}
use Rattle.step_rules.specs.Calls.{Call, is_read}
use Rattle.step_rules.specs.Answers.{Answer, Reply}
use Rattle.step_rules.specs.Store.{KeyedStore}
use Rattle.step_rules.specs.Step.{Ready, Step, long_step, unknown_step, full_step, taken_step, append_step, read_step}
use Rattle.step_rules.specs.Turn.{settled_entry, settled, is_refusal, UsedBeforeFailing, used_clock, used_bytes, Turn, read_turn, short_unread_turn, unsettled_turn, step_turn, undrawn_turn, uncommitted_turn, short_turn, short_settled_turn}
use Rattle.step_rules.specs.PageTurns.{PageAnswer, PageTurn, unsettled_page, taken_page, refused_page, uncommitted_page, short_page, short_settled_page}
use Rattle.step_rules.specs.ReadTurns.{StoreRead, ReadAnswer, ReadTurn, tells_status, tells_page, tells_front, faults_on_page, wants_memory}
use Rattle.step_rules.proofs.Steps.{Step-adds}
use Rattle.step_rules.proofs.ReadTurns.{ReadTurn-stands}
use Rattle.step_rules.proofs.Outcomes.{shows_read}
use Rattle.session_rules.specs.Sessions.{Asked, a_call, a_page, SessionAnswer, to_call, to_page, SessionReply, caller_of, Told, told_step, told_disk_fault, told_random_fault, told_no_memory, told_no_memory_at_once, told_bad, told_no_memory_for_bad, told_page, told_page_refused, told_page_disk_fault, told_page_no_memory, told_read, told_unrouted, told_no_memory_for_unrouted, SessionRequest, is_of, Session}
use Rattle.session_rules.specs.Turns.{TurnAnswers, answers_call, answers_unread, answers_bad, answers_page, answers_read, answers_unrouted}
use Rattle.session_rules.specs.Laws.{AddsOwn}
use Rattle.session_rules.proofs.Sessions.{none_kept, session_still, sessions_follow}

whole : (xs : List Entry) → take (length xs) xs ≡ xs
whole xs = ap (take (length xs)) (sym (append-nil xs)) ∙ take_at xs [] (length xs) refl

-- ---- what a turn is told

-- what the turn settled, what it committed, and what is told of it
pub record Turned (store : KeyedStore) (journal doubt : List Entry) (caller : Caller) (asked : Asked) (used : Used) (after : List Entry) (reply : SessionReply) : Type 0 where
  pub settles : List Entry
  pub commit : List Entry
  pub after_is : after ≡ journal ++ (settles ++ commit)
  pub front_is : reply.front ≡ length after
  pub settles_are : (settles ≡ []) ⊎ (settles ≡ map settled_entry doubt)
  -- what is settled is of no pass
  pub of_none : All (λ (entry : Entry). entry.caller.number ≡ 0) settles
  pub of_caller : All (λ (entry : Entry). entry.caller ≡ caller) commit
  pub told : Told store after caller asked reply.front used reply.answer commit

settled_of_none : (doubt : List Entry) → All (λ (entry : Entry). entry.caller.number ≡ 0) (map settled_entry doubt)
settled_of_none doubt = All-map (λ (entry : Entry). entry.caller.number ≡ 0) settled_entry doubt (λ k d below. refl)

-- and isn't of any that has a number
not_of_any : (settles : List Entry) (number : ℕ) → number ≢ 0 → All (λ (entry : Entry). entry.caller.number ≡ 0) settles → All (λ entry. is_of number entry ≡ false) settles
not_of_any settles number named none = All-weaker (λ (entry : Entry). entry.caller.number ≡ 0) (λ entry. is_of number entry ≡ false) (λ entry zero. ne_eqb entry.caller.number number (λ same. named (sym same ∙ zero))) settles none

-- a commit that was tried had drawn its bytes
used_by_commit : (store : KeyedStore) (journal : List Entry) (caller : Caller) (call : Call) (used : Used) (after : List Entry) (answer : Answer) → is_read call ≡ false → is_refusal answer ≡ false → Step store journal caller call used after answer → UsedBeforeFailing store journal call used
used_by_commit store journal caller call used after answer writes taken (long_step _ _ _ _ r) = absurd (true≢false (sym (ap is_refusal r.answer_is) ∙ taken))
used_by_commit store journal caller call used after answer writes taken (unknown_step _ _ _ _ _ r) = absurd (true≢false (sym (ap is_refusal r.answer_is) ∙ taken))
used_by_commit store journal caller call used after answer writes taken (full_step _ _ _ _ _ _ _ r) = absurd (true≢false (sym (ap is_refusal r.answer_is) ∙ taken))
used_by_commit store journal caller call used after answer writes taken (taken_step _ _ _ _ _ _ _ r) = absurd (true≢false (sym (ap is_refusal r.answer_is) ∙ taken))
used_by_commit store journal caller call used after answer writes taken (append_step now drawn draft is many ready _ _ _) = used_bytes now draft drawn ready many is
used_by_commit store journal caller call used after answer writes taken (read_step _ shows _) = absurd (true≢false (sym (shows_read store journal caller call answer shows) ∙ writes))

-- the reply at the end of the journal
abbrev answered_at : List Entry → SessionAnswer → SessionReply
answered_at after answer = record { front = length after; answer = answer }

module _ (store : KeyedStore) (journal doubt : List Entry) (caller : Caller) (asked : Asked) (used : Used) (after : List Entry) (answer : SessionAnswer) where
  -- nothing settled, nothing committed
  nothing_turned : after ≡ journal → Told store after caller asked (length after) used answer [] → Turned store journal doubt caller asked used after (answered_at after answer)
  nothing_turned stays told = record { settles = []; settles_are = inl refl; commit = []; after_is = stays ∙ sym (append-nil journal); front_is = refl; of_none = λ k d below. absurd (omega arith); of_caller = λ k d below. absurd (omega arith); told = told }

  settled_turned : (commit : List Entry) → after ≡ settled journal doubt ++ commit → All (λ (entry : Entry). entry.caller ≡ caller) commit → Told store after caller asked (length after) used answer commit → Turned store journal doubt caller asked used after (answered_at after answer)
  settled_turned commit after_is own told =
      record { settles = map settled_entry doubt; settles_are = inr refl; commit = commit; after_is = after_is ∙ append_assoc journal (map settled_entry doubt) commit; front_is = refl; of_none = settled_of_none doubt; of_caller = own; told = told }

  only_settled : after ≡ settled journal doubt → Told store after caller asked (length after) used answer [] → Turned store journal doubt caller asked used after (answered_at after answer)
  only_settled after_is told = settled_turned [] (after_is ∙ sym (append-nil (settled journal doubt))) (λ k d below. absurd (omega arith)) told

module _ (store : KeyedStore) (journal doubt : List Entry) (caller : Caller) (call : Call) (used : Used) (after doubt_after : List Entry) (reply : Reply) (asked : Asked) (answer : SessionAnswer) (is : asked ≡ a_call call) (told : answer ≡ to_call reply.answer) where
  -- the reply's answer
  answer_is : (given : Answer) → reply ≡ record { front = length after; answer = given } → answer ≡ to_call given
  answer_is given same = told ∙ ap (λ (r : Reply). to_call r.answer) same

  by_step : (before commit : List Entry) (given : Answer) → after ≡ before ++ commit → reply ≡ record { front = length after; answer = given } → Step store before caller call used after given → Told store after caller asked (length after) used answer commit
  by_step before commit given after_is same step = told_step call before given is (whole after ∙ after_is) (subst (λ j. Step store before caller call used j given) (sym (whole after)) step) (answer_is given same)

  -- it left the journal, or settled
  stayed : after ≡ journal → Told store after caller asked (length after) used answer [] → Turned store journal doubt caller asked used after (answered_at after answer)
  stayed = nothing_turned store journal doubt caller asked used after answer

  settled_alone : after ≡ settled journal doubt → Told store after caller asked (length after) used answer [] → Turned store journal doubt caller asked used after (answered_at after answer)
  settled_alone = only_settled store journal doubt caller asked used after answer

  -- what was used at a journal that it left
  used_after : (left : List Entry) → after ≡ left → UsedBeforeFailing store left call used → UsedBeforeFailing store (take (length after) after) call used
  used_after left same some = subst (λ j. UsedBeforeFailing store j call used) (sym (whole after ∙ same)) some

  turn_is_told : Turn store journal doubt caller call used after doubt_after reply → Turned store journal doubt caller asked used after (answered_at after answer)
  turn_is_told (read_turn given u shows l) = stayed l.journal_is (by_step journal [] given (l.journal_is ∙ sym (append-nil journal)) l.reply_is (read_step u shows l.journal_is))
  turn_is_told (short_unread_turn u l) = stayed l.journal_is (told_no_memory_at_once call is u (answer_is _ l.reply_is) refl)
  turn_is_told (unsettled_turn now writes _ u l) = stayed l.journal_is (told_disk_fault call is writes (used_clock now u) (answer_is _ l.reply_is) refl)
  turn_is_told (step_turn made given writes step l) =
      let left : Step store (settled journal doubt) caller call used after given = subst (λ j. Step store (settled journal doubt) caller call used j given) (sym l.journal_is) step in
      let adds = Step-adds store (settled journal doubt) caller call used after given left in
      settled_turned store journal doubt caller asked used after answer adds.added adds.after_is adds.of_caller (by_step (settled journal doubt) adds.added given adds.after_is l.reply_is left)
  turn_is_told (undrawn_turn now draft ready u l) =
      settled_alone l.journal_is (told_random_fault call draft now is (subst (λ j. Ready store j call draft) (sym (whole after ∙ l.journal_is)) ready) u (answer_is _ l.reply_is) refl)
  turn_is_told (uncommitted_turn batch left given writes taken step _ l) =
      settled_alone l.journal_is
      (told_disk_fault call is writes (used_after (settled journal doubt) l.journal_is (used_by_commit store (settled journal doubt) caller call used (settled journal doubt ++ batch) given writes taken step)) (answer_is _ l.reply_is) refl)
  turn_is_told (short_turn now writes u l) = stayed l.journal_is (told_no_memory call is writes (used_clock now u) (answer_is _ l.reply_is) refl)
  turn_is_told (short_settled_turn writes some l) = settled_alone l.journal_is (told_no_memory call is writes (used_after (settled journal doubt) l.journal_is some) (answer_is _ l.reply_is) refl)

-- ---- the same of a page

-- what a page adds is of its call
pub batch_of_caller : (journal : List Entry) (caller : Caller) (owner : ℕ) (records : List SealedRecord) (batch : List Entry) → grow journal caller owner records ≡ Ok batch → All (λ (entry : Entry). entry.caller ≡ caller) batch
batch_of_caller journal caller owner records batch is =
    let fresh = fresh_of (records_of (own_events journal owner)) records in
    subst (All (λ (entry : Entry). entry.caller ≡ caller)) (grown_batch (map (taken_entry caller owner) fresh) (first_refusal owner (own_events journal owner) [] records) batch is).1
    (All-map (λ (entry : Entry). entry.caller ≡ caller) (taken_entry caller owner) fresh (λ k r below. refl))

module _ (store : KeyedStore) (journal doubt : List Entry) (caller : Caller) (owner : ℕ) (records : List SealedRecord) (used : Used) (after doubt_after : List Entry) (given : PageAnswer) (asked : Asked) (answer : SessionAnswer) (is : asked ≡ a_page owner records) (u : used ≡ used_nothing) (told : answer ≡ to_page given) where
  page_is_told : PageTurn journal doubt caller owner records after doubt_after given → Turned store journal doubt caller asked used after (answered_at after answer)
  page_is_told (unsettled_page _ l same) = nothing_turned store journal doubt caller asked used after answer l.journal_is (told_page_disk_fault owner records is u (told ∙ ap to_page same) refl)
  page_is_told (taken_page batch grows l same) =
      settled_turned store journal doubt caller asked used after answer batch l.journal_is (batch_of_caller (settled journal doubt) caller owner records batch grows)
      (told_page owner records (settled journal doubt) is (whole after ∙ l.journal_is) grows u (told ∙ ap to_page same))
  page_is_told (refused_page refusal grows l same) =
      only_settled store journal doubt caller asked used after answer l.journal_is
      (told_page_refused owner records refusal is (ap (λ j. grow j caller owner records) (whole after ∙ l.journal_is) ∙ grows) u (told ∙ ap to_page same) refl)
  page_is_told (uncommitted_page _ _ _ _ _ l same) = only_settled store journal doubt caller asked used after answer l.journal_is (told_page_disk_fault owner records is u (told ∙ ap to_page same) refl)
  page_is_told (short_page l same) = nothing_turned store journal doubt caller asked used after answer l.journal_is (told_page_no_memory owner records is u (told ∙ ap to_page same) refl)
  page_is_told (short_settled_page l same) = only_settled store journal doubt caller asked used after answer l.journal_is (told_page_no_memory owner records is u (told ∙ ap to_page same) refl)

-- ---- and of whatever is asked

-- a read tells the same of the journal that it left, with nothing in doubt
read_alone : (journal doubt : List Entry) (read : StoreRead) (after doubt_after : List Entry) (given : ReadAnswer) → ReadTurn journal doubt read after doubt_after given → ReadTurn journal [] read journal [] given
read_alone journal doubt read after doubt_after given (tells_status owner is _ same) = tells_status owner is (record { journal_is = refl; doubt_is = refl }) same
read_alone journal doubt read after doubt_after given (tells_page owner host tag start count is _ same) = tells_page owner host tag start count is (record { journal_is = refl; doubt_is = refl }) same
read_alone journal doubt read after doubt_after given (tells_front is _ same) = tells_front is (record { journal_is = refl; doubt_is = refl }) same
read_alone journal doubt read after doubt_after given (faults_on_page owner host tag start count is _ same) = faults_on_page owner host tag start count is (record { journal_is = refl; doubt_is = refl }) same
read_alone journal doubt read after doubt_after given (wants_memory other _ same) = wants_memory other (record { journal_is = refl; doubt_is = refl }) same

module _ (store : KeyedStore) (journal doubt : List Entry) (caller : Caller) (asked : Asked) (used : Used) (after doubt_after : List Entry) (answer : SessionAnswer) where
  left_alone : after ≡ journal → Told store after caller asked (length after) used answer [] → Turned store journal doubt caller asked used after (answered_at after answer)
  left_alone = nothing_turned store journal doubt caller asked used after answer

  pub answers_are_told : TurnAnswers store journal doubt caller asked used after doubt_after answer → Turned store journal doubt caller asked used after (answered_at after answer)
  answers_are_told (answers_call call reply is turn told) = turn_is_told store journal doubt caller call used after doubt_after reply asked answer is told turn
  answers_are_told (answers_unread call is u l told) = left_alone l.journal_is (told_no_memory_at_once call is u told refl)
  answers_are_told (answers_bad place is u l (inl told)) = left_alone l.journal_is (told_bad place is u told refl)
  answers_are_told (answers_bad place is u l (inr told)) = left_alone l.journal_is (told_no_memory_for_bad place is u told refl)
  answers_are_told (answers_page owner records given is u turn told) = page_is_told store journal doubt caller owner records used after doubt_after given asked answer is u told turn
  answers_are_told (answers_read read given is u turn told) =
      let stays : after ≡ journal = (ReadTurn-stands journal doubt read after doubt_after given turn).journal_is in
      let there : ReadTurn (take (length after) after) [] read (take (length after) after) [] given = subst (λ j. ReadTurn j [] read j [] given) (sym (whole after ∙ stays)) (read_alone journal doubt read after doubt_after given turn) in
      left_alone stays (told_read read given is there u told refl)
  answers_are_told (answers_unrouted code is u l (inl told)) = left_alone l.journal_is (told_unrouted code is u told refl)
  answers_are_told (answers_unrouted code is u l (inr told)) = left_alone l.journal_is (told_no_memory_for_unrouted code is u told refl)

none_of_caller : (caller : Caller) (doubt_after : List Entry) → doubt_after ≡ [] → All (λ (entry : Entry). entry.caller ≡ caller) doubt_after
none_of_caller caller doubt_after is = subst (All (λ (entry : Entry). entry.caller ≡ caller)) (sym is) (λ k d below. absurd (omega arith))

step_of_caller : (store : KeyedStore) (before : List Entry) (caller : Caller) (call : Call) (used : Used) (batch : List Entry) (given : Answer) → Step store before caller call used (before ++ batch) given → All (λ (entry : Entry). entry.caller ≡ caller) batch
step_of_caller store before caller call used batch given step =
    let adds = Step-adds store before caller call used (before ++ batch) given step in
    subst (All (λ (entry : Entry). entry.caller ≡ caller)) (sym (append_cancel_left before batch adds.added adds.after_is)) adds.of_caller

lost_or_left : (caller : Caller) (left batch doubt_after : List Entry) → (left ≡ []) ⊎ (left ≡ batch) → doubt_after ≡ left → All (λ (entry : Entry). entry.caller ≡ caller) batch → All (λ (entry : Entry). entry.caller ≡ caller) doubt_after
lost_or_left caller left batch doubt_after (inl lost) is own = none_of_caller caller doubt_after (is ∙ lost)
lost_or_left caller left batch doubt_after (inr kept) is own = subst (All (λ (entry : Entry). entry.caller ≡ caller)) (sym (is ∙ kept)) own

doubt_of_call : (store : KeyedStore) (journal doubt : List Entry) (caller : Caller) (call : Call) (used : Used) (after doubt_after : List Entry) (reply : Reply) → Turn store journal doubt caller call used after doubt_after reply → (doubt_after ≡ doubt) ⊎ All (λ (entry : Entry). entry.caller ≡ caller) doubt_after
doubt_of_call store journal doubt caller call used after doubt_after reply (read_turn _ _ _ l) = inl l.doubt_is
doubt_of_call store journal doubt caller call used after doubt_after reply (short_unread_turn _ l) = inl l.doubt_is
doubt_of_call store journal doubt caller call used after doubt_after reply (unsettled_turn _ _ _ _ l) = inl l.doubt_is
doubt_of_call store journal doubt caller call used after doubt_after reply (step_turn _ _ _ _ l) = inr (none_of_caller caller doubt_after l.doubt_is)
doubt_of_call store journal doubt caller call used after doubt_after reply (undrawn_turn _ _ _ _ l) = inr (none_of_caller caller doubt_after l.doubt_is)
doubt_of_call store journal doubt caller call used after doubt_after reply (uncommitted_turn batch left given _ _ step kept l) = inr (lost_or_left caller left batch doubt_after kept l.doubt_is (step_of_caller store (settled journal doubt) caller call used batch given step))
doubt_of_call store journal doubt caller call used after doubt_after reply (short_turn _ _ _ l) = inl l.doubt_is
doubt_of_call store journal doubt caller call used after doubt_after reply (short_settled_turn _ _ l) = inr (none_of_caller caller doubt_after l.doubt_is)

doubt_of_page : (journal doubt : List Entry) (caller : Caller) (owner : ℕ) (records : List SealedRecord) (after doubt_after : List Entry) (given : PageAnswer) → PageTurn journal doubt caller owner records after doubt_after given → (doubt_after ≡ doubt) ⊎ All (λ (entry : Entry). entry.caller ≡ caller) doubt_after
doubt_of_page journal doubt caller owner records after doubt_after given (unsettled_page _ l _) = inl l.doubt_is
doubt_of_page journal doubt caller owner records after doubt_after given (taken_page _ _ l _) = inr (none_of_caller caller doubt_after l.doubt_is)
doubt_of_page journal doubt caller owner records after doubt_after given (refused_page _ _ l _) = inr (none_of_caller caller doubt_after l.doubt_is)
doubt_of_page journal doubt caller owner records after doubt_after given (uncommitted_page batch left grows _ kept l _) = inr (lost_or_left caller left batch doubt_after kept l.doubt_is (batch_of_caller (settled journal doubt) caller owner records batch grows))
doubt_of_page journal doubt caller owner records after doubt_after given (short_page l _) = inl l.doubt_is
doubt_of_page journal doubt caller owner records after doubt_after given (short_settled_page l _) = inr (none_of_caller caller doubt_after l.doubt_is)

doubt_of_turn : (store : KeyedStore) (journal doubt : List Entry) (caller : Caller) (asked : Asked) (used : Used) (after doubt_after : List Entry) (answer : SessionAnswer) → TurnAnswers store journal doubt caller asked used after doubt_after answer → (doubt_after ≡ doubt) ⊎ All (λ (entry : Entry). entry.caller ≡ caller) doubt_after
doubt_of_turn store journal doubt caller asked used after doubt_after answer (answers_call call reply _ turn _) = doubt_of_call store journal doubt caller call used after doubt_after reply turn
doubt_of_turn store journal doubt caller asked used after doubt_after answer (answers_unread _ _ _ l _) = inl l.doubt_is
doubt_of_turn store journal doubt caller asked used after doubt_after answer (answers_bad _ _ _ l _) = inl l.doubt_is
doubt_of_turn store journal doubt caller asked used after doubt_after answer (answers_page owner records given _ _ turn _) = doubt_of_page journal doubt caller owner records after doubt_after given turn
doubt_of_turn store journal doubt caller asked used after doubt_after answer (answers_read read given _ _ turn _) = inl (ReadTurn-stands journal doubt read after doubt_after given turn).doubt_is
doubt_of_turn store journal doubt caller asked used after doubt_after answer (answers_unrouted _ _ _ l _) = inl l.doubt_is

pub turn_adds_own : (store : KeyedStore) (journal doubt : List Entry) (caller : Caller) (asked : Asked) (used : Used) (after doubt_after : List Entry) (answer : SessionAnswer) → TurnAnswers store journal doubt caller asked used after doubt_after answer → AddsOwn journal doubt caller after doubt_after
turn_adds_own store journal doubt caller asked used after doubt_after answer turn =
    let turned = answers_are_told store journal doubt caller asked used after doubt_after answer turn in
    record {
      settles = turned.settles;
      commit = turned.commit;
      after_is = turned.after_is;
      settles_are = turned.settles_are;
      of_caller = turned.of_caller;
      in_doubt = doubt_of_turn store journal doubt caller asked used after doubt_after answer turn;
    }

-- ---- one request more

all_kept : (number : ℕ) (commit : List Entry) → All (λ entry. is_of number entry ≡ true) commit → filter (is_of number) commit ≡ commit
all_kept number [] own = refl
all_kept number (entry ∷ commit) own =
    ap (λ b. cond b (entry ∷ filter (is_of number) commit) (filter (is_of number) commit)) (own 0 entry (omega arith)) ∙ ap (λ rest. entry ∷ rest) (all_kept number commit (λ k d below. own (suc k) d (omega arith)))

-- a turn is a session of one request
pub turn_is_session : (store : KeyedStore) (journal doubt : List Entry) (number : ℕ) (one : SessionRequest) (used : Used) (after : List Entry) (reply : SessionReply) → number ≢ 0 → Turned store journal doubt (caller_of number one.call) one.asked used after reply
    → Session store journal number (one ∷ []) used (reply ∷ []) after
turn_is_session store journal doubt number one used after reply named turned =
    let caller : Caller = caller_of number one.call in
    let own : filter (is_of number) turned.commit ≡ turned.commit = all_kept number turned.commit (λ k d below. eq-eqb _ number (ap (λ (c : Caller). c.number) (turned.of_caller k d below))) in
    let all = ap length turned.after_is ∙ length-append journal (turned.settles ++ turned.commit) in
    let parts = length-append turned.settles turned.commit in
    let front : reply.front ≡ length after = turned.front_is in
    record {
      since = turned.settles ++ turned.commit;
      begins = turned.after_is;
      served = record { request = one; used = used; commit = turned.commit; reply = reply } ∷ [];
      requests_are = refl;
      used_is = then_used-nothing used;
      replies_are = refl;
      serves = (record { behind = omega (arith, front, all, parts); within = omega (arith, front); told = turned.told }, tt);
      own_are = filter-append (is_of number) turned.settles turned.commit ∙ ap (λ c. c ++ filter (is_of number) turned.commit) (none_kept number turned.settles (not_of_any turned.settles number named turned.of_none)) ∙ own ∙ sym (append-nil turned.commit);
    }

pub session_grows : (store : KeyedStore) (seen : List Entry) (number : ℕ) (requests : List SessionRequest) (used : Used) (replies : List SessionReply) (journal more doubt : List Entry) (one : SessionRequest) (used_here : Used) (after doubt_after : List Entry) (answer : SessionAnswer)
    → number ≢ 0 → Session store seen number requests used replies journal → All (λ entry. is_of number entry ≡ false) more → TurnAnswers store (journal ++ more) doubt (caller_of number one.call) one.asked used_here after doubt_after answer
    → Session store seen number (requests ++ one ∷ []) (then_used used used_here) (replies ++ record { front = length after; answer = answer } ∷ []) after
session_grows store seen number requests used replies journal more doubt one used_here after doubt_after answer named session others turn =
    let turned = answers_are_told store (journal ++ more) doubt (caller_of number one.call) one.asked used_here after doubt_after answer turn in
    sessions_follow store seen number requests used replies (journal ++ more) (one ∷ []) used_here (answered_at after answer ∷ []) after
    (session_still store seen number requests used replies journal more session others) (turn_is_session store (journal ++ more) doubt number one used_here after (answered_at after answer) named turned)
