-- The laws of sessions, as statements. Each is the contract of the function of its name.
use Rattle.std.specs.Prelude.{◌≡◌, ◌≢◌, ℕ, ◌^◌, ◌<◌, ◌≤◌, ◌⊎◌, ◌↔◌, List, [], ◌∷◌, ◌++◌, length, map, take, slice_get, All, true, false, Some}
use Rattle.std.specs.List.{Contains, filter}
use Rattle.definitions.specs.Spelling.{IsBytes}
use Rattle.definitions.specs.Counts.{RoseBy}
use Rattle.definitions.specs.Prefixes.{IsPrefix}
use Rattle.definitions.specs.Calls.{WrongAt}
use Rattle.definitions.specs.Uses.{Used, used_nothing, then_used}
use Rattle.record_rules.specs.Records.{Caller, Entry}
use Rattle.record_rules.specs.Journal.{own_events, Sound}
use Rattle.record_rules.specs.Answers.{OwnerAsked}
use Rattle.step_rules.specs.Calls.{Call, CallFits}
use Rattle.step_rules.specs.Answers.{refused, no_memory, bad_request, Answer, Reply}
use Rattle.step_rules.specs.Store.{KeyedStore}
use Rattle.step_rules.specs.Sealing.{Sealing, TextsWithinRecords}
use Rattle.step_rules.specs.Turn.{settled_entry}
use Rattle.request_rules.specs.Requests.{call_kinds}
use Rattle.session_rules.specs.Sessions.{Asked, a_call, SessionAnswer, to_call, SessionReply, call_reply, caller_of, Told, SessionRequest, asked_in, commits_of, is_of, Session, told_random_faults, is_stored}
use Rattle.session_rules.specs.Reading.{Reads, ReadsEach}
use Rattle.session_rules.specs.Turns.{TurnAnswers}
use Rattle.session_rules.specs.Passes.{TurnItem, Pass, mine, seen_more, KnowsItself, PassMoves, SplitsOff, IsSpent, Joins, tells_disk_fault, disk_faults, TurnsOf}
use Rattle.session_rules.specs.Books.{Book, MayGive, Finds, first_pass, turn_between, PassTakes, PassGives, PassTurn}
use Rattle.session_rules.specs.Stores.{StoreState, store_of, store_book, StoreTurn, RunTurn, IsRun, last_left, run_requests, run_replies, run_used, AreAlike}
use Rattle.session_rules.specs.Bytes.{reply_bytes}
use Rattle.session_rules.specs.Within.{most_reply_bytes}
use Rattle.session_rules.specs.Owners.{owner_asks, went_well, AnswersOwner}
use Rattle.session_rules.specs.Http.{IsHttp, MayFault, fault_code, response_code, HttpSession}

-- each request gets one reply
abbrev pub EachIsAnswered : Type 0
EachIsAnswered = (store : KeyedStore) (seen : List Entry) (number : ℕ) (requests : List SessionRequest) (used : Used) (replies : List SessionReply) (journal : List Entry) → Session store seen number requests used replies journal → length requests ≡ length replies

-- Each reply is what its call is told at the point of the journal that the reply names, the front, under the number that the request carries.
abbrev pub RepliesAtPoints : Type 0
RepliesAtPoints = (store : KeyedStore) (seen : List Entry) (number : ℕ) (requests : List SessionRequest) (used : Used) (replies : List SessionReply) (journal : List Entry) (k : ℕ) (request : SessionRequest) (reply : SessionReply) → Session store seen number requests used replies journal → slice_get requests k ≡ Some request → slice_get replies k ≡ Some reply
    → (used_here : Used) × (commit : List Entry) × Told store journal (caller_of number request.call) request.asked reply.front used_here reply.answer commit

-- The points follow one another: no front lies before an earlier one, before what was seen at the opening, or behind the journal's end.
abbrev pub PointsFollow : Type 0
PointsFollow = (store : KeyedStore) (seen : List Entry) (number : ℕ) (requests : List SessionRequest) (used : Used) (replies : List SessionReply) (journal : List Entry) (i k : ℕ) (r s : SessionReply) → Session store seen number requests used replies journal → i ≤ k → slice_get replies i ≡ Some r → slice_get replies k ≡ Some s
    → (length seen ≤ r.front) × (r.front ≤ s.front) × (s.front ≤ length journal)

-- What tells of nothing that was stored commits nothing: a refusal, a read, and what failed.
abbrev pub OnlyStoredCommits : Type 0
OnlyStoredCommits = (store : KeyedStore) (journal : List Entry) (caller : Caller) (asked : Asked) (front : ℕ) (used : Used) (answer : SessionAnswer) (commit : List Entry) → Told store journal caller asked front used answer commit → is_stored answer ≡ false → commit ≡ []

-- a session's commits have its number
abbrev pub CommitsAreOwn : Type 0
CommitsAreOwn = (store : KeyedStore) (seen : List Entry) (number : ℕ) (requests : List SessionRequest) (used : Used) (replies : List SessionReply) (journal : List Entry) (entry : Entry) → (session : Session store seen number requests used replies journal) → Contains (commits_of session.served) entry → entry.caller.number ≡ number

-- so no entry of a journal is committed by two sessions of different numbers, whatever journals they saw
abbrev pub SessionsDontOverlap : Type 0
SessionsDontOverlap = (store other : KeyedStore) (seen seen_there : List Entry) (number other_number : ℕ) (requests others : List SessionRequest) (used used_there : Used) (replies replies_there : List SessionReply) (journal other_journal : List Entry) (entry : Entry)
    → (one : Session store seen number requests used replies journal) → (two : Session other seen_there other_number others used_there replies_there other_journal) → number ≢ other_number → Contains (commits_of one.served) entry → Contains (commits_of two.served) entry → ⊥

-- what others add behind leaves the session
abbrev pub OthersLeaveIt : Type 0
OthersLeaveIt = (store : KeyedStore) (seen : List Entry) (number : ℕ) (requests : List SessionRequest) (used : Used) (replies : List SessionReply) (journal more : List Entry) → Session store seen number requests used replies journal → All (λ entry. is_of number entry ≡ false) more → Session store seen number requests used replies (journal ++ more)

-- A turn at the journal, behind whatever others added, makes the session longer by that request, its answer and what it used. So sessions are
-- what turns make, in whatever order the turns of several come.
abbrev pub TurnMakesLonger : Type 0
TurnMakesLonger = (store : KeyedStore) (seen : List Entry) (number : ℕ) (requests : List SessionRequest) (used : Used) (replies : List SessionReply) (journal more doubt : List Entry) (one : SessionRequest) (used_here : Used) (after doubt_after : List Entry) (answer : SessionAnswer)
    → number ≢ 0 → Session store seen number requests used replies journal → All (λ entry. is_of number entry ≡ false) more → TurnAnswers store (journal ++ more) doubt (caller_of number one.call) one.asked used_here after doubt_after answer
    → Session store seen number (requests ++ one ∷ []) (then_used used used_here) (replies ++ record { front = length after; answer = answer } ∷ []) after

-- Two sessions of one number, the second from where the first ended, are one: so those of a worker's connections are, each with its calls numbered
-- from 1.
abbrev pub SessionsFollow : Type 0
SessionsFollow = (store : KeyedStore) (seen : List Entry) (number : ℕ) (requests : List SessionRequest) (used : Used) (replies : List SessionReply) (between : List Entry) (more : List SessionRequest) (used_more : Used) (replies_more : List SessionReply) (journal : List Entry)
    → Session store seen number requests used replies between → Session store between number more used_more replies_more journal → Session store seen number (requests ++ more) (then_used used used_more) (replies ++ replies_more) journal

-- a session begins with no request, at any journal
abbrev pub SessionBegins : Type 0
SessionBegins = (store : KeyedStore) (seen : List Entry) (number : ℕ) → Session store seen number [] used_nothing [] seen

-- The replies that tell of a fault of the random source are as many as the draws that failed, so no such reply comes without one.
abbrev pub RandomFaultsAreDraws : Type 0
RandomFaultsAreDraws = (store : KeyedStore) (seen : List Entry) (number : ℕ) (requests : List SessionRequest) (used : Used) (replies : List SessionReply) (journal : List Entry) → Session store seen number requests used replies journal → told_random_faults replies ≡ used.faults

-- the turns of two runs of replies, one after the other, are those of both
abbrev pub TurnsFollow : Type 0
TurnsFollow = (before between after : List TurnItem) (replies more : List SessionReply) → TurnsOf before replies between → TurnsOf between more after → TurnsOf before (replies ++ more) after

-- what a pass has committed grows by the entries of its number among those that it sees
abbrev pub PassGrowsByItsOwn : Type 0
PassGrowsByItsOwn = (pass : Pass) (added : List Entry) → mine (seen_more pass added) ≡ mine pass ++ filter (is_of pass.number) added

-- a pass that stays moves, and moves follow one another; so a run of calls moves it
abbrev pub PassStays : Type 0
PassStays = (pass : Pass) → PassMoves pass pass

abbrev pub MovesFollow : Type 0
MovesFollow = (one two three : Pass) → PassMoves one two → PassMoves two three → PassMoves one three

-- a pass that knows of its own number goes on to know of it
abbrev pub PassKnowsItself : Type 0
PassKnowsItself = (old new : Pass) → PassMoves old new → KnowsItself old → KnowsItself new

-- Of a pass and its turns since then: for each reply that tells of a fault of the disk one was counted.
abbrev pub DiskFaultsAreCounted : Type 0
DiskFaultsAreCounted = (old new : Pass) (replies : List SessionReply) → PassMoves old new → TurnsOf old.turns replies new.turns → RoseBy (disk_faults replies) old.faults new.faults

-- ---- passes that are split and joined

-- A split moves the old pass. The new one has all that the other had seen and counted, no commits and no turns; it knows of its number, which
-- the other one has not.
pub record StartsAnew (old new part : Pass) : Type 0 where
  pub moves : PassMoves old new
  pub seen : part.seen ≡ old.seen
  pub faults : part.faults ≡ old.faults
  pub fixed : part.fixed ≡ old.fixed
  pub mine_is : mine part ≡ []
  pub turns : part.turns ≡ []
  pub known : KnowsItself part
  pub number : KnowsItself old → old.number < part.number

abbrev pub SplitStartsAnew : Type 0
SplitStartsAnew = (old new part : Pass) → SplitsOff old new part → StartsAnew old new part

-- What is split off one pass has numbers that rise, whatever the pass does between: no two are one.
abbrev pub NumbersRise : Type 0
NumbersRise = (old new part later last other : Pass) → SplitsOff old new part → PassMoves new later → SplitsOff later last other → part.number < other.number

-- Where no number is left the pass moves, and none is split off it from then on.
pub record StaysSpent (old new : Pass) : Type 0 where
  pub moves : PassMoves old new
  pub none_left : (later last other : Pass) → PassMoves new later → SplitsOff later last other → ⊥

abbrev pub SpentForGood : Type 0
SpentForGood = (old new : Pass) (given : ℕ) → IsSpent old new given → StaysSpent old new

-- A join moves the pass, and nothing that the other one had seen or counted is lost.
pub record KeepsBoth (pass other new : Pass) : Type 0 where
  pub moves : PassMoves pass new
  pub seen : IsPrefix other.seen new.seen
  pub known : other.known ≤ new.known
  pub faults : other.faults ≤ new.faults

abbrev pub JoinKeepsBoth : Type 0
JoinKeepsBoth = (pass other new : Pass) → Joins pass other new → KeepsBoth pass other new

-- ---- turns at the book

-- The pass with which a book begins to be shared finds it, knows of itself, and has committed nothing, where no entry has its number.
pub record BeginsToFind (book : Book) : Type 0 where
  pub finds : Finds (first_pass book) book
  pub known : KnowsItself (first_pass book)
  pub mine_is : mine (first_pass book) ≡ []

abbrev pub FirstPassFinds : Type 0
FirstPassFinds = (book : Book) → All (λ entry. is_of 1 entry ≡ false) book.entries → BeginsToFind book

-- A turn leaves what any call leaves of a pass, with one turn more; and the pass finds what it left.
pub record MovesAndFinds (pass : Pass) (found left : Book) (after : Pass) : Type 0 where
  pub moves : PassMoves pass after
  pub one_more : after.turns ≡ pass.turns ++ turn_between found left ∷ []
  pub finds : Finds after left

abbrev pub TurnMovesPass : Type 0
TurnMovesPass = (pass : Pass) (found left : Book) (after : Pass) → PassTurn pass found left after → MovesAndFinds pass found left after

-- What is taken and given is one turn.
abbrev pub TakeAndGiveAreATurn : Type 0
TakeAndGiveAreATurn = (pass taken : Pass) (found left : Book) (after : Pass) → PassTakes pass found taken → PassGives taken found left after → PassTurn pass found left after

-- What a pass finds it finds later too, whatever passes of other numbers leave: so it does at its next turn, and when it closes.
abbrev pub OthersFindIt : Type 0
OthersFindIt = (other : Pass) (number : ℕ) (found left : Book) → Finds other found → MayGive number found left → other.number ≢ 0 → other.number ≢ number → Finds other left

-- A turn settles what was in doubt, or nothing of it, and puts behind only entries of its caller; in doubt stays what was in doubt, or entries of
-- its caller.
pub record AddsOwn (journal doubt : List Entry) (caller : Caller) (after doubt_after : List Entry) : Type 0 where
  pub settles : List Entry
  pub commit : List Entry
  pub after_is : after ≡ journal ++ (settles ++ commit)
  pub settles_are : (settles ≡ []) ⊎ (settles ≡ map settled_entry doubt)
  pub of_caller : All (λ (entry : Entry). entry.caller ≡ caller) commit
  pub in_doubt : (doubt_after ≡ doubt) ⊎ All (λ (entry : Entry). entry.caller ≡ caller) doubt_after

abbrev pub TurnAddsOwn : Type 0
TurnAddsOwn = (store : KeyedStore) (journal doubt : List Entry) (caller : Caller) (asked : Asked) (used : Used) (after doubt_after : List Entry) (answer : SessionAnswer) → TurnAnswers store journal doubt caller asked used after doubt_after answer → AddsOwn journal doubt caller after doubt_after

-- So the pass may leave what a turn of its caller makes of the store.
abbrev pub TurnMayBeGiven : Type 0
TurnMayBeGiven = (store : KeyedStore) (number call : ℕ) (fixed : List ℕ) (old : StoreState) (asked : Asked) (used : Used) (new : StoreState) (answer : SessionAnswer) → StoreTurn store old (caller_of number call) asked used new answer → length new.entries < 2 ^ 64 → MayGive number (store_book fixed old) (store_book fixed new)

-- A pass that is split off finds the book that the other one finds, where no entry of it has the number.
abbrev pub SplitFinds : Type 0
SplitFinds = (old new part : Pass) (book : Book) → SplitsOff old new part → Finds old book → All (λ entry. is_of part.number entry ≡ false) book.entries → Finds part book

-- Where two passes find one book and one is joined to the other, the joined pass finds it.
abbrev pub JoinFinds : Type 0
JoinFinds = (pass other new : Pass) (book : Book) → Finds pass book → Finds other book → Joins pass other new → Finds new book

-- What a pass was asked and answered since it had seen so much and had these turns: its session at the store of its fixed part, with a turn for each
-- reply.
pub record PassHistory (sealing : Sealing) (seen : List Entry) (requests : List SessionRequest) (used : Used) (replies : List SessionReply) (before : List TurnItem) (after : Pass) : Type 0 where
  pub session : Session (store_of sealing after.fixed) seen after.number requests used replies after.seen
  pub turns : TurnsOf before replies after.turns

-- it begins with no request, at any pass
abbrev pub PassHistoryBegins : Type 0
PassHistoryBegins = (sealing : Sealing) (pass : Pass) → PassHistory sealing pass.seen [] used_nothing [] pass.turns pass

-- One legal history: where a pass takes a turn in which the store of the book answers a request, both get longer by that reply.
abbrev pub PassGoesOn : Type 0
PassGoesOn = (sealing : Sealing) (seen : List Entry) (pass : Pass) (requests : List SessionRequest) (used : Used) (replies : List SessionReply) (turns : List TurnItem) (fixed : List ℕ) (old new : StoreState) (after : Pass) (one : SessionRequest) (used_here : Used) (answer : SessionAnswer)
    → pass.number ≢ 0 → PassHistory sealing seen requests used replies turns pass → PassTurn pass (store_book fixed old) (store_book fixed new) after → StoreTurn (store_of sealing fixed) old (caller_of pass.number one.call) one.asked used_here new answer
    → PassHistory sealing seen (requests ++ one ∷ []) (then_used used used_here) (replies ++ record { front = length new.entries; answer = answer } ∷ []) turns after

-- So they go on where another pass is joined to it.
abbrev pub JoinGoesOn : Type 0
JoinGoesOn = (sealing : Sealing) (seen : List Entry) (pass other new : Pass) (book : Book) (requests : List SessionRequest) (used : Used) (replies : List SessionReply) (turns : List TurnItem) → PassHistory sealing seen requests used replies turns pass → Finds pass book → Finds other book → Joins pass other new → PassHistory sealing seen requests used replies turns new

-- ---- runs of a store's turns

-- A run is a session, from the list that it found to the one that it leaves.
abbrev pub RunIsSession : Type 0
RunIsSession = (store : KeyedStore) (number : ℕ) (old : StoreState) (turns : List RunTurn) → number ≢ 0 → IsRun store number old turns → Session store old.entries number (run_requests turns) (run_used turns) (run_replies turns) (last_left old turns).entries

-- For each fault of the disk that it tells one was counted.
abbrev pub RunCountsFaults : Type 0
RunCountsFaults = (store : KeyedStore) (number : ℕ) (old : StoreState) (turns : List RunTurn) → IsRun store number old turns → RoseBy (disk_faults (run_replies turns)) old.faults (last_left old turns).faults

-- Two runs from one list and one doubt that are alike in what was asked, used and replied, and in what stayed in doubt after a fault, leave one list
-- and one doubt.
abbrev pub RunLeavesOne : Type 0
RunLeavesOne = (store : KeyedStore) (number : ℕ) (old other : StoreState) (one two : List RunTurn) → old.entries ≡ other.entries → old.doubt ≡ other.doubt → IsRun store number old one → IsRun store number other two → AreAlike one two
    → ((last_left old one).entries ≡ (last_left other two).entries) × ((last_left old one).doubt ≡ (last_left other two).doubt)

-- a payload of bytes is read as one request, and as no other
pub record IsReadAs (payload : List ℕ) : Type 0 where
  pub asked : Asked
  pub reads : Reads payload asked
  pub alone : (other : Asked) → Reads payload other → other ≡ asked

abbrev pub PayloadIsRead : Type 0
PayloadIsRead = (payload : List ℕ) → IsBytes payload → IsReadAs payload

-- and so is a list of payloads, as one list of requests
pub record AreReadAs (payloads : List (List ℕ)) : Type 0 where
  pub asked : List Asked
  pub reads : ReadsEach payloads asked
  pub alone : (other : List Asked) → ReadsEach payloads other → other ≡ asked

abbrev pub PayloadsAreRead : Type 0
PayloadsAreRead = (payloads : List (List ℕ)) → All IsBytes payloads → AreReadAs payloads

-- Over the frames of payloads every reply is one to a call, so its bytes are those of calls.
abbrev pub FramesGetCallReplies : Type 0
FramesGetCallReplies = (store : KeyedStore) (seen : List Entry) (number : ℕ) (payloads : List (List ℕ)) (requests : List SessionRequest) (used : Used) (replies : List SessionReply) (journal : List Entry) → Session store seen number requests used replies journal → ReadsEach payloads (asked_in requests)
    → (given : List Reply) × (replies ≡ map call_reply given)

-- In a session over the frames of these payloads a reply tells of a bad request only where no call is read, and tells the place. Where no
-- call is read it tells that, or that memory was wanting.
pub record TellsBad (payload : List ℕ) (answer : SessionAnswer) : Type 0 where
  pub only : (place : ℕ) → answer ≡ to_call (refused (bad_request place)) → WrongAt call_kinds payload place
  pub told : (place : ℕ) → WrongAt call_kinds payload place → (answer ≡ to_call (refused (bad_request place))) ⊎ (answer ≡ to_call (refused no_memory))

abbrev pub BadRequestIsTold : Type 0
BadRequestIsTold = (store : KeyedStore) (seen : List Entry) (number : ℕ) (payloads : List (List ℕ)) (requests : List SessionRequest) (used : Used) (replies : List SessionReply) (journal : List Entry) (k : ℕ) (payload : List ℕ) (reply : SessionReply)
    → Session store seen number requests used replies journal → All IsBytes payloads → ReadsEach payloads (asked_in requests) → slice_get payloads k ≡ Some payload → slice_get replies k ≡ Some reply → TellsBad payload reply.answer

-- ---- the lengths of replies

-- What a call that may be asked is told at a sound journal, whose records open to no more texts than they weigh, is spelled in fewer than 2^31 bytes. So
-- no reply is too long for its frame, and want of memory hides none.
abbrev pub RepliesAreShort : Type 0
RepliesAreShort = (store : KeyedStore) (journal : List Entry) (caller : Caller) (asked : Asked) (front : ℕ) (used : Used) (answer : Answer) (commit : List Entry) → TextsWithinRecords store → ((call : Call) → asked ≡ a_call call → CallFits call) → Sound (take front journal) store.host
    → Told store journal caller asked front used (to_call answer) commit → length (reply_bytes (record { front = front; answer = answer })) ≤ most_reply_bytes

-- ---- owners

-- A turn of an owner's request in which nothing went wrong, at a journal with nothing in doubt, answers what the owner is told there.
abbrev pub TurnAnswersOwner : Type 0
TurnAnswersOwner = (store : KeyedStore) (journal : List Entry) (caller : Caller) (asked : Asked) (used : Used) (after doubt_after : List Entry) (answer : SessionAnswer) (one : OwnerAsked) → TurnAnswers store journal [] caller asked used after doubt_after answer → owner_asks caller asked ≡ Some one → went_well answer ≡ true
    → AnswersOwner journal one after doubt_after answer

-- So an owner's request is answered alike at two journals at which the owner has the same events, whoever asks and whatever others have there.
abbrev pub OwnersAnsweredAlike : Type 0
OwnersAnsweredAlike = (store there : KeyedStore) (journal like : List Entry) (caller other : Caller) (asked : Asked) (one two : OwnerAsked) (used used_there : Used) (after after_there doubt_after doubt_there : List Entry) (answer answer_there : SessionAnswer)
    → owner_asks caller asked ≡ Some one → owner_asks other asked ≡ Some two → own_events journal one.owner ≡ own_events like one.owner
    → TurnAnswers store journal [] caller asked used after doubt_after answer → TurnAnswers there like [] other asked used_there after_there doubt_there answer_there → went_well answer ≡ true → went_well answer_there ≡ true → answer ≡ answer_there

-- ---- sessions over HTTP

-- A reply tells of a fault of the disk only where the disk was asked: by a call that writes, a page that comes or a page that is read.
abbrev pub DiskFaultsHaveCauses : Type 0
DiskFaultsHaveCauses = (store : KeyedStore) (seen : List Entry) (number : ℕ) (requests : List SessionRequest) (used : Used) (replies : List SessionReply) (journal : List Entry) (k : ℕ) (request : SessionRequest) (reply : SessionReply) → Session store seen number requests used replies journal → slice_get requests k ≡ Some request → slice_get replies k ≡ Some reply
    → tells_disk_fault reply.answer ≡ true → MayFault request.asked

-- requests of HTTP use neither clock nor random bytes
abbrev pub HttpUsesNothing : Type 0
HttpUsesNothing = (store : KeyedStore) (seen : List Entry) (number : ℕ) (requests : List SessionRequest) (used : Used) (replies : List SessionReply) (journal : List Entry) → All IsHttp (asked_in requests) → Session store seen number requests used replies journal → used ≡ used_nothing

-- Each request is answered by a response, of a code that is 500 exactly where a fault of the disk is told.
pub record Responds (answer : SessionAnswer) : Type 0 where
  pub code : ℕ
  pub code_is : response_code answer ≡ Some code
  pub faults : (code ≡ fault_code) ↔ (tells_disk_fault answer ≡ true)

abbrev pub RequestsGetResponses : Type 0
RequestsGetResponses = (store : KeyedStore) (seen : List Entry) (number : ℕ) (asked : List Asked) (fronts : List ℕ) (answers : List SessionAnswer) (journal : List Entry) → HttpSession store seen number asked fronts answers journal → (length asked ≡ length answers) × All Responds answers
