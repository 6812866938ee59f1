-- What a session was asked, and what it answered, each at a point of one journal. Other sessions' entries may stand between its own.
use Rattle.std.specs.Prelude.{◌≡◌, ℕ, ◌+◌, ◌≤◌, List, [], ◌∷◌, ◌++◌, length, map, take, filter, Bool, true, false, ◌==◌, Ok, Err, ⊤}
use Rattle.std.specs.List.{flat_map}
use Rattle.definitions.specs.Uses.{Used, used_nothing, then_used, read_and_failed}
use Rattle.record_rules.specs.Records.{SealedRecord, Caller, Entry}
use Rattle.record_rules.specs.Growth.{PageRefusal, grow}
use Rattle.step_rules.specs.Calls.{Call, is_read}
use Rattle.step_rules.specs.Answers.{Answer, began, stored, refused, random_fault, disk_fault, no_memory, bad_request, Reply}
use Rattle.step_rules.specs.Store.{KeyedStore}
use Rattle.step_rules.specs.Step.{Draft, Ready, Step}
use Rattle.step_rules.specs.Turn.{UsedBeforeFailing}
use Rattle.step_rules.specs.PageTurns.{PageAnswer, took, page_refused, page_faulted, page_no_memory}
use Rattle.step_rules.specs.ReadTurns.{StoreRead, ReadAnswer, ReadTurn}

-- a request: a call, or bytes that are none, with the place of the first wrong item; a page of records for an owner, or a read; or a
-- request of HTTP that is refused before it asks the store anything, with its code
pub data Asked : Type 0 where
  a_call : Call → Asked
  no_call : (place : ℕ) → Asked
  a_page : (owner : ℕ) → List SealedRecord → Asked
  a_read : StoreRead → Asked
  unrouted : (code : ℕ) → Asked

-- what a request is answered: as a call, which bytes that are none are too, as a page, as a read, or by a code alone
pub data SessionAnswer : Type 0 where
  to_call : Answer → SessionAnswer
  to_page : PageAnswer → SessionAnswer
  to_read : ReadAnswer → SessionAnswer
  to_unrouted : (code : ℕ) → SessionAnswer

-- an answer with the number of entries of the journal at which it was given
pub record SessionReply : Type 0 where
  pub front : ℕ
  pub answer : SessionAnswer

-- the reply to a call
abbrev pub call_reply : Reply → SessionReply
call_reply reply = record { front = reply.front; answer = to_call reply.answer }

-- Over HTTP want of memory is a code (RFC 9110, 15.6.4).
abbrev pub no_memory_code : ℕ
no_memory_code = 503

-- the caller of the call of this number of a session
abbrev pub caller_of : (number call : ℕ) → Caller
caller_of number call = record { number = number; call = call; settled_for = 0 }

-- The answer to one request at this front of the journal, what it used, and what it committed: the last entries before the front. Where
-- nothing was committed a fault, or want of memory, may be told in place of what the step or the growth gives.
pub data Told (store : KeyedStore) (journal : List Entry) (caller : Caller) (asked : Asked) (front : ℕ) (used : Used) (answer : SessionAnswer) (commit : List Entry) : Type 0 where
  -- what the step gives from the journal before the commit to the journal at the front
  told_step : (call : Call) (before : List Entry) (given : Answer) → asked ≡ a_call call → take front journal ≡ before ++ commit → Step store before caller call used (take front journal) given → answer ≡ to_call given
      → Told store journal caller asked front used answer commit
  -- a call that writes
  told_disk_fault : (call : Call) → asked ≡ a_call call → is_read call ≡ false → UsedBeforeFailing store (take front journal) call used → answer ≡ to_call (refused disk_fault) → commit ≡ [] → Told store journal caller asked front used answer commit
  -- where the step would have drawn
  told_random_fault : (call : Call) (draft : Draft) (now : ℕ) → asked ≡ a_call call → Ready store (take front journal) call draft → used ≡ read_and_failed now → answer ≡ to_call (refused random_fault) → commit ≡ []
      → Told store journal caller asked front used answer commit
  told_no_memory : (call : Call) → asked ≡ a_call call → is_read call ≡ false → UsedBeforeFailing store (take front journal) call used → answer ≡ to_call (refused no_memory) → commit ≡ [] → Told store journal caller asked front used answer commit
  -- to a call that was only being read, or that reads
  told_no_memory_at_once : (call : Call) → asked ≡ a_call call → used ≡ used_nothing → answer ≡ to_call (refused no_memory) → commit ≡ [] → Told store journal caller asked front used answer commit
  -- what is no call
  told_bad : (place : ℕ) → asked ≡ no_call place → used ≡ used_nothing → answer ≡ to_call (refused (bad_request place)) → commit ≡ [] → Told store journal caller asked front used answer commit
  told_no_memory_for_bad : (place : ℕ) → asked ≡ no_call place → used ≡ used_nothing → answer ≡ to_call (refused no_memory) → commit ≡ [] → Told store journal caller asked front used answer commit
  -- what the page adds to the journal before the commit, and why it is refused at the front; a page uses neither clock nor random bytes
  told_page : (owner : ℕ) (records : List SealedRecord) (before : List Entry) → asked ≡ a_page owner records → take front journal ≡ before ++ commit → grow before caller owner records ≡ Ok commit → used ≡ used_nothing → answer ≡ to_page (took (length commit))
      → Told store journal caller asked front used answer commit
  told_page_refused : (owner : ℕ) (records : List SealedRecord) (refusal : PageRefusal) → asked ≡ a_page owner records → grow (take front journal) caller owner records ≡ Err refusal → used ≡ used_nothing → answer ≡ to_page (page_refused refusal) → commit ≡ []
      → Told store journal caller asked front used answer commit
  told_page_disk_fault : (owner : ℕ) (records : List SealedRecord) → asked ≡ a_page owner records → used ≡ used_nothing → answer ≡ to_page page_faulted → commit ≡ [] → Told store journal caller asked front used answer commit
  told_page_no_memory : (owner : ℕ) (records : List SealedRecord) → asked ≡ a_page owner records → used ≡ used_nothing → answer ≡ to_page page_no_memory → commit ≡ [] → Told store journal caller asked front used answer commit
  -- what a read tells of the journal at the front, or that it failed there
  told_read : (read : StoreRead) (given : ReadAnswer) → asked ≡ a_read read → ReadTurn (take front journal) [] read (take front journal) [] given → used ≡ used_nothing → answer ≡ to_read given → commit ≡ [] → Told store journal caller asked front used answer commit
  -- what asks the store nothing
  told_unrouted : (code : ℕ) → asked ≡ unrouted code → used ≡ used_nothing → answer ≡ to_unrouted code → commit ≡ [] → Told store journal caller asked front used answer commit
  told_no_memory_for_unrouted : (code : ℕ) → asked ≡ unrouted code → used ≡ used_nothing → answer ≡ to_unrouted no_memory_code → commit ≡ [] → Told store journal caller asked front used answer commit

-- a request with the number of its call
pub record SessionRequest : Type 0 where
  pub call : ℕ
  pub asked : Asked

-- requests whose calls are numbered one after the other, from this number
abbrev pub numbered_from : ℕ → List Asked → List SessionRequest
numbered_from call [] = []
numbered_from call (asked ∷ more) = record { call = call; asked = asked } ∷ numbered_from (call + 1) more

-- what is asked, without the numbers
abbrev pub asked_in : List SessionRequest → List Asked
asked_in requests = map (λ (request : SessionRequest). request.asked) requests

-- a request that was served: what was used and committed for it, and the reply
pub record ServedRequest : Type 0 where
  pub request : SessionRequest
  pub used : Used
  pub commit : List Entry
  pub reply : SessionReply

-- what was asked, used, committed and replied in all, in order
abbrev pub requests_of : List ServedRequest → List SessionRequest
requests_of served = map (λ (one : ServedRequest). one.request) served

abbrev pub replies_of : List ServedRequest → List SessionReply
replies_of served = map (λ (one : ServedRequest). one.reply) served

abbrev pub commits_of : List ServedRequest → List Entry
commits_of served = flat_map (λ (one : ServedRequest). one.commit) served

abbrev pub used_by : List ServedRequest → Used
used_by [] = used_nothing
used_by (one ∷ more) = then_used one.used (used_by more)

-- A request is served behind `from` entries of the journal, with its commit behind these and before the front of the reply.
pub record IsServed (store : KeyedStore) (journal : List Entry) (number from : ℕ) (one : ServedRequest) : Type 0 where
  pub behind : from + length one.commit ≤ one.reply.front
  pub within : one.reply.front ≤ length journal
  pub told : Told store journal (caller_of number one.request.call) one.request.asked one.reply.front one.used one.reply.answer one.commit

-- one after the other, each behind the front of the reply before
abbrev pub Serves : KeyedStore → List Entry → (number from : ℕ) → List ServedRequest → Type 0
Serves store journal number from [] = ⊤
Serves store journal number from (one ∷ more) = IsServed store journal number from one × Serves store journal number one.reply.front more

-- whether the entry came by a call of that pass
abbrev pub is_of : ℕ → Entry → Bool
is_of number entry = entry.caller.number == number

-- The session of this number: from all that was seen when it was opened, to the journal at its end. Of the entries since then those with its
-- number are its commits, each once and in order.
pub record Session (store : KeyedStore) (seen : List Entry) (number : ℕ) (requests : List SessionRequest) (used : Used) (replies : List SessionReply) (journal : List Entry) : Type 0 where
  pub since : List Entry
  pub begins : journal ≡ seen ++ since
  pub served : List ServedRequest
  pub requests_are : requests_of served ≡ requests
  pub used_is : used_by served ≡ used
  pub replies_are : replies_of served ≡ replies
  pub serves : Serves store journal number (length seen) served
  pub own_are : filter (is_of number) since ≡ commits_of served

-- a fault of the random source, and how many replies tell of one
abbrev pub tells_random_fault : SessionAnswer → Bool
tells_random_fault (to_call (refused random_fault)) = true
tells_random_fault _ = false

abbrev pub told_random_faults : List SessionReply → ℕ
told_random_faults replies = length (filter (λ reply. tells_random_fault reply.answer) replies)

-- whether the answer tells of something that was stored: a command that began, a record, or records of a page
abbrev pub is_stored : SessionAnswer → Bool
is_stored (to_call (began id)) = true
is_stored (to_call (stored idx)) = true
is_stored (to_page (took added)) = true
is_stored _ = false
