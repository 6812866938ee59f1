-- What a reply tells of what went wrong outside: a step alone never tells it.
use Rattle.std.proofs.Common.{◌≡◌, ℕ, zero, suc, ◌+◌, Bool, true, false, cond, inl, inr, List, [], ◌∷◌, length, filter, Some, refl, sym, ◌∙◌, ap, subst, arith, map}
use Rattle.std.specs.Prelude.{slice_get, All}
use Rattle.std.proofs.lemmas.Bool.{true≢false}
use Rattle.std.proofs.lemmas.Option.{none-some, same_Some}
use Rattle.definitions.specs.Spelling.{IsBytes}
use Rattle.definitions.specs.Calls.{WrongAt}
use Rattle.definitions.specs.Uses.{Used}
use Rattle.record_rules.specs.Records.{Caller, Entry}
use Rattle.step_rules.specs.Calls.{Call}
use Rattle.step_rules.specs.Answers.{Refusal, too_long, unknown_id, unknown_name, full, id_taken, random_fault, disk_fault, no_memory, bad_request, Answer, began, stored, hits, value_is, keys, aliases, places, refused, Reply}
use Rattle.step_rules.specs.Store.{KeyedStore}
use Rattle.step_rules.specs.Step.{Draft, start_draft, record_draft, Unknown, end_unknown, delete_unknown, key_unknown, alias_unknown, draft_answer, Shows, shows_hits, shows_value, shows_no_value, shows_keys, shows_aliases, shows_places, Step, long_step, unknown_step, full_step, taken_step, append_step, read_step}
use Rattle.step_rules.specs.Turn.{UsedBeforeFailing, used_clock, used_bytes}
use Rattle.request_rules.specs.Requests.{call_kinds}
use Rattle.request_rules.proofs.Requests.{one_request_place, call_never_wrong}
use Rattle.session_rules.specs.Sessions.{Asked, a_call, SessionAnswer, to_call, SessionReply, Told, told_step, told_disk_fault, told_random_fault, told_no_memory, told_no_memory_at_once, told_bad, told_no_memory_for_bad, told_page, told_page_refused, told_page_disk_fault, told_page_no_memory, told_read, told_unrouted, told_no_memory_for_unrouted, SessionRequest, asked_in, ServedRequest, requests_of, replies_of, used_by, caller_of, Serves, Session, tells_random_fault, told_random_faults, call_reply}
use Rattle.session_rules.specs.Reading.{Reads, ReadsEach}
use Rattle.session_rules.specs.Passes.{tells_disk_fault}
use Rattle.session_rules.specs.Laws.{TellsBad}
use Rattle.session_rules.proofs.Sessions.{session_told_at}
use Rattle.session_rules.proofs.Reading.{read_at}

-- ---- what a step never tells

outer_refusal : Refusal → Bool
outer_refusal random_fault = true
outer_refusal disk_fault = true
outer_refusal no_memory = true
outer_refusal (bad_request place) = true
outer_refusal _ = false

outer : Answer → Bool
outer (refused refusal) = outer_refusal refusal
outer _ = false

draft_inner : (store : KeyedStore) (journal : List Entry) (draft : Draft) (id : ℕ) → outer (draft_answer store journal draft id) ≡ false
unfolding outer
draft_inner store journal (start_draft command cwd session hostname) id = refl
draft_inner store journal (record_draft closes payload) id = refl

unknown_inner : (store : KeyedStore) (journal : List Entry) (call : Call) (refusal : Refusal) → Unknown store journal call refusal → outer_refusal refusal ≡ false
unfolding outer_refusal
unknown_inner store journal call refusal (end_unknown _ _ _ _ _ _ is) = ap outer_refusal is
unknown_inner store journal call refusal (delete_unknown _ _ _ is) = ap outer_refusal is
unknown_inner store journal call refusal (key_unknown _ _ _ _ is) = ap outer_refusal is
unknown_inner store journal call refusal (alias_unknown _ _ _ is) = ap outer_refusal is

shows_inner : (store : KeyedStore) (journal : List Entry) (call : Call) (answer : Answer) → Shows store journal call answer → outer answer ≡ false
unfolding outer
shows_inner store journal call answer (shows_hits _ _ _ _ is) = ap outer is
shows_inner store journal call answer (shows_value _ _ _ _ _ is) = ap outer is
shows_inner store journal call answer (shows_no_value _ _ _ _ is) = ap outer is
shows_inner store journal call answer (shows_keys _ _ _ _ _ _ is) = ap outer is
shows_inner store journal call answer (shows_aliases _ _ _ _ _ is) = ap outer is
shows_inner store journal call answer (shows_places _ is) = ap outer is

module _ (store : KeyedStore) (journal : List Entry) (caller : Caller) (call : Call) (used : Used) (after : List Entry) (answer : Answer) where
  step_inner : Step store journal caller call used after answer → outer answer ≡ false
  unfolding outer outer_refusal
  step_inner (long_step _ _ _ _ r) = ap outer r.answer_is
  step_inner (unknown_step _ refusal _ _ unknown r) = ap outer r.answer_is ∙ unknown_inner store journal call refusal unknown
  step_inner (full_step _ _ _ _ _ _ _ r) = ap outer r.answer_is
  step_inner (taken_step _ _ _ _ _ _ _ r) = ap outer r.answer_is
  step_inner (append_step now drawn draft _ _ _ _ _ is) = ap outer is ∙ draft_inner store journal draft _
  step_inner (read_step _ shows _) = shows_inner store journal call answer shows

  step_draws : Step store journal caller call used after answer → used.faults ≡ 0
  step_draws (long_step _ _ is _ _) = ap (λ (u : Used). u.faults) is
  step_draws (unknown_step _ _ is _ _ _) = ap (λ (u : Used). u.faults) is
  step_draws (full_step _ _ _ is _ _ _ _) = ap (λ (u : Used). u.faults) is
  step_draws (taken_step _ _ _ is _ _ _ _) = ap (λ (u : Used). u.faults) is
  step_draws (append_step _ _ _ is _ _ _ _ _) = ap (λ (u : Used). u.faults) is
  step_draws (read_step is _ _) = ap (λ (u : Used). u.faults) is

some_drew : (store : KeyedStore) (journal : List Entry) (call : Call) (used : Used) → UsedBeforeFailing store journal call used → used.faults ≡ 0
some_drew store journal call used (used_clock _ is) = ap (λ (u : Used). u.faults) is
some_drew store journal call used (used_bytes _ _ _ _ _ is) = ap (λ (u : Used). u.faults) is

-- ---- failed draws

count : Bool → ℕ
count true = 1
count false = 0

faults_outer : (answer : Answer) → outer answer ≡ false → (tells_random_fault (to_call answer) ≡ false) × (tells_disk_fault (to_call answer) ≡ false)
unfolding outer outer_refusal
faults_outer (began _) inner = (refl, refl)
faults_outer (stored _) inner = (refl, refl)
faults_outer (hits _) inner = (refl, refl)
faults_outer (value_is _) inner = (refl, refl)
faults_outer (keys _) inner = (refl, refl)
faults_outer (aliases _) inner = (refl, refl)
faults_outer (places _) inner = (refl, refl)
faults_outer (refused (too_long _ _)) inner = (refl, refl)
faults_outer (refused (unknown_id _)) inner = (refl, refl)
faults_outer (refused (unknown_name _)) inner = (refl, refl)
faults_outer (refused (full _)) inner = (refl, refl)
faults_outer (refused random_fault) inner = absurd (true≢false inner)
faults_outer (refused (id_taken _)) inner = (refl, refl)
faults_outer (refused disk_fault) inner = absurd (true≢false inner)
faults_outer (refused no_memory) inner = (refl, refl)
faults_outer (refused (bad_request _)) inner = (refl, refl)

-- so it tells of no fault
pub step_tells_none : (store : KeyedStore) (journal : List Entry) (caller : Caller) (call : Call) (used : Used) (after : List Entry) (answer : Answer) → Step store journal caller call used after answer → (tells_random_fault (to_call answer) ≡ false) × (tells_disk_fault (to_call answer) ≡ false)
step_tells_none store journal caller call used after answer step = faults_outer answer (step_inner store journal caller call used after answer step)

module _ (store : KeyedStore) (journal : List Entry) (caller : Caller) (asked : Asked) (front : ℕ) (used : Used) (answer : SessionAnswer) (commit : List Entry) where
  same_count : (n : ℕ) (other : SessionAnswer) → used.faults ≡ n → answer ≡ other → n ≡ count (tells_random_fault other) → used.faults ≡ count (tells_random_fault answer)
  same_count n other faults is same = faults ∙ same ∙ sym (ap (λ a. count (tells_random_fault a)) is)

  none_used : {none : Used} → used ≡ none → used.faults ≡ none.faults
  none_used is = ap (λ (u : Used). u.faults) is

  told_draws : Told store journal caller asked front used answer commit → used.faults ≡ count (tells_random_fault answer)
  unfolding count
  told_draws (told_step call before given _ _ step is) = same_count 0 (to_call given) (step_draws store before caller call used _ given step) is (sym (ap count (step_tells_none store before caller call used _ given step).0))
  told_draws (told_disk_fault call _ _ some is _) = same_count 0 _ (some_drew store _ call used some) is refl
  told_draws (told_random_fault _ _ _ _ _ u is _) = same_count 1 _ (none_used u) is refl
  told_draws (told_no_memory call _ _ some is _) = same_count 0 _ (some_drew store _ call used some) is refl
  told_draws (told_no_memory_at_once _ _ u is _) = same_count 0 _ (none_used u) is refl
  told_draws (told_bad _ _ u is _) = same_count 0 _ (none_used u) is refl
  told_draws (told_no_memory_for_bad _ _ u is _) = same_count 0 _ (none_used u) is refl
  told_draws (told_page _ _ _ _ _ _ u is) = same_count 0 _ (none_used u) is refl
  told_draws (told_page_refused _ _ _ _ _ u is _) = same_count 0 _ (none_used u) is refl
  told_draws (told_page_disk_fault _ _ _ u is _) = same_count 0 _ (none_used u) is refl
  told_draws (told_page_no_memory _ _ _ u is _) = same_count 0 _ (none_used u) is refl
  told_draws (told_read _ _ _ _ u is _) = same_count 0 _ (none_used u) is refl
  told_draws (told_unrouted _ _ u is _) = same_count 0 _ (none_used u) is refl
  told_draws (told_no_memory_for_unrouted _ _ u is _) = same_count 0 _ (none_used u) is refl

counted : (reply : SessionReply) (replies : List SessionReply) → told_random_faults (reply ∷ replies) ≡ count (tells_random_fault reply.answer) + told_random_faults replies
unfolding count
counted reply replies = elim (tells_random_fault reply.answer) as (λ b. length (cond b (reply ∷ filter (λ r. tells_random_fault r.answer) replies) (filter (λ r. tells_random_fault r.answer) replies)) ≡ count b + told_random_faults replies) [
  | true ↦ omega arith
  | false ↦ omega arith
]

faults_drawn : (store : KeyedStore) (journal : List Entry) (number from : ℕ) (served : List ServedRequest) → Serves store journal number from served → told_random_faults (replies_of served) ≡ (used_by served).faults
faults_drawn store journal number from [] serves = refl
faults_drawn store journal number from (one ∷ more) serves =
    let later = faults_drawn store journal number one.reply.front more serves.1 in
    let here = told_draws store journal _ one.request.asked one.reply.front one.used one.reply.answer one.commit serves.0.told in
    counted one.reply (replies_of more) ∙ ap (λ n. n + told_random_faults (replies_of more)) (sym here) ∙ ap (λ n. one.used.faults + n) later

pub session_draws : (store : KeyedStore) (seen : List Entry) (number : ℕ) (requests : List SessionRequest) (used : Used) (replies : List SessionReply) (journal : List Entry) → Session store seen number requests used replies journal → told_random_faults replies ≡ used.faults
session_draws store seen number requests used replies journal session =
    sym (ap told_random_faults session.replies_are) ∙ faults_drawn store journal number (length seen) session.served session.serves ∙ ap (λ (u : Used). u.faults) session.used_is

-- ---- bad requests

is_outer : SessionAnswer → Bool
is_outer (to_call answer) = outer answer
is_outer _ = false

is_bad : SessionAnswer → Bool
is_bad (to_call (refused (bad_request place))) = true
is_bad _ = false

place_in : SessionAnswer → ℕ
place_in (to_call (refused (bad_request place))) = place
place_in _ = 0

module _ (payload : List ℕ) (bytes : IsBytes payload) (store : KeyedStore) (journal : List Entry) (caller : Caller) (asked : Asked) (front : ℕ) (used : Used) (answer : SessionAnswer) (commit : List Entry) where
  -- a call's own answer
  of_call : (call : Call) → asked ≡ a_call call → Reads payload asked → ((place : ℕ) → answer ≡ to_call (refused (bad_request place)) → ⊥) → TellsBad payload answer
  of_call call is reads never = record { only = λ place bad. absurd (never place bad); told = λ place wrong. absurd (call_never_wrong payload call place bytes (subst (Reads payload) is reads) wrong) }

  other_told : (other : SessionAnswer) → answer ≡ other → is_bad other ≡ false → (place : ℕ) → answer ≡ to_call (refused (bad_request place)) → ⊥
  unfolding is_bad
  other_told other is good place bad = true≢false (sym (ap is_bad bad) ∙ ap is_bad is ∙ good)

  told_is_bad : Told store journal caller asked front used answer commit → Reads payload asked → TellsBad payload answer
  unfolding is_bad is_outer outer outer_refusal place_in
  told_is_bad (told_step call before given is _ step same) reads = of_call call is reads (λ place bad. true≢false (sym (ap is_outer bad) ∙ ap is_outer same ∙ step_inner store before caller call used _ given step))
  told_is_bad (told_disk_fault call is _ _ same _) reads = of_call call is reads (other_told _ same refl)
  told_is_bad (told_random_fault call _ _ is _ _ same _) reads = of_call call is reads (other_told _ same refl)
  told_is_bad (told_no_memory call is _ _ same _) reads = of_call call is reads (other_told _ same refl)
  told_is_bad (told_no_memory_at_once call is _ same _) reads = of_call call is reads (other_told _ same refl)
  told_is_bad (told_bad place is _ same _) reads =
      let wrong : WrongAt call_kinds payload place = subst (Reads payload) is reads in
      record {
        only = λ other bad. subst (WrongAt call_kinds payload) (ap place_in (sym same ∙ bad)) wrong;
        told = λ other elsewhere. inl (same ∙ ap (λ n. to_call (refused (bad_request n))) (one_request_place payload place other bytes wrong elsewhere));
      }
  told_is_bad (told_no_memory_for_bad place is _ same _) reads = record { only = λ other bad. absurd (other_told _ same refl other bad); told = λ other elsewhere. inr same }
  told_is_bad (told_page _ _ _ is _ _ _ _) reads = absurd (subst (Reads payload) is reads)
  told_is_bad (told_page_refused _ _ _ is _ _ _ _) reads = absurd (subst (Reads payload) is reads)
  told_is_bad (told_page_disk_fault _ _ is _ _ _) reads = absurd (subst (Reads payload) is reads)
  told_is_bad (told_page_no_memory _ _ is _ _ _) reads = absurd (subst (Reads payload) is reads)
  told_is_bad (told_read _ _ is _ _ _ _) reads = absurd (subst (Reads payload) is reads)
  told_is_bad (told_unrouted _ is _ _ _) reads = absurd (subst (Reads payload) is reads)
  told_is_bad (told_no_memory_for_unrouted _ is _ _ _) reads = absurd (subst (Reads payload) is reads)

-- the request at the place of what is asked
request_at : (requests : List SessionRequest) (k : ℕ) (asked : Asked) → slice_get (asked_in requests) k ≡ Some asked → (request : SessionRequest) × (slice_get requests k ≡ Some request) × (request.asked ≡ asked)
request_at [] k asked at = absurd (none-some asked at)
request_at (request ∷ requests) zero asked at = (request, refl, same_Some request.asked asked at)
request_at (request ∷ requests) (suc k) asked at = request_at requests k asked at

pub bad_is_told : (store : KeyedStore) (seen : List Entry) (number : ℕ) (payloads : List (List ℕ)) (requests : List SessionRequest) (used : Used) (replies : List SessionReply) (journal : List Entry) (k : ℕ) (payload : List ℕ) (reply : SessionReply)
    → Session store seen number requests used replies journal → All IsBytes payloads → ReadsEach payloads (asked_in requests) → slice_get payloads k ≡ Some payload → slice_get replies k ≡ Some reply → TellsBad payload reply.answer
bad_is_told store seen number payloads requests used replies journal k payload reply session bytes reads at_k told_k =
    let here = read_at payloads (asked_in requests) k payload bytes reads at_k in
    let place = request_at requests k here.request here.at in
    let request : SessionRequest = place.0 in
    let told = session_told_at store seen number requests used replies journal k request reply session place.1 told_k in
    told_is_bad payload here.bytes store journal (caller_of number request.call) request.asked reply.front told.used reply.answer told.commit told.told (subst (Reads payload) (sym place.2) here.reads)

-- ---- what payloads are told

module _ (payload : List ℕ) (store : KeyedStore) (journal : List Entry) (caller : Caller) (asked : Asked) (front : ℕ) (used : Used) (answer : SessionAnswer) (commit : List Entry) where
  told_as_call : Told store journal caller asked front used answer commit → Reads payload asked → (given : Answer) × (answer ≡ to_call given)
  told_as_call (told_step _ _ given _ _ _ same) reads = (given, same)
  told_as_call (told_disk_fault _ _ _ _ same _) reads = (refused disk_fault, same)
  told_as_call (told_random_fault _ _ _ _ _ _ same _) reads = (refused random_fault, same)
  told_as_call (told_no_memory _ _ _ _ same _) reads = (refused no_memory, same)
  told_as_call (told_no_memory_at_once _ _ _ same _) reads = (refused no_memory, same)
  told_as_call (told_bad place _ _ same _) reads = (refused (bad_request place), same)
  told_as_call (told_no_memory_for_bad _ _ _ same _) reads = (refused no_memory, same)
  told_as_call (told_page _ _ _ is _ _ _ _) reads = absurd (subst (Reads payload) is reads)
  told_as_call (told_page_refused _ _ _ is _ _ _ _) reads = absurd (subst (Reads payload) is reads)
  told_as_call (told_page_disk_fault _ _ is _ _ _) reads = absurd (subst (Reads payload) is reads)
  told_as_call (told_page_no_memory _ _ is _ _ _) reads = absurd (subst (Reads payload) is reads)
  told_as_call (told_read _ _ is _ _ _ _) reads = absurd (subst (Reads payload) is reads)
  told_as_call (told_unrouted _ is _ _ _) reads = absurd (subst (Reads payload) is reads)
  told_as_call (told_no_memory_for_unrouted _ is _ _ _) reads = absurd (subst (Reads payload) is reads)

served_as_calls : (store : KeyedStore) (journal : List Entry) (number : ℕ) (payloads : List (List ℕ)) (from : ℕ) (served : List ServedRequest) → Serves store journal number from served → ReadsEach payloads (asked_in (requests_of served)) → (given : List Reply) × (replies_of served ≡ map call_reply given)
served_as_calls store journal number [] from [] serves reads = ([], refl)
served_as_calls store journal number (payload ∷ payloads) from (one ∷ more) serves reads =
    let here = told_as_call payload store journal _ one.request.asked one.reply.front one.used one.reply.answer one.commit serves.0.told reads.0 in
    let later = served_as_calls store journal number payloads one.reply.front more serves.1 reads.1 in
    let reply : Reply = record { front = one.reply.front; answer = here.0 } in
    let same : one.reply ≡ call_reply reply = ap (λ (x : SessionAnswer). record { front = one.reply.front; answer = x }) here.1 in
    (reply ∷ later.0, ap (λ (x : SessionReply). x ∷ replies_of more) same ∙ ap (λ (xs : List SessionReply). call_reply reply ∷ xs) later.1)
served_as_calls store journal number [] from (one ∷ more) serves reads = absurd reads
served_as_calls store journal number (payload ∷ payloads) from [] serves reads = absurd reads

pub session_as_calls : (store : KeyedStore) (seen : List Entry) (number : ℕ) (payloads : List (List ℕ)) (requests : List SessionRequest) (used : Used) (replies : List SessionReply) (journal : List Entry) → Session store seen number requests used replies journal → ReadsEach payloads (asked_in requests)
    → (given : List Reply) × (replies ≡ map call_reply given)
session_as_calls store seen number payloads requests used replies journal session reads =
    let given = served_as_calls store journal number payloads (length seen) session.served session.serves (subst (λ rs. ReadsEach payloads (asked_in rs)) (sym session.requests_are) reads) in
    (given.0, sym session.replies_are ∙ given.1)
