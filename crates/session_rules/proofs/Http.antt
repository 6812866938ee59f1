-- What requests of HTTP are told, and what may be told of a fault of the disk.
use Rattle.std.proofs.Common.{◌≡◌, ℕ, zero, suc, ◌+◌, ◌<◌, true, false, List, [], ◌∷◌, length, map, take, get_or, Some, refl, sym, ◌∙◌, ap, subst, arith}
use Rattle.std.specs.Prelude.{slice_get, All}
use Rattle.std.specs.List.{Contains}
use Rattle.std.proofs.lemmas.Bool.{true≢false}
use Rattle.std.proofs.lemmas.List.Elements.{All-nil, All-cons, All-head, All-tail}
use Rattle.definitions.specs.Uses.{Used, used_nothing, then_used}
use Rattle.record_rules.specs.Records.{Caller, Entry}
use Rattle.record_rules.specs.Growth.{PageTooLong, PageForked, PageGap, PageFull}
use Rattle.step_rules.specs.Store.{KeyedStore}
use Rattle.step_rules.specs.PageTurns.{PageAnswer, took, page_refused, page_faulted, page_no_memory}
use Rattle.step_rules.specs.ReadTurns.{StoreRead, ReadAnswer, told_status, told_page as told_records, told_front, read_faulted, read_no_memory, ReadTurn, tells_status, tells_page, tells_front, faults_on_page, wants_memory}
use Rattle.session_rules.specs.Sessions.{Asked, a_read, SessionAnswer, to_page, to_read, to_unrouted, SessionReply, Told, told_step, told_disk_fault, told_random_fault, told_no_memory, told_no_memory_at_once, told_bad, told_no_memory_for_bad, told_page, told_page_refused, told_page_disk_fault, told_page_no_memory, told_read, told_unrouted, told_no_memory_for_unrouted, SessionRequest, numbered_from, asked_in, ServedRequest, requests_of, replies_of, used_by, caller_of, Serves, Session}
use Rattle.session_rules.specs.Passes.{tells_disk_fault}
use Rattle.session_rules.specs.Http.{route_codes, IsHttp, MayFault, response_code, at_fronts, HttpSession}
use Rattle.session_rules.specs.Laws.{Responds}
use Rattle.session_rules.proofs.Sessions.{as_many, session_told_at}
use Rattle.session_rules.proofs.Telling.{step_tells_none}

-- ---- faults of the disk

no_fault : (answer other : SessionAnswer) → answer ≡ other → tells_disk_fault other ≡ false → tells_disk_fault answer ≡ true → ⊥
no_fault answer other is none told = true≢false (sym told ∙ ap tells_disk_fault is ∙ none)

read_may_fault : (journal doubt : List Entry) (read : StoreRead) (after doubt_after : List Entry) (given : ReadAnswer) → ReadTurn journal doubt read after doubt_after given → tells_disk_fault (to_read given) ≡ true → MayFault (a_read read)
read_may_fault journal doubt read after doubt_after given (tells_status _ _ _ same) told = absurd (no_fault (to_read given) _ (ap to_read same) refl told)
read_may_fault journal doubt read after doubt_after given (tells_page _ _ _ _ _ _ _ same) told = absurd (no_fault (to_read given) _ (ap to_read same) refl told)
read_may_fault journal doubt read after doubt_after given (tells_front _ _ same) told = absurd (no_fault (to_read given) _ (ap to_read same) refl told)
read_may_fault journal doubt read after doubt_after given (faults_on_page _ _ _ _ _ is _ _) told = subst (λ r. MayFault (a_read r)) (sym is) tt
read_may_fault journal doubt read after doubt_after given (wants_memory _ _ same) told = absurd (no_fault (to_read given) _ (ap to_read same) refl told)

module _ (store : KeyedStore) (journal : List Entry) (caller : Caller) (asked : Asked) (front : ℕ) (used : Used) (answer : SessionAnswer) (commit : List Entry) where
  told_may_fault : Told store journal caller asked front used answer commit → tells_disk_fault answer ≡ true → MayFault asked
  told_may_fault (told_step call before given _ _ step same) told = absurd (no_fault answer _ same (step_tells_none store before caller call used _ given step).1 told)
  told_may_fault (told_disk_fault _ is writes _ _ _) told = subst MayFault (sym is) writes
  told_may_fault (told_random_fault _ _ _ _ _ _ same _) told = absurd (no_fault answer _ same refl told)
  told_may_fault (told_no_memory _ _ _ _ same _) told = absurd (no_fault answer _ same refl told)
  told_may_fault (told_no_memory_at_once _ _ _ same _) told = absurd (no_fault answer _ same refl told)
  told_may_fault (told_bad _ _ _ same _) told = absurd (no_fault answer _ same refl told)
  told_may_fault (told_no_memory_for_bad _ _ _ same _) told = absurd (no_fault answer _ same refl told)
  told_may_fault (told_page _ _ _ is _ _ _ _) told = subst MayFault (sym is) tt
  told_may_fault (told_page_refused _ _ _ is _ _ _ _) told = subst MayFault (sym is) tt
  told_may_fault (told_page_disk_fault _ _ is _ _ _) told = subst MayFault (sym is) tt
  told_may_fault (told_page_no_memory _ _ is _ _ _) told = subst MayFault (sym is) tt
  told_may_fault (told_read read given is turn _ same _) told = subst MayFault (sym is) (read_may_fault (take front journal) [] read (take front journal) [] given turn (sym (ap tells_disk_fault same) ∙ told))
  told_may_fault (told_unrouted _ _ _ same _) told = absurd (no_fault answer _ same refl told)
  told_may_fault (told_no_memory_for_unrouted _ _ _ same _) told = absurd (no_fault answer _ same refl told)

pub faults_have_causes : (store : KeyedStore) (seen : List Entry) (number : ℕ) (requests : List SessionRequest) (used : Used) (replies : List SessionReply) (journal : List Entry) (k : ℕ) (request : SessionRequest) (reply : SessionReply) → Session store seen number requests used replies journal → slice_get requests k ≡ Some request → slice_get replies k ≡ Some reply
    → tells_disk_fault reply.answer ≡ true → MayFault request.asked
faults_have_causes store seen number requests used replies journal k request reply session at_k told_k told =
    let here = session_told_at store seen number requests used replies journal k request reply session at_k told_k in
    told_may_fault store journal (caller_of number request.call) request.asked reply.front here.used reply.answer here.commit here.told told

-- ---- what is used

module _ (store : KeyedStore) (journal : List Entry) (caller : Caller) (asked : Asked) (front : ℕ) (used : Used) (answer : SessionAnswer) (commit : List Entry) where
  told_uses_nothing : Told store journal caller asked front used answer commit → IsHttp asked → used ≡ used_nothing
  told_uses_nothing (told_step _ _ _ is _ _ _) http = absurd (subst IsHttp is http)
  told_uses_nothing (told_disk_fault _ is _ _ _ _) http = absurd (subst IsHttp is http)
  told_uses_nothing (told_random_fault _ _ _ is _ _ _ _) http = absurd (subst IsHttp is http)
  told_uses_nothing (told_no_memory _ is _ _ _ _) http = absurd (subst IsHttp is http)
  told_uses_nothing (told_no_memory_at_once _ _ u _ _) http = u
  told_uses_nothing (told_bad _ _ u _ _) http = u
  told_uses_nothing (told_no_memory_for_bad _ _ u _ _) http = u
  told_uses_nothing (told_page _ _ _ _ _ _ u _) http = u
  told_uses_nothing (told_page_refused _ _ _ _ _ u _ _) http = u
  told_uses_nothing (told_page_disk_fault _ _ _ u _ _) http = u
  told_uses_nothing (told_page_no_memory _ _ _ u _ _) http = u
  told_uses_nothing (told_read _ _ _ _ u _ _) http = u
  told_uses_nothing (told_unrouted _ _ u _ _) http = u
  told_uses_nothing (told_no_memory_for_unrouted _ _ u _ _) http = u

served_uses_nothing : (store : KeyedStore) (journal : List Entry) (number from : ℕ) (served : List ServedRequest) → Serves store journal number from served → All IsHttp (asked_in (requests_of served)) → used_by served ≡ used_nothing
served_uses_nothing store journal number from [] serves http = refl
served_uses_nothing store journal number from (one ∷ more) serves http =
    let here = told_uses_nothing store journal _ one.request.asked one.reply.front one.used one.reply.answer one.commit serves.0.told (All-head IsHttp one.request.asked (asked_in (requests_of more)) http) in
    let later = served_uses_nothing store journal number one.reply.front more serves.1 (All-tail IsHttp one.request.asked (asked_in (requests_of more)) http) in
    ap (λ u. then_used u (used_by more)) here ∙ ap (then_used used_nothing) later

pub http_uses_nothing : (store : KeyedStore) (seen : List Entry) (number : ℕ) (requests : List SessionRequest) (used : Used) (replies : List SessionReply) (journal : List Entry) → All IsHttp (asked_in requests) → Session store seen number requests used replies journal → used ≡ used_nothing
http_uses_nothing store seen number requests used replies journal http session =
    sym session.used_is ∙ served_uses_nothing store journal number (length seen) session.served session.serves (subst (λ rs. All IsHttp (asked_in rs)) (sym session.requests_are) http)

-- ---- responses

without_fault : (answer : SessionAnswer) (code : ℕ) → response_code answer ≡ Some code → tells_disk_fault answer ≡ false → (code ≡ 500 → ⊥) → Responds answer
without_fault answer code is none other = record { code = code; code_is = is; faults = (λ same. absurd (other same), λ told. absurd (true≢false (sym told ∙ none))) }

page_responds : (given : PageAnswer) → Responds (to_page given)
page_responds (took _) = without_fault _ 200 refl refl (λ same. omega (arith, same))
page_responds (page_refused (PageTooLong _ _)) = without_fault _ 413 refl refl (λ same. omega (arith, same))
page_responds (page_refused (PageForked _ _)) = without_fault _ 409 refl refl (λ same. omega (arith, same))
page_responds (page_refused (PageGap _ _)) = without_fault _ 409 refl refl (λ same. omega (arith, same))
page_responds (page_refused (PageFull _)) = without_fault _ 507 refl refl (λ same. omega (arith, same))
page_responds page_faulted = record { code = 500; code_is = refl; faults = (λ same. refl, λ told. refl) }
page_responds page_no_memory = without_fault _ 503 refl refl (λ same. omega (arith, same))

read_responds : (given : ReadAnswer) → Responds (to_read given)
read_responds (told_status _) = without_fault _ 200 refl refl (λ same. omega (arith, same))
read_responds (told_records _) = without_fault _ 200 refl refl (λ same. omega (arith, same))
read_responds (told_front _) = without_fault _ 200 refl refl (λ same. omega (arith, same))
read_responds read_faulted = record { code = 500; code_is = refl; faults = (λ same. refl, λ told. refl) }
read_responds read_no_memory = without_fault _ 503 refl refl (λ same. omega (arith, same))

-- no request is refused with the code of a fault
no_fault_code : (code : ℕ) → Contains route_codes code → code ≡ 500 → ⊥
no_fault_code code among same = place among.0 among.1 (among.2 ∙ same) where
  place : (k : ℕ) → k < 4 → get_or route_codes k code ≡ 500 → ⊥
  place zero below at = omega (arith, at)
  place (suc zero) below at = omega (arith, at)
  place (suc (suc zero)) below at = omega (arith, at)
  place (suc (suc (suc zero))) below at = omega (arith, at)
  place (suc (suc (suc (suc k)))) below at = omega (arith, below)

module _ (store : KeyedStore) (journal : List Entry) (caller : Caller) (asked : Asked) (front : ℕ) (used : Used) (answer : SessionAnswer) (commit : List Entry) where
  told_responds : Told store journal caller asked front used answer commit → IsHttp asked → Responds answer
  told_responds (told_step _ _ _ is _ _ _) http = absurd (subst IsHttp is http)
  told_responds (told_disk_fault _ is _ _ _ _) http = absurd (subst IsHttp is http)
  told_responds (told_random_fault _ _ _ is _ _ _ _) http = absurd (subst IsHttp is http)
  told_responds (told_no_memory _ is _ _ _ _) http = absurd (subst IsHttp is http)
  told_responds (told_no_memory_at_once _ is _ _ _) http = absurd (subst IsHttp is http)
  told_responds (told_bad _ is _ _ _) http = absurd (subst IsHttp is http)
  told_responds (told_no_memory_for_bad _ is _ _ _) http = absurd (subst IsHttp is http)
  told_responds (told_page _ _ _ _ _ _ _ same) http = subst Responds (sym same) (page_responds _)
  told_responds (told_page_refused _ _ _ _ _ _ same _) http = subst Responds (sym same) (page_responds _)
  told_responds (told_page_disk_fault _ _ _ _ same _) http = subst Responds (sym same) (page_responds _)
  told_responds (told_page_no_memory _ _ _ _ same _) http = subst Responds (sym same) (page_responds _)
  told_responds (told_read _ given _ _ _ same _) http = subst Responds (sym same) (read_responds given)
  told_responds (told_unrouted code is _ same _) http = subst Responds (sym same) (without_fault (to_unrouted code) code refl refl (no_fault_code code (subst IsHttp is http)))
  told_responds (told_no_memory_for_unrouted _ _ _ same _) http = subst Responds (sym same) (without_fault (to_unrouted 503) 503 refl refl (λ e. omega (arith, e)))

at_fronts-length : (fronts : List ℕ) (answers : List SessionAnswer) → length fronts ≡ length answers → length (at_fronts fronts answers) ≡ length answers
at_fronts-length [] [] many = refl
at_fronts-length (front ∷ fronts) (answer ∷ answers) many = let rest = at_fronts-length fronts answers (omega (arith, many)) in omega (arith, rest)
at_fronts-length [] (answer ∷ answers) many = absurd (omega (arith, many))
at_fronts-length (front ∷ fronts) [] many = absurd (omega (arith, many))

answers_in : List SessionReply → List SessionAnswer
answers_in replies = map (λ (reply : SessionReply). reply.answer) replies

at_fronts-answers : (fronts : List ℕ) (answers : List SessionAnswer) → length fronts ≡ length answers → answers_in (at_fronts fronts answers) ≡ answers
unfolding answers_in
at_fronts-answers [] [] many = refl
at_fronts-answers (front ∷ fronts) (answer ∷ answers) many = ap (λ rest. answer ∷ rest) (at_fronts-answers fronts answers (omega (arith, many)))
at_fronts-answers [] (answer ∷ answers) many = absurd (omega (arith, many))
at_fronts-answers (front ∷ fronts) [] many = absurd (omega (arith, many))

numbered-length : (call : ℕ) (asked : List Asked) → length (numbered_from call asked) ≡ length asked
numbered-length call [] = refl
numbered-length call (a ∷ asked) = let rest = numbered-length (call + 1) asked in omega (arith, rest)

pub numbered-asked : (call : ℕ) (asked : List Asked) → asked_in (numbered_from call asked) ≡ asked
numbered-asked call [] = refl
numbered-asked call (a ∷ asked) = ap (λ rest. a ∷ rest) (numbered-asked (call + 1) asked)

served_respond : (store : KeyedStore) (journal : List Entry) (number from : ℕ) (served : List ServedRequest) → Serves store journal number from served → All IsHttp (asked_in (requests_of served)) → All Responds (answers_in (replies_of served))
unfolding answers_in
served_respond store journal number from [] serves http = All-nil Responds
served_respond store journal number from (one ∷ more) serves http =
    All-cons Responds one.reply.answer (answers_in (replies_of more))
    (told_responds store journal _ one.request.asked one.reply.front one.used one.reply.answer one.commit serves.0.told (All-head IsHttp one.request.asked (asked_in (requests_of more)) http))
    (served_respond store journal number one.reply.front more serves.1 (All-tail IsHttp one.request.asked (asked_in (requests_of more)) http))

pub requests_get_responses : (store : KeyedStore) (seen : List Entry) (number : ℕ) (asked : List Asked) (fronts : List ℕ) (answers : List SessionAnswer) (journal : List Entry) → HttpSession store seen number asked fronts answers journal → (length asked ≡ length answers) × All Responds answers
requests_get_responses store seen number asked fronts answers journal http =
    let session = http.session in
    let of_http : All IsHttp (asked_in (requests_of session.served)) = subst (All IsHttp) (sym (ap asked_in session.requests_are ∙ numbered-asked 1 asked)) http.of_http in (
      sym (numbered-length 1 asked) ∙ as_many store seen number (numbered_from 1 asked) used_nothing (at_fronts fronts answers) journal session ∙ at_fronts-length fronts answers http.as_many,
      subst (All Responds) (ap answers_in session.replies_are ∙ at_fronts-answers fronts answers http.as_many) (served_respond store journal number (length seen) session.served session.serves of_http),
    )
