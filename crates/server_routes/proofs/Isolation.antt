-- Owners are alone.
use Rattle.std.proofs.Common.{◌≡◌, ℕ, ◌⊎◌, inl, inr, Bool, true, List, [], Some, None, Ok, refl, sym, ◌∙◌, ap, subst}
use Rattle.std.specs.Prelude.{◌≢◌}
use Rattle.std.proofs.lemmas.Option.{same_Some}
use Rattle.definitions.specs.Counts.{Rose}
use Rattle.definitions.specs.Uses.{Used, used_nothing}
use Rattle.record_rules.specs.Records.{SealedRecord, Caller, Entry}
use Rattle.record_rules.specs.Journal.{own_events}
use Rattle.record_rules.specs.Growth.{grown}
use Rattle.record_rules.specs.Answers.{OwnerAsked, AskStatus, AskPage, SendPage}
use Rattle.record_rules.proofs.Owned.{own_events_grown_other}
use Rattle.step_rules.specs.Store.{KeyedStore}
use Rattle.step_rules.specs.Turn.{settled}
use Rattle.step_rules.specs.PageTurns.{PageAnswer, took, page_refused, page_faulted, page_no_memory, PageTurn, unsettled_page, taken_page, refused_page, uncommitted_page, short_page, short_settled_page}
use Rattle.step_rules.specs.ReadTurns.{status_read, page_read, front_read, told_status, told_page, told_front, read_faulted, read_no_memory}
use Rattle.step_rules.proofs.ReadTurns.{ReadTurn-stands}
use Rattle.session_rules.specs.Sessions.{Asked, a_call, no_call, a_page, a_read, unrouted, SessionAnswer, to_call, to_page, to_read, to_unrouted, caller_of, no_memory_code}
use Rattle.session_rules.specs.Passes.{tells_disk_fault}
use Rattle.session_rules.specs.Turns.{TurnAnswers, answers_call, answers_unread, answers_bad, answers_page, answers_read, answers_unrouted}
use Rattle.session_rules.specs.Stores.{StoreState, StoreTurn}
use Rattle.session_rules.specs.Http.{IsHttp}
use Rattle.session_rules.specs.Owners.{owner_asks, went_well}
use Rattle.session_rules.proofs.Owners.{answered_alike}
use Rattle.session_seats.specs.Stores.{StoreSeen}
use Rattle.accounts.specs.Accounts.{AccountSeen}
use Rattle.http_wire.specs.Written.{RequestSeen, ResponseSeen}
use Rattle.request_routes.specs.Routing.{route_of, asked_or_code}
use Rattle.request_routes.proofs.Asking.{asks_http}
use Rattle.response_texts.specs.Responses.{response_to, Tells}
use Rattle.server_routes.specs.Asking.{AnswersAsked, IsGiven}
use Rattle.server_routes.specs.Serving.{AnswersRequest, request_refused, request_unasked, request_asked}
use Rattle.server_routes.specs.Isolation.{owner_in, owner_of_request, Serves, serves_refused, serves_unasked, serves_asked, HasFailed}

-- ---- a store that one caller has

state_stays : (old new : StoreSeen) → new ≡ old → new.state ≡ old.state
state_stays old new same = ap (λ (s : StoreSeen). s.state) same

given_is : (old : StoreSeen) (given answer : SessionAnswer) → old.history ≢ None → IsGiven old.history given answer → given ≡ answer
given_is old given answer tells (inl same) = sym same
given_is old given answer tells (inr untold) = absurd (tells untold.0)

asked_alone : (old new : StoreSeen) (call : ℕ) (asked : Asked) (answer : SessionAnswer) → old.fixed.alone ≡ true → old.history ≢ None → AnswersAsked old new call asked answer → StoreTurn old.fixed.keyed old.state (caller_of old.fixed.number call) asked used_nothing new.state answer
asked_alone old new call asked answer alone tells a =
    let both = a.turn.alone alone in
    subst (λ (s : StoreState). StoreTurn old.fixed.keyed s (caller_of old.fixed.number call) asked used_nothing new.state answer) both.0
    (subst (λ (s : StoreState). StoreTurn old.fixed.keyed a.found (caller_of old.fixed.number call) asked used_nothing s answer) both.1
    (subst (λ (x : SessionAnswer). StoreTurn old.fixed.keyed a.found (caller_of old.fixed.number call) asked used_nothing a.left x) (given_is old a.given answer tells a.told) a.answers))

pub serves_alone : (accounts : List AccountSeen) (old new : StoreSeen) (call : ℕ) (request : RequestSeen) (response : ResponseSeen) → old.fixed.alone ≡ true → old.history ≢ None → AnswersRequest accounts old new call request response
    → Serves accounts old.fixed.keyed old.state (caller_of old.fixed.number call) request new.state response
serves_alone accounts old new call request response alone tells (request_refused fail route same is) = serves_refused fail route (state_stays old new same) is
serves_alone accounts old new call request response alone tells (request_unasked same is) = serves_unasked (state_stays old new same) is
serves_alone accounts old new call request response alone tells (request_asked asked route serves) = serves_asked asked serves.0 route (asked_alone old new call asked serves.0 alone tells serves.1) serves.2

-- ---- what failed

code_is : (close : Bool) (answer : SessionAnswer) (response told : ResponseSeen) → response_to close answer ≡ Some told → Tells close answer response → response.code ≡ told.code
code_is close answer response told is tells = ap (λ (r : ResponseSeen). r.code) (same_Some response told (sym tells ∙ is))

well_or_failed : (close : Bool) (found left : StoreState) (answer : SessionAnswer) (response : ResponseSeen) → Tells close answer response → (tells_disk_fault answer ≡ true → Rose found.faults left.faults) → (went_well answer ≡ true) ⊎ HasFailed found left response
well_or_failed close found left (to_call answer) response tells told = inl refl
well_or_failed close found left (to_page (took added)) response tells told = inl refl
well_or_failed close found left (to_page (page_refused refusal)) response tells told = inl refl
well_or_failed close found left (to_page page_faulted) response tells told = inr (inr (told refl))
well_or_failed close found left (to_page page_no_memory) response tells told = inr (inl (code_is close (to_page page_no_memory) response _ refl tells))
well_or_failed close found left (to_read (told_status counts)) response tells told = inl refl
well_or_failed close found left (to_read (told_page records)) response tells told = inl refl
well_or_failed close found left (to_read (told_front front)) response tells told = inl refl
well_or_failed close found left (to_read read_faulted) response tells told = inr (inr (told refl))
well_or_failed close found left (to_read read_no_memory) response tells told = inr (inl (code_is close (to_read read_no_memory) response _ refl tells))
well_or_failed close found left (to_unrouted code) response tells told = inl refl

-- ---- two turns of one request

one_response : (close : Bool) (answer other : SessionAnswer) (response response_there : ResponseSeen) → answer ≡ other → Tells close answer response → Tells close other response_there → response ≡ response_there
one_response close answer other response response_there same tells tells_there = same_Some response response_there (sym tells ∙ ap (response_to close) same ∙ tells_there)

module _ (close : Bool) (store other : KeyedStore) (found there : StoreState) (caller caller_there : Caller) (left left_there : StoreState) (answer answer_there : SessionAnswer) (response response_there : ResponseSeen) (settled_here : found.doubt ≡ []) (settled_there : there.doubt ≡ [])
    (tells : Tells close answer response) (tells_there : Tells close answer_there response_there) where
  at_settled : (keyed : KeyedStore) (state : StoreState) (by : Caller) (asked : Asked) (behind : StoreState) (given : SessionAnswer) → state.doubt ≡ [] → StoreTurn keyed state by asked used_nothing behind given → TurnAnswers keyed state.entries [] by asked used_nothing behind.entries behind.doubt given
  at_settled keyed state by asked behind given none turn = subst (λ (doubt : List Entry). TurnAnswers keyed state.entries doubt by asked used_nothing behind.entries behind.doubt given) none turn.answers

  both_well : (asked : Asked) (one two : OwnerAsked) → owner_asks caller asked ≡ Some one → owner_asks caller_there asked ≡ Some two → own_events found.entries one.owner ≡ own_events there.entries one.owner → StoreTurn store found caller asked used_nothing left answer
      → StoreTurn other there caller_there asked used_nothing left_there answer_there → (went_well answer ≡ true) ⊎ HasFailed found left response → (went_well answer_there ≡ true) ⊎ HasFailed there left_there response_there → HasFailed found left response ⊎ (HasFailed there left_there response_there ⊎ (response ≡ response_there))
  both_well asked one two first second same turn turn_there (inr failed) well_there = inl failed
  both_well asked one two first second same turn turn_there (inl well) (inr failed) = inr (inl failed)
  both_well asked one two first second same turn turn_there (inl well) (inl well_there) =
      let alike = answered_alike store other found.entries there.entries caller caller_there asked one two used_nothing used_nothing left.entries left_there.entries left.doubt left_there.doubt answer answer_there first second same
      (at_settled store found caller asked left answer settled_here turn) (at_settled other there caller_there asked left_there answer_there settled_there turn_there) well well_there in
      inr (inr (one_response close answer answer_there response response_there alike tells tells_there))

  owners_alike : (asked : Asked) (one two : OwnerAsked) → owner_asks caller asked ≡ Some one → owner_asks caller_there asked ≡ Some two → own_events found.entries one.owner ≡ own_events there.entries one.owner → StoreTurn store found caller asked used_nothing left answer
      → StoreTurn other there caller_there asked used_nothing left_there answer_there → HasFailed found left response ⊎ (HasFailed there left_there response_there ⊎ (response ≡ response_there))
  owners_alike asked one two first second same turn turn_there =
      both_well asked one two first second same turn turn_there (well_or_failed close found left answer response tells turn.told) (well_or_failed close there left_there answer_there response_there tells_there turn_there.told)

  -- what asks the store nothing is told its code, or want of memory
  unrouted_given : (keyed : KeyedStore) (journal doubt : List Entry) (by : Caller) (code : ℕ) (used : Used) (after doubt_after : List Entry) (given : SessionAnswer) → TurnAnswers keyed journal doubt by (unrouted code) used after doubt_after given → (given ≡ to_unrouted code) ⊎ (given ≡ to_unrouted no_memory_code)
  unrouted_given keyed journal doubt by code used after doubt_after given (answers_call call reply is turn told) = absurd cc
  unrouted_given keyed journal doubt by code used after doubt_after given (answers_unread call is nothing leaves told) = absurd cc
  unrouted_given keyed journal doubt by code used after doubt_after given (answers_bad place is nothing leaves told) = absurd cc
  unrouted_given keyed journal doubt by code used after doubt_after given (answers_page owner records answer is nothing turn told) = absurd cc
  unrouted_given keyed journal doubt by code used after doubt_after given (answers_read read answer is nothing turn told) = absurd cc
  unrouted_given keyed journal doubt by code used after doubt_after given (answers_unrouted same is nothing leaves (inl told)) = inl (cc)
  unrouted_given keyed journal doubt by code used after doubt_after given (answers_unrouted same is nothing leaves (inr told)) = inr told

  wanting : (reply : ResponseSeen) (given : SessionAnswer) → Tells close given reply → given ≡ to_unrouted no_memory_code → reply.code ≡ no_memory_code
  wanting reply given told is = code_is close (to_unrouted no_memory_code) reply _ refl (subst (λ (g : SessionAnswer). Tells close g reply) is told)

  codes_alike : (code : ℕ) → (answer ≡ to_unrouted code) ⊎ (answer ≡ to_unrouted no_memory_code) → (answer_there ≡ to_unrouted code) ⊎ (answer_there ≡ to_unrouted no_memory_code) → HasFailed found left response ⊎ (HasFailed there left_there response_there ⊎ (response ≡ response_there))
  codes_alike code (inr is) second = inl (inl (wanting response answer tells is))
  codes_alike code (inl is) (inr is_there) = inr (inl (inl (wanting response_there answer_there tells_there is_there)))
  codes_alike code (inl is) (inl is_there) = inr (inr (one_response close answer answer_there response response_there (is ∙ sym is_there) tells tells_there))

  asked_alike : (asked : Asked) → IsHttp asked → ((owner : ℕ) → owner_in asked ≡ Some owner → own_events found.entries owner ≡ own_events there.entries owner) → StoreTurn store found caller asked used_nothing left answer → StoreTurn other there caller_there asked used_nothing left_there answer_there
      → HasFailed found left response ⊎ (HasFailed there left_there response_there ⊎ (response ≡ response_there))
  asked_alike (a_call call) http same turn turn_there = absurd http
  asked_alike (no_call place) http same turn turn_there = absurd http
  asked_alike (a_page owner records) http same turn turn_there = owners_alike (a_page owner records) (record { owner = owner; request = SendPage caller records }) (record { owner = owner; request = SendPage caller_there records }) refl refl (same owner refl) turn turn_there
  asked_alike (a_read (status_read owner)) http same turn turn_there = owners_alike (a_read (status_read owner)) (record { owner = owner; request = AskStatus }) (record { owner = owner; request = AskStatus }) refl refl (same owner refl) turn turn_there
  asked_alike (a_read (page_read owner host tag start count)) http same turn turn_there =
      owners_alike (a_read (page_read owner host tag start count)) (record { owner = owner; request = AskPage host tag start count }) (record { owner = owner; request = AskPage host tag start count }) refl refl (same owner refl) turn turn_there
  asked_alike (a_read front_read) http same turn turn_there = absurd http
  asked_alike (unrouted code) http same turn turn_there =
      codes_alike code (unrouted_given store found.entries found.doubt caller code used_nothing left.entries left.doubt answer turn.answers) (unrouted_given other there.entries there.doubt caller_there code used_nothing left_there.entries left_there.doubt answer_there turn_there.answers)

-- ---- the laws

module _ (accounts : List AccountSeen) (request : RequestSeen) where
  http_of : (asked : Asked) → route_of accounts request ≡ Ok asked → IsHttp asked
  http_of asked route = subst IsHttp (ap asked_or_code route) (asks_http accounts request)

  owner_is : (asked : Asked) → route_of accounts request ≡ Ok asked → owner_of_request accounts request ≡ owner_in asked
  owner_is asked route = ap (λ r. owner_in (asked_or_code r)) route

  pub serves_alike : (store other : KeyedStore) (found there : StoreState) (caller caller_there : Caller) (left left_there : StoreState) (response response_there : ResponseSeen) → found.doubt ≡ [] → there.doubt ≡ []
      → ((owner : ℕ) → owner_of_request accounts request ≡ Some owner → own_events found.entries owner ≡ own_events there.entries owner)
      → Serves accounts store found caller request left response → Serves accounts other there caller_there request left_there response_there → HasFailed found left response ⊎ (HasFailed there left_there response_there ⊎ (response ≡ response_there))
  serves_alike store other found there caller caller_there left left_there response response_there settled_here settled_there same (serves_unasked stays is) second = inl (inl (ap (λ (r : ResponseSeen). r.code) is))
  serves_alike store other found there caller caller_there left left_there response response_there settled_here settled_there same (serves_refused fail route stays is) (serves_unasked stays_there is_there) = inr (inl (inl (ap (λ (r : ResponseSeen). r.code) is_there)))
  serves_alike store other found there caller caller_there left left_there response response_there settled_here settled_there same (serves_refused fail route stays is) (serves_refused fail_there route_there stays_there is_there) = inr (inr (cc))
  serves_alike store other found there caller caller_there left left_there response response_there settled_here settled_there same (serves_refused fail route stays is) (serves_asked asked answer route_there turn tells) = absurd cc
  serves_alike store other found there caller caller_there left left_there response response_there settled_here settled_there same (serves_asked asked answer route turn tells) (serves_unasked stays_there is_there) = inr (inl (inl (ap (λ (r : ResponseSeen). r.code) is_there)))
  serves_alike store other found there caller caller_there left left_there response response_there settled_here settled_there same (serves_asked asked answer route turn tells) (serves_refused fail_there route_there stays_there is_there) = absurd cc
  serves_alike store other found there caller caller_there left left_there response response_there settled_here settled_there same (serves_asked asked answer route turn tells) (serves_asked asked_there answer_there route_there turn_there tells_there) =
      let one : asked_there ≡ asked = cc in
      asked_alike request.close store other found there caller caller_there left left_there answer answer_there response response_there settled_here settled_there tells tells_there asked (http_of asked route) (λ owner is. same owner (owner_is asked route ∙ is)) turn
      (subst (λ (a : Asked). StoreTurn other there caller_there a used_nothing left_there answer_there) one turn_there)

  -- a page leaves what others hold
  page_keeps : (journal doubt : List Entry) (caller : Caller) (owner other : ℕ) (records : List SealedRecord) (after doubt_after : List Entry) (given : PageAnswer) → owner ≢ other → PageTurn journal doubt caller owner records after doubt_after given
      → (own_events after other ≡ own_events journal other) ⊎ (own_events after other ≡ own_events (settled journal doubt) other)
  page_keeps journal doubt caller owner other records after doubt_after given differ (unsettled_page in_doubt leaves told) = inl (ap (λ (l : List Entry). own_events l other) leaves.journal_is)
  page_keeps journal doubt caller owner other records after doubt_after given differ (taken_page batch grows leaves told) =
      let grew : own_events (grown (settled journal doubt) (Ok batch)) other ≡ own_events (settled journal doubt) other =
      subst (λ r. own_events (grown (settled journal doubt) r) other ≡ own_events (settled journal doubt) other) grows (own_events_grown_other (settled journal doubt) caller owner other records differ) in
      inr (ap (λ (l : List Entry). own_events l other) leaves.journal_is ∙ grew)
  page_keeps journal doubt caller owner other records after doubt_after given differ (refused_page refusal grows leaves told) = inr (ap (λ (l : List Entry). own_events l other) leaves.journal_is)
  page_keeps journal doubt caller owner other records after doubt_after given differ (uncommitted_page batch kept grows some lost leaves told) = inr (ap (λ (l : List Entry). own_events l other) leaves.journal_is)
  page_keeps journal doubt caller owner other records after doubt_after given differ (short_page leaves told) = inl (ap (λ (l : List Entry). own_events l other) leaves.journal_is)
  page_keeps journal doubt caller owner other records after doubt_after given differ (short_settled_page leaves told) = inr (ap (λ (l : List Entry). own_events l other) leaves.journal_is)

  turn_keeps : (store : KeyedStore) (journal doubt : List Entry) (caller : Caller) (asked : Asked) (used : Used) (after doubt_after : List Entry) (answer : SessionAnswer) (other : ℕ) → IsHttp asked → owner_in asked ≢ Some other → TurnAnswers store journal doubt caller asked used after doubt_after answer
      → (own_events after other ≡ own_events journal other) ⊎ (own_events after other ≡ own_events (settled journal doubt) other)
  turn_keeps store journal doubt caller asked used after doubt_after answer other http differ (answers_call call reply is turn told) = absurd (subst IsHttp is http)
  turn_keeps store journal doubt caller asked used after doubt_after answer other http differ (answers_unread call is nothing leaves told) = inl (ap (λ (l : List Entry). own_events l other) leaves.journal_is)
  turn_keeps store journal doubt caller asked used after doubt_after answer other http differ (answers_bad place is nothing leaves told) = inl (ap (λ (l : List Entry). own_events l other) leaves.journal_is)
  turn_keeps store journal doubt caller asked used after doubt_after answer other http differ (answers_page owner records given is nothing turn told) =
      page_keeps journal doubt caller owner other records after doubt_after given (λ same. differ (ap owner_in is ∙ ap Some same)) turn
  turn_keeps store journal doubt caller asked used after doubt_after answer other http differ (answers_read read given is nothing turn told) = inl (ap (λ (l : List Entry). own_events l other) (ReadTurn-stands journal doubt read after doubt_after given turn).journal_is)
  turn_keeps store journal doubt caller asked used after doubt_after answer other http differ (answers_unrouted code is nothing leaves told) = inl (ap (λ (l : List Entry). own_events l other) leaves.journal_is)

  pub keeps_others : (store : KeyedStore) (found : StoreState) (caller : Caller) (left : StoreState) (response : ResponseSeen) (other : ℕ) → Serves accounts store found caller request left response → owner_of_request accounts request ≢ Some other
      → (own_events left.entries other ≡ own_events found.entries other) ⊎ (own_events left.entries other ≡ own_events (settled found.entries found.doubt) other)
  keeps_others store found caller left response other (serves_refused fail route stays is) differ = inl (ap (λ (s : StoreState). own_events s.entries other) stays)
  keeps_others store found caller left response other (serves_unasked stays is) differ = inl (ap (λ (s : StoreState). own_events s.entries other) stays)
  keeps_others store found caller left response other (serves_asked asked answer route turn tells) differ =
      turn_keeps store found.entries found.doubt caller asked used_nothing left.entries left.doubt answer other (http_of asked route) (λ is. differ (owner_is asked route ∙ is)) turn.answers
