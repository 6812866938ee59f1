-- What a response tells of a turn.
use Rattle.std.proofs.Common.{◌≡◌, ℕ, inl, inr, Bool, List, Some, Err, refl, sym, ◌∙◌, ap}
use Rattle.std.specs.Prelude.{◌≢◌}
use Rattle.definitions.specs.Uses.{Used}
use Rattle.record_rules.specs.Records.{Caller, Entry}
use Rattle.step_rules.specs.Store.{KeyedStore}
use Rattle.step_rules.specs.PageTurns.{PageLeaves}
use Rattle.step_rules.specs.ReadTurns.{StoreRead, front_read, ReadAnswer, read_no_memory, wants_memory}
use Rattle.step_rules.proofs.ReadTurns.{ReadTurn-stands}
use Rattle.session_rules.specs.Sessions.{Asked, a_read, SessionAnswer, to_read, caller_of}
use Rattle.session_rules.specs.Turns.{TurnAnswers, answers_call, answers_unread, answers_bad, answers_page, answers_read, answers_unrouted}
use Rattle.session_seats.specs.Stores.{StoreSeen}
use Rattle.accounts.specs.Accounts.{AccountSeen}
use Rattle.http_wire.specs.Written.{RequestSeen, ResponseSeen}
use Rattle.request_routes.specs.Reading.{IsRoute}
use Rattle.request_routes.specs.Routing.{code_of}
use Rattle.request_routes.specs.declared.fail.RouteFail.{RouteFail}
use Rattle.request_routes.specs.declared.fail.RouteFail.TheVariants.{NoPath, NoMethod, UnknownToken, BadRequest, NoMemory}
use Rattle.response_texts.specs.Responses.{Tells, TellsRead, coded_response}
use Rattle.server_routes.specs.Asking.{AnswersAsked}
use Rattle.server_routes.specs.Serving.{ServesAsked, AnswersRequest, request_refused, request_unasked}

-- ---- a read

-- whatever a read is answered, it leaves the journal and what is in doubt
read_leaves : (store : KeyedStore) (journal doubt : List Entry) (caller : Caller) (read : StoreRead) (used : Used) (after doubt_after : List Entry) (answer : SessionAnswer) → TurnAnswers store journal doubt caller (a_read read) used after doubt_after answer → PageLeaves journal doubt after doubt_after
read_leaves store journal doubt caller read used after doubt_after answer (answers_call call reply is turn told) = absurd cc
read_leaves store journal doubt caller read used after doubt_after answer (answers_unread call is nothing leaves told) = leaves
read_leaves store journal doubt caller read used after doubt_after answer (answers_bad place is nothing leaves told) = leaves
read_leaves store journal doubt caller read used after doubt_after answer (answers_page owner records given is nothing turn told) = absurd cc
read_leaves store journal doubt caller read used after doubt_after answer (answers_read other given is nothing turn told) = ReadTurn-stands journal doubt other after doubt_after given turn
read_leaves store journal doubt caller read used after doubt_after answer (answers_unrouted code is nothing leaves told) = leaves

-- a read that was answered may be told as one for which memory was wanting
wanting : (old new : StoreSeen) (call : ℕ) (read : StoreRead) (answer : SessionAnswer) → read ≢ front_read → AnswersAsked old new call (a_read read) answer → AnswersAsked old new call (a_read read) (to_read read_no_memory)
wanting old new call read answer asks a =
    let leaves = read_leaves old.fixed.keyed a.found.entries a.found.doubt (caller_of old.fixed.number call) read _ a.left.entries a.left.doubt a.given a.answers.answers in
    record {
      found = a.found;
      left = a.left;
      turn = a.turn;
      given = to_read read_no_memory;
      answers = record { answers = answers_read read read_no_memory refl refl (wants_memory asks leaves refl) refl; counted = a.answers.counted; told = λ e. absurd cc };
      told = inl refl;
    }

pub told_read : (old new : StoreSeen) (call : ℕ) (read : StoreRead) (answer : ReadAnswer) (close : Bool) (response : ResponseSeen) → read ≢ front_read → AnswersAsked old new call (a_read read) (to_read answer) → TellsRead close answer response → ServesAsked old new call (a_read read) close response
told_read old new call read answer close response asks a (inl tells) = (to_read answer, a, tells)
told_read old new call read answer close response asks a (inr tells) = (to_read read_no_memory, wanting old new call read (to_read answer) asks a, tells)

-- ---- a code alone

pub told_by_code : (old new : StoreSeen) (call : ℕ) (asked : Asked) (answer : SessionAnswer) (close : Bool) (response : ResponseSeen) (code : ℕ) → AnswersAsked old new call asked answer → Tells close answer (coded_response close code) → response ≡ coded_response close code → ServesAsked old new call asked close response
told_by_code old new call asked answer close response code a tells is = (answer, a, tells ∙ ap Some (sym is))

-- ---- a refusal

pub told_refused : (accounts : List AccountSeen) (old new : StoreSeen) (call : ℕ) (request : RequestSeen) (response : ResponseSeen) (fail : RouteFail) → IsRoute accounts request (Err fail) → new ≡ old → response ≡ coded_response request.close (code_of fail) → AnswersRequest accounts old new call request response
told_refused accounts old new call request response NoPath route same is = request_refused NoPath route same is
told_refused accounts old new call request response NoMethod route same is = request_refused NoMethod route same is
told_refused accounts old new call request response UnknownToken route same is = request_refused UnknownToken route same is
told_refused accounts old new call request response BadRequest route same is = request_refused BadRequest route same is
told_refused accounts old new call request response NoMemory route same is = request_unasked same is
