-- What a session over HTTP is asked, and the code of each response (RFC 9110, 15, and RFC 4918, 11.5). How requests and responses are written is said by
-- whoever reads and writes them.
use Rattle.std.specs.Prelude.{◌≡◌, ℕ, ◌+◌, List, [], ◌∷◌, length, slice_get, All, false, Option, Some, None, ⊤}
use Rattle.std.specs.List.{Contains}
use Rattle.definitions.specs.Uses.{used_nothing}
use Rattle.record_rules.specs.Records.{Entry}
use Rattle.record_rules.specs.Growth.{PageRefusal, PageTooLong, PageForked, PageGap, PageFull}
use Rattle.step_rules.specs.Calls.{is_read}
use Rattle.step_rules.specs.Store.{KeyedStore}
use Rattle.step_rules.specs.PageTurns.{PageAnswer, took, page_refused, page_faulted, page_no_memory}
use Rattle.step_rules.specs.ReadTurns.{status_read, page_read, front_read, ReadAnswer, told_status, told_page, told_front, read_faulted, read_no_memory}
use Rattle.session_rules.specs.Sessions.{Asked, a_call, no_call, a_page, a_read, unrouted, SessionAnswer, to_call, to_page, to_read, to_unrouted, SessionReply, no_memory_code, numbered_from, Session}

-- ---- requests

-- why a request asks the store nothing: its query or body isn't of the form, its token is no one's, there is no such path, no such method
abbrev pub route_codes : List ℕ
route_codes = 400 ∷ 401 ∷ 404 ∷ 405 ∷ []

-- A request of HTTP posts a page, or gets a status or a page; or it is refused before it asks the store anything.
abbrev pub IsHttp : Asked → Type 0
IsHttp (a_call call) = ⊥
IsHttp (no_call place) = ⊥
IsHttp (a_page owner records) = ⊤
IsHttp (a_read (status_read owner)) = ⊤
IsHttp (a_read (page_read owner host tag start count)) = ⊤
IsHttp (a_read front_read) = ⊥
IsHttp (unrouted code) = Contains route_codes code

-- the requests that may be told of a fault of the disk: a call that writes, a page that is posted, and a page that is read
abbrev pub MayFault : Asked → Type 0
MayFault (a_call call) = is_read call ≡ false
MayFault (no_call place) = ⊥
MayFault (a_page owner records) = ⊤
MayFault (a_read (status_read owner)) = ⊥
MayFault (a_read (page_read owner host tag start count)) = ⊤
MayFault (a_read front_read) = ⊥
MayFault (unrouted code) = ⊥

-- ---- responses

-- a fault of the disk
abbrev pub fault_code : ℕ
fault_code = 500

-- a page that is too long, that forks, that comes before another one, or for which there is no room
abbrev pub refusal_code : PageRefusal → ℕ
refusal_code (PageTooLong position length) = 413
refusal_code (PageForked position held) = 409
refusal_code (PageGap position wanted) = 409
refusal_code (PageFull passed) = 507

-- the codes of answers to a page and to a read
abbrev pub page_code : PageAnswer → ℕ
page_code (took added) = 200
page_code (page_refused refusal) = refusal_code refusal
page_code page_faulted = fault_code
page_code page_no_memory = no_memory_code

abbrev pub read_code : ReadAnswer → ℕ
read_code (told_status counts) = 200
read_code (told_page records) = 200
read_code (told_front front) = 200
read_code read_faulted = fault_code
read_code read_no_memory = no_memory_code

-- the code of a response; what a call is answered is none
abbrev pub response_code : SessionAnswer → Option ℕ
response_code (to_call answer) = None
response_code (to_page answer) = Some (page_code answer)
response_code (to_read answer) = Some (read_code answer)
response_code (to_unrouted code) = Some code

-- ---- sessions

-- A response doesn't name its front, so the fronts are given beside the answers.
abbrev pub at_fronts : List ℕ → List SessionAnswer → List SessionReply
at_fronts [] answers = []
at_fronts (front ∷ fronts) [] = []
at_fronts (front ∷ fronts) (answer ∷ answers) = record { front = front; answer = answer } ∷ at_fronts fronts answers

-- The session of a connection: it is asked requests of HTTP alone, numbered from 1, and uses neither clock nor random bytes. Where memory was wanting
-- the connection ends, so only its last answer tells of it.
pub record HttpSession (store : KeyedStore) (seen : List Entry) (number : ℕ) (asked : List Asked) (fronts : List ℕ) (answers : List SessionAnswer) (journal : List Entry) : Type 0 where
  pub of_http : All IsHttp asked
  pub as_many : length fronts ≡ length answers
  pub session : Session store seen number (numbered_from 1 asked) used_nothing (at_fronts fronts answers) journal
  pub ends : (k : ℕ) (answer : SessionAnswer) → slice_get answers k ≡ Some answer → response_code answer ≡ Some no_memory_code → k + 1 ≡ length answers
