-- The bodies of responses: JSON objects (RFC 8259) without spaces, their members in the order of their names; or the text of a status or of records.
use Rattle.std.specs.Prelude.{ℕ, List, [], ◌++◌, codes, decimal, ◌==◌, if◌then◌else◌}
use Rattle.definitions.specs.Ids.{hyphenated}
use Rattle.record_rules.specs.Growth.{PageRefusal, PageTooLong, PageForked, PageGap, PageFull}
use Rattle.step_rules.specs.PageTurns.{PageAnswer, took, page_refused, page_faulted, page_no_memory}
use Rattle.step_rules.specs.ReadTurns.{ReadAnswer, told_status, told_page, told_front, read_faulted, read_no_memory}
use Rattle.session_rules.specs.Sessions.{SessionAnswer, to_call, to_page, to_read, to_unrouted, no_memory_code}
use Rattle.session_rules.specs.Http.{fault_code}
use Rattle.record_json.specs.Records.{records_text}
use Rattle.record_json.specs.Statuses.{status_text}

-- ---- a code alone

-- why a request was refused, by the code that tells it
abbrev pub reason_of : (code : ℕ) → List ℕ
reason_of code =
    if code == 400 then codes "bad request" else (if code == 401 then codes "unknown token" else (if code == 404 then codes "no such path" else (if code == 405 then codes "no such method" else (if code == 411 then codes "length required" else (if code == 413 then codes "too long" else (if code == 431 then codes "head too long" else (if code == 500 then codes "disk fault" else codes "want of memory")))))))

-- {"reason":".."}
abbrev pub coded_body : (code : ℕ) → List ℕ
coded_body code = codes "{\"reason\":\"" ++ (reason_of code ++ codes "\"}")

-- ---- a page that comes

-- {"added":..}
abbrev pub added_body : ℕ → List ℕ
added_body added = codes "{\"added\":" ++ (decimal added ++ codes "}")

-- {"position":..,"reason":"too long"}, {"held":"..","position":..,"reason":"forked"}, {"position":..,"reason":"gap","wanted":..} and
-- {"held":..,"reason":"full","what":..}
abbrev pub refusal_body : PageRefusal → List ℕ
refusal_body (PageTooLong position length) = codes "{\"position\":" ++ (decimal position ++ codes ",\"reason\":\"too long\"}")
refusal_body (PageForked position held) =
    codes "{\"held\":\"" ++ (hyphenated held ++ (codes "\",\"position\":" ++ (decimal position ++ codes ",\"reason\":\"forked\"}")))
refusal_body (PageGap position wanted) = codes "{\"position\":" ++ (decimal position ++ (codes ",\"reason\":\"gap\",\"wanted\":" ++ (decimal wanted ++ codes "}")))
refusal_body (PageFull passed) = codes "{\"held\":" ++ (decimal passed.held ++ (codes ",\"reason\":\"full\",\"what\":" ++ (decimal passed.what ++ codes "}")))

abbrev pub page_body : PageAnswer → List ℕ
page_body (took added) = added_body added
page_body (page_refused refusal) = refusal_body refusal
page_body page_faulted = coded_body fault_code
page_body page_no_memory = coded_body no_memory_code

-- ---- a read

-- what is asked over HTTP is no front
abbrev pub read_body : ReadAnswer → List ℕ
read_body (told_status counts) = status_text counts
read_body (told_page records) = records_text records
read_body (told_front front) = []
read_body read_faulted = coded_body fault_code
read_body read_no_memory = coded_body no_memory_code

-- ---- any answer

-- nor is it a call
abbrev pub body_of : SessionAnswer → List ℕ
body_of (to_call answer) = []
body_of (to_page answer) = page_body answer
body_of (to_read answer) = read_body answer
body_of (to_unrouted code) = coded_body code
