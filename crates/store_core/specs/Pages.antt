-- Pages of records: what the answer to one that comes in says, and what one that is read back says.
use Rattle.std.specs.Prelude.{◌≡◌, ℕ, List, map, Vec, Result, Ok, Err, ⊤}
use Rattle.std.specs.Global.{Global}
use Rattle.record_rules.specs.Records.{Caller, Entry, SealedRecord}
use Rattle.record_rules.specs.Growth.{grow}
use Rattle.record_rules.specs.Answers.{page}
use Rattle.step_rules.specs.PageTurns.{PageAnswer, took, page_refused, page_faulted, page_no_memory}
use Rattle.record_model.specs.declared.entries.Event as model
use Rattle.record_model.specs.declared.sealed.Record.{Record}
use Rattle.record_model.specs.Seen.{records_seen}
use Rattle.at_edge.specs.Storing.{Tells}
use Rattle.record_log.specs.Journals.{LogSeen}
use Rattle.page_growth.specs.declared.pages.PageFail.{PageFail}
use Rattle.page_growth.specs.declared.pages.PageFail.TheVariants as checks
use Rattle.page_growth.specs.Checking.{refusal_seen}
use Rattle.store_core.specs.declared.pages.TakeFail.{TakeFail}
use Rattle.store_core.specs.declared.pages.TakeFail.TheVariants.{Refused, DiskFault, NoMemory}
use Rattle.store_core.specs.Store.{entry_by}

-- ---- a page that comes in

-- the answer
abbrev pub page_answer_seen : Result ℕ TakeFail → PageAnswer
page_answer_seen (Ok added) = took added
page_answer_seen (Err (Refused refusal)) = page_refused (refusal_seen refusal)
page_answer_seen (Err DiskFault) = page_faulted
page_answer_seen (Err NoMemory) = page_no_memory

abbrev pub take_fail_of : PageFail → TakeFail
take_fail_of (checks.Refused refusal) = Refused refusal
take_fail_of checks.NoMemory = NoMemory

-- these events are what the page adds, in whoever's call; or the page is refused for this; or memory ran out
abbrev pub Grows : Result (Vec model.Event Global) PageFail → List Entry → (owner : ℕ) → List SealedRecord → Type 0
Grows (Ok events) journal owner records = (caller : Caller) → grow journal caller owner records ≡ Ok (map (entry_by caller) events.items)
Grows (Err (checks.Refused refusal)) journal owner records = (caller : Caller) → grow journal caller owner records ≡ Err (refusal_seen refusal)
Grows (Err checks.NoMemory) journal owner records = ⊤

-- ---- a page that is read back

-- where the disk tells, the records are the page of the chain
abbrev pub TellsPage : {E : Type 0} → LogSeen → Result (Vec Record Global) E → List Entry → (owner host : ℕ) → List ℕ → (start count : ℕ) → Type 0
TellsPage log (Ok records) journal owner host tag start count = Tells log.disk (λ _. records_seen records.items ≡ page journal owner host tag start count)
TellsPage log (Err _) journal owner host tag start count = ⊤
