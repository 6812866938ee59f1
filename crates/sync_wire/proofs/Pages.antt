-- Why a body is no page.
use Rattle.std.proofs.Common.{ℕ, List, Vec, Global, Err}
use Rattle.record_json.specs.Reading.{RefusesBytes}
use Rattle.record_json.specs.declared.fail.JsonFail.{JsonFail}
use Rattle.record_json.specs.declared.fail.JsonFail.TheVariants.{NotJson, NotRecords, NoMemory}
use Rattle.record_model.specs.declared.sealed.Record.{Record}
use Rattle.sync_wire.specs.Exchanging.{ReadsBody}
use Rattle.sync_wire.specs.Refusals.{body_refused}
use Rattle.sync_wire.specs.Replies.{SaysPage, NoPage, no_json, no_records}

pub page_refused : (host : ℕ) (tag : List ℕ) (count : ℕ) (body : List ℕ) (fail : JsonFail) → RefusesBytes body fail
    → ReadsBody {T = Vec Record Global} (λ body records. SaysPage host tag count body records.items) (NoPage host tag count) body (Err (body_refused fail))
page_refused host tag count body NotJson why = no_json why
page_refused host tag count body (NotRecords position) why = no_records position why
page_refused host tag count body NoMemory why = tt
