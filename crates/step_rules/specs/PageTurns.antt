-- A page of records that comes to a store on a disk that may fail: the cases of a turn, with growth in place of the step.
use Rattle.std.specs.Prelude.{◌≡◌, ◌≢◌, ℕ, List, [], ◌++◌, length, Ok, Err, ◌⊎◌}
use Rattle.record_rules.specs.Records.{SealedRecord, Caller, Entry}
use Rattle.record_rules.specs.Growth.{PageRefusal, grow}
use Rattle.step_rules.specs.Turn.{settled}

-- how many records were added, or why the page was not taken
pub data PageAnswer : Type 0 where
  took : (added : ℕ) → PageAnswer
  page_refused : PageRefusal → PageAnswer
  page_faulted : PageAnswer
  page_no_memory : PageAnswer

-- these stand after the turn: the journal, and the commit in doubt
pub record PageLeaves (journal doubt after doubt_after : List Entry) : Type 0 where
  pub journal_is : after ≡ journal
  pub doubt_is : doubt_after ≡ doubt

-- From the journal with the commit in doubt a page of this owner, in this caller's call, may leave these and be answered so.
pub data PageTurn (journal doubt : List Entry) (caller : Caller) (owner : ℕ) (records : List SealedRecord) (after doubt_after : List Entry) (answer : PageAnswer) : Type 0 where
  -- settling failed
  unsettled_page : doubt ≢ [] → PageLeaves journal doubt after doubt_after → answer ≡ page_faulted → PageTurn journal doubt caller owner records after doubt_after answer
  -- what was in doubt is settled, and the page is taken whole or refused from there
  taken_page : (batch : List Entry) → grow (settled journal doubt) caller owner records ≡ Ok batch → PageLeaves (settled journal doubt ++ batch) [] after doubt_after → answer ≡ took (length batch)
      → PageTurn journal doubt caller owner records after doubt_after answer
  refused_page : (refusal : PageRefusal) → grow (settled journal doubt) caller owner records ≡ Err refusal → PageLeaves (settled journal doubt) [] after doubt_after → answer ≡ page_refused refusal
      → PageTurn journal doubt caller owner records after doubt_after answer
  -- the commit failed: it is lost, or in doubt. Where nothing is fresh, nothing is committed
  uncommitted_page : (batch left : List Entry) → grow (settled journal doubt) caller owner records ≡ Ok batch → batch ≢ [] → (left ≡ []) ⊎ (left ≡ batch) → PageLeaves (settled journal doubt) left after doubt_after
      → answer ≡ page_faulted → PageTurn journal doubt caller owner records after doubt_after answer
  -- memory was wanting, before or after settling
  short_page : PageLeaves journal doubt after doubt_after → answer ≡ page_no_memory → PageTurn journal doubt caller owner records after doubt_after answer
  short_settled_page : PageLeaves (settled journal doubt) [] after doubt_after → answer ≡ page_no_memory → PageTurn journal doubt caller owner records after doubt_after answer
