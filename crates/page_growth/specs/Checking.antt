-- What checking a page answers, and how far it has come before each record.
use Rattle.std.specs.Prelude.{◌≡◌, ℕ, ◌≤◌, Bool, List, [], ◌∷◌, ◌++◌, length, map, Option, Some, None, Result, Ok, Err, Vec, if◌then◌else◌, ⊤}
use Rattle.std.specs.Global.{Global}
use Rattle.definitions.specs.Limits.{most_page_records, most_page_weight}
use Rattle.record_rules.specs.Records.{SealedRecord, Caller, Entry, Event, Taken, page_weight}
use Rattle.record_rules.specs.Journal.{own_events, held_of, chain, IsNumbered}
use Rattle.record_rules.specs.Growth as growth
use Rattle.record_rules.specs.Growth.{PageTooLong, PageForked, PageGap, PageFull, taken_entry, grow}
use Rattle.record_rules.specs.InTurn.{PageTaken, nothing_taken, passed_over, taken_too, owned_then, take_next, take_record, take_records}
use Rattle.chain_index.specs.Chains.{IndexSeen}
use Rattle.chain_index.specs.Meaning.{Filed, journal_of, totals_seen, IsIndexOf}
use Rattle.chain_index.specs.declared.owner.Held.{Held}
use Rattle.page_growth.specs.declared.pages.PageRefusal.{PageRefusal}
use Rattle.page_growth.specs.declared.pages.PageRefusal.TheVariants.{TooLong, Forked, Gap, Full}
use Rattle.page_growth.specs.declared.pages.PageFail.{PageFail}
use Rattle.page_growth.specs.declared.pages.PageFail.TheVariants.{Refused, NoMemory}
use Rattle.page_growth.specs.declared.pages.SoFar.{SoFar}
use Rattle.page_growth.specs.Limits.{limit_seen}

-- ---- the answer

abbrev pub refusal_seen : PageRefusal → growth.PageRefusal
refusal_seen (TooLong position length) = PageTooLong position length
refusal_seen (Forked position held) = PageForked position held
refusal_seen (Gap position wanted) = PageGap position wanted
refusal_seen (Full passed) = PageFull (limit_seen passed)

-- the items that are marked, in order
abbrev pub chosen : {A : Type 0} → List Bool → List A → List A
chosen [] items = []
chosen (mark ∷ marks) [] = []
chosen (mark ∷ marks) (item ∷ items) = if mark then item ∷ chosen marks items else chosen marks items

-- the owner's chains are numbered from 0 without gaps, as in every sound journal
abbrev pub AreNumbered : List Entry → (owner : ℕ) → Type 0
AreNumbered journal owner = (host : ℕ) (tag : List ℕ) → IsNumbered (chain journal owner host tag)

-- it holds of the journal of whatever entries the index is of
abbrev pub OfJournal : IndexSeen → (owner : ℕ) → (List Entry → Type 0) → Type 0
OfJournal index owner holds = (filed : List Filed) → IsIndexOf index filed → AreNumbered (journal_of filed) owner → holds (journal_of filed)

-- the marked records are what the page adds, in whoever's call; or the page is refused for this; or memory ran out
abbrev pub Checks : Result (Vec Bool Global) PageFail → List Entry → (owner : ℕ) → List SealedRecord → Type 0
Checks (Ok marks) journal owner page = (caller : Caller) → grow journal caller owner page ≡ Ok (map (taken_entry caller owner) (chosen marks.items page))
Checks (Err (Refused refusal)) journal owner page = (caller : Caller) → grow journal caller owner page ≡ Err (refusal_seen refusal)
Checks (Err NoMemory) journal owner page = ⊤

-- ---- how far a page was taken

abbrev pub taken_so_far : List SealedRecord → List Bool → PageTaken
taken_so_far before marks = record { position = length before; weight = page_weight before; taken = chosen marks before }

-- what the owner holds then
abbrev pub held_so_far : List Entry → (owner : ℕ) → List SealedRecord → List Bool → List Event
held_so_far journal owner before marks = owned_then owner (own_events journal owner) (taken_so_far before marks)

-- what is known of the records before the next one without a journal
pub record Measured (before : List SealedRecord) (so_far : SoFar) : Type 0 where
  pub each : length so_far.marks.items ≡ length before
  pub short : length before ≤ most_page_records
  pub weight : so_far.weight ≡ page_weight before
  pub light : so_far.weight ≤ most_page_weight

-- they are taken, the marked ones were fresh, and this is what the owner holds then
pub record AreTaken (journal : List Entry) (owner : ℕ) (before : List SealedRecord) (so_far : SoFar) : Type 0 where
  pub taken : take_records owner (own_events journal owner) nothing_taken before ≡ Ok (taken_so_far before so_far.marks.items)
  pub totals : totals_seen so_far.totals ≡ held_of (held_so_far journal owner before so_far.marks.items)

-- behind so much of the page, for an owner that holds these then, a record that nobody holds is taken, with the totals of what the owner then holds; or refused
abbrev pub TakesFresh : Result Held PageRefusal → (held : List Event) (owner : ℕ) → PageTaken → SealedRecord → Type 0
TakesFresh (Ok totals) held owner so_far r = (take_next held so_far r ≡ Ok (taken_too so_far r)) × (totals_seen totals ≡ held_of (held ++ Taken owner r ∷ []))
TakesFresh (Err refusal) held owner so_far r = take_next held so_far r ≡ Err (refusal_seen refusal)

-- the next record is taken, with what the owner holds then; or is there already; or is refused
abbrev pub TakesRecord : Result (Option Held) PageRefusal → List Entry → (owner : ℕ) → List SealedRecord → List Bool → SealedRecord → Type 0
TakesRecord (Ok (Some totals)) journal owner before marks r =
    (take_record owner (own_events journal owner) (taken_so_far before marks) r ≡ Ok (taken_too (taken_so_far before marks) r)) × (totals_seen totals ≡ held_of (held_so_far journal owner before marks ++ Taken owner r ∷ []))
TakesRecord (Ok None) journal owner before marks r = take_record owner (own_events journal owner) (taken_so_far before marks) r ≡ Ok (passed_over (taken_so_far before marks) r)
TakesRecord (Err refusal) journal owner before marks r = take_record owner (own_events journal owner) (taken_so_far before marks) r ≡ Err (refusal_seen refusal)

-- with the next record
abbrev pub TakesNext : Result SoFar PageFail → List Entry → (owner : ℕ) → List SealedRecord → SealedRecord → Type 0
TakesNext (Ok so_far) journal owner before r = AreTaken journal owner (before ++ r ∷ []) so_far
TakesNext (Err (Refused refusal)) journal owner before r = take_records owner (own_events journal owner) nothing_taken (before ++ r ∷ []) ≡ Err (refusal_seen refusal)
TakesNext (Err NoMemory) journal owner before r = ⊤
