-- Which log a page of records can be read from, and what is read.
use Rattle.std.specs.Prelude.{◌≡◌, ℕ, List, slice_get, All, Option}
use Rattle.record_rules.specs.Records.{SealedRecord}
use Rattle.record_rules.specs.Journal.{chain}
use Rattle.record_rules.specs.Answers.{page}
use Rattle.at_edge.specs.Storing.{Tells, Rests}
use Rattle.record_log.specs.Journals.{LogSeen}
use Rattle.record_log.specs.Reading.{EventBefore}
use Rattle.chain_index.specs.Chains.{IndexSeen}
use Rattle.chain_index.specs.Meaning.{Filed, journal_of, IsIndexOf}

-- where the log's disk tells, each entry's event stands where the entry is said to stand
abbrev pub AllStand : LogSeen → List Filed → Type 0
AllStand log filed = All (λ f. Tells log.disk (λ d. EventBefore log.gate d.shows f.spot f.at f.entry.event)) filed

-- the index is of entries that stand there
pub record MayRead (log : LogSeen) (index : IndexSeen) : Type 0 where
  pub filed : List Filed
  pub is : IsIndexOf index filed
  pub stand : AllStand log filed

-- where the log's disk tells, it holds of the journal of whatever such entries the index is of
abbrev pub OfLog : LogSeen → IndexSeen → (List Filed → Type 0) → Type 0
OfLog log index holds = (filed : List Filed) → IsIndexOf index filed → AllStand log filed → Tells log.disk (λ _. holds filed)

-- these records are the page of the chain
abbrev pub IsPage : (owner host : ℕ) → List ℕ → (start count : ℕ) → List SealedRecord → List Filed → Type 0
IsPage owner host tag start count records filed = records ≡ page (journal_of filed) owner host tag start count

-- this is the chain's record at that idx
abbrev pub IsRecordAt : (owner host : ℕ) → List ℕ → (idx : ℕ) → Option SealedRecord → List Filed → Type 0
IsRecordAt owner host tag idx found filed = found ≡ slice_get (chain (journal_of filed) owner host tag) idx

-- the log is as before, but for its disk's count of faults, which doesn't fall
pub record LogRests (old new : LogSeen) : Type 0 where
  pub disk : Rests old.disk new.disk
  pub host : new.host ≡ old.host
  pub gate : new.gate ≡ old.gate
  pub doubt : new.doubt ≡ old.doubt
