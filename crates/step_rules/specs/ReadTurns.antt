-- What others than a session read of a store: an owner's status, a page of one of its chains, and how long the journal is.
use Rattle.std.specs.Prelude.{◌≡◌, ◌≢◌, ℕ, List, length}
use Rattle.record_rules.specs.Records.{SealedRecord, Entry}
use Rattle.record_rules.specs.Journal.{ChainCount, status}
use Rattle.record_rules.specs.Answers.{page}
use Rattle.step_rules.specs.PageTurns.{PageLeaves}

pub data StoreRead : Type 0 where
  status_read : (owner : ℕ) → StoreRead
  -- of the owner's chain of this host and tag, from `start`, at most `count` records
  page_read : (owner host : ℕ) (tag : List ℕ) (start count : ℕ) → StoreRead
  -- the number of entries of the journal
  front_read : StoreRead

pub data ReadAnswer : Type 0 where
  told_status : List ChainCount → ReadAnswer
  told_page : List SealedRecord → ReadAnswer
  told_front : ℕ → ReadAnswer
  read_faulted : ReadAnswer
  read_no_memory : ReadAnswer

-- At the journal with the commit in doubt the read may leave these and be answered so: from the journal alone, since a read doesn't
-- settle.
pub data ReadTurn (journal doubt : List Entry) (read : StoreRead) (after doubt_after : List Entry) (answer : ReadAnswer) : Type 0 where
  tells_status : (owner : ℕ) → read ≡ status_read owner → PageLeaves journal doubt after doubt_after → answer ≡ told_status (status journal owner) → ReadTurn journal doubt read after doubt_after answer
  tells_page : (owner host : ℕ) (tag : List ℕ) (start count : ℕ) → read ≡ page_read owner host tag start count → PageLeaves journal doubt after doubt_after
      → answer ≡ told_page (page journal owner host tag start count) → ReadTurn journal doubt read after doubt_after answer
  tells_front : read ≡ front_read → PageLeaves journal doubt after doubt_after → answer ≡ told_front (length journal) → ReadTurn journal doubt read after doubt_after answer
  -- the records of a page are read from the disk, which may fail
  faults_on_page : (owner host : ℕ) (tag : List ℕ) (start count : ℕ) → read ≡ page_read owner host tag start count → PageLeaves journal doubt after doubt_after → answer ≡ read_faulted
      → ReadTurn journal doubt read after doubt_after answer
  -- memory was wanting, of which the front takes none
  wants_memory : read ≢ front_read → PageLeaves journal doubt after doubt_after → answer ≡ read_no_memory → ReadTurn journal doubt read after doubt_after answer
