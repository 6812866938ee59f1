-- What a journal is made of, as numbers and lists of bytes. Hosts and ids are numbers below 2 ^ 128, a text is the list of its bytes.
use Rattle.std.specs.Prelude.{ℕ, ◌+◌, List, length, sum_by, Option}
use Rattle.definitions.specs.Journal.{StartedRecord}
use Rattle.definitions.specs.Limits.{fixed_weight}

-- a sealed record: the idx is its place in the chain of its host and tag, the timestamp is in nanoseconds since 1970
pub record SealedRecord : Type 0 where
  pub id : ℕ
  pub idx : ℕ
  pub host : ℕ
  pub host_name : List ℕ
  pub timestamp : ℕ
  pub version : List ℕ
  pub tag : List ℕ
  pub sealed : List ℕ
  pub wrapped : List ℕ

-- whose call an entry came by: the number of its pass, the number of the call in that pass, and the pass that a commit in doubt was settled for, or 0
pub record Caller : Type 0 where
  pub number : ℕ
  pub call : ℕ
  pub settled_for : ℕ

-- what an entry says: a command was started; this store made a record, which may close a started command's id; a record was taken in for an owner
pub data Event : Type 0 where
  Started : StartedRecord → Event
  Local : (closes : Option ℕ) → SealedRecord → Event
  Taken : (owner : ℕ) → SealedRecord → Event

-- one entry of a journal
pub record Entry : Type 0 where
  pub caller : Caller
  pub event : Event

-- what a record weighs, in bytes
abbrev pub record_weight : SealedRecord → ℕ
record_weight r = fixed_weight + length r.host_name + length r.version + length r.tag + length r.sealed + length r.wrapped

-- what the records of a page weigh together, in bytes
abbrev pub page_weight : List SealedRecord → ℕ
page_weight page = sum_by record_weight page

-- what a started command weighs, in bytes
abbrev pub started_weight : StartedRecord → ℕ
started_weight s = fixed_weight + length s.command + length s.cwd + length s.session + length s.hostname

-- what an entry's event weighs, in bytes
abbrev pub event_weight : Event → ℕ
event_weight (Started s) = started_weight s
event_weight (Local closes r) = record_weight r
event_weight (Taken owner r) = record_weight r
